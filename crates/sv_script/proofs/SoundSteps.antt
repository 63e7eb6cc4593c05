-- Lists, ends and words that are read are in the grammar.
use Rattle.std.proofs.Common.{◌≡◌, ◌≢◌, ◌⊎◌, inl, inr, ℕ, zero, suc, Bool, true, false, ◌&&◌, List, [], ◌∷◌, ◌++◌, refl, sym, ◌∙◌, subst}
use Rattle.std.proofs.lemmas.Slice.Eq.{bytes_eq-Decides}
use Rattle.std.specs.Prelude.{if◌then◌else◌, Ok}
use Rattle.std.specs.Str.{bytes_eq}
use Rattle.sv_ast.specs.declared.names.Named.{Named}
use Rattle.sv_lex.specs.declared.lexeme.Lexeme.{Lexeme}
use Rattle.sv_lex.specs.declared.lexeme.Lexeme.TheVariants as k
use Rattle.sv_lex.specs.Look.{same_lexeme}
use Rattle.sv_lex.specs.Reader.{Input, Parser, and_then, pure, ending, end_by, is_later, sees, sees_one, next, left, spelling, name}
use Rattle.sv_lex.proofs.Sees.{same, other, seen, unseen}
use Rattle.sv_lex.proofs.Steps.{Holds, holds_then, holds_weaker, holds_if, holds_test, holds_eat}
use Rattle.sv_expr.proofs.SoundLists.{holds_self, append_one, append_none}
use Rattle.sv_expr.proofs.Words.{name_sees}
use Rattle.sv_script.specs.Grammar as g
use Rattle.sv_script.specs.Lists.{separated, separated_from, upto, upto_from}
use Rattle.sv_script.specs.Rules.{word_as}

-- ---- tests

pub both : (a b : Bool) → (a && b) ≡ true → (a ≡ true) × (b ≡ true)
both true b h = (refl, h)
both false b h = let no : true ≡ false = sym h in absurd (cc)

pub neither : (a b : Bool) → (a && b) ≡ false → (a ≡ false) ⊎ (b ≡ false)
neither true b h = inr h
neither false b h = inl refl

pub written : (z text : List ℕ) → bytes_eq z text ≡ true → z ≡ text
written z text h = (bytes_eq-Decides z text).0 h

pub unwritten : (z text : List ℕ) → bytes_eq z text ≡ false → z ≢ text
unwritten z text h e = let yes : bytes_eq z text ≡ true = (bytes_eq-Decides z text).1 e in let no : true ≡ false = sym yes ∙ h in absurd (cc)

-- ---- words, names and ends

pub holds_word : {B : Type 0} (Q : B → Input → Type 0) (text : List ℕ) (i : Input) (f : Unit {0} → Parser B)
    → (spelling i ≡ text → Holds Q (f tt (next i))) → Holds Q (and_then (word_as text i) f)
unfolding word_as
holds_word Q text i f h = holds_test Q (bytes_eq (spelling i) text) _ _ f (λ e. h (written (spelling i) text e)) (λ e. tt)

pub name_holds : (i : Input) → Holds (g.IsName i) (name i)
name_holds i = holds_weaker (λ found o. name i ≡ Ok (found, o)) (g.IsName i) (name i) (λ found o e. record { is = name_sees i o found e; gives = e }) (holds_self (name i))

pub holds_name : {B : Type 0} (Q : B → Input → Type 0) (i : Input) (f : Named → Parser B)
    → ((found : Named) (j : Input) → g.IsName i found j → Holds Q (f found j)) → Holds Q (and_then (name i) f)
holds_name Q i f h = holds_then (g.IsName i) Q (name i) f (name_holds i) h

abbrev pub IsEnd : Input → Unit {0} → Input → Type 0
IsEnd i u o = g.End i o

pub ending_holds : (i : Input) → Holds (IsEnd i) (ending i)
unfolding ending
ending_holds i = by (same_lexeme (sees i) k.Semi) refl
  where
    rest : (l : Lexeme) → sees i ≡ l → l ≢ k.Semi → Holds (IsEnd i) (end_by l i)
    rest k.Semi e n = absurd (n refl)
    rest k.RBrace e n = g.end_brace e
    rest k.End e n = g.end_text e
    rest _ e n = holds_if (IsEnd i) (is_later i) _ _ (λ l. g.end_line (λ s. n (sym e ∙ s)) l) (λ l. tt)

    by : (b : Bool) → same_lexeme (sees i) k.Semi ≡ b → Holds (IsEnd i) (end_by (sees i) i)
    by true s = let e = same (sees i) k.Semi s in subst (λ l. Holds (IsEnd i) (end_by l i)) (sym e) (g.end_sign e)
    by false s = rest (sees i) refl (other (sees i) k.Semi s)

pub holds_ending : {B : Type 0} (Q : B → Input → Type 0) (i : Input) (f : Unit {0} → Parser B)
    → ((o : Input) → g.End i o → Holds Q (f tt o)) → Holds Q (and_then (ending i) f)
holds_ending Q i f h = holds_then (IsEnd i) Q (ending i) f (ending_holds i) (λ u o e. h o e)

-- ---- lists

module _ {A : Type 0} (item : Parser A) (One : Input → A → Input → Type 0) (holds : (i : Input) → Holds (One i) (item i)) where
  abbrev More : List A → Input → List A → Input → Type 0
  More found i all o = (xs : List A) × (all ≡ found ++ xs) × g.Several One i xs o

  separated_from_holds : (n : ℕ) (found : List A) (i : Input) → Holds (More found i) (separated_from item n found i)
  unfolding separated_from
  separated_from_holds zero found i = tt
  separated_from_holds (suc n) found i =
      let Q = More found i in
      holds_then (One i) Q (item i) _ (holds i) (λ x j hx. holds_eat Q k.Comma j
      (λ is_more. if is_more then separated_from item n (found ++ x ∷ []) else pure (found ++ x ∷ []))
      (λ c. holds_weaker (More (found ++ x ∷ []) (next j)) Q _
      (λ all o m. (x ∷ m.0, append_one found x m.0 all m.1, g.several_more hx c m.2)) (separated_from_holds n (found ++ x ∷ []) (next j)))
      (λ c. (x ∷ [], refl, g.several_last hx c)))

  pub separated_holds : (i : Input) → Holds (g.Several One i) (separated item i)
  unfolding separated
  separated_holds i =
      holds_weaker (More [] i) (g.Several One i) _ (λ all o m. subst (λ xs. g.Several One i xs o) (sym m.1) m.2) (separated_from_holds (left i) [] i)

-- the two ways that items up to a token go on
pub record IsUpto {A : Type 0} (last : Lexeme) (One : Input → A → Input → Type 0) (Many : Input → List A → Input → Type 0) : Type 0 where
  pub none : (i : Input) → sees i ≡ last → Many i [] i
  pub more : (i j o : Input) (x : A) (xs : List A) → sees i ≢ last → One i x j → Many j xs o → Many i (x ∷ xs) o

-- with the token that stays
module _ {A : Type 0} (item : Parser A) (last : Lexeme) (One : Input → A → Input → Type 0) (Many : Input → List A → Input → Type 0)
    (is : IsUpto last One Many) (holds : (i : Input) → Holds (One i) (item i)) where
  abbrev Rest : List A → Input → List A → Input → Type 0
  Rest found i all o = (xs : List A) × (all ≡ found ++ xs) × Many i xs o

  upto_from_holds : (n : ℕ) (found : List A) (i : Input) → Holds (Rest found i) (upto_from item last n found i)
  unfolding upto_from
  upto_from_holds zero found i =
      holds_if (Rest found i) (sees_one last i) _ _ (λ e. ([], append_none found, is.none i (seen last i e))) (λ e. tt)
  upto_from_holds (suc n) found i =
      let Q = Rest found i in
      holds_if Q (sees_one last i) _ _ (λ e. ([], append_none found, is.none i (seen last i e)))
      (λ e. holds_then (One i) Q (item i) _ (holds i) (λ x j hx. holds_weaker (Rest (found ++ x ∷ []) j) Q _
      (λ all o m. (x ∷ m.0, append_one found x m.0 all m.1, is.more i j o x m.0 (unseen last i e) hx m.2)) (upto_from_holds n (found ++ x ∷ []) j)))

  pub upto_holds : (i : Input) → Holds (Many i) (upto item last i)
  unfolding upto
  upto_holds i = holds_weaker (Rest [] i) (Many i) _ (λ all o m. subst (λ xs. Many i xs o) (sym m.1) m.2) (upto_from_holds (left i) [] i)
