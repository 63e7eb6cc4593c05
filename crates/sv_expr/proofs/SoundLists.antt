-- Lists of items that are read are lists of the grammar.
use Rattle.std.proofs.Common.{◌≡◌, ◌≤◌, ℕ, zero, suc, Bool, true, List, [], ◌∷◌, ◌++◌, refl, ap, sym, ◌∙◌, subst, arith, append_assoc}
use Rattle.std.proofs.lemmas.Grind.{common_steps}
use Rattle.std.specs.Prelude.{nat_le, if◌then◌else◌, Ok, Err}
use Rattle.sv_ast.specs.declared.names.Named.{Named}
use Rattle.sv_lex.specs.declared.lexeme.Lexeme.{Lexeme}
use Rattle.sv_lex.specs.declared.lexeme.Lexeme.TheVariants as k
use Rattle.sv_lex.specs.Reader.{Input, Outcome, Parser, ◌>>=◌, ◌>>◌, pure, expect, eat, sees, next, left, name}
use Rattle.sv_lex.proofs.Steps.{Holds, holds_then, holds_weaker, holds_expect, holds_eat}
use Rattle.sv_expr.specs.Grammar as g
use Rattle.sv_expr.specs.Lists.{listed, listed_from, parameters}
use Rattle.sv_expr.proofs.Words.{name_sees}

-- an answer is what is answered
pub holds_self : {A : Type 0} (r : Outcome A) → Holds (λ a o. r ≡ Ok (a, o)) r
holds_self (Ok p) = refl
holds_self (Err e) = tt

pub leb_true : (a b : ℕ) → nat_le a b ≡ true → a ≤ b
leb_true a b h = grind (arith, common_steps)

pub append_one : {A : Type 0} (found : List A) (x : A) (xs all : List A) → all ≡ (found ++ x ∷ []) ++ xs → all ≡ found ++ x ∷ xs
append_one found x xs all e = e ∙ append_assoc found (x ∷ []) xs

pub append_none : {A : Type 0} (found : List A) → found ≡ found ++ []
append_none [] = refl
append_none (x ∷ xs) = ap (λ ys. x ∷ ys) (append_none xs)

-- the three ways that a list goes on
pub record IsList {A : Type 0} (close : Lexeme) (One : Input → A → Input → Type 0) (Many : Input → List A → Input → Type 0) : Type 0 where
  pub ends : (i : Input) → sees i ≡ close → Many i [] (next i)
  pub last : (i j : Input) (x : A) → One i x j → sees j ≡ close → Many i (x ∷ []) (next j)
  pub more : (i j o : Input) (x : A) (xs : List A) → One i x j → sees j ≡ k.Comma → Many (next j) xs o → Many i (x ∷ xs) o

-- the same as the reader has it
abbrev after_item : {A : Type 0} → Lexeme → (List A → Parser (List A)) → List A → Bool → Parser (List A)
after_item close more all is_more = if is_more then more all else (expect close >> pure all)

abbrev turn : {A : Type 0} → Parser A → Lexeme → (List A → Parser (List A)) → List A → Bool → Parser (List A)
turn item close more found is_end = if is_end then pure found else (item >>= (λ x. eat k.Comma >>= after_item close more (found ++ x ∷ [])))

module _ {A : Type 0} (item : Parser A) (close : Lexeme) (One : Input → A → Input → Type 0) (Many : Input → List A → Input → Type 0)
    (is : IsList close One Many) (holds : (i : Input) → Holds (One i) (item i)) where
  abbrev More : List A → Input → List A → Input → Type 0
  More found i all o = (xs : List A) × (all ≡ found ++ xs) × Many i xs o

  from_holds : (n : ℕ) (found : List A) (i : Input) → Holds (More found i) (listed_from item close n found i)
  unfolding listed_from
  from_holds zero found i = tt
  from_holds (suc n) found i =
      let Q = More found i in
      holds_eat Q close i (turn item close (listed_from item close n) found)
      (λ h. ([], append_none found, is.ends i h))
      (λ _. holds_then (One i) Q (item i) _ (holds i) (λ x j hx. holds_eat Q k.Comma j (after_item close (listed_from item close n) (found ++ x ∷ []))
      (λ c. holds_weaker (More (found ++ x ∷ []) (next j)) Q _
      (λ all o m. (x ∷ m.0, append_one found x m.0 all m.1, is.more i j o x m.0 hx c m.2)) (from_holds n (found ++ x ∷ []) (next j)))
      (λ _. holds_expect Q close j _ (λ c. (x ∷ [], refl, is.last i j x hx c)))))

  pub listed_holds : (i : Input) → Holds (Many i) (listed item close i)
  unfolding listed
  listed_holds i = holds_weaker (More [] i) (Many i) _ (λ all o m. subst (λ xs. Many i xs o) (sym m.1) m.2) (from_holds (left i) [] i)

-- ---- parameters

abbrev IsName : Input → Named → Input → Type 0
IsName i found o = (sees i ≡ k.Name) × (name i ≡ Ok (found, o))

name_holds : (i : Input) → Holds (IsName i) (name i)
name_holds i = holds_weaker (λ found o. name i ≡ Ok (found, o)) (IsName i) (name i) (λ found o e. (name_sees i o found e, e)) (holds_self (name i))

names : IsList k.RParen IsName g.Names
names = record {
  ends = λ i h. g.names_end h;
  last = λ i j x p h. g.names_last p.0 p.1 h;
  more = λ i j o x xs p h rest. g.names_more p.0 p.1 h rest;
}

pub parameters_holds : (i : Input) → Holds (g.Params i) (parameters i)
unfolding parameters
parameters_holds i =
    holds_eat (g.Params i) k.LParen i (λ is_list. if is_list then listed name k.RParen else (name >>= (λ x. pure (x ∷ []))))
    (λ h. holds_weaker (g.Names (next i)) (g.Params i) _ (λ xs o m. g.several h m) (listed_holds name k.RParen IsName g.Names names name_holds (next i)))
    (λ _. holds_then (IsName i) (g.Params i) (name i) (λ x. pure (x ∷ [])) (name_holds i) (λ x o p. g.one p.0 p.1))
