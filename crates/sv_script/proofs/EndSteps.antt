-- Words, ends and lists of the grammar are read.
use Rattle.std.proofs.Common.{◌≡◌, ◌≢◌, ◌≤◌, inl, ℕ, zero, suc, ◌+◌, List, [], ◌∷◌, ◌++◌, refl, ap, arith}
use Rattle.std.proofs.lemmas.Slice.Eq.{bytes_eq-Decides}
use Rattle.std.specs.Prelude.{Bool, true, false, Ok}
use Rattle.std.specs.Str.{bytes_eq}
use Rattle.sv_ast.specs.declared.refusals.Refused.{Refused}
use Rattle.sv_lex.specs.declared.lexeme.Lexeme.{Lexeme}
use Rattle.sv_lex.specs.declared.lexeme.Lexeme.TheVariants as k
use Rattle.sv_lex.specs.Reader.{Input, Parser, ending, end_by, spelling, sees, next, left}
use Rattle.sv_lex.proofs.Ends.{Ends, ends_then}
use Rattle.sv_lex.proofs.Progress.{next-le}
use Rattle.sv_lex.proofs.Sees.{sees_yes, sees_no, after_yes, after_no}
use Rattle.sv_expr.proofs.EndLists.{joined}
use Rattle.sv_expr.proofs.SoundLists.{append_none}
use Rattle.sv_script.specs.Grammar as g
use Rattle.sv_script.specs.Lists.{separated, separated_from, upto, upto_from}
use Rattle.sv_script.specs.Rules.{word_as}

-- ---- words and ends

pub spelled : (z text : List ℕ) → z ≡ text → bytes_eq z text ≡ true
spelled z text h = (bytes_eq-Decides z text).1 h

pub misspelled : (z text : List ℕ) → z ≢ text → bytes_eq z text ≡ false
misspelled z text n = by (bytes_eq z text) refl
  where
    by : (b : Bool) → bytes_eq z text ≡ b → b ≡ false
    by true e = absurd (n ((bytes_eq-Decides z text).0 e))
    by false e = refl

pub word_yes : (text : List ℕ) (i : Input) → spelling i ≡ text → word_as text i ≡ Ok (tt, next i)
unfolding word_as
word_yes text i h = rw (spelled (spelling i) text h) refl

pub ending_yes : {i o : Input} → g.End i o → ending i ≡ Ok (tt, o)
unfolding ending
ending_yes (g.end_sign h) = rw h refl
ending_yes (g.end_brace h) = rw h refl
ending_yes (g.end_text h) = rw h refl
ending_yes (g.end_line {i = i} n l) = by (sees i) n
  where
    by : (x : Lexeme) → x ≢ k.Semi → end_by x i ≡ Ok (tt, i)
    by k.Semi n = absurd (n refl)
    by k.RBrace n = refl
    by k.End n = refl
    by _ n = rw l refl

-- ---- items with commas between them, and items up to a token

module _ (P : Refused → Type 0) {A : Type 0} (item : Parser A) where
  separated_last_ends : (n : ℕ) (found : List A) (i o : Input) (x : A) → left i ≤ n → left o + 1 ≤ left i → Ends P (item i) (x, o) → sees o ≢ k.Comma
      → Ends P (separated_from item n found i) (found ++ x ∷ [], o)
  unfolding separated_from
  separated_last_ends zero found i o x le less hx c = absurd (omega (arith, le, less))
  separated_last_ends (suc n) found i o x le less hx c = ends_then P _ _ hx (rw (sees_no k.Comma o c, after_no k.Comma o c) (inl refl))

  separated_more_ends : (n : ℕ) (found : List A) (i j o : Input) (x : A) (xs : List A) → left i ≤ n → left j + 1 ≤ left i → Ends P (item i) (x, j) → sees j ≡ k.Comma
      → ((m : ℕ) → left (next j) ≤ m → Ends P (separated_from item m (found ++ x ∷ []) (next j)) ((found ++ x ∷ []) ++ xs, o))
      → Ends P (separated_from item n found i) (found ++ x ∷ xs, o)
  unfolding separated_from
  separated_more_ends zero found i j o x xs le less hx c rest = absurd (omega (arith, le, less))
  separated_more_ends (suc n) found i j o x xs le less hx c rest =
      let behind = next-le j in
      joined P found x xs (ends_then P _ _ hx (rw (sees_yes k.Comma j c, after_yes k.Comma j c) (rest n (omega (arith, le, less, behind)))))

  pub none_ends : (last : Lexeme) (n : ℕ) (found : List A) (i : Input) → sees i ≡ last → Ends P (upto_from item last n found i) (found ++ [], i)
  unfolding upto_from
  none_ends last zero found i h = rw (sees_yes last i h) (inl (ap (λ all. Ok (all, i)) (append_none found)))
  none_ends last (suc n) found i h = rw (sees_yes last i h) (inl (ap (λ all. Ok (all, i)) (append_none found)))

  pub more_ends : (last : Lexeme) (n : ℕ) (found : List A) (i j o : Input) (x : A) (xs : List A) → left i ≤ n → left j + 1 ≤ left i → sees i ≢ last → Ends P (item i) (x, j)
      → ((m : ℕ) → left j ≤ m → Ends P (upto_from item last m (found ++ x ∷ []) j) ((found ++ x ∷ []) ++ xs, o))
      → Ends P (upto_from item last n found i) (found ++ x ∷ xs, o)
  unfolding upto_from
  more_ends last zero found i j o x xs le less h hx rest = absurd (omega (arith, le, less))
  more_ends last (suc n) found i j o x xs le less h hx rest =
      joined P found x xs (rw (sees_no last i h) (ends_then P _ _ hx (rest n (omega (arith, le, less)))))

  pub from_ends : (last : Lexeme) (i o : Input) (xs : List A) → Ends P (upto_from item last (left i) [] i) (xs, o) → Ends P (upto item last i) (xs, o)
  unfolding upto
  from_ends last i o xs h = h

  module _ (One : Input → A → Input → Type 0) (ends : (i o : Input) (x : A) → One i x o → Ends P (item i) (x, o))
      (less : (i o : Input) (x : A) → One i x o → left o + 1 ≤ left i) where
    several_end : {i o : Input} {xs : List A} → g.Several One i xs o → (n : ℕ) (found : List A) → left i ≤ n → Ends P (separated_from item n found i) (found ++ xs, o)
    several_end (g.several_last {i = i} {o = o} h c) n found le = separated_last_ends n found i o _ le (less i o _ h) (ends i o _ h) c
    several_end (g.several_more {i = i} {j = j} {o = o} h c rest) n found le =
        separated_more_ends n found i j o _ _ le (less i j _ h) (ends i j _ h) c (λ m le. several_end rest m _ le)

    pub separated_ends : {i o : Input} {xs : List A} → g.Several One i xs o → Ends P (separated item i) (xs, o)
    unfolding separated
    separated_ends {i = i} h = several_end h (left i) [] (omega arith)

    from_end : (last : Lexeme) {i o : Input} {xs : List A} → g.Upto One last i xs o → (n : ℕ) (found : List A) → left i ≤ n → Ends P (upto_from item last n found i) (found ++ xs, o)
    from_end last (g.upto_none {i = i} h) n found le = none_ends last n found i h
    from_end last (g.upto_more {i = i} {j = j} {o = o} h x rest) n found le =
        more_ends last n found i j o _ _ le (less i j _ x) h (ends i j _ x) (λ m le. from_end last rest m _ le)

    pub upto_ends : (last : Lexeme) {i o : Input} {xs : List A} → g.Upto One last i xs o → Ends P (upto item last i) (xs, o)
    upto_ends last {i = i} {o = o} h = from_ends last i o _ (from_end last h (left i) [] (omega arith))
