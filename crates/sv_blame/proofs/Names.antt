-- What is read of names, words and lists goes on in the text, or is refused where it stands.
use Rattle.std.proofs.Common.{◌≤◌, ℕ, zero, suc, Bool, true, false, cond, List, [], ◌∷◌, ◌++◌, length, arith}
use Rattle.std.specs.Prelude.{◌==◌}
use Rattle.sv_ast.specs.declared.refusals.Refused.{Refused}
use Rattle.sv_lex.specs.declared.lexeme.Lexeme.{Lexeme}
use Rattle.sv_lex.specs.declared.lexeme.Lexeme.TheVariants as k
use Rattle.sv_lex.specs.Reader.{Input, Parser, and_then, ◌>>=◌, pure, expect, sees, sees_one, after, next, name, name_text, word, word_of, word_text, store_name, left}
use Rattle.sv_expr.specs.Lists.{listed, listed_from, parameters}
use Rattle.sv_expr.specs.Rules.{target, target_by}
use Rattle.sv_blame.proofs.Frame.{Any, Tells, IsFrame, next-up, stay, after_beyond, expect_tells, tells_from, tells_then, tells_choice, tells_if, goes, goes_on, stops}

module _ {At : Input → Type 0} {Bad : Refused → Type 0} {Room Tight Links : ℕ → ℕ → Type 0} {most widest : ℕ} (f : IsFrame At Bad Room Tight Links most widest) where
  pub word_of_tells : (text : List ℕ) (i : Input) → At i → Tells At Bad Any (next i) (word_of text i)
  unfolding word_of
  word_of_tells text i at = tells_if Any (length text == 0) _ _ (λ e. stops (f.syntax i at)) (λ e. goes (f.knows text (next i) (f.steps i at)) (omega arith) tt)

  pub word_tells : (i : Input) → At i → Tells At Bad Any (next i) (word i)
  unfolding word
  word_tells i at = word_of_tells _ i at

  pub name_tells : (i : Input) → At i → Tells At Bad Any (next i) (name i)
  unfolding name
  name_tells i at = tells_if Any (sees_one k.Name i) _ _ (λ e. word_tells i at) (λ e. stops (f.syntax i at))

  pub store_tells : (i : Input) → At i → Tells At Bad Any (next i) (store_name i)
  unfolding store_name
  store_tells i at = word_of_tells _ i at

  pub word_text_tells : (i : Input) → At i → Tells At Bad Any i (word_text i)
  unfolding word_text
  word_text_tells i at = tells_if Any (length (name_text _) == 0) _ _ (λ e. stops (f.syntax i at)) (λ e. goes_on (stay i at) tt)

  pub target_tells : (i : Input) → At i → Tells At Bad Any (next i) (target i)
  unfolding target
  target_tells i at = by (sees i)
    where
      by : (l : Lexeme) → Tells At Bad Any (next i) (target_by l i)
      by k.Store = tells_then Any Any (store_name i) _ (store_tells i at) (λ x j s le q. goes s le tt)
      by _ = tells_then Any Any (name i) _ (name_tells i at) (λ x j s le q. goes s le tt)

  -- ---- lists

  module _ {A : Type 0} (item : Parser A) (close : Lexeme) (P : ℕ → Type 0) (up : (p q : ℕ) → p ≤ q → P p → P q)
      (one : (i : Input) → At i → P i.at → Tells At Bad Any i (item i)) where
    from_tells : (n : ℕ) (found : List A) (i : Input) → At i → P i.at → Tells At Bad Any i (listed_from item close n found i)
    unfolding listed_from
    from_tells zero found i at p = stops (f.syntax i at)
    from_tells (suc n) found i at p =
        let b = after_beyond f close i at in
        let le = b.low in
        tells_choice Any (sees_one close i) _ _ (after close i) (λ e. goes_on b tt)
        (λ e. tells_then Any Any (item (after close i)) _ (tells_from Any (item (after close i)) le (one (after close i) b.stands (up _ _ le p)))
        (λ x j s le q. (
        let c = after_beyond f k.Comma j s in
        let low = c.low in
        tells_choice Any (sees_one k.Comma j) _ _ (after k.Comma j)
        (λ e. tells_from Any (listed_from item close n (found ++ x ∷ []) (after k.Comma j)) (omega arith)
        (from_tells n (found ++ x ∷ []) (after k.Comma j) c.stands (up i.at (after k.Comma j).at (omega arith) p)))
        (λ e. tells_then Any Any (expect close (after k.Comma j)) _ (expect_tells f i close (after k.Comma j) c.stands (omega arith)) (λ u o s le q. goes s le tt)))))

    pub listed_tells : (i : Input) → At i → P i.at → Tells At Bad Any i (listed item close i)
    unfolding listed
    listed_tells i at p = from_tells (left i) [] i at p

  pub parameters_tells : (i : Input) → At i → Tells At Bad Any (next i) (parameters i)
  unfolding parameters after
  parameters_tells i at = by (sees_one k.LParen i)
    where
      names : Tells At Bad Any (next i) (listed name k.RParen (next i))
      names = listed_tells name k.RParen (λ p. Unit {0}) (λ p q le u. tt) (λ j s u. tells_from Any (name j) (next-up j) (name_tells j s)) (next i) (f.steps i at) tt

      one : Tells At Bad Any (next i) (and_then (name i) (λ found. pure (found ∷ [])))
      one = tells_then Any Any (name i) (λ found. pure (found ∷ [])) (name_tells i at) (λ x j s le q. goes s le tt)

      by : (b : Bool) → Tells At Bad Any (next i) (cond b (listed name k.RParen) (name >>= (λ found. pure (found ∷ []))) (cond b (next i) i))
      by true = names
      by false = one
