-- Items one behind another tell, as each of them does.
use Rattle.std.proofs.Common.{◌≤◌, ℕ, zero, suc, List, [], ◌∷◌, ◌++◌, arith}
use Rattle.sv_ast.specs.declared.refusals.Refused.{Refused}
use Rattle.sv_lex.specs.declared.lexeme.Lexeme.{Lexeme}
use Rattle.sv_lex.specs.declared.lexeme.Lexeme.TheVariants as k
use Rattle.sv_lex.specs.Reader.{Input, Parser, sees_one, after, left}
use Rattle.sv_script.specs.Lists.{separated, separated_from, upto, upto_from}
use Rattle.sv_blame.proofs.Frame.{Any, Tells, IsFrame, stay, after_beyond, tells_from, tells_then, tells_choice, tells_if, goes, goes_on, stops}

module _ {At : Input → Type 0} {Bad : Refused → Type 0} {Room Tight Links : ℕ → ℕ → Type 0} {most widest : ℕ} (f : IsFrame At Bad Room Tight Links most widest)
    {A : Type 0} (item : Parser A) (P : ℕ → Type 0) (up : (p q : ℕ) → p ≤ q → P p → P q) (one : (i : Input) → At i → P i.at → Tells At Bad Any i (item i)) where
  separated_from_tells : (n : ℕ) (found : List A) (i : Input) → At i → P i.at → Tells At Bad Any i (separated_from item n found i)
  unfolding separated_from
  separated_from_tells zero found i at p = stops (f.syntax i at)
  separated_from_tells (suc n) found i at p =
      tells_then Any Any (item i) _ (one i at p)
      (λ x j s le q. (
      let c = after_beyond f k.Comma j s in
      let low = c.low in
      tells_choice Any (sees_one k.Comma j) _ _ (after k.Comma j)
      (λ e. tells_from Any (separated_from item n (found ++ x ∷ []) (after k.Comma j)) (omega arith)
      (separated_from_tells n (found ++ x ∷ []) (after k.Comma j) c.stands (up i.at (after k.Comma j).at (omega arith) p)))
      (λ e. goes c.stands (omega arith) tt)))

  pub separated_tells : (i : Input) → At i → P i.at → Tells At Bad Any i (separated item i)
  unfolding separated
  separated_tells i at p = separated_from_tells (left i) [] i at p

  upto_from_tells : (last : Lexeme) (n : ℕ) (found : List A) (i : Input) → At i → P i.at → Tells At Bad Any i (upto_from item last n found i)
  unfolding upto_from
  upto_from_tells last zero found i at p = tells_if Any (sees_one last i) _ _ (λ e. goes_on (stay i at) tt) (λ e. stops (f.syntax i at))
  upto_from_tells last (suc n) found i at p =
      tells_if Any (sees_one last i) _ _ (λ e. goes_on (stay i at) tt)
      (λ e. tells_then Any Any (item i) _ (one i at p)
      (λ x j s le q. tells_from Any (upto_from item last n (found ++ x ∷ []) j) le (upto_from_tells last n (found ++ x ∷ []) j s (up i.at j.at le p))))

  pub upto_tells : (last : Lexeme) (i : Input) → At i → P i.at → Tells At Bad Any i (upto item last i)
  unfolding upto
  upto_tells last i at p = upto_from_tells last (left i) [] i at p
