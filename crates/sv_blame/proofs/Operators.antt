-- Expressions tell: operators between operands.
use Rattle.std.proofs.Common.{◌≡◌, ◌≤◌, ℕ, zero, suc, Bool, true, false, cond, List, [], ◌∷◌, ◌++◌, refl, ap, subst, arith}
use Rattle.std.specs.Prelude.{◌==◌, Option, Some, None}
use Rattle.sv_ast.specs.declared.operators.Op.{Op}
use Rattle.sv_ast.specs.declared.operators.Op.TheVariants as op
use Rattle.sv_ast.specs.declared.refusals.Refused.{Refused}
use Rattle.sv_ast.specs.declared.script_tree.Expr.{Expr}
use Rattle.sv_ast.specs.declared.script_tree.Link.{Link}
use Rattle.sv_lex.specs.declared.lexeme.Lexeme.{Lexeme}
use Rattle.sv_lex.specs.declared.lexeme.Lexeme.TheVariants as k
use Rattle.sv_lex.specs.Look.{same_lexeme}
use Rattle.sv_lex.specs.Reader.{Input, Outcome, Parser, sees, next, start, span_from}
use Rattle.sv_expr.specs.declared.quotients.Left.{Left}
use Rattle.sv_expr.specs.declared.quotients.Left.TheVariants as left
use Rattle.sv_expr.specs.Limits.{Limits}
use Rattle.sv_expr.specs.Nodes.{chain, link}
use Rattle.sv_expr.specs.Operators.{operator, group, in_group, operator_in}
use Rattle.sv_expr.specs.Quotients.{divides, is_quotient_left, left_of, left_by, fits}
use Rattle.sv_expr.specs.Rules as r
use Rattle.sv_expr.specs.Rules.{Readers, prefix, links, unmixed, extended, binary, nullish, either, logical}
use Rattle.sv_blame.proofs.Frame.{is_sign, Any, Tells, IsFrame, next-up, tells_from, tells_then, tells_choice, goes, stops, Since, since_on, since_start}
use Rattle.sv_blame.proofs.Leaves.{Fine, Reads}
use Rattle.sv_blame.proofs.Suffixes.{prefix_tells}

-- every operator but `/` is a sign
in_some : (n : ℕ) (a b : Op) → in_group n (Some a) ≡ Some b → a ≡ b
in_some n a b h = by (group a == n) h
  where
    by : (t : Bool) → cond t (Some a) None ≡ Some b → a ≡ b
    by true h = cc
    by false h = absurd (cc)

sign_by : (n : ℕ) (l : Lexeme) (x : Op) → in_group n (operator l) ≡ Some x → divides x ≡ false → is_sign l ≡ true
sign_by n k.Nullish x h q = refl
sign_by n k.OrOr x h q = refl
sign_by n k.AndAnd x h q = refl
sign_by n k.Same x h q = refl
sign_by n k.NotSame x h q = refl
sign_by n k.EqualEqual x h q = refl
sign_by n k.BangEqual x h q = refl
sign_by n k.Less x h q = refl
sign_by n k.LessEqual x h q = refl
sign_by n k.More x h q = refl
sign_by n k.MoreEqual x h q = refl
sign_by n k.Plus x h q = refl
sign_by n k.Minus x h q = refl
sign_by n k.Star x h q = refl
sign_by n k.Percent x h q = refl
sign_by n k.Slash x h q = let same = ap divides (in_some n op.Div x h) in absurd (cc)
sign_by n _ x h q = absurd (cc)

operator_sign : (n : ℕ) (i : Input) (x : Op) → operator_in n (sees i) ≡ Some x → divides x ≡ false → is_sign (sees i) ≡ true
unfolding operator_in
operator_sign n i x h q = sign_by n (sees i) x h q

apart : (l : Left) (x : Op) (right : Expr) → fits l x right ≡ true → is_quotient_left l ≡ false
apart left.Quotient x right h = absurd (cc)
apart left.Null x right h = refl
apart left.Other x right h = refl

module _ {At : Input → Type 0} {Bad : Refused → Type 0} {Room Tight Links : ℕ → ℕ → Type 0} (limits : Limits)
    (f : IsFrame At Bad Room Tight Links limits.links limits.number) (d : ℕ) (below : Readers) (reads : Reads At Bad Room Tight d below) where
  abbrev Good : Input → Outcome Expr → Type 0
  Good = Tells At Bad (Fine Bad)

  -- so many links may still come, where a quotient was not counted
  abbrev Owed : Left → ℕ → ℕ → Type 0
  Owed l n p = Links (cond (is_quotient_left l) (suc n) n) p

  owed_one : (l : Left) (p : ℕ) → Owed l 0 p → Links 1 p
  owed_one l p = by (is_quotient_left l)
    where
      by : (t : Bool) → Links (cond t 1 0) p → Links 1 p
      by true h = h
      by false h = f.more 0 p h

  owed_apart : (l : Left) (n p : ℕ) → is_quotient_left l ≡ false → Owed l n p → Links n p
  owed_apart l n p e h = subst (λ t. Links (cond t (suc n) n) p) e h

  owed_first : (l : Left) (p : ℕ) → Owed l limits.links p
  owed_first l p = by (is_quotient_left l)
    where
      by : (t : Bool) → Links (cond t (suc limits.links) limits.links) p
      by true = f.more limits.links p (f.begun p)
      by false = f.begun p

  -- behind an operator
  owed_next : (x : Op) (n : ℕ) (i j : Input) → At i → Links (suc n) i.at → (next i).at ≤ j.at → (divides x ≡ false → is_sign (sees i) ≡ true) → Owed (left_by x) n j.at
  owed_next x n i j at links le sign = by (divides x) refl
    where
      up : i.at ≤ j.at
      up = let low = next-up i in omega arith

      by : (t : Bool) → divides x ≡ t → Links (cond (is_quotient_left (cond t left.Quotient left.Other)) (suc n) n) j.at
      by true e = f.links_up (suc n) i.at j.at up links
      by false e = f.links_up n (next i).at j.at le (f.link n i at links (sign e))

  module _ (operand : Parser Expr) (one : (i : Input) → At i → Room d i.at → Good (next i) (operand i)) (n : ℕ) where
    links_tell : (m : ℕ) (l : Left) (found : List Link) (b i : Input) → At i → b.at ≤ i.at → Room d b.at → Owed l m i.at → Tells At Bad Any b (links operand n m l found i)
    unfolding links
    links_tell zero l found b i at le room owed = by (operator_in n (sees i))
      where
        by : (o : Option Op) → Tells At Bad Any b (r.no_link found o i)
        by None = goes at le tt
        by (Some x) = stops (f.long i at (owed_one l i.at owed))
    links_tell (suc m) l found b i at le room owed = by (operator_in n (sees i)) refl
        (λ x h right j s low. tells_choice Any (fits l x right) _ _ j
        (λ e. (
        let up = next-up i in
        tells_from Any (links operand n m (left_by x) (found ++ link x right ∷ []) j) low
        (links_tell m (left_by x) (found ++ link x right ∷ []) j j s (omega arith) (f.room_up d b.at j.at (omega arith) room)
        (owed_next x m i j at (owed_apart l (suc m) i.at (apart l x right e) owed) low (λ q. operator_sign n i x h q)))))
        (λ e. stops (f.syntax i at)))
      where
        by : (o : Option Op) → operator_in n (sees i) ≡ o
            → ((x : Op) → operator_in n (sees i) ≡ Some x → (right : Expr) (j : Input) → At j → (next i).at ≤ j.at → Tells At Bad Any (next i) (r.joined (links operand n m) l found x i right j))
            → Tells At Bad Any b (r.links_by operand (links operand n m) l found o i)
        by None h more = goes at le tt
        by (Some x) h more =
            let up = next-up i in
            tells_from Any _ (omega arith) (tells_then (Fine Bad) Any (operand (next i)) _
            (tells_from (Fine Bad) (operand (next i)) (next-up (next i)) (one (next i) (f.steps i at) (f.room_up d b.at (next i).at (omega arith) room)))
            (λ right j s low q. more x h right j s low))

    chain_fine : (from : ℕ) (o : Input) (first : Expr) (found : List Link) → At o → Since At from o.at → Fine Bad first → Fine Bad (chain (span_from from o) first found)
    unfolding chain
    chain_fine from o first [] s le q = q
    chain_fine from o first (x ∷ xs) s le q = f.spanned from o s le

    pub extended_tells : (b : Input) (from : ℕ) (first : Expr) (i : Input) → At i → b.at ≤ i.at → Since At from b.at → Room d b.at → Fine Bad first
        → Good b (extended limits d below operand n from first i)
    unfolding extended
    extended_tells b from first i at le low room fine =
        tells_then Any (Fine Bad) (links operand n limits.links (left_of first) [] i) _ (links_tell limits.links (left_of first) [] b i at le room (owed_first (left_of first) i.at))
        (λ found o s high q. goes s high (chain_fine from o first found s (since_on low high) fine))

  pub binary_tells : (n : ℕ) (i : Input) → At i → Room d i.at → Good (next i) (binary limits d below n i)
  unfolding binary
  binary_tells zero i at room = prefix_tells limits f d below reads i at room
  binary_tells (suc n) i at room =
      tells_then (Fine Bad) (Fine Bad) (binary limits d below n i) _ (binary_tells n i at room)
      (λ first j s le q. extended_tells (binary limits d below n) (binary_tells n) (suc n) (next i) (start i) first j s le (since_start i at) (f.room_up d i.at (next i).at (next-up i) room) q)

  unmixed_tells : (n : ℕ) (x : Expr) (b i : Input) → At i → b.at ≤ i.at → Fine Bad x → Good b (unmixed n x i)
  unfolding unmixed
  unmixed_tells n x b i at le fine = by (operator_in n (sees i))
    where
      by : (o : Option Op) → Good b (r.unmixed_by x o i)
      by None = goes at le fine
      by (Some op) = stops (f.syntax i at)

  chained : (n group : ℕ) (b : Input) (from : ℕ) (first : Expr) (i : Input) → At i → b.at ≤ i.at → Since At from b.at → Room d b.at → Fine Bad first
      → Good b (extended limits d below (binary limits d below n) group from first i)
  chained n group b from first i at le low room fine = extended_tells (binary limits d below n) (binary_tells n) group b from first i at le low room fine

  nullish_tells : (b : Input) (from : ℕ) (first : Expr) (i : Input) → At i → b.at ≤ i.at → Since At from b.at → Room d b.at → Fine Bad first
      → Good b (nullish limits d below from first i)
  unfolding nullish
  nullish_tells b from first i at le low room fine =
      tells_then (Fine Bad) (Fine Bad) (extended limits d below (binary limits d below 4) 7 from first i) _ (chained 4 7 b from first i at le low room fine)
      (λ x j s le q. tells_then (Fine Bad) (Fine Bad) (unmixed 5 x j) _ (unmixed_tells 5 x b j s le q) (λ one o s le q. unmixed_tells 6 one b o s le q))

  either_tells : (b : Input) (from : ℕ) (first : Expr) (i : Input) → At i → b.at ≤ i.at → Since At from b.at → Room d b.at → Fine Bad first
      → Good b (either limits d below from first i)
  unfolding either
  either_tells b from first i at le low room fine =
      tells_then (Fine Bad) (Fine Bad) (extended limits d below (binary limits d below 4) 5 from first i) _ (chained 4 5 b from first i at le low room fine)
      (λ one j s le q. tells_then (Fine Bad) (Fine Bad) (extended limits d below (binary limits d below 5) 6 from one j) _ (chained 5 6 b from one j s le low room q)
      (λ x o s le q. unmixed_tells 7 x b o s le q))

  pub logical_tells : (i : Input) → At i → Room d i.at → Good (next i) (logical limits d below i)
  unfolding logical
  logical_tells i at room =
      let more = f.room_up d i.at (next i).at (next-up i) room in
      tells_then (Fine Bad) (Fine Bad) (binary limits d below 4 i) _ (binary_tells 4 i at room)
      (λ first j s le q. tells_choice (Fine Bad) (same_lexeme (sees j) k.Nullish) _ _ j
      (λ e. nullish_tells (next i) (start i) first j s le (since_start i at) more q)
      (λ e. either_tells (next i) (start i) first j s le (since_start i at) more q))
