-- Operators between operands that are read are in the grammar.
use Rattle.std.proofs.Common.{◌≡◌, ◌≤◌, ℕ, zero, suc, List, [], ◌∷◌, ◌++◌, length, refl, ap, sym, subst, arith}
use Rattle.std.specs.Prelude.{Option, Some, None}
use Rattle.sv_ast.specs.declared.operators.Op.{Op}
use Rattle.sv_ast.specs.declared.script_tree.Expr.{Expr}
use Rattle.sv_ast.specs.declared.script_tree.Link.{Link}
use Rattle.sv_ast.specs.declared.script_tree.Stmt.{Stmt}
use Rattle.sv_lex.specs.declared.lexeme.Lexeme.TheVariants as k
use Rattle.sv_lex.specs.Look.{same_lexeme}
use Rattle.sv_lex.specs.Reader.{Input, Parser, and_then, sees, next, start, span_from}
use Rattle.sv_lex.proofs.Sees.{same}
use Rattle.sv_lex.proofs.Steps.{Holds, holds_then, holds_weaker, holds_choice}
use Rattle.sv_expr.specs.declared.quotients.Left.{Left}
use Rattle.sv_expr.specs.Grammar as g
use Rattle.sv_expr.specs.Limits.{Limits}
use Rattle.sv_expr.specs.Nodes.{link, chain}
use Rattle.sv_expr.specs.Operators.{operator_in}
use Rattle.sv_expr.specs.Quotients.{left_of, left_by, fits}
use Rattle.sv_expr.specs.Rules as r
use Rattle.sv_expr.specs.Rules.{Readers, links, unmixed, prefix, extended, binary, nullish, either, logical}
use Rattle.sv_expr.proofs.SoundLists.{append_one, append_none}
use Rattle.sv_expr.proofs.SoundLeaves.{Holding}
use Rattle.sv_expr.proofs.SoundSuffixes.{prefix_holds}

-- behind an operand, no operator of the group
holds_unmixed : {B : Type 0} (Q : B → Input → Type 0) (group : ℕ) (x : Expr) (i : Input) (f : Expr → Parser B)
    → (operator_in group (sees i) ≡ None → Holds Q (f x i)) → Holds Q (and_then (unmixed group x i) f)
unfolding unmixed
holds_unmixed Q group x i f h = by (operator_in group (sees i)) h
  where
    by : (o : Option Op) → (o ≡ None → Holds Q (f x i)) → Holds Q (and_then (r.unmixed_by x o i) f)
    by None h = h refl
    by (Some op) h = tt

unmixed_holds : (Q : Expr → Input → Type 0) (group : ℕ) (x : Expr) (i : Input) → (operator_in group (sees i) ≡ None → Q x i) → Holds Q (unmixed group x i)
unfolding unmixed
unmixed_holds Q group x i h = by (operator_in group (sees i)) h
  where
    by : (o : Option Op) → (o ≡ None → Q x i) → Holds Q (r.unmixed_by x o i)
    by None h = h refl
    by (Some op) h = tt

module _ (limits : Limits) (readers : ℕ → Readers) (d : ℕ) (below : Holding limits readers d) where
  abbrev block : ℕ → Parser (List Stmt)
  block n = (readers n).block

  abbrev Binary : ℕ → Input → Expr → Input → Type 0
  Binary = g.Binary limits block d

  -- the reader of operands
  abbrev operand : ℕ → Parser Expr
  operand n = binary limits d (readers d) n

  -- the links of a group behind those that were found, at most so many
  abbrev MoreLinks : ℕ → ℕ → ℕ → Left → List Link → Input → List Link → Input → Type 0
  MoreLinks n group most left found i all o = (ls : List Link) × (all ≡ found ++ ls) × (length ls ≤ most) × g.Links limits block d n group left i ls o

  links_holds : (n group : ℕ) → ((i : Input) → Holds (Binary n i) (operand n i)) → (most : ℕ) (left : Left) (found : List Link) (i : Input)
      → Holds (MoreLinks n group most left found i) (links (operand n) group most left found i)
  unfolding links
  links_holds n group operands zero left found i = by (operator_in group (sees i)) refl
    where
      by : (op : Option Op) → operator_in group (sees i) ≡ op → Holds (MoreLinks n group zero left found i) (r.no_link found op i)
      by None h = ([], append_none found, omega arith, g.no_link h)
      by (Some op) h = tt
  links_holds n group operands (suc most) left found i = by (operator_in group (sees i)) refl (links_holds n group operands most)
    where
      by : (op : Option Op) → operator_in group (sees i) ≡ op
          → ((side : Left) (all : List Link) (j : Input) → Holds (MoreLinks n group most side all j) (links (operand n) group most side all j))
          → Holds (MoreLinks n group (suc most) left found i) (r.links_by (operand n) (links (operand n) group most) left found op i)
      by None h more = ([], append_none found, omega arith, g.no_link h)
      by (Some op) h more =
          let Q = MoreLinks n group (suc most) left found i in
          holds_then (Binary n (next i)) Q (operand n (next i)) _ (operands (next i))
          (λ right j hr. holds_choice Q (fits left op right) _ _ j
          (λ fit. holds_weaker (MoreLinks n group most (left_by op) (found ++ link op right ∷ []) j) Q _
          (λ all o m. (link op right ∷ m.0, append_one found (link op right) m.0 all m.1, omega (arith, m.2), g.one_link h hr fit m.3))
          (more (left_by op) (found ++ link op right ∷ []) j))
          (λ none. tt))

  -- a chain of them behind an operand
  record Chain (n group from : ℕ) (first : Expr) (i : Input) (t : Expr) (o : Input) : Type 0 where
    ls : List Link
    is : t ≡ chain (span_from from o) first ls
    few : length ls ≤ limits.links
    links : g.Links limits block d n group (left_of first) i ls o

  extended_holds : (n group from : ℕ) (first : Expr) (i : Input) → ((i : Input) → Holds (Binary n i) (operand n i))
      → Holds (Chain n group from first i) (extended limits d (readers d) (operand n) group from first i)
  unfolding extended
  extended_holds n group from first i operands =
      holds_then (MoreLinks n group limits.links (left_of first) [] i) (Chain n group from first i) (links (operand n) group limits.links (left_of first) [] i) _
      (links_holds n group operands limits.links (left_of first) [] i)
      (λ all o m. record { ls = m.0; is = ap (chain (span_from from o) first) m.1; few = m.2; links = m.3 })

  group_of : (n : ℕ) (i j o : Input) (first t : Expr) → Binary n i first j → Chain n (suc n) (start i) first j t o → Binary (suc n) i t o
  group_of n i j o first t h c = subst (λ t. Binary (suc n) i t o) (sym c.is) (g.grouped h c.links c.few)

  binary_holds : (n : ℕ) (i : Input) → Holds (Binary n i) (operand n i)
  unfolding binary
  binary_holds zero i = holds_weaker (g.Prefix limits block d i) (Binary zero i) _ (λ t o h. g.operand h) (prefix_holds limits readers d below i)
  binary_holds (suc n) i = holds_then (Binary n i) (Binary (suc n) i) (operand n i) _ (binary_holds n i)
      (λ first j hf. holds_weaker (Chain n (suc n) (start i) first j) (Binary (suc n) i) _ (λ t o c. group_of n i j o first t hf c)
      (extended_holds n (suc n) (start i) first j (binary_holds n)))

  abbrev Logical : Input → Expr → Input → Type 0
  Logical = g.Logical limits block d

  nullish_holds : (first : Expr) (i j : Input) → Binary 4 i first j → sees j ≡ k.Nullish → Holds (Logical i) (nullish limits d (readers d) (start i) first j)
  unfolding nullish
  nullish_holds first i j h s = holds_then (Chain 4 7 (start i) first j) (Logical i) (extended limits d (readers d) (operand 4) 7 (start i) first j) _
      (extended_holds 4 7 (start i) first j (binary_holds 4))
      (λ x o c. holds_unmixed (Logical i) 5 x o _ (λ five. unmixed_holds (Logical i) 6 x o (λ six. subst (λ t. Logical i t o) (sym c.is) (g.nullish h s c.links c.few five six))))

  either_holds : (first : Expr) (i j : Input) → Binary 4 i first j → Holds (Logical i) (either limits d (readers d) (start i) first j)
  unfolding either
  either_holds first i j h = holds_then (Chain 4 5 (start i) first j) (Logical i) (extended limits d (readers d) (operand 4) 5 (start i) first j) _
      (extended_holds 4 5 (start i) first j (binary_holds 4))
      (λ one m a. holds_then (Chain 5 6 (start i) one m) (Logical i) (extended limits d (readers d) (operand 5) 6 (start i) one m) _ (extended_holds 5 6 (start i) one m (binary_holds 5))
      (λ x o c. unmixed_holds (Logical i) 7 x o (λ seven. subst (λ t. Logical i t o) (sym c.is) (g.either (group_of 4 i j m first one h a) c.links c.few seven))))

  pub logical_holds : (i : Input) → Holds (Logical i) (logical limits d (readers d) i)
  unfolding logical
  logical_holds i = holds_then (Binary 4 i) (Logical i) (operand 4 i) _ (binary_holds 4 i)
      (λ first j h. holds_choice (Logical i) (same_lexeme (sees j) k.Nullish) _ _ j (λ s. nullish_holds first i j h (same (sees j) k.Nullish s)) (λ s. either_holds first i j h))
