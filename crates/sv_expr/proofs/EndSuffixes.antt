-- Suffixes and prefixes of the grammar are read, each from its parts.
use Rattle.std.proofs.Common.{◌≡◌, ◌<◌, inl, ℕ, zero, suc, Bool, true, false, List, refl, arith}
use Rattle.std.specs.Prelude.{nat_le, Some, None, Ok}
use Rattle.sv_ast.specs.declared.names.Named.{Named}
use Rattle.sv_ast.specs.declared.names.Ref.{Ref}
use Rattle.sv_ast.specs.declared.refusals.Kind.TheVariants.{TooDeep}
use Rattle.sv_ast.specs.declared.refusals.Refused.{Refused}
use Rattle.sv_ast.specs.declared.script_tree.Expr.{Expr}
use Rattle.sv_ast.specs.declared.script_tree.ExprKind.{ExprKind}
use Rattle.sv_ast.specs.declared.script_tree.ExprKind.TheVariants as e
use Rattle.sv_ast.specs.declared.script_tree.Stmt.{Stmt}
use Rattle.sv_lex.specs.declared.lexeme.Lexeme.{Lexeme}
use Rattle.sv_lex.specs.declared.lexeme.Lexeme.TheVariants as k
use Rattle.sv_lex.specs.Reader.{Input, Parser, refusal, sees, next, start, span_from, word}
use Rattle.sv_lex.proofs.Ends.{Ends, ends_then, expect_yes}
use Rattle.sv_expr.specs.declared.form.Form.TheVariants.{Operand, Whole}
use Rattle.sv_expr.specs.Grammar as g
use Rattle.sv_expr.specs.Limits.{Limits}
use Rattle.sv_expr.specs.Lists.{listed}
use Rattle.sv_expr.specs.Nodes.{form, node}
use Rattle.sv_expr.specs.Operators.{begins_suffix, bump, bump_behind, literal}
use Rattle.sv_expr.specs.Quotients.{is_quotient, rounds, argument, is_single}
use Rattle.sv_expr.specs.Rules as r
use Rattle.sv_expr.specs.Rules.{Readers, target, opened, primary, member, index, call, suffix, suffixes, targeted, suffixed, negation, minus, bumped, prefix}
use Rattle.sv_expr.proofs.EndLists.{refuses}
use Rattle.sv_expr.proofs.EndLeaves.{opened_ends}

-- where more links come than the reader takes the property holds of the refusal
abbrev pub Enough : (Refused → Type 0) → ℕ → ℕ → Type 0
Enough P most n = most < n → (i : Input) → P (refusal TooDeep i)

pub fewer : (P : Refused → Type 0) (most n : ℕ) → Enough P (suc most) (suc n) → Enough P most n
fewer P most n h less i = h (omega arith) i

module _ (P : Refused → Type 0) (limits : Limits) (room : ℕ) (below : Readers) where
  pub no_suffix_ends : (most from : ℕ) (of : Expr) (i : Input) → begins_suffix (sees i) ≡ false → Ends P (suffixes limits room below from most of i) (of, i)
  unfolding suffixes
  no_suffix_ends zero from of i h = rw h (inl refl)
  no_suffix_ends (suc most) from of i h = rw h (inl refl)

  -- one suffix, and the others
  pub suffix_ends : (most n from : ℕ) (of x : Expr) (i j : Input) (z : Expr × Input) → Enough P most (suc n) → begins_suffix (sees i) ≡ true
      → Ends P (suffix limits room below from of i) (x, j)
      → ((most : ℕ) → Enough P most n → Ends P (suffixes limits room below from most x j) z) → Ends P (suffixes limits room below from most of i) z
  unfolding suffixes
  suffix_ends zero n from of x i j z enough h hx rest = rw h (refuses P TooDeep i z (enough (omega arith) i))
  suffix_ends (suc most) n from of x i j z enough h hx rest = rw h (ends_then P _ _ hx (rest most (fewer P most n enough)))

  pub member_ends : (from : ℕ) (of : Expr) (i j : Input) (found : Named) → is_quotient of ≡ false → sees i ≡ k.Dot → word (next i) ≡ Ok (found, j)
      → Ends P (suffix limits room below from of i) (node (span_from from j) (e.Member of found.name), j)
  unfolding suffix member
  member_ends from of i j found q h w = rw q (rw h (ends_then P _ _ (inl w) (inl refl)))

  pub index_ends : (from : ℕ) (of x : Expr) (i j : Input) → is_quotient of ≡ false → sees i ≡ k.LBracket → Ends P (below.inside Whole (next i)) (x, j) → sees j ≡ k.RBracket
      → Ends P (suffix limits room below from of i) (node (span_from from (next j)) (e.Index of x), next j)
  unfolding suffix index
  index_ends from of x i j q h hx c = rw q (rw h (ends_then P _ _ hx (ends_then P _ _ (inl (expect_yes k.RBracket j c)) (inl refl))))

  pub call_ends : (from : ℕ) (of : Expr) (i j : Input) (args : List Expr) → is_quotient of ≡ false → sees i ≡ k.LParen → (nat_le 1 room ≡ false → P (refusal TooDeep i))
      → Ends P (listed (below.inside (argument (rounds of i))) k.RParen (next i)) (args, j) → is_single args ≡ true
      → Ends P (suffix limits room below from of i) (node (span_from from j) (e.Call of args), j)
  unfolding suffix call
  call_ends from of i j args q h full hs one = rw q (rw h (ends_then P _ _ (opened_ends P limits room below i full) (ends_then P _ _ hs (rw one (inl refl)))))

  -- ---- prefixes

  pub negation_ends : (i o : Input) (x : Expr) → sees i ≡ k.Bang → Ends P (below.inside Operand (next i)) (x, o) → Ends P (prefix limits room below i) (form i o (e.Not x), o)
  unfolding prefix negation
  negation_ends i o x h hx = rw h (ends_then P _ _ hx (inl refl))

  pub minus_ends : (i o : Input) (x : Expr) → sees i ≡ k.Minus → Ends P (below.inside Operand (next i)) (x, o) → Ends P (prefix limits room below i) (form i o (e.Minus x), o)
  unfolding prefix minus
  minus_ends i o x h hx = rw h (ends_then P _ _ hx (inl refl))

  bumped_yes : (i o : Input) (up : Bool) (ref : Ref) → (nat_le 1 room ≡ false → P (refusal TooDeep (next i))) → Ends P (target (next i)) (ref, o)
      → Ends P (bumped limits room below up i) (form i o (e.Bump ref up true), o)
  unfolding bumped
  bumped_yes i o up ref full ht = ends_then P _ _ (opened_ends P limits room below (next i) full) (ends_then P _ _ ht (inl refl))

  pub bumped_ends : (i o : Input) (up : Bool) (ref : Ref) → bump (sees i) ≡ Some up → (nat_le 1 room ≡ false → P (refusal TooDeep (next i))) → Ends P (target (next i)) (ref, o)
      → Ends P (prefix limits room below i) (form i o (e.Bump ref up true), o)
  unfolding prefix
  bumped_ends i o up ref h full ht = by (sees i) h
    where
      by : (l : Lexeme) → bump l ≡ Some up → Ends P (r.prefix_by limits room below l i) (form i o (e.Bump ref up true), o)
      by k.PlusPlus e = let is : true ≡ up = cc in rw (← is) (bumped_yes i o true ref full ht)
      by k.MinusMinus e = let is : false ≡ up = cc in rw (← is) (bumped_yes i o false ref full ht)
      by _ e = absurd (cc)

  pub bumping_ends : (i j : Input) (ref : Ref) (up : Bool) → Ends P (target i) (ref, j) → bump_behind j ≡ Some up
      → Ends P (targeted limits room below i) (form i (next j) (e.Bump ref up false), next j)
  unfolding targeted
  bumping_ends i j ref up ht b = ends_then P _ _ ht (rw b (inl refl))

  pub read_ends : (i j : Input) (ref : Ref) (z : Expr × Input) → Ends P (target i) (ref, j) → bump_behind j ≡ None
      → Ends P (suffixes limits room below (start i) limits.links (form i j (e.Read ref)) j) z → Ends P (targeted limits room below i) z
  unfolding targeted
  read_ends i j ref z ht b hs = ends_then P _ _ ht (rw b hs)

  pub targeted_ends : {i j : Input} {ref : Ref} (z : Expr × Input) → g.Target i ref j → Ends P (targeted limits room below i) z → Ends P (prefix limits room below i) z
  unfolding prefix
  targeted_ends z (g.plain h e) ht = rw h ht
  targeted_ends z (g.store h e) ht = rw h ht

  pub primary_suffixes_end : (i j : Input) (first : Expr) (z : Expr × Input) → Ends P (primary limits room below i) (first, j)
      → Ends P (suffixes limits room below (start i) limits.links first j) z → Ends P (suffixed limits room below i) z
  unfolding suffixed
  primary_suffixes_end i j first z h hs = ends_then P _ _ h hs

  literal_ends : (i : Input) (kind : ExprKind) (z : Expr × Input) → literal (sees i) ≡ Some kind → Ends P (suffixed limits room below i) z → Ends P (prefix limits room below i) z
  unfolding prefix
  literal_ends i kind z h hz = by (sees i) h
    where
      by : (l : Lexeme) → literal l ≡ Some kind → Ends P (r.prefix_by limits room below l i) z
      by k.Bang e = absurd (cc)
      by k.Minus e = absurd (cc)
      by k.PlusPlus e = absurd (cc)
      by k.MinusMinus e = absurd (cc)
      by k.Name e = absurd (cc)
      by k.Store e = absurd (cc)
      by _ e = hz

  -- where a primary expression comes no prefix does
  pub suffixed_ends : (wide : Limits) (block : ℕ → Parser (List Stmt)) {m : ℕ} {i j : Input} {first : Expr} (z : Expr × Input) → g.Primary wide block m i first j
      → Ends P (suffixed limits room below i) z → Ends P (prefix limits room below i) z
  unfolding prefix
  suffixed_ends wide block z (g.number h e) hz = rw h hz
  suffixed_ends wide block z (g.quoted h e) hz = rw h hz
  suffixed_ends wide block z (g.template h p) hz = rw h hz
  suffixed_ends wide block z (g.constant {i = i} {kind = kind} h) hz = literal_ends i kind z h hz
  suffixed_ends wide block z (g.bracket h x c) hz = rw h hz
  suffixed_ends wide block z (g.list h r xs) hz = rw h hz
  suffixed_ends wide block z (g.object h r xs) hz = rw h hz
