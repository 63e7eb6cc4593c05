-- Operators between operands of the grammar are read, each from its parts.
use Rattle.std.proofs.Common.{◌≡◌, ◌≢◌, inl, ℕ, zero, suc, true, false, List, [], ◌∷◌, ◌++◌, refl, ap, sym, ◌∙◌, subst, arith}
use Rattle.std.specs.Prelude.{Some, None, Ok}
use Rattle.sv_ast.specs.declared.names.Named.{Named}
use Rattle.sv_ast.specs.declared.names.Ref.{Ref}
use Rattle.sv_ast.specs.declared.operators.AssignOp.{AssignOp}
use Rattle.sv_ast.specs.declared.operators.Op.{Op}
use Rattle.sv_ast.specs.declared.refusals.Kind.TheVariants.{TooDeep}
use Rattle.sv_ast.specs.declared.refusals.Refused.{Refused}
use Rattle.sv_ast.specs.declared.script_tree.Body.{Body}
use Rattle.sv_ast.specs.declared.script_tree.Body.TheVariants.{Value, Block}
use Rattle.sv_ast.specs.declared.script_tree.Expr.{Expr}
use Rattle.sv_ast.specs.declared.script_tree.ExprKind.TheVariants as e
use Rattle.sv_ast.specs.declared.script_tree.Link.{Link}
use Rattle.sv_ast.specs.declared.script_tree.Stmt.{Stmt}
use Rattle.sv_lex.specs.declared.lexeme.Lexeme.{Lexeme}
use Rattle.sv_lex.specs.declared.lexeme.Lexeme.TheVariants as k
use Rattle.sv_lex.specs.Reader.{Input, Parser, sees, next, start, span_from}
use Rattle.sv_lex.proofs.Ends.{Ends, ends_then, expect_yes}
use Rattle.sv_lex.proofs.Sees.{is_same, is_other}
use Rattle.sv_expr.specs.declared.form.Form.TheVariants.{Operand, Whole, Bracketed}
use Rattle.sv_expr.specs.declared.quotients.Left.{Left}
use Rattle.sv_expr.specs.Ahead.{begins_arrow}
use Rattle.sv_expr.specs.Grammar as g
use Rattle.sv_expr.specs.Limits.{Limits}
use Rattle.sv_expr.specs.Lists.{parameters}
use Rattle.sv_expr.specs.Nodes.{form, link, chain}
use Rattle.sv_expr.specs.Operators.{operator_in, assigns}
use Rattle.sv_expr.specs.Quotients.{is_quotient, left_of, left_by, fits}
use Rattle.sv_expr.specs.Rules as r
use Rattle.sv_expr.specs.Rules.{Readers, undivided, target, links, unmixed, prefix, extended, binary, nullish, either, logical, choice, condition, assignment, body, arrow, whole, level}
use Rattle.sv_expr.proofs.EndLists.{refuses}
use Rattle.sv_expr.proofs.EndSuffixes.{Enough, fewer}
use Rattle.sv_expr.proofs.SoundLists.{append_none}

-- ---- links

module _ (P : Refused → Type 0) (operand : Parser Expr) (group : ℕ) where
  pub no_link_ends : (most : ℕ) (side : Left) (found : List Link) (i : Input) → operator_in group (sees i) ≡ None → Ends P (links operand group most side found i) (found ++ [], i)
  unfolding links
  no_link_ends zero side found i h = rw h (inl (ap (λ all. Ok (all, i)) (append_none found)))
  no_link_ends (suc most) side found i h = rw h (inl (ap (λ all. Ok (all, i)) (append_none found)))

  pub one_link_ends : (most n : ℕ) (side : Left) (found : List Link) (i j : Input) (op : Op) (right : Expr) (z : List Link × Input) → Enough P most (suc n)
      → operator_in group (sees i) ≡ Some op → Ends P (operand (next i)) (right, j) → fits side op right ≡ true
      → ((most : ℕ) → Enough P most n → Ends P (links operand group most (left_by op) (found ++ link op right ∷ []) j) z)
      → Ends P (links operand group most side found i) z
  unfolding links
  one_link_ends zero n side found i j op right z enough h hr fit rest = rw h (refuses P TooDeep i z (enough (omega arith) i))
  one_link_ends (suc most) n side found i j op right z enough h hr fit rest = rw h (ends_then P _ _ hr (rw fit (rest most (fewer P most n enough))))

pub unmixed_ends : (P : Refused → Type 0) (group : ℕ) (x : Expr) (i : Input) → operator_in group (sees i) ≡ None → Ends P (unmixed group x i) (x, i)
unfolding unmixed
unmixed_ends P group x i h = rw h (inl refl)

-- behind links that no `??` begins or ends stands none at their start
nullish_behind : (limits : Limits) (block : ℕ → Parser (List Stmt)) {d n group : ℕ} {side : Left} {i o : Input} {ls : List Link} → g.Links limits block d n group side i ls o
    → operator_in group k.Nullish ≡ None → sees i ≡ k.Nullish → sees o ≡ k.Nullish
nullish_behind limits block (g.no_link h) free s = s
nullish_behind limits block (g.one_link {group = group} h b f ls) free s = let both : Some _ ≡ None = sym h ∙ ap (operator_in group) s ∙ free in absurd (cc)

five : operator_in 5 k.Nullish ≡ None
unfolding operator_in
five = refl

six : operator_in 6 k.Nullish ≡ None
unfolding operator_in
six = refl

seven : operator_in 7 k.Nullish ≢ None
unfolding operator_in
seven e = cc

pub no_nullish : (limits : Limits) (block : ℕ → Parser (List Stmt)) {d n m : ℕ} {a b : Left} {i j o : Input} {ls ms : List Link}
    → g.Links limits block d n 5 a i ls j → g.Links limits block d m 6 b j ms o → operator_in 7 (sees o) ≡ None → sees i ≢ k.Nullish
no_nullish limits block x y h s = seven (ap (operator_in 7) (sym (nullish_behind limits block y six (nullish_behind limits block x five s))) ∙ h)

-- ---- the rules

module _ (P : Refused → Type 0) (limits : Limits) (room : ℕ) (below : Readers) where
  pub operand_ends : (i : Input) (z : Expr × Input) → Ends P (prefix limits room below i) z → Ends P (binary limits room below zero i) z
  unfolding binary
  operand_ends i z h = h

  extended_ends : (operand : Parser Expr) (group from : ℕ) (first : Expr) (i o : Input) (ls : List Link) → Ends P (links operand group limits.links (left_of first) [] i) (ls, o)
      → Ends P (extended limits room below operand group from first i) (chain (span_from from o) first ls, o)
  unfolding extended
  extended_ends operand group from first i o ls h = ends_then P _ _ h (inl refl)

  pub grouped_ends : (n : ℕ) (i j o : Input) (t : Expr) (ls : List Link) → Ends P (binary limits room below n i) (t, j)
      → Ends P (links (binary limits room below n) (suc n) limits.links (left_of t) [] j) (ls, o)
      → Ends P (binary limits room below (suc n) i) (chain (span_from (start i) o) t ls, o)
  unfolding binary
  grouped_ends n i j o t ls h hl = ends_then P _ _ h (extended_ends (binary limits room below n) (suc n) (start i) t j o ls hl)

  pub nullish_ends : (i j o : Input) (t : Expr) (ls : List Link) → Ends P (binary limits room below 4 i) (t, j) → sees j ≡ k.Nullish
      → Ends P (links (binary limits room below 4) 7 limits.links (left_of t) [] j) (ls, o) → operator_in 5 (sees o) ≡ None → operator_in 6 (sees o) ≡ None
      → Ends P (logical limits room below i) (chain (span_from (start i) o) t ls, o)
  unfolding logical nullish
  nullish_ends i j o t ls h s hl five six = ends_then P _ _ h (rw (is_same (sees j) k.Nullish s)
      (ends_then P _ _ (extended_ends (binary limits room below 4) 7 (start i) t j o ls hl) (ends_then P _ _ (unmixed_ends P 5 _ o five) (unmixed_ends P 6 _ o six))))

  pub either_ends : (i j m o : Input) (t one : Expr) (ls ms : List Link) → Ends P (binary limits room below 4 i) (t, j) → sees j ≢ k.Nullish
      → Ends P (links (binary limits room below 4) 5 limits.links (left_of t) [] j) (ls, m) → one ≡ chain (span_from (start i) m) t ls
      → Ends P (links (binary limits room below 5) 6 limits.links (left_of one) [] m) (ms, o) → operator_in 7 (sees o) ≡ None
      → Ends P (logical limits room below i) (chain (span_from (start i) o) one ms, o)
  unfolding logical either
  either_ends i j m o t one ls ms h s hl is hm seven = ends_then P _ _ h (rw (is_other (sees j) k.Nullish s)
      (ends_then P _ _ (subst (λ x. Ends P (extended limits room below (binary limits room below 4) 5 (start i) t j) (x, m)) (sym is) (extended_ends (binary limits room below 4) 5 (start i) t j m ls hl))
      (ends_then P _ _ (extended_ends (binary limits room below 5) 6 (start i) one m o ms hm) (unmixed_ends P 7 _ o seven))))

  pub test_ends : (i o : Input) (t : Expr) → Ends P (logical limits room below i) (t, o) → sees o ≢ k.Question → Ends P (condition limits room below i) (t, o)
  unfolding condition
  test_ends i o t h q = ends_then P _ _ h (rw (is_other (sees o) k.Question q) (inl refl))

  pub choice_ends : (i j m o : Input) (t x y : Expr) → Ends P (logical limits room below i) (t, j) → sees j ≡ k.Question → is_quotient t ≡ false
      → Ends P (below.inside Whole (next j)) (x, m) → sees m ≡ k.Colon → Ends P (below.inside Whole (next m)) (y, o)
      → Ends P (condition limits room below i) (form i o (e.Choose t x y), o)
  unfolding condition choice
  choice_ends i j m o t x y h s q hx c hy = ends_then P _ _ h (rw (is_same (sees j) k.Question s) (rw q
      (ends_then P _ _ hx (ends_then P _ _ (inl (expect_yes k.Colon m c)) (ends_then P _ _ hy (inl refl))))))

  pub body_block_ends : (i o : Input) (found : List Stmt) → sees i ≡ k.LBrace → Ends P (below.block i) (found, o) → Ends P (body limits room below i) (Block found, o)
  unfolding body
  body_block_ends i o found h hb = rw h (ends_then P _ _ hb (inl refl))

  pub body_value_ends : (i o : Input) (x : Expr) → sees i ≢ k.LBrace → Ends P (below.inside Whole i) (x, o) → Ends P (body limits room below i) (Value x, o)
  unfolding body
  body_value_ends i o x h hx = by (sees i) h
    where
      by : (l : Lexeme) → l ≢ k.LBrace → Ends P (r.body_by limits room below l i) (Value x, o)
      by k.LBrace n = absurd (n refl)
      by _ n = ends_then P _ _ hx (inl refl)

  pub arrow_ends : (i j o : Input) (params : List Named) (found : Body) → begins_arrow i.text ≡ true → Ends P (parameters i) (params, j) → sees j ≡ k.Arrow
      → Ends P (body limits room below (next j)) (found, o) → Ends P (whole limits room below i) (form i o (e.Arrow params found), o)
  unfolding whole arrow
  arrow_ends i j o params found seen h a hb = rw seen (ends_then P _ _ h (ends_then P _ _ (inl (expect_yes k.Arrow j a)) (ends_then P _ _ hb (inl refl))))

  pub assignment_ends : (i j o : Input) (ref : Ref) (op : AssignOp) (x : Expr) → begins_arrow i.text ≡ false → assigns i ≡ Some op → Ends P (target i) (ref, j)
      → Ends P (below.inside Whole (next j)) (x, o) → Ends P (whole limits room below i) (form i o (e.Assign ref op x), o)
  unfolding whole assignment
  assignment_ends i j o ref op x none h ht hx = rw (none, h) (ends_then P _ _ ht (ends_then P _ _ hx (inl refl)))

  pub condition_ends : (i : Input) (z : Expr × Input) → begins_arrow i.text ≡ false → assigns i ≡ None → Ends P (condition limits room below i) z → Ends P (whole limits room below i) z
  unfolding whole
  condition_ends i z none h hz = rw (none, h) hz

  undivided_ends : (x : Expr) (i : Input) → is_quotient x ≡ false → Ends P (undivided x i) (x, i)
  undivided_ends x i q = rw q (inl refl)

  pub level_operand_ends : (i o : Input) (t : Expr) → Ends P (prefix limits room below i) (t, o) → is_quotient t ≡ false → Ends P (level limits room below Operand i) (t, o)
  unfolding level
  level_operand_ends i o t h q = ends_then P _ _ h (undivided_ends t o q)

  pub level_whole_ends : (i o : Input) (t : Expr) → Ends P (whole limits room below i) (t, o) → is_quotient t ≡ false → Ends P (level limits room below Whole i) (t, o)
  unfolding level
  level_whole_ends i o t h q = ends_then P _ _ h (undivided_ends t o q)

  pub level_bracketed_ends : (i : Input) (z : Expr × Input) → Ends P (whole limits room below i) z → Ends P (level limits room below Bracketed i) z
  unfolding level
  level_bracketed_ends i z h = h
