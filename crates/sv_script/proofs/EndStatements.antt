-- Statements of the grammar are read, each from its parts.
use Rattle.std.proofs.Common.{◌≡◌, ◌≢◌, ◌⊎◌, inl, inr, ℕ, zero, suc, Bool, true, false, List, [], ◌∷◌, ◌++◌, refl, ap, sym, ◌∙◌, subst, arith}
use Rattle.std.specs.Prelude.{◌&&◌, if◌then◌else◌, Option, Some, None, codes}
use Rattle.sv_ast.specs.declared.names.Named.{Named}
use Rattle.sv_ast.specs.declared.refusals.Kind.TheVariants.{TooDeep}
use Rattle.sv_ast.specs.declared.refusals.Refused.{Refused}
use Rattle.sv_ast.specs.declared.script_tree.Arm.{Arm}
use Rattle.sv_ast.specs.declared.script_tree.Decl.{Decl}
use Rattle.sv_ast.specs.declared.script_tree.Expr.{Expr}
use Rattle.sv_ast.specs.declared.script_tree.Stmt.{Stmt}
use Rattle.sv_ast.specs.declared.script_tree.StmtKind.TheVariants as s
use Rattle.sv_lex.specs.declared.lexeme.Lexeme.{Lexeme}
use Rattle.sv_lex.specs.declared.lexeme.Lexeme.TheVariants as k
use Rattle.sv_lex.specs.Reader.{Input, sees, sees_one, next, start, span_from, spelling}
use Rattle.sv_lex.proofs.Ends.{Ends, ends_then, expect_yes}
use Rattle.sv_lex.proofs.Sees.{sees_yes, sees_no, after_yes, after_no}
use Rattle.sv_expr.specs.declared.form.Form.TheVariants.{Whole}
use Rattle.sv_expr.specs.Limits.{Limits}
use Rattle.sv_expr.specs.Lists.{parameters}
use Rattle.sv_expr.proofs.EndLists.{refuses}
use Rattle.sv_expr.proofs.EndSuffixes.{Enough, fewer}
use Rattle.sv_script.specs.declared.place.Place.{Place}
use Rattle.sv_script.specs.Grammar as g
use Rattle.sv_script.specs.Lists.{separated, upto}
use Rattle.sv_script.specs.Nodes.{form, stmt, decl, arm}
use Rattle.sv_script.specs.Places.{in_function, looped}
use Rattle.sv_script.specs.Rules as r
use Rattle.sv_script.specs.Rules.{Bodies, single, empty, break_statement, continue_statement, stops, begins_arm, begins_each, value, declared_as, declared, fixed, variables, let_statement, const_statement, bracketed, arm_of, arms, otherwise, if_statement, while_statement, list_behind, each, head_let, head_value, head_statement, head_first, head_value_upto, steps, for_statement, nested, answer, return_statement, evaluated, statement, item, braced, params, func}
use Rattle.sv_script.proofs.EndSteps.{word_yes, ending_yes}
use Rattle.sv_script.proofs.Sound.{begins_answer}

-- ---- what comes

pub arm_comes : (i : Input) → sees i ≡ k.Else → sees (next i) ≡ k.If → begins_arm i ≡ true
unfolding begins_arm
arm_comes i e f = rw (sees_yes k.Else i e, sees_yes k.If (next i) f) refl

pub no_arm_comes : (i : Input) → (sees i ≢ k.Else) ⊎ (sees (next i) ≢ k.If) → begins_arm i ≡ false
unfolding begins_arm
no_arm_comes i (inl n) = rw (sees_no k.Else i n) refl
no_arm_comes i (inr n) = rw (sees_no k.If (next i) n) (by (sees_one k.Else i))
  where
    by : (b : Bool) → (b && false) ≡ false
    by true = refl
    by false = refl

pub answer_comes : (i : Input) → g.BeginsAnswer i → stops i ≡ false
unfolding stops
answer_comes i b = by (sees i) b.sign b.brace b.text
  where
    by : (l : Lexeme) → l ≢ k.Semi → l ≢ k.RBrace → l ≢ k.End → r.stops_by l i ≡ false
    by k.Semi n m e = absurd (n refl)
    by k.RBrace n m e = absurd (m refl)
    by k.End n m e = absurd (e refl)
    by _ n m e = b.line

pub no_answer_comes : (i : Input) → (g.BeginsAnswer i → ⊥) → stops i ≡ true
no_answer_comes i none = by (stops i) refl
  where
    by : (b : Bool) → stops i ≡ b → b ≡ true
    by true e = refl
    by false e = absurd (none (begins_answer i e))

-- the two heads of `for`
pub each_comes : {i : Input} {is_fixed : Bool} → g.Binder i is_fixed → begins_each i ≡ true
unfolding begins_each
each_comes (g.by_const {i = i} h) = rw (sees_no k.Let i (λ e. cc), sees_yes k.Const i h) refl
each_comes (g.by_let {i = i} h n) = rw (sees_yes k.Let i h, sees_yes k.Name (next (next i)) n) refl

pub is_const : {i : Input} {is_fixed : Bool} → g.Binder i is_fixed → sees_one k.Const i ≡ is_fixed
is_const (g.by_const {i = i} h) = sees_yes k.Const i h
is_const (g.by_let {i = i} h n) = sees_no k.Const i (λ e. cc)

pub no_each_comes : (i : Input) → g.begins_binding (sees i) ≡ false → begins_each i ≡ false
unfolding begins_each
no_each_comes i h = rw (sees_no k.Let i (λ e. let no : true ≡ false = sym (ap g.begins_binding e) ∙ h in cc), sees_no k.Const i (λ e. let no : true ≡ false = sym (ap g.begins_binding e) ∙ h in cc)) refl

pub no_name_comes : (i : Input) → sees i ≡ k.Let → sees (next (next i)) ≢ k.Name → begins_each i ≡ false
unfolding begins_each
no_name_comes i h n = rw (sees_yes k.Let i h, sees_no k.Name (next (next i)) n) refl

module _ (P : Refused → Type 0) (limits : Limits) (room : ℕ) (below : Bodies) where
  -- ---- declarations

  pub alone_ends : (is_head : Bool) (i o : Input) (found : Named) → g.IsName i found o → sees o ≢ k.Equal → Ends P (declared limits room below is_head i) (decl found None, o)
  unfolding declared declared_as
  alone_ends is_head i o found n c = ends_then P _ _ (inl n.gives) (rw (sees_no k.Equal o c, after_no k.Equal o c) (inl refl))

  pub set_ends : (is_head : Bool) (i j o : Input) (found : Named) (x : Expr) → g.IsName i found j → sees j ≡ k.Equal → Ends P (value limits room below is_head (next j)) (x, o)
      → Ends P (declared limits room below is_head i) (decl found (Some x), o)
  unfolding declared declared_as
  set_ends is_head i j o found x n c hx = ends_then P _ _ (inl n.gives) (rw (sees_yes k.Equal j c, after_yes k.Equal j c) (ends_then P _ _ hx (inl refl)))

  pub fixed_ends : (i j o : Input) (found : Named) (x : Expr) → g.IsName i found j → sees j ≡ k.Equal → Ends P (value limits room below false (next j)) (x, o)
      → Ends P (fixed limits room below i) (decl found (Some x), o)
  unfolding fixed
  fixed_ends i j o found x n c hx = ends_then P _ _ (inl n.gives) (ends_then P _ _ (inl (expect_yes k.Equal j c)) (ends_then P _ _ hx (inl refl)))

  pub variables_end : (is_head : Bool) (i : Input) (z : List Decl × Input) → Ends P (separated (declared limits room below is_head) (next i)) z → Ends P (variables limits room below is_head i) z
  unfolding variables
  variables_end is_head i z h = h

  let_yes : (i j o : Input) (found : List Decl) → Ends P (variables limits room below false i) (found, j) → g.End j o
      → Ends P (let_statement limits room below i) (form i o (s.Let found), o)
  unfolding let_statement
  let_yes i j o found h e = ends_then P _ _ h (ends_then P _ _ (inl (ending_yes e)) (inl refl))

  pub const_ends : (from : ℕ) (exported : Bool) (i j o : Input) (found : List Decl) → Ends P (separated (fixed limits room below) (next i)) (found, j) → g.End j o
      → Ends P (const_statement limits room below from exported i) (stmt (span_from from o) (s.Const found exported), o)
  unfolding const_statement
  const_ends from exported i j o found h e = ends_then P _ _ h (ends_then P _ _ (inl (ending_yes e)) (inl refl))

  -- ---- statements in a block

  pub item_let_ends : (p : Place) (i j o : Input) (found : List Decl) → sees i ≡ k.Let → Ends P (variables limits room below false i) (found, j) → g.End j o
      → Ends P (item limits room below p i) (form i o (s.Let found), o)
  unfolding item
  item_let_ends p i j o found h hv e = rw h (let_yes i j o found hv e)

  pub item_const_ends : (p : Place) (i : Input) (z : Stmt × Input) → sees i ≡ k.Const → Ends P (const_statement limits room below (start i) false i) z → Ends P (item limits room below p i) z
  unfolding item
  item_const_ends p i z h hc = rw h hc

  pub item_other_ends : (p : Place) (i : Input) (z : Stmt × Input) → g.begins_binding (sees i) ≡ false → Ends P (statement limits room below p i) z → Ends P (item limits room below p i) z
  unfolding item
  item_other_ends p i z h hs = by (sees i) h
    where
      by : (l : Lexeme) → g.begins_binding l ≡ false → Ends P (r.item_by limits room below p l i) z
      by k.Let e = absurd (cc)
      by k.Const e = absurd (cc)
      by _ e = hs

  pub braced_ends : (p : Place) (i o : Input) (found : List Stmt) → sees i ≡ k.LBrace → Ends P (upto (item limits room below p) k.RBrace (next i)) (found, o)
      → Ends P (braced limits room below p i) (found, next o)
  unfolding braced
  braced_ends p i o found h hs = ends_then P _ _ (inl (expect_yes k.LBrace i h)) (ends_then P _ _ hs (inl refl))

  -- ---- branches

  pub test_ends : (i j : Input) (x : Expr) → sees i ≡ k.LParen → Ends P (below.exprs.inside Whole (next i)) (x, j) → sees j ≡ k.RParen → Ends P (bracketed limits room below i) (x, next j)
  unfolding bracketed
  test_ends i j x h hx c = ends_then P _ _ (inl (expect_yes k.LParen i h)) (ends_then P _ _ hx (ends_then P _ _ (inl (expect_yes k.RParen j c)) (inl refl)))

  pub arm_ends : (p : Place) (i j o : Input) (x : Expr) (chosen : Stmt) → Ends P (bracketed limits room below (next i)) (x, j) → Ends P (below.body p j) (chosen, o)
      → Ends P (arm_of limits room below p i) (arm x chosen, o)
  unfolding arm_of
  arm_ends p i j o x chosen ht hb = ends_then P _ _ ht (ends_then P _ _ hb (inl refl))

  pub last_arm_ends : (p : Place) (most : ℕ) (found : List Arm) (i o : Input) (one : Arm) → Enough P most 1 → Ends P (arm_of limits room below p i) (one, o) → begins_arm o ≡ false
      → Ends P (arms limits room below p most found i) (found ++ one ∷ [], o)
  unfolding arms
  last_arm_ends p zero found i o one enough ha none = refuses P TooDeep i _ (enough (omega arith) i)
  last_arm_ends p (suc most) found i o one enough ha none = ends_then P _ _ ha (rw none (inl refl))

  pub more_arms_end : (p : Place) (most n : ℕ) (found : List Arm) (i j : Input) (one : Arm) (z : List Arm × Input) → Enough P most (suc n)
      → Ends P (arm_of limits room below p i) (one, j) → begins_arm j ≡ true
      → ((most : ℕ) → Enough P most n → Ends P (arms limits room below p most (found ++ one ∷ []) (next j)) z) → Ends P (arms limits room below p most found i) z
  unfolding arms
  more_arms_end p zero n found i j one z enough ha some rest = refuses P TooDeep i z (enough (omega arith) i)
  more_arms_end p (suc most) n found i j one z enough ha some rest = ends_then P _ _ ha (rw some (rest most (fewer P most n enough)))

  pub no_else_ends : (p : Place) (i : Input) → sees i ≢ k.Else → Ends P (otherwise limits room below p i) (None, i)
  unfolding otherwise
  no_else_ends p i n = rw (sees_no k.Else i n, after_no k.Else i n) (inl refl)

  pub else_ends : (p : Place) (i o : Input) (x : Stmt) → sees i ≡ k.Else → Ends P (below.body p (next i)) (x, o) → Ends P (otherwise limits room below p i) (Some x, o)
  unfolding otherwise
  else_ends p i o x h hx = rw (sees_yes k.Else i h, after_yes k.Else i h) (ends_then P _ _ hx (inl refl))

  if_yes : (p : Place) (i j o : Input) (found : List Arm) (last : Option Stmt) → Ends P (arms limits room below p limits.links [] i) (found, j)
      → Ends P (otherwise limits room below p j) (last, o) → Ends P (if_statement limits room below p i) (form i o (s.If found last), o)
  unfolding if_statement
  if_yes p i j o found last ha he = ends_then P _ _ ha (ends_then P _ _ he (inl refl))

  pub if_ends : (p : Place) (i j o : Input) (found : List Arm) (last : Option Stmt) → sees i ≡ k.If → Ends P (arms limits room below p limits.links [] i) (found, j)
      → Ends P (otherwise limits room below p j) (last, o) → Ends P (statement limits room below p i) (form i o (s.If found last), o)
  unfolding statement
  if_ends p i j o found last h ha he = rw h (if_yes p i j o found last ha he)

  -- ---- loops

  while_yes : (p : Place) (i j o : Input) (x : Expr) (turn : Stmt) → Ends P (bracketed limits room below (next i)) (x, j) → Ends P (below.body (looped p) j) (turn, o)
      → Ends P (while_statement limits room below p i) (form i o (s.While x turn), o)
  unfolding while_statement
  while_yes p i j o x turn ht hb = ends_then P _ _ ht (ends_then P _ _ hb (inl refl))

  pub while_ends : (p : Place) (i j o : Input) (x : Expr) (turn : Stmt) → sees i ≡ k.While → Ends P (bracketed limits room below (next i)) (x, j) → Ends P (below.body (looped p) j) (turn, o)
      → Ends P (statement limits room below p i) (form i o (s.While x turn), o)
  unfolding statement
  while_ends p i j o x turn h ht hb = rw h (while_yes p i j o x turn ht hb)

  for_yes : (p : Place) (i : Input) (z : Stmt × Input) → sees (next i) ≡ k.LParen
      → Ends P (if begins_each (next (next i)) then each limits room below p (start i) (next (next i)) else steps limits room below p (start i) (next (next i))) z
      → Ends P (for_statement limits room below p i) z
  unfolding for_statement
  for_yes p i z a h = ends_then P _ _ (inl (expect_yes k.LParen (next i) a)) h

  for_ends : (p : Place) (i : Input) (z : Stmt × Input) → sees i ≡ k.For → Ends P (for_statement limits room below p i) z → Ends P (statement limits room below p i) z
  unfolding statement
  for_ends p i z h hz = rw h hz

  pub list_ends : (i j : Input) (x : Expr) → spelling i ≡ codes "of" → Ends P (below.exprs.inside Whole (next i)) (x, j) → sees j ≡ k.RParen
      → Ends P (list_behind limits room below i) (x, next j)
  unfolding list_behind
  list_ends i j x w hx c = ends_then P _ _ (inl (word_yes (codes "of") i w)) (ends_then P _ _ hx (ends_then P _ _ (inl (expect_yes k.RParen j c)) (inl refl)))

  each_yes : (p : Place) (from : ℕ) (i j m o : Input) (found : Named) (x : Expr) (turn : Stmt) → g.IsName (next i) found j → Ends P (list_behind limits room below j) (x, m)
      → Ends P (below.body (looped p) m) (turn, o) → Ends P (each limits room below p from i) (stmt (span_from from o) (s.Each found (sees_one k.Const i) x turn), o)
  unfolding each
  each_yes p from i j m o found x turn n hl hb = ends_then P _ _ (inl n.gives) (ends_then P _ _ hl (ends_then P _ _ hb (inl refl)))

  pub each_ends : (p : Place) (i j m o : Input) (is_fixed : Bool) (found : Named) (x : Expr) (turn : Stmt) → sees i ≡ k.For → sees (next i) ≡ k.LParen
      → g.Binder (next (next i)) is_fixed → g.IsName (next (next (next i))) found j → Ends P (list_behind limits room below j) (x, m) → Ends P (below.body (looped p) m) (turn, o)
      → Ends P (statement limits room below p i) (form i o (s.Each found is_fixed x turn), o)
  each_ends p i j m o is_fixed found x turn h a b n hl hb =
      for_ends p i _ h (for_yes p i _ a (rw (each_comes b)
      (subst (λ f. Ends P (each limits room below p (start i) (next (next i))) (form i o (s.Each found f x turn), o)) (is_const b) (each_yes p (start i) (next (next i)) j m o found x turn n hl hb))))

  -- what a loop by steps begins with
  let_head_ends : (i j : Input) (found : List Decl) → sees i ≡ k.Let → Ends P (variables limits room below true i) (found, j)
      → Ends P (head_statement limits room below i) (form i j (s.Let found), j)
  unfolding head_statement head_let
  let_head_ends i j found h hv = rw (sees_yes k.Let i h) (ends_then P _ _ hv (inl refl))

  value_head_ends : (i j : Input) (x : Expr) → g.begins_binding (sees i) ≡ false → Ends P (below.exprs.inside Whole i) (x, j)
      → Ends P (head_statement limits room below i) (form i j (s.Eval x), j)
  unfolding head_statement head_value
  value_head_ends i j x b hx = rw (sees_no k.Let i (λ e. let no : true ≡ false = sym (ap g.begins_binding e) ∙ b in cc)) (ends_then P _ _ hx (inl refl))

  some_head_ends : (i j : Input) (x : Stmt) → sees i ≢ k.Semi → Ends P (head_statement limits room below i) (x, j) → sees j ≡ k.Semi
      → Ends P (head_first limits room below i) (Some x, next j)
  unfolding head_first
  some_head_ends i j x n hx c = rw (sees_no k.Semi i n, after_no k.Semi i n) (ends_then P _ _ hx (ends_then P _ _ (inl (expect_yes k.Semi j c)) (inl refl)))

  pub no_head_ends : (i : Input) → sees i ≡ k.Semi → Ends P (head_first limits room below i) (None, next i)
  unfolding head_first
  no_head_ends i h = rw (sees_yes k.Semi i h, after_yes k.Semi i h) (inl refl)

  pub first_let_ends : (i j : Input) (found : List Decl) → sees i ≡ k.Let → Ends P (variables limits room below true i) (found, j) → sees j ≡ k.Semi
      → Ends P (head_first limits room below i) (Some (form i j (s.Let found)), next j)
  first_let_ends i j found h hv c = some_head_ends i j _ (λ e. cc) (let_head_ends i j found h hv) c

  pub first_value_ends : (i j : Input) (x : Expr) → sees i ≢ k.Semi → g.begins_binding (sees i) ≡ false → Ends P (below.exprs.inside Whole i) (x, j) → sees j ≡ k.Semi
      → Ends P (head_first limits room below i) (Some (form i j (s.Eval x)), next j)
  first_value_ends i j x n b hx c = some_head_ends i j _ n (value_head_ends i j x b hx) c

  pub no_value_ends : (close : Lexeme) (i : Input) → sees i ≡ close → Ends P (head_value_upto limits room below close i) (None, next i)
  unfolding head_value_upto
  no_value_ends close i h = rw (sees_yes close i h, after_yes close i h) (inl refl)

  pub some_value_ends : (close : Lexeme) (i j : Input) (x : Expr) → sees i ≢ close → Ends P (below.exprs.inside Whole i) (x, j) → sees j ≡ close
      → Ends P (head_value_upto limits room below close i) (Some x, next j)
  unfolding head_value_upto
  some_value_ends close i j x n hx c = rw (sees_no close i n, after_no close i n) (ends_then P _ _ hx (ends_then P _ _ (inl (expect_yes close j c)) (inl refl)))

  steps_yes : (p : Place) (from : ℕ) (i j m n o : Input) (first : Option Stmt) (condition step : Option Expr) (turn : Stmt) → Ends P (head_first limits room below i) (first, j)
      → Ends P (head_value_upto limits room below k.Semi j) (condition, m) → Ends P (head_value_upto limits room below k.RParen m) (step, n)
      → Ends P (below.body (looped p) n) (turn, o) → Ends P (steps limits room below p from i) (stmt (span_from from o) (s.For first condition step turn), o)
  unfolding steps
  steps_yes p from i j m n o first condition step turn hf hc hs hb = ends_then P _ _ hf (ends_then P _ _ hc (ends_then P _ _ hs (ends_then P _ _ hb (inl refl))))

  pub steps_end : (p : Place) (i j m n o : Input) (first : Option Stmt) (condition step : Option Expr) (turn : Stmt) → sees i ≡ k.For → sees (next i) ≡ k.LParen
      → begins_each (next (next i)) ≡ false → Ends P (head_first limits room below (next (next i))) (first, j) → Ends P (head_value_upto limits room below k.Semi j) (condition, m)
      → Ends P (head_value_upto limits room below k.RParen m) (step, n) → Ends P (below.body (looped p) n) (turn, o)
      → Ends P (statement limits room below p i) (form i o (s.For first condition step turn), o)
  steps_end p i j m n o first condition step turn h a none hf hc hs hb =
      for_ends p i _ h (for_yes p i _ a (rw none (steps_yes p (start i) (next (next i)) j m n o first condition step turn hf hc hs hb)))

  -- ---- other statements

  pub empty_ends : (p : Place) (i : Input) → sees i ≡ k.Semi → Ends P (statement limits room below p i) (form i (next i) s.Empty, next i)
  unfolding statement empty
  empty_ends p i h = rw h (inl refl)

  nested_yes : (p : Place) (i o : Input) (found : List Stmt) → Ends P (below.block p i) (found, o) → Ends P (nested limits room below p i) (form i o (s.Block found), o)
  unfolding nested
  nested_yes p i o found hb = ends_then P _ _ hb (inl refl)

  pub nested_ends : (p : Place) (i o : Input) (found : List Stmt) → sees i ≡ k.LBrace → Ends P (below.block p i) (found, o)
      → Ends P (statement limits room below p i) (form i o (s.Block found), o)
  unfolding statement
  nested_ends p i o found h hb = rw h (nested_yes p i o found hb)

  pub break_ends : (p : Place) (i o : Input) → sees i ≡ k.Break → p.in_loop ≡ true → g.End (next i) o → Ends P (statement limits room below p i) (form i o s.Break, o)
  unfolding statement break_statement single
  break_ends p i o h l e = rw (h, l) (ends_then P _ _ (ends_then P _ _ (inl (ending_yes e)) (inl refl)) (inl refl))

  pub continue_ends : (p : Place) (i o : Input) → sees i ≡ k.Continue → p.in_loop ≡ true → g.End (next i) o → Ends P (statement limits room below p i) (form i o s.Continue, o)
  unfolding statement continue_statement single
  continue_ends p i o h l e = rw (h, l) (ends_then P _ _ (ends_then P _ _ (inl (ending_yes e)) (inl refl)) (inl refl))

  no_answer : (i : Input) → (g.BeginsAnswer i → ⊥) → Ends P (answer limits room below i) (None, i)
  unfolding answer
  no_answer i none = rw (no_answer_comes i none) (inl refl)

  some_answer : (i o : Input) (x : Expr) → g.BeginsAnswer i → Ends P (value limits room below false i) (x, o) → Ends P (answer limits room below i) (Some x, o)
  unfolding answer
  some_answer i o x b hx = rw (answer_comes i b) (ends_then P _ _ hx (inl refl))

  return_yes : (p : Place) (i j o : Input) (x : Option Expr) → p.in_function ≡ true → Ends P (answer limits room below (next i)) (x, j) → g.End j o
      → Ends P (return_statement limits room below p i) (form i o (s.Return x), o)
  unfolding return_statement
  return_yes p i j o x f ha e = rw f (ends_then P _ _ ha (ends_then P _ _ (inl (ending_yes e)) (inl refl)))

  return_ends : (p : Place) (i : Input) (z : Stmt × Input) → sees i ≡ k.Return → Ends P (return_statement limits room below p i) z → Ends P (statement limits room below p i) z
  unfolding statement
  return_ends p i z h hz = rw h hz

  pub returned_ends : (p : Place) (i o : Input) → sees i ≡ k.Return → p.in_function ≡ true → (g.BeginsAnswer (next i) → ⊥) → g.End (next i) o
      → Ends P (statement limits room below p i) (form i o (s.Return None), o)
  returned_ends p i o h f n e = return_ends p i _ h (return_yes p i (next i) o None f (no_answer (next i) n) e)

  pub answered_ends : (p : Place) (i j o : Input) (x : Expr) → sees i ≡ k.Return → p.in_function ≡ true → g.BeginsAnswer (next i) → Ends P (value limits room below false (next i)) (x, j)
      → g.End j o → Ends P (statement limits room below p i) (form i o (s.Return (Some x)), o)
  answered_ends p i j o x h f b hx e = return_ends p i _ h (return_yes p i j o (Some x) f (some_answer (next i) j x b hx) e)

  evaluated_yes : (i j o : Input) (x : Expr) → Ends P (value limits room below false i) (x, j) → g.End j o → Ends P (evaluated limits room below i) (form i o (s.Eval x), o)
  unfolding evaluated
  evaluated_yes i j o x hx e = ends_then P _ _ hx (ends_then P _ _ (inl (ending_yes e)) (inl refl))

  pub evaluated_ends : (p : Place) (i j o : Input) (x : Expr) → g.begins_other (sees i) ≡ false → Ends P (value limits room below false i) (x, j) → g.End j o
      → Ends P (statement limits room below p i) (form i o (s.Eval x), o)
  unfolding statement
  evaluated_ends p i j o x h hx e = by (sees i) h
    where
      by : (l : Lexeme) → g.begins_other l ≡ false → Ends P (r.statement_by limits room below p l i) (form i o (s.Eval x), o)
      by k.Semi b = absurd (cc)
      by k.LBrace b = absurd (cc)
      by k.If b = absurd (cc)
      by k.While b = absurd (cc)
      by k.For b = absurd (cc)
      by k.Break b = absurd (cc)
      by k.Continue b = absurd (cc)
      by k.Return b = absurd (cc)
      by _ b = evaluated_yes i j o x hx e

  -- ---- functions

  pub func_ends : (from : ℕ) (exported : Bool) (i j m o : Input) (found : Named) (given : List Named) (body : List Stmt) → g.IsName (next i) found j → sees j ≡ k.LParen
      → Ends P (parameters j) (given, m) → Ends P (below.block in_function m) (body, o)
      → Ends P (func limits room below from exported i) (stmt (span_from from o) (s.Func found exported given body), o)
  unfolding func params
  func_ends from exported i j m o found given body n l hp hb = ends_then P _ _ (inl n.gives) (rw (sees_yes k.LParen j l) (ends_then P _ _ hp (ends_then P _ _ hb (inl refl))))
