-- Statements of the grammar are read, or refused for a cause.
use Rattle.std.proofs.Common.{◌≡◌, ◌≢◌, ◌≤◌, inr, ℕ, zero, suc, Bool, true, false, List, [], ◌∷◌, ◌++◌, length, refl, ap, sym, ◌∙◌, arith}
use Rattle.std.specs.Prelude.{Option}
use Rattle.sv_ast.specs.declared.refusals.Kind.TheVariants.{TooDeep}
use Rattle.sv_ast.specs.declared.refusals.Refused.{Refused}
use Rattle.sv_ast.specs.declared.names.Named.{Named}
use Rattle.sv_ast.specs.declared.script_tree.Arm.{Arm}
use Rattle.sv_ast.specs.declared.script_tree.Decl.{Decl}
use Rattle.sv_ast.specs.declared.script_tree.Expr.{Expr}
use Rattle.sv_ast.specs.declared.script_tree.Stmt.{Stmt}
use Rattle.sv_lex.specs.declared.lexeme.Lexeme.{Lexeme}
use Rattle.sv_lex.specs.declared.lexeme.Lexeme.TheVariants as k
use Rattle.sv_lex.specs.Reader.{Input, Parser, refusal, sees, next, start, left}
use Rattle.sv_lex.proofs.Ends.{Ends}
use Rattle.sv_expr.specs.declared.form.Form.TheVariants.{Whole}
use Rattle.sv_expr.specs.Limits.{Limits}
use Rattle.sv_expr.proofs.End.{Cause, inside_ends}
use Rattle.sv_expr.proofs.EndLists.{joined, params_end}
use Rattle.sv_expr.proofs.EndSuffixes.{Enough}
use Rattle.sv_expr.proofs.Shrinks.{shrinking}
use Rattle.sv_expr.proofs.Words.{text_next, sees_as, name_past}
use Rattle.sv_script.specs.declared.place.Place.{Place}
use Rattle.sv_script.specs.Grammar as g
use Rattle.sv_script.specs.Lists.{upto_from}
use Rattle.sv_script.specs.Nodes.{arm}
use Rattle.sv_script.specs.Rules.{begins_each, value, declared, fixed, variables, const_statement, bracketed, arms, otherwise, head_first, head_value_upto, statement, item, braced, func}
use Rattle.sv_script.specs.Script.{bodies}
use Rattle.sv_script.proofs.EndSteps.{separated_ends, none_ends, more_ends, from_ends}
use Rattle.sv_script.proofs.EndStatements.{arm_comes, no_arm_comes, no_each_comes, no_name_comes, alone_ends, set_ends, fixed_ends, variables_end, const_ends, item_let_ends, item_const_ends, item_other_ends, braced_ends, test_ends, arm_ends, last_arm_ends, more_arms_end, no_else_ends, else_ends, if_ends, while_ends, list_ends, each_ends, no_head_ends, first_let_ends, first_value_ends, no_value_ends, some_value_ends, steps_end, empty_ends, nested_ends, break_ends, continue_ends, returned_ends, answered_ends, evaluated_ends, func_ends}
use Rattle.sv_script.proofs.Sound.{readers, is_nested}
use Rattle.sv_script.proofs.Ways.{declared_moves, fixed_moves, item_moves}

-- ---- what comes

-- behind a name stands what stands behind its token
behind_name : (i j : Input) (found : Named) → g.IsName i found j → sees j ≡ sees (next i)
behind_name i j found n = sees_as j (next i) (name_past i j found n.gives ∙ sym (text_next i))

-- where the head of a loop by steps stands, no loop over a list begins
module _ (limits : Limits) (block : ℕ → Parser (List Stmt)) where
  -- behind a name that is declared no name comes
  declared_behind : {d : ℕ} {i j : Input} {found : List Decl} → g.Several (g.Declared limits block true d) i found j → sees j ≡ k.Semi → sees (next i) ≢ k.Name
  declared_behind (g.several_last (g.declared_alone {i = i} {o = o} found n c) m) h e = let same = behind_name i o found n in cc
  declared_behind (g.several_last (g.declared_first {i = i} {j = j} found x n c v) m) h e = let same = behind_name i j found n in cc
  declared_behind (g.several_more (g.declared_alone {i = i} {o = o} found n c) m rest) h e = let same = behind_name i o found n in cc
  declared_behind (g.several_more (g.declared_first {i = i} {j = j} found x n c v) m rest) h e = let same = behind_name i j found n in cc

  steps_come : {d : ℕ} {i o : Input} {x : Option Stmt} → g.First limits block d i x o → begins_each i ≡ false
  steps_come (g.first_none {i = i} h) = no_each_comes i (ap g.begins_binding h)
  steps_come (g.first_let {i = i} h m c) = no_name_comes i h (declared_behind m c)
  steps_come (g.first_value {i = i} n b x c) = no_each_comes i b

  pub const_comes : {d : ℕ} {from i o : Input} {exported : Bool} {x : Stmt} → g.Constants limits block d from exported i x o → sees i ≡ k.Const
  const_comes (g.constants h xs e) = h

  arms_come : {d : ℕ} {p : Place} {i o : Input} {found : List Arm} → g.Arms limits block d p i found o → sees i ≡ k.If
  arms_come (g.arms_last h t b n) = h
  arms_come (g.arms_more h t b c rest) = h

module _ (limits wide : Limits) (block : ℕ → Parser (List Stmt)) (P : Refused → Type 0) (R : ℕ → ℕ → Type 0) (top : ℕ)
    (cause : Cause limits wide (readers limits) block P R top) where
  inner_ends : {m : ℕ} {i o : Input} {x : Expr} → g.Inner wide block m i x o → (d : ℕ) → R d m → Ends P ((readers limits d).inside Whole i) (x, o)
  inner_ends x d r = inside_ends limits wide (readers limits) block P R top (is_nested limits) cause x d r

  pub value_ends : (is_head : Bool) (m : ℕ) (i o : Input) (x : Expr) → g.Value wide block is_head m i x o → (d : ℕ) → R (suc d) (suc m) → Ends P (value limits d (bodies limits d) is_head i) (x, o)
  unfolding value bodies
  value_ends true m i o x v d r = inner_ends v d (cause.less d m r)
  value_ends false m i o x v d r = inner_ends v (suc d) r

  -- ---- declarations

  declared_ends : (is_head : Bool) {m : ℕ} {i o : Input} {x : Decl} → g.Declared wide block is_head m i x o → (d : ℕ) → R (suc d) (suc m)
      → Ends P (declared limits d (bodies limits d) is_head i) (x, o)
  declared_ends is_head (g.declared_alone {i = i} {o = o} found n c) d r = alone_ends P limits d (bodies limits d) is_head i o found n c
  declared_ends is_head {m = m} (g.declared_first {i = i} {j = j} {o = o} found x n c v) d r =
      set_ends P limits d (bodies limits d) is_head i j o found x n c (value_ends is_head m (next j) o x v d r)

  one_fixed_ends : {m : ℕ} {i o : Input} {x : Decl} → g.Fixed wide block m i x o → (d : ℕ) → R (suc d) (suc m) → Ends P (fixed limits d (bodies limits d) i) (x, o)
  one_fixed_ends {m = m} (g.fixed {i = i} {j = j} {o = o} found x n c v) d r = fixed_ends P limits d (bodies limits d) i j o found x n c (value_ends false m (next j) o x v d r)

  pub all_variables_end : (is_head : Bool) {m : ℕ} (i : Input) {o : Input} {xs : List Decl} → g.Several (g.Declared wide block is_head m) (next i) xs o → (d : ℕ) → R (suc d) (suc m)
      → Ends P (variables limits d (bodies limits d) is_head i) (xs, o)
  all_variables_end is_head {m = m} i h d r =
      variables_end P limits d (bodies limits d) is_head i _ (separated_ends P (declared limits d (bodies limits d) is_head) (g.Declared wide block is_head m)
      (λ i o x one. declared_ends is_head one d r) (λ i o x one. declared_moves shrinking wide block top cause.shrinks is_head one (cause.within (suc d) (suc m) r)) h)

  pub constants_end : {m : ℕ} {from i o : Input} {exported : Bool} {x : Stmt} → g.Constants wide block m from exported i x o → (d : ℕ) → R (suc d) (suc m)
      → Ends P (const_statement limits d (bodies limits d) (start from) exported i) (x, o)
  constants_end {m = m} {from = from} {exported = exported} (g.constants {i = i} {j = j} {o = o} h xs e) d r =
      const_ends P limits d (bodies limits d) (start from) exported i j o _ (separated_ends P (fixed limits d (bodies limits d)) (g.Fixed wide block m)
      (λ i o x one. one_fixed_ends one d r) (λ i o x one. fixed_moves shrinking wide block top cause.shrinks one (cause.within (suc d) (suc m) r)) xs) e

  -- ---- heads

  one_test_ends : {m : ℕ} {i o : Input} {x : Expr} → g.Test wide block m i x o → (d : ℕ) → R (suc d) (suc m) → Ends P (bracketed limits d (bodies limits d) i) (x, o)
  one_test_ends {m = m} (g.test {i = i} {j = j} h x c) d r = test_ends P limits d (bodies limits d) i j _ h (inner_ends x d (cause.less d m r)) c

  first_ends : {m : ℕ} {i o : Input} {x : Option Stmt} → g.First wide block m i x o → (d : ℕ) → R (suc d) (suc m) → Ends P (head_first limits d (bodies limits d) i) (x, o)
  first_ends (g.first_none {i = i} h) d r = no_head_ends P limits d (bodies limits d) i h
  first_ends (g.first_let {i = i} {j = j} h xs c) d r = first_let_ends P limits d (bodies limits d) i j _ h (all_variables_end true i xs d r) c
  first_ends {m = m} (g.first_value {i = i} {j = j} n b x c) d r = first_value_ends P limits d (bodies limits d) i j _ n b (inner_ends x d (cause.less d m r)) c

  optional_ends : {m : ℕ} {close : Lexeme} {i o : Input} {x : Option Expr} → g.Optional wide block m close i x o → (d : ℕ) → R (suc d) (suc m)
      → Ends P (head_value_upto limits d (bodies limits d) close i) (x, o)
  optional_ends {close = close} (g.optional_none {i = i} h) d r = no_value_ends P limits d (bodies limits d) close i h
  optional_ends {m = m} {close = close} (g.optional_some {i = i} {j = j} n x c) d r = some_value_ends P limits d (bodies limits d) close i j _ n (inner_ends x d (cause.less d m r)) c

  -- ---- constructs

  no_block : (m : ℕ) (p : Place) (i : Input) (z : List Stmt × Input) → R zero (suc m) → Ends P ((bodies limits zero).block p i) z
  unfolding bodies
  no_block m p i z r = inr (refusal TooDeep i, refl, cause.full m r i)

  no_body : (m : ℕ) (p : Place) (i : Input) (z : Stmt × Input) → R zero (suc m) → Ends P ((bodies limits zero).body p i) z
  unfolding bodies
  no_body m p i z r = inr (refusal TooDeep i, refl, cause.full m r i)

  some_block : (d : ℕ) (p : Place) (i : Input) (z : List Stmt × Input) → Ends P (braced limits d (bodies limits d) p i) z → Ends P ((bodies limits (suc d)).block p i) z
  unfolding bodies
  some_block d p i z h = h

  some_body : (d : ℕ) (p : Place) (i : Input) (z : Stmt × Input) → Ends P (statement limits d (bodies limits d) p i) z → Ends P ((bodies limits (suc d)).body p i) z
  unfolding bodies
  some_body d p i z h = h

  few : (n : ℕ) → n ≤ wide.links → Enough P limits.links n
  few n le more i = cause.links (omega (arith, le, more)) i

  -- ---- statements

  mutual
    pub block_ends : {m : ℕ} {p : Place} {i o : Input} {xs : List Stmt} → g.Block wide block m p i xs o → (d : ℕ) → R d m → Ends P ((bodies limits d).block p i) (xs, o)
    block_ends (g.block_braces {d = m} {p = p} {i = i} h xs) zero r = no_block m p i _ r
    block_ends (g.block_braces {p = p} {i = i} {o = o} h xs) (suc d) r =
        some_block d p i _ (braced_ends P limits d (bodies limits d) p i o _ h (from_ends P (item limits d (bodies limits d) p) k.RBrace (next i) o _
        (items_end xs d r (left (next i)) [] (omega arith))))

    items_end : {m : ℕ} {p : Place} {i o : Input} {xs : List Stmt} → g.Items wide block m p i xs o → (d : ℕ) → R (suc d) (suc m) → (n : ℕ) (found : List Stmt) → left i ≤ n
        → Ends P (upto_from (item limits d (bodies limits d) p) k.RBrace n found i) (found ++ xs, o)
    items_end (g.items_none {p = p} {i = i} h) d r n found le = none_ends P (item limits d (bodies limits d) p) k.RBrace n found i h
    items_end (g.items_more {d = m} {p = p} {i = i} {j = j} {o = o} h x rest) d r n found le =
        more_ends P (item limits d (bodies limits d) p) k.RBrace n found i j o _ _ le (item_moves shrinking wide block top cause.shrinks x (cause.within (suc d) (suc m) r)) h
        (item_ends x d r) (λ n le. items_end rest d r n _ le)

    pub item_ends : {m : ℕ} {p : Place} {i o : Input} {x : Stmt} → g.Item wide block m p i x o → (d : ℕ) → R (suc d) (suc m) → Ends P (item limits d (bodies limits d) p i) (x, o)
    item_ends (g.item_let {p = p} {i = i} {j = j} {o = o} h xs e) d r = item_let_ends P limits d (bodies limits d) p i j o _ h (all_variables_end false i xs d r) e
    item_ends (g.item_const {p = p} {i = i} c) d r = item_const_ends P limits d (bodies limits d) p i _ (const_comes wide block c) (constants_end c d r)
    item_ends (g.item_other {p = p} {i = i} b x) d r = item_other_ends P limits d (bodies limits d) p i _ b (statement_ends x d r)

    body_ends : {m : ℕ} {p : Place} {i o : Input} {x : Stmt} → g.Body wide block m p i x o → (d : ℕ) → R d m → Ends P ((bodies limits d).body p i) (x, o)
    body_ends (g.body {d = m} {p = p} {i = i} x) zero r = no_body m p i _ r
    body_ends (g.body {p = p} {i = i} x) (suc d) r = some_body d p i _ (statement_ends x d r)

    arms_end : {m : ℕ} {p : Place} {i o : Input} {xs : List Arm} → g.Arms wide block m p i xs o → (d : ℕ) → R (suc d) (suc m) → (most : ℕ) → Enough P most (length xs)
        → (found : List Arm) → Ends P (arms limits d (bodies limits d) p most found i) (found ++ xs, o)
    arms_end (g.arms_last {d = m} {p = p} {i = i} {j = j} {o = o} h t b n) d r most enough found =
        last_arm_ends P limits d (bodies limits d) p most found i o _ enough
        (arm_ends P limits d (bodies limits d) p i j o _ _ (one_test_ends t d r) (body_ends b d (cause.less d m r))) (no_arm_comes o n)
    arms_end (g.arms_more {d = m} {p = p} {i = i} {j = j} {m = behind} {x = x} {chosen = chosen} {rest = rest} h t b c more) d r most enough found =
        joined P found (arm x chosen) rest (more_arms_end P limits d (bodies limits d) p most (length rest) found i behind _ _ enough
        (arm_ends P limits d (bodies limits d) p i j behind _ _ (one_test_ends t d r) (body_ends b d (cause.less d m r)))
        (arm_comes behind c (arms_come wide block more)) (λ most enough. arms_end more d r most enough (found ++ arm x chosen ∷ [])))

    otherwise_ends : {m : ℕ} {p : Place} {i o : Input} {x : Option Stmt} → g.Otherwise wide block m p i x o → (d : ℕ) → R (suc d) (suc m)
        → Ends P (otherwise limits d (bodies limits d) p i) (x, o)
    otherwise_ends (g.otherwise_none {p = p} {i = i} n) d r = no_else_ends P limits d (bodies limits d) p i n
    otherwise_ends (g.otherwise_some {d = m} {p = p} {i = i} {o = o} h b) d r = else_ends P limits d (bodies limits d) p i o _ h (body_ends b d (cause.less d m r))

    pub statement_ends : {m : ℕ} {p : Place} {i o : Input} {x : Stmt} → g.Statement wide block m p i x o → (d : ℕ) → R (suc d) (suc m)
        → Ends P (statement limits d (bodies limits d) p i) (x, o)
    statement_ends (g.empty {p = p} {i = i} h) d r = empty_ends P limits d (bodies limits d) p i h
    statement_ends (g.nested {d = m} {p = p} {i = i} {o = o} h b) d r = nested_ends P limits d (bodies limits d) p i o _ h (block_ends b d (cause.less d m r))
    statement_ends (g.choice {p = p} {i = i} {j = j} {o = o} last a n e) d r =
        if_ends P limits d (bodies limits d) p i j o _ last (arms_come wide block a) (arms_end a d r limits.links (few _ n) []) (otherwise_ends e d r)
    statement_ends (g.repeated {d = m} {p = p} {i = i} {j = j} {o = o} h t b) d r =
        while_ends P limits d (bodies limits d) p i j o _ _ h (one_test_ends t d r) (body_ends b d (cause.less d m r))
    statement_ends (g.each {d = m} {p = p} {i = i} {j = j} {m = behind} {o = o} h a w n s x c b) d r =
        each_ends P limits d (bodies limits d) p i j (next behind) o _ _ _ _ h a w n (list_ends P limits d (bodies limits d) j behind _ s (inner_ends x d (cause.less d m r)) c)
        (body_ends b d (cause.less d m r))
    statement_ends (g.stepped {d = m} {p = p} {i = i} {j = j} {m = one} {n = two} {o = o} first condition step h a f c s b) d r =
        steps_end P limits d (bodies limits d) p i j one two o first condition step _ h a (steps_come wide block f) (first_ends f d r) (optional_ends c d r) (optional_ends s d r)
        (body_ends b d (cause.less d m r))
    statement_ends (g.broken {p = p} {i = i} {o = o} h l e) d r = break_ends P limits d (bodies limits d) p i o h l e
    statement_ends (g.continued {p = p} {i = i} {o = o} h l e) d r = continue_ends P limits d (bodies limits d) p i o h l e
    statement_ends (g.returned {p = p} {i = i} {o = o} h f n e) d r = returned_ends P limits d (bodies limits d) p i o h f n e
    statement_ends (g.answered {d = m} {p = p} {i = i} {j = j} {o = o} x h f b v e) d r =
        answered_ends P limits d (bodies limits d) p i j o x h f b (value_ends false m (next i) j x v d r) e
    statement_ends (g.evaluated {d = m} {p = p} {i = i} {j = j} {o = o} {x = x} b v e) d r =
        evaluated_ends P limits d (bodies limits d) p i j o x b (value_ends false m i j x v d r) e

  pub function_ends : {m : ℕ} {from i o : Input} {exported : Bool} {x : Stmt} → g.Function wide block m from exported i x o → (d : ℕ) → R (suc d) (suc m)
      → Ends P (func limits d (bodies limits d) (start from) exported i) (x, o)
  function_ends {m = m} {from = from} {exported = exported} (g.function {i = i} {j = j} {m = behind} {o = o} h n l p b) d r =
      func_ends P limits d (bodies limits d) (start from) exported i j behind o _ _ _ n l (params_end P p) (block_ends b d (cause.less d m r))
