-- Statements tell.
use Rattle.std.proofs.Common.{◌≡◌, ◌≤◌, ℕ, zero, suc, Bool, true, false, List, [], ◌∷◌, ◌++◌, ap, arith}
use Rattle.std.specs.Prelude.{Ok, Err, codes}
use Rattle.std.specs.Str.{bytes_eq}
use Rattle.sv_ast.specs.declared.names.Named.{Named}
use Rattle.sv_ast.specs.declared.refusals.Refused.{Refused}
use Rattle.sv_ast.specs.declared.script_tree.Arm.{Arm}
use Rattle.sv_lex.specs.declared.lexeme.Lexeme.{Lexeme}
use Rattle.sv_lex.specs.declared.lexeme.Lexeme.TheVariants as k
use Rattle.sv_lex.specs.Reader.{Input, Outcome, sees, sees_one, after, next, start, is_later, spelling, ending, end_by, name}
use Rattle.sv_expr.specs.declared.form.Form.TheVariants.{Whole}
use Rattle.sv_expr.specs.Limits.{Limits}
use Rattle.sv_expr.specs.Lists.{parameters}
use Rattle.sv_expr.specs.Rules.{level}
use Rattle.sv_script.specs.declared.place.Place.{Place}
use Rattle.sv_script.specs.Lists.{separated, upto}
use Rattle.sv_script.specs.Places.{in_function, looped}
use Rattle.sv_script.specs.Rules as r
use Rattle.sv_script.specs.Rules.{Bodies, word_as, single, empty, break_statement, continue_statement, begins_arm, begins_each, value, declared_as, declared, fixed, variables, let_statement, const_statement, bracketed, arm_of, arms, otherwise, if_statement, while_statement, list_behind, each, head_let, head_value, head_statement, head_first, head_value_upto, steps, for_statement, nested, answer, return_statement, evaluated, statement, item, braced, params, func}
use Rattle.sv_blame.proofs.Frame.{is_sign, Any, Tells, IsFrame, next-up, onward, after_beyond, tells_from, tells_any, tells_then, tells_choice, tells_if, tells_expect, tells_token, goes, goes_on, stops}
use Rattle.sv_blame.proofs.Names.{name_tells, parameters_tells}
use Rattle.sv_blame.proofs.Leaves.{Fine, Reads}
use Rattle.sv_blame.proofs.Levels.{level_tells}
use Rattle.sv_blame.proofs.Rows.{separated_tells, upto_tells}

-- what stands in constructs tells: expressions, blocks, and the bodies of `if`, `else` and loops
pub record Bodied (At : Input → Type 0) (Bad : Refused → Type 0) (Room Tight : ℕ → ℕ → Type 0) (d : ℕ) (below : Bodies) : Type 0 where
  pub exprs : Reads At Bad Room Tight d below.exprs
  pub block : (place : Place) (i : Input) → At i → Room d i.at → Tells At Bad Any i (below.block place i)
  pub body : (place : Place) (i : Input) → At i → Tight d i.at → Tells At Bad Any i (below.body place i)

module _ {At : Input → Type 0} {Bad : Refused → Type 0} {Room Tight Links : ℕ → ℕ → Type 0} {most widest : ℕ} (f : IsFrame At Bad Room Tight Links most widest) where
  pub name_on : (b i : Input) → At i → b.at ≤ i.at → Tells At Bad Any b (name i)
  name_on b i at le = let up = next-up i in tells_from Any (name i) (omega arith) (name_tells f i at)

  pub word_as_tells : (text : List ℕ) (b i : Input) → At i → b.at ≤ i.at → Tells At Bad Any b (word_as text i)
  unfolding word_as
  word_as_tells text b i at le = let up = next-up i in tells_if Any (bytes_eq (spelling i) text) _ _ (λ e. goes (f.steps i at) (omega arith) tt) (λ e. stops (f.syntax i at))

  pub ending_tells : (b i : Input) → At i → b.at ≤ i.at → Tells At Bad Any b (ending i)
  unfolding ending
  ending_tells b i at le = by (sees i)
    where
      by : (l : Lexeme) → Tells At Bad Any b (end_by l i)
      by k.Semi = goes (f.steps i at) (let up = next-up i in omega arith) tt
      by k.RBrace = goes at le tt
      by k.End = goes at le tt
      by _ = tells_if Any (is_later i) _ _ (λ e. goes at le tt) (λ e. stops (f.syntax i at))

  single_tells : (may : Bool) (i : Input) → At i → Tells At Bad Any i (single may i)
  unfolding single
  single_tells may i at = tells_choice Any may _ _ i
      (λ e. tells_then Any Any (ending (next i)) _ (ending_tells i (next i) (f.steps i at) (next-up i)) (λ u o s le q. goes s le tt)) (λ e. stops (f.syntax i at))

  empty_tells : (i : Input) → At i → Tells At Bad Any i (empty i)
  unfolding empty
  empty_tells i at = goes_on (onward f i at) tt

  break_tells : (place : Place) (i : Input) → At i → Tells At Bad Any i (break_statement place i)
  unfolding break_statement
  break_tells place i at = tells_then Any Any (single place.in_loop i) _ (single_tells place.in_loop i at) (λ u o s le q. goes s le tt)

  continue_tells : (place : Place) (i : Input) → At i → Tells At Bad Any i (continue_statement place i)
  unfolding continue_statement
  continue_tells place i at = tells_then Any Any (single place.in_loop i) _ (single_tells place.in_loop i at) (λ u o s le q. goes s le tt)

module _ {At : Input → Type 0} {Bad : Refused → Type 0} {Room Tight Links : ℕ → ℕ → Type 0} (limits : Limits)
    (f : IsFrame At Bad Room Tight Links limits.links limits.number) (d : ℕ) (below : Bodies) (reads : Bodied At Bad Room Tight d below) where
  abbrev Fits : {A : Type 0} → Input → Outcome A → Type 0
  Fits = Tells At Bad Any

  inside : (b i : Input) → At i → b.at ≤ i.at → Tight d b.at → Fits b (below.exprs.inside Whole i)
  inside b i at le tight =
      let up = next-up i in
      tells_any (Fine Bad) (below.exprs.inside Whole i) (tells_from (Fine Bad) (below.exprs.inside Whole i) (omega arith)
      (reads.exprs.inside Whole i at (f.tight_up d b.at i.at le tight)))

  body : (place : Place) (b i : Input) → At i → b.at ≤ i.at → Tight d b.at → Fits b (below.body place i)
  body place b i at le tight = tells_from Any (below.body place i) le (reads.body place i at (f.tight_up d b.at i.at le tight))

  value_tells : (is_head : Bool) (b i : Input) → At i → b.at ≤ i.at → Room d b.at → (is_head ≡ true → Tight d b.at) → Fits b (value limits d below is_head i)
  unfolding value
  value_tells is_head b i at le room tight = tells_choice Any is_head _ _ i (λ e. inside b i at le (tight e))
      (λ e. (
      let up = next-up i in
      tells_any (Fine Bad) (level limits d below.exprs Whole i) (tells_from (Fine Bad) (level limits d below.exprs Whole i) (omega arith)
      (level_tells limits f d below.exprs reads.exprs Whole i at (f.room_up d b.at i.at le room)))))

  outside : (b i : Input) → At i → b.at ≤ i.at → Room d b.at → Fits b (value limits d below false i)
  outside b i at le room = value_tells false b i at le room (λ e. absurd (cc))

  -- ---- declarations

  declared_as_tells : (is_head : Bool) (found : Named) (b i : Input) → At i → b.at ≤ i.at → Room d b.at → (is_head ≡ true → Tight d b.at)
      → Fits b (declared_as limits d below is_head found i)
  unfolding declared_as
  declared_as_tells is_head found b i at le room tight =
      let c = after_beyond f k.Equal i at in
      let low = c.low in
      tells_choice Any (sees_one k.Equal i) _ _ (after k.Equal i)
      (λ e. tells_then Any Any (value limits d below is_head (after k.Equal i)) _ (value_tells is_head b (after k.Equal i) c.stands (omega arith) room tight) (λ x o s le q. goes s le tt))
      (λ e. goes c.stands (omega arith) tt)

  abbrev Head : Bool → ℕ → Type 0
  Head is_head p = Room d p × (is_head ≡ true → Tight d p)

  head_up : (is_head : Bool) (p q : ℕ) → p ≤ q → Head is_head p → Head is_head q
  head_up is_head p q le h = (f.room_up d p q le h.0, λ e. f.tight_up d p q le (h.1 e))

  declared_tells : (is_head : Bool) (i : Input) → At i → Head is_head i.at → Fits i (declared limits d below is_head i)
  unfolding declared
  declared_tells is_head i at h = tells_then Any Any (name i) _ (name_on f i i at (omega arith)) (λ found j s le q. declared_as_tells is_head found i j s le h.0 h.1)

  fixed_tells : (i : Input) → At i → Room d i.at → Fits i (fixed limits d below i)
  unfolding fixed
  fixed_tells i at room =
      tells_then Any Any (name i) _ (name_on f i i at (omega arith))
      (λ found j s le q. tells_expect f Any i k.Equal j _ s le (λ s le c. tells_then Any Any (value limits d below false (next j)) _ (outside i (next j) s le room) (λ x o s le q. goes s le tt)))

  variables_tells : (is_head : Bool) (b i : Input) → At i → b.at ≤ i.at → Room d b.at → (is_head ≡ true → Tight d b.at) → Fits b (variables limits d below is_head i)
  unfolding variables
  variables_tells is_head b i at le room tight =
      let up = next-up i in
      tells_from Any (separated (declared limits d below is_head) (next i)) (omega arith)
      (separated_tells f (declared limits d below is_head) (Head is_head) (head_up is_head) (declared_tells is_head) (next i) (f.steps i at)
      (head_up is_head b.at (next i).at (omega arith) (room, tight)))

  let_tells : (i : Input) → At i → Room d i.at → Fits i (let_statement limits d below i)
  unfolding let_statement
  let_tells i at room =
      tells_then Any Any (variables limits d below false i) _ (variables_tells false i i at (omega arith) room (λ e. absurd (cc)))
      (λ found j s le q. tells_then Any Any (ending j) _ (ending_tells f i j s le) (λ u o s le q. goes s le tt))

  pub const_tells : (from : ℕ) (exported : Bool) (i : Input) → At i → Room d i.at → Fits i (const_statement limits d below from exported i)
  unfolding const_statement
  const_tells from exported i at room =
      tells_then Any Any (separated (fixed limits d below) (next i)) _
      (tells_from Any (separated (fixed limits d below) (next i)) (next-up i)
      (separated_tells f (fixed limits d below) (Room d) (f.room_up d) fixed_tells (next i) (f.steps i at) (f.room_up d i.at (next i).at (next-up i) room)))
      (λ found j s le q. tells_then Any Any (ending j) _ (ending_tells f i j s le) (λ u o s le q. goes s le tt))

  pub exported_let : (b i : Input) → At i → b.at ≤ i.at → Room d b.at → Fits b (variables limits d below false i)
  exported_let b i at le room = variables_tells false b i at le room (λ e. absurd (cc))

  -- ---- branches

  abbrev Open : {A : Type 0} → Input → A → Type 0
  Open i a = sees i ≡ k.LParen

  bracketed_tells : (i : Input) → At i → Room d i.at → Tells At Bad (Open i) (next i) (bracketed limits d below i)
  unfolding bracketed
  bracketed_tells i at room = tells_token f (Open i) (next i) k.LParen i _ at
      (λ c. (
      let tight = f.sign d i at room (ap is_sign c) in
      tells_then Any (Open i) (below.exprs.inside Whole (next i)) _ (inside (next i) (next i) (f.steps i at) (omega arith) tight)
      (λ x j s le q. tells_expect f (Open i) (next i) k.RParen j _ s le (λ s le e. goes s le c))))

  open_tight : (i : Input) → At i → Room d i.at → sees i ≡ k.LParen → Tight d (next i).at
  open_tight i at room c = f.sign d i at room (ap is_sign c)

  arm_tells : (place : Place) (i : Input) → At i → Room d i.at → Tells At Bad (Open (next i)) (next (next i)) (arm_of limits d below place i)
  unfolding arm_of
  arm_tells place i at room =
      let s = f.steps i at in
      let more = f.room_up d i.at (next i).at (next-up i) room in
      tells_then (Open (next i)) (Open (next i)) (bracketed limits d below (next i)) _ (bracketed_tells (next i) s more)
      (λ x j t le c. tells_then Any (Open (next i)) (below.body place j) _ (body place (next (next i)) j t le (open_tight (next i) s more c)) (λ y o u low q. goes u low c))

  arms_tell : (place : Place) (n : ℕ) (found : List Arm) (i : Input) → At i → Room d i.at → Links n i.at
      → Tells At Bad (Open (next i)) (next (next i)) (arms limits d below place n found i)
  unfolding arms
  arms_tell place zero found i at room links = stops (f.long i at (f.more 0 i.at links))
  arms_tell place (suc n) found i at room links =
      tells_then (Open (next i)) (Open (next i)) (arm_of limits d below place i) _ (arm_tells place i at room)
      (λ one j s le c. tells_if (Open (next i)) (begins_arm j) _ _
      (λ e. (
      let a = next-up i in let b = next-up (next i) in let x = next-up j in let y = next-up (next j) in let z = next-up (next (next j)) in
      let fewer = f.link n (next i) (f.steps i at) (f.links_up (suc n) i.at (next i).at a links) (ap is_sign c) in
      kept j c (arms limits d below place n (found ++ one ∷ []) (next j)) (omega arith)
      (arms_tell place n (found ++ one ∷ []) (next j) (f.steps j s) (f.room_up d i.at (next j).at (omega arith) room) (f.links_up n (next (next i)).at (next j).at (omega arith) fewer))))
      (λ e. goes s le c))
    where
      kept : {A : Type 0} (j : Input) → sees (next i) ≡ k.LParen → (r : Outcome A) → (next (next i)).at ≤ (next (next (next j))).at
          → Tells At Bad (Open (next (next j))) (next (next (next j))) r
          → Tells At Bad (Open (next i)) (next (next i)) r
      kept j c (Ok p) le h = let low = h.is.0.low in goes h.is.0.stands (omega arith) c
      kept j c (Err e) le h = stops h.is

  otherwise_tells : (place : Place) (b i : Input) → At i → b.at ≤ i.at → Tight d b.at → Fits b (otherwise limits d below place i)
  unfolding otherwise
  otherwise_tells place b i at le tight =
      let c = after_beyond f k.Else i at in
      let low = c.low in
      tells_choice Any (sees_one k.Else i) _ _ (after k.Else i)
      (λ e. tells_then Any Any (below.body place (after k.Else i)) _ (body place b (after k.Else i) c.stands (omega arith) tight) (λ x o s le q. goes s le tt))
      (λ e. goes c.stands (omega arith) tt)

  if_tells : (place : Place) (i : Input) → At i → Room d i.at → Fits i (if_statement limits d below place i)
  unfolding if_statement
  if_tells place i at room =
      let a = next-up i in let b = next-up (next i) in
      tells_from Any _ (omega arith) (tells_then (Open (next i)) Any (arms limits d below place limits.links [] i) _ (arms_tell place limits.links [] i at room (f.begun i.at))
      (λ found j s le c. tells_then Any Any (otherwise limits d below place j) _
      (otherwise_tells place (next (next i)) j s le (open_tight (next i) (f.steps i at) (f.room_up d i.at (next i).at a room) c)) (λ x o s le q. goes s le tt)))

  -- ---- loops

  while_tells : (place : Place) (i : Input) → At i → Room d i.at → Fits i (while_statement limits d below place i)
  unfolding while_statement
  while_tells place i at room =
      let a = next-up i in let b = next-up (next i) in
      let more = f.room_up d i.at (next i).at a room in
      tells_from Any _ (omega arith) (tells_then (Open (next i)) Any (bracketed limits d below (next i)) _ (bracketed_tells (next i) (f.steps i at) more)
      (λ x j s le c. tells_then Any Any (below.body (looped place) j) _ (body (looped place) (next (next i)) j s le (open_tight (next i) (f.steps i at) more c)) (λ y o s le q. goes s le tt)))

  list_behind_tells : (b i : Input) → At i → b.at ≤ i.at → Tight d b.at → Fits b (list_behind limits d below i)
  unfolding list_behind
  list_behind_tells b i at le tight =
      tells_then Any Any (word_as (codes "of") i) _ (word_as_tells f (codes "of") b i at le)
      (λ u j s le q. tells_then Any Any (below.exprs.inside Whole j) _ (inside b j s le tight) (λ x o s le q. tells_expect f Any b k.RParen o _ s le (λ s le e. goes s le tt)))

  each_tells : (place : Place) (from : ℕ) (b i : Input) → At i → b.at ≤ i.at → Tight d b.at → Fits b (each limits d below place from i)
  unfolding each
  each_tells place from b i at le tight =
      let up = next-up i in
      tells_then Any Any (name (next i)) _ (name_on f b (next i) (f.steps i at) (omega arith))
      (λ found j s le q. tells_then Any Any (list_behind limits d below j) _ (list_behind_tells b j s le tight)
      (λ x m s le q. tells_then Any Any (below.body (looped place) m) _ (body (looped place) b m s le tight) (λ y o s le q. goes s le tt)))

  head_let_tells : (b i : Input) → At i → b.at ≤ i.at → Tight d b.at → Fits b (head_let limits d below i)
  unfolding head_let
  head_let_tells b i at le tight = tells_then Any Any (variables limits d below true i) _ (variables_tells true b i at le (f.loose d b.at tight) (λ e. tight)) (λ x o s le q. goes s le tt)

  head_value_tells : (b i : Input) → At i → b.at ≤ i.at → Tight d b.at → Fits b (head_value limits d below i)
  unfolding head_value
  head_value_tells b i at le tight = tells_then Any Any (below.exprs.inside Whole i) _ (inside b i at le tight) (λ x o s le q. goes s le tt)

  head_statement_tells : (b i : Input) → At i → b.at ≤ i.at → Tight d b.at → Fits b (head_statement limits d below i)
  unfolding head_statement
  head_statement_tells b i at le tight = tells_if Any (sees_one k.Let i) _ _ (λ e. head_let_tells b i at le tight) (λ e. head_value_tells b i at le tight)

  head_first_tells : (b i : Input) → At i → b.at ≤ i.at → Tight d b.at → Fits b (head_first limits d below i)
  unfolding head_first
  head_first_tells b i at le tight =
      let c = after_beyond f k.Semi i at in
      let low = c.low in
      tells_choice Any (sees_one k.Semi i) _ _ (after k.Semi i) (λ e. goes c.stands (omega arith) tt)
      (λ e. tells_then Any Any (head_statement limits d below (after k.Semi i)) _ (head_statement_tells b (after k.Semi i) c.stands (omega arith) tight)
      (λ x o s le q. tells_expect f Any b k.Semi o _ s le (λ s le e. goes s le tt)))

  upto_tells_at : (close : Lexeme) (b i : Input) → At i → b.at ≤ i.at → Tight d b.at → Fits b (head_value_upto limits d below close i)
  unfolding head_value_upto
  upto_tells_at close b i at le tight =
      let c = after_beyond f close i at in
      let low = c.low in
      tells_choice Any (sees_one close i) _ _ (after close i) (λ e. goes c.stands (omega arith) tt)
      (λ e. tells_then Any Any (below.exprs.inside Whole (after close i)) _ (inside b (after close i) c.stands (omega arith) tight)
      (λ x o s le q. tells_expect f Any b close o _ s le (λ s le e. goes s le tt)))

  steps_tell : (place : Place) (from : ℕ) (b i : Input) → At i → b.at ≤ i.at → Tight d b.at → Fits b (steps limits d below place from i)
  unfolding steps
  steps_tell place from b i at le tight =
      tells_then Any Any (head_first limits d below i) _ (head_first_tells b i at le tight)
      (λ x j s le q. tells_then Any Any (head_value_upto limits d below k.Semi j) _ (upto_tells_at k.Semi b j s le tight)
      (λ y m s le q. tells_then Any Any (head_value_upto limits d below k.RParen m) _ (upto_tells_at k.RParen b m s le tight)
      (λ z n s le q. tells_then Any Any (below.body (looped place) n) _ (body (looped place) b n s le tight) (λ w o s le q. goes s le tt))))

  for_tells : (place : Place) (i : Input) → At i → Room d i.at → Fits i (for_statement limits d below place i)
  unfolding for_statement
  for_tells place i at room =
      let a = next-up i in let b = next-up (next i) in
      let s = f.steps i at in
      tells_token f Any i k.LParen (next i) _ s
      (λ c. (
      let tight = open_tight (next i) s (f.room_up d i.at (next i).at a room) c in
      let t = f.steps (next i) s in
      tells_from Any _ (omega arith) (tells_if Any (begins_each (next (next i))) _ _
      (λ e. each_tells place (start i) (next (next i)) (next (next i)) t (omega arith) tight)
      (λ e. steps_tell place (start i) (next (next i)) (next (next i)) t (omega arith) tight))))

  -- ---- other statements

  nested_tells : (place : Place) (i : Input) → At i → Room d i.at → Fits i (nested limits d below place i)
  unfolding nested
  nested_tells place i at room = tells_then Any Any (below.block place i) _ (reads.block place i at room) (λ x o s le q. goes s le tt)

  answer_tells : (b i : Input) → At i → b.at ≤ i.at → Room d b.at → Fits b (answer limits d below i)
  unfolding answer
  answer_tells b i at le room = tells_if Any (r.stops i) _ _ (λ e. goes at le tt)
      (λ e. tells_then Any Any (value limits d below false i) _ (outside b i at le room) (λ x o s le q. goes s le tt))

  return_tells : (place : Place) (i : Input) → At i → Room d i.at → Fits i (return_statement limits d below place i)
  unfolding return_statement
  return_tells place i at room = tells_choice Any place.in_function _ _ i
      (λ e. tells_then Any Any (answer limits d below (next i)) _ (answer_tells i (next i) (f.steps i at) (next-up i) room)
      (λ x j s le q. tells_then Any Any (ending j) _ (ending_tells f i j s le) (λ u o s le q. goes s le tt)))
      (λ e. stops (f.syntax i at))

  evaluated_tells : (i : Input) → At i → Room d i.at → Fits i (evaluated limits d below i)
  unfolding evaluated
  evaluated_tells i at room =
      tells_then Any Any (value limits d below false i) _ (outside i i at (omega arith) room)
      (λ x j s le q. tells_then Any Any (ending j) _ (ending_tells f i j s le) (λ u o s le q. goes s le tt))

  pub statement_tells : (place : Place) (i : Input) → At i → Room d i.at → Fits i (statement limits d below place i)
  unfolding statement
  statement_tells place i at room = by (sees i)
    where
      by : (l : Lexeme) → Fits i (r.statement_by limits d below place l i)
      by k.Semi = empty_tells f i at
      by k.LBrace = nested_tells place i at room
      by k.If = if_tells place i at room
      by k.While = while_tells place i at room
      by k.For = for_tells place i at room
      by k.Break = break_tells f place i at
      by k.Continue = continue_tells f place i at
      by k.Return = return_tells place i at room
      by _ = evaluated_tells i at room

  pub item_tells : (place : Place) (i : Input) → At i → Room d i.at → Fits i (item limits d below place i)
  unfolding item
  item_tells place i at room = by (sees i)
    where
      by : (l : Lexeme) → Fits i (r.item_by limits d below place l i)
      by k.Let = let_tells i at room
      by k.Const = const_tells (start i) false i at room
      by _ = statement_tells place i at room

  pub braced_tells : (place : Place) (i : Input) → At i → Room (suc d) i.at → Fits i (braced limits d below place i)
  unfolding braced
  braced_tells place i at room = tells_token f Any i k.LBrace i _ at
      (λ c. tells_then Any Any (upto (item limits d below place) k.RBrace (next i)) _
      (tells_from Any (upto (item limits d below place) k.RBrace (next i)) (next-up i)
      (upto_tells f (item limits d below place) (Room d) (f.room_up d) (item_tells place) k.RBrace (next i) (f.steps i at) (f.brace d i at room c)))
      (λ found j s le q. (let up = next-up j in goes (f.steps j s) (omega arith) tt)))

  -- ---- functions

  params_tells : (b i : Input) → At i → b.at ≤ i.at → Fits b (params limits d below i)
  unfolding params
  params_tells b i at le = let up = next-up i in tells_if Any (sees_one k.LParen i) _ _ (λ e. tells_from Any (parameters i) (omega arith) (parameters_tells f i at)) (λ e. stops (f.syntax i at))

  pub func_tells : (from : ℕ) (exported : Bool) (i : Input) → At i → Room d i.at → Fits i (func limits d below from exported i)
  unfolding func
  func_tells from exported i at room =
      tells_then Any Any (name (next i)) _ (name_on f i (next i) (f.steps i at) (next-up i))
      (λ found j s le q. tells_then Any Any (params limits d below j) _ (params_tells i j s le)
      (λ given m s le q. tells_then Any Any (below.block in_function m) _ (tells_from Any (below.block in_function m) le (reads.block in_function m s (f.room_up d i.at m.at le room)))
      (λ body o s le q. goes s le tt)))
