-- What statements do (ECMA-262, section 14). Each takes a step, but imports, functions at the top of a file, and reactive statements where they
-- stand: those run when their turn comes.
use Rattle.std.specs.Prelude.{ℕ, zero, suc, nat_eq, Bool, true, false, List, [], ◌∷◌, ◌++◌, length, map, take, Option, Some, None, option_map, slice_set, if◌then◌else◌}
use Rattle.sv_base.specs.declared.names.Name.{Name}
use Rattle.sv_base.specs.declared.span.Span.{Span}
use Rattle.sv_code.specs.declared.code.Code.{Code}
use Rattle.sv_code.specs.declared.functions.CodeArm.{CodeArm, CodeArm-F, fold-CodeArm}
use Rattle.sv_code.specs.declared.functions.CodeDecl.{CodeDecl}
use Rattle.sv_code.specs.declared.functions.CodeStmt.{CodeStmt, CodeStmt-F, fold-CodeStmt}
use Rattle.sv_code.specs.declared.functions.CodeStmtKind.{CodeStmtKind, CodeStmtKind-F, fold-CodeStmtKind}
use Rattle.sv_code.specs.declared.known.Known.{Known}
use Rattle.sv_code.specs.declared.known.Known.TheVariants as known
use Rattle.sv_ops.specs.declared.faults.FaultKind.TheVariants.{NotAList, NotAStore, Steps}
use Rattle.sv_states.specs.Moving.{may_hold}
use Rattle.sv_states.specs.Change.{declared, subscribed_to}
use Rattle.sv_value.specs.Change.{truthy}
use Rattle.sv_value.specs.Value.{Val, undefined, list, store, items}
use Rattle.sv_view.specs.Constants.{with_module_constant}
use Rattle.sv_world.specs.Setup.{set_up}
use Rattle.sv_world.specs.declared.world.World.{World}
use Rattle.sv_meaning.specs.Calls.{Caller}
use Rattle.sv_meaning.specs.Env.{Env, given_value, opened}
use Rattle.sv_meaning.specs.Outcome.{Ends, Fails, Done, Failed, Meaning, Deed, Flow, Next, Broken, Continued, Returned, and_then, either, counted}
use Rattle.sv_meaning.specs.Sight.{Ground}
use Rattle.sv_meaning.specs.Values.{value}

-- ---- declarations

-- the value of code, undefined where there is none
abbrev pub value_or : Option (Meaning Val) → Meaning Val
value_or None env w = Done undefined env w
value_or (Some m) env w = m env w

-- a constant of the file in which code is written gets its value
abbrev pub constant_set : ℕ → ℕ → ℕ → Val → World → World
constant_set owner file n v w =
    if nat_eq owner 0 then record w { modules = with_module_constant w.modules file n v } else set_up (λ u. record u { constants = slice_set u.constants n (Some v) }) w owner

-- a variable or a constant at the top of a file gets its first value
abbrev pub initialized : ℕ → Known → Span → Val → World → World
initialized owner (known.Cell n) s v w = record w { states = declared w.states (record { inst = owner; cell = n }) v }
initialized owner (known.Constant n) s v w = constant_set owner s.file n v w
initialized owner _ s v w = w

-- a name that is declared in a block or a function gets its first value
abbrev pub name_given : Known → Val → Env → Env
name_given (known.Local x) v env = given_value x.0 v env
name_given _ v env = env

-- the cell of a variable
abbrev pub variable : Known → Option ℕ
variable (known.Cell n) = Some n
variable _ = None

-- whether what has a `$` name may have a value: a constant has a store, a variable has a store or nothing
abbrev pub may_show : Option ℕ → Val → Bool
may_show None (store id) = true
may_show None _ = false
may_show (Some n) v = may_hold v

-- the cell of `$x` is subscribed to the store that `x` has, a constant or the variable in a cell; where a variable has nothing, it is undefined
abbrev pub subscribe : ℕ → ℕ → Option ℕ → Span → Val → Deed (Unit {0})
subscribe owner cell source s v w =
    if may_show source v then Ends tt (record w { states = subscribed_to w.states (record { inst = owner; cell = cell }) source v }) else Fails NotAStore s w

abbrev pub subscribe_if : Option ℕ → ℕ → Option ℕ → Span → Val → Deed (Unit {0})
subscribe_if None owner source s v w = Ends tt w
subscribe_if (Some cell) owner source s v w = subscribe owner cell source s v w

-- a declaration at the top of a file, with the value that its name gets
abbrev pub declare : ℕ → CodeDecl → Val → Deed (Unit {0})
declare owner d v w = subscribe_if d.store owner (variable d.target) d.name.span v (initialized owner d.target d.name.span v w)

abbrev pub go_on : Flow → Meaning Flow → Meaning Flow
go_on Next m = m
go_on f m = Done f

-- one after the other, up to the first that ends them
abbrev pub in_order : List (Meaning Flow) → Meaning Flow
in_order [] env w = Done Next env w
in_order (m ∷ ms) env w = and_then (m env w) (λ f. go_on f (in_order ms))

-- ---- loops

abbrev pub after_turn : Flow → Meaning Flow → Meaning Flow
after_turn Next m = m
after_turn Continued m = m
after_turn Broken m = Done Next
after_turn (Returned v) m = Done (Returned v)

-- whether a condition holds, which it does where there is none
abbrev pub tested : Option (Meaning Val) → Meaning Bool
tested None env w = Done true env w
tested (Some m) env w = and_then (m env w) (λ v. Done (truthy v))

-- at most so many turns of a loop; each takes a step at least, so that none is wanted beyond the steps that are left
abbrev pub turns : ℕ → Span → Option (Meaning Val) → Option (Meaning Val) → Meaning Flow → Meaning Flow
turns zero s test next body env w = Failed Steps s w
turns (suc n) s test next body env w =
    and_then (tested test env w) (λ b. either b
    (λ env' w'. and_then (body env' w') (λ f. after_turn f (λ env'' w''. and_then (value_or next env'' w'') (λ u. turns n s test next body))))
    (Done Next))

abbrev pub loop : Span → Option (Meaning Val) → Option (Meaning Val) → Meaning Flow → Meaning Flow
loop s test next body env w = turns (suc w.turn.steps) s test next body env w

-- names that are open inside alone
abbrev pub scoped : {A : Type 0} → Env → Meaning A → Meaning A
scoped names m env w = and_then (m (env ++ names) w) (λ a env'. Done a (take (length env) env'))

-- the turn of an item
abbrev pub item_turn : Name → Val → Meaning Flow → Meaning Flow
item_turn x v body = scoped ((x.0, Some v) ∷ []) body

-- a turn for each item
abbrev pub item_turns : Name → List Val → Meaning Flow → Meaning Flow
item_turns x [] body env w = Done Next env w
item_turns x (v ∷ vs) body env w = and_then (item_turn x v body env w) (λ f. after_turn f (item_turns x vs body))

abbrev pub over_list : Span → Name → Meaning Flow → Val → Meaning Flow
over_list s x body (list vs) = item_turns x (items vs) body
over_list s x body _ = λ env w. Failed NotAList s w

-- the list of a `for` stands in the scope of its name
abbrev pub each_step : Span → Name → Meaning Val → Meaning Flow → Meaning Flow
each_step s x m body env w = and_then (scoped (opened (x ∷ [])) m env w) (over_list s x body)

-- what may be absent does nothing
abbrev pub otherwise : Option (Meaning Flow) → Meaning Flow
otherwise None = Done Next
otherwise (Some m) = m

abbrev pub for_step : Span → Env → Option (Meaning Flow) → Option (Meaning Val) → Option (Meaning Val) → Meaning Flow → Meaning Flow
for_step s names first test next body = scoped names (λ env w. and_then (otherwise first env w) (λ f. loop s test next body))

-- ---- each form, with what is made of its parts

-- a statement of a form: it does nothing where it stands, and takes no step; or it takes one and does something
pub data Doing : Type 0 where
  Silent : Doing
  Counts : (Span → Meaning Flow) → Doing

abbrev pub takes_step : Doing → Bool
takes_step Silent = false
takes_step (Counts f) = true

-- what it does once its step is taken
abbrev pub does : Doing → Span → Meaning Flow
does Silent s = Done Next
does (Counts f) s = f s

abbrev pub done : Doing → Span → Meaning Flow
done Silent s = Done Next
done (Counts f) s = counted s (f s)

-- a branch of an `if`
pub record Arm : Type 0 where
  pub test : Meaning Val
  pub body : Meaning Flow

abbrev pub first_of : List Arm → Option (Meaning Flow) → Meaning Flow
first_of [] last env w = otherwise last env w
first_of (a ∷ arms) last env w = and_then (a.test env w) (λ v. either (truthy v) a.body (first_of arms last))

module _ (g : Ground) (call : Caller) (owner : ℕ) where
  abbrev pub valued : Option Code → Option (Meaning Val)
  valued e = option_map (value g call owner) e

  -- a declaration in a block or a function
  abbrev pub decl_of : CodeDecl → Meaning Flow
  decl_of d env w = and_then (value_or (valued d.first) env w) (λ v env'. Done Next (name_given d.target v env'))

  abbrev pub stmt_kind_step : CodeStmtKind-F Doing Arm (Meaning Flow) → Doing
  stmt_kind_step CodeStmtKind-F.Empty = Counts (λ s. Done Next)
  stmt_kind_step (CodeStmtKind-F.Block names ms) = Counts (λ s. scoped (opened names) (in_order ms))
  stmt_kind_step (CodeStmtKind-F.Let ds) = Counts (λ s. in_order (map decl_of ds))
  stmt_kind_step (CodeStmtKind-F.Const ds exported) = Counts (λ s. in_order (map decl_of ds))
  stmt_kind_step (CodeStmtKind-F.If arms last) = Counts (λ s. first_of arms last)
  stmt_kind_step (CodeStmtKind-F.While test body) = Counts (λ s. loop s (Some (value g call owner test)) None body)
  stmt_kind_step (CodeStmtKind-F.For names first test next body) = Counts (λ s. for_step s (opened names) first (valued test) (valued next) body)
  stmt_kind_step (CodeStmtKind-F.Each x fixed e body) = Counts (λ s. each_step s x.name (value g call owner e) body)
  stmt_kind_step CodeStmtKind-F.Break = Counts (λ s. Done Broken)
  stmt_kind_step CodeStmtKind-F.Continue = Counts (λ s. Done Continued)
  stmt_kind_step (CodeStmtKind-F.Return e) = Counts (λ s env w. and_then (value_or (valued e) env w) (λ v. Done (Returned v)))
  stmt_kind_step (CodeStmtKind-F.Eval e) = Counts (λ s env w. and_then (value g call owner e env w) (λ v. Done Next))
  stmt_kind_step (CodeStmtKind-F.Import i) = Silent
  stmt_kind_step (CodeStmtKind-F.Export ds) = Counts (λ s. in_order (map decl_of ds))
  stmt_kind_step (CodeStmtKind-F.React m) = Silent
  stmt_kind_step (CodeStmtKind-F.Function x exported target c) = Silent

  abbrev pub stmt_step : CodeStmt-F Doing Arm (Meaning Flow) → Meaning Flow
  stmt_step s = done s.kind s.span

  abbrev pub arm_step : CodeArm-F Doing Arm (Meaning Flow) → Arm
  arm_step a = record { test = value g call owner a.test; body = a.body }

  -- what a statement does
  abbrev pub run : CodeStmt → Meaning Flow
  run = fold-CodeStmt Doing Arm (Meaning Flow) stmt_kind_step arm_step stmt_step

  abbrev pub doing_of : CodeStmtKind → Doing
  doing_of = fold-CodeStmtKind Doing Arm (Meaning Flow) stmt_kind_step arm_step stmt_step

  abbrev pub arm_of : CodeArm → Arm
  arm_of = fold-CodeArm Doing Arm (Meaning Flow) stmt_kind_step arm_step stmt_step

  -- what statements do in turn
  abbrev pub run_all : List CodeStmt → Meaning Flow
  run_all stmts = in_order (map run stmts)
