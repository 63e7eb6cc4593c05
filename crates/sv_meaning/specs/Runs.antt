-- What scripts do: those of module files, those of components as they are made, reactive statements, and the functions that the page calls.
use Rattle.std.specs.Prelude.{ℕ, nat_eq, Bool, true, false, ◌||◌, List, [], ◌∷◌, map, Option, Some, None, slice_get, if◌then◌else◌}
use Rattle.std.specs.List.{list_any}
use Rattle.sv_base.specs.declared.span.Span.{Span}
use Rattle.sv_code.specs.declared.functions.CodeDecl.{CodeDecl}
use Rattle.sv_code.specs.declared.functions.CodeStmt.{CodeStmt}
use Rattle.sv_code.specs.declared.functions.CodeArm.{CodeArm}
use Rattle.sv_code.specs.declared.functions.CodeStmtKind.{CodeStmtKind, CodeStmtKind-F, out-CodeStmtKind}
use Rattle.sv_code.specs.declared.known.Known.{Known}
use Rattle.sv_code.specs.declared.known.Known.TheVariants as known
use Rattle.sv_code.specs.declared.program.Component.{Component}
use Rattle.sv_code.specs.declared.program.FileCode.{FileCode}
use Rattle.sv_code.specs.declared.program.FileCode.TheVariants as file_code
use Rattle.sv_code.specs.declared.program.Program.{Program}
use Rattle.sv_code.specs.declared.program.ProgramFile.{ProgramFile}
use Rattle.sv_code.specs.declared.program.Run.{Run}
use Rattle.sv_code.specs.declared.program.StoreCell.{StoreCell}
use Rattle.sv_ops.specs.declared.faults.FaultKind.TheVariants.{NotAStore, UseBeforeInit}
use Rattle.sv_states.specs.Change.{declared}
use Rattle.sv_states.specs.States.{live, value_in, is_dirty_in}
use Rattle.sv_value.specs.Value.{Val, undefined, function, none}
use Rattle.sv_view.specs.Constants.{no_constants, module_constant_at}
use Rattle.sv_world.specs.declared.world.World.{World}
use Rattle.sv_meaning.specs.Calls.{Caller, call_value}
use Rattle.sv_meaning.specs.Components.{component_of}
use Rattle.sv_meaning.specs.Derived.{running}
use Rattle.sv_meaning.specs.Functions.{caller}
use Rattle.sv_meaning.specs.Outcome.{Ending, Ends, Fails, Deed, Meaning, Flow, Next, Done, and_then, then_do, doing, left, given, counted}
use Rattle.sv_meaning.specs.Settling.{settled}
use Rattle.sv_meaning.specs.Sight.{Ground}
use Rattle.sv_meaning.specs.Sources.{source_of}
use Rattle.sv_meaning.specs.Statements.{run, value_or, valued, declare, subscribe, constant_set, in_order}
use Rattle.sv_meaning.specs.declared.limits.TheConstants.{CALL_LIMIT}

-- scripts run in the world itself, where no code is that of a part
abbrev pub world_ground : Program → Ground
world_ground p = record { program = p; sight = None; arrows = record { from = 0; to = 0 }; is_own = false }

-- calls of scripts, none of which is open before
abbrev pub calls : Program → Caller
calls p = caller (running p) (world_ground p) CALL_LIMIT

-- derived stores settle, where no call is open
abbrev pub settle : Program → Deed (Unit {0})
settle p = settled (calls p).derives

-- things done in turn
abbrev pub each_in_turn : {A : Type 0} → (A → Deed (Unit {0})) → List A → Deed (Unit {0})
each_in_turn f [] w = Ends tt w
each_in_turn f (x ∷ xs) w = then_do (f x w) (λ u. each_in_turn f xs)

-- ---- statements at the top of a file

-- the functions of a file are there from the start
abbrev pub function_set : ℕ → Span → CodeStmtKind-F CodeStmtKind CodeArm CodeStmt → World → World
function_set owner s (CodeStmtKind-F.Function x exported (known.Constant n) c) w = constant_set owner s.file n (function c owner none) w
function_set owner s _ w = w

abbrev pub functions_set : ℕ → List CodeStmt → World → World
functions_set owner [] w = w
functions_set owner (s ∷ stmts) w = functions_set owner stmts (function_set owner s.span (out-CodeStmtKind s.kind) w)

-- what a statement at the top of a file declares, where it declares names
abbrev pub declarations : CodeStmtKind-F CodeStmtKind CodeArm CodeStmt → Option (List CodeDecl)
declarations (CodeStmtKind-F.Let ds) = Some ds
declarations (CodeStmtKind-F.Const ds exported) = Some ds
declarations (CodeStmtKind-F.Export ds) = Some ds
declarations _ = None

-- what was given for a prop
abbrev pub prop_given : List (ℕ × Val) → ℕ → Val
prop_given [] cell = undefined
prop_given (p ∷ props) cell = if nat_eq p.0 cell then p.1 else prop_given props cell

abbrev pub given_for : List (ℕ × Val) → Known → Val
given_for props (known.Cell n) = prop_given props n
given_for props _ = undefined

-- a prop has what was given, or its first value where that is undefined
abbrev pub prop_value : Val → Meaning Val → Meaning Val
prop_value undefined first = first
prop_value v first = Done v

module _ (p : Program) (owner : ℕ) (props : List (ℕ × Val)) where
  -- a name that is declared at the top has what was given for it as a prop, or its first value
  abbrev pub top_declared : CodeDecl → Meaning Flow
  top_declared d env w = and_then (prop_value (given_for props d.target) (value_or (valued (world_ground p) (calls p) owner d.first)) env w) (λ v. doing (λ w'. then_do (declare owner d v w') (λ u. Ends Next)))

  abbrev pub top_or : Option (List CodeDecl) → CodeStmt → Meaning Flow
  top_or (Some ds) s = counted s.span (in_order (map top_declared ds))
  top_or None s = run (world_ground p) (calls p) owner s

  -- a statement at the top of a file
  abbrev pub top : CodeStmt → Meaning Flow
  top s = top_or (declarations (out-CodeStmtKind s.kind)) s

  -- the script of a component, but for its reactive statements
  abbrev pub script : List CodeStmt → Deed (Unit {0})
  script stmts w = then_do (left (in_order (map top stmts) [] w)) (λ f. Ends tt)

-- ---- module files

abbrev pub constant_count : ProgramFile → ℕ
constant_count f = count f.code where
  count : FileCode → ℕ
  count (file_code.Component c) = 0
  count (file_code.Module m) = m.constants

-- the constants of all module files before any of them ran
abbrev pub modules_opened : Program → World → World
modules_opened p w = record w { modules = map no_constants (map constant_count p.files) }

abbrev pub run_module : Program → Option ProgramFile → Deed (Unit {0})
run_module p None w = Ends tt w
run_module p (Some f) w = go f.code where
  go : FileCode → Ending (Unit {0})
  go (file_code.Component c) = Ends tt w
  go (file_code.Module m) = script p 0 [] m.script (functions_set 0 m.script w)

-- the module files in the order in which they run
abbrev pub run_modules : Program → Deed (Unit {0})
run_modules p w = each_in_turn (λ n. run_module p (slice_get p.files n)) p.modules (modules_opened p w)

-- ---- components

-- cells that are there before any statement ran: those that only reactive statements declare, and that of the owner's view
abbrev pub cell_opened : ℕ → World → ℕ → World
cell_opened owner w n = record w { states = declared w.states (record { inst = owner; cell = n }) undefined }

abbrev pub cells_opened : ℕ → List ℕ → World → World
cells_opened owner [] w = w
cells_opened owner (n ∷ cells) w = cells_opened owner cells (cell_opened owner w n)

abbrev pub view_opened : ℕ → Option ℕ → World → World
view_opened owner None w = w
view_opened owner (Some n) w = cell_opened owner w n

-- a variable that is there already has its `$` name from the start
abbrev pub name_opened : Option Val → ℕ → ℕ → StoreCell → Deed (Unit {0})
name_opened None owner n x w = Ends tt w
name_opened (Some v) owner n x w = subscribe owner x.cell (Some n) x.span v w

-- what is imported in braces is subscribed to before the script runs, where it is a store; a constant or another variable is, where it is
-- declared
abbrev pub name_subscribed : ℕ → StoreCell → Deed (Unit {0})
name_subscribed owner x w = from x.holder where
  from : Known → Ending (Unit {0})
  from (known.Export file n) = then_do (given UseBeforeInit x.span (module_constant_at w.modules file n) w) (subscribe owner x.cell None x.span)
  from (known.Constant n) = Ends tt w
  from (known.Cell n) = name_opened (value_in (live w.states owner) n) owner n x w
  from _ = Fails NotAStore x.span w

abbrev pub opened : Component → ℕ → World → World
opened c owner w = functions_set owner c.script (view_opened owner c.view (cells_opened owner c.reactive w))

abbrev pub run_component : Program → Component → ℕ → List (ℕ × Val) → Deed (Unit {0})
run_component p c owner props w = then_do (each_in_turn (name_subscribed owner) c.stores (opened c owner w)) (λ u. script p owner props c.script)

-- the script of an instance, with what was given for its props
abbrev pub run_top : Program → ℕ → List (ℕ × Val) → Deed (Unit {0})
run_top p i props w = go (component_of p w i) where
  go : Option Component → Ending (Unit {0})
  go None = Ends tt w
  go (Some c) = run_component p c i props w

-- ---- reactive statements

-- whether a cell that a statement reads has changed since the last snapshot
abbrev pub is_due : Bool → ℕ → Run → World → Bool
is_due all i r w = all || list_any (is_dirty_in (live w.states i)) r.reads

abbrev pub inner_kind : CodeStmtKind-F CodeStmtKind CodeArm CodeStmt → CodeStmt → CodeStmt
inner_kind (CodeStmtKind-F.React inner) s = inner
inner_kind _ s = s

-- the statement behind the mark of a reactive one
abbrev pub inner : CodeStmt → CodeStmt
inner s = inner_kind (out-CodeStmtKind s.kind) s

abbrev pub run_at : Program → ℕ → Option CodeStmt → Deed (Unit {0})
run_at p i None w = Ends tt w
run_at p i (Some s) w = then_do (left (run (world_ground p) (calls p) i (inner s) [] w)) (λ f. Ends tt)

-- a statement runs where it is due as its turn comes
abbrev pub run_due : Program → Bool → ℕ → List CodeStmt → Run → Deed (Unit {0})
run_due p all i stmts r w = go (is_due all i r w) where
  go : Bool → Ending (Unit {0})
  go true = run_at p i (slice_get stmts r.stmt) w
  go false = Ends tt w

-- the reactive statements of an instance, all of them or those that are due
abbrev pub run_reactive : Program → ℕ → Bool → Deed (Unit {0})
run_reactive p i all w = go (component_of p w i) where
  go : Option Component → Ending (Unit {0})
  go None = Ends tt w
  go (Some c) = each_in_turn (run_due p all i c.script) c.runs w

-- ---- calls by the page

-- a function that the page calls: a callback, or a listener of an element
abbrev pub called : Program → Val → List Val → Span → Deed Val
called p v args s w = call_value (calls p) (source_of p v s) v args w
