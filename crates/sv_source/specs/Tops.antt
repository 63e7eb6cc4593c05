-- What scripts do at the top of a file: what is declared there are the cells and the constants of the file, and its functions are there from the start.
use Rattle.std.specs.Prelude.{ℕ, List, [], ◌∷◌, map, Result}
use Rattle.sv_code.specs.declared.functions.CodeStmt.{CodeStmt}
use Rattle.sv_code.specs.declared.known.Known.TheVariants as known
use Rattle.sv_code.specs.declared.parts.Arrows.{Arrows}
use Rattle.sv_code.specs.declared.program.Program.{Program}
use Rattle.sv_meaning.specs.Calls.{Caller}
use Rattle.sv_meaning.specs.Derived.{running}
use Rattle.sv_meaning.specs.Env.{shown}
use Rattle.sv_meaning.specs.Functions.{silent}
use Rattle.sv_meaning.specs.Outcome.{Outcome, Ends, Deed, Meaning, Flow, Next, and_then, then_do, doing, left, counted}
use Rattle.sv_meaning.specs.Parts.{ground, part_world, result_of}
use Rattle.sv_meaning.specs.Runs.{given_for, inner, prop_value, world_ground}
use Rattle.sv_meaning.specs.Runs as code
use Rattle.sv_meaning.specs.Sight.{Ground}
use Rattle.sv_meaning.specs.Statements.{constant_set, in_order, initialized, run, subscribe_if, value_or, variable}
use Rattle.sv_meaning.specs.declared.limits.TheConstants.{CALL_LIMIT}
use Rattle.sv_base.specs.declared.span.Span.{Span}
use Rattle.sv_ops.specs.declared.faults.Fault.{Fault}
use Rattle.sv_view.specs.Level.{View}
use Rattle.sv_value.specs.Value.{Val, function, none}
use Rattle.sv_world.specs.declared.world.World.{World}
use Rattle.sv_source.specs.Functions.{Acts, Fun, caller}
use Rattle.sv_source.specs.Script.{Declared, Form, Declaring, Naming, Reacting, Line, Seen, does, runs}

-- a function that is a constant of the file gets its value
abbrev pub form_set : ℕ → Span → Form → World → World
form_set owner s (Naming (known.Constant n) c) w = constant_set owner s.file n (function c owner none) w
form_set owner s _ w = w

abbrev pub forms_set : ℕ → List Line → World → World
forms_set owner [] w = w
forms_set owner (l ∷ ls) w = forms_set owner ls (form_set owner l.span l.form w)

-- a declaration, with the value that its name gets
abbrev pub declare_top : ℕ → Declared → Val → Deed (Unit {0})
declare_top owner d v w = subscribe_if d.store owner (variable d.target) d.name.span v (initialized owner d.target d.name.span v w)

-- the statement behind the mark of a reactive one
abbrev pub behind_form : Form → Meaning Flow → Meaning Flow
behind_form (Reacting m) n = m
behind_form _ n = n

abbrev pub behind : Line → Meaning Flow
behind l = behind_form l.form (runs l)

-- what a statement does behind the mark of a reactive one
abbrev pub reacts : Line → World → Outcome Flow
reacts l w = behind l [] w

-- what its code does there
abbrev pub code_reacts : Program → ℕ → CodeStmt → World → Outcome Flow
code_reacts p owner s w = run (world_ground p) (code.calls p) owner (inner s) [] w

module _ (owner : ℕ) (props : List (ℕ × Val)) where
  -- a name that is declared at the top has what was given for it as a prop, or its first value
  abbrev pub declared_top : Declared → Meaning Flow
  declared_top d env w = and_then (prop_value (given_for props d.target) (value_or d.first) env w) (λ v. doing (λ w'. then_do (declare_top owner d v w') (λ u. Ends Next)))

  -- a statement at the top of a file
  abbrev pub top_form : Form → Line → Meaning Flow
  top_form (Declaring ds) l = counted l.span (in_order (map declared_top ds))
  top_form _ l = runs l

  abbrev pub top_line : Line → Meaning Flow
  top_line l = top_form l.form l

  -- a script, but for its reactive statements
  abbrev pub script : List Line → Deed (Unit {0})
  script ls w = then_do (left (in_order (map top_line ls) [] w)) (λ f. Ends tt)

-- ---- in a program with some functions

-- calls of scripts, none of which is open before
abbrev pub calls : List Fun → Program → Caller
calls functions p = caller functions (running p) (world_ground p) CALL_LIMIT

-- what is told of statements where scripts run
abbrev pub lines : List Fun → Program → ℕ → List (Acts Line) → List Line
lines functions p owner ls = map (λ l. l (world_ground p) (calls functions p) owner) ls

-- the value of a part of markup in which some arrows are written, on a view
abbrev pub part_means : List Fun → Program → View → Arrows → Seen → Result Val Fault
part_means functions p v arrows e =
    let g : Ground = ground p v arrows in result_of (does (e.sees g (caller functions silent g CALL_LIMIT) v.own.inst) (shown v.own.locals) part_world)
