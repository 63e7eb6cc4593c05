-- Pure evaluations: the value of an expression of markup on a view. It has steps and open calls of its own, and leaves nothing behind.
use Rattle.std.specs.Prelude.{true, [], Some, Result, Ok, Err}
use Rattle.sv_code.specs.declared.parts.Arrows.{Arrows}
use Rattle.sv_code.specs.declared.parts.Part.{Part}
use Rattle.sv_code.specs.declared.program.Program.{Program}
use Rattle.sv_ops.specs.declared.faults.Fault.{Fault}
use Rattle.sv_states.specs.Empty.{no_states}
use Rattle.sv_value.specs.Value.{Val}
use Rattle.sv_view.specs.Level.{View}
use Rattle.sv_world.specs.Turn.{fresh}
use Rattle.sv_world.specs.declared.world.World.{World}
use Rattle.sv_meaning.specs.Env.{shown}
use Rattle.sv_meaning.specs.Functions.{caller, silent}
use Rattle.sv_meaning.specs.Outcome.{Outcome, Done, Failed}
use Rattle.sv_meaning.specs.Sight.{Ground}
use Rattle.sv_meaning.specs.Values.{value}
use Rattle.sv_meaning.specs.declared.limits.TheConstants.{CALL_LIMIT, PART_STEP_LIMIT}

-- the world of a pure evaluation: nothing, and the steps that it may take
abbrev pub part_world : World
part_world = record { states = no_states; modules = []; turn = record fresh { steps = PART_STEP_LIMIT } }

-- where a part runs in which some arrows are written
abbrev pub ground : Program → View → Arrows → Ground
ground p v arrows = record { program = p; sight = Some v; arrows = arrows; is_own = true }

abbrev pub result_of : Outcome Val → Result Val Fault
result_of (Done v env w) = Ok v
result_of (Failed k s w) = Err (record { kind = k; span = s })

-- what a part does on a view
abbrev pub part_outcome : Program → View → Part → Outcome Val
part_outcome p v part = value (ground p v part.arrows) (caller silent (ground p v part.arrows) CALL_LIMIT) v.own.inst part.code (shown v.own.locals) part_world

-- the value of a part on a view, or its fault
abbrev pub part_value : Program → View → Part → Result Val Fault
part_value p v part = result_of (part_outcome p v part)
