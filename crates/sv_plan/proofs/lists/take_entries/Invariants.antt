use Rattle.std.proofs.Common.{map}
use Rattle.sv_parts.proofs.Steps.{Left}
use Rattle.sv_plan.specs.Lists.{entry_step, entries_step, head_of}
use Rattle.sv_parts.specs.Sides.{sides}
use Rattle.sv_parts.specs.State.{one}
use Rattle.sv_value.specs.View.{view_of}
use Rattle.sv_plan.proofs.lists.take_entries.Given as goal

abbrev pub invariant-loop-index : goal.invariant-loop-index
invariant-loop-index l =
    Left (λ item i u. one (entry_step l.here.program.now (head_of l.block) (sides l.here) l.list i item u)) (entries_step l.here.program.now (head_of l.block) (sides l.here) l.list (map view_of l.items) l.fn.state)
    (map view_of l.items) l.index l.entries l.state
