use Rattle.sv_parts.proofs.Steps.{Left}
use Rattle.sv_parts.specs.Sides.{sides}
use Rattle.sv_plan.specs.Slots.{props_of, props_step}
use Rattle.sv_parts.specs.Tags.{passed_name}
use Rattle.sv_plan.proofs.slots.take_props.Given as goal

abbrev pub invariant-loop-attr : goal.invariant-loop-attr
invariant-loop-attr l =
    Left (λ a i u. props_of l.here.program.now a (passed_name a) l.olds (sides l.here) u) (props_step l.here.program.now l.attrs l.olds (sides l.here) l.fn.state) l.attrs l.attr-index l.props l.state
