use Rattle.std.specs.Prelude.{slice_get}
use Rattle.sv_parts.proofs.Steps.{Left}
use Rattle.sv_parts.specs.Attributes.{attr_step, attrs_step}
use Rattle.sv_parts.specs.Sides.{sides}
use Rattle.sv_parts.specs.State.{one}
use Rattle.sv_parts.proofs.attributes.show_attrs.Given as goal

abbrev pub invariant-loop-index : goal.invariant-loop-index
invariant-loop-index l =
    Left (λ a i u. one (attr_step l.here.program.now a (slice_get l.olds i) (sides l.here) u)) (attrs_step l.here.program.now l.attrs l.olds (sides l.here) l.fn.state) l.attrs l.index l.all l.state
