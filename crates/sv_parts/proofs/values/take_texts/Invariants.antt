use Rattle.std.specs.Prelude.{slice_get}
use Rattle.sv_parts.proofs.Steps.{Left}
use Rattle.sv_parts.specs.Sides.{sides}
use Rattle.sv_parts.specs.State.{one}
use Rattle.sv_parts.specs.Values.{part_text, part_texts}
use Rattle.sv_parts.proofs.values.take_texts.Given as goal

abbrev pub invariant-loop-index : goal.invariant-loop-index
invariant-loop-index l =
    Left (λ x i u. one (part_text l.here.program.now (sides l.here) x (slice_get l.olds i) u)) (part_texts l.here.program.now (sides l.here) l.olds l.parts l.fn.state) l.parts l.index l.texts l.state
