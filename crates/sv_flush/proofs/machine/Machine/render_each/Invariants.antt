use Rattle.std.proofs.Common.{map}
use Rattle.sv_flush.specs.Flush.{rendered_one}
use Rattle.sv_flush.specs.Outcome.{each}
use Rattle.sv_flush.specs.Waits.{waiting_of}
use Rattle.sv_flush.proofs.Steps.{Left}
use Rattle.sv_flush.proofs.machine.Machine.render_each.Given as goal

abbrev pub invariant-loop-one : goal.invariant-loop-one
invariant-loop-one l =
    Left (rendered_one l.self.program.now) (each (rendered_one l.self.program.now) (map waiting_of l.waiting) l.fn.page) (map waiting_of l.waiting) l.one-index l.page
