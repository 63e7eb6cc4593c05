use Rattle.sv_flush.specs.Flush.{until_settled, round}
use Rattle.sv_flush.proofs.Queue.{Settling}
use Rattle.sv_flush.proofs.machine.Machine.settle.Given as goal

abbrev pub invariant-loop-left : goal.invariant-loop-left
invariant-loop-left l = Settling (λ _. round l.self.program.now) (until_settled (λ _. round l.self.program.now) l.fn.page) l.left l.page

abbrev pub decreases-loop-left : goal.decreases-loop-left
decreases-loop-left l = l.left
