use Rattle.sv_flush.specs.Flush.{until_settled, updated}
use Rattle.sv_flush.proofs.Queue.{Settling}
use Rattle.sv_flush.proofs.machine.Machine.update_all.Given as goal

abbrev pub invariant-loop-inst : goal.invariant-loop-inst
invariant-loop-inst l = Settling (updated l.self.program.now) (until_settled (updated l.self.program.now) l.fn.page) l.left l.page

abbrev pub decreases-loop-inst : goal.decreases-loop-inst
decreases-loop-inst l = l.left
