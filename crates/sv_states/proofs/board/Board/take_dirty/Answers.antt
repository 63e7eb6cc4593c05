use Rattle.std.proofs.Common.{sym, arith}
use Rattle.sv_states.proofs.Ready.{ready_cells}
use Rattle.sv_states.proofs.Ending.{snapped-none, snapped-idle, snapped_counts, ready_left}
use Rattle.sv_states.proofs.board.Board.take_dirty.Goals as goal

pub returns-in_default-clause-states : goal.returns-in_default-clause-states
returns-in_default-clause-states c = snapped-none c.args.self.now c.args.inst.number c.requires (sym c.in_default.ensures.value)

pub returns-then-instance-clause-ready : goal.returns-then-instance-clause-ready
returns-then-instance-clause-ready c = ready_left c.args.self.now c.args.inst.number c.requires c.in-Some.instance.now c.in-Some.ensures.value c.take_dirty-dirty.new.self c.take_dirty-dirty.ensures.cells c.leave.new.self c.if-instance.true c.leave.ensures

pub returns-else-instance-clause-states : goal.returns-else-instance-clause-states
returns-else-instance-clause-states c = snapped-idle c.args.self.now c.args.inst.number c.requires c.in-Some.instance.now c.in-Some.ensures.value c.take_dirty-dirty.new.self c.take_dirty-dirty.ensures.cells c.if-instance.false

pub returns-else-instance-clause-ready : goal.returns-else-instance-clause-ready
returns-else-instance-clause-ready c =
    ready_cells c.args.self.now c.args.inst.number c.in-Some.instance.now c.requires.ready c.in-Some.ensures.value c.take_dirty-dirty.new.self _ (omega arith)
    (snapped_counts c.args.self.now c.args.inst.number c.requires c.in-Some.instance.now c.in-Some.ensures.value c.take_dirty-dirty.new.self c.take_dirty-dirty.ensures.cells)
