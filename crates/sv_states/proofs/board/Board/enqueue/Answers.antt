use Rattle.std.proofs.Common.{sym}
use Rattle.sv_states.proofs.Ready.{room_for, ready_pushed}
use Rattle.sv_states.proofs.board.Board.enqueue.Goals as goal

pub push-requires : goal.push-requires
push-requires c = room_for c.args.self.now c.args.inst.number c.in-Some.instance.now c.requires (sym c.in-Some.ensures.value) c.if-not-instance.true

pub returns-then-not-instance-clause-ready : goal.returns-then-not-instance-clause-ready
returns-then-not-instance-clause-ready c = ready_pushed c.args.self.now c.args.inst.number c.in-Some.instance.now c.requires c.in-Some.ensures.value c.push.new.self c.if-not-instance.true c.push.ensures
