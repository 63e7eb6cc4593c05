use Rattle.sv_states.proofs.Subscribing.{ready_placed}
use Rattle.sv_states.proofs.board.Board.look.Goals as goal

pub take-requires-clause-ready : goal.take-requires-clause-ready
take-requires-clause-ready c = ready_placed c.args.self.now c.args.name.inst.number c.args.name.cell c.args.store c.requires.ready c.place.new.self c.place.ensures
