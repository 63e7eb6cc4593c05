use Rattle.sv_states.specs.Change.{viewed}
use Rattle.sv_states.specs.Board.{seen_as}
use Rattle.sv_states.proofs.Keeping.{kept-result}
use Rattle.sv_states.proofs.Making.{tally-viewed}
use Rattle.sv_states.proofs.Sounding.{sound-viewed}
use Rattle.sv_states.proofs.states.States.set_owner_view.Goals as goal

pub invariant_of-self : goal.invariant_of-self
invariant_of-self c = kept-result c.set_owner_view.result c.self.inside.board c.set_owner_view.new.self (viewed (seen_as c.self.inside.board) c.args.at.inst.number c.args.at.cell c.args.view) c.self.invariant c.set_owner_view.ensures.ok c.set_owner_view.ensures.ready c.set_owner_view.ensures.err (sound-viewed (seen_as c.self.inside.board) c.args.at.inst.number c.args.at.cell c.args.view c.self.invariant.sound)
    (tally-viewed (seen_as c.self.inside.board) c.args.at.inst.number c.args.at.cell c.args.view)
