use Rattle.sv_states.specs.Change.{removed}
use Rattle.sv_states.specs.Board.{seen_as}
use Rattle.sv_states.proofs.Keeping.{kept_as}
use Rattle.sv_states.proofs.Making.{made-same, tally-removed}
use Rattle.sv_states.proofs.Sounding.{sound-removed}
use Rattle.sv_states.proofs.states.States.remove.Goals as goal

pub invariant_of-self : goal.invariant_of-self
invariant_of-self c =
    kept_as c.remove.new.self (removed (seen_as c.self.inside.board) c.args.inst.number) c.remove.ensures.states c.remove.ensures.ready (sound-removed (seen_as c.self.inside.board) c.args.inst.number c.self.invariant.sound)
    (made-same (seen_as c.self.inside.board) (removed (seen_as c.self.inside.board) c.args.inst.number) (tally-removed (seen_as c.self.inside.board) c.args.inst.number) c.self.invariant.made)
