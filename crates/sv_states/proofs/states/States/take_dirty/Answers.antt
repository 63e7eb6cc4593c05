use Rattle.sv_states.specs.Waiting.{snapped}
use Rattle.sv_states.specs.Board.{seen_as}
use Rattle.sv_states.proofs.Keeping.{kept_as}
use Rattle.sv_states.proofs.Sounding.{sound-snapped}
use Rattle.sv_states.proofs.states.States.take_dirty.Goals as goal

pub invariant_of-self : goal.invariant_of-self
invariant_of-self c = kept_as c.take_dirty.new.self (snapped (seen_as c.self.inside.board) c.args.inst.number) c.take_dirty.ensures.states c.take_dirty.ensures.ready (sound-snapped (seen_as c.self.inside.board) c.args.inst.number c.self.invariant.sound) c.self.invariant.made
