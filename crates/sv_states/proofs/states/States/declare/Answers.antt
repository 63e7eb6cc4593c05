use Rattle.sv_value.specs.View.{view_of}
use Rattle.sv_store.specs.Kept.{subscriber_of}
use Rattle.sv_states.specs.Change.{declared}
use Rattle.sv_states.specs.Board.{seen_as}
use Rattle.sv_states.proofs.Keeping.{kept_as}
use Rattle.sv_states.proofs.Sounding.{sound-declared}
use Rattle.sv_states.proofs.states.States.declare.Goals as goal

pub invariant_of-self : goal.invariant_of-self
invariant_of-self c = kept_as c.declare.new.self (declared (seen_as c.self.inside.board) (subscriber_of c.args.at) (view_of c.args.value)) c.declare.ensures.states c.declare.ensures.ready (sound-declared (seen_as c.self.inside.board) (subscriber_of c.args.at) (view_of c.args.value) c.self.invariant.sound) c.self.invariant.made
