use Rattle.sv_value.specs.View.{view_of}
use Rattle.sv_states.specs.Assignment.{computed}
use Rattle.sv_states.specs.Board.{seen_as}
use Rattle.sv_states.proofs.Keeping.{kept-result}
use Rattle.sv_states.proofs.Making.{tally-computed}
use Rattle.sv_states.proofs.Sounding.{sound-computed}
use Rattle.sv_states.proofs.states.States.settle_one.Goals as goal

pub invariant_of-self : goal.invariant_of-self
invariant_of-self c = kept-result c.settle_one.result c.self.inside.board c.settle_one.new.self (computed (seen_as c.self.inside.board) c.args.id (view_of c.args.value)) c.self.invariant c.settle_one.ensures.ok c.settle_one.ensures.ready c.settle_one.ensures.err (sound-computed (seen_as c.self.inside.board) c.args.id (view_of c.args.value) c.self.invariant.sound)
    (tally-computed (seen_as c.self.inside.board) c.args.id (view_of c.args.value))
