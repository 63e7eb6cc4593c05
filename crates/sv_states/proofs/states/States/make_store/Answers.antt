use Rattle.sv_value.specs.View.{view_of}
use Rattle.sv_states.proofs.Keeping.{kept-made}
use Rattle.sv_states.proofs.states.States.make_store.Goals as goal

pub invariant_of-self : goal.invariant_of-self
invariant_of-self c = kept-made c.make.result c.self.inside.board c.make.new.self (view_of c.args.value) c.self.invariant c.make.ensures.ok c.make.ensures.err
