use Rattle.sv_states.proofs.Keeping.{kept-setup}
use Rattle.sv_states.proofs.states.States.setup_mut.Goals as goal

pub invariant_of-self-lent : goal.invariant_of-self-lent
invariant_of-self-lent c = kept-setup c.self.inside.board c.args.inst.number c.in-Some.instance.now c.in-Some.ensures.value c.self.invariant
