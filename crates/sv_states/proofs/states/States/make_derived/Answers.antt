use Rattle.sv_value.specs.View.{view_of}
use Rattle.sv_states.proofs.Keeping.{kept-derived}
use Rattle.sv_states.proofs.states.States.make_derived.Goals as goal

pub invariant_of-self : goal.invariant_of-self
invariant_of-self c = kept-derived c.make_derived.result c.self.inside.board c.make_derived.new.self c.args.owner.number c.args.recipe (view_of c.args.value) c.self.invariant c.make_derived.ensures.ok c.make_derived.ensures.err c.make_derived.ensures.ready
