use Rattle.std.proofs.Common.{sym, subst}
use Rattle.sv_states.specs.Prepared.{IsNew}
use Rattle.sv_states.proofs.Keeping.{kept-added, new-born}
use Rattle.sv_states.proofs.states.States.add.Goals as goal

pub invariant_of-self-2 : goal.invariant_of-self-2
invariant_of-self-2 c =
    kept-added c.add.result c.self.inside.board c.add.new.self c.in_ok-instance.instance c.self.invariant c.add.ensures.ok c.add.ensures.err c.add.ensures.ready
    (subst IsNew (sym c.in_ok-instance.ensures) (new-born _ c.args.cells c.args.constants))
