use Rattle.sv_effects.proofs.Owning.{own_all}
use Rattle.sv_effects.proofs.known.own.Goals as goal

pub returns : goal.returns
returns c = own_all c.args.only_given c.args.functions.now c.args.count c.loop-point.point c.loop-point.own.items c.loop-point.invariant c.loop-point-test.false
