use Rattle.sv_effects.proofs.Owning.{AreOwn}
use Rattle.sv_effects.proofs.known.own.Given as goal

abbrev pub invariant-loop-point : goal.invariant-loop-point
invariant-loop-point l = AreOwn l.only_given l.functions l.count l.point l.own.items
