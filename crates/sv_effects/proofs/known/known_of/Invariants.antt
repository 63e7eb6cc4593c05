use Rattle.sv_effects.proofs.Owning.{AreKnown}
use Rattle.sv_effects.proofs.known.known_of.Given as goal

abbrev pub invariant-loop-file : goal.invariant-loop-file
invariant-loop-file l = AreKnown l.bundle l.file l.known.items
