use Rattle.std.proofs.Common.{◌≡◌, [], replicate}
use Rattle.sv_effects.proofs.known.unknown.Given as goal

abbrev pub invariant-loop : goal.invariant-loop
invariant-loop l = l.known.items ≡ replicate l.counter []
