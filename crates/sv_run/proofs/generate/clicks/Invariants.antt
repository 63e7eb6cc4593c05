use Rattle.std.proofs.Common.{◌≡◌}
use Rattle.std.proofs.Math.ListN.{replicate}
use Rattle.sv_run.specs.Generated.{click}
use Rattle.sv_run.proofs.generate.clicks.Given as goal

abbrev pub invariant-loop : goal.invariant-loop
invariant-loop l = l.events.items ≡ replicate l.counter click
