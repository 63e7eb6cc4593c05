use Rattle.std.proofs.Common.{◌≡◌, map}
use Rattle.sv_checks.specs.Deeds.{behind, deeds_from}
use Rattle.sv_checks.specs.Tells.{seen}
use Rattle.sv_checks.proofs.Telling.{left}
use Rattle.sv_checks.proofs.deed.deeds_of.Given as goal

abbrev pub invariant-loop-at : goal.invariant-loop-at
invariant-loop-at l = deeds_from 0 l.steps ≡ behind (map seen l.deeds.items) (left l.steps l.at)
