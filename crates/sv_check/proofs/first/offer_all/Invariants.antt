use Rattle.std.proofs.Common.{◌≡◌, fold, drop}
use Rattle.sv_resolve.specs.Earliest.{earlier}
use Rattle.sv_resolve.specs.Mistakes.{refused}
use Rattle.sv_check.proofs.first.offer_all.Given as goal

abbrev pub invariant-loop-at : goal.invariant-loop-at
invariant-loop-at l = fold earlier l.fn.first (refused l.kind l.places) ≡ fold earlier l.first (refused l.kind (drop l.at-index l.places))
