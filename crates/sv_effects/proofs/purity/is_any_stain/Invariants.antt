use Rattle.std.proofs.Common.{◌≡◌, drop}
use Rattle.std.specs.List.{list_any}
use Rattle.sv_effects.specs.Purity.{stains_beside}
use Rattle.sv_effects.proofs.purity.is_any_stain.Given as goal

abbrev pub invariant-loop-sign : goal.invariant-loop-sign
invariant-loop-sign l = list_any (stains_beside l.names l.purity) l.signs ≡ list_any (stains_beside l.names l.purity) (drop l.sign-index l.signs)
