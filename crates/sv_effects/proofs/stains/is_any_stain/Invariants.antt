use Rattle.std.proofs.Common.{◌≡◌, drop}
use Rattle.std.specs.List.{list_any}
use Rattle.sv_effects.specs.Stains.{stains_among}
use Rattle.sv_effects.proofs.stains.is_any_stain.Given as goal

abbrev pub invariant-loop-sign : goal.invariant-loop-sign
invariant-loop-sign l = list_any (stains_among l.names l.top l.known) l.signs ≡ list_any (stains_among l.names l.top l.known) (drop l.sign-index l.signs)
