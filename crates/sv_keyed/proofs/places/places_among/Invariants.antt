use Rattle.std.proofs.Common.{◌≡◌, map, take}
use Rattle.sv_keyed.specs.Keys.{place_of}
use Rattle.sv_keyed.proofs.places.places_among.Given as goal

abbrev pub invariant-loop-key : goal.invariant-loop-key
invariant-loop-key l = l.places.items ≡ map (place_of l.others) (take l.key-index l.keys)
