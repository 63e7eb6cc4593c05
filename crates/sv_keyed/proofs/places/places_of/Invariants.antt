use Rattle.std.proofs.Common.{◌≡◌, take, drop}
use Rattle.std.specs.BTreeMap.{get}
use Rattle.sv_value.specs.declared.key.Key.{Key}
use Rattle.sv_keyed.specs.Keys.{place_of, place_after}
use Rattle.sv_keyed.specs.Places.{key_order, FindsPlaces}
use Rattle.sv_keyed.proofs.places.places_of.Given as goal

-- the keys so far are found, and what is left gives the last place of each
abbrev pub invariant-loop-i : goal.invariant-loop-i
invariant-loop-i l = record {
  finds : FindsPlaces (get key_order l.places) l.keys (take l.i l.keys);
  rest : (k : Key) → place_of l.keys k ≡ place_after (get key_order l.places k) l.i (drop l.i l.keys) k;
}
