use Rattle.std.proofs.Common.{◌≡◌, take, drop}
use Rattle.std.specs.BTreeMap.{get}
use Rattle.sv_keyed.specs.Keys.{first_repeat, repeat_after}
use Rattle.sv_keyed.specs.Places.{key_order, FindsPlaces}
use Rattle.sv_keyed.proofs.places.first_duplicate.Given as goal

-- the keys so far are found, and what is left gives the answer
abbrev pub invariant-loop-i : goal.invariant-loop-i
invariant-loop-i l = record {
  finds : FindsPlaces (get key_order l.places) l.keys (take l.i l.keys);
  rest : first_repeat l.keys ≡ repeat_after (take l.i l.keys) (drop l.i l.keys);
}
