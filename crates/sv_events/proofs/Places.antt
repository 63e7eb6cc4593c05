-- Places that are read one after another.
use Rattle.std.proofs.Common.{ℕ, List, ◌++◌, drop, map, Option, option_map}
use Rattle.serde_json.specs.View.{view}
use Rattle.serde_json.specs.declared.value.Value.{Value}
use Rattle.sv_events.specs.Target.{places}

-- places behind those that were read
abbrev pub placed : List ℕ → Option (List ℕ) → Option (List ℕ)
placed done more = option_map (λ ns. done ++ ns) more

-- those of the values from one on
abbrev pub left : List Value → ℕ → Option (List ℕ)
left vs at = places (map view (drop at vs))
