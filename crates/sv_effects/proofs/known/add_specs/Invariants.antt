use Rattle.std.proofs.Common.{◌≡◌, drop}
use Rattle.std.specs.List.{flat_map}
use Rattle.sv_names.specs.NameMap.{with_entries}
use Rattle.sv_effects.specs.Known.{named_by}
use Rattle.sv_effects.proofs.known.add_specs.Given as goal

abbrev pub invariant-loop-item : goal.invariant-loop-item
invariant-loop-item l = with_entries l.fn.known (flat_map (named_by l.given) l.specs) ≡ with_entries l.known (flat_map (named_by l.given) (drop l.item-index l.specs))
