use Rattle.std.proofs.Common.{◌≡◌, [], map, drop}
use Rattle.sv_value.specs.View.{view_of}
use Rattle.sv_meaning.specs.Settling.{inputs_after}
use Rattle.sv_meaning.proofs.recipes.inputs_of.Given as goal

abbrev pub invariant-loop-value : goal.invariant-loop-value
invariant-loop-value l = inputs_after [] l.world.states.stores (map view_of l.values) ≡ inputs_after l.ids.items l.world.states.stores (map view_of (drop l.value-index l.values))
