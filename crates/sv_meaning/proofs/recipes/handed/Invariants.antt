use Rattle.std.proofs.Common.{◌≡◌, ◌++◌, map, drop}
use Rattle.sv_value.specs.View.{view_of}
use Rattle.sv_meaning.specs.Derived.{input_values}
use Rattle.sv_meaning.proofs.recipes.handed.Given as goal

abbrev pub invariant-loop-id : goal.invariant-loop-id
invariant-loop-id l = input_values l.world.states.stores l.recipe.inputs ≡ map view_of l.values.items ++ input_values l.world.states.stores (drop l.id-index l.recipe.inputs)
