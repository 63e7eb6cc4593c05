use Rattle.std.proofs.Common.{◌<◌, ◌∙◌, [], map, length}
use Rattle.std.proofs.lemmas.List.{at_drop_all}
use Rattle.std.proofs.lemmas.List.Elements.{All-nil}
use Rattle.sv_value.specs.View.{view_of}
use Rattle.sv_meaning.specs.Settling.{inputs_after}
use Rattle.sv_meaning.proofs.Inputs.{inputs_below}
use Rattle.sv_meaning.proofs.recipes.inputs_of.Goals as goal

pub returns-clause-made : goal.returns-clause-made
returns-clause-made c =
    let stores = c.args.world.now.states.stores in
    let values = c.args.values.now in
    let ids = c.loop-value.ids.items in
    let all = c.loop-value.invariant ∙ at_drop_all (λ rest. inputs_after ids stores (map view_of rest)) values c.loop-value.value-index c.loop-value-test.false in
    inputs_below stores [] (map view_of values) ids (All-nil (λ m. m < length stores)) all
