use Rattle.std.proofs.lemmas.Result.{on_ok_weaker}
use Rattle.sv_purity.specs.Scopes.{visible}
use Rattle.sv_impure.proofs.Nodes.{key_on, each_some, each_none}
use Rattle.sv_impure.proofs.walk.+walk.Goals as goal

pub find_node-returns-in-Some-none : goal.find_node-returns-in-Some-none
find_node-returns-in-Some-none t c =
    on_ok_weaker c.find_nodes-in-Some-none.result
    (each_some c.args.node.now c.in-Each.span c.in-Each.list c.in-Each.item c.in-Each.index c.in-Each.key c.in-Each.body c.as_slice-in-Each.result.now c.in-Each.none c.in-Some-none.none c.as_slice-in-Some-none.result.now
    c.args.names.now (visible c.args.scope.now) c.args.places.now c.find_shown-in-Each.new.places c.find_row.new.places c.find_nodes-in-Some-none.new.places
    c.in-Each.is c.in-Some-none.is c.as_slice-in-Each.ensures c.as_slice-in-Some-none.ensures c.in_ok-find_shown-in-Each.ensures c.in_ok-find_row-in-Each.ensures)
    c.find_nodes-in-Some-none.ensures

pub find_node-returns-in-None-none : goal.find_node-returns-in-None-none
find_node-returns-in-None-none t c =
    each_none c.args.node.now c.in-Each.span c.in-Each.list c.in-Each.item c.in-Each.index c.in-Each.key c.in-Each.body c.as_slice-in-Each.result.now c.in-Each.none
    c.args.names.now (visible c.args.scope.now) c.args.places.now c.find_shown-in-Each.new.places c.find_row.new.places
    c.in-Each.is c.in-None-none.is c.as_slice-in-Each.ensures c.in_ok-find_shown-in-Each.ensures c.in_ok-find_row-in-Each.ensures

pub find_node-returns-in_ok-find_shown-in-Key : goal.find_node-returns-in_ok-find_shown-in-Key
find_node-returns-in_ok-find_shown-in-Key t c =
    on_ok_weaker c.find_nodes-in-Key.result
    (key_on c.args.node.now c.in-Key.span c.in-Key.value c.in-Key.body c.as_slice-in-Key.result.now c.args.names.now (visible c.args.scope.now) c.args.places.now c.find_shown-in-Key.new.places c.find_nodes-in-Key.new.places
    c.in-Key.is c.as_slice-in-Key.ensures c.in_ok-find_shown-in-Key.ensures)
    c.find_nodes-in-Key.ensures
