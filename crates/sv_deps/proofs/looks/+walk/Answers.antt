use Rattle.std.proofs.lemmas.Result.{on_ok_weaker}
use Rattle.sv_names.specs.Locals.{names_of}
use Rattle.sv_deps.proofs.Onward.{if_on, each_on, finds_absent, finds_present}
use Rattle.sv_deps.proofs.looks.+walk.Goals as goal

pub find_node-returns-in-None-none : goal.find_node-returns-in-None-none
find_node-returns-in-None-none t c =
    each_on c.args.node.now c.in-Each.list c.in-Each.item c.in-Each.index c.in-Each.key c.in-Each.body c.as_slice-in-Each.result.now c.in-Each.none c.args.seen.now c.find_part-in-Each.new.seen c.find_row.new.seen c.find_row.new.seen (names_of c.args.own.now)
    c.in-Each.is c.as_slice-in-Each.ensures c.in_ok-find_part-in-Each.ensures c.in_ok-find_row-in-Each.ensures (finds_absent c.in-Each.none c.find_row.new.seen (names_of c.args.own.now) c.in-None-none.is)

pub find_node-returns-in-Some : goal.find_node-returns-in-Some
find_node-returns-in-Some t c =
    on_ok_weaker c.find_nodes-in-Some.result
    (λ found. if_on c.args.node.now c.in-If.arms c.as_slice-in-If.result.now c.in-If.last c.args.seen.now c.find_arms.new.seen c.find_nodes-in-Some.new.seen (names_of c.args.own.now)
    c.in-If.is c.as_slice-in-If.ensures c.in_ok-find_arms-in-If.ensures (finds_present c.in-If.last c.in-Some.last c.as_slice-in-Some.result.now c.find_arms.new.seen c.find_nodes-in-Some.new.seen (names_of c.args.own.now) c.in-Some.is c.as_slice-in-Some.ensures found))
    c.find_nodes-in-Some.ensures

pub find_node-returns-in-Some-none : goal.find_node-returns-in-Some-none
find_node-returns-in-Some-none t c =
    on_ok_weaker c.find_nodes-in-Some-none.result
    (λ found. each_on c.args.node.now c.in-Each.list c.in-Each.item c.in-Each.index c.in-Each.key c.in-Each.body c.as_slice-in-Each.result.now c.in-Each.none c.args.seen.now c.find_part-in-Each.new.seen c.find_row.new.seen c.find_nodes-in-Some-none.new.seen (names_of c.args.own.now)
    c.in-Each.is c.as_slice-in-Each.ensures c.in_ok-find_part-in-Each.ensures c.in_ok-find_row-in-Each.ensures
    (finds_present c.in-Each.none c.in-Some-none.none c.as_slice-in-Some-none.result.now c.find_row.new.seen c.find_nodes-in-Some-none.new.seen (names_of c.args.own.now) c.in-Some-none.is c.as_slice-in-Some-none.ensures found))
    c.find_nodes-in-Some-none.ensures
