use Rattle.std.proofs.Common.{map}
use Rattle.std.proofs.lemmas.Result.{on_ok_weaker}
use Rattle.sv_scopes.specs.Parts.{in_turn}
use Rattle.sv_scopes.specs.Script as spec
use Rattle.sv_scopes.proofs.Loops.{finds_each, finds_for}
use Rattle.sv_scopes.proofs.Scoping.{finds_two, finds_closed}
use Rattle.sv_scopes.proofs.script.+walk.Goals as goal

pub find_arrow-returns : goal.find_arrow-returns
find_arrow-returns t c =
    on_ok_weaker c.leave.result
    (finds_closed _ c.args.found.now c.enter-around.new.self c.find_body.new.found c.leave.new.self _ c.enter-around.result c.enter-around.ensures.around c.enter-around.ensures.inside
    (finds_two _ c.declare_all.new.found _ (spec.locals c.args.params.now) (spec.body_parts c.args.body.now) c.in_ok-declare_all.ensures c.in_ok-find_body.ensures))
    c.leave.ensures

pub find_block-returns : goal.find_block-returns
unfolding spec.block
find_block-returns t c =
    on_ok_weaker c.leave.result
    (finds_closed _ c.args.found.now c.enter-around.new.self c.find_stmts.new.found c.leave.new.self _ c.enter-around.result c.enter-around.ensures.around c.enter-around.ensures.inside
    (finds_two _ c.declare_all.new.found _ (spec.locals c.args.params.now) (in_turn (map spec.stmt_parts c.args.stmts.now)) c.in_ok-declare_all.ensures c.in_ok-find_stmts.ensures))
    c.leave.ensures

pub find_stmt_kind-returns-in_ok-find_stmt-in-Each : goal.find_stmt_kind-returns-in_ok-find_stmt-in-Each
find_stmt_kind-returns-in_ok-find_stmt-in-Each t c =
    on_ok_weaker c.leave-in-Each.result
    (finds_each c.args.found.now c.enter-around-in-Each.new.self c.declare.new.found c.find-in-Each.new.found c.find_stmt-in-Each.new.found c.enter-around-in-Each.result
    c.enter-around-in-Each.ensures.around c.enter-around-in-Each.ensures.inside c.leave-in-Each.new.self c.args.kind.now c.in-Each.name c.in-Each.fixed c.for_binding.result c.in-Each.list c.in-Each.body
    c.in-Each.is c.for_binding.ensures c.in_ok-declare-in-Each.ensures c.in_ok-find-in-Each.ensures c.in_ok-find_stmt-in-Each.ensures)
    c.leave-in-Each.ensures

pub find_stmt_kind-returns-in_ok-find_stmt-in-For : goal.find_stmt_kind-returns-in_ok-find_stmt-in-For
find_stmt_kind-returns-in_ok-find_stmt-in-For t c =
    on_ok_weaker c.leave.result
    (finds_for c.args.found.now c.enter-around.new.self c.find_optional-in-For.new.found c.find_given.new.found c.find_given-in-For.new.found c.enter-around.result
    c.enter-around.ensures.around c.enter-around.ensures.inside c.find_stmt-in-For.new.found c.leave.new.self c.args.kind.now c.in-For.first c.in-For.test c.in-For.next c.in-For.body
    c.in-For.is c.in_ok-find_optional-in-For.ensures c.in_ok-find_given-in-For.ensures c.in_ok-find_given-in-For-2.ensures c.in_ok-find_stmt-in-For.ensures)
    c.leave.ensures
