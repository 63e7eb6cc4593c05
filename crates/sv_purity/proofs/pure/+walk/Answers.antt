use Rattle.std.proofs.Common.{refl}
use Rattle.std.specs.Prelude.{Ok, Err}
use Rattle.sv_purity.specs.First.{outcome}
use Rattle.sv_purity.specs.Pure.{kind_asked, stmt_kind_part}
use Rattle.sv_purity.specs.Scopes.{visible}
use Rattle.sv_purity.proofs.First.{handed_on}
use Rattle.sv_purity.proofs.Calling.{call_on, for_on}
use Rattle.sv_purity.proofs.pure.+walk.Goals as goal

pub check_kind-returns-in_err-check_call-in-Call : goal.check_kind-returns-in_err-check_call-in-Call
check_kind-returns-in_err-check_call-in-Call t c =
    let is = call_on c.args.of.now c.in-Call.of c.in-Call.args c.as_slice-in-Call.result.now c.as_slice-in-Call.result.now c.args.at c.args.names.now (visible c.args.scope.now)
    (Err c.in_err-check_call-in-Call.field-0.0) _ _ c.in-Call.is c.as_slice-in-Call.ensures c.as_slice-in-Call.ensures c.in_err-check_call-in-Call.ensures refl refl in
    handed_on (outcome ((kind_asked c.args.of.now c.args.at).places c.args.names.now (visible c.args.scope.now))) c.from_residual-in_err-check_call-in-Call.result c.in_err-check_call-in-Call.field-0.0 c.from_residual-in_err-check_call-in-Call.ensures.0 c.from_residual-in_err-check_call-in-Call.ensures.1 is

pub check_kind-returns-in_err-check_expr-in-Call : goal.check_kind-returns-in_err-check_expr-in-Call
check_kind-returns-in_err-check_expr-in-Call t c =
    let is = call_on c.args.of.now c.in-Call.of c.in-Call.args c.as_slice-in-Call.result.now c.as_slice-in-Call.result.now c.args.at c.args.names.now (visible c.args.scope.now)
    (Ok c.in_ok-check_call-in-Call.field-0) (Err c.in_err-check_expr-in-Call.field-0.0) _ c.in-Call.is c.as_slice-in-Call.ensures c.as_slice-in-Call.ensures c.in_ok-check_call-in-Call.ensures c.in_err-check_expr-in-Call.ensures refl in
    handed_on (outcome ((kind_asked c.args.of.now c.args.at).places c.args.names.now (visible c.args.scope.now))) c.from_residual-in_err-check_expr-in-Call.result c.in_err-check_expr-in-Call.field-0.0 c.from_residual-in_err-check_expr-in-Call.ensures.0 c.from_residual-in_err-check_expr-in-Call.ensures.1 is

pub check_kind-returns-in_ok-check_expr-in-Call : goal.check_kind-returns-in_ok-check_expr-in-Call
check_kind-returns-in_ok-check_expr-in-Call t c =
    call_on c.args.of.now c.in-Call.of c.in-Call.args c.as_slice-in-Call.result.now c.as_slice-in-Call-2.result.now c.args.at c.args.names.now (visible c.args.scope.now)
    (Ok c.in_ok-check_call-in-Call.field-0) (Ok c.in_ok-check_expr-in-Call.field-0) c.check_exprs-in-Call.result c.in-Call.is c.as_slice-in-Call.ensures c.as_slice-in-Call-2.ensures c.in_ok-check_call-in-Call.ensures c.in_ok-check_expr-in-Call.ensures
    c.check_exprs-in-Call.ensures

pub check_stmt_kind-returns-in_err-check_given-in-For : goal.check_stmt_kind-returns-in_err-check_given-in-For
check_stmt_kind-returns-in_err-check_given-in-For t c =
    let is = for_on c.args.of.now c.in-For.first c.in-For.test c.in-For.next c.in-For.body c.head-head.result.now c.args.names.now (visible c.args.scope.now) (visible c.inside-inner.result)
    (Ok c.in_ok-check_stmts-in-For.field-0) (Err c.in_err-check_given-in-For.field-0.0) _ _ c.in-For.is c.head-head.ensures c.inside-inner.ensures c.in_ok-check_stmts-in-For.ensures c.in_err-check_given-in-For.ensures refl refl in
    handed_on (outcome ((stmt_kind_part c.args.of.now).places c.args.names.now (visible c.args.scope.now))) c.from_residual-in_err-check_given-in-For.result c.in_err-check_given-in-For.field-0.0 c.from_residual-in_err-check_given-in-For.ensures.0 c.from_residual-in_err-check_given-in-For.ensures.1 is

pub check_stmt_kind-returns-in_err-check_given-in-For-2 : goal.check_stmt_kind-returns-in_err-check_given-in-For-2
check_stmt_kind-returns-in_err-check_given-in-For-2 t c =
    let is = for_on c.args.of.now c.in-For.first c.in-For.test c.in-For.next c.in-For.body c.head-head.result.now c.args.names.now (visible c.args.scope.now) (visible c.inside-inner.result)
    (Ok c.in_ok-check_stmts-in-For.field-0) (Ok c.in_ok-check_given-in-For.field-0) (Err c.in_err-check_given-in-For-2.field-0.0) _ c.in-For.is c.head-head.ensures c.inside-inner.ensures c.in_ok-check_stmts-in-For.ensures c.in_ok-check_given-in-For.ensures c.in_err-check_given-in-For-2.ensures refl in
    handed_on (outcome ((stmt_kind_part c.args.of.now).places c.args.names.now (visible c.args.scope.now))) c.from_residual-in_err-check_given-in-For-2.result c.in_err-check_given-in-For-2.field-0.0 c.from_residual-in_err-check_given-in-For-2.ensures.0 c.from_residual-in_err-check_given-in-For-2.ensures.1 is

pub check_stmt_kind-returns-in_ok-check_given-in-For-2 : goal.check_stmt_kind-returns-in_ok-check_given-in-For-2
check_stmt_kind-returns-in_ok-check_given-in-For-2 t c =
    for_on c.args.of.now c.in-For.first c.in-For.test c.in-For.next c.in-For.body c.head-head.result.now c.args.names.now (visible c.args.scope.now) (visible c.inside-inner.result)
    (Ok c.in_ok-check_stmts-in-For.field-0) (Ok c.in_ok-check_given-in-For.field-0) (Ok c.in_ok-check_given-in-For-2.field-0) c.check_stmt-in-For.result c.in-For.is c.head-head.ensures c.inside-inner.ensures
    c.in_ok-check_stmts-in-For.ensures c.in_ok-check_given-in-For.ensures c.in_ok-check_given-in-For-2.ensures c.check_stmt-in-For.ensures
