use Rattle.std.proofs.Common.{◌++◌, map, option_map, refl, sym, ap, ◌∙◌}
use Rattle.sv_ast.specs.declared.script_tree.ExprKind
use Rattle.sv_ast.specs.declared.script_tree.StmtKind
use Rattle.sv_ast.specs.declared.script_tree.Body
use Rattle.sv_code.specs.declared.code.CodeKind.TheVariants as code
use Rattle.sv_code.specs.declared.functions.CodeStmtKind.TheVariants as stmt_code
use Rattle.sv_code.specs.declared.functions.FunctionBody.TheVariants as body_code
use Rattle.sv_lower.specs.Does.{each, given, of_one}
use Rattle.sv_lower.specs.Inside.{made_in}
use Rattle.sv_lower.specs.Lower.{all, perhaps, numbered, block, expr_made, entry_made, field_made, link_made, arm_made, decl_made, stmt_made, body_made, of_expr, of_stmt, of_stmts}
use Rattle.sv_lower.proofs.Forms.{kind_arm, stmt_arm, kind_List, kind_Obj, kind_Template, kind_Arrow, kind_Chain, kind_Call, body_Block, stmt_Let, stmt_Const, stmt_If, stmt_For, stmt_Each, stmt_Export, stmt_Block, stmt_Func, for_arm, row_arm, func_arm, call_is}
use Rattle.sv_lower.proofs.Steps.{one_is, two_is, makes_by}
use Rattle.sv_names.specs.Locals.{names_of}
use Rattle.sv_names.specs.Uses.{together, head_of, body_parts, stmt_parts}
use Rattle.sv_lower.proofs.+lower.Goals as goal

pub «expressions::lower_kind-returns-in_ok-lower_items-in-List» : goal.«expressions::lower_kind-returns-in_ok-lower_items-in-List»
«expressions::lower_kind-returns-in_ok-lower_items-in-List» t c =
    kind_arm c.args.inside.now c.args.kind.now (ExprKind.List c.as_slice.result.now) c.args.span _ c.args.functions.now (c.in-List.is ∙ ap (λ z. ExprKind.List z) (sym c.as_slice.ensures)) (kind_List c.as_slice.result.now c.args.span)
    (one_is code.List (each (all (map entry_made c.as_slice.result.now))) c.args.inside.now.tops.now (names_of c.args.inside.now.locals.now) c.args.functions.now _ _ c.in_ok-lower_items-in-List.ensures)

pub «expressions::lower_kind-returns-in_ok-lower_fields-in-Obj» : goal.«expressions::lower_kind-returns-in_ok-lower_fields-in-Obj»
«expressions::lower_kind-returns-in_ok-lower_fields-in-Obj» t c =
    kind_arm c.args.inside.now c.args.kind.now (ExprKind.Obj c.as_slice-in-Obj.result.now) c.args.span _ c.args.functions.now (c.in-Obj.is ∙ ap (λ z. ExprKind.Obj z) (sym c.as_slice-in-Obj.ensures)) (kind_Obj c.as_slice-in-Obj.result.now c.args.span)
    (one_is code.Object (each (all (map field_made c.as_slice-in-Obj.result.now))) c.args.inside.now.tops.now (names_of c.args.inside.now.locals.now) c.args.functions.now _ _ c.in_ok-lower_fields-in-Obj.ensures)

pub «expressions::lower_kind-returns-in_ok-lower_exprs-in-Template» : goal.«expressions::lower_kind-returns-in_ok-lower_exprs-in-Template»
«expressions::lower_kind-returns-in_ok-lower_exprs-in-Template» t c =
    kind_arm c.args.inside.now c.args.kind.now (ExprKind.Template c.as_slice-in-Template.result.now) c.args.span _ c.args.functions.now (c.in-Template.is ∙ ap (λ z. ExprKind.Template z) (sym c.as_slice-in-Template.ensures)) (kind_Template c.as_slice-in-Template.result.now c.args.span)
    (one_is code.Template (each (all (map expr_made c.as_slice-in-Template.result.now))) c.args.inside.now.tops.now (names_of c.args.inside.now.locals.now) c.args.functions.now _ _ c.in_ok-lower_exprs-in-Template.ensures)

pub «expressions::lower_kind-returns-in_ok-lower_arrow-in-Arrow» : goal.«expressions::lower_kind-returns-in_ok-lower_arrow-in-Arrow»
«expressions::lower_kind-returns-in_ok-lower_arrow-in-Arrow» t c =
    kind_arm c.args.inside.now c.args.kind.now (ExprKind.Arrow c.as_slice-in-Arrow.result.now c.in-Arrow.body) c.args.span _ c.args.functions.now (c.in-Arrow.is ∙ ap (λ z. ExprKind.Arrow z c.in-Arrow.body) (sym c.as_slice-in-Arrow.ensures)) (kind_Arrow c.as_slice-in-Arrow.result.now c.in-Arrow.body c.args.span)
    (one_is code.Arrow (numbered c.args.span c.as_slice-in-Arrow.result.now (body_parts c.in-Arrow.body) (body_made c.in-Arrow.body).makes) c.args.inside.now.tops.now (names_of c.args.inside.now.locals.now) c.args.functions.now _ _ c.in_ok-lower_arrow-in-Arrow.ensures)

pub «expressions::lower_kind-returns-in_ok-rest-in-Chain» : goal.«expressions::lower_kind-returns-in_ok-rest-in-Chain»
«expressions::lower_kind-returns-in_ok-rest-in-Chain» t c =
    kind_arm c.args.inside.now c.args.kind.now (ExprKind.Chain c.in-Chain.first c.as_slice-in-Chain.result.now) c.args.span _ c.args.functions.now (c.in-Chain.is ∙ ap (λ z. ExprKind.Chain c.in-Chain.first z) (sym c.as_slice-in-Chain.ensures)) (kind_Chain c.in-Chain.first c.as_slice-in-Chain.result.now c.args.span)
    (two_is code.Chain (of_expr c.in-Chain.first) (each (all (map link_made c.as_slice-in-Chain.result.now))) c.args.inside.now.tops.now (names_of c.args.inside.now.locals.now) c.args.functions.now _ _ _ _ c.in_ok-first-in-Chain.ensures c.in_ok-rest-in-Chain.ensures)

pub «statements::lower_stmt_kind-returns-in_ok-lower_decls-in-Let» : goal.«statements::lower_stmt_kind-returns-in_ok-lower_decls-in-Let»
«statements::lower_stmt_kind-returns-in_ok-lower_decls-in-Let» t c =
    stmt_arm c.args.inside.now c.args.kind.now (StmtKind.Let c.as_slice-in-Let.result.now) c.args.span _ c.args.functions.now (c.in-Let.is ∙ ap (λ z. StmtKind.Let z) (sym c.as_slice-in-Let.ensures)) (stmt_Let c.as_slice-in-Let.result.now c.args.span)
    (one_is stmt_code.Let (each (all (map decl_made c.as_slice-in-Let.result.now))) c.args.inside.now.tops.now (names_of c.args.inside.now.locals.now) c.args.functions.now _ _ c.in_ok-lower_decls-in-Let.ensures)

pub «statements::lower_stmt_kind-returns-in_ok-lower_decls-in-Const» : goal.«statements::lower_stmt_kind-returns-in_ok-lower_decls-in-Const»
«statements::lower_stmt_kind-returns-in_ok-lower_decls-in-Const» t c =
    stmt_arm c.args.inside.now c.args.kind.now (StmtKind.Const c.as_slice-in-Const.result.now c.in-Const.exported) c.args.span _ c.args.functions.now (c.in-Const.is ∙ ap (λ z. StmtKind.Const z c.in-Const.exported) (sym c.as_slice-in-Const.ensures)) (stmt_Const c.as_slice-in-Const.result.now c.in-Const.exported c.args.span)
    (one_is (λ list. stmt_code.Const list c.in-Const.exported) (each (all (map decl_made c.as_slice-in-Const.result.now))) c.args.inside.now.tops.now (names_of c.args.inside.now.locals.now) c.args.functions.now _ _ c.in_ok-lower_decls-in-Const.ensures)

pub «statements::lower_stmt_kind-returns-in_ok-lower_decls-in-Export» : goal.«statements::lower_stmt_kind-returns-in_ok-lower_decls-in-Export»
«statements::lower_stmt_kind-returns-in_ok-lower_decls-in-Export» t c =
    stmt_arm c.args.inside.now c.args.kind.now (StmtKind.Export c.as_slice-in-Export.result.now) c.args.span _ c.args.functions.now (c.in-Export.is ∙ ap (λ z. StmtKind.Export z) (sym c.as_slice-in-Export.ensures)) (stmt_Export c.as_slice-in-Export.result.now c.args.span)
    (one_is stmt_code.Export (each (all (map decl_made c.as_slice-in-Export.result.now))) c.args.inside.now.tops.now (names_of c.args.inside.now.locals.now) c.args.functions.now _ _ c.in_ok-lower_decls-in-Export.ensures)

pub «statements::lower_stmt_kind-returns-in_ok-last-in-If» : goal.«statements::lower_stmt_kind-returns-in_ok-last-in-If»
«statements::lower_stmt_kind-returns-in_ok-last-in-If» t c =
    stmt_arm c.args.inside.now c.args.kind.now (StmtKind.If c.as_slice-in-If.result.now c.in-If.last) c.args.span _ c.args.functions.now (c.in-If.is ∙ ap (λ z. StmtKind.If z c.in-If.last) (sym c.as_slice-in-If.ensures)) (stmt_If c.as_slice-in-If.result.now c.in-If.last c.args.span)
    (two_is stmt_code.If (each (all (map arm_made c.as_slice-in-If.result.now))) (given (perhaps (option_map stmt_made c.in-If.last))) c.args.inside.now.tops.now (names_of c.args.inside.now.locals.now) c.args.functions.now _ _ _ _ c.in_ok-arms-in-If.ensures c.in_ok-last-in-If.ensures)

pub «statements::lower_stmt_kind-returns-in_ok-body-in-For» : goal.«statements::lower_stmt_kind-returns-in_ok-body-in-For»
«statements::lower_stmt_kind-returns-in_ok-body-in-For» t c =
    stmt_arm c.args.inside.now c.args.kind.now (StmtKind.For c.in-For.first c.in-For.test c.in-For.next c.in-For.body) c.args.span _ c.args.functions.now c.in-For.is (stmt_For c.in-For.first c.in-For.test c.in-For.next c.in-For.body c.args.span)
    (for_arm c.args.inside.now.tops.now (names_of c.args.inside.now.locals.now) (names_of c.inside-locals.result) (head_of c.in-For.first) c.in_ok-frame-in-For.frame.declares
    (given (perhaps (option_map stmt_made c.in-For.first))) (given (perhaps (option_map expr_made c.in-For.test))) (given (perhaps (option_map expr_made c.in-For.next))) (of_stmt c.in-For.body)
    c.args.functions.now _ _ _ _ _ _ _ _
    (c.inside-locals.ensures ∙ ap (λ f. f.names ++ (names_of c.args.inside.now.locals.now)) c.in_ok-frame-in-For.ensures) (ap (λ f. f.declares) c.in_ok-frame-in-For.ensures)
    c.in_ok-first-in-For.ensures c.in_ok-test-in-For.ensures c.in_ok-next-in-For.ensures c.in_ok-body-in-For.ensures)

pub «statements::lower_stmt_kind-returns-in_ok-body-in-Each» : goal.«statements::lower_stmt_kind-returns-in_ok-body-in-Each»
«statements::lower_stmt_kind-returns-in_ok-body-in-Each» t c =
    stmt_arm c.args.inside.now c.args.kind.now (StmtKind.Each c.in-Each.name c.in-Each.fixed c.in-Each.list c.in-Each.body) c.args.span _ c.args.functions.now c.in-Each.is (stmt_Each c.in-Each.name c.in-Each.fixed c.in-Each.list c.in-Each.body c.args.span)
    (row_arm c.args.inside.now.tops.now (names_of c.args.inside.now.locals.now) (names_of c.inside-locals-in-Each.result) c.in_ok-names-in-Each.names c.in-Each.name c.in-Each.fixed (of_expr c.in-Each.list) (of_stmt c.in-Each.body)
    c.args.functions.now _ _ _ _
    c.inside-locals-in-Each.ensures c.in_ok-names-in-Each.ensures c.in_ok-list-in-Each.ensures c.in_ok-body-in-Each.ensures)

pub «statements::lower_stmt_kind-returns-in_ok-number-in-Func» : goal.«statements::lower_stmt_kind-returns-in_ok-number-in-Func»
«statements::lower_stmt_kind-returns-in_ok-number-in-Func» t c =
    stmt_arm c.args.inside.now c.args.kind.now (StmtKind.Func c.in-Func.name c.in-Func.exported c.as_slice-in-Func.result.now c.as_slice-in-Func-2.result.now) c.args.span _ c.args.functions.now (c.in-Func.is ∙ ap (λ z. StmtKind.Func c.in-Func.name c.in-Func.exported z c.in-Func.body) (sym c.as_slice-in-Func.ensures)
    ∙ ap (λ z. StmtKind.Func c.in-Func.name c.in-Func.exported c.as_slice-in-Func.result.now z) (sym c.as_slice-in-Func-2.ensures)) (stmt_Func c.in-Func.name c.in-Func.exported c.as_slice-in-Func.result.now c.as_slice-in-Func-2.result.now c.args.span)
    (func_arm c.args.inside.now.tops.now (names_of c.args.inside.now.locals.now) c.in-Func.name c.in-Func.exported
    (numbered c.args.span c.as_slice-in-Func.result.now (together (map stmt_parts c.as_slice-in-Func-2.result.now)) (of_one body_code.Block (of_stmts c.as_slice-in-Func-2.result.now)))
    c.args.functions.now _ _ _ c.known_at.ensures c.in_ok-number-in-Func.ensures)

pub «expressions::lower_kind-returns-in_ok-args-in-Call» : goal.«expressions::lower_kind-returns-in_ok-args-in-Call»
«expressions::lower_kind-returns-in_ok-args-in-Call» t c =
    makes_by c.called.result _ _ c.called.new.functions
    (kind_arm c.args.inside.now c.args.kind.now (ExprKind.Call c.in-Call.of c.as_slice-in-Call.result.now) c.args.span _ c.args.functions.now (c.in-Call.is ∙ ap (λ z. ExprKind.Call c.in-Call.of z) (sym c.as_slice-in-Call.ensures)) (kind_Call c.in-Call.of c.as_slice-in-Call.result.now c.args.span)
    (call_is c.args.span (of_expr c.in-Call.of) (each (all (map expr_made c.as_slice-in-Call.result.now))) c.args.inside.now.tops.now (names_of c.args.inside.now.locals.now) c.args.functions.now _ _ _ _ c.in_ok-of-in-Call.ensures c.in_ok-args-in-Call.ensures))
    c.called.ensures

pub «statements::lower_stmt_kind-returns-in-Block» : goal.«statements::lower_stmt_kind-returns-in-Block»
«statements::lower_stmt_kind-returns-in-Block» t c =
    makes_by c.lower_block.result _ (made_in c.args.inside.now (block (together (map stmt_parts c.as_slice.result.now)) (of_stmts c.as_slice.result.now)) c.args.functions.now) c.lower_block.new.functions
    (stmt_arm c.args.inside.now c.args.kind.now (StmtKind.Block c.as_slice.result.now) c.args.span _ c.args.functions.now (c.in-Block.is ∙ ap (λ z. StmtKind.Block z) (sym c.as_slice.ensures)) (stmt_Block c.as_slice.result.now c.args.span) refl)
    c.lower_block.ensures

pub «expressions::lower_body-returns-in_ok-lower_stmts-in-Block» : goal.«expressions::lower_body-returns-in_ok-lower_stmts-in-Block»
«expressions::lower_body-returns-in_ok-lower_stmts-in-Block» t c =
    ap (λ b. made_in c.args.inside.now (body_made b).makes c.args.functions.now) (c.in-Block.is ∙ ap (λ z. Body.Block z) (sym c.as_slice.ensures)) ∙ ap (λ m. made_in c.args.inside.now m c.args.functions.now) (body_Block c.as_slice.result.now)
    ∙ one_is body_code.Block (of_stmts c.as_slice.result.now) c.args.inside.now.tops.now (names_of c.args.inside.now.locals.now) c.args.functions.now _ _ c.in_ok-lower_stmts-in-Block.ensures
