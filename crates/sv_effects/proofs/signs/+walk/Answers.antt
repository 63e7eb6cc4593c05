use Rattle.std.proofs.Common.{[], ◌++◌, map, option_map, take, refl, ap, ◌∙◌}
use Rattle.std.proofs.lemmas.Result.{on_ok_weaker}
use Rattle.sv_names.specs.Uses.{named}
use Rattle.sv_names.proofs.Names.{closed, entered}
use Rattle.sv_effects.specs.Signs.{place, body_part, stmt_part, together, optional}
use Rattle.sv_effects.proofs.Calling.{call_signs}
use Rattle.sv_effects.proofs.Loops.{each_signs, for_signs}
use Rattle.sv_effects.proofs.signs.+walk.Goals as goal

pub find_arrow-returns-clause-locals : goal.find_arrow-returns-clause-locals
find_arrow-returns-clause-locals t c =
    closed c.args.walk.now.locals (map named c.args.params.now) (body_part c.args.body.now).declares _ _ _ _ c.len-open.ensures c.in_ok-declare_all.ensures c.in_ok-declare_body.ensures
    (c.cut.ensures ∙ ap (λ s. take c.len-open.result s) c.in_ok-find_body.ensures.locals)

pub find_arrow-returns-clause-signs : goal.find_arrow-returns-clause-signs
find_arrow-returns-clause-signs t c =
    c.in_ok-find_body.ensures.signs
    ∙ ap (λ s. c.args.walk.now.signs ++ (body_part c.args.body.now).signs (place c.args.names.now c.args.handed s))
    (entered c.args.walk.now.locals (map named c.args.params.now) (body_part c.args.body.now).declares _ _ c.in_ok-declare_all.ensures c.in_ok-declare_body.ensures)

pub find_block-returns-clause-locals : goal.find_block-returns-clause-locals
find_block-returns-clause-locals t c =
    closed c.args.walk.now.locals (map named c.args.params.now) (together (map stmt_part c.args.stmts.now)).declares _ _ _ _ c.len-open.ensures c.in_ok-declare_all.ensures c.in_ok-declare_stmts.ensures
    (c.cut.ensures ∙ ap (λ s. take c.len-open.result s) c.in_ok-find_stmts.ensures.locals)

pub find_block-returns-clause-signs : goal.find_block-returns-clause-signs
find_block-returns-clause-signs t c =
    c.in_ok-find_stmts.ensures.signs
    ∙ ap (λ s. c.args.walk.now.signs ++ (together (map stmt_part c.args.stmts.now)).signs (place c.args.names.now c.args.handed s))
    (entered c.args.walk.now.locals (map named c.args.params.now) (together (map stmt_part c.args.stmts.now)).declares _ _ c.in_ok-declare_all.ensures c.in_ok-declare_stmts.ensures)

pub find_stmt_kind-returns-in_ok-find_stmt-in-For-clause-locals : goal.find_stmt_kind-returns-in_ok-find_stmt-in-For-clause-locals
find_stmt_kind-returns-in_ok-find_stmt-in-For-clause-locals t c =
    closed c.args.walk.now.locals (optional (option_map stmt_part c.in-For.first)).declares [] _ _ _ _ c.len-open.ensures c.in_ok-declare_first-in-For.ensures refl
    (c.cut.ensures ∙ ap (λ s. take c.len-open.result s) (c.in_ok-find_stmt-in-For.ensures.locals ∙ c.in_ok-find_given-in-For-2.ensures.locals ∙ c.in_ok-find_given-in-For.ensures.locals ∙ c.in_ok-find_optional-in-For.ensures.locals))

pub find_stmt_kind-returns-in_ok-find_stmt-in-For-clause-signs : goal.find_stmt_kind-returns-in_ok-find_stmt-in-For-clause-signs
find_stmt_kind-returns-in_ok-find_stmt-in-For-clause-signs t c =
    for_signs c.args.kind.now c.in-For.first c.in-For.test c.in-For.next c.in-For.body c.args.names.now c.args.handed c.args.walk.now.signs _ _ _ _ c.args.walk.now.locals _ _ _ _ c.in-For.is
    c.in_ok-declare_first-in-For.ensures c.in_ok-find_optional-in-For.ensures.locals c.in_ok-find_given-in-For.ensures.locals c.in_ok-find_given-in-For-2.ensures.locals
    c.in_ok-find_optional-in-For.ensures.signs c.in_ok-find_given-in-For.ensures.signs c.in_ok-find_given-in-For-2.ensures.signs c.in_ok-find_stmt-in-For.ensures.signs

pub find_stmt_kind-returns-in_ok-find_stmt-in-Each-clause-signs : goal.find_stmt_kind-returns-in_ok-find_stmt-in-Each-clause-signs
find_stmt_kind-returns-in_ok-find_stmt-in-Each-clause-signs t c =
    each_signs c.args.kind.now c.in-Each.name c.in-Each.fixed c.in-Each.list c.in-Each.body c.args.names.now c.args.handed c.args.walk.now.signs _ _ c.args.walk.now.locals _ _ c.in-Each.is
    c.in_ok-declare-in-Each.ensures c.in_ok-find-in-Each.ensures.locals c.in_ok-find-in-Each.ensures.signs c.in_ok-find_stmt-in-Each.ensures.signs

pub find_kind-returns-in_ok-find-in-Call-clause-signs : goal.find_kind-returns-in_ok-find-in-Call-clause-signs
find_kind-returns-in_ok-find-in-Call-clause-signs t c =
    on_ok_weaker c.find_arguments.result
    (call_signs c.args.kind.now c.in-Call.of c.in-Call.args c.as_slice-in-Call.result.now c.as_slice-in-Call-2.result.now c.args.names.now c.args.handed
    c.args.walk.now.signs _ _ c.find_arguments.new.walk.signs c.args.walk.now.locals _ _ c.in-Call.is c.as_slice-in-Call.ensures c.as_slice-in-Call-2.ensures
    c.in_ok-note_own-in-Call.ensures.locals c.in_ok-find-in-Call.ensures.locals c.in_ok-note_own-in-Call.ensures.signs c.in_ok-find-in-Call.ensures.signs)
    c.find_arguments.ensures.signs
