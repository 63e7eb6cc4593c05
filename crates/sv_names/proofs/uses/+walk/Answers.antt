use Rattle.std.proofs.Common.{[], ◌++◌, map, option_map, take, refl, ap, ◌∙◌}
use Rattle.sv_names.specs.Uses.{named, body_parts, stmt_parts, together, optional}
use Rattle.sv_names.proofs.Loops.{each_uses, for_uses}
use Rattle.sv_names.proofs.Names.{closed, entered}
use Rattle.sv_names.proofs.uses.+walk.Goals as goal

pub find_arrow-returns-clause-scope : goal.find_arrow-returns-clause-scope
find_arrow-returns-clause-scope t c =
    closed c.args.walk.now.scope (map named c.args.params.now) (body_parts c.args.body.now).declares _ _ _ _ c.len-open.ensures c.in_ok-declare_all.ensures c.in_ok-declare_body.ensures
    (c.cut.ensures ∙ ap (λ s. take c.len-open.result s) c.in_ok-find_body.ensures.scope)

pub find_arrow-returns-clause-uses : goal.find_arrow-returns-clause-uses
find_arrow-returns-clause-uses t c =
    c.in_ok-find_body.ensures.uses
    ∙ ap (λ s. c.args.walk.now.uses ++ (body_parts c.args.body.now).uses s)
    (entered c.args.walk.now.scope (map named c.args.params.now) (body_parts c.args.body.now).declares _ _ c.in_ok-declare_all.ensures c.in_ok-declare_body.ensures)

pub find_block-returns-clause-scope : goal.find_block-returns-clause-scope
find_block-returns-clause-scope t c =
    closed c.args.walk.now.scope (map named c.args.params.now) (together (map stmt_parts c.args.stmts.now)).declares _ _ _ _ c.len-open.ensures c.in_ok-declare_all.ensures c.in_ok-declare_stmts.ensures
    (c.cut.ensures ∙ ap (λ s. take c.len-open.result s) c.in_ok-find_stmts.ensures.scope)

pub find_block-returns-clause-uses : goal.find_block-returns-clause-uses
find_block-returns-clause-uses t c =
    c.in_ok-find_stmts.ensures.uses
    ∙ ap (λ s. c.args.walk.now.uses ++ (together (map stmt_parts c.args.stmts.now)).uses s)
    (entered c.args.walk.now.scope (map named c.args.params.now) (together (map stmt_parts c.args.stmts.now)).declares _ _ c.in_ok-declare_all.ensures c.in_ok-declare_stmts.ensures)

pub find_stmt_kind-returns-in_ok-find_stmt-in-For-clause-scope : goal.find_stmt_kind-returns-in_ok-find_stmt-in-For-clause-scope
find_stmt_kind-returns-in_ok-find_stmt-in-For-clause-scope t c =
    closed c.args.walk.now.scope (optional (option_map stmt_parts c.in-For.first)).declares [] _ _ _ _ c.len-open.ensures c.in_ok-declare_optional-in-For.ensures refl
    (c.cut.ensures ∙ ap (λ s. take c.len-open.result s) (c.in_ok-find_stmt-in-For.ensures.scope ∙ c.in_ok-find_given-in-For-2.ensures.scope ∙ c.in_ok-find_given-in-For.ensures.scope ∙ c.in_ok-find_optional-in-For.ensures.scope))

pub find_stmt_kind-returns-in_ok-find_stmt-in-For-clause-uses : goal.find_stmt_kind-returns-in_ok-find_stmt-in-For-clause-uses
find_stmt_kind-returns-in_ok-find_stmt-in-For-clause-uses t c =
    for_uses c.args.kind.now c.in-For.first c.in-For.test c.in-For.next c.in-For.body c.args.walk.now.uses _ _ _ _ c.args.walk.now.scope _ _ _ _ c.in-For.is
    c.in_ok-declare_optional-in-For.ensures c.in_ok-find_optional-in-For.ensures.scope c.in_ok-find_given-in-For.ensures.scope c.in_ok-find_given-in-For-2.ensures.scope
    c.in_ok-find_optional-in-For.ensures.uses c.in_ok-find_given-in-For.ensures.uses c.in_ok-find_given-in-For-2.ensures.uses c.in_ok-find_stmt-in-For.ensures.uses

pub find_stmt_kind-returns-in_ok-find_stmt-in-Each-clause-uses : goal.find_stmt_kind-returns-in_ok-find_stmt-in-Each-clause-uses
find_stmt_kind-returns-in_ok-find_stmt-in-Each-clause-uses t c =
    each_uses c.args.kind.now c.in-Each.name c.in-Each.fixed c.in-Each.list c.in-Each.body c.args.walk.now.uses _ _ c.args.walk.now.scope _ _ c.in-Each.is
    c.in_ok-declare-in-Each.ensures c.in_ok-find-in-Each.ensures.scope c.in_ok-find-in-Each.ensures.uses c.in_ok-find_stmt-in-Each.ensures.uses
