use Rattle.std.proofs.Common.{map, ◌∙◌}
use Rattle.sv_check.specs.Imported.{stmt_names}
use Rattle.sv_check.proofs.Once.{names_more}
use Rattle.sv_check.proofs.imported.imported_names.Goals as goal

pub loop-stmt-preserved : goal.loop-stmt-preserved
loop-stmt-preserved c =
    c.loop-stmt.invariant
    ∙ names_more c.args.stmts.now c.loop-stmt.stmt-index c.stmt-item.result c.loop-stmt-test.true c.stmt-item.is (stmt_names c.args.names.now c.args.from.now (map (λ word. word.now) c.args.words.now)) c.loop-stmt.list c.add_stmt.new.list c.in_ok-add_stmt.ensures
