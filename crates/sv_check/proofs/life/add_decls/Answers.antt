use Rattle.std.proofs.Common.{◌∙◌}
use Rattle.sv_ast.specs.declared.script_tree.Decl.{out-Decl}
use Rattle.sv_check.specs.Life.{called_first}
use Rattle.sv_check.proofs.Once.{places_more}
use Rattle.sv_check.proofs.life.add_decls.Goals as goal

pub loop-decl-preserved : goal.loop-decl-preserved
loop-decl-preserved c =
    c.loop-decl.invariant
    ∙ places_more c.args.decls.now c.loop-decl.decl-index c.decl-item.result c.loop-decl-test.true c.decl-item.is (λ d. called_first (out-Decl d).first) c.loop-decl.places c.add_first.new.places c.in_ok-add_first.ensures
