use Rattle.std.proofs.Common.{◌≡◌, map, drop}
use Rattle.std.specs.List.{flat_map}
use Rattle.sv_names.specs.Distinct.{with_names}
use Rattle.sv_check.specs.Imported.{imported_names, stmt_names}
use Rattle.sv_check.proofs.imported.imported_names.Given as goal

abbrev pub invariant-loop-stmt : goal.invariant-loop-stmt
invariant-loop-stmt l = imported_names l.names l.from (map (λ word. word.now) l.words) l.stmts ≡ with_names l.list (flat_map (stmt_names l.names l.from (map (λ word. word.now) l.words)) (drop l.stmt-index l.stmts))
