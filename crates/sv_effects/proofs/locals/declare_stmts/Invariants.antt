use Rattle.std.proofs.Common.{◌≡◌, map, drop}
use Rattle.sv_names.specs.Distinct.{with_names}
use Rattle.sv_effects.specs.Signs.{together, stmt_part}
use Rattle.sv_effects.proofs.locals.declare_stmts.Given as goal

abbrev pub invariant-loop-stmt : goal.invariant-loop-stmt
invariant-loop-stmt l = with_names l.fn.locals (together (map stmt_part l.stmts)).declares ≡ with_names l.locals (together (map stmt_part (drop l.stmt-index l.stmts))).declares
