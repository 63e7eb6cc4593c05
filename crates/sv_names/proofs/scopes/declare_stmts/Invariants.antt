use Rattle.std.proofs.Common.{◌≡◌, map, drop}
use Rattle.sv_names.specs.Distinct.{with_names}
use Rattle.sv_names.specs.Uses.{together, stmt_parts}
use Rattle.sv_names.proofs.scopes.declare_stmts.Given as goal

abbrev pub invariant-loop-stmt : goal.invariant-loop-stmt
invariant-loop-stmt l = with_names l.fn.scope (together (map stmt_parts l.stmts)).declares ≡ with_names l.scope (together (map stmt_parts (drop l.stmt-index l.stmts))).declares
