use Rattle.std.proofs.Common.{◌≡◌, drop}
use Rattle.std.specs.List.{flat_map}
use Rattle.sv_names.specs.Distinct.{firsts, with_names}
use Rattle.sv_check.specs.Derived.{unary}
use Rattle.sv_check.proofs.derived.functions.Given as goal

abbrev pub invariant-loop-stmt : goal.invariant-loop-stmt
invariant-loop-stmt l = firsts (flat_map unary l.stmts) ≡ with_names l.names (flat_map unary (drop l.stmt-index l.stmts))
