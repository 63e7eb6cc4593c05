use Rattle.std.proofs.Common.{◌≡◌, ◌++◌, drop}
use Rattle.sv_slots.specs.Sheets.{all_props}
use Rattle.sv_compile.proofs.runs.prop_names.Given as goal

abbrev pub invariant-loop-stmt : goal.invariant-loop-stmt
invariant-loop-stmt l = all_props l.stmts ≡ l.names ++ all_props (drop l.stmt-index l.stmts)
