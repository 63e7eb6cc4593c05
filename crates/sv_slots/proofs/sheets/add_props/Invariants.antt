use Rattle.std.proofs.Common.{◌≡◌, drop}
use Rattle.sv_names.specs.Distinct.{with_names}
use Rattle.sv_slots.specs.Sheets.{all_props}
use Rattle.sv_slots.proofs.sheets.add_props.Given as goal

abbrev pub invariant-loop-stmt : goal.invariant-loop-stmt
invariant-loop-stmt l = with_names l.fn.props (all_props l.stmts) ≡ with_names l.props (all_props (drop l.stmt-index l.stmts))
