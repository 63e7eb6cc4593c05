use Rattle.std.proofs.Common.{◌≡◌, drop}
use Rattle.std.specs.List.{flat_map}
use Rattle.sv_names.specs.NameMap.{with_entries}
use Rattle.sv_slots.specs.Children.{points_of, tag_files}
use Rattle.sv_slots.proofs.children.children_of.Given as goal

abbrev pub invariant-loop-stmt : goal.invariant-loop-stmt
invariant-loop-stmt l = tag_files l.files l.stmts ≡ with_entries l.children (flat_map (points_of l.files) (drop l.stmt-index l.stmts))
