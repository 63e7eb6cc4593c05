use Rattle.std.proofs.Common.{◌≡◌, ◌++◌, map, drop}
use Rattle.sv_value.specs.View.{entry_of}
use Rattle.sv_ops.proofs.members.copy_fields.Given as goal

abbrev pub invariant-loop-field : goal.invariant-loop-field
invariant-loop-field l = map entry_of l.made.items ++ map entry_of (drop l.field-index l.fields) ≡ map entry_of l.fn.made.items ++ map entry_of l.fields
