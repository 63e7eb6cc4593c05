use Rattle.std.proofs.Common.{◌≡◌, ◌+◌, drop}
use Rattle.std.specs.List.{position_or_len}
use Rattle.sv_attributes.specs.Class.{is_of_class}
use Rattle.sv_attributes.proofs.class.class_number.Given as goal

abbrev pub invariant-loop-number : goal.invariant-loop-number
invariant-loop-number l = position_or_len (is_of_class l.program) l.attrs ≡ l.number + position_or_len (is_of_class l.program) (drop l.number l.attrs)
