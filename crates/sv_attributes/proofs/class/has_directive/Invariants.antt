use Rattle.std.proofs.Common.{◌≡◌, drop}
use Rattle.std.specs.List.{list_any}
use Rattle.sv_attributes.specs.Class.{is_directive}
use Rattle.sv_attributes.proofs.class.has_directive.Given as goal

abbrev pub invariant-loop-attr : goal.invariant-loop-attr
invariant-loop-attr l = list_any is_directive l.attrs ≡ list_any is_directive (drop l.attr-index l.attrs)
