use Rattle.std.proofs.Common.{map, take}
use Rattle.sv_value.specs.Value.{fields, field_depths, field_sizes}
use Rattle.sv_value.specs.View.{entry_of}
use Rattle.sv_value.specs.Measured.{Measures}
use Rattle.sv_value.proofs.measure.Measure.of_fields.Given as goal

-- the fields so far are measured
abbrev pub invariant-loop-pair : goal.invariant-loop-pair
invariant-loop-pair l = let tree = fields (map entry_of (take l.pair-index l.pairs)) in Measures l.measure (field_depths tree) (field_sizes tree)
