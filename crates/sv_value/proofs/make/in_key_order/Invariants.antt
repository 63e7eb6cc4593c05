use Rattle.std.proofs.Common.{◌≡◌, map}
use Rattle.sv_value.specs.Value.{fields, bare}
use Rattle.sv_value.specs.Object.{written}
use Rattle.sv_value.specs.View.{entry_of}
use Rattle.sv_value.proofs.make.in_key_order.Given as goal

-- the pairs so far are written
abbrev pub invariant-loop-key : goal.invariant-loop-key
invariant-loop-key l = fields (map entry_of l.by_key.entries) ≡ written bare (map entry_of l.yielded)
