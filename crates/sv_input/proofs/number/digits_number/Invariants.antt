use Rattle.std.proofs.Common.{◌≡◌, ◌≤◌, take, min}
use Rattle.sv_input.specs.Number as spec
use Rattle.sv_input.specs.declared.number.TheConstants.{LIMIT}
use Rattle.sv_input.proofs.number.digits_number.Given as goal

abbrev pub invariant-loop-byte : goal.invariant-loop-byte
invariant-loop-byte l = (l.number ≡ min (spec.digits_number (take l.byte-index l.digits)) LIMIT) × (l.number ≤ LIMIT)
