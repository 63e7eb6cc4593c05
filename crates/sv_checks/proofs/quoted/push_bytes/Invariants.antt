use Rattle.std.proofs.Common.{◌≡◌, ◌++◌, drop}
use Rattle.sv_checks.specs.Lines.{quoted_bytes}
use Rattle.sv_checks.proofs.quoted.push_bytes.Given as goal

abbrev pub invariant-loop-byte : goal.invariant-loop-byte
invariant-loop-byte l = l.out.items ++ quoted_bytes (drop l.byte-index l.text) ≡ l.fn.out.items ++ quoted_bytes l.text
