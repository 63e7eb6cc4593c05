use Rattle.std.proofs.Common.{◌≡◌, take}
use Rattle.sv_lines.specs.Lines.{line_starts}
use Rattle.sv_lines.proofs.lines.line_starts.Given as goal

abbrev pub invariant-loop-byte : goal.invariant-loop-byte
invariant-loop-byte l = record {
  at : l.at ≡ l.byte-index;
  lines : l.lines ≡ line_starts (take l.byte-index l.bytes);
}
