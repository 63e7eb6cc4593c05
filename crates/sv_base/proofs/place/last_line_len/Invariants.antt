use Rattle.std.proofs.Common.{◌≡◌, ◌≤◌, take}
use Rattle.sv_base.proofs.Lines.{last_len}
use Rattle.sv_base.proofs.place.last_line_len.Given as goal

abbrev pub invariant-loop-b : goal.invariant-loop-b
invariant-loop-b l = (l.len ≡ last_len (take l.b-index l.text)) × (l.len ≤ l.b-index)
