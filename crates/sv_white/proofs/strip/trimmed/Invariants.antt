use Rattle.std.proofs.Common.{◌≡◌, ◌++◌, drop}
use Rattle.sv_white.specs.White as spec
use Rattle.sv_white.proofs.Trimming.{trimmed_from}
use Rattle.sv_white.proofs.strip.trimmed.Given as goal

abbrev pub invariant-loop-piece : goal.invariant-loop-piece
invariant-loop-piece g l = spec.trimmed (spec.trim_at l.end) l.pieces ≡ l.trimmed.items ++ trimmed_from l.begun (spec.trim_at l.end) (drop l.piece-index l.pieces)
