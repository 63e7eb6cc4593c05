use Rattle.std.proofs.Common.{◌≡◌, ◌++◌, drop}
use Rattle.std.specs.Prelude.{string_bytes}
use Rattle.sv_white.specs.White.{text_ahead}
use Rattle.sv_white.proofs.join.with_text_ahead.Given as goal

abbrev pub invariant-loop-piece : goal.invariant-loop-piece
invariant-loop-piece g l = l.fn.text ++ text_ahead l.more ≡ string_bytes l.whole ++ text_ahead (drop l.piece-index l.more)
