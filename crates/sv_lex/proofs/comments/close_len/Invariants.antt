use Rattle.std.proofs.Common.{◌≡◌, drop}
use Rattle.sv_lex.specs.Comments.{close_len}
use Rattle.sv_lex.proofs.Closings.{after}
use Rattle.sv_lex.proofs.comments.close_len.Given as goal

abbrev pub invariant-loop-at : goal.invariant-loop-at
invariant-loop-at l = close_len l.z ≡ after l.at (close_len (drop l.at l.z))
