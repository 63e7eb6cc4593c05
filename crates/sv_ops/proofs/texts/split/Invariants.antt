use Rattle.std.proofs.Common.{map, length}
use denote.Text.{Utf8}
use denote.Shadow.{shadow}
use Rattle.sv_value.specs.View.{view_of}
use Rattle.sv_ops.proofs.Cutting.{CutSoFar}
use Rattle.sv_ops.proofs.texts.split.Given as goal

abbrev pub invariant-loop-piece : goal.invariant-loop-piece
invariant-loop-piece l = shadow (Utf8 l.rest) × CutSoFar l.between l.text (map view_of l.pieces.items) l.bytes l.rest

abbrev pub decreases-loop-piece : goal.decreases-loop-piece
decreases-loop-piece l = length l.rest
