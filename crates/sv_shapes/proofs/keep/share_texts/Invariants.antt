use Rattle.std.proofs.Common.{◌≡◌, take}
use Rattle.sv_shapes.proofs.keep.share_texts.Given as goal

abbrev pub invariant-loop-text : goal.invariant-loop-text
invariant-loop-text l = l.same ≡ take l.text-index l.texts
