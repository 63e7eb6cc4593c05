use Rattle.std.proofs.Common.{◌≡◌, take}
use Rattle.sv_shapes.proofs.keep.share_all_texts.Given as goal

abbrev pub invariant-loop-texts : goal.invariant-loop-texts
invariant-loop-texts l = l.same ≡ take l.texts-index l.all
