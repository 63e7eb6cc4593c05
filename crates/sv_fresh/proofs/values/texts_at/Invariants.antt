use Rattle.std.proofs.Common.{◌≡◌, drop}
use Rattle.sv_fresh.specs.Values.{texts_at, texts_after}
use Rattle.sv_fresh.proofs.values.texts_at.Given as goal

abbrev pub invariant-loop-piece : goal.invariant-loop-piece
invariant-loop-piece l =
    texts_at l.here.scene.now.program.now l.here.view.now l.pieces
    ≡ texts_after l.here.scene.now.program.now l.here.view.now l.texts (drop l.piece-index l.pieces)
