use Rattle.std.proofs.Common.{◌≡◌, ◌++◌, drop}
use Rattle.sv_watch.specs.Mirror.{page_html}
use Rattle.sv_watch.proofs.page.print.Given as goal

abbrev pub invariant-loop-piece : goal.invariant-loop-piece
invariant-loop-piece l = l.out.items ++ page_html (drop l.piece-index l.pieces) ≡ l.fn.out.items ++ page_html l.pieces
