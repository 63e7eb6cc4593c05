use Rattle.sv_follow.proofs.Clearing.{clear-alone}
use Rattle.sv_follow.proofs.Keeping.{keeps}
use Rattle.sv_follow.proofs.laws.ways_keep_nodes.Goals as goal

pub returns : goal.returns
returns c = λ old new nodes follows way n clear. keeps old.page.next old.lives new.lives follows.kept way n (clear-alone way new.lives nodes follows.shown.lives clear)
