use Rattle.std.proofs.Common.{◌∙◌}
use Rattle.sv_nodes.proofs.Siblings.{last-is}
use Rattle.sv_nodes.proofs.shrink.last_child.Goals as goal

pub returns : goal.returns
returns c = rw (c.entry_at.ensures) (rw c.deref.ensures.value at (last-is c.deref.result.now c.copied.result (c.copied.ensures ∙ c.last.ensures.value)))
