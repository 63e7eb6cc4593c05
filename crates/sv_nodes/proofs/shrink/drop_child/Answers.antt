use Rattle.std.proofs.Common.{refl}
use Rattle.sv_nodes.proofs.shrink.drop_child.Goals as goal

pub returns-in-Some : goal.returns-in-Some
returns-in-Some c =
    rw (← c.in-Some.ensures.value) (
      record c.in-Some.entry.now { children = c.cut_child.new.children },
      refl,
      refl,
      c.cut_child.ensures,
    )
