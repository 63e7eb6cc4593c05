use Rattle.std.proofs.Common.{refl}
use Rattle.sv_nodes.proofs.shift.shift_in.Goals as goal

pub returns-clause-shifted : goal.returns-clause-shifted
returns-clause-shifted c =
    rw (← c.in-Some.ensures.value) (
      record c.in-Some.entry.now { children = c.shift_child.new.children },
      refl,
      refl,
      c.shift_child.ensures.shifted,
    )
