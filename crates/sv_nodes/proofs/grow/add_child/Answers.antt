use Rattle.std.proofs.Common.{ap, sym, refl}
use Rattle.sv_nodes.proofs.Slabs.{cells_of-same, on_err, seen}
use Rattle.sv_nodes.proofs.grow.add_child.Goals as goal

pub returns-in_err-insert_child-in-Some-clause-err : goal.returns-in_err-insert_child-in-Some-clause-err
returns-in_err-insert_child-in-Some-clause-err c =
    on_err c.from_residual.result (cells_of-same c.args.nodes.now.slots c.args.parent c.in-Some.entry.now _ (sym c.in-Some.ensures.value)
    (ap (seen c.in-Some.entry.now) c.in_err-insert_child-in-Some.ensures.err))

pub returns-in_ok-insert_child-in-Some-clause-ok : goal.returns-in_ok-insert_child-in-Some-clause-ok
returns-in_ok-insert_child-in-Some-clause-ok c =
    rw (← c.in-Some.ensures.value) (
      record c.in-Some.entry.now { children = c.insert_child.new.children },
      refl,
      refl,
      c.in_ok-insert_child-in-Some.ensures.ok,
    )
