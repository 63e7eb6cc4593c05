use Rattle.sv_compile.proofs.Adding.{tops_are}
use Rattle.sv_compile.proofs.top_level.tops.Goals as goal

pub returns : goal.returns
returns c = tops_are c.args.names.now c.args.cells.now c.args.given.now _ _ _ _ c.in_ok-tops.ensures c.in_ok-add_cells.ensures c.in_ok-add_given.ensures c.in_ok-add_built.ensures
