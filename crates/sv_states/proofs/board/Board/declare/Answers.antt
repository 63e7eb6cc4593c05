use Rattle.std.proofs.Common.{ap, arith}
use Rattle.sv_value.specs.View.{view_of}
use Rattle.sv_instance.specs.Cells.{count_at}
use Rattle.sv_states.proofs.Ready.{counts_here, counts-declared, ready_cells}
use Rattle.sv_states.proofs.board.Board.declare.Goals as goal

pub returns-in-Some-clause-ready : goal.returns-in-Some-clause-ready
returns-in-Some-clause-ready c =
    let here = counts_here c.args.self.now c.args.at.inst.number c.in-Some.instance.now c.requires c.in-Some.ensures.value in
    ready_cells c.args.self.now c.args.at.inst.number c.in-Some.instance.now c.requires c.in-Some.ensures.value c.declare.new.self _ (omega arith)
    (λ d. let k = counts-declared c.in-Some.instance.now.cells c.args.at.cell c.args.self.now.clock here (view_of c.args.value) d in let e = ap (λ cs. count_at cs.now d) c.declare.ensures in omega (arith, k, e))
