use Rattle.std.proofs.Common.{ap, arith}
use Rattle.sv_value.specs.View.{view_of}
use Rattle.sv_instance.specs.Cells.{count_at}
use Rattle.sv_states.proofs.Ready.{counts_here, counts-assigned, ready_cells}
use Rattle.sv_states.proofs.board.Board.store_cell.Goals as goal

pub assign-requires : goal.assign-requires
assign-requires c =
    let k = counts_here c.args.self.now c.args.at.inst.number c.in-Some.instance.now c.requires.ready c.in-Some.ensures.value c.args.at.cell in
    let t = c.requires.time in omega (arith, k, t)

pub returns-in-Some-clause-ready : goal.returns-in-Some-clause-ready
returns-in-Some-clause-ready c =
    let here = counts_here c.args.self.now c.args.at.inst.number c.in-Some.instance.now c.requires.ready c.in-Some.ensures.value in
    ready_cells c.args.self.now c.args.at.inst.number c.in-Some.instance.now c.requires.ready c.in-Some.ensures.value c.assign.new.self _ (omega arith)
    (λ d. let k = counts-assigned c.in-Some.instance.now.cells c.args.at.cell c.args.self.now.clock here (view_of c.args.value) d in let e = ap (λ cs. count_at cs.now d) c.assign.ensures.cells in omega (arith, k, e))
