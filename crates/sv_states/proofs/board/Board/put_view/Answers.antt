use Rattle.std.proofs.Common.{Some, refl, ap, arith}
use Rattle.sv_instance.specs.Cells.{count_at}
use Rattle.sv_states.proofs.Ready.{counts_here, counts-touched, written_back}
use Rattle.sv_states.proofs.board.Board.put_view.Goals as goal

pub touch-requires : goal.touch-requires
touch-requires c =
    let k = counts_here c.args.self.now c.args.at.inst.number c.in-Some.instance.now c.requires.ready c.in-Some.ensures.value c.args.at.cell in
    let t = c.requires.time in omega (arith, k, t)

pub returns-clause-ready : goal.returns-clause-ready
returns-clause-ready c =
    let here = counts_here c.args.self.now c.args.at.inst.number c.in-Some.instance.now c.requires.ready c.in-Some.ensures.value in
    written_back c.args.self.now c.args.at.inst.number c.in-Some.instance.now c.requires.ready c.in-Some.ensures.value
    (λ i. record i { cells = c.touch.new.self; owner_view = Some c.args.view }) _ (omega arith) (λ j. refl)
    (λ j there d. let k = counts-touched c.in-Some.instance.now.cells c.args.at.cell c.args.self.now.clock here d in let e = ap (λ cs. count_at cs.now d) c.touch.ensures.cells in omega (arith, k, e))
