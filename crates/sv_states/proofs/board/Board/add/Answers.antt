use Rattle.std.proofs.Common.{◌+◌, ◌≤◌, arith, ⊎_elim, count_by, is_some}
use Rattle.sv_states.proofs.Ending.{ready_added, ready_roomier, ok_or_err}
use Rattle.sv_states.proofs.board.Board.add.Goals as goal

pub returns-clause-ready : goal.returns-clause-ready
returns-clause-ready c =
    let count = c.in-Some.ensures.1 in
    let len = c.len.ensures in
    let room = c.in_ok-reserve.ensures.room in
    let fits : count_by is_some c.args.self.now.lives + 1 ≤ c.reserve.new.self.room = omega (arith, count, len, room) in
    ⊎_elim
    (λ more. ready_added c.args.self.now c.args.instance c.requires.ready c.requires.new c.add.new.self more c.reserve.new.self c.in_ok-reserve.ensures.order fits)
    (λ same. ready_roomier c.args.self.now c.requires.ready c.add.new.self same c.reserve.new.self c.in_ok-reserve.ensures.order c.in_ok-reserve.ensures.more)
    (ok_or_err c.add.result c.add.ensures.ok c.add.ensures.err)
