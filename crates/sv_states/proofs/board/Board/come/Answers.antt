use Rattle.std.proofs.Common.{refl, ap, arith}
use Rattle.sv_store.specs.Kept.{subscriber_of}
use Rattle.sv_states.proofs.Seating.{ready-came}
use Rattle.sv_states.proofs.board.Board.come.Goals as goal

pub returns-clause-left : goal.returns-clause-left
returns-clause-left c n r =
    let m = c.args.moves.now in
    let left = ap (λ k. k.left) c.take.ensures.left in
    let some = r.values in
    ready-came c.args.self.now.stores (subscriber_of c.args.name) n m (record { store = m.store; values = c.take.new.self; seats = c.pop.new.self }) c.in-Some.seat r refl (omega (arith, left, some)) c.in-Some.ensures.items
