use Rattle.std.proofs.Common.{◌≡◌, ◌≤◌, ◌+◌, length, All}
use Rattle.sv_store.specs.Stores.{subscribers_at}
use Rattle.sv_states.proofs.moves.seats.Given as goal

abbrev pub invariant-loop-seat : goal.invariant-loop-seat
invariant-loop-seat l = record {
  count : length l.seats.items ≡ l._seat;
  room : All (λ seat. length (subscribers_at l.stores l.store) + l.count ≤ seat) l.seats.items;
}
