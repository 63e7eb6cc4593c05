use Rattle.std.proofs.Common.{◌≡◌, ◌+◌, ◌<◌, ◌≤◌, ◌^◌, drop}
use Rattle.sv_store.specs.Stores.{subscribers_at}
use Rattle.sv_states.specs.Assignment.{told}
use Rattle.sv_states.specs.Board.{seen_as, IsReady}
use Rattle.sv_states.proofs.board.Board.tell.Given as goal

abbrev pub invariant-loop-index : goal.invariant-loop-index
invariant-loop-index l = record {
  ready : IsReady l.self;
  stores : l.self.stores ≡ l.initial.self.stores;
  value : l.copies.value ≡ l.initial.copies.value;
  left : l.copies.left + l.index ≡ l.initial.copies.left;
  time : l.self.clock + l.copies.left < 2 ^ 64;
  clock : l.self.clock + l.copies.left ≤ l.initial.self.clock + l.initial.copies.left;
  told : told (drop l.index (subscribers_at l.initial.self.stores l.id)) l.initial.copies.value (seen_as l.self) ≡ told (subscribers_at l.initial.self.stores l.id) l.initial.copies.value (seen_as l.initial.self);
}
