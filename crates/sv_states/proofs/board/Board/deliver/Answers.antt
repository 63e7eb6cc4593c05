use Rattle.std.proofs.Common.{◌≡◌, List, ap, sym, subst, ◌∙◌, length, map}
use Rattle.sv_value.specs.Value.{Val}
use Rattle.sv_store.specs.Kept.{subscriber_of}
use Rattle.sv_store.specs.declared.stores.Sub.{Sub}
use Rattle.sv_states.specs.States.{States}
use Rattle.sv_states.specs.declared.way.Way.{Way}
use Rattle.sv_states.specs.Assignment.{written}
use Rattle.sv_states.specs.Moving.{IsThere, goal_of, stores_after}
use Rattle.sv_states.specs.Moves.{AreReady}
use Rattle.sv_states.specs.Ways.{way_seen}
use Rattle.sv_states.specs.Board.{seen_as}
use Rattle.sv_states.proofs.Keeping.{kept_as}
use Rattle.sv_states.proofs.Making.{made-same, tally-written}
use Rattle.sv_states.proofs.Naming.{goal-written}
use Rattle.sv_states.proofs.Seating.{ready-written}
use Rattle.sv_states.proofs.Sounding.{sound-written}
use Rattle.sv_states.proofs.board.Board.deliver.Goals as goal

-- the value went the way that is kept
gone : (s t : States) (way : Way) (v : Val) (cells : List Sub) → t ≡ written (map subscriber_of cells) way.store v s → cells ≡ way.cells.items → t ≡ written (way_seen way).cells way.store v s
gone s t way v cells e same = e ∙ ap (λ l. written (map subscriber_of l) way.store v s) same

pub follow_all-requires-clause-kept : goal.follow_all-requires-clause-kept
follow_all-requires-clause-kept c =
    let s = seen_as c.args.self.now in
    let w = way_seen c.args.parcel.way in
    let v = c.args.parcel.copies.value in
    let is = gone s (seen_as c.write.new.self) c.args.parcel.way v c.deref.result.now c.write.ensures.states c.deref.ensures.value in
    kept_as c.write.new.self (written w.cells w.store v s) is c.write.ensures.ready (sound-written s w.cells w.store v c.requires.kept.sound) (made-same s (written w.cells w.store v s) (tally-written w.cells w.store v s) c.requires.kept.made)

pub follow_all-requires-clause-made : goal.follow_all-requires-clause-made
follow_all-requires-clause-made c =
    let s = seen_as c.args.self.now in
    let w = way_seen c.args.parcel.way in
    let v = c.args.parcel.copies.value in
    let is = gone s (seen_as c.write.new.self) c.args.parcel.way v c.deref.result.now c.write.ensures.states c.deref.ensures.value in
    subst (λ g. IsThere (length c.write.new.self.stores) g.store) (sym c.requires.packed.goal) (subst (λ t. IsThere (length t.stores) (goal_of (stores_after w.store v s.stores) v).store) (sym is) (goal-written s w v))

pub follow_all-requires-clause-enough : goal.follow_all-requires-clause-enough
follow_all-requires-clause-enough c =
    let s = seen_as c.args.self.now in
    let w = way_seen c.args.parcel.way in
    let v = c.args.parcel.copies.value in
    let is = gone s (seen_as c.write.new.self) c.args.parcel.way v c.deref.result.now c.write.ensures.states c.deref.ensures.value in
    subst (λ t. AreReady t.stores (length c.deref-2.result.now) c.args.parcel.moves) (sym is)
    (ready-written w.cells w.store v s (length c.deref-2.result.now) c.args.parcel.moves (subst (λ l. AreReady s.stores (length l) c.args.parcel.moves) (sym c.deref-2.ensures.value) c.requires.packed.ready))
