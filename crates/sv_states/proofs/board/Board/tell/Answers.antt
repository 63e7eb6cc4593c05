use Rattle.std.proofs.Common.{◌<◌, ◌∙◌, ap, arith, length}
use Rattle.std.proofs.lemmas.List.{length-map}
use Rattle.sv_store.specs.Stores.{subscribers_at}
use Rattle.sv_store.specs.Kept.{subscriber_of}
use Rattle.sv_states.specs.Board.{seen_as}
use Rattle.sv_states.proofs.Telling.{tell_more, tell_stores}
use Rattle.sv_states.proofs.board.Board.tell.Goals as goal

pub loop-index-preserved : goal.loop-index-preserved
loop-index-preserved c =
    let inv = c.loop-index.invariant in
    let t = c.take-in-loop-index.ensures in
    let xs = c.subscribers.result.now in
    let all = length-map c.subscribers-index-end.result.now subscriber_of in
    let some = ap length c.subscribers-index-end.ensures in
    let here = length-map xs subscriber_of in
    let read = ap length (c.subscribers.ensures ∙ ap (λ s. subscribers_at s c.args.id) inv.stores) in
    let test = c.loop-index-test.true in
    let inside : c.loop-index.index < length xs = omega (arith, all, some, here, read, test) in
    let same = c.take.ensures.value ∙ inv.value in
    let fewer = ap (λ k. k.left) c.take.ensures.left in
    let left = inv.left in
    let enough = c.requires.enough in
    let time = inv.time in
    let clock = t.clock in
    record {
      ready = t.ready;
      stores = tell_stores c.args.self.now.stores c.loop-index.self.stores c.args.id c.loop-index.index xs _ c.args.copies.now.value _ (seen_as c.loop-index.self) (seen_as c.take-in-loop-index.new.self) (seen_as c.args.self.now) c.subscribers.ensures inv.stores inside same t.states inv.stores;
      value = ap (λ k. k.value) c.take.ensures.left ∙ inv.value;
      left = omega (arith, fewer, left, enough, all, some, test);
      time = omega (arith, fewer, left, enough, all, some, test, time, clock);
      clock = let before = inv.clock in omega (arith, fewer, left, enough, all, some, test, clock, before);
      told = tell_more c.args.self.now.stores c.loop-index.self.stores c.args.id c.loop-index.index xs _ c.args.copies.now.value _ (seen_as c.loop-index.self) (seen_as c.take-in-loop-index.new.self) _ c.subscribers.ensures inv.stores inside same t.states inv.told;
    }
