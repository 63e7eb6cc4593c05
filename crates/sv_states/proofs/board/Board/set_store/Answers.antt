use Rattle.std.proofs.Common.{sym, ap, ◌∙◌, length, arith}
use Rattle.sv_store.specs.Stores.{subscribers_at}
use Rattle.sv_value.specs.View.{view_of}
use Rattle.sv_states.specs.Assignment.{told}
use Rattle.sv_states.specs.Board.{seen_as}
use Rattle.sv_states.proofs.Subscribing.{subscribers-set, set-told, set-same}
use Rattle.sv_states.proofs.board.Board.set_store.Goals as goal

pub tell-requires-clause-enough : goal.tell-requires-clause-enough
tell-requires-clause-enough c =
    let e = c.requires.enough in
    let left = ap (λ k. k.left) c.take.ensures.left in
    let same = ap (λ s. length (subscribers_at s c.args.id)) c.set.ensures.stored ∙ ap length (subscribers-set c.args.self.now.stores c.args.id c.args.id (view_of c.take.result)) in
    omega (arith, e, left, same)

pub returns-then-set-clause-states : goal.returns-then-set-clause-states
returns-then-set-clause-states c = set-told c.args.self.now c.args.id c.args.copies.now.value (view_of c.take.result) c.set.new.self c.take.ensures.value c.set.ensures.stored (seen_as c.tell.new.self) c.mark.new.self c.mark.ensures (sym c.set.ensures.changed ∙ c.if-set.true)
    (c.tell.ensures.states ∙ ap (λ k. told (subscribers_at c.set.new.self c.args.id) k.value (record (seen_as c.args.self.now) { stores = c.set.new.self; derived = c.mark.new.self })) c.take.ensures.left)

pub returns-else-set-clause-states : goal.returns-else-set-clause-states
returns-else-set-clause-states c = set-same c.args.self.now c.args.id c.args.copies.now.value (view_of c.take.result) c.set.new.self c.take.ensures.value c.set.ensures.stored (sym c.set.ensures.changed ∙ c.if-set.false)
