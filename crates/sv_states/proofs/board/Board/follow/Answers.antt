use Rattle.std.proofs.Common.{◌≡◌, ◌+◌, Some, None, ap, sym, subst, ◌∙◌, length}
use Rattle.sv_value.specs.Value.{undefined}
use Rattle.sv_store.specs.Stores.{Subscriber}
use Rattle.sv_store.specs.Kept.{subscriber_of}
use Rattle.sv_states.specs.States.{with_instance, live}
use Rattle.sv_states.specs.Moving.{IsThere, name_in, store_in, comes, no_goal}
use Rattle.sv_states.specs.Moves.{moves_seen, AreReadyTo, AreReady}
use Rattle.sv_states.specs.Assignment.{placed_at, looked, moved_if, followed}
use Rattle.sv_states.specs.Board.{seen_as}
use Rattle.sv_states.proofs.Keeping.{kept_as}
use Rattle.sv_states.proofs.Making.{made-same, tally-followed}
use Rattle.sv_states.proofs.Naming.{sound-followed}
use Rattle.sv_states.proofs.Seating.{ready-left}
use Rattle.sv_states.proofs.Telling.{stores-taken}
use Rattle.sv_states.proofs.board.Board.follow.Goals as goal

pub come-requires-clause-enough : goal.come-requires-clause-enough
come-requires-clause-enough c =
    let stores = c.args.self.now.stores in
    let m = c.in-Some-moves.moves in
    let name : Subscriber = record { inst = c.args.at.inst.number; cell = c.in-Some.cell } in
    subst (λ b. AreReadyTo b.stores 1 m) (sym c.leave.ensures.board)
    (ready-left (store_in (name_in (live (seen_as c.args.self.now) name.inst) name.cell)) name stores 1 m (subst (AreReady stores 1) c.in-Some-moves.is c.requires.enough))

pub returns-in-Some-moves-clause-kept : goal.returns-in-Some-moves-clause-kept
returns-in-Some-moves-clause-kept c =
    let s = seen_as c.args.self.now in
    let m = c.in-Some-moves.moves in
    let g = moves_seen (Some m) in
    let at = subscriber_of c.args.at in
    let name : Subscriber = record { inst = c.args.at.inst.number; cell = c.in-Some.cell } in
    let is : seen_as c.come.new.self ≡ followed at g s =
    c.come.ensures.states
    ∙ ap (λ b. looked name (Some m.store) m.values.value (record (seen_as b) { stores = comes (Some m.store) name b.stores })) c.leave.ensures.board
    ∙ sym (ap (λ o. moved_if o at.inst g s) (sym c.follower.ensures ∙ c.in-Some.is)) in
    let made = subst (λ o. IsThere (length s.stores) (moves_seen o).store) c.in-Some-moves.is c.requires.made in
    kept_as c.come.new.self (followed at g s) is c.come.ensures.ready (sound-followed s at g made c.requires.kept.sound) (made-same s (followed at g s) (tally-followed at g s) c.requires.kept.made)

pub returns-in-Some-moves-clause-left : goal.returns-in-Some-moves-clause-left
returns-in-Some-moves-clause-left c n r =
    let stores = c.args.self.now.stores in
    let m = c.in-Some-moves.moves in
    let name : Subscriber = record { inst = c.args.at.inst.number; cell = c.in-Some.cell } in
    let t = record (seen_as c.leave.new.self) { stores = comes (Some m.store) name c.leave.new.self.stores } in
    let now = ap (λ x. x.stores) c.come.ensures.states ∙ stores-taken (with_instance (placed_at name.cell (Some m.store)) t name.inst) name m.values.value in
    subst (λ l. AreReadyTo l n c.come.new.moves) (sym now)
    (c.come.ensures.left n
    (subst (λ b. AreReadyTo b.stores (1 + n) m) (sym c.leave.ensures.board)
    (ready-left (store_in (name_in (live (seen_as c.args.self.now) name.inst) name.cell)) name stores (1 + n) m (subst (AreReady stores (1 + n)) c.in-Some-moves.is r))))

pub returns-in-None-clause-kept : goal.returns-in-None-clause-kept
returns-in-None-clause-kept c =
    let s = seen_as c.args.self.now in
    let at = subscriber_of c.args.at in
    let name : Subscriber = record { inst = c.args.at.inst.number; cell = c.in-Some.cell } in
    let is : seen_as c.look.new.self ≡ followed at no_goal s =
    c.look.ensures.states
    ∙ ap (λ b. looked name None undefined (seen_as b)) c.leave.ensures.board
    ∙ sym (ap (λ o. moved_if o at.inst no_goal s) (sym c.follower.ensures ∙ c.in-Some.is)) in
    kept_as c.look.new.self (followed at no_goal s) is c.look.ensures.ready (sound-followed s at no_goal tt c.requires.kept.sound) (made-same s (followed at no_goal s) (tally-followed at no_goal s) c.requires.kept.made)
