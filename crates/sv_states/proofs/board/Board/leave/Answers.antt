use Rattle.std.proofs.Common.{◌∙◌, ap}
use Rattle.sv_store.specs.Stores.{is_subscribed}
use Rattle.sv_store.specs.Kept.{subscriber_of}
use Rattle.sv_states.specs.Moving.{leaves}
use Rattle.sv_states.specs.Board.{seen_as}
use Rattle.sv_states.proofs.Naming.{free-nowhere, left-nowhere}
use Rattle.sv_states.proofs.board.Board.leave.Goals as goal

pub returns-in-Some-clause-free : goal.returns-in-Some-clause-free
returns-in-Some-clause-free c =
    let p = subscriber_of c.args.name in
    let stores = c.args.self.now.stores in
    ap (λ l. is_subscribed l p) (c.unsubscribe.ensures ∙ ap (λ o. leaves o p stores) c.in-Some.ensures) ∙ free-nowhere _ p (left-nowhere (seen_as c.args.self.now) p c.requires.sound)

pub returns-in_default-clause-free : goal.returns-in_default-clause-free
returns-in_default-clause-free c =
    let p = subscriber_of c.args.name in
    let stores = c.args.self.now.stores in
    ap (λ l. is_subscribed l p) (ap (λ o. leaves o p stores) c.in_default.ensures) ∙ free-nowhere _ p (left-nowhere (seen_as c.args.self.now) p c.requires.sound)
