use Rattle.std.proofs.Common.{ap, ◌∙◌}
use Rattle.sv_numbered.specs.Numbered.{altered}
use Rattle.sv_store.specs.Kept.{subscriber_of}
use Rattle.sv_states.specs.Moving.{comes}
use Rattle.sv_states.specs.Prepared.{with_subscriptions}
use Rattle.sv_states.specs.Board.{seen_as}
use Rattle.sv_states.specs.declared.board.Board.{Board}
use Rattle.sv_states.proofs.Naming.{free-nowhere, nameless-nowhere, may-parts}
use Rattle.sv_states.proofs.Subscribing.{ready_subscribed}
use Rattle.sv_states.proofs.board.Board.subscribe.Goals as goal

pub enter-requires : goal.enter-requires
enter-requires c =
    let s = seen_as c.args.self.now in
    let p = subscriber_of c.args.at in
    let told = rw c.in-Some.is at c.in_ok-subscriptions.ensures in
    free-nowhere c.args.self.now.stores p (nameless-nowhere s p (may-parts s p told.0).1 c.requires.sound)

pub give-requires-clause-ready : goal.give-requires-clause-ready
give-requires-clause-ready c =
    ready_subscribed c.args.self.now (subscriber_of c.args.at) (record { cell = c.args.at.cell; source = c.args.source; store = c.store_of.result }) (comes c.store_of.result (subscriber_of c.args.at) c.args.self.now.stores) c.in-Some.subscriptions c.put_subscriptions.new.self
    (c.put_subscriptions.ensures ∙ ap {A = Board} (λ e. record e { lives = altered (with_subscriptions c.in-Some.subscriptions) e.lives c.args.at.inst.number }) c.in_ok-enter.ensures.ok)
    c.requires.ready
