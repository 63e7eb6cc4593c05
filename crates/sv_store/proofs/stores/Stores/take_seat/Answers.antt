use Rattle.std.proofs.Common.{◌∙◌, ap}
use Rattle.sv_store.specs.Stores.{subscribed, is_subscribed}
use Rattle.sv_store.specs.Kept.{stores_of, subscriber_of}
use Rattle.sv_store.proofs.Counts.{once-back, once-more}
use Rattle.sv_store.proofs.stores.Stores.take_seat.Goals as goal

pub invariant_of-self : goal.invariant_of-self
invariant_of-self c =
    let items = c.self.inside.entries.items in
    let same = c.deref_mut.ensures.value in
    once-back c.add_subscriber.new.entries c.deref_mut.result.now items c.self.inside.entries.len _ c.self.inside.entries.ok.0 c.add_subscriber.auto.entries same (c.add_subscriber.ensures ∙ ap (λ s. subscribed (stores_of s) c.args.id (subscriber_of c.args.sub)) same) (once-more (stores_of items) c.args.id (subscriber_of c.args.sub) c.self.invariant (ap (λ s. is_subscribed s (subscriber_of c.args.sub)) c.self.view_is ∙ c.requires.free))
