use Rattle.std.proofs.Common.{◌∙◌, ap, sym, subst, length}
use Rattle.sv_store.specs.Stores.{IsOnce, is_subscribed}
use Rattle.sv_store.specs.Kept.{stores_of, subscriber_of}
use Rattle.sv_store.proofs.Places.{all_back}
use Rattle.sv_store.proofs.Counts.{once-tried}
use Rattle.sv_store.proofs.stores.Stores.subscribe.Goals as goal

pub invariant_of-self : goal.invariant_of-self
invariant_of-self c =
    let items = c.self.inside.entries.items in
    let sub = subscriber_of c.args.sub in
    let old = c.deref_mut.result.now in
    let new = c.push_subscriber.new.entries in
    let same = c.deref_mut.ensures.value in
    subst (λ l. IsOnce (stores_of l)) (sym (all_back new items c.self.inside.entries.len c.self.inside.entries.ok.0 (c.push_subscriber.auto.entries ∙ ap length same)))
    (once-tried c.push_subscriber.result (stores_of old) (stores_of new) c.args.id sub (subst (λ l. IsOnce (stores_of l)) (sym same) c.self.invariant)
    (ap (λ l. is_subscribed (stores_of l) sub) same ∙ ap (λ s. is_subscribed s sub) c.self.view_is ∙ c.requires) c.push_subscriber.ensures.ok c.push_subscriber.ensures.err)
