use Rattle.std.proofs.Common.{◌∙◌, ap, map, rules}
use Rattle.std.proofs.lemmas.Fn.{filter_same}
use Rattle.sv_store.specs.Stores.{is_other}
use Rattle.sv_value.specs.View.{view_of}
use Rattle.sv_store.specs.Kept.{subscriber_of}
use Rattle.sv_store.proofs.Places.{filter-map}
use Rattle.sv_store.proofs.stores.keep_others.Goals as goal

pub returns : goal.returns
returns c =
    ap (λ l. record { value = view_of c.args.entry.now.value; subscribers = l })
    (ap (map subscriber_of) (filter_same _ (λ s. is_other c.args.number (subscriber_of s)) _ (λ x b f' k. search rules) _ _ c.retain.ensures.filtered)
    ∙ filter-map subscriber_of (is_other c.args.number) c.args.entry.now.subscribers.items)
