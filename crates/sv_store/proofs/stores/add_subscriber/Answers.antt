use Rattle.std.proofs.Common.{◌∙◌, [], ◌∷◌, ap, length, map, get_or, arith}
use Rattle.std.proofs.lemmas.List.{length-map, map-append}
use Rattle.sv_value.specs.View.{view_of}
use Rattle.sv_store.specs.Stores.{with_subscriber}
use Rattle.sv_store.specs.Kept.{subscriber_of, store_of}
use Rattle.sv_store.proofs.Places.{map-changed, changed_past, subscribers_at-map}
use Rattle.sv_store.proofs.stores.add_subscriber.Goals as goal

pub take-requires : goal.take-requires
take-requires c =
    let e = get_or c.args.entries.now c.args.id c.index-entries-id.result in
    let there = ap length (subscribers_at-map store_of c.args.entries.now c.args.id c.index-entries-id.result c.if-id-entries.true) in
    omega (arith, there, c.requires, length-map e.subscribers.items subscriber_of)

pub returns-then-id-entries : goal.returns-then-id-entries
returns-then-id-entries c =
    let old = get_or c.args.entries.now c.args.id c.index-entries-id.result in
    map-changed store_of (with_subscriber (subscriber_of c.args.sub)) c.args.entries.now c.args.id c.index-entries-id.result (record { value = old.value; subscribers = c.take.new.subscribers }) c.if-id-entries.true
    (ap (λ l. record { value = view_of old.value; subscribers = l }) (ap (map subscriber_of) c.take.ensures ∙ map-append subscriber_of old.subscribers.items (c.args.sub ∷ [])))

pub returns-else-id-entries : goal.returns-else-id-entries
returns-else-id-entries c = changed_past store_of (with_subscriber (subscriber_of c.args.sub)) c.args.entries.now c.args.id c.if-id-entries.false
