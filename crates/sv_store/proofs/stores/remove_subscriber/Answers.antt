use Rattle.sv_store.specs.Stores.{without_subscriber}
use Rattle.sv_store.specs.Kept.{subscriber_of, store_of}
use Rattle.sv_store.proofs.Places.{map-changed, changed_past}
use Rattle.sv_store.proofs.stores.remove_subscriber.Goals as goal

pub returns-then-id-entries : goal.returns-then-id-entries
returns-then-id-entries c = map-changed store_of (without_subscriber (subscriber_of c.args.sub)) c.args.entries.now c.args.id c.index-entries-id.result c.keep_apart.new.entry c.if-id-entries.true c.keep_apart.ensures

pub returns-else-id-entries : goal.returns-else-id-entries
returns-else-id-entries c = changed_past store_of (without_subscriber (subscriber_of c.args.sub)) c.args.entries.now c.args.id c.if-id-entries.false
