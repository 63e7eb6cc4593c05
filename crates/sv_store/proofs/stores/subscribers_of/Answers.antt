use Rattle.std.proofs.Common.{◌∙◌, ap, map}
use Rattle.sv_store.specs.Kept.{subscriber_of, store_of}
use Rattle.sv_store.proofs.Places.{subscribers_at-map, subscribers_past}
use Rattle.sv_store.proofs.stores.subscribers_of.Goals as goal

pub returns-then-id-entries : goal.returns-then-id-entries
returns-then-id-entries c = ap (map subscriber_of) c.deref.ensures.value ∙ subscribers_at-map store_of c.args.entries.now c.args.id c.index-entries-id.result c.if-id-entries.true

pub returns : goal.returns
returns c = subscribers_past store_of c.args.entries.now c.args.id c.if-id-entries.false
