use Rattle.std.proofs.lemmas.Result.{on_ok_weaker, on_err_weaker}
use Rattle.sv_store.specs.Stores.{with_subscriber}
use Rattle.sv_store.specs.Kept.{subscriber_of, store_of}
use Rattle.sv_store.proofs.Places.{map-changed, map-same, changed_past}
use Rattle.sv_store.proofs.stores.push_subscriber.Goals as goal

pub returns-then-id-entries-clause-ok : goal.returns-then-id-entries-clause-ok
returns-then-id-entries-clause-ok c =
    on_ok_weaker c.push_to.result (map-changed store_of (with_subscriber (subscriber_of c.args.sub)) c.args.entries.now c.args.id c.index-entries-id.result c.push_to.new.entry c.if-id-entries.true) c.push_to.ensures.ok

pub returns-then-id-entries-clause-err : goal.returns-then-id-entries-clause-err
returns-then-id-entries-clause-err c = on_err_weaker c.push_to.result (map-same store_of c.args.entries.now c.args.id c.index-entries-id.result c.push_to.new.entry c.if-id-entries.true) c.push_to.ensures.err

pub returns-else-id-entries-clause-ok : goal.returns-else-id-entries-clause-ok
returns-else-id-entries-clause-ok c = changed_past store_of (with_subscriber (subscriber_of c.args.sub)) c.args.entries.now c.args.id c.if-id-entries.false
