use Rattle.std.proofs.Common.{◌<◌, length, arith}
use Rattle.sv_store.specs.Kept.{store_of, stores_of}
use Rattle.sv_store.proofs.Counts.{drop-more}
use Rattle.sv_store.proofs.stores.drop_all.Goals as goal

pub loop-index-preserved : goal.loop-index-preserved
loop-index-preserved c =
    let inside : c.loop-index.index < length c.loop-index.entries = omega arith in
    drop-more store_of (stores_of c.args.entries.now) c.loop-index.entries c.args.number c.loop-index.index c.index-entries-index.result c.keep_others.new.entry inside c.loop-index.invariant c.keep_others.ensures
