use Rattle.std.proofs.Common.{◌≡◌, take, drop, ◌++◌}
use Rattle.sv_store.specs.Stores.{dropped}
use Rattle.sv_store.specs.Kept.{stores_of}
use Rattle.sv_store.proofs.stores.drop_all.Given as goal

abbrev pub invariant-loop-index : goal.invariant-loop-index
invariant-loop-index l = stores_of l.entries ≡ dropped (take l.index (stores_of l.initial.entries)) l.number ++ drop l.index (stores_of l.initial.entries)
