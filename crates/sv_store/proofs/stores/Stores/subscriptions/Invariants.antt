use Rattle.std.proofs.Common.{◌≡◌, ◌+◌, drop}
use Rattle.sv_store.specs.Stores.{subscription_count}
use Rattle.sv_store.specs.Kept.{stores_of}
use Rattle.sv_store.proofs.stores.Stores.subscriptions.Given as goal

abbrev pub invariant-loop-entry : goal.invariant-loop-entry
invariant-loop-entry l = l.count + subscription_count (stores_of (drop l.entry-index l.entry-items)) ≡ subscription_count l.self
