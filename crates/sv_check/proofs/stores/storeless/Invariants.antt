use Rattle.std.proofs.Common.{◌≡◌, ◌++◌, drop}
use Rattle.sv_check.specs.Stores.{storeless}
use Rattle.sv_check.proofs.stores.storeless.Given as goal

abbrev pub invariant-loop-found : goal.invariant-loop-found
invariant-loop-found l = storeless l.names l.known l.uses ≡ l.places ++ storeless l.names l.known (drop l.found-index l.uses)
