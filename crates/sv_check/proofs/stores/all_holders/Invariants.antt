use Rattle.std.proofs.Common.{◌≡◌, filter, drop}
use Rattle.sv_names.specs.Distinct.{with_names}
use Rattle.sv_scopes.specs.Parts.{names_of}
use Rattle.sv_check.specs.Stores.{all_holders, may_hold}
use Rattle.sv_check.proofs.stores.all_holders.Given as goal

abbrev pub invariant-loop-declared : goal.invariant-loop-declared
invariant-loop-declared l = all_holders l.declares ≡ with_names l.known (names_of (filter (λ d. may_hold d.by) (drop l.declared-index l.declares)))
