use Rattle.std.proofs.Common.{◌≡◌, map, drop}
use Rattle.sv_names.specs.Distinct.{with_names}
use Rattle.sv_names.specs.Uses.{named}
use Rattle.sv_names.proofs.scopes.declare_all.Given as goal

abbrev pub invariant-loop-name : goal.invariant-loop-name
invariant-loop-name l = with_names l.fn.scope (map named l.names) ≡ with_names l.scope (map named (drop l.name-index l.names))
