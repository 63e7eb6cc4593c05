use Rattle.std.proofs.Common.{◌≡◌, drop}
use Rattle.sv_names.specs.Distinct.{firsts, with_names}
use Rattle.sv_scopes.specs.Parts.{names_of}
use Rattle.sv_check.proofs.markup.declared_names.Given as goal

abbrev pub invariant-loop-declared : goal.invariant-loop-declared
invariant-loop-declared l = firsts (names_of l.declares) ≡ with_names l.names (names_of (drop l.declared-index l.declares))
