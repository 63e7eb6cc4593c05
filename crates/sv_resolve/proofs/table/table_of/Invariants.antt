use Rattle.std.proofs.Common.{◌≡◌, drop}
use Rattle.sv_names.specs.Distinct.{firsts, with_names}
use Rattle.sv_resolve.specs.Mistakes.{components, constants}
use Rattle.sv_scopes.specs.Parts.{names_of}
use Rattle.sv_resolve.proofs.table.table_of.Given as goal

abbrev pub invariant-loop-declared : goal.invariant-loop-declared
invariant-loop-declared l = record {
  all : firsts (names_of l.declares) ≡ with_names l.table.all (names_of (drop l.declared-index l.declares));
  components : firsts (components l.declares) ≡ with_names l.table.components (components (drop l.declared-index l.declares));
  constants : firsts (constants l.declares) ≡ with_names l.table.constants (constants (drop l.declared-index l.declares));
}
