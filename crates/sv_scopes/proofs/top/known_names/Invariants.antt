use Rattle.std.proofs.Common.{◌≡◌, filter, drop}
use Rattle.std.specs.Prelude.{not}
use Rattle.sv_names.specs.Distinct.{with_names}
use Rattle.sv_scopes.specs.Files.{known, is_reactive}
use Rattle.sv_scopes.specs.Parts.{names_of}
use Rattle.sv_scopes.proofs.top.known_names.Given as goal

abbrev pub invariant-loop-declared : goal.invariant-loop-declared
invariant-loop-declared l = known l.declares ≡ with_names l.known (names_of (filter (λ d. not (is_reactive d.by)) (drop l.declared-index l.declares)))
