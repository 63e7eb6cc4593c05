use Rattle.std.proofs.Common.{◌≡◌, ◌++◌, false, map, drop}
use Rattle.std.specs.Prelude.{slice_index_or}
use Rattle.sv_effects.specs.Known.{names_without}
use Rattle.sv_effects.proofs.bundle.pure_names.Given as goal

abbrev pub invariant-loop-names : goal.invariant-loop-names
invariant-loop-names l = map (names_without (λ p. slice_index_or l.spoiled p false)) l.known ≡ l.lists ++ map (names_without (λ p. slice_index_or l.spoiled p false)) (drop l.names-index l.known)
