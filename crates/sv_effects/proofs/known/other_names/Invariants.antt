use Rattle.std.proofs.Common.{◌≡◌, ◌<◌, ◌++◌, false, length}
use Rattle.std.specs.Prelude.{All, slice_index_or}
use Rattle.sv_effects.specs.Known.{names_without}
use Rattle.sv_effects.proofs.known.other_names.Given as goal

abbrev pub invariant-loop-name : goal.invariant-loop-name
invariant-loop-name l = record {
  names : names_without (λ p. slice_index_or l.spoiled p false) l.points.entries ≡ l.names ++ names_without (λ p. slice_index_or l.spoiled p false) l.name-iterator;
  within : All (λ k. k.1 < length l.spoiled) l.name-iterator;
}
