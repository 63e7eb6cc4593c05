use Rattle.std.proofs.Common.{◌≡◌, fold, drop}
use Rattle.std.specs.List.{flat_map}
use Rattle.sv_resolve.specs.declared.refusals.CheckKind.TheVariants.{DeclaredTwice}
use Rattle.sv_resolve.specs.Earliest.{earlier}
use Rattle.sv_resolve.specs.Mistakes as spec
use Rattle.sv_resolve.proofs.mistakes.find_twice.Given as goal

abbrev pub invariant-loop-scope : goal.invariant-loop-scope
invariant-loop-scope l = fold earlier l.fn.first (spec.refused DeclaredTwice (flat_map (spec.declared_twice l.names) l.scopes)) ≡ fold earlier l.first (spec.refused DeclaredTwice (flat_map (spec.declared_twice l.names) (drop l.scope-index l.scopes)))
