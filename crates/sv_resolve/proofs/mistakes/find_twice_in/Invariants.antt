use Rattle.std.proofs.Common.{◌≡◌, fold}
use Rattle.std.specs.Slice.Iter.{iter_rest}
use Rattle.sv_resolve.specs.declared.refusals.CheckKind.TheVariants.{DeclaredTwice}
use Rattle.sv_resolve.specs.Earliest.{earlier}
use Rattle.sv_resolve.specs.Mistakes as spec
use Rattle.sv_resolve.proofs.mistakes.find_twice_in.Given as goal

abbrev pub invariant-loop-declared : goal.invariant-loop-declared
invariant-loop-declared l = fold earlier l.fn.first (spec.refused DeclaredTwice (spec.declared_twice l.names l.scope)) ≡ fold earlier l.first (spec.refused DeclaredTwice (spec.again l.names l.known (iter_rest l.declared-iterator)))
