use Rattle.std.proofs.Common.{◌≡◌, ◌++◌, map, drop}
use Rattle.sv_purity.specs.Pure.{each}
use Rattle.sv_purity.specs.Scopes.{visible}
use Rattle.sv_impure.specs.Impure.{part}
use Rattle.sv_impure.proofs.attributes.find_parts.Given as goal

abbrev pub invariant-loop-part : goal.invariant-loop-part
invariant-loop-part l = l.fn.places ++ each (map part l.parts) l.names (visible l.scope) ≡ l.places ++ each (map part (drop l.part-index l.parts)) l.names (visible l.scope)
