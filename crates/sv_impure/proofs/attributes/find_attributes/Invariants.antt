use Rattle.std.proofs.Common.{◌≡◌, ◌++◌, drop}
use Rattle.sv_purity.specs.Scopes.{visible}
use Rattle.sv_impure.specs.Impure.{attributes}
use Rattle.sv_impure.proofs.attributes.find_attributes.Given as goal

abbrev pub invariant-loop-attr : goal.invariant-loop-attr
invariant-loop-attr l = l.fn.places ++ attributes l.attrs l.names (visible l.scope) ≡ l.places ++ attributes (drop l.attr-index l.attrs) l.names (visible l.scope)
