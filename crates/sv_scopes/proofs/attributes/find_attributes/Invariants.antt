use Rattle.std.proofs.Common.{drop}
use Rattle.sv_scopes.specs.Attributes.{attributes}
use Rattle.sv_scopes.proofs.Leaving.{Leaves}
use Rattle.sv_scopes.proofs.attributes.find_attributes.Given as goal

abbrev pub invariant-loop-attr : goal.invariant-loop-attr
invariant-loop-attr l = Leaves l.fn.found l.found (attributes l.attrs) (attributes (drop l.attr-index l.attrs))
