use Rattle.std.proofs.Common.{drop}
use Rattle.sv_scopes.specs.Parts.{declaring}
use Rattle.sv_scopes.specs.Attributes.{lets}
use Rattle.sv_scopes.proofs.Leaving.{Leaves}
use Rattle.sv_scopes.proofs.attributes.declare_lets.Given as goal

abbrev pub invariant-loop-attr : goal.invariant-loop-attr
invariant-loop-attr l = Leaves l.fn.found l.found (declaring (lets l.attrs)) (declaring (lets (drop l.attr-index l.attrs)))
