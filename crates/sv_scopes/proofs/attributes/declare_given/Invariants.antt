use Rattle.std.proofs.Common.{drop}
use Rattle.std.specs.List.{flat_map}
use Rattle.sv_scopes.specs.Parts.{declaring}
use Rattle.sv_scopes.specs.Attributes.{given_part}
use Rattle.sv_scopes.proofs.Leaving.{Leaves}
use Rattle.sv_scopes.proofs.attributes.declare_given.Given as goal

abbrev pub invariant-loop-part : goal.invariant-loop-part
invariant-loop-part l = Leaves l.fn.found l.found (declaring (flat_map given_part l.parts)) (declaring (flat_map given_part (drop l.part-index l.parts)))
