use Rattle.std.proofs.Common.{map, drop}
use Rattle.sv_scopes.specs.Parts.{in_turn}
use Rattle.sv_scopes.specs.Attributes.{part}
use Rattle.sv_scopes.proofs.Leaving.{Leaves}
use Rattle.sv_scopes.proofs.attributes.find_parts.Given as goal

abbrev pub invariant-loop-part : goal.invariant-loop-part
invariant-loop-part l = Leaves l.fn.found l.found (in_turn (map part l.parts)) (in_turn (map part (drop l.part-index l.parts)))
