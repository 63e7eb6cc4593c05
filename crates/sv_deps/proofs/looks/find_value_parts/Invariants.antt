use Rattle.std.proofs.Common.{map, drop}
use Rattle.sv_names.specs.Locals.{names_of}
use Rattle.sv_deps.specs.Looks.{in_turn, value_part}
use Rattle.sv_deps.proofs.Onward.{Onward}
use Rattle.sv_deps.proofs.looks.find_value_parts.Given as goal

abbrev pub invariant-loop-part : goal.invariant-loop-part
invariant-loop-part l = Onward l.fn.seen l.seen (in_turn (map value_part l.parts) (names_of l.own)) (in_turn (map value_part (drop l.part-index l.parts)) (names_of l.own))
