use Rattle.std.proofs.Common.{◌≡◌, ◌++◌, map, drop}
use Rattle.sv_listing.specs.Parts.{parts, together, arm_parts}
use Rattle.sv_listing.proofs.walk.+walk.Given as goal

abbrev pub invariant-find_in_frags-loop-frag : goal.invariant-find_in_frags-loop-frag
invariant-find_in_frags-loop-frag l = l.fn.found ++ parts l.insides l.frags ≡ l.found ++ parts l.insides (drop l.frag-index l.frags)

abbrev pub invariant-find_in_arms-loop-arm : goal.invariant-find_in_arms-loop-arm
invariant-find_in_arms-loop-arm l = l.fn.found ++ together (map (arm_parts l.insides) l.arms) ≡ l.found ++ together (map (arm_parts l.insides) (drop l.arm-index l.arms))
