use Rattle.std.proofs.Common.{◌≡◌, ◌++◌, drop, map}
use Rattle.sv_select.specs.Search.{found_in}
use Rattle.sv_select.specs.Seen.{seen}
use Rattle.sv_select.proofs.matching.+search.Given as goal

abbrev pub invariant-push_matches-loop-node : goal.invariant-push_matches-loop-node
invariant-push_matches-loop-node l =
    map seen l.found.items ++ found_in l.links l.reached (drop l.node-index l.nodes) ≡ map seen l.fn.found.items ++ found_in l.links l.reached l.nodes
