use Rattle.std.proofs.Common.{map, drop}
use Rattle.sv_names.specs.Locals.{names_of}
use Rattle.sv_deps.specs.Looks.{nodes, node, in_turn, arm_looks}
use Rattle.sv_deps.proofs.Onward.{Onward}
use Rattle.sv_deps.proofs.looks.+walk.Given as goal

abbrev pub invariant-find_nodes-loop-node : goal.invariant-find_nodes-loop-node
invariant-find_nodes-loop-node l = Onward l.fn.seen l.seen (nodes (map node l.nodes) (names_of l.own)) (nodes (map node (drop l.node-index l.nodes)) (names_of l.own))

abbrev pub invariant-find_arms-loop-arm : goal.invariant-find_arms-loop-arm
invariant-find_arms-loop-arm l = Onward l.fn.seen l.seen (in_turn (map arm_looks l.arms) (names_of l.own)) (in_turn (map arm_looks (drop l.arm-index l.arms)) (names_of l.own))
