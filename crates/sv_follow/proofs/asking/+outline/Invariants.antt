use Rattle.std.proofs.Common.{◌≡◌, ◌++◌, drop}
use Rattle.sv_follow.specs.Outline.{outline}
use Rattle.sv_follow.proofs.asking.+outline.Given as goal

abbrev pub invariant-outline_all-loop-node : goal.invariant-outline_all-loop-node
invariant-outline_all-loop-node l = l.all ++ outline (drop l.node-index l.nodes) ≡ l.fn.all ++ outline l.nodes
