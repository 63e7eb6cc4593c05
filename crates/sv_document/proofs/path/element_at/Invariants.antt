use Rattle.std.proofs.Common.{◌≡◌, drop}
use Rattle.sv_document.specs.Target.{element_at}
use Rattle.sv_document.proofs.path.element_at.Given as goal

abbrev pub invariant-loop-node : goal.invariant-loop-node
invariant-loop-node l = element_at l.left (drop l.node-index l.nodes) ≡ element_at l.fn.place l.nodes
