use Rattle.std.proofs.Common.{◌≡◌, drop}
use Rattle.sv_document.specs.Target as spec
use Rattle.sv_document.proofs.path.+search.Given as goal

abbrev pub invariant-target-loop-node : goal.invariant-target-loop-node
invariant-target-loop-node l = spec.target l.id (drop l.node-index l.nodes) ≡ spec.target l.fn.id l.nodes
