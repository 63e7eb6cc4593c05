use Rattle.std.proofs.Common.{◌≡◌, ◌++◌, drop}
use Rattle.sv_document.specs.Marks.{marks}
use Rattle.sv_document.proofs.marks.+marks.Given as goal

abbrev pub invariant-push_all-loop-node : goal.invariant-push_all-loop-node
invariant-push_all-loop-node l = l.found ++ marks (drop l.node-index l.nodes) ≡ l.fn.found ++ marks l.nodes
