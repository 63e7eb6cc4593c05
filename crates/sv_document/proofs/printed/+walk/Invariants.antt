use Rattle.std.proofs.Common.{◌≡◌, ◌++◌, drop}
use Rattle.std.specs.Prelude.{option_copied}
use Rattle.sv_document.specs.Printed.{html}
use Rattle.sv_document.proofs.printed.+walk.Given as goal

abbrev pub invariant-push_nodes-loop-node : goal.invariant-push_nodes-loop-node
invariant-push_nodes-loop-node l = l.out.items ++ html (option_copied l.numbers) (drop l.node-index l.nodes) ≡ l.fn.out.items ++ html (option_copied l.numbers) l.nodes
