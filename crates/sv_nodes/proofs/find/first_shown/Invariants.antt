use Rattle.std.proofs.Common.{◌≡◌, drop}
use Rattle.sv_nodes.specs.Nodes.{first_shown}
use Rattle.sv_nodes.specs.Cells.{nodes_of}
use Rattle.sv_nodes.proofs.find.first_shown.Given as goal

abbrev pub invariant-loop-key : goal.invariant-loop-key
invariant-loop-key l = first_shown (nodes_of l.nodes.slots) (drop l.key-index l.keys) ≡ first_shown (nodes_of l.fn.nodes.slots) l.fn.keys
