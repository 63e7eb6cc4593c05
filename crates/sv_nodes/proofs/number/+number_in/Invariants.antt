use Rattle.std.proofs.Common.{◌-◌}
use Rattle.sv_nodes.specs.Nodes.{serial_at}
use Rattle.sv_nodes.specs.Cells.{nodes_of}
use Rattle.sv_nodes.proofs.Numbered.{Part}
use Rattle.sv_nodes.proofs.number.+number_in.Given as goal

abbrev pub decreases-number_in : goal.decreases-number_in
decreases-number_in l = l.next - serial_at (nodes_of l.nodes.now.slots) l.key

abbrev pub invariant-loop-place : goal.invariant-loop-place
invariant-loop-place l = Part (nodes_of l.fn.nodes.slots) (nodes_of l.nodes.slots) l.fn.key l.fn.number l.number l.place
