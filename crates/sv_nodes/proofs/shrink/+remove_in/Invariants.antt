use Rattle.std.proofs.Common.{◌-◌, length}
use Rattle.sv_nodes.specs.Nodes.{tokens_of, serial_at}
use Rattle.sv_nodes.specs.Steps.{Loses}
use Rattle.sv_nodes.specs.Cells.{nodes_of}
use Rattle.sv_nodes.proofs.shrink.+remove_in.Given as goal

abbrev pub decreases-remove_in : goal.decreases-remove_in
decreases-remove_in l = l.next - serial_at (nodes_of l.nodes.now.slots) l.key

abbrev pub invariant-loop-child : goal.invariant-loop-child
invariant-loop-child l = Loses (nodes_of l.fn.nodes.slots) (nodes_of l.nodes.slots) l.fn.next l.fn.key

abbrev pub decreases-loop-child : goal.decreases-loop-child
decreases-loop-child l = length (tokens_of (nodes_of l.nodes.slots))
