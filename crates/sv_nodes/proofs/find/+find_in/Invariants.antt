use Rattle.std.proofs.Common.{◌≡◌, ◌-◌, ◌∷◌, [], drop}
use Rattle.sv_tokens.specs.Token.{first_key, identifies}
use Rattle.sv_nodes.specs.Nodes.{walk, levels, serial_at}
use Rattle.sv_nodes.specs.Cells.{nodes_of}
use Rattle.sv_nodes.proofs.find.+find_in.Given as goal

abbrev pub decreases-find_in : goal.decreases-find_in
decreases-find_in l = l.next - serial_at (nodes_of l.nodes.now.slots) l.key

abbrev pub invariant-loop-child : goal.invariant-loop-child
invariant-loop-child l =
    first_key (identifies l.id) (walk levels (nodes_of l.nodes.slots) (drop l.child-index l.child-items))
    ≡ first_key (identifies l.fn.id) (walk levels (nodes_of l.fn.nodes.slots) (l.fn.key ∷ []))
