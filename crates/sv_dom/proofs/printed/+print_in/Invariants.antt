use Rattle.std.proofs.Common.{◌≡◌, ◌++◌, ◌∷◌, [], ◌-◌, drop}
use Rattle.sv_nodes.specs.Nodes.{walk, levels, serial_at}
use Rattle.sv_nodes.specs.Cells.{nodes_of, kind_of}
use Rattle.sv_html.specs.Html.{html}
use Rattle.sv_dom.specs.Printed.{after_html}
use Rattle.sv_dom.proofs.printed.+print_in.Given as goal

abbrev pub decreases-print_in : goal.decreases-print_in
decreases-print_in l = l.next - serial_at (nodes_of l.nodes.now.slots) l.key

abbrev pub invariant-loop-child : goal.invariant-loop-child
invariant-loop-child l =
    l.out.items ++ (html l.numbers (walk levels (nodes_of l.nodes.slots) (drop l.child-index l.child-items)) ++ after_html l.entry.serial (kind_of l.entry.content))
    ≡ l.fn.out.items ++ html l.numbers (walk levels (nodes_of l.nodes.slots) (l.key ∷ []))
