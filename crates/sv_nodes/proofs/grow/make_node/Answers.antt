use Rattle.std.proofs.Common.{◌≡◌, ◌∙◌, ap, sym, subst, Some, drop}
use Rattle.slab.specs.Slab.{get}
use Rattle.sv_nodes.specs.Nodes.{Cell, first_shown}
use Rattle.sv_nodes.specs.Steps.{IsBack}
use Rattle.sv_nodes.specs.Cells.{cell_of, nodes_of}
use Rattle.sv_nodes.specs.declared.entry.Entry.{Entry}
use Rattle.sv_nodes.proofs.Slabs.{at_node, there, some_and}
use Rattle.sv_nodes.proofs.grow.make_node.Goals as goal

some : {x y : Entry} → Some x ≡ Some y → x ≡ y
some e = cc

same_cell : {x y : Cell} → Some x ≡ Some y → x ≡ y
same_cell e = cc

pub returns-clause-made : goal.returns-clause-made
returns-clause-made c =
    let slab = c.args.nodes.now in
    let live = some_and _ _ c.requires in
    let parent = there (get slab c.args.parent) live c.place_in-at.ensures in
    let next = there (get slab c.args.parent) live c.follower-follower.ensures in
    let adds = c.in_ok-key.ensures.made in
    let is : adds.cell ≡ cell_of parent.0 = same_cell (sym adds.was ∙ at_node slab c.args.parent parent.0 parent.1) in
    let own : c.entry_at.result.now ≡ parent.0 = some (sym c.entry_at.ensures ∙ parent.1) in
    let other : next.0 ≡ parent.0 = some (sym next.1 ∙ parent.1) in
    record {
      at = c.place_in-at.result;
      adds = adds;
      placed = subst (λ (z : Cell). IsBack c.args.before (drop c.place_in-at.result z.children)) (sym is) parent.2.back;
      above_is = ap (λ (e : Entry). e.serial) own ∙ ap (λ (z : Cell). z.serial) (sym is);
      follower_is = next.2 ∙ (ap (λ (e : Entry). first_shown (nodes_of slab.slots) (drop c.place_in-at.result e.children.items)) other ∙ ap (λ (z : Cell). first_shown (nodes_of slab.slots) (drop c.place_in-at.result z.children)) (sym is));
    }
