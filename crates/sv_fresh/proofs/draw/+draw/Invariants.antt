use Rattle.std.proofs.Common.{◌≡◌, ◌++◌, ◌+◌, drop}
use Rattle.std.specs.Prelude.{slice_get}
use Rattle.sv_plan.specs.Content.{outer_tags}
use Rattle.sv_plan.specs.Lists.{head_of, row_view}
use Rattle.sv_attributes.specs.Each.{each}
use Rattle.sv_fresh.specs.Blocks.{row_parts}
use Rattle.sv_fresh.specs.Fresh.{frag_drawn, drawn_all, rows_nodes}
use Rattle.sv_fresh.specs.Scene.{Scene, seen}
use Rattle.sv_fresh.proofs.Weights.{weight, weights, inside, whole}
use Rattle.sv_fresh.proofs.draw.+draw.Given as goal

abbrev pub invariant-draw_all-loop-index : goal.invariant-draw_all-loop-index
invariant-draw_all-loop-index l =
    let s : Scene = seen l.here.scene.now in
    l.fn.nodes ++ drawn_all s l.frags l.here.view.now l.shapes ≡ l.nodes ++ each (λ f i. frag_drawn s f l.here.view.now (slice_get l.shapes i)) l.index (drop l.index l.frags)

abbrev pub invariant-draw_rows-loop-index : goal.invariant-draw_rows-loop-index
invariant-draw_rows-loop-index l =
    let s : Scene = seen l.here.scene.now in
    l.fn.nodes ++ rows_nodes (head_of l.block) (drawn_all s l.block.body.now) l.here.view.now l.shapes l.items
    ≡ l.nodes
    ++ each (λ x i. drawn_all s l.block.body.now (row_view (head_of l.block) 0 i x l.here.view.now) (row_parts (slice_get l.shapes i))) l.index (drop l.index l.items)

abbrev pub decreases-draw : goal.decreases-draw
decreases-draw l = inside (seen l.here.now.scene.now) (weight l.frag.now)

abbrev pub decreases-draw_all : goal.decreases-draw_all
decreases-draw_all l = inside (seen l.here.now.scene.now) (weights l.frags.now)

abbrev pub decreases-draw_children : goal.decreases-draw_children
decreases-draw_children l = inside (seen l.here.now.scene.now) (weights l.frags.now + 1)

abbrev pub decreases-draw_list : goal.decreases-draw_list
decreases-draw_list l = inside (seen l.here.now.scene.now) ((weights l.block.now.body.now + weights l.block.now.none.now) + 3)

abbrev pub decreases-draw_rows : goal.decreases-draw_rows
decreases-draw_rows l = inside (seen l.here.now.scene.now) (weights l.block.now.body.now + 2)

abbrev pub decreases-draw_on : goal.decreases-draw_on
decreases-draw_on l = inside (seen l.scene.now) (weights l.frags.now + 1)

abbrev pub decreases-draw_content : goal.decreases-draw_content
decreases-draw_content l = inside (record (seen l.here.now.scene.now) { tags = outer_tags l.here.now.scene.now.tags.now }) (weights l.content.now.frags.now + 2)

abbrev pub decreases-draw_tag : goal.decreases-draw_tag
decreases-draw_tag l = inside (seen l.here.now.scene.now) 1

abbrev pub decreases-draw_instance : goal.decreases-draw_instance
decreases-draw_instance l = whole (seen l.scene.now)
