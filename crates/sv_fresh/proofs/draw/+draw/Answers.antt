use Rattle.std.proofs.Common.{◌≡◌, ◌+◌, ◌<◌, ap, sym, ◌∙◌, ◌∷◌, ◌++◌, arith, rules, Some, []}
use Rattle.std.proofs.lemmas.List.{append-nil}
use Rattle.std.specs.Prelude.{unwrap_or, option_copied}
use Rattle.sv_plan.specs.Content.{seen as content_seen, outer_tags}
use Rattle.sv_plan.specs.Plan.{body_in, head}
use Rattle.sv_document.specs.declared.tree.Node.TheVariants as node
use Rattle.sv_shapes.specs.Shapes.{Opened, opened, mark_in}
use Rattle.sv_view.specs.Level.{View}
use Rattle.sv_fresh.specs.Fresh.{drawn_all, shown_text, child_drawn, content_drawn, list_nodes}
use Rattle.sv_fresh.specs.Sources.{text_by, items_by}
use Rattle.sv_fresh.specs.Scene.{Scene, Tags, seen, within, markup_at}
use Rattle.sv_fresh.proofs.Drawing.{in-Text, in-Show, in-Element, in-Tag, in-Named, in-Key, in-If, in-Each, in-own, in-given, draws, drawn-each, at-bottom, not-live, instance-drawn, no-room, room-left}
use Rattle.sv_fresh.proofs.Weights.{same, upward, downward, inward, inside, whole, weight, weights, arms_weight, item-weight, weight-Tag, weight-Element, weight-Slot, weight-If, weight-Each, weight-Key, body-weight, content-weight, content-level, markup-weight}
use Rattle.sv_fresh.proofs.draw.+draw.Goals as goal

pub draw-draw_tag-requires : goal.draw-draw_tag-requires
draw-draw_tag-requires t c =
    let s : Scene = seen c.args.here.now.scene.now in
    let h : inside s 1 < inside s (weight c.args.frag.now) = same s 1 (weight c.args.frag.now) (omega (arith, weight-Tag _ _ _ c.in-Tag.is)) in
    omega (arith, c.decreases)

pub draw-draw_children-requires : goal.draw-draw_children-requires
draw-draw_children-requires t c =
    let s : Scene = seen c.args.here.now.scene.now in
    let e : weights c.as_slice-in-Element.result.now ≡ weights c.in-Element.children = ap weights c.as_slice-in-Element.ensures in
    let h = same s (weights c.as_slice-in-Element.result.now + 1) (weight c.args.frag.now) (omega (arith, weight-Element _ _ _ _ _ c.in-Element.is)) in
    omega (arith, c.decreases)

pub draw-draw_content-requires : goal.draw-draw_content-requires
draw-draw_content-requires t c =
    let s : Scene = seen c.args.here.now.scene.now in
    let w = content-weight s.page.program s.tags c.as_str.result.now (content_seen c.in-Some.content) (sym c.in-Some.ensures) in
    let e = content-level s.page.program s.tags c.as_str.result.now (content_seen c.in-Some.content) (sym c.in-Some.ensures) in
    let h = upward s (outer_tags s.tags) (weights c.in-Some.content.frags.now + 2) (weight c.args.frag.now) e (omega arith) in
    omega (arith, c.decreases)

pub draw-draw_all-requires : goal.draw-draw_all-requires
draw-draw_all-requires t c =
    let s : Scene = seen c.args.here.now.scene.now in
    let e : weights c.as_slice-in-None.result.now ≡ weights c.in-Slot.own = ap weights c.as_slice-in-None.ensures in
    let h = same s (weights c.as_slice-in-None.result.now) (weight c.args.frag.now) (omega (arith, weight-Slot _ _ _ _ _ _ c.in-Slot.is)) in
    omega (arith, c.decreases)

pub draw-draw_all-requires-in-If : goal.draw-draw_all-requires-in-If
draw-draw_all-requires-in-If t c =
    let s : Scene = seen c.args.here.now.scene.now in
    let a : arms_weight c.as_slice-in-If-2.result.now ≡ arms_weight c.in-If.arms = ap arms_weight c.as_slice-in-If-2.ensures in
    let b : weights c.frags_of.result.now ≡ weights (unwrap_or c.in-If.last []) = ap weights (search rules) in
    let e : weights c.body_of-body.result.now ≡ weights (body_in c.as_slice-in-If-2.result.now c.frags_of.result.now c.in_ok-arm-in-If.arm) = ap weights c.body_of-body.ensures in
    let w = body-weight c.as_slice-in-If-2.result.now c.frags_of.result.now c.in_ok-arm-in-If.arm in
    let h = same s (weights c.body_of-body.result.now) (weight c.args.frag.now) (omega (arith, weight-If _ _ _ c.in-If.is)) in
    omega (arith, c.decreases)

pub draw-draw_list-requires : goal.draw-draw_list-requires
draw-draw_list-requires t c =
    let s : Scene = seen c.args.here.now.scene.now in
    let a : weights c.as_slice-in-Each.result.now ≡ weights c.in-Each.body = ap weights c.as_slice-in-Each.ensures in
    let b : weights c.frags_of-in-Each.result.now ≡ weights (unwrap_or c.in-Each.none []) = ap weights (search rules) in
    let h = same s ((weights c.as_slice-in-Each.result.now + weights c.frags_of-in-Each.result.now) + 3) (weight c.args.frag.now) (omega (arith, weight-Each _ _ _ _ _ _ _ c.in-Each.is)) in
    omega (arith, c.decreases)

pub draw-draw_all-requires-in-Key : goal.draw-draw_all-requires-in-Key
draw-draw_all-requires-in-Key t c =
    let s : Scene = seen c.args.here.now.scene.now in
    let e : weights c.as_slice-in-Key.result.now ≡ weights c.in-Key.body = ap weights c.as_slice-in-Key.ensures in
    let h = same s (weights c.as_slice-in-Key.result.now) (weight c.args.frag.now) (omega (arith, weight-Key _ _ _ c.in-Key.is)) in
    omega (arith, c.decreases)

pub draw-returns-in_ok-share-in-Text : goal.draw-returns-in_ok-share-in-Text
draw-returns-in_ok-share-in-Text t c =
    draws _ _ _ (c.text_node.result ∷ []) _ c.push.ensures.ok (rw (c.text_node.ensures, c.mark_of.ensures, c.in_ok-share-in-Text.ensures) (in-Text _ _ _ _ _ c.in-Text.is))

pub draw-returns-in-Show : goal.draw-returns-in-Show
draw-returns-in-Show t c =
    let s : Scene = seen c.args.here.now.scene.now in
    let v : View = c.args.here.now.view.now in
    let old : Opened = opened (option_copied c.args.shape) in
    draws _ _ _ (shown_text (mark_in old) (text_by s.page.source s.page.program c.in-Show.part v old)) _ c.show.ensures (in-Show _ _ _ _ _ c.in-Show.is)

pub draw-returns-in_ok-element-in-Element : goal.draw-returns-in_ok-element-in-Element
draw-returns-in_ok-element-in-Element t c =
    let s : Scene = seen c.args.here.now.scene.now in
    let v : View = c.args.here.now.view.now in
    draws _ _ _ (node.Element c.in_ok-element-in-Element.element (drawn_all s c.as_slice-in-Element.result.now v c.parts_of.result.now) ∷ []) _ c.draw_children.ensures
    (rw (c.in_ok-element-in-Element.ensures, c.as_slice-in-Element.ensures, c.as_slice.ensures, c.parts_of.ensures) (in-Element _ _ _ _ _ _ _ _ c.in-Element.is))

pub draw-returns-in-Tag : goal.draw-returns-in-Tag
draw-returns-in-Tag t c =
    let s : Scene = seen c.args.here.now.scene.now in
    let v : View = c.args.here.now.view.now in
    draws _ _ _ (child_drawn s c.in-Tag.tag v c.place_of.result) _ c.draw_tag.ensures (rw c.place_of.ensures (in-Tag _ _ _ _ _ _ c.in-Tag.is))

pub draw-returns-in-Named : goal.draw-returns-in-Named
draw-returns-in-Named t c =
    sym (ap (λ ns. c.args.nodes.now ++ ns) (in-Named _ _ _ _ _ _ _ c.in-Named.is) ∙ append-nil c.args.nodes.now)

pub draw-returns-in-Some : goal.draw-returns-in-Some
draw-returns-in-Some t c =
    let s : Scene = seen c.args.here.now.scene.now in
    let v : View = c.args.here.now.view.now in
    draws _ _ _ (content_drawn s (content_seen c.in-Some.content) c.as_slice-in-Some.result.now v (opened (option_copied c.args.shape))) _ c.draw_content.ensures
    (rw c.as_slice-in-Some.ensures (in-given _ _ _ _ _ _ _ _ _ c.in-Slot.is (content_seen c.in-Some.content) (rw (← c.as_str.ensures) (sym c.in-Some.ensures))))

pub draw-returns-in-None : goal.draw-returns-in-None
draw-returns-in-None t c =
    let s : Scene = seen c.args.here.now.scene.now in
    let v : View = c.args.here.now.view.now in
    draws _ _ _ (drawn_all s c.as_slice-in-None.result.now v c.parts_of-in-None.result.now) _ c.draw_all.ensures
    (rw (c.as_slice-in-None.ensures, c.parts_of-in-None.ensures) (in-own _ _ _ _ _ _ _ _ _ c.in-Slot.is (rw (← c.as_str.ensures) (sym c.in-None.ensures))))

pub draw-returns-in_ok-arm-in-If : goal.draw-returns-in_ok-arm-in-If
draw-returns-in_ok-arm-in-If t c =
    let s : Scene = seen c.args.here.now.scene.now in
    let v : View = c.args.here.now.view.now in
    let b : c.frags_of.result.now ≡ unwrap_or c.in-If.last [] = search rules in
    draws _ _ _ (drawn_all s c.body_of-body.result.now v c.parts_of-in-If.result.now) _ c.draw_all-in-If.ensures
    (rw (c.body_of-body.ensures, c.in_ok-arm-in-If.ensures, c.as_slice-in-If.ensures, c.as_slice-in-If-2.ensures, b, c.parts_of-in-If.ensures) (in-If _ _ _ _ _ _ c.in-If.is))

pub draw-returns-in-Each : goal.draw-returns-in-Each
draw-returns-in-Each t c =
    let s : Scene = seen c.args.here.now.scene.now in
    let v : View = c.args.here.now.view.now in
    let b : c.frags_of-in-Each.result.now ≡ unwrap_or c.in-Each.none [] = search rules in
    let k : option_copied c.as_ref-in-Each.result ≡ c.in-Each.key = c.as_ref-in-Each.ensures.value in
    draws _ _ _
    (list_nodes (head c.in-Each.list c.in-Each.item c.in-Each.index (option_copied c.as_ref-in-Each.result)) (drawn_all s c.as_slice-in-Each.result.now) (drawn_all s c.frags_of-in-Each.result.now) v (opened (option_copied c.args.shape)) (items_by s.page.source s.page.program c.in-Each.list v (opened (option_copied c.args.shape))))
    _ c.draw_list.ensures (rw (c.as_slice-in-Each.ensures, b, k) (in-Each _ _ _ _ _ _ _ _ _ _ c.in-Each.is))

pub draw-returns-in-Key : goal.draw-returns-in-Key
draw-returns-in-Key t c =
    let s : Scene = seen c.args.here.now.scene.now in
    let v : View = c.args.here.now.view.now in
    draws _ _ _ (drawn_all s c.as_slice-in-Key.result.now v c.parts_of-in-Key.result.now) _ c.draw_all-in-Key.ensures
    (rw (c.as_slice-in-Key.ensures, c.parts_of-in-Key.ensures) (in-Key _ _ _ _ _ _ c.in-Key.is))

pub draw_all-loop-index-init : goal.draw_all-loop-index-init
draw_all-loop-index-init t c =
    ap (λ ns. c.args.nodes.now ++ ns) (drawn-each _ _ _ _)

pub draw_all-draw-requires : goal.draw_all-draw-requires
draw_all-draw-requires t c =
    let s : Scene = seen c.args.here.now.scene.now in
    let h = same s (weight c.index-frags-index.result) (weights c.args.frags.now) (item-weight _ _ _ c.loop-index-test.true c.index-frags-index.is) in
    omega (arith, c.decreases)

pub draw_children-draw_all-requires : goal.draw_children-draw_all-requires
draw_children-draw_all-requires t c =
    let s : Scene = seen c.args.here.now.scene.now in
    let h = same s (weights c.args.frags.now) (weights c.args.frags.now + 1) (omega arith) in
    omega (arith, c.decreases)

pub draw_content-draw_on-requires : goal.draw_content-draw_on-requires
draw_content-draw_on-requires t c =
    let s : Scene = seen c.args.here.now.scene.now in
    let e : inside (record s { tags = c.outer_tags.result.now }) (weights c.args.content.now.frags.now + 1) ≡ inside (record s { tags = outer_tags s.tags }) (weights c.args.content.now.frags.now + 1) =
    ap (λ (tags : Tags). inside (record s { tags = tags }) (weights c.args.content.now.frags.now + 1)) c.outer_tags.ensures in
    let h = same (record s { tags = outer_tags s.tags }) (weights c.args.content.now.frags.now + 1) (weights c.args.content.now.frags.now + 2) (omega arith) in
    omega (arith, c.decreases)

pub draw_instance-returns-in_default : goal.draw_instance-returns-in_default
draw_instance-returns-in_default t c =
    sym (ap (λ ns. c.args.nodes.now ++ ns) (at-bottom _ _ _ _ _ (no-room _ _ c.checked_sub.ensures c.in_default.is)) ∙ append-nil c.args.nodes.now)

pub draw_instance-returns-in_default-2 : goal.draw_instance-returns-in_default-2
draw_instance-returns-in_default-2 t c =
    sym (ap (λ ns. c.args.nodes.now ++ ns) (not-live _ _ _ _ _ (sym c.in_ok-view.ensures ∙ c.in_default-2.is)) ∙ append-nil c.args.nodes.now)

pub draw_instance-draw_on-requires : goal.draw_instance-draw_on-requires
draw_instance-draw_on-requires t c =
    let s : Scene = seen c.args.scene.now in
    let a : weights c.markup_at.result.now ≡ weights (markup_at s.page c.args.inst.number) = ap weights c.markup_at.ensures in
    let b = markup-weight s.page c.args.inst.number in
    let h = inward s c.in-Some.room (weights c.markup_at.result.now + 1) (room-left _ _ _ c.checked_sub.ensures c.in-Some.is) (omega arith) in
    omega (arith, c.decreases)

pub draw_instance-returns : goal.draw_instance-returns
draw_instance-returns t c =
    let s : Scene = record (seen c.args.scene.now) { page = within (seen c.args.scene.now).page c.args.inst.number; room = c.in-Some.room } in
    draws _ _ _ (drawn_all s c.markup_at.result.now c.in-Some-2.view c.parts_at.result.now) _ c.draw_on.ensures
    (rw (c.markup_at.ensures, c.parts_at.ensures) (instance-drawn _ _ _ _ _ _ _ (room-left _ _ _ c.checked_sub.ensures c.in-Some.is) (sym c.in_ok-view.ensures ∙ c.in-Some-2.is)))

pub draw_list-draw_all-requires : goal.draw_list-draw_all-requires
draw_list-draw_all-requires t c =
    let s : Scene = seen c.args.here.now.scene.now in
    let h = same s (weights c.args.block.now.none.now) ((weights c.args.block.now.body.now + weights c.args.block.now.none.now) + 3) (omega arith) in
    omega (arith, c.decreases)

pub draw_list-draw_rows-requires : goal.draw_list-draw_rows-requires
draw_list-draw_rows-requires t c =
    let s : Scene = seen c.args.here.now.scene.now in
    let h = same s (weights c.args.block.now.body.now + 2) ((weights c.args.block.now.body.now + weights c.args.block.now.none.now) + 3) (omega arith) in
    omega (arith, c.decreases)

pub draw_on-draw_all-requires : goal.draw_on-draw_all-requires
draw_on-draw_all-requires t c =
    let s : Scene = seen c.args.scene.now in
    let h = same s (weights c.args.frags.now) (weights c.args.frags.now + 1) (omega arith) in
    omega (arith, c.decreases)

pub draw_rows-draw_on-requires : goal.draw_rows-draw_on-requires
draw_rows-draw_on-requires t c =
    let s : Scene = seen c.args.here.now.scene.now in
    let h = same s (weights c.args.block.now.body.now + 1) (weights c.args.block.now.body.now + 2) (omega arith) in
    omega (arith, c.decreases)

pub draw_tag-draw_instance-requires : goal.draw_tag-draw_instance-requires
draw_tag-draw_instance-requires t c =
    let s : Scene = seen c.args.here.now.scene.now in
    let tags : c.as_slice.result.now ≡ Some c.args.tag ∷ s.tags = c.as_slice.ensures ∙ c.in_ok-tags.ensures in
    let e : whole (record s { tags = c.as_slice.result.now }) ≡ whole (record s { tags = Some c.args.tag ∷ s.tags }) = ap (λ (ts : Tags). whole (record s { tags = ts })) tags in
    let h = downward s (Some c.args.tag) 1 (omega arith) in
    omega (arith, c.decreases)
