use Rattle.std.proofs.Common.{ap, sym, ◌∙◌, ◌++◌}
use Rattle.sv_shapes.specs.Places.{places_all, places_rows}
use Rattle.sv_shapes.proofs.Tagging.{all-more, all-end, rows-more, rows-end, in-nothing, in-Literal, in-Text, in-Nothing, in-Tag, in-Element, in-Slot, in-If, in-Each, in-Key, finds, finds-both}
use Rattle.sv_shapes.proofs.places.+places.Goals as goal

pub add_all-loop-part-preserved : goal.add_all-loop-part-preserved
add_all-loop-part-preserved t c = c.loop-part.invariant ∙ all-more _ _ _ _ _ c.loop-part-test.true c.part-item.is c.in_ok-add_one.ensures

pub add_all-returns : goal.add_all-returns
add_all-returns t c = sym (c.loop-part.invariant ∙ all-end _ _ _ c.loop-part-test.false)

pub add_rows-loop-row-preserved : goal.add_rows-loop-row-preserved
add_rows-loop-row-preserved t c = c.loop-row.invariant ∙ rows-more _ _ _ _ _ c.loop-row-test.true c.row-item.is (c.in_ok-add_all.ensures ∙ ap (λ ps. c.loop-row.found ++ places_all ps) c.as_slice.ensures)

pub add_rows-returns : goal.add_rows-returns
add_rows-returns t c = sym (c.loop-row.invariant ∙ rows-end _ _ _ c.loop-row-test.false)

pub add_one-returns-in-Literal : goal.add_one-returns-in-Literal
add_one-returns-in-Literal t c = in-nothing _ _ (in-Literal _ _ c.in-Literal.is)

pub add_one-returns-in-Text : goal.add_one-returns-in-Text
add_one-returns-in-Text t c = in-nothing _ _ (in-Text _ _ _ c.in-Text.is)

pub add_one-returns-in-Nothing : goal.add_one-returns-in-Nothing
add_one-returns-in-Nothing t c = in-nothing _ _ (in-Nothing _ c.in-Nothing.is)

pub add_one-returns-in-Tag : goal.add_one-returns-in-Tag
add_one-returns-in-Tag t c = finds _ _ _ _ _ (in-Tag _ _ _ c.in-Tag.is) c.push.ensures.ok

pub add_one-returns-in-Element : goal.add_one-returns-in-Element
add_one-returns-in-Element t c = finds _ _ _ _ _ (in-Element _ _ _ _ _ c.in-Element.is ∙ ap places_all (sym c.as_slice.ensures)) c.add_all.ensures

pub add_one-returns-in-Slot : goal.add_one-returns-in-Slot
add_one-returns-in-Slot t c = finds _ _ _ _ _ (in-Slot _ _ _ c.in-Slot.is ∙ ap places_all (sym c.as_slice-in-Slot.ensures)) c.add_all-in-Slot.ensures

pub add_one-returns-in-If : goal.add_one-returns-in-If
add_one-returns-in-If t c = finds _ _ _ _ _ (in-If _ _ _ c.in-If.is ∙ ap places_all (sym c.as_slice-in-If.ensures)) c.add_all-in-If.ensures

pub add_one-returns-in_ok-add_rows-in-Each : goal.add_one-returns-in_ok-add_rows-in-Each
add_one-returns-in_ok-add_rows-in-Each t c = finds-both _ _ _ _ _ _ _ (in-Each _ _ _ _ c.in-Each.is ∙ ap (λ ps. places_rows ps ++ places_all c.in-Each.none) (sym c.as_slice-in-Each.ensures) ∙ ap (λ ps. places_rows c.as_slice-in-Each.result.now ++ places_all ps) (sym c.as_slice-in-Each-2.ensures)) c.in_ok-add_rows-in-Each.ensures c.add_all-in-Each.ensures

pub add_one-returns-in-Key : goal.add_one-returns-in-Key
add_one-returns-in-Key t c = finds _ _ _ _ _ (in-Key _ _ _ c.in-Key.is ∙ ap places_all (sym c.as_slice-in-Key.ensures)) c.add_all-in-Key.ensures
