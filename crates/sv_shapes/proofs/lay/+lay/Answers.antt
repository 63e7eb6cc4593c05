use Rattle.std.proofs.Common.{ap, refl, ◌∙◌, rules}
use Rattle.sv_shapes.specs.Typed.{laid_all, laid_rows}
use Rattle.sv_shapes.proofs.Laying.{in-Literal, in-Text, in-Nothing, in-Tag, in-Element, in-Slot, in-If, in-Each, in-Key, rows-more}
use Rattle.sv_shapes.proofs.lay.+lay.Goals as goal

pub lay_one-returns-in-Literal : goal.lay_one-returns-in-Literal
lay_one-returns-in-Literal t c = in-Literal _ _ _ _ c.in-Literal.is

pub lay_one-returns-in_ok-share-in-Text : goal.lay_one-returns-in_ok-share-in-Text
lay_one-returns-in_ok-share-in-Text t c = in-Text _ _ _ _ _ _ c.in-Text.is c.in_ok-share-in-Text.ensures

pub lay_one-returns-in-Nothing : goal.lay_one-returns-in-Nothing
lay_one-returns-in-Nothing t c = in-Nothing _ _ _ c.in-Nothing.is

pub lay_one-returns-in_ok-share_all_texts-in-Tag : goal.lay_one-returns-in_ok-share_all_texts-in-Tag
lay_one-returns-in_ok-share_all_texts-in-Tag t c = in-Tag _ _ _ _ _ _ c.in-Tag.is (c.in_ok-share_all_texts-in-Tag.ensures ∙ c.as_slice-in-Tag.ensures)

pub lay_one-returns-in_ok-lay_all-in-Element : goal.lay_one-returns-in_ok-lay_all-in-Element
lay_one-returns-in_ok-lay_all-in-Element t c =
    in-Element _ _ _ _ _ _ _ _ _ _ c.in-Element.is (search rules) (c.in_ok-share_states-in-Element.ensures ∙ c.as_slice.ensures)
    (c.in_ok-lay_all-in-Element.ensures ∙ ap (λ ps. laid_all c.args.mark c.args.typed.now ps) c.as_slice-in-Element.ensures)

pub lay_one-returns-in_ok-lay_all-in-Slot : goal.lay_one-returns-in_ok-lay_all-in-Slot
lay_one-returns-in_ok-lay_all-in-Slot t c =
    in-Slot _ _ _ _ _ _ _ c.in-Slot.is (c.in_ok-share_props-in-Slot.ensures ∙ c.as_slice-in-Slot.ensures)
    (c.in_ok-lay_all-in-Slot.ensures ∙ ap (λ ps. laid_all c.args.mark c.args.typed.now ps) c.as_slice-in-Slot-2.ensures)

pub lay_one-returns-in_ok-lay_all-in-If : goal.lay_one-returns-in_ok-lay_all-in-If
lay_one-returns-in_ok-lay_all-in-If t c =
    in-If _ _ _ _ _ _ c.in-If.is (c.in_ok-lay_all-in-If.ensures ∙ ap (λ ps. laid_all c.args.mark c.args.typed.now ps) c.as_slice-in-If.ensures)

pub lay_one-returns-in_ok-lay_all-in-Each : goal.lay_one-returns-in_ok-lay_all-in-Each
lay_one-returns-in_ok-lay_all-in-Each t c =
    in-Each _ _ _ _ _ _ _ _ c.in-Each.is (c.in_ok-lay_rows-in-Each.ensures ∙ ap (λ rs. laid_rows c.args.mark c.args.typed.now rs) c.as_slice-in-Each.ensures)
    (c.in_ok-lay_all-in-Each.ensures ∙ ap (λ ps. laid_all c.args.mark c.args.typed.now ps) c.as_slice-in-Each-2.ensures)

pub lay_one-returns-in_ok-lay_all-in-Key : goal.lay_one-returns-in_ok-lay_all-in-Key
lay_one-returns-in_ok-lay_all-in-Key t c =
    in-Key _ _ _ _ _ _ _ c.in-Key.is c.in_ok-share-in-Key.ensures (c.in_ok-lay_all-in-Key.ensures ∙ ap (λ ps. laid_all c.args.mark c.args.typed.now ps) c.as_slice-in-Key.ensures)

pub lay_rows-loop-row-preserved : goal.lay_rows-loop-row-preserved
lay_rows-loop-row-preserved t c =
    c.in_ok-push.ensures.ok
    ∙ rows-more _ _ _ _ _ _ _ c.loop-row.invariant c.loop-row-test.true c.row-item.is (rw (c.in_ok-share.ensures, c.in_ok-share-2.ensures, c.in_ok-parts.ensures, c.as_slice.ensures) refl)
