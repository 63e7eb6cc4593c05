use Rattle.std.proofs.Common.{sym, ap, ◌∙◌}
use Rattle.sv_fragments.specs.Pieces.{numbered_tag}
use Rattle.sv_fragments.proofs.Nodes.{numbered_element, numbered_component, numbered_slot}
use Rattle.sv_fragments.proofs.pieces.piece_of.Goals as goal

pub returns-in-Element : goal.returns-in-Element
returns-in-Element c =
    c.tag_piece.ensures
    ∙ ap (numbered_tag c.args.number) c.as_slice.ensures
    ∙ sym (numbered_element c.args.number c.args.node.now c.in-Element.span c.in-Element.name c.in-Element.attrs c.in-Element.children c.in-Element.is)

pub returns-in-Comp : goal.returns-in-Comp
returns-in-Comp c =
    c.tag_piece-in-Comp.ensures
    ∙ ap (numbered_tag c.args.number) c.as_slice-in-Comp.ensures
    ∙ sym (numbered_component c.args.number c.args.node.now c.in-Comp.span c.in-Comp.name c.in-Comp.attrs c.in-Comp.children c.in-Comp.is)

pub returns-in-Slot : goal.returns-in-Slot
returns-in-Slot c =
    c.tag_piece-in-Slot.ensures
    ∙ ap (numbered_tag c.args.number) c.as_slice-in-Slot.ensures
    ∙ sym (numbered_slot c.args.number c.args.node.now c.in-Slot.span c.in-Slot.name c.in-Slot.attrs c.in-Slot.children c.in-Slot.is)
