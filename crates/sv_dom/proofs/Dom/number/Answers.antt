use Rattle.std.proofs.Common.{◌∙◌, ap, refl}
use Rattle.sv_tokens.specs.Seen.{view_of}
use Rattle.sv_tokens.proofs.Seen.{same_view}
use Rattle.sv_nodes.specs.Cells.{nodes_of}
use Rattle.sv_dom.proofs.Numbering.{none-lacks, same-seen, numbered-dom}
use Rattle.sv_dom.proofs.Dom.number.Goals as goal

pub invariant_of-self : goal.invariant_of-self
invariant_of-self c =
    numbered-dom (nodes_of c.self.inside.nodes.slots) (nodes_of c.number_in-self-inside.new.nodes.slots) c.self.inside.next c.self.inside.number c.number_in-self-inside.result c.self.invariant c.number_in-self-inside.ensures

pub returns-clause-given : goal.returns-clause-given
returns-clause-given c =
    none-lacks (nodes_of c.self.inside.nodes.slots) (nodes_of c.number_in-self-inside.new.nodes.slots) c.self.inside.next c.self.inside.number c.number_in-self-inside.result c.self.invariant c.number_in-self-inside.ensures

pub returns-clause-seen : goal.returns-clause-seen
returns-clause-seen c =
    same_view _ _ c.self.inside.next c.self.inside.next
    (same-seen (nodes_of c.self.inside.nodes.slots) (nodes_of c.number_in-self-inside.new.nodes.slots) c.self.inside.next c.self.inside.number c.number_in-self-inside.result c.self.invariant c.number_in-self-inside.ensures) refl
    ∙ ap view_of c.self.view_is
