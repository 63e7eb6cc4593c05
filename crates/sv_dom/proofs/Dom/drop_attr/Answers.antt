use Rattle.std.proofs.Common.{sym, subst, refl, rules, Some, None}
use Rattle.std.specs.Prelude.{IsTrue}
use Rattle.sv_tokens.specs.Counting.{Has}
use Rattle.sv_tokens.specs.Token.{Page, opens}
use Rattle.sv_tokens.specs.Edit.{with_element, without_slot}
use Rattle.sv_tokens.specs.Replay.{Edits}
use Rattle.sv_tokens.specs.declared.change.Change.TheVariants.{DropAttr}
use Rattle.sv_nodes.specs.Nodes.{tokens_of, reshape}
use Rattle.sv_nodes.specs.Cells.{cell_of, nodes_of}
use Rattle.sv_nodes.proofs.Around.{has-begins, opens-narrows}
use Rattle.sv_nodes.proofs.Rewriting.{reshape-alike, start-reshape}
use Rattle.sv_nodes.proofs.Slabs.{at_node, holder-live}
use Rattle.sv_dom.specs.Dom.{page_of}
use Rattle.sv_dom.proofs.NodeKinds.{kind-element}
use Rattle.sv_dom.proofs.Telling.{told-element, kept-by}
use Rattle.sv_dom.proofs.Dom.drop_attr.Goals as goal

pub entry_at-entry-requires : goal.entry_at-entry-requires
entry_at-entry-requires c = holder-live c.self.inside.nodes c.self.inside.next c.args.node.0 c.self.invariant.sound (subst (λ (z : Page). Has (opens c.args.node.0) z.tokens) (sym c.self.view_is) c.requires.stands)

pub returns-then-has_no_slot : goal.returns-then-has_no_slot
returns-then-has_no_slot c =
    let p = c.args.node.0 in
    let at = nodes_of c.self.inside.nodes.slots in
    let has = subst (λ (z : Page). Has (opens p) z.tokens) (sym c.self.view_is) c.requires.stands in
    let yes : IsTrue c.has_no_slot.result = search rules in
    subst (λ (z : Page). Edits z z p (with_element (without_slot c.args.slot)) None) c.self.view_is
    (kept-by at c.self.inside.next c.self.inside.number p (reshape (without_slot c.args.slot)) (with_element (without_slot c.args.slot)) (cell_of c.entry_at-entry.result.now) c.self.invariant
    (at_node c.self.inside.nodes p c.entry_at-entry.result.now c.entry_at-entry.ensures) (has-begins p (opens p) (tokens_of at) (opens-narrows p) has) (reshape-alike (without_slot c.args.slot) (λ x. refl)) (start-reshape (without_slot c.args.slot) p) (c.has_no_slot.ensures.0 yes))

pub invariant_of-self : goal.invariant_of-self
invariant_of-self c =
    let p = c.args.node.0 in
    let at = nodes_of c.self.inside.nodes.slots in
    let cell = cell_of c.entry_at-entry.result.now in
    let has = subst (λ (z : Page). Has (opens p) z.tokens) (sym c.self.view_is) c.requires.stands in
    let here = at_node c.self.inside.nodes p c.entry_at-entry.result.now c.entry_at-entry.ensures in
    let kind = kind-element at c.self.inside.next p cell c.self.invariant.sound here has in
    let no : IsTrue c.has_no_slot.result → ⊥ = search rules in
    let rewrites = c.write_dropped.ensures in
    (told-element at (nodes_of c.write_dropped.new.nodes.slots) c.self.inside.next c.self.inside.number p c.self.invariant c.requires.below cell here
    (has-begins p (opens p) (tokens_of at) (opens-narrows p) has) kind.0 (without_slot c.args.slot) (DropAttr cell.serial c.args.slot) (λ x. refl) kind.1 rewrites (λ same. no (c.has_no_slot.ensures.1 same)) (λ v. refl)).dom

pub returns : goal.returns
returns c =
    let p = c.args.node.0 in
    let at = nodes_of c.self.inside.nodes.slots in
    let cell = cell_of c.entry_at-entry.result.now in
    let has = subst (λ (z : Page). Has (opens p) z.tokens) (sym c.self.view_is) c.requires.stands in
    let here = at_node c.self.inside.nodes p c.entry_at-entry.result.now c.entry_at-entry.ensures in
    let kind = kind-element at c.self.inside.next p cell c.self.invariant.sound here has in
    let no : IsTrue c.has_no_slot.result → ⊥ = search rules in
    let rewrites = c.write_dropped.ensures in
    subst (λ (z : Page). Edits z (page_of (nodes_of c.write_dropped.new.nodes.slots) c.self.inside.next c.self.inside.number) p (with_element (without_slot c.args.slot)) (Some (DropAttr cell.serial c.args.slot))) c.self.view_is
    (told-element at (nodes_of c.write_dropped.new.nodes.slots) c.self.inside.next c.self.inside.number p c.self.invariant c.requires.below cell here
    (has-begins p (opens p) (tokens_of at) (opens-narrows p) has) kind.0 (without_slot c.args.slot) (DropAttr cell.serial c.args.slot) (λ x. refl) kind.1 rewrites (λ same. no (c.has_no_slot.ensures.1 same)) (λ v. refl)).edits
