use Rattle.std.proofs.Common.{sym, subst, refl, rules, Some, None}
use Rattle.std.specs.Prelude.{IsTrue}
use Rattle.sv_tokens.specs.Counting.{Has}
use Rattle.sv_tokens.specs.Token.{Page, opens}
use Rattle.sv_tokens.specs.Edit.{with_element, with_attribute}
use Rattle.sv_tokens.specs.Replay.{Edits}
use Rattle.sv_tokens.specs.declared.element.Attribute.{Attribute}
use Rattle.sv_tokens.specs.declared.change.Change.TheVariants.{SetAttr}
use Rattle.sv_nodes.specs.Nodes.{tokens_of, reshape, with_kind}
use Rattle.sv_nodes.specs.Steps.{Rewrites}
use Rattle.sv_nodes.specs.Cells.{cell_of, nodes_of}
use Rattle.sv_nodes.proofs.Around.{has-begins, opens-narrows}
use Rattle.sv_nodes.proofs.Rewriting.{reshape-alike, start-reshape}
use Rattle.sv_nodes.proofs.Slabs.{at_node, holder-live, nodes_of-same}
use Rattle.sv_dom.specs.Dom.{IsDom, page_of}
use Rattle.sv_dom.proofs.NodeKinds.{kind-element}
use Rattle.sv_dom.proofs.Telling.{told-element, kept-by}
use Rattle.sv_dom.proofs.Dom.set_attr.Goals as goal

pub entry_at-entry-requires : goal.entry_at-entry-requires
entry_at-entry-requires c = holder-live c.self.inside.nodes c.self.inside.next c.args.node.0 c.self.invariant.sound (subst (λ (z : Page). Has (opens c.args.node.0) z.tokens) (sym c.self.view_is) c.requires.stands)

pub returns-then-has_attribute-clause-edit : goal.returns-then-has_attribute-clause-edit
returns-then-has_attribute-clause-edit c =
    let p = c.args.node.0 in
    let at = nodes_of c.self.inside.nodes.slots in
    let has = subst (λ (z : Page). Has (opens p) z.tokens) (sym c.self.view_is) c.requires.stands in
    let yes : IsTrue c.has_attribute.result = search rules in
    subst (λ (z : Page). Edits z z p (with_element (with_attribute (record { slot = c.args.slot; name = c.args.name; value = c.args.attr }))) None) c.self.view_is
    (kept-by at c.self.inside.next c.self.inside.number p (reshape (with_attribute (record { slot = c.args.slot; name = c.args.name; value = c.args.attr }))) (with_element (with_attribute (record { slot = c.args.slot; name = c.args.name; value = c.args.attr }))) (cell_of c.entry_at-entry.result.now) c.self.invariant
    (at_node c.self.inside.nodes p c.entry_at-entry.result.now c.entry_at-entry.ensures) (has-begins p (opens p) (tokens_of at) (opens-narrows p) has) (reshape-alike (with_attribute (record { slot = c.args.slot; name = c.args.name; value = c.args.attr })) (λ x. refl)) (start-reshape (with_attribute (record { slot = c.args.slot; name = c.args.name; value = c.args.attr })) p) (c.has_attribute.ensures.0 yes))

pub invariant_of-self-2 : goal.invariant_of-self-2
invariant_of-self-2 c =
    let p = c.args.node.0 in
    let at = nodes_of c.self.inside.nodes.slots in
    let cell = cell_of c.entry_at-entry.result.now in
    let has = subst (λ (z : Page). Has (opens p) z.tokens) (sym c.self.view_is) c.requires.stands in
    let here = at_node c.self.inside.nodes p c.entry_at-entry.result.now c.entry_at-entry.ensures in
    let kind = kind-element at c.self.inside.next p cell c.self.invariant.sound here has in
    let no : IsTrue c.has_attribute.result → ⊥ = search rules in
    let rewrites = subst (λ (b : Attribute). Rewrites at (nodes_of c.write_attribute.new.nodes.slots) p (with_kind (reshape (with_attribute b)))) c.in_ok-attribute.ensures c.in_ok-write_attribute.ensures.ok in
    (told-element at (nodes_of c.write_attribute.new.nodes.slots) c.self.inside.next c.self.inside.number p c.self.invariant c.requires.below cell here
    (has-begins p (opens p) (tokens_of at) (opens-narrows p) has) kind.0 (with_attribute (record { slot = c.args.slot; name = c.args.name; value = c.args.attr })) (SetAttr cell.serial c.args.slot c.args.name c.args.attr) (λ x. refl) kind.1 rewrites (λ same. no (c.has_attribute.ensures.1 same)) (λ v. refl)).dom

pub returns-clause-edit : goal.returns-clause-edit
returns-clause-edit c =
    let p = c.args.node.0 in
    let at = nodes_of c.self.inside.nodes.slots in
    let cell = cell_of c.entry_at-entry.result.now in
    let has = subst (λ (z : Page). Has (opens p) z.tokens) (sym c.self.view_is) c.requires.stands in
    let here = at_node c.self.inside.nodes p c.entry_at-entry.result.now c.entry_at-entry.ensures in
    let kind = kind-element at c.self.inside.next p cell c.self.invariant.sound here has in
    let no : IsTrue c.has_attribute.result → ⊥ = search rules in
    let rewrites = subst (λ (b : Attribute). Rewrites at (nodes_of c.write_attribute.new.nodes.slots) p (with_kind (reshape (with_attribute b)))) c.in_ok-attribute.ensures c.in_ok-write_attribute.ensures.ok in
    subst (λ (z : Page). Edits z (page_of (nodes_of c.write_attribute.new.nodes.slots) c.self.inside.next c.self.inside.number) p (with_element (with_attribute (record { slot = c.args.slot; name = c.args.name; value = c.args.attr }))) (Some (SetAttr cell.serial c.args.slot c.args.name c.args.attr))) c.self.view_is
    (told-element at (nodes_of c.write_attribute.new.nodes.slots) c.self.inside.next c.self.inside.number p c.self.invariant c.requires.below cell here
    (has-begins p (opens p) (tokens_of at) (opens-narrows p) has) kind.0 (with_attribute (record { slot = c.args.slot; name = c.args.name; value = c.args.attr })) (SetAttr cell.serial c.args.slot c.args.name c.args.attr) (λ x. refl) kind.1 rewrites (λ same. no (c.has_attribute.ensures.1 same)) (λ v. refl)).edits

pub invariant_of-self : goal.invariant_of-self
invariant_of-self c = subst (λ n. IsDom n c.self.inside.next c.self.inside.number) (sym (nodes_of-same _ _ c.in_err-write_attribute.ensures.err)) c.self.invariant
