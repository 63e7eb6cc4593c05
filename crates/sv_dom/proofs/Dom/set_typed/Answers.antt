use Rattle.std.proofs.Common.{sym, subst, refl, rules, Some, None, Option}
use Rattle.std.specs.Prelude.{IsTrue}
use Rattle.sv_tokens.specs.Counting.{Has}
use Rattle.sv_tokens.specs.Token.{Page, opens}
use Rattle.sv_tokens.specs.Edit.{with_element, with_typed}
use Rattle.sv_tokens.specs.Replay.{Edits}
use Rattle.sv_tokens.specs.declared.element.Typed.{Typed}
use Rattle.sv_tokens.specs.declared.change.Change.TheVariants.{SetTyped}
use Rattle.sv_nodes.specs.Nodes.{tokens_of, reshape, with_kind}
use Rattle.sv_nodes.specs.Steps.{Rewrites}
use Rattle.sv_nodes.specs.Cells.{cell_of, nodes_of}
use Rattle.sv_nodes.proofs.Around.{has-begins, opens-narrows}
use Rattle.sv_nodes.proofs.Rewriting.{reshape-alike, start-reshape}
use Rattle.sv_nodes.proofs.Slabs.{at_node, holder-live}
use Rattle.sv_dom.specs.Dom.{page_of}
use Rattle.sv_dom.proofs.NodeKinds.{kind-element}
use Rattle.sv_dom.proofs.Telling.{told-element, kept-by}
use Rattle.sv_dom.proofs.Dom.set_typed.Goals as goal

pub entry_at-entry-requires : goal.entry_at-entry-requires
entry_at-entry-requires c = holder-live c.self.inside.nodes c.self.inside.next c.args.node.0 c.self.invariant.sound (subst (λ (z : Page). Has (opens c.args.node.0) z.tokens) (sym c.self.view_is) c.requires.stands)

pub returns-then-has_typed-clause-edit : goal.returns-then-has_typed-clause-edit
returns-then-has_typed-clause-edit c =
    let p = c.args.node.0 in
    let at = nodes_of c.self.inside.nodes.slots in
    let has = subst (λ (z : Page). Has (opens p) z.tokens) (sym c.self.view_is) c.requires.stands in
    let yes : IsTrue c.has_typed.result = search rules in
    subst (λ (z : Page). Edits z z p (with_element (with_typed c.args.typed)) None) c.self.view_is
    (kept-by at c.self.inside.next c.self.inside.number p (reshape (with_typed c.args.typed)) (with_element (with_typed c.args.typed)) (cell_of c.entry_at-entry.result.now) c.self.invariant
    (at_node c.self.inside.nodes p c.entry_at-entry.result.now c.entry_at-entry.ensures) (has-begins p (opens p) (tokens_of at) (opens-narrows p) has) (reshape-alike (with_typed c.args.typed) (λ x. refl)) (start-reshape (with_typed c.args.typed) p) (c.has_typed.ensures.0 yes))

pub invariant_of-self : goal.invariant_of-self
invariant_of-self c =
    let p = c.args.node.0 in
    let at = nodes_of c.self.inside.nodes.slots in
    let cell = cell_of c.entry_at-entry.result.now in
    let has = subst (λ (z : Page). Has (opens p) z.tokens) (sym c.self.view_is) c.requires.stands in
    let here = at_node c.self.inside.nodes p c.entry_at-entry.result.now c.entry_at-entry.ensures in
    let kind = kind-element at c.self.inside.next p cell c.self.invariant.sound here has in
    let no : IsTrue c.has_typed.result → ⊥ = search rules in
    let rewrites = subst (λ (b : Option Typed). Rewrites at (nodes_of c.write_typed.new.nodes.slots) p (with_kind (reshape (with_typed b)))) c.in_ok-shown.ensures c.write_typed.ensures in
    (told-element at (nodes_of c.write_typed.new.nodes.slots) c.self.inside.next c.self.inside.number p c.self.invariant c.requires.below cell here
    (has-begins p (opens p) (tokens_of at) (opens-narrows p) has) kind.0 (with_typed c.args.typed) (SetTyped cell.serial c.args.typed) (λ x. refl) kind.1 rewrites (λ same. no (c.has_typed.ensures.1 same)) (λ v. refl)).dom

pub returns-clause-edit : goal.returns-clause-edit
returns-clause-edit c =
    let p = c.args.node.0 in
    let at = nodes_of c.self.inside.nodes.slots in
    let cell = cell_of c.entry_at-entry.result.now in
    let has = subst (λ (z : Page). Has (opens p) z.tokens) (sym c.self.view_is) c.requires.stands in
    let here = at_node c.self.inside.nodes p c.entry_at-entry.result.now c.entry_at-entry.ensures in
    let kind = kind-element at c.self.inside.next p cell c.self.invariant.sound here has in
    let no : IsTrue c.has_typed.result → ⊥ = search rules in
    let rewrites = subst (λ (b : Option Typed). Rewrites at (nodes_of c.write_typed.new.nodes.slots) p (with_kind (reshape (with_typed b)))) c.in_ok-shown.ensures c.write_typed.ensures in
    subst (λ (z : Page). Edits z (page_of (nodes_of c.write_typed.new.nodes.slots) c.self.inside.next c.self.inside.number) p (with_element (with_typed c.args.typed)) (Some (SetTyped cell.serial c.args.typed))) c.self.view_is
    (told-element at (nodes_of c.write_typed.new.nodes.slots) c.self.inside.next c.self.inside.number p c.self.invariant c.requires.below cell here
    (has-begins p (opens p) (tokens_of at) (opens-narrows p) has) kind.0 (with_typed c.args.typed) (SetTyped cell.serial c.args.typed) (λ x. refl) kind.1 rewrites (λ same. no (c.has_typed.ensures.1 same)) (λ v. refl)).edits
