use Rattle.std.proofs.Common.{sym, subst, refl, rules, Some, None, ℕ, List}
use Rattle.std.specs.Prelude.{IsTrue}
use Rattle.sv_tokens.specs.Counting.{Has}
use Rattle.sv_tokens.specs.Token.{Page, texts}
use Rattle.sv_tokens.specs.Edit.{with_text}
use Rattle.sv_tokens.specs.Replay.{Edits}
use Rattle.sv_tokens.specs.declared.change.Change.TheVariants.{SetText}
use Rattle.sv_nodes.specs.Nodes.{tokens_of, retext, with_kind}
use Rattle.sv_nodes.specs.Steps.{Rewrites}
use Rattle.sv_nodes.specs.Cells.{cell_of, nodes_of}
use Rattle.sv_nodes.proofs.Around.{has-begins, texts-narrows}
use Rattle.sv_nodes.proofs.Rewriting.{retext-alike, start-retext}
use Rattle.sv_nodes.proofs.Slabs.{at_node, text-live}
use Rattle.sv_dom.specs.Dom.{page_of}
use Rattle.sv_dom.proofs.NodeKinds.{kind-text, text-below}
use Rattle.sv_dom.proofs.Telling.{told-text, kept-by}
use Rattle.sv_dom.proofs.Dom.set_text.Goals as goal

pub entry_at-entry-requires : goal.entry_at-entry-requires
entry_at-entry-requires c = text-live c.self.inside.nodes c.self.inside.next c.args.node.0 c.self.invariant.sound (subst (λ (z : Page). Has (texts c.args.node.0) z.tokens) (sym c.self.view_is) c.requires)

pub returns-then-has_text-clause-edit : goal.returns-then-has_text-clause-edit
returns-then-has_text-clause-edit c =
    let p = c.args.node.0 in
    let at = nodes_of c.self.inside.nodes.slots in
    let has = subst (λ (z : Page). Has (texts p) z.tokens) (sym c.self.view_is) c.requires in
    let yes : IsTrue c.has_text.result = search rules in
    subst (λ (z : Page). Edits z z p (with_text c.args.text) None) c.self.view_is
    (kept-by at c.self.inside.next c.self.inside.number p (retext c.args.text) (with_text c.args.text) (cell_of c.entry_at-entry.result.now) c.self.invariant
    (at_node c.self.inside.nodes p c.entry_at-entry.result.now c.entry_at-entry.ensures) (has-begins p (texts p) (tokens_of at) (texts-narrows p) has) (retext-alike c.args.text) (start-retext c.args.text p) (c.has_text.ensures.0 yes))

pub invariant_of-self : goal.invariant_of-self
invariant_of-self c =
    let p = c.args.node.0 in
    let at = nodes_of c.self.inside.nodes.slots in
    let cell = cell_of c.entry_at-entry.result.now in
    let has = subst (λ (z : Page). Has (texts p) z.tokens) (sym c.self.view_is) c.requires in
    let here = at_node c.self.inside.nodes p c.entry_at-entry.result.now c.entry_at-entry.ensures in
    let kind = kind-text at c.self.inside.next p cell c.self.invariant.sound here has in
    let no : IsTrue c.has_text.result → ⊥ = search rules in
    let rewrites = subst (λ (b : List ℕ). Rewrites at (nodes_of c.write_text.new.nodes.slots) p (with_kind (retext b))) c.in_ok-shown.ensures c.write_text.ensures in
    (told-text at (nodes_of c.write_text.new.nodes.slots) c.self.inside.next c.self.inside.number p c.self.invariant (text-below at c.self.inside.next p cell kind.0 c.self.invariant.sound here kind.1) cell here
    (has-begins p (texts p) (tokens_of at) (texts-narrows p) has) kind.0 c.args.text (SetText cell.serial c.args.text) kind.1 rewrites (λ same. no (c.has_text.ensures.1 same)) (λ v. refl)).dom

pub returns-clause-edit : goal.returns-clause-edit
returns-clause-edit c =
    let p = c.args.node.0 in
    let at = nodes_of c.self.inside.nodes.slots in
    let cell = cell_of c.entry_at-entry.result.now in
    let has = subst (λ (z : Page). Has (texts p) z.tokens) (sym c.self.view_is) c.requires in
    let here = at_node c.self.inside.nodes p c.entry_at-entry.result.now c.entry_at-entry.ensures in
    let kind = kind-text at c.self.inside.next p cell c.self.invariant.sound here has in
    let no : IsTrue c.has_text.result → ⊥ = search rules in
    let rewrites = subst (λ (b : List ℕ). Rewrites at (nodes_of c.write_text.new.nodes.slots) p (with_kind (retext b))) c.in_ok-shown.ensures c.write_text.ensures in
    subst (λ (z : Page). Edits z (page_of (nodes_of c.write_text.new.nodes.slots) c.self.inside.next c.self.inside.number) p (with_text c.args.text) (Some (SetText cell.serial c.args.text))) c.self.view_is
    (told-text at (nodes_of c.write_text.new.nodes.slots) c.self.inside.next c.self.inside.number p c.self.invariant (text-below at c.self.inside.next p cell kind.0 c.self.invariant.sound here kind.1) cell here
    (has-begins p (texts p) (tokens_of at) (texts-narrows p) has) kind.0 c.args.text (SetText cell.serial c.args.text) kind.1 rewrites (λ same. no (c.has_text.ensures.1 same)) (λ v. refl)).edits
