use Rattle.std.proofs.Common.{◌≡◌, ◌≢◌, ◌∙◌, sym, subst, ap, Option}
use Rattle.std.specs.Prelude.{IsNone, IsSome, ◌↔◌}
use Rattle.sv_tokens.specs.Counting.{Has}
use Rattle.sv_tokens.specs.Token.{Page, begins, anchors}
use Rattle.sv_tokens.specs.Seen.{view_of}
use Rattle.sv_tokens.specs.Replay.{replay_if}
use Rattle.sv_tokens.specs.declared.change.Change.{Change}
use Rattle.sv_nodes.specs.Cells.{cell_of, nodes_of}
use Rattle.sv_nodes.proofs.Slabs.{at_node, stands-live}
use Rattle.sv_dom.specs.Dom.{page_of, removal}
use Rattle.sv_dom.proofs.Removal.{anchor-stands, removed-dom, removed-told, removed-seen}
use Rattle.sv_dom.proofs.Dom.remove.Goals as goal

pub entry_at-requires : goal.entry_at-requires
entry_at-requires c = stands-live c.self.inside.nodes c.self.inside.next c.args.node.0 c.self.invariant.sound (subst (λ (z : Page). Has (begins c.args.node.0) z.tokens) (sym c.self.view_is) c.requires.stands)

pub invariant_of-self : goal.invariant_of-self
invariant_of-self c =
    let p = c.args.node.0 in
    let has = subst (λ (z : Page). Has (begins p) z.tokens) (sym c.self.view_is) c.requires.stands in
    let here = at_node c.self.inside.nodes p c.entry_at.result.now c.entry_at.ensures in
    removed-dom (nodes_of c.self.inside.nodes.slots) (nodes_of c.remove_in.new.nodes.slots) c.self.inside.next c.self.inside.number p c.self.invariant c.remove_in.ensures.sound c.requires.below (cell_of c.entry_at.result.now) here has c.remove_in.ensures.tokens

pub returns-clause-told : goal.returns-clause-told
returns-clause-told c =
    let p = c.args.node.0 in
    let has = subst (λ (z : Page). Has (begins p) z.tokens) (sym c.self.view_is) c.requires.stands in
    let here = at_node c.self.inside.nodes p c.entry_at.result.now c.entry_at.ensures in
    subst (λ (z : Page). view_of (page_of (nodes_of c.remove_in.new.nodes.slots) c.self.inside.next c.self.inside.number) ≡ replay_if c.removal_of-told.result (view_of z)) c.self.view_is
    (removed-told (nodes_of c.self.inside.nodes.slots) (nodes_of c.remove_in.new.nodes.slots) c.self.inside.next c.self.inside.number p c.self.invariant c.remove_in.ensures.sound c.requires.below (cell_of c.entry_at.result.now) here has c.remove_in.ensures.tokens
    ∙ ap (λ (r : Option Change). replay_if r (view_of (page_of (nodes_of c.self.inside.nodes.slots) c.self.inside.next c.self.inside.number))) (sym c.removal_of-told.ensures))

pub returns-clause-none : goal.returns-clause-none
returns-clause-none c =
    let p = c.args.node.0 in
    let has = subst (λ (z : Page). Has (begins p) z.tokens) (sym c.self.view_is) c.requires.stands in
    let here = at_node c.self.inside.nodes p c.entry_at.result.now c.entry_at.ensures in
    subst (λ (r : Option Change). IsNone r ↔ Has (anchors p) c.args.self.now.tokens) (sym c.removal_of-told.ensures)
    (subst (λ (z : Page). IsNone (removal (cell_of c.entry_at.result.now)) ↔ Has (anchors p) z.tokens) c.self.view_is (anchor-stands (nodes_of c.self.inside.nodes.slots) c.self.inside.next p (cell_of c.entry_at.result.now) c.self.invariant.sound here has))

pub returns-clause-some : goal.returns-clause-some
returns-clause-some c =
    subst (λ (z : Page). IsSome c.removal_of-told.result → view_of (page_of (nodes_of c.remove_in.new.nodes.slots) c.self.inside.next c.self.inside.number) ≢ view_of z) c.self.view_is
    (removed-seen (page_of (nodes_of c.self.inside.nodes.slots) c.self.inside.next c.self.inside.number) (page_of (nodes_of c.remove_in.new.nodes.slots) c.self.inside.next c.self.inside.number) c.args.node.0 c.removal_of-told.result c.remove_in.ensures.tokens
    (subst (λ (z : Page). IsNone c.removal_of-told.result ↔ Has (anchors c.args.node.0) z.tokens) (sym c.self.view_is) (returns-clause-none c)))
