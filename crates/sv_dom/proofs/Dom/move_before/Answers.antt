use Rattle.std.proofs.Common.{◌≡◌, ap, sym, subst, Option, ℕ}
use Rattle.std.specs.Prelude.{IfSome, IsNone, ◌↔◌}
use Rattle.sv_tokens.specs.Counting.{Has}
use Rattle.sv_tokens.specs.Token.{Page, begins, name_at, parent_at, IsBeside}
use Rattle.sv_tokens.specs.Edit.{Moved}
use Rattle.sv_tokens.specs.Seen.{view_of}
use Rattle.sv_tokens.specs.Replay.{replay_if}
use Rattle.sv_tokens.specs.declared.change.Change.TheVariants.{Move}
use Rattle.sv_nodes.specs.Nodes.{tokens_of}
use Rattle.sv_nodes.specs.Cells.{cell_of, nodes_of}
use Rattle.sv_nodes.proofs.Places.{beside-live}
use Rattle.sv_nodes.proofs.Slabs.{at_node}
use Rattle.sv_dom.specs.Dom.{key_in, page_of}
use Rattle.sv_dom.proofs.Relocation.{told-is, moved-tokens, moved-dom, moved-outcome, outcome-told, outcome-none, outcome-some}
use Rattle.sv_dom.proofs.Dom.move_before.Goals as goal

pub move_node-followers-requires-clause-child : goal.move_node-followers-requires-clause-child
move_node-followers-requires-clause-child c =
    let p = c.args.node.0 in
    let has = subst (λ (z : Page). Has (begins p) z.tokens) (sym c.self.view_is) c.requires.stands in
    let place = subst (λ (z : Page). IsBeside z.tokens p (key_in c.args.before)) (sym c.self.view_is) c.requires.place in
    let before = subst (λ (b : Option ℕ). IsBeside (tokens_of (nodes_of c.self.inside.nodes.slots)) p b) (sym c.key_of-before.ensures) place in
    beside-live c.self.inside.nodes c.self.inside.next p c.key_of-before.result c.self.invariant.sound has c.requires.below before

pub invariant_of-self : goal.invariant_of-self
invariant_of-self c =
    moved-dom (nodes_of c.self.inside.nodes.slots) (nodes_of c.move_node-followers.new.nodes.slots) c.self.inside.next c.self.inside.number c.args.node.0 c.key_of-before.result c.move_node-followers.result c.self.invariant c.requires.below c.move_node-followers.ensures

pub returns : goal.returns
returns c =
    let p = c.args.node.0 in
    let at = nodes_of c.self.inside.nodes.slots in
    let at' = nodes_of c.move_node-followers.new.nodes.slots in
    let next = c.self.inside.next in
    let number = c.self.inside.number in
    let before = c.key_of-before.result in
    let followers = c.move_node-followers.result in
    let answer = c.relocation_of.result in
    let moves = c.move_node-followers.ensures in
    let here = at_node c.move_node-followers.new.nodes p c.entry_at.result.now c.entry_at.ensures in
    let told = told-is at at' next number p before followers c.self.invariant c.requires.below moves (cell_of c.entry_at.result.now) answer here c.relocation_of.ensures in
    let outcome = moved-outcome at at' next number p before followers c.self.invariant c.requires.below moves in
    record {
      tokens = subst (λ (z : Page). Moved z.tokens (tokens_of at') p (parent_at p z.tokens).key (key_in c.args.before)) c.self.view_is
          (subst (λ (b : Option ℕ). Moved (tokens_of at) (tokens_of at') p (parent_at p (tokens_of at)).key b) c.key_of-before.ensures
          (moved-tokens at at' next number p before followers c.self.invariant c.requires.below moves));
      next = ap (λ (z : Page). z.next) c.self.view_is;
      number = ap (λ (z : Page). z.number) c.self.view_is;
      told = subst (λ (z : Page). view_of (page_of at' next number) ≡ replay_if answer (view_of z)) c.self.view_is
          (outcome-told at at' next number p moves.cell followers answer told outcome);
      none = subst (λ (z : Page). IsNone answer ↔ (view_of (page_of at' next number) ≡ view_of z)) c.self.view_is
          (outcome-none at at' next number p moves.cell followers answer told outcome);
      some = subst (λ (z : Page). IfSome answer (λ change. (place : ℕ) × (change ≡ Move (name_at p z.tokens).serial place))) c.self.view_is
          (outcome-some at at' next number p moves.cell followers answer told outcome);
    }
