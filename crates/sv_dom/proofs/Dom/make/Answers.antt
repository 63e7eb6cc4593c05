use Rattle.std.proofs.Common.{◌≡◌, ◌<◌, ◌+◌, ◌∷◌, sym, subst, arith, Option, ℕ}
use Rattle.sv_tokens.specs.Token.{Page, IsPlace, name_at}
use Rattle.sv_tokens.specs.Seen.{view_of}
use Rattle.sv_tokens.specs.Replay.{replay, Gains}
use Rattle.sv_tokens.specs.declared.change.Change.TheVariants.{Make}
use Rattle.sv_nodes.specs.Nodes.{tokens_of, weight, levels, leaf, start, finish}
use Rattle.sv_nodes.specs.Cells.{nodes_of, kind_of}
use Rattle.sv_nodes.proofs.Places.{weight-most, levels-is, holds, place-live}
use Rattle.sv_nodes.proofs.Slabs.{nodes_of-same}
use Rattle.sv_dom.specs.Dom.{key_in, page_of, IsDom}
use Rattle.sv_dom.proofs.Making.{made-gains, made-dom, made-told}
use Rattle.sv_dom.proofs.Dom.make.Goals as goal

pub make_node-requires : goal.make_node-requires
make_node-requires c =
    let place = subst (λ (z : Page). IsPlace z.tokens c.args.parent.0 (key_in c.args.before)) (sym c.self.view_is) c.requires in
    let before = subst (λ (b : Option ℕ). IsPlace (tokens_of (nodes_of c.self.inside.nodes.slots)) c.args.parent.0 b) (sym c.key_of-before.ensures) place in
    place-live c.self.inside.nodes c.self.inside.next c.args.parent.0 c.key_of-before.result c.self.invariant.sound before

pub invariant_of-self : goal.invariant_of-self
invariant_of-self c = subst (λ n. IsDom n c.self.inside.next c.self.inside.number) (sym (nodes_of-same _ _ c.in_err-made.ensures.kept)) c.self.invariant

pub invariant_of-self-2 : goal.invariant_of-self-2
invariant_of-self-2 c =
    let place = subst (λ (z : Page). IsPlace z.tokens c.args.parent.0 (key_in c.args.before)) (sym c.self.view_is) c.requires in
    let has = holds (tokens_of (nodes_of c.self.inside.nodes.slots)) c.args.parent.0 (key_in c.args.before) place in
    let most = weight-most (kind_of c.args.content) in
    let all = levels-is in
    let bounded = c.self.invariant.sound.bounded in
    let fits : c.self.inside.next + weight (kind_of c.args.content) < levels = omega (arith, most, all, bounded, c.if-self.false) in
    subst (λ n. IsDom (nodes_of c.make_node.new.nodes.slots) (c.self.inside.next + n) c.self.inside.number) (sym c.serials_of-serials.ensures)
    (made-dom (nodes_of c.self.inside.nodes.slots) (nodes_of c.make_node.new.nodes.slots) c.self.inside.next c.self.inside.number c.args.parent.0 c.key_of-before.result (kind_of c.args.content) c.in_ok-made.made c.self.invariant has fits c.in_ok-made.ensures.made)

pub returns-clause-made : goal.returns-clause-made
returns-clause-made c =
    let place = subst (λ (z : Page). IsPlace z.tokens c.args.parent.0 (key_in c.args.before)) (sym c.self.view_is) c.requires in
    let has = holds (tokens_of (nodes_of c.self.inside.nodes.slots)) c.args.parent.0 (key_in c.args.before) place in
    let most = weight-most (kind_of c.args.content) in
    let all = levels-is in
    let bounded = c.self.invariant.sound.bounded in
    let fits : c.self.inside.next + weight (kind_of c.args.content) < levels = omega (arith, most, all, bounded, c.if-self.false) in
    let at' = nodes_of c.make_node.new.nodes.slots in
    let key = c.in_ok-made.made.key in
    let kind = kind_of c.args.content in
    subst (λ (z : Page). Gains z (page_of at' (c.self.inside.next + c.serials_of-serials.result) c.self.inside.number) c.args.parent.0 (key_in c.args.before) key
    (start key (leaf z.next (name_at c.args.parent.0 z.tokens) kind) ∷ finish key (leaf z.next (name_at c.args.parent.0 z.tokens) kind))) c.self.view_is
    (subst (λ n. Gains (page_of (nodes_of c.self.inside.nodes.slots) c.self.inside.next c.self.inside.number) (page_of at' (c.self.inside.next + n) c.self.inside.number) c.args.parent.0 (key_in c.args.before) key
    (start key (leaf c.self.inside.next (name_at c.args.parent.0 (tokens_of (nodes_of c.self.inside.nodes.slots))) kind) ∷ finish key (leaf c.self.inside.next (name_at c.args.parent.0 (tokens_of (nodes_of c.self.inside.nodes.slots))) kind))) (sym c.serials_of-serials.ensures)
    (subst (λ (b : Option ℕ). Gains (page_of (nodes_of c.self.inside.nodes.slots) c.self.inside.next c.self.inside.number) (page_of at' (c.self.inside.next + weight kind) c.self.inside.number) c.args.parent.0 b key
    (start key (leaf c.self.inside.next (name_at c.args.parent.0 (tokens_of (nodes_of c.self.inside.nodes.slots))) kind) ∷ finish key (leaf c.self.inside.next (name_at c.args.parent.0 (tokens_of (nodes_of c.self.inside.nodes.slots))) kind))) c.key_of-before.ensures
    (made-gains (nodes_of c.self.inside.nodes.slots) at' c.self.inside.next c.self.inside.number c.args.parent.0 c.key_of-before.result kind c.in_ok-made.made c.self.invariant has fits c.in_ok-made.ensures.made)))

pub returns-clause-told : goal.returns-clause-told
returns-clause-told c =
    let place = subst (λ (z : Page). IsPlace z.tokens c.args.parent.0 (key_in c.args.before)) (sym c.self.view_is) c.requires in
    let has = holds (tokens_of (nodes_of c.self.inside.nodes.slots)) c.args.parent.0 (key_in c.args.before) place in
    let most = weight-most (kind_of c.args.content) in
    let all = levels-is in
    let bounded = c.self.invariant.sound.bounded in
    let fits : c.self.inside.next + weight (kind_of c.args.content) < levels = omega (arith, most, all, bounded, c.if-self.false) in
    let at' = nodes_of c.make_node.new.nodes.slots in
    let kind = kind_of c.args.content in
    λ w same. subst (λ (z : Page). view_of (page_of at' (c.self.inside.next + c.serials_of-serials.result) c.self.inside.number) ≡ replay (Make c.self.inside.next c.in_ok-made.made.above c.in_ok-made.made.follower w) (view_of z)) c.self.view_is
    (subst (λ n. view_of (page_of at' (c.self.inside.next + n) c.self.inside.number) ≡ replay (Make c.self.inside.next c.in_ok-made.made.above c.in_ok-made.made.follower w) (view_of (page_of (nodes_of c.self.inside.nodes.slots) c.self.inside.next c.self.inside.number))) (sym c.serials_of-serials.ensures)
    (made-told (nodes_of c.self.inside.nodes.slots) at' c.self.inside.next c.self.inside.number c.args.parent.0 c.key_of-before.result kind c.in_ok-made.made c.self.invariant has fits c.in_ok-made.ensures.made w same))
