use Rattle.std.proofs.Common.{◌≡◌, ◌+◌, ◌∙◌, sym, ap, arith, ℕ, suc, Some, drop}
use Rattle.slab.specs.Slab.{get}
use Rattle.sv_nodes.specs.Nodes.{first_shown}
use Rattle.sv_nodes.specs.Cells.{nodes_of}
use Rattle.sv_nodes.specs.declared.entry.Entry.{Entry}
use Rattle.sv_nodes.proofs.Slabs.{there, some_and}
use Rattle.sv_nodes.proofs.Shifting.{beside, at-removed, shifted-inside, get-written, moves-shifted}
use Rattle.sv_nodes.proofs.shift.move_node.Goals as goal

some : {x y : Entry} → Some x ≡ Some y → x ≡ y
some e = cc

next : (n : ℕ) → n + 1 ≡ suc n
next n = omega arith

pub shift_in-to-requires : goal.shift_in-to-requires
shift_in-to-requires c =
    let slab = c.args.nodes.now in
    let p = c.entry_at.result.now.parent in
    let b = beside slab c.args.key c.args.before c.entry_at.result.now c.entry_at.ensures c.requires.child in
    let f = there (get slab p) (some_and _ _ b) c.place_in-from.ensures in
    rw f.1 (f.2, at-removed c.args.key c.place_in-from.result c.args.before f.0.children.items f.2 c.requires.other (rw f.1 at b).1)

pub follower-later-requires : goal.follower-later-requires
follower-later-requires c =
    let slab = c.args.nodes.now in
    let p = c.entry_at.result.now.parent in
    let b = beside slab c.args.key c.args.before c.entry_at.result.now c.entry_at.ensures c.requires.child in
    let s = there (get slab p) (some_and _ _ b) c.shift_in-to.ensures.shifted in
    rw (get-written slab c.shift_in-to.new.nodes p s.0 s.2.0 s.1 s.2.1) (shifted-inside c.args.key c.place_in-from.result c.shift_in-to.result c.args.before s.0.children.items s.2.0.children.items s.2.3)

pub returns : goal.returns
returns c =
    let slab = c.args.nodes.now in
    let p = c.entry_at.result.now.parent in
    let b = beside slab c.args.key c.args.before c.entry_at.result.now c.entry_at.ensures c.requires.child in
    let live = some_and _ _ b in
    let s = there (get slab p) live c.shift_in-to.ensures.shifted in
    let e = there (get slab p) live c.follower-earlier.ensures in
    let written = get-written slab c.shift_in-to.new.nodes p s.0 s.2.0 s.1 s.2.1 in
    let later = rw written at c.follower-later.ensures in
    moves-shifted slab c.shift_in-to.new.nodes c.args.key c.place_in-from.result c.shift_in-to.result c.args.before c.entry_at.result.now s.0 s.2.0 (record { earlier = c.follower-earlier.result; later = c.follower-later.result })
    c.entry_at.ensures s.1 s.2.1 s.2.2 s.2.3
    (e.2 ∙ (ap (λ (x : Entry). first_shown (nodes_of slab.slots) (drop (c.place_in-from.result + 1) x.children.items)) (some (sym e.1 ∙ s.1))
    ∙ ap (λ n. first_shown (nodes_of slab.slots) (drop n s.0.children.items)) (next c.place_in-from.result)))
    (later ∙ ap (λ n. first_shown (nodes_of c.shift_in-to.new.nodes.slots) (drop n s.2.0.children.items)) (next c.shift_in-to.result))
