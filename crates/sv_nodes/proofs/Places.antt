-- A place for a new node, seen in the slab.
use Rattle.std.proofs.Common.{◌≡◌, ◌≢◌, ◌≤◌, ◌==◌, ◌^◌, ℕ, List, Bool, true, false, Option, Some, None, refl, ap, sym, ◌∙◌, arith, subst}
use Rattle.std.specs.Prelude.{option_map, IsSome, IsSomeAnd, ◌&&◌}
use Rattle.std.proofs.lemmas.Bool.{eqb-true}
use Rattle.slab.specs.Slab.{Slab, get}
use Rattle.sv_tokens.specs.Counting.{one, times, Has}
use Rattle.sv_tokens.specs.Token.{Name, Token, Open, Text, Anchor, Close, begins, opens, is_child, parent_of, parent_at, IsPlace, IsBeside}
use Rattle.sv_tokens.proofs.Moving.{parent-here}
use Rattle.sv_nodes.specs.Nodes.{Kind, element, text, anchor, Cell, Nodes, name_of, opening, start, tokens_of, weight, levels}
use Rattle.sv_nodes.specs.Sound.{IsAmong, IsAt, IsSound}
use Rattle.sv_nodes.specs.Cells.{cell_of, nodes_of}
use Rattle.sv_nodes.specs.declared.entry.Entry.{Entry}
use Rattle.sv_nodes.proofs.Around.{around, has-begins, passes_here, opens-narrows, Narrows}
use Rattle.sv_nodes.proofs.Slabs.{cells_of-at, at_node, stands-live}
use Rattle.sv_nodes.proofs.Walk.{begins-own}

pub weight-most : (w : Kind) → weight w ≤ 1
weight-most (element e) = omega arith
weight-most (text bytes) = omega arith
weight-most anchor = omega arith

pub levels-is : levels ≡ 2 ^ 64
unfolding levels
levels-is = refl

both-right : (b c : Bool) → (b && c) ≡ true → c ≡ true
both-right true c e = e
both-right false c e = absurd (no e)
  where
    no : false ≡ true → ⊥
    no e = cc

both-less : (b c : Bool) → one (b && c) ≤ one b
both-less true true = omega arith
both-less true false = omega arith
both-less false c = omega arith

pub child-narrows : (parent p : ℕ) → Narrows p (is_child parent p)
child-narrows parent p (Open n q number e) = both-less (n.key == p) (q.key == parent)
child-narrows parent p (Text n q number bytes) = both-less (n.key == p) (q.key == parent)
child-narrows parent p (Anchor n q) = both-less (n == p) (q.key == parent)
child-narrows parent p (Close n name) = omega arith

-- a child names its parent
pub child_parent : (parent k : ℕ) (n p : Name) (number : Option ℕ) (w : Kind) → is_child parent k (opening n p number w) ≡ true → p.key ≡ parent
child_parent parent k n p number (element e) h = eqb-true p.key parent (both-right (n.key == k) (p.key == parent) h)
child_parent parent k n p number (text bytes) h = eqb-true p.key parent (both-right (n.key == k) (p.key == parent) h)
child_parent parent k n p number anchor h = eqb-true p.key parent (both-right (n.key == k) (p.key == parent) h)

pub holds : (tokens : List Token) (parent : ℕ) (before : Option ℕ) → IsPlace tokens parent before → Has (opens parent) tokens
holds tokens parent None place = place
holds tokens parent (Some x) place = place.0

some : {x y : Cell} → Some x ≡ Some y → x ≡ y
some e = cc

-- a child stands among the children of its parent
pub among-child : (at : Nodes) (next parent x : ℕ) (cell : Cell) → IsSound at next → Has (is_child parent x) (tokens_of at) → x ≢ 0 → at parent ≡ Some cell → IsAmong x cell.children
among-child at next parent x cell sound has below here =
    let a = around at next x sound (has-begins x (is_child parent x) (tokens_of at) (child-narrows parent x) has) in
    let above = child_parent parent x (name_of x a.cell) a.cell.parent a.cell.number a.cell.kind (passes_here at next x (is_child parent x) sound (child-narrows parent x) a has) in
    let link = sound.linked x a.cell a.here below in
    let same : link.cell ≡ cell = some (sym link.at ∙ (ap at above ∙ here)) in
    subst (λ (c : Cell). IsAmong x c.children) same link.among

-- a node that stands before a place is among the children
pub among-children : (at : Nodes) (next parent : ℕ) (before : Option ℕ) (cell : Cell) → IsSound at next → IsPlace (tokens_of at) parent before → at parent ≡ Some cell → IsAt before cell.children
among-children at next parent None cell sound place here = tt
among-children at next parent (Some x) cell sound place here = among-child at next parent x cell sound place.1 place.2 here

place-in : (o : Option Entry) (before : Option ℕ) (cell : Cell) → option_map cell_of o ≡ Some cell → IsAt before cell.children → IsSomeAnd o (λ entry. IsAt before entry.children.items)
place-in None before cell e place = absurd (no e)
  where
    no : {c : Cell} → None ≡ Some c → ⊥
    no e = cc
place-in (Some entry) before cell e place = subst (λ (c : Cell). IsAt before c.children) (some (sym e)) place

pub place-live : (slab : Slab Entry) (next parent : ℕ) (before : Option ℕ) → IsSound (nodes_of slab.slots) next → IsPlace (tokens_of (nodes_of slab.slots)) parent before
    → IsSomeAnd (get slab parent) (λ entry. IsAt before entry.children.items)
place-live slab next parent before sound place =
    let a = around (nodes_of slab.slots) next parent sound (has-begins parent (opens parent) _ (opens-narrows parent) (holds _ parent before place)) in
    place-in (get slab parent) before a.cell (sym (cells_of-at slab.slots parent) ∙ a.here) (among-children (nodes_of slab.slots) next parent before a.cell sound place a.here)

parent_of-opening : (n p : Name) (number : Option ℕ) (w : Kind) → parent_of (opening n p number w) ≡ p
parent_of-opening n p number (element e) = refl
parent_of-opening n p number (text bytes) = refl
parent_of-opening n p number anchor = refl

-- the parent that a node's first token names
pub parent-cell : (at : Nodes) (next k : ℕ) (c : Cell) → IsSound at next → at k ≡ Some c → parent_at k (tokens_of at) ≡ c.parent
parent-cell at next k c sound here =
    let a = around at next k sound (sound.stands k c here) in
    ap (parent_at k) a.old ∙ (parent-here k a.pre _ (start k a.cell) (begins-own k a.cell) (subst (λ z. times (begins k) z ≤ 1) a.old (sound.once k))
    ∙ (parent_of-opening (name_of k a.cell) a.cell.parent a.cell.number a.cell.kind ∙ ap (λ (z : Cell). z.parent) (some (sym a.here ∙ here))))

among-beside : (at : Nodes) (next key : ℕ) (before : Option ℕ) (cell above : Cell) → IsSound at next → IsBeside (tokens_of at) key before → at key ≡ Some cell → at cell.parent.key ≡ Some above → IsAt before above.children
among-beside at next key None cell above sound place here holder = tt
among-beside at next key (Some x) cell above sound place here holder =
    let narrow = child-narrows place.0 key in
    let a = around at next key sound (has-begins key (is_child place.0 key) (tokens_of at) narrow place.1) in
    let its = child_parent place.0 key (name_of key a.cell) a.cell.parent a.cell.number a.cell.kind (passes_here at next key (is_child place.0 key) sound narrow a place.1) in
    let same : cell.parent.key ≡ place.0 = ap (λ (c : Cell). c.parent.key) (some (sym here ∙ a.here)) ∙ its in
    among-child at next cell.parent.key x above sound (subst (λ p. Has (is_child p x) (tokens_of at)) (sym same) place.2) place.3 holder

both-in : (o : Option Entry) (key : ℕ) (before : Option ℕ) (cell : Cell) → option_map cell_of o ≡ Some cell → IsAmong key cell.children → IsAt before cell.children
    → IsSomeAnd o (λ above. IsAmong key above.children.items × IsAt before above.children.items)
both-in None key before cell e among place = absurd (no e)
  where
    no : {c : Cell} → None ≡ Some c → ⊥
    no e = cc
both-in (Some entry) key before cell e among place = subst (λ (c : Cell). IsAmong key c.children × IsAt before c.children) (some (sym e)) (among, place)

-- a node and a place beside it, seen in the slab
pub beside-live : (slab : Slab Entry) (next key : ℕ) (before : Option ℕ) → IsSound (nodes_of slab.slots) next → Has (begins key) (tokens_of (nodes_of slab.slots)) → key ≢ 0 → IsBeside (tokens_of (nodes_of slab.slots)) key before
    → IsSomeAnd (get slab key) (λ e. IsSomeAnd (get slab e.parent) (λ above. IsAmong key above.children.items × IsAt before above.children.items))
beside-live slab next key before sound has below place = go (get slab key) refl (stands-live slab next key sound has)
  where
    no : false ≡ true → ⊥
    no e = cc

    go : (o : Option Entry) → get slab key ≡ o → IsSome o → IsSomeAnd o (λ e. IsSomeAnd (get slab e.parent) (λ above. IsAmong key above.children.items × IsAt before above.children.items))
    go None at live = absurd (no live)
    go (Some entry) at live =
        let here = at_node slab key entry at in
        let link = sound.linked key (cell_of entry) here below in
        both-in (get slab entry.parent) key before link.cell (sym (cells_of-at slab.slots entry.parent) ∙ link.at) link.among (among-beside (nodes_of slab.slots) next key before (cell_of entry) link.cell sound place here link.at)

-- the place is before another node
pub beside-other : (tokens : List Token) (key : ℕ) (before : Option ℕ) → IsBeside tokens key before → before ≢ Some key
beside-other tokens key None place e = absurd (no e)
  where
    no : {x : ℕ} → None ≡ Some x → ⊥
    no e = cc
beside-other tokens key (Some x) place e = place.4 (same e)
  where
    same : {x y : ℕ} → Some x ≡ Some y → x ≡ y
    same e = cc
