-- What a change names as the next sibling is what follows the place in what is seen.
use Rattle.std.proofs.Common.{◌≡◌, ◌≤◌, ◌<◌, ℕ, zero, suc, List, [], ◌∷◌, ◌++◌, true, false, Option, Some, None, refl, ap, sym, ◌∙◌, arith, subst, append_assoc}
use Rattle.std.specs.Prelude.{◌==◌, ◌&&◌}
use Rattle.std.proofs.lemmas.Bool.{eq-eqb, and_from}
use Rattle.sv_tokens.specs.Counting.{times, leads}
use Rattle.sv_tokens.specs.Token.{Name, Token, Close}
use Rattle.sv_tokens.specs.Seen.{Seen, Start, Words, End, seen, follows, is_child_of, starts, ends}
use Rattle.sv_tokens.proofs.Counting.{times-append}
use Rattle.sv_tokens.proofs.Seen.{seen-append}
use Rattle.sv_tokens.proofs.Replay.{IsNode, words_node, element_node}
use Rattle.sv_nodes.specs.Nodes.{Kind, element, text, anchor, Cell, Nodes, name_of, opening, ending, start, finish, node_tokens, walk_each, walk, is_anchor, shown_or, first_shown}
use Rattle.sv_nodes.specs.Sound.{AreParts, IsProper, IsSound}
use Rattle.sv_nodes.proofs.Walk.{walk-nil}

-- a serial number that is not 0 is followed by that child
follows-child : (parent n : ℕ) (t : Seen) → zero < n → is_child_of parent n t ≡ true → follows parent n t ≡ true
follows-child parent zero t late e = absurd (omega (arith, late))
follows-child parent (suc n) t late e = e

child-is : (p q n : ℕ) → p ≡ q → ((n == n) && (p == q)) ≡ true
child-is p q n e = and_from (n == n) (p == q) (eq-eqb n n refl) (eq-eqb p q e)

leads-cell : (below : List ℕ → List Token) (parent : Name) (key : ℕ) (cell : Cell) (other : ℕ) (rest : List Token) → below [] ≡ [] → cell.parent ≡ parent → parent.serial < cell.serial → IsProper cell.kind cell.children
    → leads (follows parent.serial other) (seen rest) ≡ true
    → leads (follows parent.serial (shown_or (Some cell) other)) (seen (node_tokens below key (Some cell) ++ rest)) ≡ true
leads-cell below parent key cell other rest nil above later proper e = go cell.kind proper
  where
    same : cell.parent.serial ≡ parent.serial
    same = ap (λ (n : Name). n.serial) above

    go : (w : Kind) → IsProper w cell.children
        → leads (follows parent.serial (shown_or (Some (record cell { kind = w })) other)) (seen ((opening (name_of key cell) cell.parent cell.number w ∷ (below cell.children ++ ending (name_of key cell) w)) ++ rest)) ≡ true
    go (element f) proper = follows-child parent.serial cell.serial (Start cell.serial cell.parent.serial f) (omega (arith, later)) (child-is _ _ cell.serial same)
    go (text bytes) proper = follows-child parent.serial cell.serial (Words cell.serial cell.parent.serial bytes) (omega (arith, later)) (child-is _ _ cell.serial same)
    go anchor proper = subst (λ z. leads (follows parent.serial other) (seen ((z ++ []) ++ rest)) ≡ true) (sym (ap below proper ∙ nil)) e

leads-each : (below : List ℕ → List Token) (nodes : Nodes) (parent : Name) (name : List ℕ) (back : List ℕ) (post : List Token) → below [] ≡ [] → AreParts nodes parent back
    → ((key : ℕ) (cell : Cell) → nodes key ≡ Some cell → IsProper cell.kind cell.children)
    → leads (follows parent.serial (first_shown nodes back)) (seen (walk_each below nodes back ++ (Close parent name ∷ post))) ≡ true
leads-each below nodes parent name [] post nil parts proper = eq-eqb parent.serial parent.serial refl
leads-each below nodes parent name (key ∷ keys) post nil parts proper =
    let part = parts.0 in
    let rest = leads-each below nodes parent name keys post nil parts.1 proper in
    let one = leads-cell below parent key part.cell (first_shown nodes keys) (walk_each below nodes keys ++ (Close parent name ∷ post)) nil part.above part.later (proper key part.cell part.at) rest in
    let grouped = append_assoc (node_tokens below key (nodes key)) (walk_each below nodes keys) (Close parent name ∷ post) in
    subst (λ z. leads (follows parent.serial (first_shown nodes (key ∷ keys))) (seen z) ≡ true) (sym grouped)
    (subst (λ z. leads (follows parent.serial (shown_or z (first_shown nodes keys))) (seen (node_tokens below key z ++ (walk_each below nodes keys ++ (Close parent name ∷ post)))) ≡ true) (sym part.at) one)

-- the tokens from a place among the children on
pub leads-shown : (n : ℕ) (nodes : Nodes) (next : ℕ) (parent : Name) (name : List ℕ) (back : List ℕ) (post : List Token) → IsSound nodes next → AreParts nodes parent back → 1 ≤ n
    → leads (follows parent.serial (first_shown nodes back)) (seen (walk n nodes back ++ (Close parent name ∷ post))) ≡ true
unfolding walk
leads-shown zero nodes next parent name back post sound parts room = absurd (omega (arith, room))
leads-shown (suc n) nodes next parent name back post sound parts room = leads-each (walk n nodes) nodes parent name back post (walk-nil n nodes) parts sound.proper

-- ---- no node's end is seen more often than its start

node-ends : (s k : ℕ) (below : List ℕ → List Token) (c : Cell) → ((ks : List ℕ) → times (ends s) (seen (below ks)) ≤ times (starts s) (seen (below ks)))
    → times (ends s) (seen (node_tokens below k (Some c))) ≤ times (starts s) (seen (node_tokens below k (Some c)))
node-ends s k below c fewer = go c.kind
  where
    inner : List Token
    inner = below c.children

    go : (w : Kind) → times (ends s) (seen (opening (name_of k c) c.parent c.number w ∷ (inner ++ ending (name_of k c) w))) ≤ times (starts s) (seen (opening (name_of k c) c.parent c.number w ∷ (inner ++ ending (name_of k c) w)))
    go (element f) =
        let split = seen-append inner (Close (name_of k c) f.name ∷ []) in
        let a = ap (times (ends s)) split ∙ times-append (ends s) (seen inner) (End c.serial f.name ∷ []) in
        let b = ap (times (starts s)) split ∙ times-append (starts s) (seen inner) (End c.serial f.name ∷ []) in
        let h = fewer c.children in
        omega (arith, a, b, h)
    go (text bytes) =
        let split = seen-append inner [] in
        let a = ap (times (ends s)) split ∙ times-append (ends s) (seen inner) [] in
        let b = ap (times (starts s)) split ∙ times-append (starts s) (seen inner) [] in
        let h = fewer c.children in
        omega (arith, a, b, h)
    go anchor =
        let split = seen-append inner [] in
        let a = ap (times (ends s)) split ∙ times-append (ends s) (seen inner) [] in
        let b = ap (times (starts s)) split ∙ times-append (starts s) (seen inner) [] in
        let h = fewer c.children in
        omega (arith, a, b, h)

each-ends : (s : ℕ) (below : List ℕ → List Token) (nodes : Nodes) → ((ks : List ℕ) → times (ends s) (seen (below ks)) ≤ times (starts s) (seen (below ks)))
    → (ks : List ℕ) → times (ends s) (seen (walk_each below nodes ks)) ≤ times (starts s) (seen (walk_each below nodes ks))
each-ends s below nodes fewer [] = omega arith
each-ends s below nodes fewer (k ∷ ks) = go (nodes k) (each-ends s below nodes fewer ks)
  where
    rest : List Token
    rest = walk_each below nodes ks

    one-node : (o : Option Cell) → times (ends s) (seen (node_tokens below k o)) ≤ times (starts s) (seen (node_tokens below k o))
    one-node None = omega arith
    one-node (Some c) = node-ends s k below c fewer

    go : (o : Option Cell) → times (ends s) (seen rest) ≤ times (starts s) (seen rest) → times (ends s) (seen (node_tokens below k o ++ rest)) ≤ times (starts s) (seen (node_tokens below k o ++ rest))
    go o more =
        let split = seen-append (node_tokens below k o) rest in
        let a = ap (times (ends s)) split ∙ times-append (ends s) (seen (node_tokens below k o)) (seen rest) in
        let b = ap (times (starts s)) split ∙ times-append (starts s) (seen (node_tokens below k o)) (seen rest) in
        let here = one-node o in
        omega (arith, a, b, here, more)

pub fewer-ends : (s n : ℕ) (nodes : Nodes) (ks : List ℕ) → times (ends s) (seen (walk n nodes ks)) ≤ times (starts s) (seen (walk n nodes ks))
unfolding walk
fewer-ends s zero nodes ks = omega arith
fewer-ends s (suc n) nodes ks = each-ends s (walk n nodes) nodes (fewer-ends s n nodes) ks

-- ---- what is seen of one node and all below it

pub seen-cell : (n : ℕ) (nodes : Nodes) (k : ℕ) (c : Cell) → IsProper c.kind c.children → is_anchor c.kind ≡ false → IsNode c.serial (seen (start k c ∷ (walk n nodes c.children ++ finish k c)))
seen-cell n nodes k c proper shown = go c.kind proper shown
  where
    no : true ≡ false → ⊥
    no e = cc

    inner : List Token
    inner = walk n nodes c.children

    go : (w : Kind) → IsProper w c.children → is_anchor w ≡ false → IsNode c.serial (seen (opening (name_of k c) c.parent c.number w ∷ (inner ++ ending (name_of k c) w)))
    go (element f) proper shown = subst (λ z. IsNode c.serial (Start c.serial c.parent.serial f ∷ z)) (sym (seen-append inner (Close (name_of k c) f.name ∷ []))) (element_node c.serial c.parent.serial f (seen inner) f.name)
    go (text bytes) proper shown = subst (λ z. IsNode c.serial (Words c.serial c.parent.serial bytes ∷ seen (z ++ []))) (sym (ap (walk n nodes) proper ∙ walk-nil n nodes)) (words_node c.serial c.parent.serial bytes)
    go anchor proper shown = absurd (no shown)

-- nobody sees an anchor
pub seen-anchor : (n : ℕ) (nodes : Nodes) (k : ℕ) (c : Cell) → IsProper c.kind c.children → is_anchor c.kind ≡ true → seen (start k c ∷ (walk n nodes c.children ++ finish k c)) ≡ []
seen-anchor n nodes k c proper hidden = go c.kind proper hidden
  where
    no : false ≡ true → ⊥
    no e = cc

    inner : List Token
    inner = walk n nodes c.children

    go : (w : Kind) → IsProper w c.children → is_anchor w ≡ true → seen (opening (name_of k c) c.parent c.number w ∷ (inner ++ ending (name_of k c) w)) ≡ []
    go (element f) proper hidden = absurd (no hidden)
    go (text bytes) proper hidden = absurd (no hidden)
    go anchor proper hidden = ap (λ z. seen (z ++ [])) (ap (walk n nodes) proper ∙ walk-nil n nodes)
