-- A search through the page.
use Rattle.std.proofs.Common.{◌≡◌, ◌<◌, ◌≤◌, ◌+◌, ℕ, zero, suc, List, [], ◌∷◌, ◌++◌, Bool, true, false, Option, Some, None, refl, ap, sym, ◌∙◌, arith, length, get_or, drop, drop-cons, add-one}
use Rattle.std.specs.Prelude.{if◌then◌else◌, ◌||◌, option_map, IsSome}
use Rattle.std.specs.List.{list_any}
use Rattle.std.proofs.lemmas.List.{drop_all}
use Rattle.slab.specs.Slab.{Slab, get}
use Rattle.sv_tokens.specs.Token.{Name, Token, first_key, node_of, identifies}
use Rattle.sv_tokens.specs.declared.element.Attribute.{Attribute}
use Rattle.sv_nodes.specs.Nodes.{Kind, element, text, anchor, Cell, Nodes, name_of, opening, ending, finish, walk, levels, serial_at, first_shown, shown_or}
use Rattle.sv_nodes.specs.Sound.{IsPart, AreParts, IsSound}
use Rattle.sv_nodes.specs.Cells.{cell_of, nodes_of, shows_id}
use Rattle.sv_nodes.specs.declared.entry.Entry.{Entry}
use Rattle.sv_nodes.proofs.Walk.{walk-node, walk-append, walk-nil}
use Rattle.sv_nodes.proofs.Slabs.{cells_of-at, some_of}

-- nothing in the first tokens
pub first-skip : (p : Token → Bool) (xs ys : List Token) → first_key p xs ≡ None → first_key p (xs ++ ys) ≡ first_key p ys
first-skip p [] ys none = refl
first-skip p (x ∷ xs) ys none = go (p x) refl (first-skip p xs ys)
  where
    no : {n : ℕ} → Some n ≡ None → ⊥
    no e = cc

    go : (b : Bool) → p x ≡ b → (first_key p xs ≡ None → first_key p (xs ++ ys) ≡ first_key p ys) → first_key p ((x ∷ xs) ++ ys) ≡ first_key p ys
    go true e ih = (let found : first_key p (x ∷ xs) ≡ Some (node_of x).key = rw e refl in absurd (no (sym found ∙ none)))
    go false e ih = (let rest : first_key p xs ≡ None = rw e at none in rw e (ih rest))

-- something in the first tokens
pub first-take : (p : Token → Bool) (xs ys : List Token) (n : ℕ) → first_key p xs ≡ Some n → first_key p (xs ++ ys) ≡ Some n
first-take p [] ys n found = absurd (no found)
  where
    no : {m : ℕ} → None ≡ Some m → ⊥
    no e = cc
first-take p (x ∷ xs) ys n found = go (p x) refl (first-take p xs ys n)
  where
    go : (b : Bool) → p x ≡ b → (first_key p xs ≡ Some n → first_key p (xs ++ ys) ≡ Some n) → first_key p ((x ∷ xs) ++ ys) ≡ Some n
    go true e ih = (let here : Some (node_of x).key ≡ Some n = rw e at found in rw e here)
    go false e ih = (let rest : first_key p xs ≡ Some n = rw e at found in rw e (ih rest))

identifies-opening : (id : List ℕ) (n p : Name) (number : Option ℕ) (w : Kind) → identifies id (opening n p number w) ≡ shows_id id w
identifies-opening id n p number (element e) = refl
identifies-opening id n p number (text bytes) = refl
identifies-opening id n p number anchor = refl

node_of-opening : (n p : Name) (number : Option ℕ) (w : Kind) → (node_of (opening n p number w)).key ≡ n.key
node_of-opening n p number (element e) = refl
node_of-opening n p number (text bytes) = refl
node_of-opening n p number anchor = refl

identifies-ending : (id : List ℕ) (n : Name) (w : Kind) → first_key (identifies id) (ending n w) ≡ None
identifies-ending id n (element e) = refl
identifies-ending id n (text bytes) = refl
identifies-ending id n anchor = refl

pub at_entry : (slab : Slab Entry) (key : ℕ) (entry : Entry) → get slab key ≡ Some entry → nodes_of slab.slots key ≡ Some (cell_of entry)
at_entry slab key entry at = cells_of-at slab.slots key ∙ ap (option_map cell_of) at

-- the node itself has the id
pub found-here : (at : Nodes) (next k : ℕ) (c : Cell) (id : List ℕ) → IsSound at next → at k ≡ Some c → shows_id id c.kind ≡ true → first_key (identifies id) (walk levels at (k ∷ [])) ≡ Some k
found-here at next k c id sound here has =
    rw (walk-node at next k c sound here, identifies-opening id (name_of k c) c.parent c.number c.kind, has, node_of-opening (name_of k c) c.parent c.number c.kind) refl

none_or : (id : List ℕ) (xs ys : List Token) → first_key (identifies id) ys ≡ None → first_key (identifies id) (xs ++ ys) ≡ first_key (identifies id) xs
none_or id [] ys none = none
none_or id (x ∷ xs) ys none = ap (λ z. if identifies id x then Some (node_of x).key else z) (none_or id xs ys none)

-- else the search goes on among the children
pub found-below : (at : Nodes) (next k : ℕ) (c : Cell) (id : List ℕ) → IsSound at next → at k ≡ Some c → shows_id id c.kind ≡ false
    → first_key (identifies id) (walk levels at c.children) ≡ first_key (identifies id) (walk levels at (k ∷ []))
found-below at next k c id sound here has =
    rw (walk-node at next k c sound here, identifies-opening id (name_of k c) c.parent c.number c.kind, has) (sym (none_or id (walk levels at c.children) (finish k c) (identifies-ending id (name_of k c) c.kind)))

pub rest-cons : (at : Nodes) (ks : List ℕ) (i k : ℕ) → i < length ks → k ≡ get_or ks i 0 → walk levels at (drop i ks) ≡ walk levels at (k ∷ []) ++ walk levels at (drop (i + 1) ks)
rest-cons at ks i k below is =
    let front : drop i ks ≡ get_or ks i 0 ∷ drop (suc i) ks = drop-cons ks i 0 below in
    ap (walk levels at) (rw (front, ← is, add-one) refl) ∙ walk-append levels at (k ∷ []) (drop (i + 1) ks)

pub rest-none : (at : Nodes) (ks : List ℕ) (i : ℕ) → length ks ≤ i → walk levels at (drop i ks) ≡ []
rest-none at ks i past = ap (walk levels at) (drop_all i ks past) ∙ walk-nil levels at

part_at : (at : Nodes) (parent : Name) (ks : List ℕ) (i : ℕ) → AreParts at parent ks → i < length ks → IsPart at parent (get_or ks i 0)
part_at at parent [] i parts below = absurd (omega arith)
part_at at parent (k ∷ ks) zero parts below = parts.0
part_at at parent (k ∷ ks) (suc i) parts below = part_at at parent ks i parts.1 (omega arith)

-- a child is there, and was made later
pub record IsBelow (slab : Slab Entry) (next node child : ℕ) : Type 0 where
  pub live : IsSome (get slab child)
  pub later : serial_at (nodes_of slab.slots) node < serial_at (nodes_of slab.slots) child
  pub below : serial_at (nodes_of slab.slots) child ≤ next

pub child-below : (slab : Slab Entry) (next k : ℕ) (c : Cell) (i child : ℕ) → IsSound (nodes_of slab.slots) next → nodes_of slab.slots k ≡ Some c → i < length c.children → child ≡ get_or c.children i 0
    → IsBelow slab next k child
child-below slab next k c i child sound here inside is =
    let part : IsPart (nodes_of slab.slots) (name_of k c) child = rw is (part_at (nodes_of slab.slots) (name_of k c) c.children i (sound.parts k c here) inside) in
    let own : serial_at (nodes_of slab.slots) k ≡ c.serial = rw here refl in
    let its : serial_at (nodes_of slab.slots) child ≡ part.cell.serial = rw part.at refl in
    let most = sound.below child part.cell part.at in
    record {
      live = some_of (get slab child) part.cell (sym (cells_of-at slab.slots child) ∙ part.at);
      later = omega (arith, own, its, part.later);
      below = omega (arith, its, most);
    }

pub any-step : (p : Attribute → Bool) (xs : List Attribute) (i : ℕ) (d : Attribute) (v : Bool) → i < length xs → p (get_or xs i d) ≡ v → list_any p (drop i xs) ≡ (v || list_any p (drop (i + 1) xs))
any-step p xs i d v below is =
    let front : drop i xs ≡ get_or xs i d ∷ drop (suc i) xs = drop-cons xs i d below in
    rw (front, is, add-one) refl

pub shown-step : (at : Nodes) (ks : List ℕ) (i k : ℕ) → i < length ks → k ≡ get_or ks i 0 → first_shown at (drop i ks) ≡ shown_or (at k) (first_shown at (drop (i + 1) ks))
shown-step at ks i k below is =
    let front : drop i ks ≡ get_or ks i 0 ∷ drop (suc i) ks = drop-cons ks i 0 below in
    let split : drop i ks ≡ k ∷ drop (i + 1) ks = rw (front, ← is, add-one) refl in
    ap (first_shown at) split

-- what one child answers, among the rest
pub child-found : (at : Nodes) (ks : List ℕ) (i k n : ℕ) (id : List ℕ) → i < length ks → k ≡ get_or ks i 0 → first_key (identifies id) (walk levels at (k ∷ [])) ≡ Some n
    → first_key (identifies id) (walk levels at (drop i ks)) ≡ Some n
child-found at ks i k n id below is found = ap (first_key (identifies id)) (rest-cons at ks i k below is) ∙ first-take (identifies id) (walk levels at (k ∷ [])) (walk levels at (drop (i + 1) ks)) n found

pub child-passed : (at : Nodes) (ks : List ℕ) (i k : ℕ) (id : List ℕ) → i < length ks → k ≡ get_or ks i 0 → first_key (identifies id) (walk levels at (k ∷ [])) ≡ None
    → first_key (identifies id) (walk levels at (drop i ks)) ≡ first_key (identifies id) (walk levels at (drop (i + 1) ks))
child-passed at ks i k id below is none = ap (first_key (identifies id)) (rest-cons at ks i k below is) ∙ first-skip (identifies id) (walk levels at (k ∷ [])) (walk levels at (drop (i + 1) ks)) none

pub not_true : (b : Bool) → (b ≡ true → ⊥) → b ≡ false
not_true true h = absurd (h refl)
not_true false h = refl
