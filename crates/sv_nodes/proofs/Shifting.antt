-- A child goes elsewhere among the children of its parent, in the slab.
use Rattle.std.proofs.Common.{◌≡◌, ◌≢◌, ◌≤◌, ◌+◌, ℕ, zero, suc, List, [], ◌∷◌, ◌++◌, Option, Some, None, refl, ap, sym, ◌∙◌, arith, ◌⊎◌, inl, inr, subst, length, drop}
use Rattle.std.specs.Prelude.{IsSomeAnd, insert, remove}
use Rattle.std.proofs.lemmas.Bool.{cases_eq}
use Rattle.slab.specs.Slab.{Slab, get, with_value}
use Rattle.slab.proofs.SlabLemmas.{Updates-with_value}
use Rattle.sv_nodes.specs.Nodes.{Cell, Nodes, with_children, first_shown, shown_or}
use Rattle.sv_nodes.specs.Sound.{IsAmong, IsAt}
use Rattle.sv_nodes.specs.Steps.{IsBack, IsStart, Reorders}
use Rattle.sv_nodes.specs.Moves.{Moves}
use Rattle.sv_nodes.specs.Cells.{cell_of, nodes_of}
use Rattle.sv_nodes.specs.declared.entry.Entry.{Entry}
use Rattle.sv_nodes.specs.declared.shift.Followers.{Followers}
use Rattle.sv_nodes.proofs.Siblings.{grows-at, cuts-at, cuts-behind}
use Rattle.sv_nodes.proofs.Shrinking.{among-cut}
use Rattle.sv_nodes.proofs.Slabs.{changes-write, at_node}

drop-insert : (key : ℕ) (ks : List ℕ) (n : ℕ) → n ≤ length ks → drop (suc n) (insert ks n key) ≡ drop n ks
drop-insert key [] zero inside = refl
drop-insert key [] (suc n) inside = absurd (omega (arith, inside))
drop-insert key (k ∷ ks) zero inside = refl
drop-insert key (k ∷ ks) (suc n) inside = drop-insert key ks n (omega (arith, inside))

length-insert : (key : ℕ) (ks : List ℕ) (n : ℕ) → n ≤ length ks → length (insert ks n key) ≡ suc (length ks)
length-insert key [] zero inside = refl
length-insert key [] (suc n) inside = absurd (omega (arith, inside))
length-insert key (k ∷ ks) zero inside = refl
length-insert key (k ∷ ks) (suc n) inside = let rest = length-insert key ks n (omega (arith, inside)) in omega (arith, rest)

-- the children around the old place and around the new one
pub record Sides (key from to : ℕ) (before : Option ℕ) (old new : List ℕ) : Type 0 where
  pub pre : List ℕ
  pub post : List ℕ
  pub front : List ℕ
  pub back : List ℕ
  pub was : old ≡ pre ++ (key ∷ post)
  pub others : pre ++ post ≡ front ++ back
  pub placed : IsBack before back
  pub is : new ≡ front ++ (key ∷ back)
  pub post_is : post ≡ drop (suc from) old
  pub back_is : back ≡ drop to (remove old from)

pub sides : (key from to : ℕ) (before : Option ℕ) (old new : List ℕ) → Reorders key from to before old new → Sides key from to before old new
sides key from to before old new r =
    let cut = cuts-at key old from r.child.back in
    let grown = grows-at key (remove old from) to r.place.inside in
    record {
      pre = cut.front;
      post = cut.back;
      front = grown.front;
      back = grown.back;
      was = cut.was;
      others = sym cut.now ∙ grown.was;
      placed = subst (λ z. IsBack before z) (sym grown.from) r.place.back;
      is = r.is ∙ grown.now;
      post_is = cuts-behind key old from r.child.back;
      back_is = grown.from;
    }

-- the new place has a child
pub shifted-inside : (key from to : ℕ) (before : Option ℕ) (old new : List ℕ) → Reorders key from to before old new → to + 1 ≤ length new
shifted-inside key from to before old new r =
    let l = ap length r.is ∙ length-insert key (remove old from) to r.place.inside in
    omega (arith, l, r.place.inside)

-- another child is still there without one
pub at-removed : (key from : ℕ) (before : Option ℕ) (ks : List ℕ) → IsStart (Some key) from ks → before ≢ Some key → IsAt before ks → IsAt before (remove ks from)
at-removed key from None ks start other place = tt
at-removed key from (Some x) ks start other place =
    let cut = cuts-at key ks from start.back in
    subst (λ z. IsAmong x z) (sym cut.now) (among-cut x key cut.front cut.back (λ e. other (ap Some e)) (subst (λ z. IsAmong x z) cut.was place))

-- nodes with other children are seen as they were
first_shown-same : (at at' : Nodes) (p : ℕ) (cell : Cell) (children ks : List ℕ) → at p ≡ Some cell → at' p ≡ Some (with_children cell children) → ((k : ℕ) → k ≢ p → at' k ≡ at k) → first_shown at' ks ≡ first_shown at ks
first_shown-same at at' p cell children [] here is others = refl
first_shown-same at at' p cell children (k ∷ ks) here is others = by (cases_eq k p) (first_shown-same at at' p cell children ks here is others)
  where
    by : (k ≡ p) ⊎ (k ≢ p) → first_shown at' ks ≡ first_shown at ks → first_shown at' (k ∷ ks) ≡ first_shown at (k ∷ ks)
    by (inl e) rest =
        ap (λ z. shown_or z (first_shown at' ks)) (ap at' e ∙ is)
        ∙ (ap (λ z. shown_or (Some cell) z) rest ∙ ap (λ z. shown_or z (first_shown at ks)) (sym (ap at e ∙ here)))
    by (inr ne) rest = ap (λ z. shown_or z (first_shown at' ks)) (others k ne) ∙ ap (λ z. shown_or (at k) z) rest

-- the shift of a child, as a step on nodes
pub moves-shifted : (old new : Slab Entry) (key from to : ℕ) (before : Option ℕ) (entry above shifted : Entry) (followers : Followers) → get old key ≡ Some entry → get old entry.parent ≡ Some above
    → new ≡ with_value old entry.parent shifted → cell_of shifted ≡ with_children (cell_of above) shifted.children.items → Reorders key from to before above.children.items shifted.children.items
    → followers.earlier ≡ first_shown (nodes_of old.slots) (drop (suc from) above.children.items) → followers.later ≡ first_shown (nodes_of new.slots) (drop (suc to) shifted.children.items)
    → Moves (nodes_of old.slots) (nodes_of new.slots) key before followers
moves-shifted old new key from to before entry above shifted followers here holder written shifted_is reorders earlier later =
    let first = changes-write old entry.parent above shifted holder in
    let same : nodes_of new.slots ≡ nodes_of (with_value old entry.parent shifted).slots = ap (λ (s : Slab Entry). nodes_of s.slots) written in
    let is : nodes_of new.slots entry.parent ≡ Some (with_children (cell_of above) shifted.children.items) = ap (λ (n : Nodes). n entry.parent) same ∙ (first.here ∙ ap Some shifted_is) in
    let others = (λ (k : ℕ) (ne : k ≢ entry.parent). ap (λ (n : Nodes). n k) same ∙ first.others k ne) in
    let behind : drop (suc to) shifted.children.items ≡ drop to (remove above.children.items from) = ap (drop (suc to)) reorders.is ∙ drop-insert key (remove above.children.items from) to reorders.place.inside in
    record {
      cell = cell_of entry;
      was = at_node old key entry here;
      above = cell_of above;
      holder = at_node old entry.parent above holder;
      from = from;
      to = to;
      children = shifted.children.items;
      reorders = reorders;
      is = is;
      others = others;
      earlier_is = earlier;
      later_is = later ∙ (ap (first_shown (nodes_of new.slots)) behind ∙ first_shown-same (nodes_of old.slots) (nodes_of new.slots) entry.parent (cell_of above) shifted.children.items (drop to (remove above.children.items from)) (at_node old entry.parent above holder) is others);
    }

-- what the slab has after a write
pub get-written : (old new : Slab Entry) (key : ℕ) (entry written : Entry) → get old key ≡ Some entry → new ≡ with_value old key written → get new key ≡ Some written
get-written old new key entry written at e = ap (λ (s : Slab Entry). get s key) e ∙ (Updates-with_value old key written (rw at refl)).changed

-- the parent has the node and the place among its children
pub beside : (slab : Slab Entry) (key : ℕ) (before : Option ℕ) (entry : Entry) → get slab key ≡ Some entry
    → IsSomeAnd (get slab key) (λ e. IsSomeAnd (get slab e.parent) (λ above. IsAmong key above.children.items × IsAt before above.children.items))
    → IsSomeAnd (get slab entry.parent) (λ above. IsAmong key above.children.items × IsAt before above.children.items)
beside slab key before entry at has = rw at at has
