-- A node that is put elsewhere among the children of its parent is its tokens at another place.
use Rattle.std.proofs.Common.{◌≡◌, ◌≢◌, ◌≤◌, ℕ, zero, suc, List, [], ◌∷◌, ◌++◌, true, Option, Some, refl, ap, sym, ◌∙◌, arith, ◌⊎◌, inl, inr, subst, append_assoc, append-nil}
use Rattle.std.proofs.lemmas.Bool.{cases_eq}
use Rattle.sv_tokens.specs.Counting.{times, leads}
use Rattle.sv_tokens.specs.Token.{Name, Element, Token, Close, begins}
use Rattle.sv_tokens.specs.Edit.{spot, Moved}
use Rattle.sv_tokens.specs.Seen.{seen, follows}
use Rattle.sv_tokens.proofs.Counting.{times-append}
use Rattle.sv_tokens.proofs.Moving.{moved}
use Rattle.sv_nodes.specs.Nodes.{Kind, element, text, anchor, Cell, Nodes, name_of, ending, start, finish, node_tokens, walk, levels, tokens_of, weight, is_element, with_children, first_shown}
use Rattle.sv_nodes.specs.Sound.{IsPart, AreParts, IsProper, IsAmong, Link, IsSound}
use Rattle.sv_nodes.specs.Moves.{Moves}
use Rattle.sv_nodes.specs.declared.shift.Followers.{Followers}
use Rattle.sv_nodes.proofs.Walk.{Within, agree, walk-append, within-left, within-right, fewer-closes}
use Rattle.sv_nodes.proofs.Around.{Around, around}
use Rattle.sv_nodes.proofs.Growing.{some, spot-of, spot-once, among-append, among-left, among-right, among-grown, parts-grown}
use Rattle.sv_nodes.proofs.Shrinking.{parts-cut}
use Rattle.sv_nodes.proofs.Removing.{span-cell}
use Rattle.sv_nodes.proofs.Shifting.{Sides, sides}
use Rattle.sv_nodes.proofs.Shown.{leads-shown}

within-append : (at : Nodes) (n : ℕ) (xs ys : List ℕ) → Within at n xs → Within at n ys → Within at n (xs ++ ys)
within-append at n [] ys left right = right
within-append at n (x ∷ xs) ys left right = (left.0, left.1, left.2, within-append at n xs ys left.3 right)

-- what has a child is an element
holder-of : (w : Kind) (front : List ℕ) (x : ℕ) (back : List ℕ) → IsProper w (front ++ (x ∷ back)) → (e : Element) × (w ≡ element e)
holder-of (element e) front x back proper = (e, refl)
holder-of (text bytes) front x back proper = absurd (no front proper)
  where
    no : (xs : List ℕ) → xs ++ (x ∷ back) ≡ [] → ⊥
    no [] e = cc
    no (y ∷ ys) e = cc
holder-of anchor front x back proper = absurd (no front proper)
  where
    no : (xs : List ℕ) → xs ++ (x ∷ back) ≡ [] → ⊥
    no [] e = cc
    no (y ∷ ys) e = cc

parts-front : (at : Nodes) (parent : Name) (xs ys : List ℕ) → AreParts at parent (xs ++ ys) → AreParts at parent ys
parts-front at parent [] ys parts = parts
parts-front at parent (x ∷ xs) ys parts = parts-front at parent xs ys parts.1

-- one node's tokens, on a level
walk-one : (n : ℕ) (at : Nodes) (k : ℕ) (c : Cell) → at k ≡ Some c → 1 ≤ n → (m : ℕ) × (walk n at (k ∷ []) ≡ start k c ∷ (walk m at c.children ++ finish k c))
unfolding walk
walk-one zero at k c here room = absurd (omega (arith, room))
walk-one (suc m) at k c here room = (m, ap (λ z. node_tokens (walk m at) k z ++ []) here ∙ append-nil (node_tokens (walk m at) k (Some c)))

-- the page with a node elsewhere: its tokens between those around it, and the next siblings that are seen
pub record Relocated (at at' : Nodes) (next key : ℕ) (before : Option ℕ) (followers : Followers) (cell : Cell) : Type 0 where
  pub sound : IsSound at' next
  pub same : at' key ≡ Some cell
  pub tokens : Moved (tokens_of at) (tokens_of at') key cell.parent.key before
  pub pre : List Token
  pub post : List Token
  pub front : List Token
  pub back : List Token
  pub level : ℕ
  pub was : tokens_of at ≡ pre ++ ((start key cell ∷ (walk level at cell.children ++ finish key cell)) ++ post)
  pub others : pre ++ post ≡ front ++ back
  pub is : tokens_of at' ≡ front ++ ((start key cell ∷ (walk level at cell.children ++ finish key cell)) ++ back)
  pub earlier : leads (follows cell.parent.serial followers.earlier) (seen post) ≡ true
  pub later : leads (follows cell.parent.serial followers.later) (seen back) ≡ true

module _ (at at' : Nodes) (next key : ℕ) (before : Option ℕ) (followers : Followers) (sound : IsSound at next) (moves : Moves at at' key before followers) where
  abbrev parent : ℕ
  parent = moves.cell.parent.key

  a : Around at parent
  a = around at next parent sound (sound.stands parent moves.above moves.holder)

  same_cell : moves.above ≡ a.cell
  same_cell = some (sym moves.holder ∙ a.here)

  s : Sides key moves.from moves.to before moves.above.children moves.children
  s = sides key moves.from moves.to before moves.above.children moves.children moves.reorders

  children : a.cell.children ≡ s.pre ++ (key ∷ s.post)
  children = ap (λ c. c.children) (sym same_cell) ∙ s.was

  within : Within at a.level (s.pre ++ (key ∷ s.post))
  within = subst (λ z. Within at a.level z) children a.within

  own_within : Within at a.level (key ∷ s.post)
  own_within = within-right at a.level s.pre (key ∷ s.post) within

  within_others : Within at a.level (s.front ++ s.back)
  within_others = subst (λ z. Within at a.level z) s.others (within-append at a.level s.pre s.post (within-left at a.level s.pre (key ∷ s.post) within) own_within.3)

  within_back : Within at a.level s.back
  within_back = within-right at a.level s.front s.back within_others

  within_new : Within at a.level (s.front ++ (key ∷ s.back))
  within_new = within-append at a.level s.front (key ∷ s.back) (within-left at a.level s.front s.back within_others) (own_within.0, own_within.1, own_within.2, within_back)

  room : 1 ≤ a.level
  room =
      let b = sound.below key own_within.0 own_within.1 in
      let most = sound.bounded in
      omega (arith, own_within.2, b, most)

  abbrev left : List Token
  left = walk a.level at s.pre

  abbrev right : List Token
  right = walk a.level at s.post

  abbrev left' : List Token
  left' = walk a.level at s.front

  abbrev right' : List Token
  right' = walk a.level at s.back

  one : (m : ℕ) × (walk a.level at (key ∷ []) ≡ start key moves.cell ∷ (walk m at moves.cell.children ++ finish key moves.cell))
  one = walk-one a.level at key moves.cell moves.was room

  abbrev own : List Token
  own = start key moves.cell ∷ (walk one.0 at moves.cell.children ++ finish key moves.cell)

  around-own : (xs ys : List ℕ) → walk a.level at (xs ++ (key ∷ ys)) ≡ walk a.level at xs ++ (own ++ walk a.level at ys)
  around-own xs ys = walk-append a.level at xs (key ∷ ys) ∙ (ap (λ z. walk a.level at xs ++ z) (walk-append a.level at (key ∷ []) ys) ∙ ap (λ z. walk a.level at xs ++ (z ++ walk a.level at ys)) one.1)

  inner : walk a.level at a.cell.children ≡ left ++ (own ++ right)
  inner = ap (walk a.level at) children ∙ around-own s.pre s.post

  rest : left ++ right ≡ left' ++ right'
  rest = sym (walk-append a.level at s.pre s.post) ∙ (ap (walk a.level at) s.others ∙ walk-append a.level at s.front s.back)

  -- how often a node begins among the children
  same_times : (k : ℕ) → times (begins k) (walk a.level at (s.front ++ (key ∷ s.back))) ≡ times (begins k) (walk a.level at a.cell.children)
  same_times k =
      let x = ap (times (begins k)) inner ∙ times-append (begins k) left (own ++ right) in
      let y = times-append (begins k) own right in
      let z = ap (times (begins k)) (around-own s.front s.back) ∙ times-append (begins k) left' (own ++ right') in
      let u = times-append (begins k) own right' in
      let v = ap (times (begins k)) rest in
      let w = times-append (begins k) left right in
      let t = times-append (begins k) left' right' in
      omega (arith, x, y, z, u, v, w, t)

  inner' : walk a.level at' moves.children ≡ left' ++ (own ++ right')
  inner' =
      ap (walk a.level at') s.is
      ∙ (agree a.level at at' next sound (s.front ++ (key ∷ s.back)) within_new (λ k inside. moves.others k (a.alone_inside k (let n = same_times k in omega (arith, n, inside))))
      ∙ around-own s.front s.back)

  holder : (e : Element) × (a.cell.kind ≡ element e)
  holder = holder-of a.cell.kind s.pre key s.post (subst (λ z. IsProper a.cell.kind z) children (sound.proper parent a.cell a.here))

  abbrev last : Token
  last = Close (name_of parent a.cell) holder.0.name

  ended : finish parent a.cell ≡ last ∷ []
  ended = ap (ending (name_of parent a.cell)) holder.1

  abbrev first : Token
  first = start parent a.cell

  abbrev before_it : List Token
  before_it = a.pre ++ (first ∷ left)

  abbrev after_it : List Token
  after_it = right ++ (last ∷ a.post)

  abbrev front_it : List Token
  front_it = a.pre ++ (first ∷ left')

  abbrev back_it : List Token
  back_it = right' ++ (last ∷ a.post)

  old : tokens_of at ≡ before_it ++ (own ++ after_it)
  old = a.old ∙ (ap (λ z. a.pre ++ (first ∷ (z ++ (finish parent a.cell ++ a.post)))) inner
      ∙ (ap (λ z. a.pre ++ (first ∷ ((left ++ (own ++ right)) ++ (z ++ a.post)))) ended ∙ (simp append_assoc)))

  grouped : (xs ys : List Token) → (a.pre ++ (first ∷ xs)) ++ (ys ++ (last ∷ a.post)) ≡ a.pre ++ (first ∷ ((xs ++ ys) ++ (last ∷ a.post)))
  grouped xs ys = simp append_assoc

  others : before_it ++ after_it ≡ front_it ++ back_it
  others = grouped left right ∙ (ap (λ z. a.pre ++ (first ∷ (z ++ (last ∷ a.post)))) rest ∙ sym (grouped left' right'))

  now : at' parent ≡ Some (with_children a.cell moves.children)
  now = moves.is ∙ ap (λ c. Some (with_children c moves.children)) same_cell

  new : tokens_of at' ≡ front_it ++ (own ++ back_it)
  new = a.shows at' (λ k outside. moves.others k (a.alone k outside)) ∙ (ap (λ z. a.pre ++ (node_tokens (walk a.level at') parent z ++ a.post)) now
      ∙ (ap (λ z. a.pre ++ ((first ∷ (z ++ finish parent a.cell)) ++ a.post)) inner'
      ∙ (ap (λ z. a.pre ++ ((first ∷ ((left' ++ (own ++ right')) ++ z)) ++ a.post)) ended ∙ (simp append_assoc))))

  here : leads (spot parent before) back_it ≡ true
  here = spot-of at a.level parent before s.back (name_of parent a.cell) holder.0.name a.post refl s.placed within_back room

  tokens : Moved (tokens_of at) (tokens_of at') key parent before
  tokens =
      let ends_key = fewer-closes key levels at (0 ∷ []) in
      let ends_parent = fewer-closes parent levels at (0 ∷ []) in
      let once_key = sound.once key in
      let once_parent = sound.once parent in
      moved (tokens_of at) (tokens_of at') key parent before before_it own after_it front_it back_it once_key (omega (arith, ends_key, once_key))
      (spot-once parent before (tokens_of at) sound.once (omega (arith, ends_parent, once_parent))) (span-cell one.0 at next key moves.cell sound moves.was) here old others new

  -- the children of the parent, as parts of it
  abbrev name : Name
  name = name_of parent a.cell

  parts : AreParts at name (s.pre ++ (key ∷ s.post))
  parts = subst (λ z. AreParts at name z) children (sound.parts parent a.cell a.here)

  parts_others : AreParts at name (s.front ++ s.back)
  parts_others = subst (λ z. AreParts at name z) s.others (parts-cut at name key s.pre s.post parts)

  part : IsPart at name key
  part = (parts-front at name s.pre (key ∷ s.post) parts).0

  named : moves.cell.parent ≡ name
  named = ap (λ (c : Cell). c.parent) (some (sym moves.was ∙ part.at)) ∙ part.above

  apart : key ≢ parent
  apart e =
      let is = ap (λ (c : Cell). c.serial) (some (sym part.at ∙ (ap at e ∙ a.here))) in
      let later = part.later in
      omega (arith, is, later)

  among_now : (x : ℕ) → IsAmong x (s.pre ++ (key ∷ s.post)) → IsAmong x (s.front ++ (key ∷ s.back))
  among_now x among = go (among-append x s.pre (key ∷ s.post) among)
    where
      go : IsAmong x s.pre ⊎ IsAmong x (key ∷ s.post) → IsAmong x (s.front ++ (key ∷ s.back))
      go (inl h) = among-grown x key s.front s.back (subst (λ z. IsAmong x z) s.others (among-left x s.pre s.post h))
      go (inr (inl e)) = among-right x s.front (key ∷ s.back) (inl e)
      go (inr (inr h)) = among-grown x key s.front s.back (subst (λ z. IsAmong x z) s.others (among-right x s.pre s.post h))

  -- what was there is there, with the same children in some order
  record Kept (k : ℕ) (cell : Cell) : Type 0 where
    pub later : Cell
    pub at_k : at' k ≡ Some later
    pub serial_is : later.serial ≡ cell.serial
    pub parent_is : later.parent ≡ cell.parent
    pub kind_is : later.kind ≡ cell.kind
    pub more : (x : ℕ) → IsAmong x cell.children → IsAmong x later.children

  kept : (k : ℕ) (cell : Cell) → at k ≡ Some cell → Kept k cell
  kept k cell there = by (cases_eq k parent)
    where
      by : (k ≡ parent) ⊎ (k ≢ parent) → Kept k cell
      by (inl e) =
          let is : cell ≡ a.cell = some (sym there ∙ (ap at e ∙ a.here)) in
          record {
            later = with_children a.cell moves.children;
            at_k = ap at' e ∙ now;
            serial_is = ap (λ c. c.serial) (sym is);
            parent_is = ap (λ c. c.parent) (sym is);
            kind_is = ap (λ c. c.kind) (sym is);
            more = λ x among. subst (λ z. IsAmong x z) (sym s.is) (among_now x (subst (λ z. IsAmong x z) (ap (λ c. c.children) is ∙ children) among));
          }
      by (inr ne) = record { later = cell; at_k = moves.others k ne ∙ there; serial_is = refl; parent_is = refl; kind_is = refl; more = λ x among. among }

  parts_now : (above : Name) (ks : List ℕ) → AreParts at above ks → AreParts at' above ks
  parts_now above [] parts = tt
  parts_now above (k ∷ ks) parts =
      let later = kept k parts.0.cell parts.0.at in
      (record { cell = later.later; at = later.at_k; above = later.parent_is ∙ parts.0.above; later = omega (arith, later.serial_is, parts.0.later) }, parts_now above ks parts.1)

  record Was (k : ℕ) (cell : Cell) : Type 0 where
    pub earlier_cell : Cell
    pub at_k : at k ≡ Some earlier_cell
    pub serial_is : cell.serial ≡ earlier_cell.serial
    pub parent_is : cell.parent ≡ earlier_cell.parent
    pub kind_is : cell.kind ≡ earlier_cell.kind
    pub parts : AreParts at' (name_of k cell) cell.children
    pub proper : IsProper cell.kind cell.children

  was : (k : ℕ) (cell : Cell) → at' k ≡ Some cell → Was k cell
  was k cell there = by (cases_eq k parent)
    where
      by : (k ≡ parent) ⊎ (k ≢ parent) → Was k cell
      by (inl e) =
          let is : with_children a.cell moves.children ≡ cell = some (sym now ∙ (ap at' (sym e) ∙ there)) in
          let shifted = subst (λ z. AreParts at' name z) (sym s.is) (parts_now name (s.front ++ (key ∷ s.back)) (parts-grown at name key s.front s.back parts_others part)) in
          record {
            earlier_cell = a.cell;
            at_k = ap at e ∙ a.here;
            serial_is = ap (λ c. c.serial) (sym is);
            parent_is = ap (λ c. c.parent) (sym is);
            kind_is = ap (λ c. c.kind) (sym is);
            parts = subst (λ (c : Cell). AreParts at' (name_of k c) c.children) is (subst (λ z. AreParts at' (name_of z a.cell) moves.children) (sym e) shifted);
            proper = subst (λ (c : Cell). IsProper c.kind c.children) is (subst (λ w. IsProper w moves.children) (sym holder.1) tt);
          }
      by (inr ne) =
          let before_that : at k ≡ Some cell = sym (moves.others k ne) ∙ there in
          record {
            earlier_cell = cell;
            at_k = before_that;
            serial_is = refl;
            parent_is = refl;
            kind_is = refl;
            parts = parts_now (name_of k cell) cell.children (sound.parts k cell before_that);
            proper = sound.proper k cell before_that;
          }

  counted : (k : ℕ) → times (begins k) (tokens_of at') ≡ times (begins k) (tokens_of at)
  counted k =
      let x = ap (times (begins k)) old ∙ times-append (begins k) before_it (own ++ after_it) in
      let y = times-append (begins k) own after_it in
      let z = ap (times (begins k)) new ∙ times-append (begins k) front_it (own ++ back_it) in
      let u = times-append (begins k) own back_it in
      let v = ap (times (begins k)) others in
      let w = times-append (begins k) before_it after_it in
      let t = times-append (begins k) front_it back_it in
      omega (arith, x, y, z, u, v, w, t)

  linked_now : (k : ℕ) (cell : Cell) → k ≢ 0 → Was k cell → Link at' cell.parent.key k
  linked_now k cell ne w =
      let link = sound.linked k w.earlier_cell w.at_k ne in
      let later = kept w.earlier_cell.parent.key link.cell link.at in
      subst (λ (z : Name). Link at' z.key k) (sym w.parent_is) (record { cell = later.later; at = later.at_k; among = later.more k link.among })

  sound' : IsSound at' next
  sound' = record {
    root = (let k = kept 0 sound.root.cell sound.root.at in record { cell = k.later; at = k.at_k; first = k.serial_is ∙ sound.root.first; shape = ap is_element k.kind_is ∙ sound.root.shape });
    bounded = sound.bounded;
    below = λ k cell there. (let w = was k cell there in let b = sound.below k w.earlier_cell w.at_k in let v = ap weight w.kind_is in omega (arith, b, v, w.serial_is));
    parts = λ k cell there. (was k cell there).parts;
    proper = λ k cell there. (was k cell there).proper;
    linked = λ k cell there ne. linked_now k cell ne (was k cell there);
    once = λ k. (let n = counted k in let h = sound.once k in omega (arith, n, h));
    stands = λ k cell there. (let w = was k cell there in let n = counted k in let h = sound.stands k w.earlier_cell w.at_k in omega (arith, n, h));
  }

  earlier : leads (follows moves.cell.parent.serial followers.earlier) (seen after_it) ≡ true
  earlier =
      let parts_post = (parts-front at name s.pre (key ∷ s.post) parts).1 in
      let is : followers.earlier ≡ first_shown at s.post = moves.earlier_is ∙ ap (first_shown at) (sym s.post_is) in
      subst (λ (z : Name). leads (follows z.serial followers.earlier) (seen after_it) ≡ true) (sym named)
      (subst (λ z. leads (follows name.serial z) (seen after_it) ≡ true) (sym is) (leads-shown a.level at next name holder.0.name s.post a.post sound parts_post room))

  later : leads (follows moves.cell.parent.serial followers.later) (seen back_it) ≡ true
  later =
      let is : followers.later ≡ first_shown at s.back = moves.later_is ∙ ap (first_shown at) (sym s.back_is) in
      subst (λ (z : Name). leads (follows z.serial followers.later) (seen back_it) ≡ true) (sym named)
      (subst (λ z. leads (follows name.serial z) (seen back_it) ≡ true) (sym is) (leads-shown a.level at next name holder.0.name s.back a.post sound (parts-front at name s.front s.back parts_others) room))

  pub relocated : Relocated at at' next key before followers moves.cell
  relocated = record {
    sound = sound';
    same = moves.others key apart ∙ moves.was;
    tokens = tokens;
    pre = before_it;
    post = after_it;
    front = front_it;
    back = back_it;
    level = one.0;
    was = old;
    others = others;
    is = new;
    earlier = earlier;
    later = later;
  }
