-- A new child is new tokens at its place.
use Rattle.std.proofs.Common.{◌≡◌, ◌≢◌, ◌<◌, ◌≤◌, ◌+◌, ◌==◌, ℕ, List, [], ◌∷◌, ◌++◌, true, false, Option, Some, None, refl, ap, sym, ◌∙◌, arith, drop, ◌⊎◌, inl, inr, subst, append_assoc}
use Rattle.std.proofs.lemmas.Bool.{cases_eq, cases_lt, eq-eqb, ne_eqb}
use Rattle.sv_tokens.specs.Counting.{times, one, Has, leads}
use Rattle.sv_tokens.specs.Token.{Name, Element, Token, Close, begins, closes, opens}
use Rattle.sv_tokens.specs.Edit.{spot, Inserted}
use Rattle.sv_tokens.proofs.Counting.{times-append, has-left, has-right}
use Rattle.sv_tokens.proofs.Splits.{one_place}
use Rattle.sv_nodes.specs.Nodes.{Kind, element, text, anchor, Cell, Nodes, name_of, opening, start, finish, ending, node_tokens, walk, levels, tokens_of, weight, is_element, leaf, with_children}
use Rattle.sv_nodes.specs.Sound.{IsPart, AreParts, IsProper, IsAmong, Link, IsSound}
use Rattle.sv_nodes.specs.Steps.{IsBack, Adds}
use Rattle.sv_nodes.proofs.Walk.{Within, agree, begins-start, begins-finish, walk-nil, walk-append, walk-leaf, walk-first, within-left, within-right, fewer-closes}
use Rattle.sv_nodes.proofs.Around.{Around, around, has-begins, passes_here, opens-narrows}

no : false ≡ true → ⊥
no e = cc

-- only an element opens
pub opens-element : (k : ℕ) (n p : Name) (number : Option ℕ) (w : Kind) → opens k (opening n p number w) ≡ true → (e : Element) × (w ≡ element e)
opens-element k n p number (element e) h = (e, refl)
opens-element k n p number (text bytes) h = absurd (no h)
opens-element k n p number anchor h = absurd (no h)

pub spot-of : (at : Nodes) (n parent : ℕ) (before : Option ℕ) (back : List ℕ) (node : Name) (name : List ℕ) (post : List Token) → node.key ≡ parent → IsBack before back → Within at n back → 1 ≤ n
    → leads (spot parent before) (walk n at back ++ (Close node name ∷ post)) ≡ true
spot-of at n parent None back node name post same place within room =
    rw (place, walk-nil n at) (eq-eqb node.key parent same)
spot-of at n parent (Some x) [] node name post same place within room = absurd place
spot-of at n parent (Some x) (k ∷ ks) node name post same place within room =
    let first = walk-first n at k ks within.0 within.1 room in
    rw first.1 (begins-start x k within.0 ∙ eq-eqb k x place)

-- a place is the only one
pub spot-once : (parent : ℕ) (before : Option ℕ) (ts : List Token) → ((k : ℕ) → times (begins k) ts ≤ 1) → times (closes parent) ts ≤ 1 → times (spot parent before) ts ≤ 1
spot-once parent None ts once close = close
spot-once parent (Some k) ts once close = once k

pub some : {x y : Cell} → Some x ≡ Some y → x ≡ y
some e = cc

pub none_some : {c : Cell} → None ≡ Some c → ⊥
none_some e = cc

pub among-append : (x : ℕ) (xs ys : List ℕ) → IsAmong x (xs ++ ys) → IsAmong x xs ⊎ IsAmong x ys
among-append x [] ys among = inr among
among-append x (k ∷ xs) ys (inl e) = inl (inl e)
among-append x (k ∷ xs) ys (inr later) = go (among-append x xs ys later)
  where
    go : IsAmong x xs ⊎ IsAmong x ys → IsAmong x (k ∷ xs) ⊎ IsAmong x ys
    go (inl h) = inl (inr h)
    go (inr h) = inr h

pub among-left : (x : ℕ) (xs ys : List ℕ) → IsAmong x xs → IsAmong x (xs ++ ys)
among-left x [] ys among = absurd among
among-left x (k ∷ xs) ys (inl e) = inl e
among-left x (k ∷ xs) ys (inr later) = inr (among-left x xs ys later)

pub among-right : (x : ℕ) (xs ys : List ℕ) → IsAmong x ys → IsAmong x (xs ++ ys)
among-right x [] ys among = among
among-right x (k ∷ xs) ys among = inr (among-right x xs ys among)

pub among-grown : (x key : ℕ) (front back : List ℕ) → IsAmong x (front ++ back) → IsAmong x (front ++ (key ∷ back))
among-grown x key front back among = go (among-append x front back among)
  where
    go : IsAmong x front ⊎ IsAmong x back → IsAmong x (front ++ (key ∷ back))
    go (inl h) = among-left x front (key ∷ back) h
    go (inr h) = among-right x front (key ∷ back) (inr h)

pub parts-grown : (at : Nodes) (parent : Name) (key : ℕ) (front back : List ℕ) → AreParts at parent (front ++ back) → IsPart at parent key → AreParts at parent (front ++ (key ∷ back))
parts-grown at parent key [] back parts part = (part, parts)
parts-grown at parent key (k ∷ front) back parts part = (parts.0, parts-grown at parent key front back parts.1 part)

no_children : (w : Kind) → IsProper w []
no_children (element e) = tt
no_children (text bytes) = refl
no_children anchor = refl

-- the page with a node more: where it was made, with what follows the place
pub record Grown (at at' : Nodes) (next parent key : ℕ) (before : Option ℕ) (kind : Kind) (above : Cell) (back : List ℕ) : Type 0 where
  pub sound : IsSound at' (next + weight kind)
  pub level : ℕ
  pub room : 1 ≤ level
  pub e : Element
  pub shape : above.kind ≡ element e
  pub pre : List Token
  pub post : List Token
  pub was : tokens_of at ≡ pre ++ (walk level at back ++ (Close (name_of parent above) e.name ∷ post))
  pub tokens : Inserted (tokens_of at) (tokens_of at') parent before (start key (leaf next (name_of parent above) kind) ∷ finish key (leaf next (name_of parent above) kind))
  pub is : tokens_of at' ≡ pre ++ ((start key (leaf next (name_of parent above) kind) ∷ finish key (leaf next (name_of parent above) kind)) ++ (walk level at back ++ (Close (name_of parent above) e.name ∷ post)))
  pub begun : (k : ℕ) → times (begins k) (tokens_of at') ≡ times (begins k) (tokens_of at) + one (key == k)

module _ (at at' : Nodes) (next parent key : ℕ) (before : Option ℕ) (kind : Kind) (sound : IsSound at next) (has : Has (opens parent) (tokens_of at))
    (fits : next + weight kind < levels) (place : ℕ) (adds : Adds at at' parent key place next kind) (placed : IsBack before (drop place adds.cell.children)) where
  a : Around at parent
  a = around at next parent sound (has-begins parent (opens parent) (tokens_of at) (opens-narrows parent) has)

  holder : (e : Element) × (a.cell.kind ≡ element e)
  holder = opens-element parent (name_of parent a.cell) a.cell.parent a.cell.number a.cell.kind (passes_here at next parent (opens parent) sound (opens-narrows parent) a has)

  earlier : a.cell.serial + 1 ≤ next
  earlier = let b = sound.below parent a.cell a.here in let w = ap weight holder.1 in omega (arith, b, w)

  room : 1 ≤ a.level
  room = let d = a.deep in let b = sound.bounded in let e = earlier in omega (arith, d, b, e)

  same_cell : adds.cell ≡ a.cell
  same_cell = some (sym adds.was ∙ a.here)

  live_apart : (k : ℕ) → Has (begins k) (tokens_of at) → k ≢ key
  live_apart k stands e = none_some (sym adds.vacant ∙ (ap at (sym e) ∙ (around at next k sound stands).here))

  alike_out : (k : ℕ) → Has (begins k) (a.pre ++ a.post) → at' k ≡ at k
  alike_out k outside = adds.others k (live_apart k (let n = a.counts k in omega (arith, n, outside))) (a.alone k outside)

  alike_in : (k : ℕ) → Has (begins k) (walk a.level at a.cell.children) → at' k ≡ at k
  alike_in k inside = adds.others k (live_apart k (let n = a.counts k in omega (arith, n, inside))) (a.alone_inside k inside)

  abbrev front : List ℕ
  front = adds.grows.front

  abbrev back : List ℕ
  back = adds.grows.back

  children : a.cell.children ≡ front ++ back
  children = ap (λ c. c.children) (sym same_cell) ∙ adds.grows.was

  abbrev left : List Token
  left = walk a.level at front

  abbrev right : List Token
  right = walk a.level at back

  inner : walk a.level at a.cell.children ≡ left ++ right
  inner = ap (walk a.level at) children ∙ walk-append a.level at front back

  within : Within at a.level (front ++ back)
  within = subst (λ z. Within at a.level z) children a.within

  left' : walk a.level at' front ≡ left
  left' = agree a.level at at' next sound front (within-left at a.level front back within) (λ k h. alike_in k (subst (λ z. Has (begins k) z) (sym inner) (has-left (begins k) left right h)))

  right' : walk a.level at' back ≡ right
  right' = agree a.level at at' next sound back (within-right at a.level front back within) (λ k h. alike_in k (subst (λ z. Has (begins k) z) (sym inner) (has-right (begins k) left right h)))

  abbrev new_cell : Cell
  new_cell = leaf next (name_of parent a.cell) kind

  made_is : at' key ≡ Some new_cell
  made_is = adds.made ∙ ap (λ c. Some (leaf next (name_of parent c) kind)) same_cell

  abbrev own : List Token
  own = start key new_cell ∷ finish key new_cell

  inner' : walk a.level at' adds.grown ≡ left ++ (own ++ right)
  inner' =
      ap (walk a.level at') adds.grows.now ∙ (walk-append a.level at' front (key ∷ back)
      ∙ (ap (λ z. z ++ walk a.level at' (key ∷ back)) left' ∙ ap (λ z. left ++ z) (walk-append a.level at' (key ∷ []) back
      ∙ (ap (λ z. z ++ walk a.level at' back) (walk-leaf a.level at' key new_cell made_is refl room) ∙ ap (λ z. own ++ z) right'))))

  abbrev first : Token
  first = start parent a.cell

  abbrev before_it : List Token
  before_it = a.pre ++ (first ∷ left)

  abbrev after_it : List Token
  after_it = right ++ (Close (name_of parent a.cell) holder.0.name ∷ a.post)

  ended : finish parent a.cell ≡ Close (name_of parent a.cell) holder.0.name ∷ []
  ended = ap (ending (name_of parent a.cell)) holder.1

  old : tokens_of at ≡ before_it ++ after_it
  old = a.old ∙ (ap (λ z. a.pre ++ (first ∷ (z ++ (finish parent a.cell ++ a.post)))) inner
      ∙ (ap (λ z. a.pre ++ (first ∷ ((left ++ right) ++ (z ++ a.post)))) ended ∙ (simp append_assoc)))

  now : at' parent ≡ Some (with_children a.cell adds.grown)
  now = adds.is ∙ ap (λ c. Some (with_children c adds.grown)) same_cell

  new : tokens_of at' ≡ before_it ++ (own ++ after_it)
  new = a.shows at' alike_out ∙ (ap (λ z. a.pre ++ (node_tokens (walk a.level at') parent z ++ a.post)) now
      ∙ (ap (λ z. a.pre ++ ((first ∷ (z ++ finish parent a.cell)) ++ a.post)) inner'
      ∙ (ap (λ z. a.pre ++ ((first ∷ ((left ++ (own ++ right)) ++ z)) ++ a.post)) ended ∙ (simp append_assoc))))

  here : leads (spot parent before) after_it ≡ true
  here = spot-of at a.level parent before back (name_of parent a.cell) holder.0.name a.post refl (subst (λ z. IsBack before z) (sym adds.grows.from) placed) (within-right at a.level front back within) room

  inserted : (pre post : List Token) → leads (spot parent before) post ≡ true → tokens_of at ≡ pre ++ post → tokens_of at' ≡ pre ++ (own ++ post)
  inserted pre post there e =
      let close = fewer-closes parent levels at (0 ∷ []) in
      let once = sound.once parent in
      let alone : times (spot parent before) (tokens_of at) ≤ 1 = spot-once parent before (tokens_of at) sound.once (omega (arith, close, once)) in
      let s = one_place (spot parent before) before_it after_it pre post (subst (λ z. times (spot parent before) z ≤ 1) old alone) here there (sym old ∙ e) in
      new ∙ (λ i. (s.front i ++ (own ++ s.back i)))

  -- what was there is there, with the same serial number and at least the same children
  record Kept (k : ℕ) (cell : Cell) : Type 0 where
    pub later : Cell
    pub at_k : at' k ≡ Some later
    pub serial_is : later.serial ≡ cell.serial
    pub parent_is : later.parent ≡ cell.parent
    pub kind_is : later.kind ≡ cell.kind
    pub more : (x : ℕ) → IsAmong x cell.children → IsAmong x later.children

  kept : (k : ℕ) (cell : Cell) → at k ≡ Some cell → Kept k cell
  kept k cell here = by (cases_eq k parent) (cases_eq k key)
    where
      by : (k ≡ parent) ⊎ (k ≢ parent) → (k ≡ key) ⊎ (k ≢ key) → Kept k cell
      by (inl e) cases =
          let is : cell ≡ a.cell = some (sym here ∙ (ap at e ∙ a.here)) in
          record {
            later = with_children a.cell adds.grown;
            at_k = ap at' e ∙ now;
            serial_is = ap (λ c. c.serial) (sym is);
            parent_is = ap (λ c. c.parent) (sym is);
            kind_is = ap (λ c. c.kind) (sym is);
            more = λ x among. subst (λ z. IsAmong x z) (sym adds.grows.now) (among-grown x key front back (subst (λ z. IsAmong x z) (ap (λ c. c.children) is ∙ children) among));
          }
      by (inr ne) (inl e) = absurd (none_some (sym adds.vacant ∙ (ap at (sym e) ∙ here)))
      by (inr ne) (inr other) = record { later = cell; at_k = adds.others k other ne ∙ here; serial_is = refl; parent_is = refl; kind_is = refl; more = λ x among. among }

  -- what is there now was there, or is new
  record Was (k : ℕ) (cell : Cell) : Type 0 where
    pub earlier_cell : Cell
    pub at_k : at k ≡ Some earlier_cell
    pub serial_is : cell.serial ≡ earlier_cell.serial
    pub parent_is : cell.parent ≡ earlier_cell.parent
    pub kind_is : cell.kind ≡ earlier_cell.kind
    pub parts : AreParts at' (name_of k cell) cell.children
    pub proper : IsProper cell.kind cell.children

  parts_now : (above : Name) (ks : List ℕ) → AreParts at above ks → AreParts at' above ks
  parts_now above [] parts = tt
  parts_now above (k ∷ ks) parts =
      let later = kept k parts.0.cell parts.0.at in
      (record { cell = later.later; at = later.at_k; above = later.parent_is ∙ parts.0.above; later = omega (arith, later.serial_is, parts.0.later) }, parts_now above ks parts.1)

  new_part : IsPart at' (name_of parent a.cell) key
  new_part = let e = earlier in record { cell = new_cell; at = made_is; above = refl; later = omega (arith, e) }

  was : (k : ℕ) (cell : Cell) → at' k ≡ Some cell → ((k ≡ key) × (new_cell ≡ cell)) ⊎ Was k cell
  was k cell here = by (cases_eq k key) (cases_eq k parent)
    where
      by : (k ≡ key) ⊎ (k ≢ key) → (k ≡ parent) ⊎ (k ≢ parent) → ((k ≡ key) × (new_cell ≡ cell)) ⊎ Was k cell
      by (inl e) cases = inl (e, some (sym made_is ∙ (ap at' (sym e) ∙ here)))
      by (inr ne) (inl e) =
          let is : with_children a.cell adds.grown ≡ cell = some (sym now ∙ (ap at' (sym e) ∙ here)) in
          let olds = subst (λ z. AreParts at' (name_of parent a.cell) z) children (parts_now (name_of parent a.cell) a.cell.children (sound.parts parent a.cell a.here)) in
          let grown = subst (λ z. AreParts at' (name_of parent a.cell) z) (sym adds.grows.now) (parts-grown at' (name_of parent a.cell) key front back olds new_part) in
          inr (record {
            earlier_cell = a.cell;
            at_k = ap at e ∙ a.here;
            serial_is = ap (λ c. c.serial) (sym is);
            parent_is = ap (λ c. c.parent) (sym is);
            kind_is = ap (λ c. c.kind) (sym is);
            parts = subst (λ (c : Cell). AreParts at' (name_of k c) c.children) is (subst (λ z. AreParts at' (name_of z a.cell) adds.grown) (sym e) grown);
            proper = subst (λ (c : Cell). IsProper c.kind c.children) is (subst (λ w. IsProper w adds.grown) (sym holder.1) tt);
          })
      by (inr ne) (inr other) =
          let before_that : at k ≡ Some cell = sym (adds.others k ne other) ∙ here in
          inr (record {
            earlier_cell = cell;
            at_k = before_that;
            serial_is = refl;
            parent_is = refl;
            kind_is = refl;
            parts = parts_now (name_of k cell) cell.children (sound.parts k cell before_that);
            proper = sound.proper k cell before_that;
          })

  below_now : (k : ℕ) (cell : Cell) → ((k ≡ key) × (new_cell ≡ cell)) ⊎ Was k cell → cell.serial + weight cell.kind ≤ next + weight kind
  below_now k cell (inl e) = (let s = ap (λ c. c.serial) e.1 in let w = ap (λ c. weight c.kind) e.1 in omega (arith, s, w))
  below_now k cell (inr w) = (let b = sound.below k w.earlier_cell w.at_k in let v = ap weight w.kind_is in omega (arith, b, v, w.serial_is))

  parts_of : (k : ℕ) (cell : Cell) → ((k ≡ key) × (new_cell ≡ cell)) ⊎ Was k cell → AreParts at' (name_of k cell) cell.children
  parts_of k cell (inl e) = subst (λ (c : Cell). AreParts at' (name_of k c) c.children) e.1 tt
  parts_of k cell (inr w) = w.parts

  proper_now : (k : ℕ) (cell : Cell) → ((k ≡ key) × (new_cell ≡ cell)) ⊎ Was k cell → IsProper cell.kind cell.children
  proper_now k cell (inl e) = subst (λ (c : Cell). IsProper c.kind c.children) e.1 (no_children kind)
  proper_now k cell (inr w) = w.proper

  linked_now : (k : ℕ) (cell : Cell) → k ≢ 0 → ((k ≡ key) × (new_cell ≡ cell)) ⊎ Was k cell → Link at' cell.parent.key k
  linked_now k cell ne (inl e) =
      let link : Link at' parent key = record { cell = with_children a.cell adds.grown; at = now; among = subst (λ z. IsAmong key z) (sym adds.grows.now) (among-right key front (key ∷ back) (inl refl)) } in
      subst (λ z. Link at' z k) (ap (λ c. c.parent.key) e.1) (subst (λ z. Link at' parent z) (sym e.0) link)
  linked_now k cell ne (inr w) =
      let link = sound.linked k w.earlier_cell w.at_k ne in
      let later = kept w.earlier_cell.parent.key link.cell link.at in
      subst (λ (z : Name). Link at' z.key k) (sym w.parent_is) (record { cell = later.later; at = later.at_k; among = later.more k link.among })

  counted : (k : ℕ) → times (begins k) (tokens_of at') ≡ times (begins k) (tokens_of at) + one (key == k)
  counted k =
      let x = ap (times (begins k)) new ∙ times-append (begins k) before_it (own ++ after_it) in
      let y = ap (times (begins k)) old ∙ times-append (begins k) before_it after_it in
      let z = times-append (begins k) (finish key new_cell) after_it in
      let e = begins-finish k key new_cell in
      let f = ap one (begins-start k key new_cell) in
      omega (arith, x, y, z, e, f)

  stands_now : (k : ℕ) (cell : Cell) → ((k ≡ key) × (new_cell ≡ cell)) ⊎ Was k cell → Has (begins k) (tokens_of at')
  stands_now k cell (inl e) = (let n = counted k in let w = ap one (eq-eqb key k (sym e.0)) in omega (arith, n, w))
  stands_now k cell (inr w) = (let n = counted k in let h = sound.stands k w.earlier_cell w.at_k in omega (arith, n, h))

  once_now : (k : ℕ) → times (begins k) (tokens_of at') ≤ 1
  once_now k = by (cases_eq key k) (counted k)
    where
      by : (key ≡ k) ⊎ (key ≢ k) → times (begins k) (tokens_of at') ≡ times (begins k) (tokens_of at) + one (key == k) → times (begins k) (tokens_of at') ≤ 1
      by (inl e) n = go (cases_lt 0 (times (begins k) (tokens_of at)))
        where
          go : (0 < times (begins k) (tokens_of at)) ⊎ (times (begins k) (tokens_of at) ≤ 0) → times (begins k) (tokens_of at') ≤ 1
          go (inl stands) = absurd (live_apart k stands (sym e))
          go (inr none) = (let w = ap one (eq-eqb key k e) in omega (arith, n, none, w))
      by (inr ne) n = (let w = ap one (ne_eqb key k ne) in let h = sound.once k in omega (arith, n, h, w))

  pub grown : Grown at at' next parent key before kind adds.cell (drop place adds.cell.children)
  grown = subst (λ z. Grown at at' next parent key before kind adds.cell z) adds.grows.from (subst (λ (c : Cell). Grown at at' next parent key before kind c adds.grows.back) (sym same_cell) (record {
    sound = record {
      root = (let k = kept 0 sound.root.cell sound.root.at in record { cell = k.later; at = k.at_k; first = k.serial_is ∙ sound.root.first; shape = ap is_element k.kind_is ∙ sound.root.shape });
      bounded = fits;
      below = λ k cell here. below_now k cell (was k cell here);
      parts = λ k cell here. parts_of k cell (was k cell here);
      proper = λ k cell here. proper_now k cell (was k cell here);
      linked = λ k cell here ne. linked_now k cell ne (was k cell here);
      stands = λ k cell here. stands_now k cell (was k cell here);
      once = once_now;
    };
    level = a.level;
    room = room;
    e = holder.0;
    shape = holder.1;
    pre = before_it;
    post = a.post;
    was = old;
    tokens = record { pre = before_it; post = after_it; here = here; was = old; is = new; only = inserted };
    is = new;
    begun = counted;
  }))
