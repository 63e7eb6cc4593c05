-- A node with no children is taken away.
use Rattle.std.proofs.Common.{◌≡◌, ◌≢◌, ◌≤◌, ◌+◌, ◌==◌, ℕ, List, [], ◌∷◌, ◌++◌, true, Option, Some, refl, ap, sym, ◌∙◌, arith, ◌⊎◌, inl, inr, subst, append_assoc}
use Rattle.std.proofs.lemmas.Bool.{cases_eq, eq-eqb, ne_eqb}
use Rattle.sv_tokens.specs.Counting.{times, one, Has}
use Rattle.sv_tokens.specs.Token.{Name, named, Element, Token, Open, Text, Anchor, Close, begins, closes, IsSpan, one_text, one_anchor, whole}
use Rattle.sv_tokens.proofs.Counting.{times-append, has-right, has-here}
use Rattle.sv_tokens.proofs.Splits.{unique}
use Rattle.sv_nodes.specs.Nodes.{Kind, element, text, anchor, Cell, Nodes, name_of, opening, ending, start, finish, node_tokens, walk, levels, tokens_of, weight, is_element, with_children}
use Rattle.sv_nodes.specs.Sound.{IsPart, AreParts, IsProper, IsAmong, Link, IsSound}
use Rattle.sv_nodes.specs.Steps.{Drops}
use Rattle.sv_nodes.proofs.Walk.{Within, agree, begins-own, begins-start, begins-finish, walk-append, walk-leaf, walk-first, within-left, within-right, fewer-closes}
use Rattle.sv_nodes.proofs.Around.{Around, around}
use Rattle.sv_nodes.proofs.Growing.{some, none_some, among-append, among-left, among-right}

-- a node of the list stands among the tokens
among-stands : (at : Nodes) (n x : ℕ) (ks : List ℕ) → 1 ≤ n → Within at n ks → IsAmong x ks → Has (begins x) (walk n at ks)
among-stands at n x [] room within among = absurd among
among-stands at n x (k ∷ ks) room within (inl e) =
    let first = walk-first n at k ks within.0 within.1 room in
    subst (λ z. Has (begins x) z) (sym first.1) (has-here (begins x) _ first.0 (begins-start x k within.0 ∙ eq-eqb k x e))
among-stands at n x (k ∷ ks) room within (inr later) =
    let split : walk n at (k ∷ ks) ≡ walk n at (k ∷ []) ++ walk n at ks = walk-append n at (k ∷ []) ks in
    subst (λ z. Has (begins x) z) (sym split) (has-right (begins x) (walk n at (k ∷ [])) (walk n at ks) (among-stands at n x ks room within.3 later))

pub part-among : (at : Nodes) (parent : Name) (x : ℕ) (ks : List ℕ) → AreParts at parent ks → IsAmong x ks → IsPart at parent x
part-among at parent x [] parts among = absurd among
part-among at parent x (k ∷ ks) parts (inl e) = subst (λ z. IsPart at parent z) e parts.0
part-among at parent x (k ∷ ks) parts (inr later) = part-among at parent x ks parts.1 later

pub parts-cut : (at : Nodes) (parent : Name) (key : ℕ) (front back : List ℕ) → AreParts at parent (front ++ (key ∷ back)) → AreParts at parent (front ++ back)
parts-cut at parent key [] back parts = parts.1
parts-cut at parent key (k ∷ front) back parts = (parts.0, parts-cut at parent key front back parts.1)

pub among-cut : (x key : ℕ) (front back : List ℕ) → x ≢ key → IsAmong x (front ++ (key ∷ back)) → IsAmong x (front ++ back)
among-cut x key front back ne among = go (among-append x front (key ∷ back) among)
  where
    go : IsAmong x front ⊎ IsAmong x (key ∷ back) → IsAmong x (front ++ back)
    go (inl h) = among-left x front back h
    go (inr (inl e)) = absurd (ne (sym e))
    go (inr (inr h)) = among-right x front back h

-- the tokens of a node with no children are its own
span-bare : (key : ℕ) (node p : Name) (number : Option ℕ) (w : Kind) (rest own post : List Token) → node.key ≡ key → times (closes key) (opening node p number w ∷ (ending node w ++ rest)) ≤ 1 → IsSpan key own
    → opening node p number w ∷ (ending node w ++ rest) ≡ own ++ post → rest ≡ post
span-bare key node p number (element e) rest own post same once (whole k s q n f inner end) h =
    let tail : Close node e.name ∷ rest ≡ (inner ++ (Close (named key s) end ∷ [])) ++ post = tail_of h in
    (unique (closes key) [] rest inner post (Close node e.name) (Close (named key s) end) (omega (arith, once)) (eq-eqb node.key key same) (eq-eqb key key refl) (tail ∙ append_assoc inner (Close (named key s) end ∷ []) post)).back
  where
    tail_of : {x y : Token} {xs ys : List Token} → x ∷ xs ≡ y ∷ ys → xs ≡ ys
    tail_of e = cc
span-bare key node p number (element e) rest own post same once (one_text k s q n b) h = absurd (no h)
  where
    no : {n p m q : Name} {i j : Option ℕ} {e : Element} {bytes : List ℕ} {xs ys : List Token} → Open n p i e ∷ xs ≡ Text m q j bytes ∷ ys → ⊥
    no e = cc
span-bare key node p number (element e) rest own post same once (one_anchor k q) h = absurd (no h)
  where
    no : {n p q : Name} {k : ℕ} {i : Option ℕ} {e : Element} {xs ys : List Token} → Open n p i e ∷ xs ≡ Anchor k q ∷ ys → ⊥
    no e = cc
span-bare key node p number (text bytes) rest own post same once (one_text k s q n b) h = tail_of h
  where
    tail_of : {x y : Token} {xs ys : List Token} → x ∷ xs ≡ y ∷ ys → xs ≡ ys
    tail_of e = cc
span-bare key node p number (text bytes) rest own post same once (one_anchor k q) h = absurd (no h)
  where
    no : {n p q : Name} {k : ℕ} {i : Option ℕ} {bytes : List ℕ} {xs ys : List Token} → Text n p i bytes ∷ xs ≡ Anchor k q ∷ ys → ⊥
    no e = cc
span-bare key node p number (text bytes) rest own post same once (whole k s q n f inner end) h = absurd (no h)
  where
    no : {n p m q : Name} {i j : Option ℕ} {e : Element} {bytes : List ℕ} {xs ys : List Token} → Text m q j bytes ∷ ys ≡ Open n p i e ∷ xs → ⊥
    no e = cc
span-bare key node p number anchor rest own post same once (one_anchor k q) h = tail_of h
  where
    tail_of : {x y : Token} {xs ys : List Token} → x ∷ xs ≡ y ∷ ys → xs ≡ ys
    tail_of e = cc
span-bare key node p number anchor rest own post same once (one_text k s q n b) h = absurd (no h)
  where
    no : {n p q : Name} {k : ℕ} {i : Option ℕ} {bytes : List ℕ} {xs ys : List Token} → Anchor k q ∷ ys ≡ Text n p i bytes ∷ xs → ⊥
    no e = cc
span-bare key node p number anchor rest own post same once (whole k s q n f inner end) h = absurd (no h)
  where
    no : {n p q : Name} {k : ℕ} {i : Option ℕ} {e : Element} {xs ys : List Token} → Anchor k q ∷ ys ≡ Open n p i e ∷ xs → ⊥
    no e = cc

pub record Shrunk (at at' : Nodes) (next key : ℕ) : Type 0 where
  pub sound : IsSound at' next
  pub tokens : (pre own post : List Token) → IsSpan key own → tokens_of at ≡ pre ++ (own ++ post) → tokens_of at' ≡ pre ++ post

module _ (at at' : Nodes) (next key : ℕ) (sound : IsSound at next) (not_page : key ≢ 0) (drops : Drops at at' key) where
  abbrev parent : ℕ
  parent = drops.cell.parent.key

  a : Around at parent
  a = around at next parent sound (sound.stands parent drops.above drops.holder)

  same_cell : drops.above ≡ a.cell
  same_cell = some (sym drops.holder ∙ a.here)

  abbrev front : List ℕ
  front = drops.front

  abbrev back : List ℕ
  back = drops.back

  children : a.cell.children ≡ front ++ (key ∷ back)
  children = ap (λ c. c.children) (sym same_cell) ∙ drops.children

  within : Within at a.level (front ++ (key ∷ back))
  within = subst (λ z. Within at a.level z) children a.within

  room : 1 ≤ a.level
  room =
      let own = within-right at a.level front (key ∷ back) within in
      let b = sound.below key own.0 own.1 in
      let most = sound.bounded in
      omega (arith, own.2, b, most)

  abbrev left : List Token
  left = walk a.level at front

  abbrev right : List Token
  right = walk a.level at back

  abbrev own : List Token
  own = start key drops.cell ∷ finish key drops.cell

  inner : walk a.level at a.cell.children ≡ left ++ (own ++ right)
  inner =
      ap (walk a.level at) children ∙ (walk-append a.level at front (key ∷ back) ∙ ap (λ z. left ++ z) (walk-append a.level at (key ∷ []) back
      ∙ ap (λ z. z ++ right) (walk-leaf a.level at key drops.cell drops.was drops.bare room)))

  -- how often a node begins, part by part
  parts_count : (k : ℕ) → times (begins k) (walk a.level at a.cell.children) ≡ times (begins k) left + (one (key == k) + times (begins k) right)
  parts_count k =
      let x = ap (times (begins k)) inner ∙ times-append (begins k) left (own ++ right) in
      let z = times-append (begins k) (finish key drops.cell) right in
      let e = begins-finish k key drops.cell in
      let f = ap one (begins-start k key drops.cell) in
      omega (arith, x, z, e, f)

  alone : (k : ℕ) → 1 ≤ times (begins k) (a.pre ++ a.post) + (times (begins k) left + times (begins k) right) → k ≢ key
  alone k has e =
      let n = a.counts k in
      let m = parts_count k in
      let w = ap one (eq-eqb key k (sym e)) in
      let h = sound.once k in
      omega (arith, n, m, w, h, has)

  alike_out : (k : ℕ) → Has (begins k) (a.pre ++ a.post) → at' k ≡ at k
  alike_out k outside = drops.others k (alone k (omega (arith, outside))) (a.alone k outside)

  alike_in : (k : ℕ) → 1 ≤ times (begins k) left + times (begins k) right → at' k ≡ at k
  alike_in k inside = drops.others k (alone k (omega (arith, inside))) (a.alone_inside k (let m = parts_count k in omega (arith, m, inside)))

  left' : walk a.level at' front ≡ left
  left' = agree a.level at at' next sound front (within-left at a.level front (key ∷ back) within) (λ k h. alike_in k (omega (arith, h)))

  right' : walk a.level at' back ≡ right
  right' = agree a.level at at' next sound back (within-right at a.level front (key ∷ back) within).3 (λ k h. alike_in k (omega (arith, h)))

  abbrev first : Token
  first = start parent a.cell

  abbrev before_it : List Token
  before_it = a.pre ++ (first ∷ left)

  abbrev after_it : List Token
  after_it = right ++ (finish parent a.cell ++ a.post)

  old : tokens_of at ≡ before_it ++ (own ++ after_it)
  old = a.old ∙ (ap (λ z. a.pre ++ (first ∷ (z ++ (finish parent a.cell ++ a.post)))) inner ∙ (simp append_assoc))

  now : at' parent ≡ Some (with_children a.cell (front ++ back))
  now = drops.now ∙ ap (λ c. Some (with_children c (front ++ back))) same_cell

  new : tokens_of at' ≡ before_it ++ after_it
  new = a.shows at' alike_out ∙ (ap (λ z. a.pre ++ (node_tokens (walk a.level at') parent z ++ a.post)) now
      ∙ (ap (λ z. a.pre ++ ((first ∷ (z ++ finish parent a.cell)) ++ a.post)) (walk-append a.level at' front back)
      ∙ (ap (λ z. a.pre ++ ((first ∷ ((z ++ walk a.level at' back) ++ finish parent a.cell)) ++ a.post)) left'
      ∙ (ap (λ z. a.pre ++ ((first ∷ ((left ++ z) ++ finish parent a.cell)) ++ a.post)) right' ∙ (simp append_assoc)))))

  removed : (pre own post : List Token) → IsSpan key own → tokens_of at ≡ pre ++ (own ++ post) → tokens_of at' ≡ pre ++ post
  removed pre other post span e =
      let both : before_it ++ (own ++ after_it) ≡ pre ++ (other ++ post) = sym old ∙ e in
      let s = split pre other post span both in
      new ∙ (λ i. (s.0 i ++ s.1 i))
    where
      split : (pre other post : List Token) → IsSpan key other → before_it ++ (own ++ after_it) ≡ pre ++ (other ++ post) → (before_it ≡ pre) × (after_it ≡ post)
      split pre other post span e = by other span e
        where
          close : times (closes key) (own ++ after_it) ≤ 1
          close =
              let c = fewer-closes key levels at (0 ∷ []) in
              let h = sound.once key in
              let x = ap (times (closes key)) old ∙ times-append (closes key) before_it (own ++ after_it) in
              omega (arith, c, h, x)

          once : times (begins key) (before_it ++ (own ++ after_it)) ≤ 1
          once = subst (λ z. times (begins key) z ≤ 1) old (sound.once key)

          done : (y : Token) (ys : List Token) → IsSpan key (y ∷ ys) → begins key y ≡ true → before_it ++ (own ++ after_it) ≡ pre ++ (y ∷ (ys ++ post)) → (before_it ≡ pre) × (after_it ≡ post)
          done y ys span starts e =
              let s = unique (begins key) before_it (finish key drops.cell ++ after_it) pre (ys ++ post) (start key drops.cell) y once (begins-own key drops.cell) starts e in
              (s.front, span-bare key (name_of key drops.cell) drops.cell.parent drops.cell.number drops.cell.kind after_it (y ∷ ys) post refl close span (λ i. (s.here i ∷ s.back i)))

          by : (other : List Token) → IsSpan key other → before_it ++ (own ++ after_it) ≡ pre ++ (other ++ post) → (before_it ≡ pre) × (after_it ≡ post)
          by other (one_text k s p n b) e = done (Text (named key s) p n b) [] (one_text key s p n b) (eq-eqb key key refl) e
          by other (one_anchor k p) e = done (Anchor key p) [] (one_anchor key p) (eq-eqb key key refl) e
          by other (whole k s p n f inside end) e = done (Open (named key s) p n f) (inside ++ (Close (named key s) end ∷ [])) (whole key s p n f inside end) (eq-eqb key key refl) e

  -- what was there is there, but the node
  record Kept (k : ℕ) (cell : Cell) : Type 0 where
    pub later : Cell
    pub at_k : at' k ≡ Some later
    pub serial_is : later.serial ≡ cell.serial
    pub parent_is : later.parent ≡ cell.parent
    pub kind_is : later.kind ≡ cell.kind
    pub more : (x : ℕ) → x ≢ key → IsAmong x cell.children → IsAmong x later.children

  kept : (k : ℕ) (cell : Cell) → k ≢ key → at k ≡ Some cell → Kept k cell
  kept k cell ne here = by (cases_eq k parent)
    where
      by : (k ≡ parent) ⊎ (k ≢ parent) → Kept k cell
      by (inl e) =
          let is : cell ≡ a.cell = some (sym here ∙ (ap at e ∙ a.here)) in
          record {
            later = with_children a.cell (front ++ back);
            at_k = ap at' e ∙ now;
            serial_is = ap (λ c. c.serial) (sym is);
            parent_is = ap (λ c. c.parent) (sym is);
            kind_is = ap (λ c. c.kind) (sym is);
            more = λ x other among. among-cut x key front back other (subst (λ z. IsAmong x z) (ap (λ c. c.children) is ∙ children) among);
          }
      by (inr other) = record { later = cell; at_k = drops.others k ne other ∙ here; serial_is = refl; parent_is = refl; kind_is = refl; more = λ x apart among. among }

  parts_now : (above : Name) (ks : List ℕ) → AreParts at above ks → (IsAmong key ks → ⊥) → AreParts at' above ks
  parts_now above [] parts apart = tt
  parts_now above (k ∷ ks) parts apart =
      let later = kept k parts.0.cell (λ e. apart (inl e)) parts.0.at in (
        record { cell = later.later; at = later.at_k; above = later.parent_is ∙ parts.0.above; later = omega (arith, later.serial_is, parts.0.later) },
        parts_now above ks parts.1 (λ among. apart (inr among)),
      )

  -- the node is no child twice
  apart_here : IsAmong key (front ++ back) → ⊥
  apart_here among = go (among-append key front back among)
    where
      go : IsAmong key front ⊎ IsAmong key back → ⊥
      go (inl h) = alone key (let s = among-stands at a.level key front room (within-left at a.level front (key ∷ back) within) h in omega (arith, s)) refl
      go (inr h) = alone key (let s = among-stands at a.level key back room (within-right at a.level front (key ∷ back) within).3 h in omega (arith, s)) refl

  apart_there : (k : ℕ) (cell : Cell) → at k ≡ Some cell → k ≢ parent → IsAmong key cell.children → ⊥
  apart_there k cell here ne among =
      let part = part-among at (name_of k cell) key cell.children (sound.parts k cell here) among in
      let is : part.cell ≡ drops.cell = some (sym part.at ∙ drops.was) in
      ne (ap (λ (n : Name). n.key) (sym part.above) ∙ ap (λ c. c.parent.key) is)

  record Was (k : ℕ) (cell : Cell) : Type 0 where
    pub not_key : k ≢ key
    pub earlier_cell : Cell
    pub at_k : at k ≡ Some earlier_cell
    pub serial_is : cell.serial ≡ earlier_cell.serial
    pub parent_is : cell.parent ≡ earlier_cell.parent
    pub kind_is : cell.kind ≡ earlier_cell.kind
    pub parts : AreParts at' (name_of k cell) cell.children
    pub proper : IsProper cell.kind cell.children

  proper_cut : (w : Kind) → IsProper w a.cell.children → IsProper w (front ++ back)
  proper_cut (element e) proper = tt
  proper_cut (text bytes) proper = absurd (no front (sym children ∙ proper))
    where
      no : (xs : List ℕ) → xs ++ (key ∷ back) ≡ [] → ⊥
      no [] e = cc
      no (x ∷ xs) e = cc
  proper_cut anchor proper = absurd (no front (sym children ∙ proper))
    where
      no : (xs : List ℕ) → xs ++ (key ∷ back) ≡ [] → ⊥
      no [] e = cc
      no (x ∷ xs) e = cc

  was : (k : ℕ) (cell : Cell) → at' k ≡ Some cell → Was k cell
  was k cell here = by (cases_eq k key) (cases_eq k parent)
    where
      by : (k ≡ key) ⊎ (k ≢ key) → (k ≡ parent) ⊎ (k ≢ parent) → Was k cell
      by (inl e) cases = absurd (none_some (sym drops.gone ∙ (ap at' (sym e) ∙ here)))
      by (inr ne) (inl e) =
          let is : with_children a.cell (front ++ back) ≡ cell = some (sym now ∙ (ap at' (sym e) ∙ here)) in
          let olds = subst (λ z. AreParts at (name_of parent a.cell) z) children (sound.parts parent a.cell a.here) in
          let cut = parts_now (name_of parent a.cell) (front ++ back) (parts-cut at (name_of parent a.cell) key front back olds) apart_here in
          record {
            not_key = ne;
            earlier_cell = a.cell;
            at_k = ap at e ∙ a.here;
            serial_is = ap (λ c. c.serial) (sym is);
            parent_is = ap (λ c. c.parent) (sym is);
            kind_is = ap (λ c. c.kind) (sym is);
            parts = subst (λ (c : Cell). AreParts at' (name_of k c) c.children) is (subst (λ z. AreParts at' (name_of z a.cell) (front ++ back)) (sym e) cut);
            proper = subst (λ (c : Cell). IsProper c.kind c.children) is (proper_cut a.cell.kind (sound.proper parent a.cell a.here));
          }
      by (inr ne) (inr other) =
          let before_that : at k ≡ Some cell = sym (drops.others k ne other) ∙ here in
          record {
            not_key = ne;
            earlier_cell = cell;
            at_k = before_that;
            serial_is = refl;
            parent_is = refl;
            kind_is = refl;
            parts = parts_now (name_of k cell) cell.children (sound.parts k cell before_that) (apart_there k cell before_that other);
            proper = sound.proper k cell before_that;
          }

  counted : (k : ℕ) → times (begins k) (tokens_of at) ≡ times (begins k) (tokens_of at') + one (key == k)
  counted k =
      let x = ap (times (begins k)) old ∙ times-append (begins k) before_it (own ++ after_it) in
      let y = ap (times (begins k)) new ∙ times-append (begins k) before_it after_it in
      let z = times-append (begins k) (finish key drops.cell) after_it in
      let e = begins-finish k key drops.cell in
      let f = ap one (begins-start k key drops.cell) in
      omega (arith, x, y, z, e, f)

  not_holder : (k : ℕ) (cell : Cell) → at k ≡ Some cell → (link : Link at cell.parent.key k) → cell.parent.key ≢ key
  not_holder k cell here link e =
      let is : link.cell ≡ drops.cell = some (sym link.at ∙ (ap at e ∙ drops.was)) in
      subst (λ z. IsAmong k z) (ap (λ c. c.children) is ∙ drops.bare) link.among

  linked_now : (k : ℕ) (cell : Cell) → k ≢ 0 → Was k cell → Link at' cell.parent.key k
  linked_now k cell ne w =
      let link = sound.linked k w.earlier_cell w.at_k ne in
      let later = kept w.earlier_cell.parent.key link.cell (not_holder k w.earlier_cell w.at_k link) link.at in
      subst (λ (z : Name). Link at' z.key k) (sym w.parent_is) (record { cell = later.later; at = later.at_k; among = later.more k w.not_key link.among })

  pub shrunk : Shrunk at at' next key
  shrunk = record {
    sound = record {
      root = (let k = kept 0 sound.root.cell (λ e. not_page (sym e)) sound.root.at in record { cell = k.later; at = k.at_k; first = k.serial_is ∙ sound.root.first; shape = ap is_element k.kind_is ∙ sound.root.shape });
      bounded = sound.bounded;
      below = λ k cell here. (let w = was k cell here in let b = sound.below k w.earlier_cell w.at_k in let v = ap weight w.kind_is in omega (arith, b, v, w.serial_is));
      parts = λ k cell here. (was k cell here).parts;
      proper = λ k cell here. (was k cell here).proper;
      linked = λ k cell here ne. linked_now k cell ne (was k cell here);
      once = λ k. (let n = counted k in let h = sound.once k in omega (arith, n, h));
      stands = λ k cell here. (let w = was k cell here in let n = counted k in let h = sound.stands k w.earlier_cell w.at_k in let v = ap one (ne_eqb key k (λ e. w.not_key (sym e))) in omega (arith, n, h, v));
    };
    tokens = removed;
  }
