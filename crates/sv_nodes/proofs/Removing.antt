-- A node is taken away with all below it, the last child first.
use Rattle.std.proofs.Common.{◌≡◌, ◌≢◌, ◌<◌, ◌≤◌, ◌+◌, ℕ, zero, suc, List, [], ◌∷◌, ◌++◌, true, Option, Some, refl, ap, sym, ◌∙◌, arith, ◌⊎◌, inl, inr, subst, append_assoc, append-nil, length}
use Rattle.std.specs.Prelude.{IsSomeAnd}
use Rattle.std.proofs.lemmas.Bool.{cases_eq, eq-eqb}
use Rattle.slab.specs.Slab.{Slab, get}
use Rattle.sv_tokens.specs.Counting.{times, Has}
use Rattle.sv_tokens.specs.Token.{Name, named, Element, Token, Open, Text, Anchor, Close, begins, closes, IsSpan, one_text, one_anchor, whole}
use Rattle.sv_tokens.specs.Edit.{Removed}
use Rattle.sv_tokens.proofs.Counting.{times-append, has-left, has-right, has-here}
use Rattle.sv_tokens.proofs.Splits.{unique}
use Rattle.sv_nodes.specs.Nodes.{Kind, element, text, anchor, Cell, Nodes, name_of, opening, ending, start, finish, node_tokens, walk, levels, tokens_of, serial_at}
use Rattle.sv_nodes.specs.Sound.{IsProper, IsAmong, IsSound}
use Rattle.sv_nodes.specs.Steps.{Drops, Keeps, Loses}
use Rattle.sv_nodes.specs.declared.entry.Entry.{Entry}
use Rattle.sv_nodes.proofs.Walk.{Within, walk-nil, walk-append, within-right, fewer-closes}
use Rattle.sv_nodes.proofs.Around.{around}
use Rattle.sv_nodes.proofs.Growing.{some, none_some, among-right}
use Rattle.sv_nodes.proofs.Shrinking.{part-among}

span-of : (m : ℕ) (at : Nodes) (k s : ℕ) (p : Name) (number : Option ℕ) (w : Kind) (children : List ℕ) → IsProper w children
    → IsSpan k (opening (named k s) p number w ∷ (walk m at children ++ ending (named k s) w))
span-of m at k s p number (element e) children proper = whole k s p number e (walk m at children) e.name
span-of m at k s p number (text bytes) children proper = rw (proper, walk-nil m at) (one_text k s p number bytes)
span-of m at k s p number anchor children proper = rw (proper, walk-nil m at) (one_anchor k p)

-- the tokens of a node round those of its children
pub span-cell : (m : ℕ) (at : Nodes) (next k : ℕ) (c : Cell) → IsSound at next → at k ≡ Some c → IsSpan k (start k c ∷ (walk m at c.children ++ finish k c))
span-cell m at next k c sound here = span-of m at k c.serial c.parent c.number c.kind c.children (sound.proper k c here)

-- the tokens of one node are those of a node and all below it
span-walk : (n : ℕ) (at : Nodes) (next k : ℕ) (c : Cell) → IsSound at next → at k ≡ Some c → 1 ≤ n → IsSpan k (walk n at (k ∷ []))
unfolding walk
span-walk zero at next k c sound here room = absurd (omega (arith, room))
span-walk (suc m) at next k c sound here room =
    let is : walk (suc m) at (k ∷ []) ≡ start k c ∷ (walk m at c.children ++ finish k c) =
    ap (λ z. node_tokens (walk m at) k z ++ []) here ∙ append-nil (node_tokens (walk m at) k (Some c)) in
    subst (λ z. IsSpan k z) (sym is) (span-cell m at next k c sound here)

holder_of : (w : Kind) (front : List ℕ) (x : ℕ) → IsProper w (front ++ (x ∷ [])) → (e : Element) × (w ≡ element e)
holder_of (element e) front x proper = (e, refl)
holder_of (text bytes) front x proper = absurd (no front proper)
  where
    no : (xs : List ℕ) → xs ++ (x ∷ []) ≡ [] → ⊥
    no [] e = cc
    no (y ∷ ys) e = cc
holder_of anchor front x proper = absurd (no front proper)
  where
    no : (xs : List ℕ) → xs ++ (x ∷ []) ≡ [] → ⊥
    no [] e = cc
    no (y ∷ ys) e = cc

-- where an element stands, what follows it is told by its end
after-element : (key s : ℕ) (p : Name) (number : Option ℕ) (e : Element) (inner rest left post : List Token) → times (closes key) (inner ++ (Close (named key s) e.name ∷ rest)) ≤ 1
    → IsSpan key left → Open (named key s) p number e ∷ (inner ++ (Close (named key s) e.name ∷ rest)) ≡ left ++ post → rest ≡ post
after-element key s p number e inner rest left post once (whole k t q n f inside end) h =
    let tail : inner ++ (Close (named key s) e.name ∷ rest) ≡ (inside ++ (Close (named key t) end ∷ [])) ++ post = tail_of h in
    (unique (closes key) inner rest inside post (Close (named key s) e.name) (Close (named key t) end) once (eq-eqb key key refl) (eq-eqb key key refl) (tail ∙ append_assoc inside (Close (named key t) end ∷ []) post)).back
  where
    tail_of : {x y : Token} {xs ys : List Token} → x ∷ xs ≡ y ∷ ys → xs ≡ ys
    tail_of e = cc
after-element key s p number e inner rest left post once (one_text k t q n b) h = absurd (no h)
  where
    no : {n p m q : Name} {i j : Option ℕ} {e : Element} {bytes : List ℕ} {xs ys : List Token} → Open n p i e ∷ xs ≡ Text m q j bytes ∷ ys → ⊥
    no e = cc
after-element key s p number e inner rest left post once (one_anchor k q) h = absurd (no h)
  where
    no : {n p q : Name} {k : ℕ} {i : Option ℕ} {e : Element} {xs ys : List Token} → Open n p i e ∷ xs ≡ Anchor k q ∷ ys → ⊥
    no e = cc

-- a node's tokens begin with the node
pub record Begun (key : ℕ) (own : List Token) : Type 0 where
  pub first : Token
  pub rest : List Token
  pub is : own ≡ first ∷ rest
  pub starts : begins key first ≡ true

pub begun : (key : ℕ) (own : List Token) → IsSpan key own → Begun key own
begun key own (one_text k s p n b) = record { first = Text (named key s) p n b; rest = []; is = refl; starts = eq-eqb key key refl }
begun key own (one_anchor k p) = record { first = Anchor key p; rest = []; is = refl; starts = eq-eqb key key refl }
begun key own (whole k s p n e inside end) = record { first = Open (named key s) p n e; rest = inside ++ (Close (named key s) end ∷ []); is = refl; starts = eq-eqb key key refl }

span-stands : (key : ℕ) (pre own post : List Token) → IsSpan key own → Has (begins key) (pre ++ (own ++ post))
span-stands key pre own post span =
    let b = begun key own span in
    has-right (begins key) pre (own ++ post) (has-left (begins key) own post (subst (λ z. Has (begins key) z) (sym b.is) (has-here (begins key) b.first b.rest b.starts)))

-- wherever the tokens are split round those of the node, the new ones have nothing in their place
abbrev pub Takes : Nodes → Nodes → ℕ → Type 0
Takes at at' key = (pre own post : List Token) → IsSpan key own → tokens_of at ≡ pre ++ (own ++ post) → tokens_of at' ≡ pre ++ post

-- the page round the last child of a node
pub record Last (at : Nodes) (key child : ℕ) : Type 0 where
  pub pre : List Token
  pub serial : ℕ
  pub parent : Name
  pub number : Option ℕ
  pub e : Element
  pub before_it : List Token
  pub own : List Token
  pub span : IsSpan child own
  pub post : List Token
  pub is : tokens_of at ≡ pre ++ (Open (named key serial) parent number e ∷ ((before_it ++ own) ++ (Close (named key serial) e.name ∷ post)))

last-in : (at : Nodes) (next key child : ℕ) (cell : Cell) (front : List ℕ) → IsSound at next → at key ≡ Some cell → cell.children ≡ front ++ (child ∷ []) → Last at key child
last-in at next key child cell front sound here children =
    let a = around at next key sound (sound.stands key cell here) in
    let same : a.cell ≡ cell = some (sym a.here ∙ here) in
    let its : a.cell.children ≡ front ++ (child ∷ []) = ap (λ c. c.children) same ∙ children in
    let w = holder_of a.cell.kind front child (subst (λ z. IsProper a.cell.kind z) its (sound.proper key a.cell a.here)) in
    let within = within-right at a.level front (child ∷ []) (subst (λ z. Within at a.level z) its a.within) in
    let b = sound.below child within.0 within.1 in
    let most = sound.bounded in
    let room : 1 ≤ a.level = omega (arith, within.2, b, most) in
    record {
      pre = a.pre;
      serial = a.cell.serial;
      parent = a.cell.parent;
      number = a.cell.number;
      e = w.0;
      before_it = walk a.level at front;
      own = walk a.level at (child ∷ []);
      span = span-walk a.level at next child within.0 sound within.1 room;
      post = a.post;
      is = a.old ∙ (ap (λ z. a.pre ++ (opening (name_of key a.cell) a.cell.parent a.cell.number z ∷ (walk a.level at a.cell.children ++ (ending (name_of key a.cell) z ++ a.post)))) w.1
          ∙ ap (λ z. a.pre ++ (Open (name_of key a.cell) a.cell.parent a.cell.number w.0 ∷ (z ++ (Close (name_of key a.cell) w.0.name ∷ a.post)))) (ap (walk a.level at) its ∙ walk-append a.level at front (child ∷ [])));
    }

-- what is left once the last child is gone
pub without_last : (at at' : Nodes) (key child : ℕ) (l : Last at key child) → Takes at at' child
    → tokens_of at' ≡ l.pre ++ (Open (named key l.serial) l.parent l.number l.e ∷ (l.before_it ++ (Close (named key l.serial) l.e.name ∷ l.post)))
without_last at at' key child l removes =
    removes (l.pre ++ (Open (named key l.serial) l.parent l.number l.e ∷ l.before_it)) l.own (Close (named key l.serial) l.e.name ∷ l.post) l.span (l.is ∙ (simp append_assoc)) ∙ (simp append_assoc)

keeps-keeps : (a b c : Nodes) → Keeps a b → Keeps b c → Keeps a c
keeps-keeps a b c first second = record {
  same = λ k cell here. (let y = second.same k cell here in let x = first.same k y.0 y.1 in (x.0, x.1, y.2 ∙ x.2));
}

pub keeps-drops : (at at' : Nodes) (key : ℕ) → Drops at at' key → Keeps at at'
keeps-drops at at' key drops = record { same = λ k cell here. by k cell here (cases_eq k key) (cases_eq k drops.cell.parent.key) }
  where
    by : (k : ℕ) (cell : Cell) → at' k ≡ Some cell → (k ≡ key) ⊎ (k ≢ key) → (k ≡ drops.cell.parent.key) ⊎ (k ≢ drops.cell.parent.key) → (before : Cell) × (at k ≡ Some before) × (cell.serial ≡ before.serial)
    by k cell here (inl e) cases = absurd (none_some (sym drops.gone ∙ (ap at' (sym e) ∙ here)))
    by k cell here (inr ne) (inl e) = (drops.above, ap at e ∙ drops.holder, ap (λ c. c.serial) (some (sym here ∙ (ap at' e ∙ drops.now))))
    by k cell here (inr ne) (inr other) = (cell, sym (drops.others k ne other) ∙ here, refl)

pub loses-start : (at : Nodes) (next key : ℕ) → IsSound at next → Has (begins key) (tokens_of at) → Loses at at next key
loses-start at next key sound has = record {
  sound = sound;
  spans = λ pre own post span e. (own, span, e);
  keeps = record { same = λ k cell here. (cell, here, refl) };
  stays = has;
}

-- one child more is gone
pub loses-more : (old at at' : Nodes) (next key child : ℕ) (cell : Cell) (front : List ℕ) → Loses old at next key → at key ≡ Some cell → cell.children ≡ front ++ (child ∷ [])
    → IsSound at' next → Takes at at' child → Keeps at at' → Loses old at' next key
loses-more old at at' next key child cell front loses here children sound' removes keeps = record {
  sound = sound';
  spans = λ pre own post span e. step pre post (loses.spans pre own post span e);
  keeps = keeps-keeps old at at' loses.keeps keeps;
  stays = subst (λ z. Has (begins key) z) (sym new) (has-right (begins key) l.pre (Open (named key l.serial) l.parent l.number l.e ∷ (l.before_it ++ (Close (named key l.serial) l.e.name ∷ l.post))) (has-here (begins key) (Open (named key l.serial) l.parent l.number l.e) (l.before_it ++ (Close (named key l.serial) l.e.name ∷ l.post)) (eq-eqb key key refl)));
}
  where
    l : Last at key child
    l = last-in at next key child cell front loses.sound here children

    new : tokens_of at' ≡ l.pre ++ (Open (named key l.serial) l.parent l.number l.e ∷ (l.before_it ++ (Close (named key l.serial) l.e.name ∷ l.post)))
    new = without_last at at' key child l removes

    closed : times (closes key) ((l.before_it ++ l.own) ++ (Close (named key l.serial) l.e.name ∷ l.post)) ≤ 1
    closed =
        let c = fewer-closes key levels at (0 ∷ []) in
        let h = loses.sound.once key in
        let x = ap (times (closes key)) l.is ∙ times-append (closes key) l.pre _ in
        omega (arith, c, h, x)

    step : (pre post : List Token) → (left : List Token) × IsSpan key left × (tokens_of at ≡ pre ++ (left ++ post)) → (left : List Token) × IsSpan key left × (tokens_of at' ≡ pre ++ (left ++ post))
    step pre post before =
        let b = begun key before.0 before.1 in
        let shown : tokens_of at ≡ pre ++ (b.first ∷ (b.rest ++ post)) = before.2 ∙ ap (λ z. pre ++ (z ++ post)) b.is in
        let s = unique (begins key) l.pre ((l.before_it ++ l.own) ++ (Close (named key l.serial) l.e.name ∷ l.post)) pre (b.rest ++ post) (Open (named key l.serial) l.parent l.number l.e) b.first
        (subst (λ z. times (begins key) z ≤ 1) l.is (loses.sound.once key)) (eq-eqb key key refl) b.starts (sym l.is ∙ shown) in
        let both : Open (named key l.serial) l.parent l.number l.e ∷ ((l.before_it ++ l.own) ++ (Close (named key l.serial) l.e.name ∷ l.post)) ≡ before.0 ++ post =
        (λ i. (s.here i ∷ s.back i)) ∙ ap (λ z. z ++ post) (sym b.is) in
        let rest = after-element key l.serial l.parent l.number l.e (l.before_it ++ l.own) l.post before.0 post closed before.1 both in (
          Open (named key l.serial) l.parent l.number l.e ∷ (l.before_it ++ (Close (named key l.serial) l.e.name ∷ [])),
          whole key l.serial l.parent l.number l.e l.before_it l.e.name,
          new ∙ ((λ i. s.front i ++ (Open (named key l.serial) l.parent l.number l.e ∷ (l.before_it ++ (Close (named key l.serial) l.e.name ∷ rest i)))) ∙ (simp append_assoc)),
        )

length-append : (xs ys : List Token) → length (xs ++ ys) ≡ length xs + length ys
length-append [] ys = omega arith
length-append (x ∷ xs) ys = let rest = length-append xs ys in omega (arith, rest)

-- the page is shorter
pub shorter : (at at' : Nodes) (next key child : ℕ) (cell : Cell) (front : List ℕ) → IsSound at next → at key ≡ Some cell → cell.children ≡ front ++ (child ∷ [])
    → Takes at at' child → length (tokens_of at') < length (tokens_of at)
shorter at at' next key child cell front sound here children removes =
    let l = last-in at next key child cell front sound here children in
    let b = begun child l.own l.span in
    let x = ap length (without_last at at' key child l removes) ∙ length-append l.pre _ in
    let y = ap length l.is ∙ length-append l.pre _ in
    let u = length-append l.before_it (Close (named key l.serial) l.e.name ∷ l.post) in
    let v = length-append (l.before_it ++ l.own) (Close (named key l.serial) l.e.name ∷ l.post) in
    let w = length-append l.before_it l.own in
    let own : length l.own ≡ suc (length b.rest) = ap length b.is in
    omega (arith, x, y, u, v, w, own)

-- the child may be taken away
pub record IsNext (old at : Nodes) (next key child : ℕ) : Type 0 where
  pub stands : Has (begins child) (tokens_of at)
  pub not_page : child ≢ 0
  pub later : serial_at old key < serial_at at child
  pub below : serial_at at child ≤ next

pub next-child : (old at : Nodes) (next key child : ℕ) (cell : Cell) (front : List ℕ) → Loses old at next key → at key ≡ Some cell → cell.children ≡ front ++ (child ∷ []) → IsNext old at next key child
next-child old at next key child cell front loses here children =
    let part = part-among at (name_of key cell) child cell.children (loses.sound.parts key cell here) (subst (λ z. IsAmong child z) (sym children) (among-right child front (child ∷ []) (inl refl))) in
    let before = loses.keeps.same key cell here in
    let was : serial_at old key ≡ before.0.serial = rw before.1 refl in
    let its : serial_at at child ≡ part.cell.serial = rw part.at refl in
    let most = loses.sound.below child part.cell part.at in
    let root = loses.sound.root in
    record {
      stands = loses.sound.stands child part.cell part.at;
      not_page = λ e. (let is = ap (λ c. c.serial) (some (sym part.at ∙ (ap at e ∙ root.at))) in omega (arith, is, root.first, part.later));
      later = omega (arith, was, its, before.2, part.later);
      below = omega (arith, its, most);
    }

-- the node itself goes last
pub lost : (old at at' : Nodes) (next key : ℕ) → Loses old at next key → Takes at at' key → Takes old at' key
lost old at at' next key loses removes pre own post span e = (let left = loses.spans pre own post span e in removes pre left.0 post left.1 left.2)

pub keeps-lost : (old at at' : Nodes) (next key : ℕ) → Loses old at next key → Drops at at' key → Keeps old at'
keeps-lost old at at' next key loses drops = keeps-keeps old at at' loses.keeps (keeps-drops at at' key drops)

pub bare-there : (slab : Slab Entry) (key : ℕ) (entry : Entry) → get slab key ≡ Some entry → entry.children.items ≡ [] → IsSomeAnd (get slab key) (λ e. e.children.items ≡ [])
bare-there slab key entry at bare = rw at bare

-- the node stood somewhere
pub removed : (at at' : Nodes) (next key : ℕ) → IsSound at next → Has (begins key) (tokens_of at) → Takes at at' key → Removed (tokens_of at) (tokens_of at') key
removed at at' next key sound has takes =
    let a = around at next key sound has in
    let span = span-cell a.level at next key a.cell sound a.here in
    let own = start key a.cell ∷ (walk a.level at a.cell.children ++ finish key a.cell) in
    let was : tokens_of at ≡ a.pre ++ (own ++ a.post) = a.old ∙ (simp append_assoc) in
    record { pre = a.pre; own = own; post = a.post; span = span; was = was; is = takes a.pre own a.post span was; only = takes }
