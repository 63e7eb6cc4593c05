-- A node is taken away, and its change tells it.
use Rattle.std.proofs.Common.{◌≡◌, ◌≢◌, ◌≤◌, ◌⊎◌, inl, inr, length, length-append, ℕ, List, [], ◌∷◌, ◌++◌, Bool, true, false, Option, Some, None, refl, ap, sym, ◌∙◌, arith, subst, append_assoc}
use Rattle.std.specs.Prelude.{is_some, if◌then◌else◌, ◌↔◌, IsNone, IsSome}
use Rattle.std.proofs.lemmas.Bool.{eq-eqb}
use Rattle.sv_tokens.specs.Counting.{times, one, Has}
use Rattle.sv_tokens.specs.Token.{Name, Token, Open, Text, Anchor, Close, Page, begins, anchors, lacks_number, IsSpan, one_text, one_anchor, whole}
use Rattle.sv_tokens.specs.Edit.{Removed}
use Rattle.sv_tokens.specs.Seen.{View, seen, view_of, starts}
use Rattle.sv_tokens.specs.Replay.{replay_if}
use Rattle.sv_tokens.specs.declared.change.Change.{Change}
use Rattle.sv_tokens.specs.declared.change.Change.TheVariants.{Remove}
use Rattle.sv_tokens.proofs.Counting.{times-append, has-left, has-right, has-here}
use Rattle.sv_tokens.proofs.Seen.{seen-append, seen-three, same_view, IsNumbered-fewer}
use Rattle.sv_tokens.proofs.Replay.{IsNode, replay-remove}
use Rattle.sv_nodes.specs.Nodes.{Kind, element, text, anchor, Cell, Nodes, name_of, opening, start, finish, walk, tokens_of, is_anchor}
use Rattle.sv_nodes.specs.Sound.{IsSound}
use Rattle.sv_nodes.proofs.Around.{Around, around, passes_here}
use Rattle.sv_nodes.proofs.Growing.{some}
use Rattle.sv_nodes.proofs.Removing.{span-cell}
use Rattle.sv_nodes.proofs.Shown.{seen-cell, seen-anchor}
use Rattle.sv_dom.specs.Dom.{page_of, IsDom, removal}
use Rattle.sv_dom.proofs.Telling.{serial-later, closed}

anchors-narrows : (p : ℕ) (t : Token) → one (anchors p t) ≤ one (begins p t)
anchors-narrows p (Open n q number e) = omega arith
anchors-narrows p (Text n q number bytes) = omega arith
anchors-narrows p (Anchor n q) = omega arith
anchors-narrows p (Close n name) = omega arith

opening-anchors : (p : ℕ) (n q : Name) (number : Option ℕ) (w : Kind) → n.key ≡ p → anchors p (opening n q number w) ≡ is_anchor w
opening-anchors p n q number (element e) same = refl
opening-anchors p n q number (text bytes) same = refl
opening-anchors p n q number anchor same = eq-eqb n.key p same

-- an anchor stands there where the node is one
pub anchor-stands : (at : Nodes) (next p : ℕ) (c : Cell) → IsSound at next → at p ≡ Some c → Has (begins p) (tokens_of at) → IsNone (removal c) ↔ Has (anchors p) (tokens_of at)
anchor-stands at next p c sound here has = (stands (is_anchor c.kind) refl, told)
  where
    a : Around at p
    a = around at next p sound has

    cell : a.cell ≡ c
    cell = some (sym a.here ∙ here)

    first : anchors p (start p a.cell) ≡ is_anchor c.kind
    first = opening-anchors p (name_of p a.cell) a.cell.parent a.cell.number a.cell.kind refl ∙ ap (λ (z : Cell). is_anchor z.kind) cell

    stands : (b : Bool) → is_anchor c.kind ≡ b → IsNone (if is_anchor c.kind then None else Some (Remove c.serial)) → Has (anchors p) (tokens_of at)
    stands true hidden none = subst (λ z. Has (anchors p) z) (sym a.old) (has-right (anchors p) a.pre _ (has-here (anchors p) (start p a.cell) _ (first ∙ hidden)))
    stands false shown none = absurd (no (ap (λ b. is_some (if b then None else Some (Remove c.serial))) (sym shown) ∙ none))
      where
        no : true ≡ false → ⊥
        no e = cc

    told : Has (anchors p) (tokens_of at) → IsNone (if is_anchor c.kind then None else Some (Remove c.serial))
    told found = ap (λ b. is_some (if b then None else Some (Remove c.serial))) (sym first ∙ passes_here at next p (anchors p) sound (anchors-narrows p) a found)

module _ (at at' : Nodes) (next number p : ℕ) (dom : IsDom at next number) (sound : IsSound at' next) (other : p ≢ 0) (c : Cell) (here : at p ≡ Some c) (has : Has (begins p) (tokens_of at))
    (removed : Removed (tokens_of at) (tokens_of at') p) where
  a : Around at p
  a = around at next p dom.sound has

  cell : a.cell ≡ c
  cell = some (sym a.here ∙ here)

  abbrev own : List Token
  own = start p a.cell ∷ (walk a.level at a.cell.children ++ finish p a.cell)

  was : tokens_of at ≡ a.pre ++ (own ++ a.post)
  was = a.old ∙ (simp append_assoc)

  is : tokens_of at' ≡ a.pre ++ a.post
  is = removed.only a.pre own a.post (span-cell a.level at next p a.cell dom.sound a.here) was

  pub removed-dom : IsDom at' next number
  removed-dom = record {
    sound = sound;
    numbered = IsNumbered-fewer (seen (tokens_of at)) (seen (tokens_of at')) next started dom.numbered;
    counted =
        (let x = ap (times lacks_number) is ∙ times-append lacks_number a.pre a.post in
        let y = ap (times lacks_number) was ∙ times-append lacks_number a.pre (own ++ a.post) in
        let z = times-append lacks_number own a.post in
        let d = dom.counted in
        omega (arith, x, y, z, d));
  }
    where
      started : (s : ℕ) → times (starts s) (seen (tokens_of at')) ≤ times (starts s) (seen (tokens_of at))
      started s =
          let x = ap (λ z. times (starts s) (seen z)) is ∙ (ap (times (starts s)) (seen-append a.pre a.post) ∙ times-append (starts s) (seen a.pre) (seen a.post)) in
          let y = ap (λ z. times (starts s) (seen z)) was ∙ (ap (times (starts s)) (seen-three a.pre own a.post) ∙ times-append (starts s) (seen a.pre) (seen own ++ seen a.post)) in
          let z = times-append (starts s) (seen own) (seen a.post) in
          omega (arith, x, y, z)

  pub removed-told : view_of (page_of at' next number) ≡ replay_if (removal c) (view_of (page_of at next number))
  removed-told = go (is_anchor c.kind) refl
    where
      go : (b : Bool) → is_anchor c.kind ≡ b → view_of (page_of at' next number) ≡ replay_if (if is_anchor c.kind then None else Some (Remove c.serial)) (view_of (page_of at next number))
      go true hidden =
          let none = seen-anchor a.level at p a.cell (dom.sound.proper p a.cell a.here) (ap (λ (z : Cell). is_anchor z.kind) cell ∙ hidden) in
          same_view (seen (tokens_of at')) (seen (tokens_of at)) next next
          (ap seen is ∙ (seen-append a.pre a.post ∙ (sym (ap (λ z. seen a.pre ++ (z ++ seen a.post)) none) ∙ (sym (seen-three a.pre own a.post) ∙ sym (ap seen was))))) refl
          ∙ ap (λ b. replay_if (if b then None else Some (Remove c.serial)) (view_of (page_of at next number))) (sym hidden)
      go false shown =
          let node = seen-cell a.level at p a.cell (dom.sound.proper p a.cell a.here) (ap (λ (z : Cell). is_anchor z.kind) cell ∙ shown) in
          let node_c = subst (λ n. IsNode n (seen own)) (ap (λ (z : Cell). z.serial) cell) node in
          replay-remove (page_of at next number) (page_of at' next number) a.pre own a.post c.serial (dom.numbered.once c.serial) (closed at next number dom c.serial)
          (serial-later at next p c dom.sound here other) node_c was is refl
          ∙ ap (λ b. replay_if (if b then None else Some (Remove c.serial)) (view_of (page_of at next number))) (sym shown)

-- what is seen of a node that is no anchor
span-seen : (key : ℕ) (own : List Token) → IsSpan key own → (1 ≤ length (seen own)) ⊎ Has (anchors key) own
span-seen key own (one_text k s p n x) = inl (omega arith)
span-seen key own (one_anchor k p) = inr (has-here (anchors key) (Anchor key p) [] (eq-eqb key key refl))
span-seen key own (whole k s p n e inner name) = inl (omega arith)

some-none : (told : Option Change) → IsSome told → IsNone told → ⊥
some-none told some none = never (sym some ∙ none)
  where
    never : true ≡ false → ⊥
    never e = cc

-- what is told is seen
pub removed-seen : (old new : Page) (key : ℕ) (told : Option Change) → Removed old.tokens new.tokens key → (IsNone told ↔ Has (anchors key) old.tokens) → IsSome told → view_of new ≢ view_of old
removed-seen old new key told r none is e = go (span-seen key r.own r.span)
  where
    go : (1 ≤ length (seen r.own)) ⊎ Has (anchors key) r.own → ⊥
    go (inl h) =
        let a = ap (λ ts. length (seen ts)) r.was ∙ (ap length (seen-three r.pre r.own r.post) ∙ length-append (seen r.pre) (seen r.own ++ seen r.post)) in
        let b = length-append (seen r.own) (seen r.post) in
        let c = ap (λ ts. length (seen ts)) r.is ∙ (ap length (seen-append r.pre r.post) ∙ length-append (seen r.pre) (seen r.post)) in
        let d = ap (λ (v : View). length v.tokens) e in
        omega (arith, h, a, b, c, d)
    go (inr h) = some-none told is (none.1 (subst (Has (anchors key)) (sym r.was) (has-right (anchors key) r.pre _ (has-left (anchors key) r.own r.post h))))
