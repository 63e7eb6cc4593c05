-- What one node is, rewritten: its name in the tree, its end and its children stay.
use Rattle.std.proofs.Common.{◌≡◌, ◌≢◌, ◌≤◌, ℕ, List, [], ◌∷◌, ◌++◌, true, Some, refl, ap, sym, ◌∙◌, arith, ◌⊎◌, inl, inr, subst, append_assoc}
use Rattle.std.specs.Prelude.{option_map}
use Rattle.std.proofs.lemmas.Bool.{cases_eq}
use Rattle.sv_tokens.specs.Counting.{times, one, Has}
use Rattle.sv_tokens.specs.Token.{Name, Element, Token, Close, begins}
use Rattle.sv_tokens.specs.Edit.{Rewritten, with_element, with_text}
use Rattle.sv_tokens.proofs.Counting.{times-append}
use Rattle.sv_tokens.proofs.Splits.{unique}
use Rattle.sv_nodes.specs.Nodes.{Kind, element, text, anchor, Cell, Nodes, name_of, opening, start, finish, node_tokens, walk, tokens_of, weight, is_element, retext, reshape, with_kind}
use Rattle.sv_nodes.specs.Sound.{IsProper, AreParts, IsAmong, Link, IsSound}
use Rattle.sv_nodes.specs.Steps.{Rewrites}
use Rattle.sv_nodes.proofs.Walk.{agree, begins-own, begins-start}
use Rattle.sv_nodes.proofs.Around.{Around, around}

-- the change keeps the node's place, and the kind of node
pub record IsAlike (c d : Cell) : Type 0 where
  pub serial : d.serial ≡ c.serial
  pub parent : d.parent ≡ c.parent
  pub children : d.children ≡ c.children
  pub ends : (k : ℕ) → finish k d ≡ finish k c
  pub weighs : weight d.kind ≡ weight c.kind
  pub fits : (ks : List ℕ) → IsProper c.kind ks → IsProper d.kind ks
  pub shape : is_element d.kind ≡ is_element c.kind

pub record Edited (at at' : Nodes) (next p : ℕ) (g : Token → Token) : Type 0 where
  pub sound : IsSound at' next
  pub tokens : Rewritten (tokens_of at) (tokens_of at') p g

module _ (at at' : Nodes) (next p : ℕ) (f : Cell → Cell) (g : Token → Token) (sound : IsSound at next) (has : Has (begins p) (tokens_of at)) (alike : (c : Cell) → IsAlike c (f c))
    (shows : (c : Cell) → start p (f c) ≡ g (start p c)) (rewrites : Rewrites at at' p f) where
  a : Around at p
  a = around at next p sound has

  abbrev rest : List Token
  rest = walk a.level at a.cell.children ++ (finish p a.cell ++ a.post)

  abbrev was_first : Token
  was_first = start p a.cell

  cell' : at' p ≡ Some (f a.cell)
  cell' = rewrites.here ∙ ap (option_map f) a.here

  new : tokens_of at' ≡ a.pre ++ (g was_first ∷ rest)
  new =
      let inner = agree a.level at at' next sound a.cell.children a.within (λ k inside. rewrites.others k (a.alone_inside k inside)) in
      a.shows at' (λ k outside. rewrites.others k (a.alone k outside))
      ∙ (ap (λ z. a.pre ++ (node_tokens (walk a.level at') p z ++ a.post)) cell'
      ∙ (ap (λ z. a.pre ++ ((start p (f a.cell) ∷ (walk a.level at' z ++ finish p (f a.cell))) ++ a.post)) ((alike a.cell).children)
      ∙ (ap (λ z. a.pre ++ ((start p (f a.cell) ∷ (z ++ finish p (f a.cell))) ++ a.post)) inner
      ∙ (ap (λ z. a.pre ++ ((start p (f a.cell) ∷ (walk a.level at a.cell.children ++ z)) ++ a.post)) ((alike a.cell).ends p)
      ∙ (ap (λ z. a.pre ++ ((z ∷ (walk a.level at a.cell.children ++ finish p a.cell)) ++ a.post)) (shows a.cell) ∙ (simp append_assoc))))))

  begins-new : (k : ℕ) → begins k (g was_first) ≡ begins k was_first
  begins-new k = ap (begins k) (sym (shows a.cell)) ∙ (begins-start k p (f a.cell) ∙ sym (begins-start k p a.cell))

  same_times : (k : ℕ) → times (begins k) (tokens_of at') ≡ times (begins k) (tokens_of at)
  same_times k =
      let n = ap (times (begins k)) new ∙ times-append (begins k) a.pre (g was_first ∷ rest) in
      let o = ap (times (begins k)) a.old ∙ times-append (begins k) a.pre (was_first ∷ rest) in
      let w = ap one (begins-new k) in
      omega (arith, n, o, w)

  replaced : (pre post : List Token) (t : Token) → begins p t ≡ true → tokens_of at ≡ pre ++ (t ∷ post) → tokens_of at' ≡ pre ++ (g t ∷ post)
  replaced pre post t starts e =
      let s = unique (begins p) a.pre rest pre post was_first t (subst (λ z. times (begins p) z ≤ 1) a.old (sound.once p)) (begins-own p a.cell) starts (sym a.old ∙ e) in
      new ∙ (λ i. s.front i ++ (g (s.here i) ∷ s.back i))

  -- a cell that is there now was there before, in the same place
  record Was (k : ℕ) (cell : Cell) : Type 0 where
    pub before : Cell
    pub at_k : at k ≡ Some before
    pub serial_is : cell.serial ≡ before.serial
    pub parent_is : cell.parent ≡ before.parent
    pub weight_is : weight cell.kind ≡ weight before.kind
    pub children_are : cell.children ≡ before.children
    pub proper : IsProper cell.kind cell.children

  some : {x y : Cell} → Some x ≡ Some y → x ≡ y
  some e = cc

  was : (k : ℕ) (cell : Cell) → at' k ≡ Some cell → Was k cell
  was k cell now = by (cases_eq k p)
    where
      by : (k ≡ p) ⊎ (k ≢ p) → Was k cell
      by (inl e) =
          let is : f a.cell ≡ cell = some (sym cell' ∙ (ap at' (sym e) ∙ now)) in
          let same = alike a.cell in
          record {
            before = a.cell;
            at_k = ap at e ∙ a.here;
            serial_is = ap (λ c. c.serial) (sym is) ∙ same.serial;
            parent_is = ap (λ c. c.parent) (sym is) ∙ same.parent;
            weight_is = ap (λ c. weight c.kind) (sym is) ∙ same.weighs;
            children_are = ap (λ c. c.children) (sym is) ∙ same.children;
            proper = subst (λ (c : Cell). IsProper c.kind c.children) is (subst (λ z. IsProper (f a.cell).kind z) (sym same.children) (same.fits a.cell.children (sound.proper p a.cell a.here)));
          }
      by (inr ne) = record {
        before = cell;
        at_k = sym (rewrites.others k ne) ∙ now;
        serial_is = refl;
        parent_is = refl;
        weight_is = refl;
        children_are = refl;
        proper = sound.proper k cell (sym (rewrites.others k ne) ∙ now);
      }

  -- a cell that was there is there now, in the same place
  record Kept (k : ℕ) (cell : Cell) : Type 0 where
    pub now : Cell
    pub at_k : at' k ≡ Some now
    pub serial_is : now.serial ≡ cell.serial
    pub children_are : now.children ≡ cell.children
    pub parent_is : now.parent ≡ cell.parent
    pub shape_is : is_element now.kind ≡ is_element cell.kind

  kept : (k : ℕ) (cell : Cell) → at k ≡ Some cell → Kept k cell
  kept k cell here = by (cases_eq k p)
    where
      by : (k ≡ p) ⊎ (k ≢ p) → Kept k cell
      by (inl e) =
          let is : a.cell ≡ cell = some (sym a.here ∙ (ap at (sym e) ∙ here)) in
          let same = alike a.cell in
          record {
            now = f a.cell;
            at_k = ap at' e ∙ cell';
            serial_is = same.serial ∙ ap (λ c. c.serial) is;
            children_are = same.children ∙ ap (λ c. c.children) is;
            parent_is = same.parent ∙ ap (λ c. c.parent) is;
            shape_is = same.shape ∙ ap (λ c. is_element c.kind) is;
          }
      by (inr ne) = record { now = cell; at_k = rewrites.others k ne ∙ here; serial_is = refl; children_are = refl; parent_is = refl; shape_is = refl }

  parts_now : (parent : Name) (ks : List ℕ) → AreParts at parent ks → AreParts at' parent ks
  parts_now parent [] parts = tt
  parts_now parent (k ∷ ks) parts =
      let n = kept k parts.0.cell parts.0.at in
      (record { cell = n.now; at = n.at_k; above = n.parent_is ∙ parts.0.above; later = omega (arith, n.serial_is, parts.0.later) }, parts_now parent ks parts.1)

  pub rewriting : Edited at at' next p g
  rewriting = record {
    sound = record {
      root = (let n = kept 0 sound.root.cell sound.root.at in record { cell = n.now; at = n.at_k; first = n.serial_is ∙ sound.root.first; shape = n.shape_is ∙ sound.root.shape });
      bounded = sound.bounded;
      below = λ k cell now. (let w = was k cell now in let b = sound.below k w.before w.at_k in omega (arith, w.serial_is, w.weight_is, b));
      parts = λ k cell now. (let w = was k cell now in subst (λ z. AreParts at' (record { key = k; serial = z }) cell.children) (sym w.serial_is) (subst (λ z. AreParts at' (name_of k w.before) z) (sym w.children_are) (parts_now (name_of k w.before) w.before.children (sound.parts k w.before w.at_k))));
      proper = λ k cell now. (was k cell now).proper;
      linked = λ k cell now ne.
          (let w = was k cell now in let link = sound.linked k w.before w.at_k ne in let here = kept w.before.parent.key link.cell link.at in
          subst (λ (z : Name). Link at' z.key k) (sym w.parent_is) (record { cell = here.now; at = here.at_k; among = subst (λ z. IsAmong k z) (sym here.children_are) link.among }));
      stands = λ k cell now. (let w = was k cell now in let e = same_times k in let h = sound.stands k w.before w.at_k in omega (arith, e, h));
      once = λ k. (let e = same_times k in let h = sound.once k in omega (arith, e, h));
    };
    tokens = record { pre = a.pre; token = was_first; post = rest; begin = begins-own p a.cell; was = a.old; is = new; only = replaced };
  }

-- ---- the kinds of edits

pub retext-alike : (bytes : List ℕ) (c : Cell) → IsAlike c (with_kind (retext bytes) c)
retext-alike bytes c = record {
  serial = refl;
  parent = refl;
  children = refl;
  ends = λ k. ends k c.kind;
  weighs = weighs c.kind;
  fits = λ ks. fits c.kind ks;
  shape = shape c.kind;
}
  where
    ends : (k : ℕ) (w : Kind) → finish k (record c { kind = retext bytes w }) ≡ finish k (record c { kind = w })
    ends k (element e) = refl
    ends k (text was) = refl
    ends k anchor = refl

    weighs : (w : Kind) → weight (retext bytes w) ≡ weight w
    weighs (element e) = refl
    weighs (text was) = refl
    weighs anchor = refl

    fits : (w : Kind) (ks : List ℕ) → IsProper w ks → IsProper (retext bytes w) ks
    fits (element e) ks proper = proper
    fits (text was) ks proper = proper
    fits anchor ks proper = proper

    shape : (w : Kind) → is_element (retext bytes w) ≡ is_element w
    shape (element e) = refl
    shape (text was) = refl
    shape anchor = refl

pub start-retext : (bytes : List ℕ) (p : ℕ) (c : Cell) → start p (with_kind (retext bytes) c) ≡ with_text bytes (start p c)
start-retext bytes p c = go c.kind
  where
    go : (w : Kind) → opening (name_of p c) c.parent c.number (retext bytes w) ≡ with_text bytes (opening (name_of p c) c.parent c.number w)
    go (element e) = refl
    go (text was) = refl
    go anchor = refl

-- an element's name stays
pub reshape-alike : (f : Element → Element) → ((e : Element) → (f e).name ≡ e.name) → (c : Cell) → IsAlike c (with_kind (reshape f) c)
reshape-alike f named c = record {
  serial = refl;
  parent = refl;
  children = refl;
  ends = λ k. ends k c.kind;
  weighs = weighs c.kind;
  fits = λ ks. fits c.kind ks;
  shape = shape c.kind;
}
  where
    ends : (k : ℕ) (w : Kind) → finish k (record c { kind = reshape f w }) ≡ finish k (record c { kind = w })
    ends k (element e) = ap (λ z. Close (name_of k c) z ∷ []) (named e)
    ends k (text was) = refl
    ends k anchor = refl

    weighs : (w : Kind) → weight (reshape f w) ≡ weight w
    weighs (element e) = refl
    weighs (text was) = refl
    weighs anchor = refl

    fits : (w : Kind) (ks : List ℕ) → IsProper w ks → IsProper (reshape f w) ks
    fits (element e) ks proper = proper
    fits (text was) ks proper = proper
    fits anchor ks proper = proper

    shape : (w : Kind) → is_element (reshape f w) ≡ is_element w
    shape (element e) = refl
    shape (text was) = refl
    shape anchor = refl

pub start-reshape : (f : Element → Element) (p : ℕ) (c : Cell) → start p (with_kind (reshape f) c) ≡ with_element f (start p c)
start-reshape f p c = go c.kind
  where
    go : (w : Kind) → opening (name_of p c) c.parent c.number (reshape f w) ≡ with_element f (opening (name_of p c) c.parent c.number w)
    go (element e) = refl
    go (text was) = refl
    go anchor = refl
