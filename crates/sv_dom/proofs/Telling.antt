-- An edit of nodes keeps a page a page, and its change tells it.
use Rattle.std.proofs.Common.{◌≡◌, ◌≢◌, ◌≤◌, ◌<◌, ℕ, List, [], ◌∷◌, ◌++◌, true, Option, Some, None, refl, ap, sym, ◌∙◌, arith}
use Rattle.std.specs.Prelude.{option_map, IsNone, IsSome}
use Rattle.std.proofs.lemmas.Bool.{eq-eqb}
use Rattle.sv_tokens.specs.Counting.{times, one, Has}
use Rattle.sv_tokens.specs.Token.{Element, Token, Open, Text, Anchor, Close, begins, lacks_number}
use Rattle.sv_tokens.specs.Edit.{Rewritten, with_element, with_text}
use Rattle.sv_tokens.specs.Seen.{Seen, Start, Words, View, seen, view_of, starts, ends}
use Rattle.sv_tokens.specs.Replay.{replay, rewrite, with_words, with_start, Edits}
use Rattle.sv_tokens.specs.declared.change.Change.{Change}
use Rattle.sv_tokens.proofs.Counting.{times-append}
use Rattle.sv_tokens.proofs.Splits.{head, tail}
use Rattle.sv_tokens.proofs.Seen.{seen-append, IsNumbered-fewer}
use Rattle.sv_tokens.proofs.Replay.{rewrite-node}
use Rattle.sv_nodes.specs.Nodes.{Kind, element, text, Cell, Nodes, name_of, opening, start, finish, walk, levels, tokens_of, retext, reshape, with_kind}
use Rattle.sv_nodes.specs.Sound.{IsSound}
use Rattle.sv_nodes.specs.Steps.{Rewrites}
use Rattle.sv_nodes.proofs.Around.{around}
use Rattle.sv_nodes.proofs.Growing.{some}
use Rattle.sv_nodes.proofs.Rewriting.{Edited, rewriting, IsAlike, retext-alike, start-retext, reshape-alike, start-reshape}
use Rattle.sv_nodes.proofs.Shrinking.{part-among}
use Rattle.sv_nodes.proofs.Shown.{fewer-ends}
use Rattle.sv_nodes.proofs.Walk.{begins-own}
use Rattle.sv_dom.specs.Dom.{page_of, IsDom}

-- every node but the page has a serial number
pub serial-later : (at : Nodes) (next p : ℕ) (c : Cell) → IsSound at next → at p ≡ Some c → p ≢ 0 → 0 < c.serial
serial-later at next p c sound here other =
    let link = sound.linked p c here other in
    let part = part-among at (name_of c.parent.key link.cell) p link.cell.children (sound.parts c.parent.key link.cell link.at) link.among in
    let same = ap (λ (z : Cell). z.serial) (some (sym part.at ∙ here)) in
    omega (arith, part.later, same)

pub closed : (at : Nodes) (next number : ℕ) → IsDom at next number → (s : ℕ) → times (ends s) (seen (tokens_of at)) ≤ 1
closed at next number dom s = let a = fewer-ends s levels at (0 ∷ []) in let b = dom.numbered.once s in omega (arith, a, b)

-- ---- a rewritten node

-- an edit of a token that keeps its serial number and its printed number
pub record IsGentle (g : Token → Token) : Type 0 where
  pub starting : (s : ℕ) (t : Token) (ts : List Token) → times (starts s) (seen (g t ∷ ts)) ≡ times (starts s) (seen (t ∷ ts))
  pub lacking : (t : Token) → lacks_number (g t) ≡ lacks_number t

pub gentle-element : (f : Element → Element) → IsGentle (with_element f)
gentle-element f = record { starting = starting; lacking = lacking }
  where
    starting : (s : ℕ) (t : Token) (ts : List Token) → times (starts s) (seen (with_element f t ∷ ts)) ≡ times (starts s) (seen (t ∷ ts))
    starting s (Open n p number e) ts = refl
    starting s (Text n p number bytes) ts = refl
    starting s (Anchor n p) ts = refl
    starting s (Close n name) ts = refl

    lacking : (t : Token) → lacks_number (with_element f t) ≡ lacks_number t
    lacking (Open n p number e) = refl
    lacking (Text n p number bytes) = refl
    lacking (Anchor n p) = refl
    lacking (Close n name) = refl

pub gentle-text : (bytes : List ℕ) → IsGentle (with_text bytes)
gentle-text bytes = record { starting = starting; lacking = lacking }
  where
    starting : (s : ℕ) (t : Token) (ts : List Token) → times (starts s) (seen (with_text bytes t ∷ ts)) ≡ times (starts s) (seen (t ∷ ts))
    starting s (Open n p number e) ts = refl
    starting s (Text n p number was) ts = refl
    starting s (Anchor n p) ts = refl
    starting s (Close n name) ts = refl

    lacking : (t : Token) → lacks_number (with_text bytes t) ≡ lacks_number t
    lacking (Open n p number e) = refl
    lacking (Text n p number was) = refl
    lacking (Anchor n p) = refl
    lacking (Close n name) = refl

IsDom-rewritten : (at at' : Nodes) (next number p : ℕ) (g : Token → Token) → IsGentle g → IsDom at next number → IsSound at' next → Rewritten (tokens_of at) (tokens_of at') p g → IsDom at' next number
IsDom-rewritten at at' next number p g gentle dom sound r = record {
  sound = sound;
  numbered = IsNumbered-fewer (seen (tokens_of at)) (seen (tokens_of at')) next (λ s. (let e = starting s in omega (arith, e))) dom.numbered;
  counted = (let e = lacking in let c = dom.counted in omega (arith, e, c));
}
  where
    starting : (s : ℕ) → times (starts s) (seen (tokens_of at')) ≡ times (starts s) (seen (tokens_of at))
    starting s =
        let x = ap (λ z. times (starts s) (seen z)) r.is ∙ (ap (times (starts s)) (seen-append r.pre (g r.token ∷ r.post)) ∙ times-append (starts s) (seen r.pre) (seen (g r.token ∷ r.post))) in
        let y = ap (λ z. times (starts s) (seen z)) r.was ∙ (ap (times (starts s)) (seen-append r.pre (r.token ∷ r.post)) ∙ times-append (starts s) (seen r.pre) (seen (r.token ∷ r.post))) in
        let same = gentle.starting s r.token r.post in
        omega (arith, x, y, same)

    lacking : times lacks_number (tokens_of at') ≡ times lacks_number (tokens_of at)
    lacking =
        let x = ap (times lacks_number) r.is ∙ times-append lacks_number r.pre (g r.token ∷ r.post) in
        let y = ap (times lacks_number) r.was ∙ times-append lacks_number r.pre (r.token ∷ r.post) in
        let same = ap one (gentle.lacking r.token) in
        omega (arith, x, y, same)

-- an edit that was told
pub record Told (at at' : Nodes) (next number p : ℕ) (g : Token → Token) (change : Change) : Type 0 where
  pub dom : IsDom at' next number
  pub edits : Edits (page_of at next number) (page_of at' next number) p g (Some change)

-- what is seen is another where one token is
differs : (pre : List Token) (s t : Seen) (post post' : List Seen) → seen pre ++ (s ∷ post) ≡ seen pre ++ (t ∷ post') → s ≡ t
differs pre s t post post' e = go (seen pre) e
  where
    go : (xs : List Seen) → xs ++ (s ∷ post) ≡ xs ++ (t ∷ post') → s ≡ t
    go [] e = head e
    go (x ∷ xs) e = go xs (tail e)

module _ (at at' : Nodes) (next number p : ℕ) (dom : IsDom at next number) (other : p ≢ 0) (c : Cell) (here : at p ≡ Some c) (has : Has (begins p) (tokens_of at)) where
  told_by : (g : Token → Token) (s t : Seen) (h : Seen → Seen) (change : Change) → IsGentle g → Edited at at' next p g → starts c.serial s ≡ true
      → ((ts : List Token) → seen (start p c ∷ ts) ≡ s ∷ seen ts) → ((ts : List Token) → seen (g (start p c) ∷ ts) ≡ t ∷ seen ts) → h s ≡ t → (t ≡ s → ⊥)
      → ((v : View) → replay change v ≡ rewrite c.serial h v) → Told at at' next number p g change
  told_by g s t h change gentle e begun seen_was seen_is same another means =
      let a = around at next p dom.sound has in
      let cell : a.cell ≡ c = some (sym a.here ∙ here) in
      let rest = walk a.level at a.cell.children ++ (finish p a.cell ++ a.post) in
      let was : tokens_of at ≡ a.pre ++ (start p c ∷ rest) = a.old ∙ ap (λ (z : Cell). a.pre ++ (start p z ∷ rest)) cell in
      let is : tokens_of at' ≡ a.pre ++ (g (start p c) ∷ rest) = e.tokens.only a.pre rest (start p c) (begins-own p c) was in
      record {
        dom = IsDom-rewritten at at' next number p g gentle dom e.sound e.tokens;
        edits = record {
          tokens = e.tokens;
          next = refl;
          number = refl;
          tells = record {
            replayed = rewrite-node (page_of at next number) (page_of at' next number) a.pre rest (start p c) (g (start p c)) s t c.serial h (dom.numbered.once c.serial)
                (serial-later at next p c dom.sound here other) begun seen_was seen_is same was is refl ∙ sym (means (view_of (page_of at next number)));
            some = λ yes equal. another (differs a.pre t s (seen rest) (seen rest)
                (sym (ap seen is ∙ (seen-append a.pre (g (start p c) ∷ rest) ∙ ap (λ z. seen a.pre ++ z) (seen_is rest)))
                ∙ (ap (λ (v : View). v.tokens) equal ∙ (ap seen was ∙ (seen-append a.pre (start p c ∷ rest) ∙ ap (λ z. seen a.pre ++ z) (seen_was rest))))));
            none = λ no. absurd (never change no);
          };
        };
      }
    where
      never : (x : Change) → IsNone (Some x) → ⊥
      never x e = cc

  abbrev as_text : List ℕ → Cell
  as_text bytes = record c { kind = text bytes }

  pub told-text : (was bytes : List ℕ) (change : Change) → c.kind ≡ text was → Rewrites at at' p (with_kind (retext bytes)) → (retext bytes c.kind ≡ c.kind → ⊥)
      → ((v : View) → replay change v ≡ rewrite c.serial (with_words bytes) v) → Told at at' next number p (with_text bytes) change
  told-text was bytes change kind rewrites another means =
      told_by (with_text bytes) (Words c.serial c.parent.serial was) (Words c.serial c.parent.serial bytes) (with_words bytes) change (gentle-text bytes)
      (rewriting at at' next p (with_kind (retext bytes)) (with_text bytes) dom.sound has (retext-alike bytes) (start-retext bytes p) rewrites) (eq-eqb c.serial c.serial refl)
      (λ ts. ap (λ w. seen (opening (name_of p c) c.parent c.number w ∷ ts)) kind) (λ ts. ap (λ w. seen (with_text bytes (opening (name_of p c) c.parent c.number w) ∷ ts)) kind) refl
      (λ e. another (ap (retext bytes) kind ∙ (ap text (words e) ∙ sym kind))) means
    where
      words : {s q : ℕ} {x y : List ℕ} → Words s q x ≡ Words s q y → x ≡ y
      words e = cc

  pub told-element : (e : Element) (f : Element → Element) (change : Change) → ((x : Element) → (f x).name ≡ x.name) → c.kind ≡ element e → Rewrites at at' p (with_kind (reshape f)) → (reshape f c.kind ≡ c.kind → ⊥)
      → ((v : View) → replay change v ≡ rewrite c.serial (with_start f) v) → Told at at' next number p (with_element f) change
  told-element e f change names kind rewrites another means =
      told_by (with_element f) (Start c.serial c.parent.serial e) (Start c.serial c.parent.serial (f e)) (with_start f) change (gentle-element f)
      (rewriting at at' next p (with_kind (reshape f)) (with_element f) dom.sound has (reshape-alike f names) (start-reshape f p) rewrites) (eq-eqb c.serial c.serial refl)
      (λ ts. ap (λ w. seen (opening (name_of p c) c.parent c.number w ∷ ts)) kind) (λ ts. ap (λ w. seen (with_element f (opening (name_of p c) c.parent c.number w) ∷ ts)) kind) refl
      (λ h. another (ap (reshape f) kind ∙ (ap element (starts_with h) ∙ sym kind))) means
    where
      starts_with : {s q : ℕ} {x y : Element} → Start s q x ≡ Start s q y → x ≡ y
      starts_with e = cc

-- nothing was edited
pub kept-by : (at : Nodes) (next number p : ℕ) (f : Kind → Kind) (g : Token → Token) (c : Cell) → IsDom at next number → at p ≡ Some c → Has (begins p) (tokens_of at)
    → ((x : Cell) → IsAlike x (with_kind f x)) → ((x : Cell) → start p (with_kind f x) ≡ g (start p x)) → f c.kind ≡ c.kind → Edits (page_of at next number) (page_of at next number) p g None
kept-by at next number p f g c dom here has alike shows same = record {
  tokens = (rewriting at at next p (with_kind f) g dom.sound has alike shows (record {
    here = here ∙ (ap (λ w. Some (record c { kind = w })) (sym same) ∙ sym (ap (option_map (with_kind f)) here));
    others = λ k ne. refl;
  })).tokens;
  next = refl;
  number = refl;
  tells = record { replayed = refl; some = λ yes. absurd (never yes); none = λ no. refl };
}
  where
    never : IsSome (let x : Option Change = None in x) → ⊥
    never e = cc
