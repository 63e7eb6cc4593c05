-- The tokens of what is shown.
use Rattle.std.proofs.Common.{◌≡◌, ◌≤◌, ℕ, List, [], ◌∷◌, ◌++◌, map, true, Option, Some, None, refl, ap, sym, ◌∙◌, subst, append_assoc}
use Rattle.std.proofs.lemmas.Bool.{eq-eqb, and_from}
use Rattle.sv_tokens.specs.Counting.{times, leads}
use Rattle.sv_tokens.specs.Token.{Name, named, Element, Token, Open, Text, Anchor, Close, begins, is_child, parent_at, IsSpan, one_text, one_anchor, whole}
use Rattle.sv_tokens.proofs.Moving.{parent-here}
use Rattle.std.specs.Prelude.{◌==◌, ◌&&◌, slice_get}
use Rattle.std.proofs.lemmas.List.{append-nil}
use Rattle.sv_live.specs.declared.live.Named.{Named}
use Rattle.sv_live.specs.declared.live.Live.{Live, Live-F, out-Live, roll-Live, fold_out-Live, fold-roll-Live, map-Live, ind-Live}
use Rattle.sv_live.specs.declared.live.Live.TheVariants as live
use Rattle.sv_live.specs.declared.node.Own.{Own}
use Rattle.sv_live.specs.Shown.{name_of, element_of, Drawn, joined, Numbers, draw, drawn, drawn_all, first_or, lead_in, lead}

-- ---- one layer

pub drawn-out : (numbers : Numbers) (l : Live) → drawn numbers l ≡ draw numbers (map-Live _ _ (drawn numbers) (out-Live l))
unfolding drawn
drawn-out numbers l = fold_out-Live Drawn (draw numbers) l

pub drawn-Text : (numbers : Numbers) (above : Name) (mark : ℕ) (n : Named) (text : List ℕ) → drawn numbers (live.Text mark n text) above ≡ Text (name_of n) above (numbers n.serial) text ∷ []
drawn-Text numbers above mark n text = ap (λ f. f above) (drawn-out numbers (live.Text mark n text) ∙ ap (λ z. draw numbers (map-Live _ _ (drawn numbers) z)) (live.outs-Text mark n text))

pub drawn-Element : (numbers : Numbers) (above : Name) (n : Named) (own : Own) (parts : List Live)
    → drawn numbers (live.Element n own parts) above ≡ Open (name_of n) above (numbers n.serial) (element_of own) ∷ (drawn_all numbers parts (name_of n) ++ (Close (name_of n) own.name ∷ []))
unfolding drawn_all
drawn-Element numbers above n own parts = ap (λ f. f above) (drawn-out numbers (live.Element n own parts) ∙ ap (λ z. draw numbers (map-Live _ _ (drawn numbers) z)) (live.outs-Element n own parts))

pub drawn-Hole : (numbers : Numbers) (above : Name) (place anchor : ℕ) (parts : List Live) → drawn numbers (live.Hole place anchor parts) above ≡ drawn_all numbers parts above ++ (Anchor anchor above ∷ [])
unfolding drawn_all
drawn-Hole numbers above place anchor parts = ap (λ f. f above) (drawn-out numbers (live.Hole place anchor parts) ∙ ap (λ z. draw numbers (map-Live _ _ (drawn numbers) z)) (live.outs-Hole place anchor parts))

pub drawn-nil : (numbers : Numbers) (above : Name) → drawn_all numbers [] above ≡ []
unfolding drawn_all
drawn-nil numbers above = refl

pub drawn-cons : (numbers : Numbers) (above : Name) (l : Live) (ls : List Live) → drawn_all numbers (l ∷ ls) above ≡ drawn numbers l above ++ drawn_all numbers ls above
unfolding drawn_all
drawn-cons numbers above l ls = refl

pub drawn_all-append : (numbers : Numbers) (above : Name) (xs ys : List Live) → drawn_all numbers (xs ++ ys) above ≡ drawn_all numbers xs above ++ drawn_all numbers ys above
unfolding drawn_all
drawn_all-append numbers above [] ys = refl
drawn_all-append numbers above (x ∷ xs) ys = ap (λ z. drawn numbers x above ++ z) (drawn_all-append numbers above xs ys) ∙ sym (append_assoc (drawn numbers x above) (drawn_all numbers xs above) (drawn_all numbers ys above))

pub drawn-one : (numbers : Numbers) (above : Name) (l : Live) → drawn_all numbers (l ∷ []) above ≡ drawn numbers l above
unfolding drawn_all
drawn-one numbers above l = append-nil (drawn numbers l above)

-- ---- first nodes

lead-out : (l : Live) → lead l ≡ lead_in (map-Live _ _ lead (out-Live l))
unfolding lead
lead-out l = fold_out-Live ℕ lead_in l

pub lead-Text : (l : Live) (mark : ℕ) (n : Named) (text : List ℕ) → l ≡ live.Text mark n text → lead l ≡ n.key
lead-Text l mark n text is = ap lead is ∙ (lead-out (live.Text mark n text) ∙ ap (λ z. lead_in (map-Live _ _ lead z)) (live.outs-Text mark n text))

pub lead-Element : (l : Live) (n : Named) (own : Own) (parts : List Live) → l ≡ live.Element n own parts → lead l ≡ n.key
lead-Element l n own parts is = ap lead is ∙ (lead-out (live.Element n own parts) ∙ ap (λ z. lead_in (map-Live _ _ lead z)) (live.outs-Element n own parts))

pub lead-Hole : (l : Live) (place anchor : ℕ) (parts : List Live) → l ≡ live.Hole place anchor parts → lead l ≡ first_or anchor (map lead parts)
lead-Hole l place anchor parts is = ap lead is ∙ (lead-out (live.Hole place anchor parts) ∙ ap (λ z. lead_in (map-Live _ _ lead z)) (live.outs-Hole place anchor parts))

-- the first of some
none-some : (z : Option Live) (x : Live) → z ≡ None → z ≡ Some x → ⊥
none-some z x e f = cc

some-same : (p x : Live) → Some p ≡ Some x → p ≡ x
some-same p x e = cc

pub first-Some : (anchor : ℕ) (parts : List Live) (x : Live) → Some x ≡ slice_get parts 0 → first_or anchor (map lead parts) ≡ lead x
first-Some anchor [] x e = absurd (none-some None x refl (sym e))
first-Some anchor (p ∷ ps) x e = ap lead (some-same p x (sym e))

pub first-None : (anchor : ℕ) (parts : List Live) → None ≡ slice_get parts 0 → first_or anchor (map lead parts) ≡ anchor
first-None anchor [] e = refl
first-None anchor (p ∷ ps) e = absurd (none-some (Some p) p (sym e) refl)

-- what is drawn begins with a child of the parent
abbrev pub Leads : Live → Type 0
Leads l = (numbers : Numbers) (above : Name) (rest : List Token) → leads (is_child above.key (lead l)) (drawn numbers l above ++ rest) ≡ true

abbrev Leading : Type 0
Leading = (l : Live) × Leads l

child : (key parent : ℕ) → ((key == key) && (parent == parent)) ≡ true
child key parent = and_from (key == key) (parent == parent) (eq-eqb key key refl) (eq-eqb parent parent refl)

bare-leads : (y : Live-F Leading) (numbers : Numbers) (above : Name) (rest : List Token)
    → leads (is_child above.key (lead_in (map-Live _ _ lead (map-Live _ _ (λ (e : Leading). e.0) y)))) (draw numbers (map-Live _ _ (drawn numbers) (map-Live _ _ (λ (e : Leading). e.0) y)) above ++ rest) ≡ true
bare-leads (Live-F.Text mark n text) numbers above rest = child n.key above.key
bare-leads (Live-F.Element n own parts) numbers above rest = child n.key above.key
bare-leads (Live-F.Hole place anchor []) numbers above rest = child anchor above.key
bare-leads (Live-F.Hole place anchor (p ∷ ps)) numbers above rest =
    let more = joined (map (drawn numbers) (map (λ (e : Leading). e.0) ps)) above in
    ap (leads (is_child above.key (lead p.0))) (append_assoc (drawn numbers p.0 above ++ more) (Anchor anchor above ∷ []) rest ∙ append_assoc (drawn numbers p.0 above) more (Anchor anchor above ∷ rest))
    ∙ p.1 numbers above (more ++ (Anchor anchor above ∷ rest))

rolled : (y : Live-F Leading) → Leads (roll-Live (map-Live _ _ (λ (e : Leading). e.0) y))
unfolding drawn lead
rolled y numbers above rest =
    let x = map-Live _ _ (λ (e : Leading). e.0) y in
    let a = ap (λ (f : Drawn). f above) (fold-roll-Live Drawn (draw numbers) x) in
    let b = fold-roll-Live ℕ lead_in x in
    ap (λ k. leads (is_child above.key k) (drawn numbers (roll-Live x) above ++ rest)) b ∙ (ap (λ z. leads (is_child above.key (lead_in (map-Live _ _ lead x))) (z ++ rest)) a ∙ bare-leads y numbers above rest)

pub leads-drawn : (l : Live) → Leads l
leads-drawn = ind-Live Leads (λ x y is. subst (λ z. Leads (roll-Live z)) is (rolled y))

-- ---- single nodes

-- the tokens of one node and all below it, under that parent
pub data Single : ℕ → Name → List Token → Type 0 where
  lone_text : (key serial : ℕ) (above : Name) (number : Option ℕ) (bytes : List ℕ) → Single key above (Text (named key serial) above number bytes ∷ [])
  lone_anchor : (key : ℕ) (above : Name) → Single key above (Anchor key above ∷ [])
  lone_element : (key serial : ℕ) (above : Name) (number : Option ℕ) (element : Element) (inner : List Token) (name : List ℕ)
      → Single key above (Open (named key serial) above number element ∷ (inner ++ (Close (named key serial) name ∷ [])))

pub single-span : (key : ℕ) (above : Name) (own : List Token) → Single key above own → IsSpan key own
single-span key above own (lone_text k s a n b) = one_text key s above n b
single-span key above own (lone_anchor k a) = one_anchor key above
single-span key above own (lone_element k s a n e inner name) = whole key s above n e inner name

pub single-leads : (key : ℕ) (above : Name) (own rest : List Token) → Single key above own → leads (is_child above.key key) (own ++ rest) ≡ true
single-leads key above own rest (lone_text k s a n b) = child key above.key
single-leads key above own rest (lone_anchor k a) = child key above.key
single-leads key above own rest (lone_element k s a n e inner name) = child key above.key

pub single-parent : (key : ℕ) (above : Name) (own front rest : List Token) → Single key above own → times (begins key) (front ++ (own ++ rest)) ≤ 1 → parent_at key (front ++ (own ++ rest)) ≡ above
single-parent key above own front rest (lone_text k s a n b) once = parent-here key front _ (Text (named key s) above n b) (eq-eqb key key refl) once
single-parent key above own front rest (lone_anchor k a) once = parent-here key front _ (Anchor key above) (eq-eqb key key refl) once
single-parent key above own front rest (lone_element k s a n e inner name) once = parent-here key front _ (Open (named key s) above n e) (eq-eqb key key refl) once

pub single-Text : (numbers : Numbers) (above : Name) (mark : ℕ) (n : Named) (text : List ℕ) → Single n.key above (drawn numbers (live.Text mark n text) above)
single-Text numbers above mark n text = subst (Single n.key above) (sym (drawn-Text numbers above mark n text)) (lone_text n.key n.serial above (numbers n.serial) text)

pub single-Element : (numbers : Numbers) (above : Name) (n : Named) (own : Own) (parts : List Live) → Single n.key above (drawn numbers (live.Element n own parts) above)
single-Element numbers above n own parts =
    subst (Single n.key above) (sym (drawn-Element numbers above n own parts)) (lone_element n.key n.serial above (numbers n.serial) (element_of own) (drawn_all numbers parts (name_of n)) own.name)
