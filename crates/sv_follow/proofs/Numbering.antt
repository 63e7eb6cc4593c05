-- A page whose nodes take printed numbers shows what it showed.
use Rattle.std.proofs.Common.{◌≡◌, ◌≤◌, ◌+◌, ℕ, List, [], ◌∷◌, ◌++◌, map, Bool, true, false, Option, Some, None, refl, ap, sym, ◌∙◌, subst, arith, append_assoc}
use Rattle.std.specs.Prelude.{◌==◌, if◌then◌else◌}
use Rattle.std.proofs.lemmas.Bool.{eq-eqb}
use Rattle.std.proofs.lemmas.List.{map-append}
use Rattle.sv_commit.specs.Root.{IsPage, page_tokens}
use Rattle.sv_live.specs.Shown.{Numbers, Drawn, name_of, element_of, joined, draw, drawn, drawn_all}
use Rattle.sv_live.specs.Stands.{IsFresh}
use Rattle.sv_live.specs.declared.live.Live.{Live, Live-F, roll-Live, map-Live, fold-roll-Live, ind-Live}
use Rattle.sv_tokens.proofs.Counting.{times-append}
use Rattle.sv_tokens.proofs.Numbering.{give, numbered-cons, seen-numbered}
use Rattle.sv_tokens.specs.Counting.{one, times}
use Rattle.sv_tokens.specs.Numbering.{numbered}
use Rattle.sv_tokens.specs.Replay.{bare}
use Rattle.sv_tokens.specs.Seen.{seen, starts, IsNumbered}
use Rattle.sv_tokens.specs.Token.{Name, named, Token, Open, Text, Anchor, Close, Page, lacks_number}

-- ---- tokens with the printed numbers of their serial numbers

abbrev renumbered : Numbers → Token → Token
renumbered f (Open node parent number element) = Open node parent (f node.serial) element
renumbered f (Text node parent number bytes) = Text node parent (f node.serial) bytes
renumbered f (Anchor key parent) = Anchor key parent
renumbered f (Close node name) = Close node name

abbrev IsRenumbered : Live → Type 0
IsRenumbered l = (f g : Numbers) (above : Name) → drawn g l above ≡ map (renumbered g) (drawn f l above)

abbrev Claimed : Type 0
Claimed = (l : Live) × IsRenumbered l

abbrev lives_of : List Claimed → List Live
lives_of cs = map (λ (c : Claimed). c.0) cs

list-renumbered : (cs : List Claimed) (f g : Numbers) (above : Name) → joined (map (drawn g) (lives_of cs)) above ≡ map (renumbered g) (joined (map (drawn f) (lives_of cs)) above)
list-renumbered [] f g above = refl
list-renumbered (c ∷ cs) f g above = (λ i. c.1 f g above i ++ list-renumbered cs f g above i) ∙ sym (map-append (renumbered g) (drawn f c.0 above) (joined (map (drawn f) (lives_of cs)) above))

form-renumbered : (y : Live-F Claimed) (f g : Numbers) (above : Name) → draw g (map-Live _ _ (drawn g) (map-Live _ _ (λ (c : Claimed). c.0) y)) above ≡ map (renumbered g) (draw f (map-Live _ _ (drawn f) (map-Live _ _ (λ (c : Claimed). c.0) y)) above)
form-renumbered (Live-F.Text mark n text) f g above = refl
form-renumbered (Live-F.Element n own cs) f g above =
    ap (λ z. Open (name_of n) above (g n.serial) (element_of own) ∷ z)
    (ap (λ z. z ++ (Close (name_of n) own.name ∷ [])) (list-renumbered cs f g (name_of n)) ∙ sym (map-append (renumbered g) (joined (map (drawn f) (lives_of cs)) (name_of n)) (Close (name_of n) own.name ∷ [])))
form-renumbered (Live-F.Hole place anchor cs) f g above =
    ap (λ z. z ++ (Anchor anchor above ∷ [])) (list-renumbered cs f g above) ∙ sym (map-append (renumbered g) (joined (map (drawn f) (lives_of cs)) above) (Anchor anchor above ∷ []))

rolled : (y : Live-F Claimed) → IsRenumbered (roll-Live (map-Live _ _ (λ (c : Claimed). c.0) y))
unfolding drawn
rolled y f g above =
    let x = map-Live _ _ (λ (c : Claimed). c.0) y in
    ap (λ (d : Drawn). d above) (fold-roll-Live Drawn (draw g) x) ∙ (form-renumbered y f g above ∙ sym (ap (λ (d : Drawn). map (renumbered g) (d above)) (fold-roll-Live Drawn (draw f) x)))

one-renumbered : (l : Live) → IsRenumbered l
one-renumbered = ind-Live IsRenumbered (λ x y is. subst (λ z. IsRenumbered (roll-Live z)) is (rolled y))

all-renumbered : (ls : List Live) (f g : Numbers) (above : Name) → drawn_all g ls above ≡ map (renumbered g) (drawn_all f ls above)
unfolding drawn_all
all-renumbered [] f g above = refl
all-renumbered (l ∷ ls) f g above = (λ i. one-renumbered l f g above i ++ all-renumbered ls f g above i) ∙ sym (map-append (renumbered g) (drawn f l above) (drawn_all f ls above))

-- ---- the printed number of a serial number

abbrev number_of : Token → Option ℕ
number_of (Open node parent number element) = number
number_of (Text node parent number bytes) = number
number_of (Anchor key parent) = None
number_of (Close node name) = None

abbrev begins_with : ℕ → Token → Bool
begins_with s (Open node parent number element) = node.serial == s
begins_with s (Text node parent number bytes) = node.serial == s
begins_with s (Anchor key parent) = false
begins_with s (Close node name) = false

abbrev found : List Token → Numbers
found [] s = None
found (t ∷ ts) s = if begins_with s t then number_of t else found ts s

begins-starts : (s : ℕ) (ts : List Token) → times (begins_with s) ts ≡ times (starts s) (seen ts)
begins-starts s [] = refl
begins-starts s (Open node parent number element ∷ ts) = let rest = begins-starts s ts in omega (arith, rest)
begins-starts s (Text node parent number bytes ∷ ts) = let rest = begins-starts s ts in omega (arith, rest)
begins-starts s (Anchor key parent ∷ ts) = let rest = begins-starts s ts in omega (arith, rest)
begins-starts s (Close node name ∷ ts) = let rest = begins-starts s ts in omega (arith, rest)

found-none : (s : ℕ) (ts : List Token) → times (begins_with s) ts ≡ 0 → found ts s ≡ None
found-none s [] none = refl
found-none s (t ∷ ts) none = go (begins_with s t) refl (found-none s ts)
  where
    go : (b : Bool) → begins_with s t ≡ b → (times (begins_with s) ts ≡ 0 → found ts s ≡ None) → found (t ∷ ts) s ≡ None
    go true e rest = let w = ap one e in absurd (omega (arith, w, none))
    go false e rest = ap (λ b. if b then number_of t else found ts s) e ∙ rest (omega (arith, none))

found-here : (s : ℕ) (front : List Token) (t : Token) (ts : List Token) → begins_with s t ≡ true → times (begins_with s) front ≡ 0 → found (front ++ t ∷ ts) s ≡ number_of t
found-here s [] t ts e none = ap (λ b. if b then number_of t else found ts s) e
found-here s (x ∷ front) t ts e none = go (begins_with s x) refl (found-here s front t ts e)
  where
    go : (b : Bool) → begins_with s x ≡ b → (times (begins_with s) front ≡ 0 → found (front ++ t ∷ ts) s ≡ number_of t) → found (x ∷ (front ++ t ∷ ts)) s ≡ number_of t
    go true h rest = let w = ap one h in absurd (omega (arith, w, none))
    go false h rest = ap (λ b. if b then number_of x else found (front ++ t ∷ ts) s) h ∙ rest (omega (arith, none))

abbrev Once : List Token → Type 0
Once ts = (s : ℕ) → times (begins_with s) ts ≤ 1

-- a token is found under its own number
found-own : (s : ℕ) (front : List Token) (t : Token) (ts : List Token) → begins_with s t ≡ true → Once (front ++ t ∷ ts) → found (front ++ t ∷ ts) s ≡ number_of t
found-own s front t ts e once =
    let most = once s in
    let all = times-append (begins_with s) front (t ∷ ts) in
    let w = ap one e in
    found-here s front t ts e (omega (arith, most, all, w))

same-token : (front : List Token) (t : Token) (ts : List Token) → Once (front ++ t ∷ ts) → renumbered (found (front ++ t ∷ ts)) t ≡ t
same-token front (Open node parent number element) ts once = ap (λ n. Open node parent n element) (found-own node.serial front (Open node parent number element) ts (eq-eqb node.serial node.serial refl) once)
same-token front (Text node parent number bytes) ts once = ap (λ n. Text node parent n bytes) (found-own node.serial front (Text node parent number bytes) ts (eq-eqb node.serial node.serial refl) once)
same-token front (Anchor key parent) ts once = refl
same-token front (Close node name) ts once = refl

same-tokens : (front ts : List Token) → Once (front ++ ts) → map (renumbered (found (front ++ ts))) ts ≡ ts
same-tokens front [] once = refl
same-tokens front (t ∷ ts) once =
    let split = append_assoc front (t ∷ []) ts in
    let more = subst (λ (all : List Token). map (renumbered (found all)) ts ≡ ts) split (same-tokens (front ++ t ∷ []) ts (subst Once (sym split) once)) in
    (λ i. same-token front t ts once i ∷ more i)

-- ---- numbers that are given

given : (f : Numbers) (number : ℕ) (t : Token) → renumbered f (give number t) ≡ renumbered f t
given f number (Open node parent None element) = refl
given f number (Open node parent (Some n) element) = refl
given f number (Text node parent None bytes) = refl
given f number (Text node parent (Some n) bytes) = refl
given f number (Anchor key parent) = refl
given f number (Close node name) = refl

given-all : (f : Numbers) (number : ℕ) (ts : List Token) → map (renumbered f) (numbered number ts) ≡ map (renumbered f) ts
given-all f number [] = refl
given-all f number (t ∷ ts) = ap (map (renumbered f)) (numbered-cons number t ts) ∙ (λ i. given f number t i ∷ given-all f (number + one (lacks_number t)) ts i)

pub numbered-page : (old new : Page) (lives : List Live) → new.tokens ≡ numbered old.number old.tokens → new.next ≡ old.next → IsNumbered (seen old.tokens) old.next → IsPage old lives → IsPage new lives
numbered-page old new lives is next counted page = record { numbers = f; fresh = fresh; tokens = tokens }
  where
    f : Numbers
    f = found (numbered old.number old.tokens)

    count : (s : ℕ) → times (begins_with s) (numbered old.number old.tokens) ≡ times (starts s) (seen old.tokens)
    count s = begins-starts s (numbered old.number old.tokens) ∙ ap (times (starts s)) (seen-numbered old.number old.tokens)

    fresh : IsFresh f new.next
    fresh s late = found-none s (numbered old.number old.tokens) (count s ∙ counted.fresh s (let n = next in omega (arith, n, late)))

    once : Once (numbered old.number old.tokens)
    once s = let c = count s in let most = counted.once s in omega (arith, c, most)

    root : Name
    root = named 0 0

    first : f 0 ≡ Some 0
    first = ap (λ ts. found (numbered old.number ts) 0) page.tokens ∙ ap (λ b. if b then Some 0 else found (numbered old.number (drawn_all page.numbers lives root ++ (Close root [] ∷ []))) 0) (eq-eqb 0 0 refl)

    tokens : new.tokens ≡ page_tokens f lives
    tokens =
        is
        ∙ (sym (same-tokens [] (numbered old.number old.tokens) once)
        ∙ (given-all f old.number old.tokens
        ∙ (ap (map (renumbered f)) page.tokens
        ∙ (λ i. Open root root (first i) (bare []) ∷ (map-append (renumbered f) (drawn_all page.numbers lives root) (Close root [] ∷ []) ∙ ap (λ z. z ++ (Close root [] ∷ [])) (sym (all-renumbered lives page.numbers f root))) i))))
