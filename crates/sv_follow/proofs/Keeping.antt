-- At the end of a way stands the node that stood there.
use Rattle.std.proofs.Common.{◌≡◌, ◌≤◌, ℕ, List, [], ◌∷◌, ◌++◌, Bool, true, false, Option, Some, None, refl, ap, sym, ◌∙◌, subst, arith}
use Rattle.std.specs.Prelude.{if◌then◌else◌}
use Rattle.std.specs.Str.{bytes_eq}
use Rattle.std.specs.Cmp.Lexicographic.{same_text}
use Rattle.std.proofs.lemmas.Option.{none-some}
use Rattle.sv_commit.proofs.Names.{known-number}
use Rattle.sv_follow.specs.Ways.{Way, to_text, to_element, through, node_at}
use Rattle.sv_live.proofs.Known.{known-none}
use Rattle.sv_live.specs.Kept.{IsNamed, IsSole, IsKept, kept_text, kept_element, kept_hole, AreKept}
use Rattle.sv_live.specs.Known.{by_mark, answers, or_else, known, text_node, text_node_in, element_node, element_node_in, inside, inside_in}
use Rattle.sv_live.specs.declared.live.Live.{Live, Live-F, out-Live}
use Rattle.sv_live.specs.declared.live.Live.TheVariants as live
use Rattle.sv_live.specs.declared.live.Named.{Named}
use Rattle.sv_live.specs.declared.node.Own.{Own}
use Rattle.sv_tokens.specs.Counting.{one, times}

some-same : {A : Type 0} (x y : A) → Some x ≡ Some y → x ≡ y
some-same x y e = cc

-- ---- what is known by a number that is there once

pub record IsParted (n : ℕ) (l : Live) (lives : List Live) : Type 0 where
  pub front : List Live
  pub back : List Live
  pub is : lives ≡ front ++ l ∷ back
  pub ahead : times (answers n) front ≡ 0
  pub behind : times (answers n) back ≡ 0

or_else-none : (o : Option Live) → or_else o None ≡ o
or_else-none None = refl
or_else-none (Some l) = refl

pub parted : (n : ℕ) (lives : List Live) (l : Live) → known n lives ≡ Some l → times (answers n) lives ≤ 1 → IsParted n l lives
parted n [] l found few = absurd (none-some l found)
parted n (x ∷ xs) l found few = go (answers n x) refl (parted n xs l)
  where
    go : (b : Bool) → answers n x ≡ b → (known n xs ≡ Some l → times (answers n) xs ≤ 1 → IsParted n l xs) → IsParted n l (x ∷ xs)
    go true hit rest =
        let w = ap one hit in
        let none : times (answers n) xs ≡ 0 = omega (arith, w, few) in
        let here : known n (x ∷ xs) ≡ Some x = (λ i. or_else (known-none n xs none i) (if hit i then Some x else None)) in
        let same = some-same x l (sym here ∙ found) in
        record { front = []; back = xs; is = ap (λ z. z ∷ xs) same; ahead = refl; behind = none }
    go false miss rest =
        let w = ap one miss in
        let here : known n (x ∷ xs) ≡ known n xs = (λ i. or_else (known n xs) (if miss i then Some x else None)) ∙ or_else-none (known n xs) in
        let p = rest (sym here ∙ found) (omega (arith, w, few)) in
        record { front = x ∷ p.front; back = p.back; is = ap (λ z. x ∷ z) p.is; ahead = (let a = p.ahead in omega (arith, w, a)); behind = p.behind }

sole : (n : ℕ) (lives : List Live) (l : Live) → known n lives ≡ Some l → times (answers n) lives ≤ 1 → IsSole l lives
sole n lives l found few =
    let p = parted n lives l found few in
    let same = sym (known-number n lives l found) in
    record { front = p.front; back = p.back; is = p.is; ahead = subst (λ m. times (answers m) p.front ≡ 0) same p.ahead; behind = subst (λ m. times (answers m) p.back ≡ 0) same p.behind }

kept-known : (next n : ℕ) (was now : List Live) (l : Live) → AreKept next was now → known n now ≡ Some l → times (answers n) now ≤ 1 → IsKept next (known n was) l
kept-known next n was now l kept found few = subst (λ m. IsKept next (known m was) l) (known-number n now l found) (kept l (sole n now l found few))

-- ---- a text, and an element

kept-text : (next : ℕ) (was : Option Live) (l : Live) (n : Named) → IsKept next was l → text_node (Some l) ≡ Some n → IsNamed next (text_node was) n
kept-text next was l n (kept_text _ _ mark m text named) e = subst (IsNamed next (text_node was)) (some-same m n (sym (ap text_node_in (live.outs-Text mark m text)) ∙ e)) named
kept-text next was l n (kept_element _ _ m own parts named below) e = absurd (none-some n (sym (ap text_node_in (live.outs-Element m own parts)) ∙ e))
kept-text next was l n (kept_hole _ _ place anchor parts seated) e = absurd (none-some n (sym (ap text_node_in (live.outs-Hole place anchor parts)) ∙ e))

record IsElementKept (next : ℕ) (was : Option Live) (name : List ℕ) (l : Live) (n : Named) : Type 0 where
  named : IsNamed next (element_node name was) n
  inner : AreKept next (inside name was) (inside name (Some l))

element-by : (next : ℕ) (was : Option Live) (name : List ℕ) (m : Named) (own : Own) (parts : List Live) (n : Named) → IsNamed next (element_node own.name was) m → AreKept next (inside own.name was) parts → (if bytes_eq own.name name then Some m else None) ≡ Some n
    → IsElementKept next was name (live.Element m own parts) n
element-by next was name m own parts n named below e = go (bytes_eq own.name name) refl
  where
    go : (b : Bool) → bytes_eq own.name name ≡ b → IsElementKept next was name (live.Element m own parts) n
    go true h =
        let same = same_text own.name name (sym h) in
        let hit : (if bytes_eq own.name name then Some m else None) ≡ Some m = (λ i. if h i then Some m else None) in
        let within : (if bytes_eq own.name name then parts else []) ≡ parts = (λ i. if h i then parts else []) in
        let node = some-same m n (sym hit ∙ e) in
        let parts_are : parts ≡ inside name (Some (live.Element m own parts)) = sym (ap (inside_in name) (live.outs-Element m own parts) ∙ within) in
        record {
          named = subst (IsNamed next (element_node name was)) node (subst (λ z. IsNamed next (element_node z was) m) same named);
          inner = subst (λ (ps : List Live). AreKept next (inside name was) ps) parts_are (subst (λ z. AreKept next (inside z was) parts) same below);
        }
    go false h =
        let miss : (if bytes_eq own.name name then Some m else None) ≡ None = (λ i. if h i then Some m else None) in
        absurd (none-some n (sym miss ∙ e))

kept-element : (next : ℕ) (was : Option Live) (name : List ℕ) (l : Live) (n : Named) → IsKept next was l → element_node name (Some l) ≡ Some n → IsElementKept next was name l n
kept-element next was name l n (kept_text _ _ mark m text named) e = absurd (none-some n (sym (ap (element_node_in name) (live.outs-Text mark m text)) ∙ e))
kept-element next was name l n (kept_hole _ _ place anchor parts seated) e = absurd (none-some n (sym (ap (element_node_in name) (live.outs-Hole place anchor parts)) ∙ e))
kept-element next was name l n (kept_element _ _ m own parts named below) e = element-by next was name m own parts n named below (sym (ap (element_node_in name) (live.outs-Element m own parts)) ∙ e)

none-inside-in : (name : List ℕ) (z : Live-F Live) → element_node_in name z ≡ None → inside_in name z ≡ []
none-inside-in name (Live-F.Text mark n text) e = refl
none-inside-in name (Live-F.Hole place anchor parts) e = refl
none-inside-in name (Live-F.Element n own parts) e = go (bytes_eq own.name name) e
  where
    go : (b : Bool) → (if b then Some n else None) ≡ None → (if b then parts else []) ≡ []
    go true f = absurd (none-some n (sym f))
    go false f = refl

-- ---- whole ways

-- no mark on the way stands twice beside the others there
abbrev pub IsAlone : ℕ → List Live → Type 0
IsAlone mark lives = times (answers (by_mark mark)) lives ≤ 1

abbrev pub AreAlone : Way → List Live → Type 0
AreAlone (to_text mark) lives = IsAlone mark lives
AreAlone (to_element mark name) lives = IsAlone mark lives
AreAlone (through mark name way) lives = IsAlone mark lives × AreAlone way (inside name (known (by_mark mark) lives))

pub nowhere : (way : Way) → node_at way [] ≡ None
nowhere (to_text mark) = refl
nowhere (to_element mark name) = refl
nowhere (through mark name way) = nowhere way

-- what holds of a way inside of kept ones
abbrev Deeper : ℕ → Way → Named → Type 0
Deeper next way n = (was now : List Live) → AreKept next was now → AreAlone way now → node_at way now ≡ Some n → IsNamed next (node_at way was) n

keeps-through : (next : ℕ) (was now : List Live) → AreKept next was now → (mark : ℕ) (name : List ℕ) (way : Way) (n : Named) → Deeper next way n → IsAlone mark now → AreAlone way (inside name (known (by_mark mark) now)) → node_at way (inside name (known (by_mark mark) now)) ≡ Some n
    → IsNamed next (node_at way (inside name (known (by_mark mark) was))) n
keeps-through next was now kept mark name way n deeper alone below e = go (known (by_mark mark) now) refl below e
  where
    within : (l : Live) → known (by_mark mark) now ≡ Some l → (o : Option Named) → element_node name (Some l) ≡ o → AreAlone way (inside name (Some l)) → node_at way (inside name (Some l)) ≡ Some n
        → IsNamed next (node_at way (inside name (known (by_mark mark) was))) n
    within l found None other under f = absurd (none-some n (sym (ap (node_at way) (none-inside-in name (out-Live l) other) ∙ nowhere way) ∙ f))
    within l found (Some m) here under f =
        deeper (inside name (known (by_mark mark) was)) (inside name (Some l)) (kept-element next (known (by_mark mark) was) name l m (kept-known next (by_mark mark) was now l kept found alone) here).inner under f

    go : (o : Option Live) → known (by_mark mark) now ≡ o → AreAlone way (inside name o) → node_at way (inside name o) ≡ Some n → IsNamed next (node_at way (inside name (known (by_mark mark) was))) n
    go None found under f = absurd (none-some n (sym (nowhere way) ∙ f))
    go (Some l) found under f = within l found (element_node name (Some l)) refl under f

pub keeps : (next : ℕ) (was now : List Live) → AreKept next was now → (way : Way) (n : Named) → AreAlone way now → node_at way now ≡ Some n → IsNamed next (node_at way was) n
keeps next was now kept (to_text mark) n clear e = go (known (by_mark mark) now) refl e
  where
    go : (o : Option Live) → known (by_mark mark) now ≡ o → text_node o ≡ Some n → IsNamed next (text_node (known (by_mark mark) was)) n
    go None found f = absurd (none-some n f)
    go (Some l) found f = kept-text next (known (by_mark mark) was) l n (kept-known next (by_mark mark) was now l kept found clear) f
keeps next was now kept (to_element mark name) n clear e = go (known (by_mark mark) now) refl e
  where
    go : (o : Option Live) → known (by_mark mark) now ≡ o → element_node name o ≡ Some n → IsNamed next (element_node name (known (by_mark mark) was)) n
    go None found f = absurd (none-some n f)
    go (Some l) found f = (kept-element next (known (by_mark mark) was) name l n (kept-known next (by_mark mark) was now l kept found clear) f).named
keeps next was now kept (through mark name way) n clear e = keeps-through next was now kept mark name way n (λ w x k alone f. keeps next w x k way n alone f) clear.0 clear.1 e
