-- A node stands elsewhere on a page.
use Rattle.std.proofs.Common.{◌≡◌, ◌≤◌, ℕ, List, [], ◌∷◌, ◌++◌, Bool, true, false, Option, refl, ap, sym, ◌∙◌, arith, subst, append_assoc}
use Rattle.std.specs.Prelude.{if◌then◌else◌}
use Rattle.std.proofs.lemmas.Bool.{eq-eqb}
use Rattle.sv_tokens.specs.Counting.{times, one, Has, leads}
use Rattle.sv_tokens.specs.Token.{Name, named, Element, Token, Open, Text, Anchor, Close, begins, closes, parent_of, parent_at, IsSpan, one_text, one_anchor, whole}
use Rattle.sv_tokens.specs.Edit.{spot, Moved}
use Rattle.sv_tokens.specs.Seen.{Seen, seen}
use Rattle.sv_tokens.proofs.Counting.{times-append}
use Rattle.sv_tokens.proofs.Splits.{SameSplit, one_place, unique, head, tail}
use Rattle.sv_tokens.proofs.Seen.{seen-three, seen-append}

open-text : {n p m q : Name} {i j : Option ℕ} {e : Element} {bytes : List ℕ} {xs ys : List Token} → Open n p i e ∷ xs ≡ Text m q j bytes ∷ ys → ⊥
open-text e = cc

open-anchor : {n p q : Name} {k : ℕ} {i : Option ℕ} {e : Element} {xs ys : List Token} → Open n p i e ∷ xs ≡ Anchor k q ∷ ys → ⊥
open-anchor e = cc

text-anchor : {n p q : Name} {k : ℕ} {i : Option ℕ} {bytes : List ℕ} {xs ys : List Token} → Text n p i bytes ∷ xs ≡ Anchor k q ∷ ys → ⊥
text-anchor e = cc

-- a list begins with one node's tokens in one way
pub span-same : (key : ℕ) (own rest other b : List Token) → times (closes key) (own ++ rest) ≤ 1 → IsSpan key own → IsSpan key other → own ++ rest ≡ other ++ b → SameSplit own rest other b
span-same key own rest other b once (one_text k s p n x) (one_text l t q m y) e = record { front = ap (λ z. z ∷ []) (head e); back = tail e }
span-same key own rest other b once (one_text k s p n x) (one_anchor l q) e = absurd (text-anchor e)
span-same key own rest other b once (one_text k s p n x) (whole l t q m f inside end) e = absurd (open-text (sym e))
span-same key own rest other b once (one_anchor k p) (one_anchor l q) e = record { front = ap (λ z. z ∷ []) (head e); back = tail e }
span-same key own rest other b once (one_anchor k p) (one_text l t q m y) e = absurd (text-anchor (sym e))
span-same key own rest other b once (one_anchor k p) (whole l t q m f inside end) e = absurd (open-anchor (sym e))
span-same key own rest other b once (whole k s p n x inner last) (one_text l t q m y) e = absurd (open-text e)
span-same key own rest other b once (whole k s p n x inner last) (one_anchor l q) e = absurd (open-anchor e)
span-same key own rest other b once (whole k s p n x inner last) (whole l t q m f inside end) e =
    let x = Close (named key s) last in
    let y = Close (named key t) end in
    let grouped = append_assoc inner (x ∷ []) rest in
    let again = append_assoc inside (y ∷ []) b in
    let same = ap (times (closes key)) grouped in
    let u = unique (closes key) inner rest inside b x y (omega (arith, same, once)) (eq-eqb key key refl) (eq-eqb key key refl) (sym grouped ∙ (tail e ∙ again)) in
    let first = head e in
    record { front = λ i. first i ∷ (u.front i ++ (u.here i ∷ [])); back = u.back }

leads-span : (key : ℕ) (own rest : List Token) → IsSpan key own → leads (begins key) (own ++ rest) ≡ true
leads-span key own rest (one_text k s p n x) = eq-eqb key key refl
leads-span key own rest (one_anchor k p) = eq-eqb key key refl
leads-span key own rest (whole k s p n e inner end) = eq-eqb key key refl

-- a node that stands once was moved to the only place, so it was moved wherever the tokens are split
pub moved : (old new : List Token) (key parent : ℕ) (before : Option ℕ) (pre own post front back : List Token) → times (begins key) old ≤ 1 → times (closes key) old ≤ 1 → times (spot parent before) old ≤ 1
    → IsSpan key own → leads (spot parent before) back ≡ true → old ≡ pre ++ (own ++ post) → pre ++ post ≡ front ++ back → new ≡ front ++ (own ++ back) → Moved old new key parent before
moved old new key parent before pre own post front back once closed place span here was others is = record {
  pre = pre;
  own = own;
  post = post;
  front = front;
  back = back;
  span = span;
  here = here;
  was = was;
  others = others;
  is = is;
  only = only;
}
  where
    alone : times (spot parent before) (front ++ back) ≤ 1
    alone =
        let x = ap (times (spot parent before)) was ∙ times-append (spot parent before) pre (own ++ post) in
        let y = times-append (spot parent before) own post in
        let z = times-append (spot parent before) pre post in
        let w = ap (times (spot parent before)) others in
        omega (arith, x, y, z, w, place)

    ended : times (closes key) (own ++ post) ≤ 1
    ended =
        let x = ap (times (closes key)) was ∙ times-append (closes key) pre (own ++ post) in
        omega (arith, x, closed)

    only : (a other b c d : List Token) → IsSpan key other → leads (spot parent before) d ≡ true → old ≡ a ++ (other ++ b) → a ++ b ≡ c ++ d → new ≡ c ++ (other ++ d)
    only a other b c d its there split rest =
        let s = one_place (begins key) pre (own ++ post) a (other ++ b) (subst (λ z. times (begins key) z ≤ 1) was once) (leads-span key own post span) (leads-span key other b its) (sym was ∙ split) in
        let t = span-same key own post other b ended span its s.back in
        let left : front ++ back ≡ c ++ d = sym others ∙ ((λ i. s.front i ++ t.back i) ∙ rest) in
        let u = one_place (spot parent before) front back c d alone here there left in
        is ∙ (λ i. u.front i ++ (t.front i ++ u.back i))

-- how often a test passes where a node was moved
pub times-Moved : (q : Token → Bool) (old new : List Token) (key parent : ℕ) (before : Option ℕ) → Moved old new key parent before → times q new ≡ times q old
times-Moved q old new key parent before m =
    let x = ap (times q) m.was ∙ times-append q m.pre (m.own ++ m.post) in
    let y = times-append q m.own m.post in
    let z = ap (times q) m.is ∙ times-append q m.front (m.own ++ m.back) in
    let u = times-append q m.own m.back in
    let v = ap (times q) m.others in
    let w = times-append q m.pre m.post in
    let t = times-append q m.front m.back in
    omega (arith, x, y, z, u, v, w, t)

-- what stood stands where a node was moved
pub Has-Moved : (q : Token → Bool) (old new : List Token) (key parent : ℕ) (before : Option ℕ) → Moved old new key parent before → Has q old → Has q new
Has-Moved q old new key parent before m has = let n = times-Moved q old new key parent before m in omega (arith, n, has)

-- the same of what is seen
pub seen-Moved : (q : Seen → Bool) (old new : List Token) (key parent : ℕ) (before : Option ℕ) → Moved old new key parent before → times q (seen new) ≡ times q (seen old)
seen-Moved q old new key parent before m =
    let x = ap (λ ts. times q (seen ts)) m.was ∙ (ap (times q) (seen-three m.pre m.own m.post) ∙ times-append q (seen m.pre) (seen m.own ++ seen m.post)) in
    let y = times-append q (seen m.own) (seen m.post) in
    let z = ap (λ ts. times q (seen ts)) m.is ∙ (ap (times q) (seen-three m.front m.own m.back) ∙ times-append q (seen m.front) (seen m.own ++ seen m.back)) in
    let u = times-append q (seen m.own) (seen m.back) in
    let v = ap (times q) (sym (seen-append m.pre m.post) ∙ (ap seen m.others ∙ seen-append m.front m.back)) in
    let w = times-append q (seen m.pre) (seen m.post) in
    let t = times-append q (seen m.front) (seen m.back) in
    omega (arith, x, y, z, u, v, w, t)

-- the name of a node's parent is read where the node begins
pub parent-here : (key : ℕ) (pre post : List Token) (t : Token) → begins key t ≡ true → times (begins key) (pre ++ (t ∷ post)) ≤ 1 → parent_at key (pre ++ (t ∷ post)) ≡ parent_of t
parent-here key [] post t e once = ap (λ z. if z then parent_of t else parent_at key post) e
parent-here key (s ∷ pre) post t e once = go (begins key s) refl (parent-here key pre post t e (omega (arith, once)))
  where
    go : (v : Bool) → begins key s ≡ v → parent_at key (pre ++ (t ∷ post)) ≡ parent_of t → parent_at key (s ∷ (pre ++ (t ∷ post))) ≡ parent_of t
    go false other rest = ap (λ z. if z then parent_of s else parent_at key (pre ++ (t ∷ post))) other ∙ rest
    go true here rest =
        let w = ap one here in
        let v = ap one e in
        let all = times-append (begins key) pre (t ∷ post) in
        absurd (omega (arith, w, v, all, once))
