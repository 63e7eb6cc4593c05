-- What is seen of tokens that are split, and places in it.
use Rattle.std.proofs.Common.{◌≡◌, ◌≢◌, ◌≤◌, ◌+◌, ℕ, zero, suc, List, [], ◌∷◌, ◌++◌, Bool, true, false, refl, ap, sym, ◌∙◌, arith, ◌⊎◌, inl, inr}
use Rattle.std.specs.Prelude.{◌==◌, ◌&&◌}
use Rattle.std.proofs.lemmas.Bool.{cases_eq, eq-eqb, ne_eqb, eqb-true}
use Rattle.sv_tokens.specs.Counting.{one, times, leads}
use Rattle.sv_tokens.specs.Token.{Token, Open, Text, Anchor, Close}
use Rattle.sv_tokens.specs.Seen.{Seen, Start, Words, End, View, IsNumbered, seen, starts, ends, is_child_of, follows}
use Rattle.sv_tokens.specs.Replay.{made}
use Rattle.sv_tokens.specs.declared.change.What.{What}
use Rattle.sv_tokens.specs.declared.change.What.TheVariants as what
use Rattle.sv_tokens.proofs.Counting.{times-append, times-narrow}

pub seen-append : (xs ys : List Token) → seen (xs ++ ys) ≡ seen xs ++ seen ys
seen-append [] ys = refl
seen-append (Open node parent number element ∷ xs) ys = ap (λ z. Start node.serial parent.serial element ∷ z) (seen-append xs ys)
seen-append (Text node parent number bytes ∷ xs) ys = ap (λ z. Words node.serial parent.serial bytes ∷ z) (seen-append xs ys)
seen-append (Anchor key parent ∷ xs) ys = seen-append xs ys
seen-append (Close node name ∷ xs) ys = ap (λ z. End node.serial name ∷ z) (seen-append xs ys)

pub seen-three : (xs ys zs : List Token) → seen (xs ++ (ys ++ zs)) ≡ seen xs ++ (seen ys ++ seen zs)
seen-three xs ys zs = seen-append xs (ys ++ zs) ∙ ap (λ z. seen xs ++ z) (seen-append ys zs)

abbrev pub viewed : List Seen → ℕ → View
viewed tokens next = record { tokens = tokens; next = next }

pub same_view : (a b : List Seen) (m n : ℕ) → a ≡ b → m ≡ n → viewed a m ≡ viewed b n
same_view a b m n e f = ap (λ z. viewed z m) e ∙ ap (λ z. viewed b z) f

made-starts : (s n parent : ℕ) (w : What) → times (starts s) (made n parent w) ≡ one (n == s)
made-starts s n parent (what.Element name) = omega arith
made-starts s n parent (what.Text bytes) = omega arith

-- how often a node starts, with one more
counts : (s n parent : ℕ) (a b : List Seen) (w : What) → times (starts s) (a ++ (made n parent w ++ b)) ≡ times (starts s) (a ++ b) + one (n == s)
counts s n parent a b w =
    let x = times-append (starts s) a b in
    let y = times-append (starts s) a (made n parent w ++ b) in
    let z = times-append (starts s) (made n parent w) b in
    let own = made-starts s n parent w in
    omega (arith, x, y, z, own)

pub IsNumbered-made : (a b : List Seen) (next parent : ℕ) (w : What) → IsNumbered (a ++ b) next → IsNumbered (a ++ (made next parent w ++ b)) (suc next)
IsNumbered-made a b next parent w was = record { once = λ s. once s (cases_eq next s); fresh = fresh }
  where
    once : (s : ℕ) → (next ≡ s) ⊎ (next ≢ s) → times (starts s) (a ++ (made next parent w ++ b)) ≤ 1
    once s (inl e) = let c = counts s next parent a b w in let v = ap one (eq-eqb next s e) in let f = was.fresh s (omega (arith, e)) in omega (arith, c, v, f)
    once s (inr ne) = let c = counts s next parent a b w in let v = ap one (ne_eqb next s ne) in let o = was.once s in omega (arith, c, v, o)

    fresh : (s : ℕ) → suc next ≤ s → times (starts s) (a ++ (made next parent w ++ b)) ≡ 0
    fresh s late = let c = counts s next parent a b w in let v = ap one (ne_eqb next s (λ e. (omega (arith, e, late)))) in let f = was.fresh s (omega (arith, late)) in omega (arith, c, v, f)

-- a list in which each node starts as often or less often
pub IsNumbered-fewer : (old new : List Seen) (next : ℕ) → ((s : ℕ) → times (starts s) new ≤ times (starts s) old) → IsNumbered old next → IsNumbered new next
IsNumbered-fewer old new next fewer was = record {
  once = λ s. (let a = fewer s in let b = was.once s in omega (arith, a, b));
  fresh = λ s late. (let a = fewer s in let b = was.fresh s late in omega (arith, a, b));
}

child-starts : (parent n : ℕ) (t : Seen) → one (is_child_of parent n t) ≤ one (starts n t)
child-starts parent n (Start m p element) = less (m == n) (p == parent)
  where
    less : (a b : Bool) → one (a && b) ≤ one a
    less true true = omega arith
    less true false = omega arith
    less false b = omega arith
child-starts parent n (Words m p bytes) = less (m == n) (p == parent)
  where
    less : (a b : Bool) → one (a && b) ≤ one a
    less true true = omega arith
    less true false = omega arith
    less false b = omega arith
child-starts parent n (End m name) = omega arith

-- a place in what is seen is the only one
pub follows-once : (parent before next : ℕ) (ts : List Seen) → IsNumbered ts next → ((s : ℕ) → times (ends s) ts ≤ times (starts s) ts) → times (follows parent before) ts ≤ 1
follows-once parent zero next ts numbered closed = let a = numbered.once parent in let b = closed parent in omega (arith, a, b)
follows-once parent (suc n) next ts numbered closed =
    let a = numbered.once (suc n) in let b = times-narrow (starts (suc n)) (is_child_of parent (suc n)) (child-starts parent (suc n)) ts in omega (arith, a, b)

never : false ≡ true → ⊥
never e = cc

left : (a b : Bool) → (a && b) ≡ true → a ≡ true
left true b e = refl
left false b e = absurd (never e)

both : (s p parent m n : ℕ) → ((s == m) && (p == parent)) ≡ true → ((s == n) && (p == parent)) ≡ true → m ≡ n
both s p parent m n e f = sym (eqb-true s m (left _ _ e)) ∙ eqb-true s n (left _ _ f)

-- what follows a place has one name
pub follows-same : (parent m n : ℕ) (ts : List Seen) → leads (follows parent m) ts ≡ true → leads (follows parent n) ts ≡ true → m ≡ n
follows-same parent m n [] e f = absurd (never e)
follows-same parent zero zero (t ∷ ts) e f = refl
follows-same parent zero (suc n) (Start s p element ∷ ts) e f = absurd (never e)
follows-same parent zero (suc n) (Words s p bytes ∷ ts) e f = absurd (never e)
follows-same parent zero (suc n) (End s name ∷ ts) e f = absurd (never f)
follows-same parent (suc m) zero (Start s p element ∷ ts) e f = absurd (never f)
follows-same parent (suc m) zero (Words s p bytes ∷ ts) e f = absurd (never f)
follows-same parent (suc m) zero (End s name ∷ ts) e f = absurd (never e)
follows-same parent (suc m) (suc n) (Start s p element ∷ ts) e f = both s p parent (suc m) (suc n) e f
follows-same parent (suc m) (suc n) (Words s p bytes ∷ ts) e f = both s p parent (suc m) (suc n) e f
follows-same parent (suc m) (suc n) (End s name ∷ ts) e f = absurd (never e)
