-- The places of children.
use Rattle.std.proofs.Common.{◌≡◌, ◌≢◌, ◌<◌, ◌≤◌, ◌-◌, ℕ, zero, suc, List, [], ◌∷◌, Option, Some, None, refl, ap, sym, ◌∙◌, arith, inl, inr, length, drop, take, get_or, drop-cons, subst}
use Rattle.std.specs.Prelude.{insert, remove, slice_get}
use Rattle.sv_nodes.specs.Sound.{IsAmong}
use Rattle.sv_nodes.specs.Steps.{IsBack, IsStart, Grows, Cuts, IsLast}

-- a child at its place
pub grows-at : (key : ℕ) (ks : List ℕ) (n : ℕ) → n ≤ length ks → Grows key n ks (insert ks n key)
grows-at key [] zero inside = record { front = []; back = []; was = refl; now = refl; from = refl }
grows-at key [] (suc n) inside = absurd (omega (arith, inside))
grows-at key (k ∷ ks) zero inside = record { front = []; back = k ∷ ks; was = refl; now = refl; from = refl }
grows-at key (k ∷ ks) (suc n) inside =
    let rest = grows-at key ks n (omega (arith, inside)) in
    record { front = k ∷ rest.front; back = rest.back; was = ap (λ z. k ∷ z) rest.was; now = ap (λ z. k ∷ z) rest.now; from = rest.from }

-- where a child stands, the list is cut round it
pub cuts-at : (x : ℕ) (ks : List ℕ) (n : ℕ) → IsBack (Some x) (drop n ks) → Cuts x ks (remove ks n)
cuts-at x [] zero here = absurd here
cuts-at x [] (suc n) here = absurd here
cuts-at x (k ∷ ks) zero here = record { front = []; back = ks; was = ap (λ z. z ∷ ks) here; now = refl }
cuts-at x (k ∷ ks) (suc n) here =
    let rest = cuts-at x ks n here in
    record { front = k ∷ rest.front; back = rest.back; was = ap (λ z. k ∷ z) rest.was; now = ap (λ z. k ∷ z) rest.now }

-- what stands behind a child
pub cuts-behind : (x : ℕ) (ks : List ℕ) (n : ℕ) (here : IsBack (Some x) (drop n ks)) → (cuts-at x ks n here).back ≡ drop (suc n) ks
unfolding cuts-at
cuts-behind x [] zero here = absurd here
cuts-behind x [] (suc n) here = absurd here
cuts-behind x (k ∷ ks) zero here = refl
cuts-behind x (k ∷ ks) (suc n) here = cuts-behind x ks n here

-- a child among the first is the last of them, or among those before
pub among-fewer : (x : ℕ) (ks : List ℕ) (n : ℕ) → n < length ks → get_or ks n 0 ≢ x → IsAmong x (take (suc n) ks) → IsAmong x (take n ks)
among-fewer x [] n inside other among = absurd among
among-fewer x (k ∷ ks) zero inside other (inl e) = absurd (other e)
among-fewer x (k ∷ ks) zero inside other (inr later) = absurd later
among-fewer x (k ∷ ks) (suc n) inside other (inl e) = inl e
among-fewer x (k ∷ ks) (suc n) inside other (inr later) = inr (among-fewer x ks n (omega (arith, inside)) other later)

-- where a child stands
pub start-here : (x : ℕ) (ks : List ℕ) (n : ℕ) → n < length ks → get_or ks n 0 ≡ x → IsStart (Some x) n ks
start-here x ks n inside e =
    let front : drop n ks ≡ get_or ks n 0 ∷ drop (suc n) ks = drop-cons ks n 0 inside in
    record { inside = omega (arith, inside); back = subst (λ z. IsBack (Some x) z) (sym front) e }

pub start-end : (ks : List ℕ) (n : ℕ) → n ≡ length ks → IsStart None n ks
start-end [] n e = rw e (record { inside = omega arith; back = refl })
start-end (k ∷ ks) n e =
    let rest = start-end ks (length ks) refl in
    subst (λ z. IsStart None z (k ∷ ks)) (sym e) (record { inside = omega arith; back = rest.back })

-- a place is at the end, or a child stands there
pub start-inside : (x n : ℕ) (ks : List ℕ) → IsStart (Some x) n ks → n < length ks
start-inside x n ks start = go n ks start.back
  where
    go : (n : ℕ) (ks : List ℕ) → IsBack (Some x) (drop n ks) → n < length ks
    go zero [] here = absurd here
    go (suc n) [] here = absurd here
    go zero (k ∷ ks) here = omega arith
    go (suc n) (k ∷ ks) here = let rest = go n ks here in omega (arith, rest)

last-cons : (x y : ℕ) (ys : List ℕ) (o : Option ℕ) → IsLast (y ∷ ys) o → IsLast (x ∷ y ∷ ys) o
last-cons x y ys None last = absurd (no last)
  where
    no : {z : ℕ} {zs : List ℕ} → z ∷ zs ≡ [] → ⊥
    no e = cc
last-cons x y ys (Some k) last = (x ∷ last.0, ap (λ z. x ∷ z) last.1)

-- the last element
pub last-is : (xs : List ℕ) (o : Option ℕ) → o ≡ slice_get xs (length xs - 1) → IsLast xs o
last-is [] o e = rw e refl
last-is (x ∷ []) o e = rw e ([], refl)
last-is (x ∷ y ∷ ys) o e =
    let place : length (x ∷ y ∷ ys) - 1 ≡ suc (length (y ∷ ys) - 1) = omega arith in
    last-cons x y ys o (last-is (y ∷ ys) o (e ∙ ap (slice_get (x ∷ y ∷ ys)) place))
