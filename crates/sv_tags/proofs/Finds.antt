-- The first place where a text goes on in some way is the one that a search gives.
use Rattle.std.proofs.Common.{◌≡◌, ◌≤◌, ◌+◌, ◌++◌, ℕ, zero, suc, Bool, true, false, cond, List, [], ◌∷◌, length, take, drop, refl, ap, ◌∙◌, arith, length-append}
use Rattle.std.specs.Prelude.{Option, Some, None, slice_index}
use Rattle.std.proofs.Math.Seq.{take-append_seam}
use Rattle.std.proofs.lemmas.Bool.Decides.{Decides-eqb}
use Rattle.std.proofs.lemmas.Slice.Eq.{starts_is}
use Rattle.memchr.specs.Find.{OccursAt, FindsNeedle}
use Rattle.memchr.proofs.lemmas.MatchLemmas.{OccursAt-split, OccursAt-from_part}
use Rattle.sv_tags.specs.Classes.{begins, before, one_more}

pub begins-split : (w z : List ℕ) → begins w z ≡ true → z ≡ w ++ drop (length w) z
begins-split w z h = (starts_is Decides-eqb z w (begins w z) refl).0 h

-- where the text begins so, it occurs at its front, and the other way round
begins-occurs : (w z : List ℕ) → begins w z ≡ true → OccursAt z w 0
begins-occurs w z h =
    let whole = begins-split w z h in
    let size = ap length whole in let sizes = length-append w (drop (length w) z) in
    OccursAt-from_part z w 0 (omega arith) (ap (take (length w)) whole ∙ take-append_seam w (drop (length w) z))

occurs-begins : (w z : List ℕ) → OccursAt z w 0 → begins w z ≡ true
occurs-begins w z h = (starts_is Decides-eqb z w (begins w z) refl).1 (drop (0 + length w) z) (OccursAt-split z w 0 h)

-- a byte more or less at the front
up : (w : List ℕ) (b : ℕ) (z : List ℕ) (k : ℕ) → OccursAt z w k → OccursAt (b ∷ z) w (suc k)
up w b z k h = record {
  fits = (let fits = h.fits in omega arith);
  reads = λ j l. (let e : suc k + j ≡ suc (k + j) = omega arith in ap (slice_index (b ∷ z)) e ∙ h.reads j l);
}

down : (w : List ℕ) (b : ℕ) (z : List ℕ) (k : ℕ) → OccursAt (b ∷ z) w (suc k) → OccursAt z w k
down w b z k h = record {
  fits = (let fits = h.fits in omega arith);
  reads = λ j l. (let e : suc (k + j) ≡ suc k + j = omega arith in ap (slice_index (b ∷ z)) e ∙ h.reads j l);
}

pub find_is : (w z : List ℕ) (r : Option ℕ) → 1 ≤ length w → FindsNeedle z w 0 r → r ≡ before w z
unfolding before
find_is w [] None some h = refl
find_is w [] (Some k) some h = let fits = h.1.fits in absurd (omega arith)
find_is w (b ∷ z) r some h = by (begins w (b ∷ z)) refl r h (λ r h. find_is w z r some h)
  where
    by : (t : Bool) → begins w (b ∷ z) ≡ t → (r : Option ℕ) → FindsNeedle (b ∷ z) w 0 r → ((r : Option ℕ) → FindsNeedle z w 0 r → r ≡ before w z)
        → r ≡ cond t (Some 0) (one_more (before w z))
    by true e None h more = absurd (h 0 (omega arith) (omega arith) (begins-occurs w (b ∷ z) e))
    by true e (Some zero) h more = refl
    by true e (Some (suc k)) h more = absurd (h.0.before 0 (omega arith) (omega arith) (begins-occurs w (b ∷ z) e))
    by false e None h more = ap one_more (more None (λ k low high at. h (suc k) (omega arith) (omega arith) (up w b z k at)))
    by false e (Some zero) h more = let t = occurs-begins w (b ∷ z) h.1 in absurd (cc)
    by false e (Some (suc k)) h more =
        let here : FindsNeedle z w 0 (Some k) = (
          record { low = omega arith; high = (let high = h.0.high in omega arith); before = λ m low high at. h.0.before (suc m) (omega arith) (omega arith) (up w b z m at) },
          down w b z k h.1,
        ) in
        let one : suc k ≡ k + 1 = omega arith in
        ap (λ n. Some n) one ∙ ap one_more (more (Some k) here)
