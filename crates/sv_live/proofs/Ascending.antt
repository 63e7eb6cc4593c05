-- Attributes by slot stay so with one more behind them, and a list of them is all put there.
use Rattle.std.proofs.Common.{◌≡◌, ◌<◌, ℕ, List, [], ◌∷◌, ◌++◌, Bool, true, false, refl, ap, sym, ◌∙◌, subst, arith, append_assoc}
use Rattle.std.specs.Prelude.{◌&&◌, if◌then◌else◌}
use Rattle.std.proofs.lemmas.Bool.{ltb-true, lt-ltb, and_from, true≢false}
use Rattle.std.proofs.lemmas.List.{append-nil}
use Rattle.sv_tokens.specs.declared.element.Attribute.{Attribute}
use Rattle.sv_live.specs.Attributes.{IsAbove, IsAscending, is_last, pushed_all, by_slot}

first : (a b : Bool) → (a && b) ≡ true → a ≡ true
first true b e = refl
first false b e = e

second : (a b : Bool) → (a && b) ≡ true → b ≡ true
second true b e = e
second false b e = absurd (true≢false (sym e))

above-push : (slot : ℕ) (xs : List Attribute) (a : Attribute) → IsAbove slot xs → slot < a.slot → is_last a.slot xs ≡ true → IsAbove slot (xs ++ a ∷ [])
above-push slot [] a above lt last = (lt, tt)
above-push slot (x ∷ xs) a above lt last = (above.0, above-push x.slot xs a above.1 (ltb-true x.slot a.slot (first _ _ last)) (second _ _ last))

pub ascending-push : (xs : List Attribute) (a : Attribute) → IsAscending xs → is_last a.slot xs ≡ true → IsAscending (xs ++ a ∷ [])
ascending-push [] a above last = tt
ascending-push (x ∷ xs) a above last = above-push x.slot xs a above (ltb-true x.slot a.slot (first _ _ last)) (second _ _ last)

-- ---- a list of them

above-last : (slot : ℕ) (xs more : List Attribute) (a : Attribute) → IsAbove slot (xs ++ a ∷ more) → (slot < a.slot) × (is_last a.slot xs ≡ true)
above-last slot [] more a above = (above.0, refl)
above-last slot (x ∷ xs) more a above =
    let rest = above-last x.slot xs more a above.1 in
    let here = above.0 in
    let there = rest.0 in (omega (arith, here, there), and_from _ _ (lt-ltb x.slot a.slot there) rest.1)

ascending-last : (xs more : List Attribute) (a : Attribute) → IsAscending (xs ++ a ∷ more) → is_last a.slot xs ≡ true
ascending-last [] more a ascending = refl
ascending-last (x ∷ xs) more a ascending = let rest = above-last x.slot xs more a ascending in and_from _ _ (lt-ltb x.slot a.slot rest.0) rest.1

pushed-whole : (more done : List Attribute) → IsAscending (done ++ more) → pushed_all more done ≡ done ++ more
pushed-whole [] done ascending = sym (append-nil done)
pushed-whole (a ∷ more) done ascending =
    let next = done ++ a ∷ [] in
    let split = append_assoc done (a ∷ []) more in
    ap (λ b. pushed_all more (if b then next else done)) (ascending-last done more a ascending) ∙ (pushed-whole more next (subst IsAscending (sym split) ascending) ∙ split)

-- attributes whose slots ascend are all there
pub ascending-by_slot : (list : List Attribute) → IsAscending list → by_slot list ≡ list
ascending-by_slot list ascending = pushed-whole list [] ascending
