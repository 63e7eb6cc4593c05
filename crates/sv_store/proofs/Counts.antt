-- How often a cell is subscribed, before and after a change.
use Rattle.std.proofs.Common.{◌≡◌, ℕ, zero, suc, ◌+◌, ◌<◌, ◌≤◌, List, [], ◌∷◌, ◌++◌, map, length, take, drop, get_or, slice_set, refl, sym, subst, ap, ◌∙◌, arith, Bool, true, false, cond, nat_eq, sum_by, count_by, ⊎_elim}
use Rattle.std.specs.Prelude.{not, Result, Ok, Err, OnOk, OnErr}
use Rattle.std.specs.List.{filter, list_any}
use Rattle.std.proofs.lemmas.Bool.{cases_Bool, cases_lt, and_parts, eqb-true, or_parts}
use Rattle.std.proofs.lemmas.List.{length-append, length-map, length-take, length-drop, map-set}
use Rattle.std.proofs.lemmas.List.Edits.{map_over_more}
use Rattle.sv_store.proofs.Places.{get_or-map, all_back}
use Rattle.std.proofs.lemmas.List.Sums.{sum_by-cons, sum_by_push}
use Rattle.sv_store.specs.Stores.{Subscriber, Store, changed_at, set_to, with_subscriber, same_subscriber, times, is_subscribed, without, without_subscriber, is_other, dropped, IsOnce}
use Rattle.sv_store.specs.Kept.{stores_of}
use Rattle.sv_store.specs.declared.stores.Entry.{Entry}
use Rattle.sv_value.specs.Value.{Val}

-- a sum over stores of which one changed
sum-changed : (F : Store → ℕ) (g : Store → Store) (d : ℕ) → ((s : Store) → F (g s) ≡ F s + d) → (stores : List Store) (n : ℕ) → n < length stores → sum_by F (changed_at g stores n) ≡ sum_by F stores + d
sum-changed F g d each [] n h = absurd (omega arith)
sum-changed F g d each (s ∷ stores) zero h = let e = sum_by-cons F s stores in let e' = sum_by-cons F (g s) stores in let k = each s in omega (arith, e, e', k)
sum-changed F g d each (s ∷ stores) (suc n) h = let e = sum_by-cons F s stores in let e' = sum_by-cons F s (changed_at g stores n) in let k = sum-changed F g d each stores n (omega arith) in omega (arith, e, e', k)

changed-past : (g : Store → Store) (stores : List Store) (n : ℕ) → length stores ≤ n → changed_at g stores n ≡ stores
changed-past g [] n h = refl
changed-past g (s ∷ stores) zero h = absurd (omega arith)
changed-past g (s ∷ stores) (suc n) h = ap (λ w. s ∷ w) (changed-past g stores n (omega arith))

sum-same : (F : Store → ℕ) (g : Store → Store) → ((s : Store) → F (g s) ≡ F s) → (stores : List Store) (n : ℕ) → sum_by F (changed_at g stores n) ≡ sum_by F stores
sum-same F g each stores n = ⊎_elim
    (λ h. let k = sum-changed F g 0 (λ s. let e = each s in omega (arith, e)) stores n h in omega (arith, k))
    (λ h. ap (sum_by F) (changed-past g stores n h))
    (cases_lt n (length stores))

-- a sum over stores of which one has no more than it had
sum-less : (F : Store → ℕ) (g : Store → Store) → ((s : Store) → F (g s) ≤ F s) → (stores : List Store) (n : ℕ) → sum_by F (changed_at g stores n) ≤ sum_by F stores
sum-less F g each [] n = omega arith
sum-less F g each (s ∷ stores) zero = let e = sum_by-cons F s stores in let e' = sum_by-cons F (g s) stores in let k = each s in omega (arith, e, e', k)
sum-less F g each (s ∷ stores) (suc n) = let e = sum_by-cons F s stores in let e' = sum_by-cons F s (changed_at g stores n) in let k = sum-less F g each stores n in omega (arith, e, e', k)

-- a value changes no subscription
pub once-set : (stores : List Store) (n : ℕ) (v : Val) → IsOnce stores → IsOnce (changed_at (set_to v) stores n)
once-set stores n v once sub = let e = sum-same (λ t. count_by (same_subscriber sub) t.subscribers) (set_to v) (λ t. refl) stores n in let o = once sub in omega (arith, e, o)

count_by-none : {A : Type 0} (p : A → Bool) (xs : List A) → list_any p xs ≡ false → count_by p xs ≡ 0
count_by-none p [] h = refl
count_by-none p (x ∷ xs) h =
    let b = or_parts (p x) (list_any p xs) h in
    let e = sum_by-cons (λ y. cond (p y) 1 0) x xs in
    let z : ◌≡◌ {A = ℕ} (cond (p x) 1 0) 0 = rw b.0 refl in
    let r = count_by-none p xs b.1 in
    omega (arith, e, z, r)

-- a cell that isn't subscribed stands nowhere
pub times-none : (sub : Subscriber) (stores : List Store) → is_subscribed stores sub ≡ false → times sub stores ≡ 0
times-none sub [] h = refl
times-none sub (s ∷ stores) h =
    let b = or_parts (list_any (same_subscriber sub) s.subscribers) (is_subscribed stores sub) h in
    let e = sum_by-cons (λ t. count_by (same_subscriber sub) t.subscribers) s stores in
    let z = count_by-none (same_subscriber sub) s.subscribers b.0 in
    let r = times-none sub stores b.1 in
    omega (arith, e, z, r)

pub same_from : (a b : Subscriber) → same_subscriber a b ≡ true → a ≡ b
same_from a b h =
    let p = and_parts (nat_eq a.inst b.inst) (nat_eq a.cell b.cell) h in
    let i = eqb-true a.inst b.inst p.0 in
    let c = eqb-true a.cell b.cell p.1 in
    λ k. record { inst = i k; cell = c k }

-- one more subscription of a cell that had none
pub once-more : (stores : List Store) (n : ℕ) (sub : Subscriber) → IsOnce stores → is_subscribed stores sub ≡ false → IsOnce (changed_at (with_subscriber sub) stores n)
once-more stores n sub once fresh = ⊎_elim (λ h other. inside h other) (λ h. rw (changed-past (with_subscriber sub) stores n h) once) (cases_lt n (length stores))
  where
    added : n < length stores → (other : Subscriber) → times other (changed_at (with_subscriber sub) stores n) ≡ times other stores + cond (same_subscriber other sub) 1 0
    added h other = sum-changed (λ t. count_by (same_subscriber other) t.subscribers) (with_subscriber sub) (cond (same_subscriber other sub) 1 0)
        (λ t. sum_by_push (λ y. cond (same_subscriber other y) 1 0) t.subscribers sub) stores n h

    inside : n < length stores → (other : Subscriber) → times other (changed_at (with_subscriber sub) stores n) ≤ 1
    inside h other = ⊎_elim
        (λ b. let k = added h other in let z = times-none other stores (ap (is_subscribed stores) (same_from other sub b) ∙ fresh) in let w : ◌≡◌ {A = ℕ} (cond (same_subscriber other sub) 1 0) 1 = rw b refl in omega (arith, k, z, w))
        (λ b. let k = added h other in let o = once other in let w : ◌≡◌ {A = ℕ} (cond (same_subscriber other sub) 1 0) 0 = rw b refl in omega (arith, k, o, w))
        (cases_Bool (same_subscriber other sub))

-- or of one that could not be made
pub once-tried : {A E : Type 0} (r : Result A E) (old new : List Store) (n : ℕ) (sub : Subscriber) → IsOnce old → is_subscribed old sub ≡ false → OnOk r (new ≡ changed_at (with_subscriber sub) old n) → OnErr r (new ≡ old) → IsOnce new
once-tried (Ok x) old new n sub once fresh is same = subst IsOnce (sym is) (once-more old n sub once fresh)
once-tried (Err e) old new n sub once fresh is same = subst IsOnce (sym same) once

count-filter : {A : Type 0} (p q : A → Bool) (xs : List A) → count_by p (filter q xs) ≤ count_by p xs
count-filter p q [] = omega arith
count-filter p q (x ∷ xs) =
    let e = sum_by-cons (λ y. cond (p y) 1 0) x xs in
    let r = count-filter p q xs in
    ⊎_elim
    (λ b. rw b (let e' = sum_by-cons (λ y. cond (p y) 1 0) x (filter q xs) in omega (arith, e, e', r)))
    (λ b. rw b (omega (arith, e, r)))
    (cases_Bool (q x))

times-dropped : (sub : Subscriber) (n : ℕ) (stores : List Store) → times sub (dropped stores n) ≤ times sub stores
times-dropped sub n [] = omega arith
times-dropped sub n (s ∷ stores) =
    let e = sum_by-cons (λ t. count_by (same_subscriber sub) t.subscribers) s stores in
    let e' = sum_by-cons (λ t. count_by (same_subscriber sub) t.subscribers) (without n s) (dropped stores n) in
    let c = count-filter (same_subscriber sub) (is_other n) s.subscribers in
    let r = times-dropped sub n stores in
    omega (arith, e, e', c, r)

-- less subscriptions stand once at most as well
pub once-dropped : (n : ℕ) (stores : List Store) → IsOnce stores → IsOnce (dropped stores n)
once-dropped n stores once sub = let t = times-dropped sub n stores in let o = once sub in omega (arith, t, o)

pub once-less : (stores : List Store) (n : ℕ) (sub : Subscriber) → IsOnce stores → IsOnce (changed_at (without_subscriber sub) stores n)
once-less stores n sub once other =
    let t = sum-less (λ t. count_by (same_subscriber other) t.subscribers) (without_subscriber sub) (λ t. count-filter (same_subscriber other) (λ x. not (same_subscriber sub x)) t.subscribers) stores n in
    let o = once other in
    omega (arith, t, o)

-- the subscriptions of an instance go from the store at a place, where they went from those before it
pub drop-more : {A : Type 0} (f : A → Store) (old : List Store) (entries : List A) (n i : ℕ) (d y : A) → i < length entries → map f entries ≡ dropped (take i old) n ++ drop i old → f y ≡ without n (f (get_or entries i d))
    → map f (slice_set entries i y) ≡ dropped (take (i + 1) old) n ++ drop (i + 1) old
drop-more f old entries n i d y inside done e =
    let long : i < length old = omega (arith, inside, length-map entries f, ap length done, length-append (dropped (take i old) n) (drop i old), length-map (take i old) (without n), length-take i old, length-drop i old) in
    map-set f entries i y ∙ ap (slice_set (map f entries) i) e
    ∙ map_over_more (without n) old (map f entries) i (f (get_or entries i d)) long done (get_or-map f entries i d (f (get_or entries i d)) inside)

-- the entries that a slice of all leaves behind
pub once-back : (new now old : List Entry) (n : ℕ) (stores : List Store) → n ≡ length old → length new ≡ length now → now ≡ old → stores_of new ≡ stores → IsOnce stores → IsOnce (stores_of (take n (new ++ drop (length new) old)))
once-back new now old n stores long kept same is once = subst IsOnce (sym (ap stores_of (all_back new old n long (kept ∙ ap length same)) ∙ is)) once
