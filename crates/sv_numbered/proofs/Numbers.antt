-- What stands under a number, before and after a change of the slots.
use Rattle.std.proofs.Common.{◌≡◌, ◌≢◌, ℕ, zero, suc, ◌+◌, ◌<◌, List, [], ◌∷◌, ◌++◌, length, Option, Some, None, refl, sym, ap, ◌∙◌, arith, true, false, nat_eq, ⊎_elim, ◌⊎◌, cond, inl, inr, count_by, slice_set, is_some}
use Rattle.std.proofs.lemmas.Bool.{cases_eq, cases_lt, cases_Bool, false_from_ne_true, true≢false, eqb-true, eq-eqb, ne_eqb}
use Rattle.std.proofs.lemmas.Option.{same_Some}
use Rattle.std.proofs.lemmas.List.{ext_get_or, length-set, get_or-set_same, get_or-set_other, get_or_past, length_push, get_or_push, get_or_append_left, set-get_or}
use Rattle.std.proofs.lemmas.List.Sums.{sum_by-set, sum_by-cons}
use Rattle.sv_numbered.specs.Numbered.{at}
use Rattle.sv_numbered.specs.Slots.{slot, has_number, is_at, found, numbered, by_number, IsSound}
use Rattle.sv_numbered.specs.declared.numbered.Entry.{Entry}

module _ {T : Type 0} where
  length-numbered : (count first : ℕ) (slots : List (Option (Entry T))) → length (numbered count first slots) ≡ count
  length-numbered zero first slots = refl
  length-numbered (suc count) first slots = ap suc (length-numbered count (suc first) slots)

  at-numbered : (count first : ℕ) (slots : List (Option (Entry T))) (n : ℕ) → n < count → at (numbered count first slots) n ≡ found slots (first + n)
  at-numbered zero first slots n h = absurd (omega arith)
  at-numbered (suc count) first slots zero h = let e : first ≡ first + 0 = omega arith in ap (found slots) e
  at-numbered (suc count) first slots (suc n) h = let e : suc first + n ≡ first + suc n = omega arith in at-numbered count (suc first) slots n (omega arith) ∙ ap (found slots) e

  -- a number that stands nowhere has no value
  pub found-nowhere : (slots : List (Option (Entry T))) (n : ℕ) → ((key : ℕ) → is_at slots n key ≡ false) → found slots n ≡ None
  found-nowhere [] n h = refl
  found-nowhere (None ∷ slots) n h = found-nowhere slots n (λ key. h (suc key))
  found-nowhere (Some e ∷ slots) n h = rw (h 0) (found-nowhere slots n (λ key. h (suc key)))

  -- a number that stands at one key has the value there
  pub found-at : (slots : List (Option (Entry T))) (n key : ℕ) (e : Entry T) → ((k : ℕ) → is_at slots n k ≡ true → k ≡ key) → slot slots key ≡ Some e → e.number ≡ n → found slots n ≡ Some e.value
  found-at [] n key e once there is = cc
  found-at (None ∷ slots) n zero e once there is = cc
  found-at (Some x ∷ slots) n zero e once there is =
      let same : x ≡ e = cc in
      let b : nat_eq x.number n ≡ true = eq-eqb x.number n (ap (λ y. y.number) same ∙ is) in
      rw b (ap (λ y. Some y.value) same)
  found-at (None ∷ slots) n (suc key) e once there is = found-at slots n key e (λ k h. let q : suc k ≡ suc key = once (suc k) h in omega arith) there is
  found-at (Some x ∷ slots) n (suc key) e once there is = ⊎_elim
      (λ b. let q : 0 ≡ suc key = once 0 b in absurd (omega arith))
      (λ b. rw b (found-at slots n key e (λ k h. let q : suc k ≡ suc key = once (suc k) h in omega arith) there is))
      (cases_Bool (nat_eq x.number n))

  -- either a number stands nowhere, or its value is found at a key
  found-cases : (slots : List (Option (Entry T))) (n : ℕ)
      → (((key : ℕ) → is_at slots n key ≡ false) × (found slots n ≡ None))
      ⊎ ((key : ℕ) × (e : Entry T) × (slot slots key ≡ Some e) × (e.number ≡ n) × (found slots n ≡ Some e.value))
  found-cases [] n = inl ((λ key. refl), refl)
  found-cases (None ∷ slots) n = ⊎_elim
      (λ a. inl ((λ key. later a.0 key), a.1))
      (λ b. inr (suc b.0, b.1, b.2, b.3, b.4))
      (found-cases slots n)
    where
      later : ((key : ℕ) → is_at slots n key ≡ false) → (key : ℕ) → is_at (None ∷ slots) n key ≡ false
      later h zero = refl
      later h (suc key) = h key
  found-cases (Some x ∷ slots) n = ⊎_elim
      (λ b. inr (0, x, refl, eqb-true x.number n b, rw b refl))
      (λ b. ⊎_elim
      (λ a. inl ((λ key. later b a.0 key), rw b a.1))
      (λ c. inr (suc c.0, c.1, c.2, c.3, rw b c.4))
      (found-cases slots n))
      (cases_Bool (nat_eq x.number n))
    where
      later : nat_eq x.number n ≡ false → ((key : ℕ) → is_at slots n key ≡ false) → (key : ℕ) → is_at (Some x ∷ slots) n key ≡ false
      later b h zero = b
      later b h (suc key) = h key

  is_at-slot : (slots : List (Option (Entry T))) (n key : ℕ) (e : Entry T) → slot slots key ≡ Some e → e.number ≡ n → is_at slots n key ≡ true
  is_at-slot slots n key e there is = rw there (eq-eqb e.number n is)

  -- two slabs with the same entries under a number have the same value there
  pub found-same : (next next' : ℕ) (old new : List (Option (Entry T))) (n : ℕ) → IsSound next old → IsSound next' new
      → ((key : ℕ) (e : Entry T) → e.number ≡ n → slot old key ≡ Some e → slot new key ≡ Some e)
      → ((key : ℕ) (e : Entry T) → e.number ≡ n → slot new key ≡ Some e → slot old key ≡ Some e)
      → found new n ≡ found old n
  found-same next next' old new n s s' there back = ⊎_elim
      (λ a. ⊎_elim
      (λ b. b.1 ∙ sym a.1)
      (λ b. let q : is_at old n b.0 ≡ true = is_at-slot old n b.0 b.1 (back b.0 b.1 b.3 b.2) b.3 in absurd (let r = a.0 b.0 in cc))
      (found-cases new n))
      (λ a. found-at new n a.0 a.1 (λ k h. s'.once n k a.0 h (is_at-slot new n a.0 a.1 (there a.0 a.1 a.3 a.2) a.3)) (there a.0 a.1 a.3 a.2) a.3 ∙ sym a.4)
      (found-cases old n)

  -- what stands under a number is what is found in the slots
  pub at-by_number : (next : ℕ) (slots : List (Option (Entry T))) (n : ℕ) → IsSound next slots → at (by_number next slots) n ≡ found slots n
  at-by_number next slots n s = ⊎_elim
      (λ h. at-numbered next 0 slots n h ∙ (let e : 0 + n ≡ n = omega arith in ap (found slots) e))
      (λ h. get_or_past (by_number next slots) n None (omega (arith, length-numbered next 0 slots)) ∙ sym (found-nowhere slots n (λ key. false_from_ne_true (is_at slots n key) (λ b. let g = s.given n key b in omega arith))))
      (cases_lt n next)

  pub length-by_number : (next : ℕ) (slots : List (Option (Entry T))) → length (by_number next slots) ≡ next
  length-by_number next slots = length-numbered next 0 slots

  -- the value at a key stands under its number
  pub at-key : (next : ℕ) (slots : List (Option (Entry T))) (key : ℕ) (e : Entry T) → IsSound next slots → slot slots key ≡ Some e → at (by_number next slots) e.number ≡ Some e.value
  at-key next slots key e s there =
      at-by_number next slots e.number s ∙ found-at slots e.number key e (λ k h. s.once e.number k key h (is_at-slot slots e.number key e there refl)) there refl

  -- under a number that stands nowhere is nothing
  pub at-nowhere : (next : ℕ) (slots : List (Option (Entry T))) (n : ℕ) → IsSound next slots → ((key : ℕ) → is_at slots n key ≡ false) → at (by_number next slots) n ≡ None
  at-nowhere next slots n s h = at-by_number next slots n s ∙ found-nowhere slots n h

  -- a list of this length with these values is the list by number
  pub by_number-ext : (next : ℕ) (slots : List (Option (Entry T))) (values : List (Option T)) → IsSound next slots → length values ≡ next → ((n : ℕ) → n < next → found slots n ≡ at values n) → by_number next slots ≡ values
  by_number-ext next slots values s long same =
      ext_get_or None (by_number next slots) values (length-by_number next slots ∙ sym long)
      (λ n h. at-by_number next slots n s ∙ same n (omega (arith, length-by_number next slots)))

  slot_within : (slots : List (Option (Entry T))) (key : ℕ) (e : Entry T) → slot slots key ≡ Some e → key < length slots
  slot_within slots key e there = ⊎_elim (λ h. h) (λ h. absurd (let q = get_or_past slots key None h in cc)) (cases_lt key (length slots))

  -- an entry whose value is another one
  abbrev pub with_value : Entry T → T → Entry T
  with_value e value = record { number = e.number; value = value }

  module _ (next : ℕ) (slots : List (Option (Entry T))) (key : ℕ) (e : Entry T) (s : IsSound next slots) (there : slot slots key ≡ Some e) where
    -- what stands at the key under another key or number
    other_key : (x : Option (Entry T)) (k : ℕ) → k ≢ key → slot (slice_set slots key x) k ≡ slot slots k
    other_key x k h = get_or-set_other slots key k x None h

    same_key : (x : Option (Entry T)) → slot (slice_set slots key x) key ≡ x
    same_key x = get_or-set_same slots key x None (slot_within slots key e there)

    -- under a number that neither entry has, nothing changes
    other_number : (x : Option (Entry T)) (next' n : ℕ) → IsSound next' (slice_set slots key x) → has_number x n ≡ false → n ≢ e.number → found (slice_set slots key x) n ≡ found slots n
    other_number x next' n s' lacks h = found-same next next' slots (slice_set slots key x) n s s'
        (λ k y is here. other_key x k (λ q. h (sym is ∙ ap (λ z. z.number) (let r : Some y ≡ Some e = sym here ∙ ap (slot slots) q ∙ there in same_Some y e r))) ∙ here)
        (λ k y is here. sym (other_key x k (λ q. true≢false (sym (eq-eqb y.number n is) ∙ ap (λ z. has_number z n) (sym here ∙ ap (slot (slice_set slots key x)) q ∙ same_key x) ∙ lacks))) ∙ here)

    is_at-set : (value : T) (n k : ℕ) → is_at (slice_set slots key (Some (with_value e value))) n k ≡ is_at slots n k
    is_at-set value n k = ⊎_elim
        (λ h. ap (λ j. is_at (slice_set slots key (Some (with_value e value))) n j) h ∙ ap (λ x. has_number x n) (same_key (Some (with_value e value))) ∙ sym (ap (λ x. has_number x n) there) ∙ sym (ap (λ j. is_at slots n j) h))
        (λ h. ap (λ x. has_number x n) (other_key (Some (with_value e value)) k h))
        (cases_eq k key)

    pub sound-set : (value : T) → IsSound next (slice_set slots key (Some (with_value e value)))
    sound-set value = record {
      begun = s.begun;
      given = λ n k h. s.given n k (sym (is_at-set value n k) ∙ h);
      once = λ n k o h g. s.once n k o (sym (is_at-set value n k) ∙ h) (sym (is_at-set value n o) ∙ g);
    }

    number_below : e.number < next
    number_below = (s.given e.number key (is_at-slot slots e.number key e there refl)).1

    -- the value with the number of the entry is another one
    pub by_number-set : (value : T) → by_number next (slice_set slots key (Some (with_value e value))) ≡ slice_set (by_number next slots) e.number (Some value)
    by_number-set value =
        let new : List (Option (Entry T)) = slice_set slots key (Some (with_value e value)) in
        let s' = sound-set value in
        by_number-ext next new (slice_set (by_number next slots) e.number (Some value)) s'
        (length-set (by_number next slots) e.number (Some value) ∙ length-by_number next slots)
        (λ n h. ⊎_elim
        (λ q. ap (found new) q
        ∙ sym (at-by_number next new e.number s') ∙ at-key next new key (with_value e value) s' (same_key (Some (with_value e value)))
        ∙ sym (get_or-set_same (by_number next slots) e.number (Some value) None (omega (arith, number_below, length-by_number next slots)))
        ∙ ap (at (slice_set (by_number next slots) e.number (Some value))) (sym q))
        (λ q. other_number (Some (with_value e value)) next n s' (ne_eqb e.number n (λ r. q (sym r))) q
        ∙ sym (at-by_number next slots n s)
        ∙ sym (get_or-set_other (by_number next slots) e.number n (Some value) None q))
        (cases_eq n e.number))

    gone : List (Option (Entry T))
    gone = slice_set slots key None

    is_at-gone : (n k : ℕ) → is_at (slice_set slots key None) n k ≡ true → is_at slots n k ≡ true
    is_at-gone n k h = ⊎_elim
        (λ q. absurd (true≢false (sym h ∙ ap (λ j. is_at (slice_set slots key None) n j) q ∙ ap (λ x. has_number x n) (same_key None))))
        (λ q. sym (ap (λ x. has_number x n) (other_key None k q)) ∙ h)
        (cases_eq k key)

    pub sound-gone : IsSound next (slice_set slots key None)
    sound-gone = record {
      begun = s.begun;
      given = λ n k h. s.given n k (is_at-gone n k h);
      once = λ n k o h g. s.once n k o (is_at-gone n k h) (is_at-gone n o g);
    }

    -- the number of the entry has no value any more
    pub by_number-gone : by_number next (slice_set slots key None) ≡ slice_set (by_number next slots) e.number None
    by_number-gone =
        let new : List (Option (Entry T)) = slice_set slots key None in
        by_number-ext next new (slice_set (by_number next slots) e.number None) sound-gone
        (length-set (by_number next slots) e.number None ∙ length-by_number next slots)
        (λ n h. ⊎_elim
        (λ q. ap (found new) q ∙ found-nowhere new e.number nowhere
        ∙ sym (get_or-set_same (by_number next slots) e.number None None (omega (arith, number_below, length-by_number next slots)))
        ∙ ap (at (slice_set (by_number next slots) e.number None)) (sym q))
        (λ q. other_number None next n sound-gone refl q
        ∙ sym (at-by_number next slots n s)
        ∙ sym (get_or-set_other (by_number next slots) e.number n None None q))
        (cases_eq n e.number))
      where
        nowhere : (k : ℕ) → is_at (slice_set slots key None) e.number k ≡ false
        nowhere k = false_from_ne_true _ (λ h. absurd (true≢false (sym h
            ∙ ap (is_at (slice_set slots key None) e.number) (s.once e.number k key (is_at-gone e.number k h) (is_at-slot slots e.number key e there refl))
            ∙ ap (λ x. has_number x e.number) (same_key None))))

  -- a new entry under the next number
  module _ (next : ℕ) (old new : List (Option (Entry T))) (key : ℕ) (value : T) (s : IsSound next old) (was : slot old key ≡ None)
      (here : slot new key ≡ Some (record { number = next; value = value })) (others : (k : ℕ) → k ≢ key → slot new k ≡ slot old k) where
    is_at-more : (n k : ℕ) → is_at new n k ≡ true → ((k ≡ key) × (n ≡ next)) ⊎ ((k ≢ key) × (is_at old n k ≡ true))
    is_at-more n k h = ⊎_elim
        (λ q. inl (q, sym (eqb-true next n (sym (ap (λ x. has_number x n) here) ∙ sym (ap (is_at new n) q) ∙ h))))
        (λ q. inr (q, sym (ap (λ x. has_number x n) (others k q)) ∙ h))
        (cases_eq k key)

    pub sound-more : IsSound (next + 1) new
    sound-more = record {
      begun = omega arith;
      given = λ n k h. ⊎_elim (λ a. let b : 0 < next = s.begun in (omega arith, omega arith)) (λ a. let g = s.given n k a.1 in (g.0, omega arith)) (is_at-more n k h);
      once = λ n k o h g. ⊎_elim
          (λ a. ⊎_elim (λ b. a.0 ∙ sym b.0) (λ b. absurd (let r = s.given n o b.1 in omega arith)) (is_at-more n o g))
          (λ a. ⊎_elim (λ b. absurd (let r = s.given n k a.1 in omega arith)) (λ b. s.once n k o a.1 b.1) (is_at-more n o g))
          (is_at-more n k h);
    }

    -- the list by number has one more value
    pub by_number-more : by_number (next + 1) new ≡ by_number next old ++ Some value ∷ []
    by_number-more = by_number-ext (next + 1) new (by_number next old ++ Some value ∷ []) sound-more
        (length_push (by_number next old) (Some value) ∙ ap (λ n. n + 1) (length-by_number next old))
        (λ n h. ⊎_elim
        (λ q. sym (at-by_number (next + 1) new n sound-more) ∙ ap (at (by_number (next + 1) new)) q
        ∙ at-key (next + 1) new key (record { number = next; value = value }) sound-more here
        ∙ sym (get_or_push (by_number next old) (Some value) None next (length-by_number next old))
        ∙ ap (at (by_number next old ++ Some value ∷ [])) (sym q))
        (λ q. found-same next (next + 1) old new n s sound-more
        (λ k e is there. others k (λ r. absurd (let z = sym there ∙ ap (slot old) r ∙ was in cc)) ∙ there)
        (λ k e is there. sym (others k (λ r. q (sym is ∙ ap (λ y. y.number) (same_Some e (record { number = next; value = value }) (sym there ∙ ap (slot new) r ∙ here))))) ∙ there)
        ∙ sym (at-by_number next old n s)
        ∙ sym (get_or_append_left (by_number next old) (Some value ∷ []) None n (omega (arith, length-by_number next old))))
        (cases_eq n next))

  abbrev weight : Option T → ℕ
  weight x = cond (is_some x) 1 0

  count_by-set : (values : List (Option T)) (n : ℕ) (value : T) → n < length values → at values n ≡ None → count_by is_some (slice_set values n (Some value)) ≡ count_by is_some values + 1
  count_by-set values n value h none = let e = sum_by-set weight values n (Some value) None h in
      let z : weight (at values n) ≡ 0 = ap weight none in omega (arith, e, z)

  sound_rest : (next : ℕ) (x : Option (Entry T)) (slots : List (Option (Entry T))) → IsSound next (x ∷ slots) → IsSound next slots
  sound_rest next x slots s = record {
    begun = s.begun;
    given = λ n k h. s.given n (suc k) h;
    once = λ n k o h g. let e : suc k ≡ suc o = s.once n (suc k) (suc o) h g in omega arith;
  }

  numbered-none : (count first : ℕ) (slots : List (Option (Entry T))) → numbered count first (None ∷ slots) ≡ numbered count first slots
  numbered-none zero first slots = refl
  numbered-none (suc count) first slots = ap (λ l. found slots first ∷ l) (numbered-none count (suc first) slots)

  first_nowhere : (next : ℕ) (e : Entry T) (slots : List (Option (Entry T))) → IsSound next (Some e ∷ slots) → (k : ℕ) → is_at slots e.number k ≡ false
  first_nowhere next e slots s k = false_from_ne_true (is_at slots e.number k) (λ h. let q : 0 ≡ suc k = s.once e.number 0 (suc k) (eq-eqb e.number e.number refl) h in absurd (omega arith))

  by_number-cons : (next : ℕ) (e : Entry T) (slots : List (Option (Entry T))) → IsSound next (Some e ∷ slots) → by_number next (Some e ∷ slots) ≡ slice_set (by_number next slots) e.number (Some e.value)
  by_number-cons next e slots s =
      let rest = sound_rest next (Some e) slots s in
      let below : e.number < next = (s.given e.number 0 (eq-eqb e.number e.number refl)).1 in
      by_number-ext next (Some e ∷ slots) (slice_set (by_number next slots) e.number (Some e.value)) s
      (length-set (by_number next slots) e.number (Some e.value) ∙ length-by_number next slots)
      (λ n h. ⊎_elim
      (λ q. (let b : nat_eq e.number n ≡ true = eq-eqb e.number n (sym q) in rw b refl)
      ∙ sym (get_or-set_same (by_number next slots) e.number (Some e.value) None (omega (arith, below, length-by_number next slots)))
      ∙ ap (at (slice_set (by_number next slots) e.number (Some e.value))) (sym q))
      (λ q. (let b : nat_eq e.number n ≡ false = ne_eqb e.number n (λ r. q (sym r)) in rw b refl)
      ∙ sym (at-by_number next slots n rest)
      ∙ sym (get_or-set_other (by_number next slots) e.number n (Some e.value) None q))
      (cases_eq n e.number))

  count-empty : (slots : List (Option (Entry T))) (count first : ℕ) → slots ≡ [] → count_by is_some (numbered count first slots) ≡ 0
  count-empty slots zero first h = refl
  count-empty slots (suc count) first h = sum_by-cons weight (found slots first) (numbered count (suc first) slots)
      ∙ (let a : weight (found slots first) ≡ 0 = ap (λ s. weight (found s first)) h in omega (arith, a, count-empty slots count (suc first) h))

  -- there are as many values by number as in the slots
  pub count-by_number : (next : ℕ) (slots : List (Option (Entry T))) → IsSound next slots → count_by is_some (by_number next slots) ≡ count_by is_some slots
  count-by_number next [] s = count-empty [] next 0 refl
  count-by_number next (None ∷ slots) s = ap (count_by is_some) (numbered-none next 0 slots) ∙ count-by_number next slots (sound_rest next None slots s)
  count-by_number next (Some e ∷ slots) s =
      let rest = sound_rest next (Some e) slots s in
      let below : e.number < next = (s.given e.number 0 (eq-eqb e.number e.number refl)).1 in
      let first = sum_by-cons (λ (x : Option (Entry T)). cond (is_some x) 1 0) (Some e) slots in
      ap (count_by is_some) (by_number-cons next e slots s)
      ∙ count_by-set (by_number next slots) e.number e.value (omega (arith, below, length-by_number next slots)) (at-nowhere next slots e.number rest (first_nowhere next e slots s))
      ∙ (let n = count-by_number next slots rest in omega (arith, n, first))

  -- the same facts of a list of values that is seen, and of the number that an entry was found by
  module _ (next : ℕ) (slots : List (Option (Entry T))) (values : List (Option T)) (n key : ℕ) (view : by_number next slots ≡ values) (s : IsSound next slots) where
    pub value_nowhere : ((k : ℕ) → is_at slots n k ≡ false) → at values n ≡ None
    value_nowhere h = sym (ap (λ v. at v n) view) ∙ at-nowhere next slots n s h

    pub set_nowhere : ((k : ℕ) → is_at slots n k ≡ false) → values ≡ slice_set values n None
    set_nowhere h = sym (set-get_or values n None) ∙ ap (slice_set values n) (value_nowhere h)

    module _ (e : Entry T) (found' : is_at slots n key ≡ true) (there : Some e ≡ slot slots key) where
      number_is : e.number ≡ n
      number_is = eqb-true e.number n (ap (λ x. has_number x n) there ∙ found')

      pub value_at : Some e.value ≡ at values n
      value_at = sym (at-key next slots key e s (sym there)) ∙ ap (at (by_number next slots)) number_is ∙ ap (λ v. at v n) view

      pub set_at : (value : T) → by_number next (slice_set slots key (Some (with_value e value))) ≡ slice_set values n (Some value)
      set_at value = by_number-set next slots key e s (sym there) value ∙ ap (λ k. slice_set (by_number next slots) k (Some value)) number_is ∙ ap (λ v. slice_set v n (Some value)) view

      pub gone_at : (new : List (Option (Entry T))) → new ≡ slice_set slots key None → by_number next new ≡ slice_set values n None
      gone_at new is = ap (by_number next) is ∙ by_number-gone next slots key e s (sym there) ∙ ap (λ k. slice_set (by_number next slots) k None) number_is ∙ ap (λ v. slice_set v n None) view

      pub sound_gone_at : (new : List (Option (Entry T))) → new ≡ slice_set slots key None → IsSound next new
      sound_gone_at new is = rw is (sound-gone next slots key e s (sym there))

-- a borrow ends alike where the values that it may leave are alike
pub lends_same : {A B C D : Type 0} (name : A) (f g : B → C) → ((w : B) → f w ≡ g w) → ◌≡◌ {A = (A × (B → C)) ⊎ D} (inl (name, f)) (inl (name, g))
lends_same name f g same = λ i. inl (name, λ w. same w i)
