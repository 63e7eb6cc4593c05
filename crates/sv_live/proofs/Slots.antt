-- Slots in which lives are found by an index.
use Rattle.std.proofs.Common.{◌≡◌, ◌≢◌, ◌≤◌, ◌<◌, ◌⊎◌, inl, inr, ℕ, zero, suc, List, [], ◌∷◌, ◌++◌, length, length-append, Bool, true, false, Option, Some, None, refl, ap, sym, ◌∙◌, arith, subst, append_assoc}
use Rattle.std.specs.Prelude.{if◌then◌else◌, ◌==◌, is_some, IsSome, slice_set}
use Rattle.std.specs.BTreeMap.{BTreeMap, get, Updates}
use Rattle.std.specs.Ordering.{MatchOrdering, is_eq, nat_cmp}
use Rattle.std.specs.declared.cmp.Ordering.{Ordering}
use Rattle.std.specs.declared.cmp.Ordering.TheVariants.{Less, Equal, Greater}
use Rattle.std.specs.Cmp.{ranks}
use Rattle.std.proofs.lemmas.Bool.{eq-eqb, eqb-true, cases_lt, true≢false}
use Rattle.std.proofs.lemmas.List.{get_or_append_left}
use Rattle.std.proofs.Math.ListN.{get_or-eq_default, length-set}
use Rattle.sv_live.specs.declared.live.Live.{Live}
use Rattle.sv_live.specs.Known.{number, answers, or_else, known}
use Rattle.sv_live.specs.Walk.{Takes, KeepsOthers, slot, has_number, listed, rest_of, IsIndexed}
use Rattle.sv_live.proofs.Known.{known-append, known-other, hit-same, known-without}

no : {l : Live} → None ≡ Some l → ⊥
no e = cc

-- one more slot
pub rest-push : (slots : List (Option Live)) (l : Live) → rest_of (slots ++ Some l ∷ []) ≡ l ∷ rest_of slots
rest-push [] l = refl
rest-push (s ∷ slots) l = ap (λ z. z ++ listed s) (rest-push slots l)

-- ---- what is known of what is in slots

known-listed : (n : ℕ) (s : Option Live) → ((l : Live) → s ≡ Some l → number l ≢ n) → known n (listed s) ≡ None
known-listed n None other = refl
known-listed n (Some l) other = known-other n l [] (other l refl)

known-same : (n : ℕ) (s : Option Live) → ((l : Live) → s ≡ Some l → number l ≡ n) → known n (listed s) ≡ s
known-same n None same = refl
known-same n (Some l) same = hit-same n l (same l refl)

pub known-nowhere : (n : ℕ) (slots : List (Option Live)) → ((i : ℕ) (l : Live) → slot slots i ≡ Some l → number l ≢ n) → known n (rest_of slots) ≡ None
known-nowhere n [] other = refl
known-nowhere n (s ∷ slots) other =
    known-append n (rest_of slots) (listed s)
    ∙ (λ i. or_else (known-listed n s (λ l is. other 0 l is) i) (known-nowhere n slots (λ j l is. other (suc j) l is) i))

-- where only one slot can have one with the number
pub known-there : (n i : ℕ) (slots : List (Option Live)) → ((j : ℕ) (l : Live) → slot slots j ≡ Some l → number l ≡ n → j ≡ i) → ((l : Live) → slot slots i ≡ Some l → number l ≡ n) → known n (rest_of slots) ≡ slot slots i
known-there n i [] only same = refl
known-there n zero (s ∷ slots) only same =
    known-append n (rest_of slots) (listed s)
    ∙ ((λ i. or_else (known-same n s same i) (known-nowhere n slots (λ j l is e. (let h = only (suc j) l is e in omega (arith, h))) i)) ∙ none s)
  where
    none : (o : Option Live) → or_else o None ≡ o
    none None = refl
    none (Some l) = refl
known-there n (suc i) (s ∷ slots) only same =
    known-append n (rest_of slots) (listed s)
    ∙ (λ k. or_else (known-listed n s (λ l is e. (let h = only 0 l is e in omega (arith, h))) k) (known-there n i slots (λ j l is e. (let h = only (suc j) l is e in omega (arith, h))) same k))

-- ---- the index

module _ (slots : List (Option Live)) (start : ℕ) (index : BTreeMap ℕ ℕ) (x : IsIndexed slots start index) (n : ℕ) where
  some : {a b : ℕ} → Some a ≡ Some b → a ≡ b
  some e = cc

  nowhere : {a : ℕ} → None ≡ Some a → ⊥
  nowhere e = cc

  -- the one with the number is where the index says
  pub known-found : (i : ℕ) → get nat_cmp index n ≡ Some i → has_number n (slot slots i) ≡ true → known n (rest_of slots) ≡ slot slots i
  known-found i at has = known-there n i slots (λ j l is e. some (sym (x.found j l is) ∙ (ap (get nat_cmp index) e ∙ at))) (λ l is. eqb-true (number l) n (sym (ap (has_number n) is) ∙ has))

  -- there is none where the index says so, and none where another one is there
  pub known-missing : get nat_cmp index n ≡ None → known n (rest_of slots) ≡ None
  known-missing none = known-nowhere n slots (λ i l is e. nowhere (sym none ∙ (ap (get nat_cmp index) (sym e) ∙ x.found i l is)))

  pub known-gone : (i : ℕ) → get nat_cmp index n ≡ Some i → has_number n (slot slots i) ≡ false → known n (rest_of slots) ≡ None
  known-gone i at has = known-nowhere n slots (λ j l is e.
      (let here = some (sym (x.found j l is) ∙ (ap (get nat_cmp index) e ∙ at)) in never (sym has ∙ (ap (λ k. has_number n (slot slots k)) (sym here) ∙ (ap (has_number n) is ∙ eq-eqb (number l) n e)))))
    where
      never : false ≡ true → ⊥
      never e = cc

module _ (slots : List (Option Live)) (start : ℕ) (index : BTreeMap ℕ ℕ) (x : IsIndexed slots start index) (n i : ℕ) (at : get nat_cmp index n ≡ Some i) where
  -- whether there is one
  pub has-known : has_number n (slot slots i) ≡ is_some (known n (rest_of slots))
  has-known = go (has_number n (slot slots i)) refl
    where
      full : (s : Option Live) → has_number n s ≡ true → is_some s ≡ true
      full None e = absurd (true≢false (sym e))
      full (Some l) e = refl

      go : (b : Bool) → has_number n (slot slots i) ≡ b → has_number n (slot slots i) ≡ is_some (known n (rest_of slots))
      go true e = e ∙ sym (ap is_some (known-found slots start index x n i at e) ∙ full (slot slots i) e)
      go false e = e ∙ sym (ap is_some (known-gone slots start index x n i at e))

-- one more slot
beyond : (slots : List (Option Live)) → slot slots (length slots) ≡ None
beyond [] = refl
beyond (s ∷ slots) = beyond slots

slot-push : (slots : List (Option Live)) (l m : Live) (i : ℕ) → slot (slots ++ Some l ∷ []) i ≡ Some m → (slot slots i ≡ Some m) ⊎ ((i ≡ length slots) × (l ≡ m))
slot-push [] l m zero is = inr (refl, same is)
  where
    same : Some l ≡ Some m → l ≡ m
    same e = cc
slot-push [] l m (suc i) is = absurd (no is)
slot-push (s ∷ slots) l m zero is = inl is
slot-push (s ∷ slots) l m (suc i) is = go (slot-push slots l m i is)
  where
    go : (slot slots i ≡ Some m) ⊎ ((i ≡ length slots) × (l ≡ m)) → (slot slots i ≡ Some m) ⊎ ((suc i ≡ suc (length slots)) × (l ≡ m))
    go (inl e) = inl e
    go (inr e) = inr (ap suc e.0, e.1)

none-push : (slots : List (Option Live)) (l : Live) (i : ℕ) → i < length slots → slot slots i ≡ None → slot (slots ++ Some l ∷ []) i ≡ None
none-push slots l i lt is = get_or_append_left slots (Some l ∷ []) None i lt ∙ is

unequal-by : (q k : ℕ) (o : Ordering) → MatchOrdering o (q < k) (q ≡ k) (k < q) → q ≢ k → is_eq o ≡ false
unequal-by q k Less r apart = refl
unequal-by q k Equal r apart = absurd (apart r)
unequal-by q k Greater r apart = refl

module _ (slots : List (Option Live)) (start : ℕ) (index index' : BTreeMap ℕ ℕ) (x : IsIndexed slots start index) (l : Live) (new : known (number l) (rest_of slots) ≡ None) (u : Updates nat_cmp index index' (number l) (Some (length slots))) where
  -- those that are in slots have other numbers
  other : (i : ℕ) (m : Live) → slot slots i ≡ Some m → number l ≢ number m
  other i m is e = never (sym new ∙ (ap (λ n. known n (rest_of slots)) e ∙ (known-found slots start index x (number m) i (x.found i m is) (ap (has_number (number m)) is ∙ eq-eqb (number m) (number m) refl) ∙ is)))
    where
      never : None ≡ Some m → ⊥
      never e = cc

  pub indexed-noted : IsIndexed slots start index'
  indexed-noted = record { found = λ i m is. u.2 (number m) (unequal-by (number l) (number m) (nat_cmp (number l) (number m)) (ranks (number l) (number m)) (other i m is)) ∙ x.found i m is; empty = x.empty; within = x.within }

  pub indexed-pushed : IsIndexed (slots ++ Some l ∷ []) start index'
  indexed-pushed = record {
    found = λ i m is. go i m (slot-push slots l m i is);
    empty = λ i lt. none-push slots l i (let w = x.within in omega (arith, w, lt)) (x.empty i lt);
    within = (let w = x.within in let n = length-append slots (Some l ∷ []) in omega (arith, w, n));
  }
    where
      go : (i : ℕ) (m : Live) → (slot slots i ≡ Some m) ⊎ ((i ≡ length slots) × (l ≡ m)) → get nat_cmp index' (number m) ≡ Some i
      go i m (inl is) = indexed-noted.found i m is
      go i m (inr e) = ap (λ z. get nat_cmp index' (number z)) (sym e.1) ∙ (u.1 ∙ ap Some (sym e.0))

-- ---- one is taken

-- the slots before it are empty
abbrev AreEmpty : List (Option Live) → ℕ → Type 0
AreEmpty slots i = (j : ℕ) → j < i → slot slots j ≡ None

-- with one more behind the last
more-back : (old new xs : List Live) (l : Live) (last : Bool) → (last ≡ true → xs ≡ []) → Takes old new l last → Takes (old ++ xs) (new ++ xs) l last
more-back old new xs l last none k = record {
  front = k.front;
  back = k.back ++ xs;
  was = ap (λ z. z ++ xs) k.was ∙ append_assoc k.front (l ∷ k.back) xs;
  is = ap (λ z. z ++ xs) k.is ∙ append_assoc k.front k.back xs;
  end = λ e. (λ i. k.end e i ++ none e i);
}

pub slot-taken : (slots : List (Option Live)) (i : ℕ) (l : Live) (last : Bool) → slot slots i ≡ Some l → (last ≡ true → AreEmpty slots i) → Takes (rest_of slots) (rest_of (slice_set slots i None)) l last
slot-taken [] i l last is empty = absurd (no is)
slot-taken (s ∷ slots) zero l last is empty = record {
  front = rest_of slots;
  back = [];
  was = ap (λ z. rest_of slots ++ listed z) is;
  is = refl;
  end = λ e. refl;
}
slot-taken (s ∷ slots) (suc i) l last is empty =
    more-back (rest_of slots) (rest_of (slice_set slots i None)) (listed s) l last (λ e. ap listed (empty e 0 (omega arith))) (slot-taken slots i l last is (λ e j lt. empty e (suc j) (omega (arith, lt))))

pub slot-empty : (slots : List (Option Live)) (i : ℕ) → slot slots i ≡ None → rest_of (slice_set slots i None) ≡ rest_of slots
slot-empty [] i is = refl
slot-empty (s ∷ slots) zero is = ap (λ z. rest_of slots ++ listed z) (sym is)
slot-empty (s ∷ slots) (suc i) is = ap (λ z. z ++ listed s) (slot-empty slots i is)

-- what else is known stays
pub others-taken : (old new : List Live) (l : Live) (last : Bool) (n : ℕ) → Takes old new l last → number l ≡ n → KeepsOthers n old new
others-taken old new l last n k same m other =
    ap (known m) k.is ∙ (sym (known-without m k.front k.back l (λ e. other (sym e ∙ same))) ∙ sym (ap (known m) k.was))

-- a slot of those that are left
slot-set : (slots : List (Option Live)) (i j : ℕ) (l : Live) → slot (slice_set slots i None) j ≡ Some l → slot slots j ≡ Some l
slot-set [] i j l is = is
slot-set (s ∷ slots) zero zero l is = absurd (no is)
slot-set (s ∷ slots) zero (suc j) l is = is
slot-set (s ∷ slots) (suc i) zero l is = is
slot-set (s ∷ slots) (suc i) (suc j) l is = slot-set slots i j l is

none-left : (slots : List (Option Live)) (i j : ℕ) → slot slots j ≡ None → slot (slice_set slots i None) j ≡ None
none-left [] i j is = is
none-left (s ∷ slots) zero zero is = refl
none-left (s ∷ slots) zero (suc j) is = is
none-left (s ∷ slots) (suc i) zero is = is
none-left (s ∷ slots) (suc i) (suc j) is = none-left slots i j is

pub indexed-taken : (slots : List (Option Live)) (start : ℕ) (index : BTreeMap ℕ ℕ) (i : ℕ) → IsIndexed slots start index → IsIndexed (slice_set slots i None) start index
indexed-taken slots start index i x = record { found = λ j l is. x.found j l (slot-set slots i j l is); empty = λ j lt. none-left slots i j (x.empty j lt); within = (let w = x.within in let n = length-set slots i None in omega (arith, w, n)) }

-- the start goes on
pub indexed-later : (slots : List (Option Live)) (start later : ℕ) (index : BTreeMap ℕ ℕ) → IsIndexed slots start index → ((i : ℕ) → start ≤ i → i < later → slot slots i ≡ None) → (start ≤ length slots → later ≤ length slots) → IsIndexed slots later index
indexed-later slots start later index x empty within = record { found = x.found; empty = λ i lt. go i lt (cases_lt i start); within = within x.within }
  where
    go : (i : ℕ) → i < later → (i < start) ⊎ (start ≤ i) → slot slots i ≡ None
    go i lt (inl below) = x.empty i below
    go i lt (inr from) = empty i from lt

-- nothing is in empty slots
pub rest-none : (slots : List (Option Live)) → ((i : ℕ) → slot slots i ≡ None) → rest_of slots ≡ []
rest-none [] empty = refl
rest-none (s ∷ slots) empty = (λ i. rest-none slots (λ j. empty (suc j)) i ++ listed (empty 0 i))

-- ---- one is taken by its number

-- what was in the slot, if it has the number
abbrev Picks : ℕ → Option Live → Option Live
Picks n s = if has_number n s then s else None

picked : (n : ℕ) (s : Option Live) (l : Live) → Some l ≡ Picks n s → (has_number n s ≡ true) × (s ≡ Some l)
picked n None l is = absurd (no (sym is))
picked n (Some m) l is = go (answers n m) refl is
  where
    go : (b : Bool) → answers n m ≡ b → Some l ≡ (if answers n m then Some m else None) → (answers n m ≡ true) × (Some m ≡ Some l)
    go true e h = (e, sym (h ∙ ap (λ z. if z then Some m else None) e))
    go false e h = absurd (no (sym (h ∙ ap (λ z. if z then Some m else None) e)))

left : (n : ℕ) (s : Option Live) → None ≡ Picks n s → has_number n s ≡ false
left n None is = refl
left n (Some m) is = go (answers n m) refl is
  where
    go : (b : Bool) → answers n m ≡ b → None ≡ (if answers n m then Some m else None) → answers n m ≡ false
    go true e h = absurd (no (h ∙ ap (λ z. if z then Some m else None) e))
    go false e h = e

module _ (slots : List (Option Live)) (start : ℕ) (index : BTreeMap ℕ ℕ) (x : IsIndexed slots start index) (n i : ℕ) (at : Some i ≡ get nat_cmp index n) (slots' : List (Option Live))
    (after : slots' ≡ (if has_number n (slot slots i) then slice_set slots i None else slots)) where
  pub take-none : None ≡ Picks n (slot slots i) → known n (rest_of slots) ≡ None
  take-none is = known-gone slots start index x n i (sym at) (left n (slot slots i) is)

  pub take-none-same : None ≡ Picks n (slot slots i) → slots' ≡ slots
  take-none-same is = after ∙ ap (λ z. if z then slice_set slots i None else slots) (left n (slot slots i) is)

  module _ (l : Live) (is : Some l ≡ Picks n (slot slots i)) where
    has : has_number n (slot slots i) ≡ true
    has = (picked n (slot slots i) l is).0

    here : slot slots i ≡ Some l
    here = (picked n (slot slots i) l is).1

    emptied : slots' ≡ slice_set slots i None
    emptied = after ∙ ap (λ z. if z then slice_set slots i None else slots) has

    pub take-known : Some l ≡ known n (rest_of slots)
    take-known = sym (known-found slots start index x n i (sym at) has ∙ here)

    pub take-indexed : (later : ℕ) → ((j : ℕ) → start ≤ j → j < later → slot slots' j ≡ None) → (start ≤ length slots' → later ≤ length slots') → IsIndexed slots' later index
    take-indexed later empty within = indexed-later slots' start later index (subst (λ (ss : List (Option Live)). IsIndexed ss start index) (sym emptied) (indexed-taken slots start index i x)) empty within

    pub take-takes : Takes (rest_of slots) (rest_of slots') l (i == start)
    take-takes =
        subst (λ (ss : List (Option Live)). Takes (rest_of slots) (rest_of ss) l (i == start)) (sym emptied)
        (slot-taken slots i l (i == start) here (λ e j lt. x.empty j (let s = eqb-true i start e in omega (arith, s, lt))))

    pub take-others : KeepsOthers n (rest_of slots) (rest_of slots')
    take-others = others-taken (rest_of slots) (rest_of slots') l (i == start) n take-takes (eqb-true (number l) n (sym (ap (has_number n) here) ∙ has))

-- ---- the last is taken

module _ (slots : List (Option Live)) (start later : ℕ) (index : BTreeMap ℕ ℕ) (x : IsIndexed slots start index) (empty : (j : ℕ) → start ≤ j → j < later → slot slots j ≡ None) (within : start ≤ length slots → later ≤ length slots) where
  y : IsIndexed slots later index
  y = indexed-later slots start later index x empty within

  pub last-indexed : IsIndexed (slice_set slots later None) later index
  last-indexed = indexed-taken slots later index later y

  pub last-taken : (l : Live) → slot slots later ≡ Some l → Takes (rest_of slots) (rest_of (slice_set slots later None)) l true
  last-taken l is = slot-taken slots later l true is (λ e j lt. y.empty j lt)

  pub last-none : (later < length slots → IsSome (slot slots later)) → slot slots later ≡ None → rest_of slots ≡ []
  last-none full none = rest-none slots (λ j. go j (cases_lt j later))
    where
      never : IsSome (slot slots later) → ⊥
      never some = true≢false (sym some ∙ ap is_some none)

      go : (j : ℕ) → (j < later) ⊎ (later ≤ j) → slot slots j ≡ None
      go j (inl lt) = y.empty j lt
      go j (inr le) = over j le (cases_lt later (length slots))
        where
          over : (j : ℕ) → later ≤ j → (later < length slots) ⊎ (length slots ≤ later) → slot slots j ≡ None
          over j le (inl lt) = absurd (never (full lt))
          over j le (inr ge) = get_or-eq_default slots None (omega (arith, le, ge))
