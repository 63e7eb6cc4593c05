-- Rows by their keys: each old row is taken over by one row to come, or goes.
use Rattle.std.proofs.Common.{◌≡◌, ℕ, suc, ◌+◌, ◌≤◌, Bool, true, false, cond, ◌||◌, List, [], ◌∷◌, ◌++◌, map, Option, Some, None, option_map, is_some, refl, sym, ap, ◌∙◌, arith, add-one, slice_get, if◌then◌else◌}
use Rattle.sv_code.proofs.Each.{each_mono}
use Rattle.sv_code.specs.Names.{Each}
use Rattle.sv_keyed.proofs.Times.{same_key-true, same_key-self}
use Rattle.sv_keyed.specs.Keys.{same_key, times, IsDistinct, place_after, place_of}
use Rattle.sv_plan.specs.Lists.{row_keys, keys_of, entry_of, gone, gone_rows, gone_none}
use Rattle.sv_plan.specs.Rows.{old_at, old_found, old_row, old_parts}
use Rattle.sv_plan.specs.declared.lists.Entry.{Entry}
use Rattle.sv_places.specs.Fits.{is_empty}
use Rattle.sv_shapes.specs.declared.shape.Row.{Row}
use Rattle.sv_shapes.specs.declared.shape.Shape.{Shape}
use Rattle.sv_value.specs.declared.key.Key.{Key}

-- ---- keys

pub same_key-sym : (a b : Key) → same_key a b ≡ same_key b a
same_key-sym a b = go (same_key a b) refl (same_key b a) refl
  where
    go : (x : Bool) → same_key a b ≡ x → (y : Bool) → same_key b a ≡ y → x ≡ y
    go true e true f = refl
    go true e false f = let q = same_key-true a b e in sym (same_key-self a) ∙ (ap (λ z. same_key z a) q ∙ f)
    go false e true f = let q = same_key-true b a f in sym e ∙ (sym (ap (λ z. same_key z b) q) ∙ same_key-self b)
    go false e false f = refl

-- a key is among some
abbrev pub among : Key → List Key → Bool
among k [] = false
among k (x ∷ xs) = same_key x k || among k xs

some_or : (b : Bool) (i : ℕ) (found : Option ℕ) (c : Bool) → (is_some (cond b (Some i) found) || c) ≡ (is_some found || (b || c))
some_or true i None c = refl
some_or true i (Some j) c = refl
some_or false i found c = refl

none_or : (found : Option ℕ) → is_some found ≡ (is_some found || false)
none_or None = refl
none_or (Some i) = refl

place-some : (found : Option ℕ) (i : ℕ) (xs : List Key) (k : Key) → is_some (place_after found i xs k) ≡ (is_some found || among k xs)
place-some found i [] k = none_or found
place-some found i (x ∷ xs) k = place-some (cond (same_key x k) (Some i) found) (i + 1) xs k ∙ some_or (same_key x k) i found (among k xs)

pub place-among : (xs : List Key) (k : Key) → is_some (place_of xs k) ≡ among k xs
place-among xs k = place-some None 0 xs k

pub absent : (k : Key) (xs : List Key) → times k xs ≡ 0 → among k xs ≡ false
absent k [] e = refl
absent k (x ∷ xs) e = go (same_key k x) refl e (absent k xs)
  where
    go : (b : Bool) → same_key k x ≡ b → cond b (suc (times k xs)) (times k xs) ≡ 0 → (times k xs ≡ 0 → among k xs ≡ false) → (same_key x k || among k xs) ≡ false
    go true q e' rest = absurd (omega arith)
    go false q e' rest = rw (same_key-sym x k, q) (rest e')

-- a key that isn't there leaves what was found before
place-absent : (found : Option ℕ) (i : ℕ) (xs : List Key) (k : Key) → times k xs ≡ 0 → place_after found i xs k ≡ found
place-absent found i [] k e = refl
place-absent found i (x ∷ xs) k e = go (same_key k x) refl e (λ f. place-absent f (i + 1) xs k)
  where
    go : (b : Bool) → same_key k x ≡ b → cond b (suc (times k xs)) (times k xs) ≡ 0 → ((f : Option ℕ) → times k xs ≡ 0 → place_after f (i + 1) xs k ≡ f) → place_after (cond (same_key x k) (Some i) found) (i + 1) xs k ≡ found
    go true q e' rest = absurd (omega arith)
    go false q e' rest = rw (same_key-sym x k, q) (rest found e')

abbrev further : Option ℕ → Option ℕ
further found = option_map (λ i. i + 1) found

further_in : (b : Bool) (i : ℕ) (found : Option ℕ) → cond b (Some (i + 1)) (further found) ≡ further (cond b (Some i) found)
further_in true i found = refl
further_in false i found = refl

-- places one further
place-further : (found : Option ℕ) (i : ℕ) (xs : List Key) (k : Key) → place_after (further found) (i + 1) xs k ≡ further (place_after found i xs k)
place-further found i [] k = refl
place-further found i (x ∷ xs) k = ap (λ f. place_after f ((i + 1) + 1) xs k) (further_in (same_key x k) i found) ∙ place-further (cond (same_key x k) (Some i) found) (i + 1) xs k

pub distinct-rest : (k : Key) (ks : List Key) → IsDistinct (k ∷ ks) → IsDistinct ks
distinct-rest k ks d j = go (same_key j k) (d j)
  where
    go : (b : Bool) → cond b (suc (times j ks)) (times j ks) ≤ 1 → times j ks ≤ 1
    go true h = omega arith
    go false h = h

pub distinct-first : (k : Key) (ks : List Key) → IsDistinct (k ∷ ks) → times k ks ≡ 0
distinct-first k ks d = go (same_key k k) (same_key-self k) (d k)
  where
    go : (b : Bool) → b ≡ true → cond b (suc (times k ks)) (times k ks) ≤ 1 → times k ks ≡ 0
    go true e h = omega arith
    go false e h = absurd (cc)

-- ---- old rows

old-nil : (place : Option ℕ) → old_parts (old_found [] place) ≡ []
old-nil None = refl
old-nil (Some i) = refl

parts_at : (r : Row) (rs : List Row) (i : ℕ) → old_parts (old_at (r ∷ rs) (i + 1)) ≡ old_parts (old_at rs i)
parts_at r rs i = rw (add-one i) (go (slice_get rs i))
  where
    go : (o : Option Row) → old_parts (option_map (λ x. record { index = suc i; row = x }) o) ≡ old_parts (option_map (λ x. record { index = i; row = x }) o)
    go None = refl
    go (Some x) = refl

old-further : (r : Row) (rs : List Row) (place : Option ℕ) → old_parts (old_found (r ∷ rs) (further place)) ≡ old_parts (old_found rs place)
old-further r rs None = refl
old-further r rs (Some i) = parts_at r rs i

-- the row that has a key, which no other has, and the same among others
pub old-here : (r : Row) (rs : List Row) (k : Key) → same_key r.key k ≡ true → times k (row_keys rs) ≡ 0 → old_parts (old_row (r ∷ rs) k) ≡ r.parts
old-here r rs k e none =
    ap (λ b. old_parts (old_found (r ∷ rs) (place_after (cond b (Some 0) None) (0 + 1) (row_keys rs) k))) e
    ∙ ap (λ f. old_parts (old_found (r ∷ rs) f)) (place-absent (Some 0) (0 + 1) (row_keys rs) k none)

pub old-there : (r : Row) (rs : List Row) (k : Key) → same_key r.key k ≡ false → old_parts (old_row (r ∷ rs) k) ≡ old_parts (old_row rs k)
old-there r rs k e =
    ap (λ b. old_parts (old_found (r ∷ rs) (place_after (cond b (Some 0) None) (0 + 1) (row_keys rs) k))) e
    ∙ (ap (λ f. old_parts (old_found (r ∷ rs) f)) (place-further None 0 (row_keys rs) k) ∙ old-further r rs (place_of (row_keys rs) k))

pub old-absent : (rs : List Row) (k : Key) → times k (row_keys rs) ≡ 0 → old_parts (old_row rs k) ≡ []
old-absent rs k none = rw (place-absent None 0 (row_keys rs) k none) refl

-- the rows that stay as they are have their keys
pub keys-kept : (rows : List Row) → keys_of (map entry_of rows) ≡ row_keys rows
keys-kept [] = refl
keys-kept (r ∷ rs) = ap (λ ks. r.key ∷ ks) (keys-kept rs)

-- the branch for no rows, where it stays
abbrev pub none_kept : List Entry → List Shape → List Shape
none_kept [] none = none
none_kept (e ∷ entries) none = []

-- ---- how much stands in rows, by a measure that adds up

module _ (m : List Shape → ℕ) (empty : m [] ≡ 0) (add : (xs ys : List Shape) → m (xs ++ ys) ≡ m xs + m ys) where
  abbrev pub in_rows : List Row → ℕ
  in_rows [] = 0
  in_rows (r ∷ rs) = m r.parts + in_rows rs

  -- what rows with these keys take over
  abbrev pub taken_over : List Row → List Key → ℕ
  taken_over rows [] = 0
  taken_over rows (k ∷ ks) = m (old_parts (old_row rows k)) + taken_over rows ks

  -- what goes
  abbrev pub left : List Key → List Row → ℕ
  left ks [] = 0
  left ks (r ∷ rs) = if among r.key ks then left ks rs else m r.parts + left ks rs

  pub gone-left : (ks : List Key) (rows : List Row) → m (gone_rows ks rows) ≡ left ks rows
  gone-left ks [] = empty
  gone-left ks (r ∷ rs) = ap (λ b. m (cond b (gone_rows ks rs) (r.parts ++ gone_rows ks rs))) (place-among ks r.key) ∙ go (among r.key ks) (gone-left ks rs)
    where
      go : (b : Bool) → m (gone_rows ks rs) ≡ left ks rs → m (cond b (gone_rows ks rs) (r.parts ++ gone_rows ks rs)) ≡ cond b (left ks rs) (m r.parts + left ks rs)
      go true ih = ih
      go false ih = omega (arith, ih, add r.parts (gone_rows ks rs))

  -- one key more takes one row over
  left-more : (k : Key) (ks : List Key) → times k ks ≡ 0 → (rows : List Row) → IsDistinct (row_keys rows) → m (old_parts (old_row rows k)) + left (k ∷ ks) rows ≡ left ks rows
  left-more k ks none [] d = rw (old-nil (place_of [] k), empty) (omega arith)
  left-more k ks none (r ∷ rs) d = go (same_key r.key k) refl (left-more k ks none rs (distinct-rest r.key (row_keys rs) d))
    where
      go : (b : Bool) → same_key r.key k ≡ b → m (old_parts (old_row rs k)) + left (k ∷ ks) rs ≡ left ks rs → m (old_parts (old_row (r ∷ rs) k)) + left (k ∷ ks) (r ∷ rs) ≡ left ks (r ∷ rs)
      go true e ih =
          let same : r.key ≡ k = same_key-true r.key k e in
          let zero : times k (row_keys rs) ≡ 0 = ap (λ z. times z (row_keys rs)) (sym same) ∙ distinct-first r.key (row_keys rs) d in
          let gone : among r.key ks ≡ false = ap (λ z. among z ks) same ∙ absent k ks none in
          let nothing : m (old_parts (old_row rs k)) ≡ 0 = ap m (old-absent rs k zero) ∙ empty in
          rw (old-here r rs k e zero, same_key-sym k r.key, e, gone) (omega (arith, ih, nothing))
      go false e ih = rw (old-there r rs k e, same_key-sym k r.key, e) (split (among r.key ks))
        where
          split : (b : Bool) → m (old_parts (old_row rs k)) + cond b (left (k ∷ ks) rs) (m r.parts + left (k ∷ ks) rs) ≡ cond b (left ks rs) (m r.parts + left ks rs)
          split true = ih
          split false = omega (arith, ih)

  pub matching : (rows : List Row) (ks : List Key) → IsDistinct (row_keys rows) → IsDistinct ks → taken_over rows ks + left ks rows ≡ in_rows rows
  matching [] [] d c = omega arith
  matching (r ∷ rs) [] d c = let ih = matching rs [] (distinct-rest r.key (row_keys rs) d) c in omega (arith, ih)
  matching rows (k ∷ ks) d c = let ih = matching rows ks d (distinct-rest k ks c) in let one = left-more k ks (distinct-first k ks c) rows d in omega (arith, ih, one)

  -- where the keys are those of the rows, nothing goes
  kept-none : (ks : List Key) (rows : List Row) → Each (λ r. among r.key ks ≡ true) rows → left ks rows ≡ 0
  kept-none ks [] h = refl
  kept-none ks (r ∷ rs) h = rw h.0 (kept-none ks rs h.1)

  here : (rows : List Row) → Each (λ r. among r.key (row_keys rows) ≡ true) rows
  here [] = tt
  here (r ∷ rs) = (rw (same_key-self r.key) refl, each_mono (λ x. among x.key (row_keys rs) ≡ true) (λ x. among x.key (row_keys (r ∷ rs)) ≡ true) (λ x h. rw h (or_true (same_key r.key x.key))) rs (here rs))
    where
      or_true : (b : Bool) → (b || true) ≡ true
      or_true true = refl
      or_true false = refl

  pub stay-all : (rows : List Row) → left (row_keys rows) rows ≡ 0
  stay-all rows = kept-none (row_keys rows) rows (here rows)

  -- the branch for no rows stays or goes
  none-left : (entries : List Entry) (none : List Shape) → m (gone_none entries none) + m (none_kept entries none) ≡ m none
  none-left [] none = omega (arith, empty)
  none-left (e ∷ entries) none = omega (arith, empty)

  -- what goes of a list, and what rows and the branch for no rows take over, is all there was
  pub taken-all : (rows : List Row) (none : List Shape) (entries : List Entry) → IsDistinct (row_keys rows) → IsDistinct (keys_of entries) → m (gone entries rows none) + (taken_over rows (keys_of entries) + m (none_kept entries none)) ≡ in_rows rows + m none
  taken-all rows none entries d c = omega (arith, add (gone_rows (keys_of entries) rows) (gone_none entries none), gone-left (keys_of entries) rows, matching rows (keys_of entries) d c, none-left entries none)

  -- nothing goes of a list that stays as it is
  none-gone : (rows : List Row) (none : List Shape) → (is_empty rows || is_empty none) ≡ true → m (gone_none (map entry_of rows) none) ≡ 0
  none-gone [] none e = empty
  none-gone (r ∷ rs) [] e = empty
  none-gone (r ∷ rs) (x ∷ none) e = absurd (cc)

  pub same-none : (rows : List Row) (none : List Shape) → (is_empty rows || is_empty none) ≡ true → m (gone (map entry_of rows) rows none) ≡ 0
  same-none rows none e = omega (arith, add (gone_rows (keys_of (map entry_of rows)) rows) (gone_none (map entry_of rows) none), gone-left (keys_of (map entry_of rows)) rows, ap (λ ks. left ks rows) (keys-kept rows), stay-all rows, none-gone rows none e)
