-- Numbers of texts in a table, and a table of owned texts seen as their bytes.
use Rattle.std.proofs.Common.{◌≡◌, ◌≢◌, ◌≤◌, ◌<◌, ℕ, zero, suc, ◌+◌, Bool, true, false, not, ◌||◌, cond, List, [], ◌∷◌, ◌++◌, length, map, take, drop, append_assoc, length-append, length-take, take-append-drop, refl, ap, sym, ◌∙◌, subst, arith}
use Rattle.std.specs.Prelude.{Some, None, slice_get, nat_lt, String}
use Rattle.std.specs.Str.{bytes_eq}
use Rattle.std.specs.List.{list_any, position_or_len, position, IsDistinct, AllByRecursion}
use Rattle.std.specs.String.{string_bytes, string_eq}
use Rattle.std.specs.Cmp.Lexicographic.{bytes_decides}
use Rattle.std.specs.declared.alloc.Global.{Global}
use Rattle.indexmap.specs.IndexSet.{insert_key}
use Rattle.sv_base.specs.Names.{number_of, with_text, IsTable}
use Rattle.sv_base.specs.declared.limits.TheConstants.{NAME_LIMIT}

position_or_len-map : {X Y : Type 0} (p : Y → Bool) (f : X → Y) (xs : List X) → position_or_len p (map f xs) ≡ position_or_len (λ x. p (f x)) xs
position_or_len-map p f [] = refl
position_or_len-map p f (x ∷ xs) = ap (λ n. cond (not (p (f x))) (1 + n) 0) (position_or_len-map p f xs)

list_any-map : {X Y : Type 0} (p : Y → Bool) (f : X → Y) (xs : List X) → list_any p (map f xs) ≡ list_any (λ x. p (f x)) xs
list_any-map p f [] = refl
list_any-map p f (x ∷ xs) = ap (λ b. p (f x) || b) (list_any-map p f xs)

length-map : {X Y : Type 0} (f : X → Y) (xs : List X) → length (map f xs) ≡ length xs
length-map f [] = refl
length-map f (x ∷ xs) = let e = length-map f xs in omega arith

map-append : {X Y : Type 0} (f : X → Y) (xs ys : List X) → map f (xs ++ ys) ≡ map f xs ++ map f ys
map-append f [] ys = refl
map-append f (x ∷ xs) ys = ap (λ t. f x ∷ t) (map-append f xs ys)

AllByRecursion-map : {X Y : Type 0} (P : Y → Type 0) (f : X → Y) (xs : List X) → AllByRecursion (λ x. P (f x)) xs → AllByRecursion P (map f xs)
AllByRecursion-map P f [] h = tt
AllByRecursion-map P f (x ∷ xs) h = (h.0, AllByRecursion-map P f xs h.1)

IsDistinct-map : {X Y : Type 0} (e : Y → Y → Bool) (f : X → Y) (xs : List X) → IsDistinct (λ x y. e (f x) (f y)) xs → IsDistinct e (map f xs)
unfolding IsDistinct
IsDistinct-map e f [] h = tt
IsDistinct-map e f (x ∷ xs) h = (AllByRecursion-map (λ y. e (f x) y ≡ false) f xs h.0, IsDistinct-map e f xs h.1)

slice_get-one : {X : Type 0} (x : X) (xs : List X) (n : ℕ) → slice_get (x ∷ xs) (1 + n) ≡ slice_get xs n
slice_get-one x xs n = let e : 1 + n ≡ suc n = omega arith in ap (slice_get (x ∷ xs)) e

-- a text that passes is at the first place that passes
known : (t : List ℕ) (texts : List (List ℕ)) → position_or_len (bytes_eq t) texts < length texts → slice_get texts (position_or_len (bytes_eq t) texts) ≡ Some t
known t [] h = absurd (omega arith)
known t (x ∷ xs) h = by (bytes_eq t x) refl h (λ g. known t xs g)
  where
    by : (b : Bool) → bytes_eq t x ≡ b → cond (not b) (1 + position_or_len (bytes_eq t) xs) 0 < length (x ∷ xs)
        → (position_or_len (bytes_eq t) xs < length xs → slice_get xs (position_or_len (bytes_eq t) xs) ≡ Some t)
        → slice_get (x ∷ xs) (cond (not b) (1 + position_or_len (bytes_eq t) xs) 0) ≡ Some t
    by true e h rest = ap (λ y. Some y) (sym ((bytes_decides t x).0 e))
    by false e h rest = slice_get-one x xs _ ∙ rest (omega arith)

within : {X : Type 0} (p : X → Bool) (xs : List X) → list_any p xs ≡ true → position_or_len p xs < length xs
within p [] h = absurd (cc)
within p (x ∷ xs) h = by (p x) h (λ g. within p xs g)
  where
    by : (b : Bool) → (b || list_any p xs) ≡ true → (list_any p xs ≡ true → position_or_len p xs < length xs)
        → cond (not b) (1 + position_or_len p xs) 0 < length (x ∷ xs)
    by true h rest = omega arith
    by false h rest = let e = rest h in omega arith

any : {X : Type 0} (p : X → Bool) (xs : List X) → position_or_len p xs < length xs → list_any p xs ≡ true
any p [] h = absurd (omega arith)
any p (x ∷ xs) h = by (p x) h (λ g. any p xs g)
  where
    by : (b : Bool) → cond (not b) (1 + position_or_len p xs) 0 < length (x ∷ xs) → (position_or_len p xs < length xs → list_any p xs ≡ true)
        → (b || list_any p xs) ≡ true
    by true h rest = refl
    by false h rest = rest (omega arith)

none : {X : Type 0} (p : X → Bool) (xs : List X) → list_any p xs ≡ false → position_or_len p xs ≡ length xs
none p [] h = refl
none p (x ∷ xs) h = by (p x) h (λ g. none p xs g)
  where
    by : (b : Bool) → (b || list_any p xs) ≡ false → (list_any p xs ≡ false → position_or_len p xs ≡ length xs)
        → cond (not b) (1 + position_or_len p xs) 0 ≡ length (x ∷ xs)
    by true h rest = absurd (cc)
    by false h rest = let e = rest h in omega arith

slice_get-end : {X : Type 0} (xs : List X) (x : X) → slice_get (xs ++ x ∷ []) (length xs) ≡ Some x
slice_get-end [] x = refl
slice_get-end (y ∷ xs) x = slice_get-end xs x

-- no element that fails is at a place of the list
apart : (t : List ℕ) (texts : List (List ℕ)) (i : ℕ) → AllByRecursion (λ y. bytes_eq t y ≡ false) texts → slice_get texts i ≡ Some t → ⊥
apart t [] i h e = cc
apart t (x ∷ xs) zero h e = let same : x ≡ t = cc in let yes : bytes_eq t x ≡ true = (bytes_decides t x).1 (sym same) in let no = h.0 in cc
apart t (x ∷ xs) (suc i) h e = apart t xs i h.1 e

-- a text stands once
pub once : (texts : List (List ℕ)) (t : List ℕ) (i j : ℕ) → IsDistinct bytes_eq texts → slice_get texts i ≡ Some t → slice_get texts j ≡ Some t → i ≡ j
unfolding IsDistinct
once [] t i j h a b = absurd (cc)
once (x ∷ xs) t zero zero h a b = refl
once (x ∷ xs) t zero (suc j) h a b = let e : x ≡ t = cc in absurd (apart x xs j h.0 (b ∙ ap (λ y. Some y) (sym e)))
once (x ∷ xs) t (suc i) zero h a b = let e : x ≡ t = cc in absurd (apart x xs i h.0 (a ∙ ap (λ y. Some y) (sym e)))
once (x ∷ xs) t (suc i) (suc j) h a b = ap suc (once xs t i j h.1 a b)

-- what the name of a text and the table say after it is interned
pub record Interned (old new : List (List ℕ)) (t : List ℕ) (at : ℕ) : Type 0 where
  pub number : at ≡ number_of t old
  pub table : new ≡ with_text t old
  pub known : slice_get new at ≡ Some t
  pub only : (other : ℕ) → slice_get new other ≡ Some t → other ≡ at

found_at : (t : List ℕ) (texts : List (List ℕ)) (at : ℕ) → IsDistinct bytes_eq texts → at ≡ position_or_len (bytes_eq t) texts → at < length texts → Interned texts texts t at
unfolding number_of with_text
found_at t texts at d e h =
    let h' : position_or_len (bytes_eq t) texts < length texts = omega arith in
    let k : slice_get texts at ≡ Some t = ap (slice_get texts) e ∙ known t texts h' in
    record {
      number = e;
      table = sym (ap (λ b. cond b texts (texts ++ t ∷ [])) (any (bytes_eq t) texts h'));
      known = k;
      only = λ other g. once texts t other at d g k;
    }

-- at the place of an owned text that was found
pub found : (t : List ℕ) (keys : List (String Global)) (texts : List (List ℕ)) (at : ℕ) → map string_bytes keys ≡ texts → IsTable (map string_bytes keys)
    → Some at ≡ position (λ k. bytes_eq t (string_bytes k)) keys → at < length keys → Interned texts texts t at
found t keys texts at e table is h =
    subst (λ z. Interned z z t at) e
    (found_at t (map string_bytes keys) at table.distinct (by (position_or_len p keys) (length keys) is ∙ sym (position_or_len-map (bytes_eq t) string_bytes keys))
    (let l = length-map string_bytes keys in omega arith))
  where
    p : String Global → Bool
    p = λ k. bytes_eq t (string_bytes k)

    by : (n m : ℕ) → Some at ≡ cond (nat_lt n m) (Some n) None → at ≡ n
    by n m is = cases (nat_lt n m) is
      where
        cases : (b : Bool) → Some at ≡ cond b (Some n) None → at ≡ n
        cases true is = cc
        cases false is = absurd (cc)

-- an owned text that was added
record Added (old new : List (String Global)) (owned : String Global) (at : ℕ) : Type 0 where
  absent : list_any (string_eq owned) old ≡ false
  keys : new ≡ insert_key string_eq old owned
  place : at ≡ position_or_len (string_eq owned) old
  distinct : IsDistinct string_eq new

added_at : (old new : List (String Global)) (owned : String Global) (at : ℕ) → Added old new owned at
    → Interned (map string_bytes old) (map string_bytes new) (string_bytes owned) at
unfolding number_of with_text
added_at old new owned at a =
    let t = string_bytes owned in
    let end : new ≡ old ++ owned ∷ [] = a.keys ∙ ap (λ b. cond b old (old ++ owned ∷ [])) a.absent in
    let bytes : map string_bytes new ≡ map string_bytes old ++ t ∷ [] = ap (map string_bytes) end ∙ map-append string_bytes old (owned ∷ []) in
    let count = length-map string_bytes old in
    let last : at ≡ length (map string_bytes old) = a.place ∙ none (string_eq owned) old a.absent ∙ sym count in
    let k : slice_get (map string_bytes new) at ≡ Some t = ap (λ z. slice_get z at) bytes ∙ ap (slice_get (map string_bytes old ++ t ∷ [])) last ∙ slice_get-end (map string_bytes old) t in
    record {
      number = a.place ∙ sym (position_or_len-map (bytes_eq t) string_bytes old);
      table = bytes ∙ sym (ap (λ b. cond b (map string_bytes old) (map string_bytes old ++ t ∷ [])) (list_any-map (bytes_eq t) string_bytes old ∙ a.absent));
      known = k;
      only = λ other g. once (map string_bytes new) t other at (IsDistinct-map bytes_eq string_bytes new a.distinct) g k;
    }

pub added : (t : List ℕ) (old new : List (String Global)) (owned : String Global) (before : List (List ℕ)) (at : ℕ) → string_bytes owned ≡ t
    → map string_bytes old ≡ before → new ≡ insert_key string_eq old owned → at ≡ position_or_len (string_eq owned) old
    → list_any (λ k. bytes_eq t (string_bytes k)) old ≡ false → IsDistinct string_eq new → Interned before (map string_bytes new) t at
added t old new owned before at b e is place absent d =
    let one : list_any (string_eq owned) old ≡ false = ap (λ z. list_any (λ k. bytes_eq z (string_bytes k)) old) b ∙ absent in
    let whole : Interned (map string_bytes old) (map string_bytes new) (string_bytes owned) at =
    added_at old new owned at (record { absent = one; keys = is; place = place; distinct = d }) in
    subst (λ z. Interned z (map string_bytes new) t at) e (subst (λ z. Interned (map string_bytes old) (map string_bytes new) z at) b whole)

-- it stays a table
pub still_table : (old new : List (String Global)) (owned : String Global) → IsTable (map string_bytes old) → length old ≢ NAME_LIMIT
    → length new ≤ length old + 1 → IsDistinct string_eq new → IsTable (map string_bytes new)
still_table old new owned table room more d =
    let few = table.few in let was = length-map string_bytes old in let now = length-map string_bytes new in
    record { distinct = IsDistinct-map bytes_eq string_bytes new d; few = omega arith }

-- a table of nothing
pub no_table : (keys : List (String Global)) → keys ≡ [] → IsTable (map string_bytes keys)
unfolding IsDistinct
no_table keys e = subst (λ z. IsTable (map string_bytes z)) (sym e) (record { distinct = tt; few = omega arith })

-- an owned text that was not found
pub not_found : (t : List ℕ) (keys : List (String Global)) (texts : List (List ℕ)) → map string_bytes keys ≡ texts
    → list_any (λ k. bytes_eq t (string_bytes k)) keys ≡ false → number_of t texts ≡ length texts
unfolding number_of
not_found t keys texts e absent =
    subst (λ z. position_or_len (bytes_eq t) z ≡ length z) e (none (bytes_eq t) (map string_bytes keys) (list_any-map (bytes_eq t) string_bytes keys ∙ absent))

pub found_within : (keys : List (String Global)) (texts : List (List ℕ)) (at : ℕ) → map string_bytes keys ≡ texts → at < length keys → at < length texts
found_within keys texts at e h = subst (λ z. at < length z) e (let l = length-map string_bytes keys in omega arith)

-- ---- joining two tables

slice_get-front : (xs ys : List (List ℕ)) (i : ℕ) (t : List ℕ) → slice_get xs i ≡ Some t → slice_get (xs ++ ys) i ≡ Some t
slice_get-front [] ys i t h = absurd (cc)
slice_get-front (x ∷ xs) ys zero t h = h
slice_get-front (x ∷ xs) ys (suc i) t h = slice_get-front xs ys i t h

slice_get-back : (xs ys : List (List ℕ)) (k : ℕ) → slice_get (xs ++ ys) (length xs + k) ≡ slice_get ys k
slice_get-back [] ys k = let e : 0 + k ≡ k = omega arith in ap (slice_get ys) e
slice_get-back (x ∷ xs) ys k =
    let e : length (x ∷ xs) + k ≡ suc (length xs + k) = omega arith in ap (slice_get (x ∷ (xs ++ ys))) e ∙ slice_get-back xs ys k

take_one_more : (ys : List (List ℕ)) (k : ℕ) (t : List ℕ) → slice_get ys k ≡ Some t → take (k + 1) ys ≡ take k ys ++ t ∷ []
take_one_more [] k t h = absurd (cc)
take_one_more (y ∷ ys) zero t h = let e : y ≡ t = cc in ap (λ z. z ∷ []) e
take_one_more (y ∷ ys) (suc k) t h = let e : suc k + 1 ≡ suc (k + 1) = omega arith in ap (λ n. take n (y ∷ ys)) e ∙ ap (λ z. y ∷ z) (take_one_more ys k t h)

-- what is not yet there of a table that has it later
absent : (old more : List (List ℕ)) (k : ℕ) (t : List ℕ) → IsDistinct bytes_eq (old ++ more) → slice_get more k ≡ Some t
    → list_any (bytes_eq t) (old ++ take k more) ≡ false
absent old more k t d h = by (list_any (bytes_eq t) (old ++ take k more)) refl
  where
    by : (b : Bool) → list_any (bytes_eq t) (old ++ take k more) ≡ b → b ≡ false
    by false e = refl
    by true e =
        let at = position_or_len (bytes_eq t) (old ++ take k more) in
        let h' : at < length (old ++ take k more) = within (bytes_eq t) (old ++ take k more) e in
        let first : slice_get (old ++ take k more) at ≡ Some t = known t (old ++ take k more) h' in
        let whole : (old ++ take k more) ++ drop k more ≡ old ++ more = append_assoc old (take k more) (drop k more) ∙ ap (λ z. old ++ z) (take-append-drop k more) in
        let here : slice_get (old ++ more) at ≡ Some t = ap (λ z. slice_get z at) (sym whole) ∙ slice_get-front (old ++ take k more) (drop k more) at t first in
        let there : slice_get (old ++ more) (length old + k) ≡ Some t = slice_get-back old more k ∙ h in
        let same : at ≡ length old + k = once (old ++ more) t at (length old + k) d here there in
        let size : length (old ++ take k more) ≤ length old + k = omega (arith, length-append old (take k more), length-take k more) in
        absurd (omega arith)

pub join-step : (old more now : List (List ℕ)) (k : ℕ) (t : List ℕ) → IsTable (old ++ more) → slice_get more k ≡ Some t → now ≡ old ++ take k more
    → with_text t now ≡ old ++ take (k + 1) more
unfolding with_text
join-step old more now k t table h e =
    let new : list_any (bytes_eq t) now ≡ false = ap (list_any (bytes_eq t)) e ∙ absent old more k t table.distinct h in
    ap (λ b. cond b now (now ++ t ∷ [])) new ∙ ap (λ z. z ++ t ∷ []) e ∙ append_assoc old (take k more) (t ∷ []) ∙ ap (λ z. old ++ z) (sym (take_one_more more k t h))
