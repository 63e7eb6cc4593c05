-- Where a field is found among fields in the order of their keys.
use Rattle.std.proofs.Common.{◌≡◌, ℕ, zero, suc, ◌+◌, ◌<◌, List, [], ◌∷◌, map, length, get_or, refl, sym, ap, ◌∙◌, arith, Some, None, true, false, subst, Result, Ok, Err, MatchOption, inl, inr}
use Rattle.std.specs.declared.cmp.Ordering.{Ordering}
use Rattle.std.specs.declared.cmp.Ordering.TheVariants.{Less, Equal, Greater}
use Rattle.std.specs.Ordering.{is_eq, is_lt, ordering_reverse}
use Rattle.std.specs.Result.{result_ok}
use Rattle.std.specs.Map.{keys_of}
use Rattle.std.specs.List.Sorted.{IsStrictlySortedBy, IsSortedBy, IsPartitionPoint, IsSearchInRange, IsBinarySearchResult}
use Rattle.std.proofs.lemmas.Bool.{cases_lt}
use Rattle.std.proofs.lemmas.Cmp.{nat_list_cmp_total, tied_itself}
use Rattle.std.proofs.lemmas.Map.Keys.{Less-from_sorted, sorted_tail}
use Rattle.std.proofs.lemmas.Map.Lookups.{exact_bytes}
use Rattle.std.proofs.lemmas.List.Sorted.{searchable_from_sorted}
use Rattle.sv_value.specs.Value.{fields}
use Rattle.sv_value.specs.Object.{key_order, same_key, get, IsOrdered}
use Rattle.sv_value.specs.View.{view_of, entry_of}
use Rattle.sv_value.specs.Found.{IsFieldAt}
use Rattle.sv_value.proofs.Pairs.{Pair, keys-fields}

key_of : (xs : List Pair) (i : ℕ) (d : Pair) → get_or (keys_of xs) i d.0 ≡ (get_or xs i d).0
key_of [] zero d = refl
key_of [] (suc i) d = refl
key_of (x ∷ xs) zero d = refl
key_of (x ∷ xs) (suc i) d = key_of xs i d

keys-length : (xs : List Pair) → length (keys_of xs) ≡ length xs
keys-length [] = refl
keys-length (x ∷ xs) = ap suc (keys-length xs)

-- an earlier key is below a later one
key_below : (xs : List Pair) (i j : ℕ) (d : Pair) → IsStrictlySortedBy key_order (keys_of xs) → i < j → j < length xs → key_order (get_or xs i d).0 (get_or xs j d).0 ≡ Less
key_below xs i j d ordered lt within =
    let fits : j < length (keys_of xs) = omega (arith, keys-length xs) in
    let keys = Less-from_sorted key_order (keys_of xs) i j d.0 ordered lt fits in
    subst (λ k. key_order k (get_or xs j d).0 ≡ Less) (key_of xs i d) (subst (λ k. key_order (get_or (keys_of xs) i d.0) k ≡ Less) (key_of xs j d) keys)

above : (a b : List ℕ) → key_order a b ≡ Less → key_order b a ≡ Greater
above a b less = nat_list_cmp_total.antisymm b a ∙ ap ordering_reverse less

in_order : (xs : List Pair) → IsStrictlySortedBy key_order (keys_of xs) → IsSortedBy (λ (a b : Pair). is_lt (key_order a.0 b.0)) xs
in_order xs ordered k d from within = ap is_lt (above (get_or xs k d).0 (get_or xs (k + 1) d).0 (key_below xs k (k + 1) d ordered (omega arith) within))

-- the field that stands at a place is the one that the map has at its key
field_found : (xs : List Pair) (i : ℕ) (key : List ℕ) (d : Pair) → IsStrictlySortedBy key_order (keys_of xs) → i < length xs → (get_or xs i d).0 ≡ key → get (fields (map entry_of xs)) key ≡ Some (view_of (get_or xs i d).1)
field_found [] i key d ordered within here = absurd (omega arith)
field_found (x ∷ xs) zero key d ordered within here =
    let tied : same_key key x.0 ≡ true = subst (λ k. same_key key k ≡ true) (sym here) (ap is_eq (tied_itself nat_list_cmp_total key)) in
    rw tied refl
field_found (x ∷ xs) (suc i) key d ordered within here =
    let below : key_order x.0 key ≡ Less = subst (λ k. key_order x.0 k ≡ Less) here (key_below (x ∷ xs) 0 (suc i) d ordered (omega arith) within) in
    let apart : same_key key x.0 ≡ false = ap is_eq (above x.0 key below) in
    rw apart (field_found xs i key d (sorted_tail key_order x.0 (keys_of xs) ordered) (omega arith) here)

pub field_at : (xs : List Pair) (key : List ℕ) (i : ℕ) (d : Pair) → IsOrdered (fields (map entry_of xs)) → IsFieldAt xs key i → get (fields (map entry_of xs)) key ≡ Some (view_of (get_or xs i d).1)
field_at xs key i d ordered here =
    let keys : IsStrictlySortedBy key_order (keys_of xs) = rw (← keys-fields xs) ordered in
    field_found xs i key d keys here.within (here.has_key d)

-- a key that no field has
apart_both_ways : (a b : List ℕ) → is_eq (key_order a b) ≡ false → same_key b a ≡ false
apart_both_ways a b apart = ap is_eq (nat_list_cmp_total.antisymm b a) ∙ go (key_order a b) apart
  where
    go : (o : Ordering) → is_eq o ≡ false → is_eq (ordering_reverse o) ≡ false
    go Less ne = refl
    go Equal ne = cc
    go Greater ne = refl

no_field : (xs : List Pair) (key : List ℕ) → ((k : ℕ) (d : Pair) → k < length xs → is_eq (key_order (get_or xs k d).0 key) ≡ false) → get (fields (map entry_of xs)) key ≡ None
no_field [] key apart = refl
no_field (x ∷ xs) key apart =
    let first : same_key key x.0 ≡ false = apart_both_ways x.0 key (apart 0 x (omega arith)) in
    rw first (no_field xs key (λ k d within. apart (suc k) d (omega arith)))

-- what a binary search says of the map
abbrev by_key : List ℕ → Pair → Ordering
by_key key e = key_order e.0 key

beside : (xs : List Pair) (key : List ℕ) (i : ℕ) → IsPartitionPoint (λ e. by_key key e ≡ Less) (λ e. by_key key e ≡ Greater) xs i → (k : ℕ) (d : Pair) → k < length xs → is_eq (key_order (get_or xs k d).0 key) ≡ false
beside xs key i split k d within = elim (cases_lt k i) [ inl below ↦ ap is_eq (split.0 k d (omega arith) below) | inr above ↦ ap is_eq (split.1 k d above within) ]

pub field_searched : (xs : List Pair) (key : List ℕ) (r : Result ℕ ℕ) → IsOrdered (fields (map entry_of xs)) → IsSearchInRange r (length xs) → IsBinarySearchResult (λ (e : Pair). key_order e.0 key) xs r →
    MatchOption (result_ok r) (get (fields (map entry_of xs)) key ≡ None) (λ i. IsFieldAt xs key i)
field_searched xs key (Ok i) ordered within found = record { within = within; has_key = λ d. exact_bytes _ _ (found d) }
field_searched xs key (Err i) ordered within found =
    let keys : IsStrictlySortedBy key_order (keys_of xs) = rw (← keys-fields xs) ordered in
    no_field xs key (beside xs key i (found (searchable_from_sorted nat_list_cmp_total (λ (e : Pair). e.0) xs key (in_order xs keys))))
