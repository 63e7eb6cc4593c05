-- The fields of an object, one by one: their depth, size, equality and order.
use Rattle.std.proofs.Common.{◌≡◌, ℕ, zero, suc, ◌+◌, ◌<◌, ◌≤◌, max, List, [], ◌∷◌, ◌++◌, map, length, get_or, take, refl, sym, ap, ◌∙◌, arith, Bool, true, false}
use Rattle.std.proofs.lemmas.List.{map_more, map-append}
use Rattle.std.specs.declared.cmp.Ordering.{Ordering}
use Rattle.std.specs.declared.cmp.Ordering.TheVariants.{Less, Equal, Greater}
use Rattle.std.specs.Ordering.{match_ordering}
use Rattle.std.specs.BTreeMap.{insert_entry}
use Rattle.std.specs.Map.{keys_of}
use Rattle.std.specs.Str.{bytes_eq}
use Rattle.std.specs.Cmp.Lexicographic.{bytes_decides}
use Rattle.std.proofs.Math.Bool.{not}
use Rattle.std.specs.List.Sorted.{IsStrictlySortedBy}
use Rattle.sv_value.specs.Value.{Val, Fields, bare, field, null, fields, entries, depth, size, field_depths, field_sizes}
use Rattle.sv_value.specs.Object.{key_order, put, written, IsOrdered}
use Rattle.sv_value.specs.View.{view_of, entry_of}
use Rattle.sv_value.specs.declared.value.Value.{Value}
use Rattle.sv_value.proofs.Items.{size_positive}

abbrev pub Pair : Type 0
Pair = List ℕ × Value

field_depths-append : (es : List (List ℕ × Val)) (e : List ℕ × Val) → field_depths (fields (es ++ e ∷ [])) ≡ max (field_depths (fields es)) (depth e.1)
field_depths-append [] e = omega arith
field_depths-append (d ∷ es) e = omega (arith, field_depths-append es e)

field_sizes-append : (es : List (List ℕ × Val)) (e : List ℕ × Val) → field_sizes (fields (es ++ e ∷ [])) ≡ field_sizes (fields es) + length e.0 + size e.1
field_sizes-append [] e = omega arith
field_sizes-append (d ∷ es) e = omega (arith, field_sizes-append es e)

-- one more field
pub field_depths_more : (xs : List Pair) (i : ℕ) (x : Pair) → i < length xs → x ≡ get_or xs i x → field_depths (fields (map entry_of (take (i + 1) xs))) ≡ max (field_depths (fields (map entry_of (take i xs)))) (depth (view_of x.1))
field_depths_more xs i x h e =
    ap (λ l. field_depths (fields l)) (map_more entry_of xs i x h)
    ∙ field_depths-append _ _
    ∙ ap (λ (y : Pair). max (field_depths (fields (map entry_of (take i xs)))) (depth (view_of y.1))) (sym e)

pub field_sizes_more : (xs : List Pair) (i : ℕ) (x : Pair) → i < length xs → x ≡ get_or xs i x → field_sizes (fields (map entry_of (take (i + 1) xs))) ≡ field_sizes (fields (map entry_of (take i xs))) + length x.0 + size (view_of x.1)
field_sizes_more xs i x h e =
    ap (λ l. field_sizes (fields l)) (map_more entry_of xs i x h)
    ∙ field_sizes-append _ _
    ∙ ap (λ (y : Pair). field_sizes (fields (map entry_of (take i xs))) + length y.0 + size (view_of y.1)) (sym e)

pub entries-fields : (es : List (List ℕ × Val)) → entries (fields es) ≡ es
entries-fields [] = refl
entries-fields (e ∷ es) = ap (λ l. e ∷ l) (entries-fields es)

-- there are no more fields than their size together
pub length_le-field_sizes : (xs : List Pair) → length xs ≤ field_sizes (fields (map entry_of xs))
length_le-field_sizes [] = omega arith
length_le-field_sizes (x ∷ xs) = omega (arith, length_le-field_sizes xs, size_positive (view_of x.1))

-- writing a field in memory is writing it in the map
pub fields-insert_entry : (xs : List Pair) (key : List ℕ) (v : Value) → fields (map entry_of (insert_entry key_order xs key v)) ≡ put (fields (map entry_of xs)) key (view_of v)
fields-insert_entry [] key v = refl
fields-insert_entry (x ∷ xs) key v = go (key_order key x.0) (fields-insert_entry xs key v)
  where
    go : (o : Ordering) → fields (map entry_of (insert_entry key_order xs key v)) ≡ put (fields (map entry_of xs)) key (view_of v) →
        fields (map entry_of (match_ordering o ((key, v) ∷ x ∷ xs) ((x.0, v) ∷ xs) (x ∷ insert_entry key_order xs key v)))
        ≡ match_ordering o (field key (view_of v) (fields (map entry_of (x ∷ xs)))) (field x.0 (view_of v) (fields (map entry_of xs))) (field x.0 (view_of x.1) (put (fields (map entry_of xs)) key (view_of v)))
    go Less more = refl
    go Equal more = refl
    go Greater more = ap (field x.0 (view_of x.1)) more

pub written-append : (fs : Fields) (es : List (List ℕ × Val)) (e : List ℕ × Val) → written fs (es ++ e ∷ []) ≡ put (written fs es) e.0 e.1
written-append fs [] e = refl
written-append fs (d ∷ es) e = written-append (put fs d.0 d.1) es e

-- one more pair is written
pub written_more : (map_now : List Pair) (done : List Pair) (x : Pair) → fields (map entry_of map_now) ≡ written bare (map entry_of done) →
    fields (map entry_of (insert_entry key_order map_now x.0 x.1)) ≡ written bare (map entry_of (done ++ x ∷ []))
written_more map_now done x so_far =
    fields-insert_entry map_now x.0 x.1
    ∙ ap (λ fs. put fs x.0 (view_of x.1)) so_far
    ∙ sym (ap (written bare) (map-append entry_of done (x ∷ [])) ∙ written-append bare (map entry_of done) (entry_of x))

-- the keys of the map are those in memory
pub keys-fields : (xs : List Pair) → map (λ e. e.0) (entries (fields (map entry_of xs))) ≡ keys_of xs
keys-fields [] = refl
keys-fields (x ∷ xs) = ap (λ l. x.0 ∷ l) (keys-fields xs)

pub ordered_from_keys : (xs : List Pair) → IsStrictlySortedBy key_order (keys_of xs) → IsOrdered (fields (map entry_of xs))
ordered_from_keys xs ordered = rw keys-fields ordered

-- what a test of two texts says
pub bytes_apart : (xs ys : List ℕ) → not (bytes_eq xs ys) ≡ true → xs ≡ ys → ⊥
bytes_apart xs ys apart e = let same = ap not ((bytes_decides xs ys).1 e) in cc

pub bytes_same : (xs ys : List ℕ) → not (bytes_eq xs ys) ≡ false → xs ≡ ys
bytes_same xs ys same = (bytes_decides xs ys).0 (go (bytes_eq xs ys) same)
  where
    go : (b : Bool) → not b ≡ false → b ≡ true
    go true e = refl
    go false e = cc

-- equal fields, one by one
abbrev first_key : Fields → List ℕ
first_key bare = []
first_key (field k v fs) = k

abbrev first_value : Fields → Val
first_value bare = null
first_value (field k v fs) = v

abbrev rest : Fields → Fields
rest bare = bare
rest (field k v fs) = fs

pub pairs_length_same : (xs ys : List Pair) → fields (map entry_of xs) ≡ fields (map entry_of ys) → length xs ≡ length ys
pairs_length_same [] [] e = refl
pairs_length_same [] (y ∷ ys) e = cc
pairs_length_same (x ∷ xs) [] e = cc
pairs_length_same (x ∷ xs) (y ∷ ys) e = ap suc (pairs_length_same xs ys (ap rest e))

pub key_at : (xs ys : List Pair) (i : ℕ) (x y : Pair) → i < length xs → x ≡ get_or xs i x → y ≡ get_or ys i y → fields (map entry_of xs) ≡ fields (map entry_of ys) → x.0 ≡ y.0
key_at [] ys i x y h p q e = absurd (omega arith)
key_at (v ∷ xs) [] i x y h p q e = cc
key_at (v ∷ xs) (w ∷ ys) zero x y h p q e = ap (λ (z : Pair). z.0) p ∙ ap first_key e ∙ sym (ap (λ (z : Pair). z.0) q)
key_at (v ∷ xs) (w ∷ ys) (suc i) x y h p q e = key_at xs ys i x y (omega arith) p q (ap rest e)

pub value_at : (xs ys : List Pair) (i : ℕ) (x y : Pair) → i < length xs → x ≡ get_or xs i x → y ≡ get_or ys i y → fields (map entry_of xs) ≡ fields (map entry_of ys) → view_of x.1 ≡ view_of y.1
value_at [] ys i x y h p q e = absurd (omega arith)
value_at (v ∷ xs) [] i x y h p q e = cc
value_at (v ∷ xs) (w ∷ ys) zero x y h p q e = ap (λ (z : Pair). view_of z.1) p ∙ ap first_value e ∙ sym (ap (λ (z : Pair). view_of z.1) q)
value_at (v ∷ xs) (w ∷ ys) (suc i) x y h p q e = value_at xs ys i x y (omega arith) p q (ap rest e)

pub take_same_pairs : (xs ys : List Pair) (i : ℕ) (x y : Pair) → i < length xs → i < length ys → x ≡ get_or xs i x → y ≡ get_or ys i y → x.0 ≡ y.0 → view_of x.1 ≡ view_of y.1 →
    map entry_of (take i xs) ≡ map entry_of (take i ys) → map entry_of (take (i + 1) xs) ≡ map entry_of (take (i + 1) ys)
take_same_pairs xs ys i x y h k p q same_keys same_values f =
    let here : entry_of x ≡ entry_of y = λ j. (same_keys j, same_values j) in
    map_more entry_of xs i x h
    ∙ ap (λ l. l ++ entry_of (get_or xs i x) ∷ []) f
    ∙ ap (λ e. map entry_of (take i ys) ++ e ∷ []) (sym (ap entry_of p) ∙ here ∙ ap entry_of q)
    ∙ sym (map_more entry_of ys i y k)

-- each field nests no deeper than all of them
pub field_depth_at : (xs : List Pair) (i : ℕ) (x : Pair) → i < length xs → x ≡ get_or xs i x → depth (view_of x.1) ≤ field_depths (fields (map entry_of xs))
field_depth_at [] i x h e = absurd (omega arith)
field_depth_at (y ∷ xs) zero x h e = let e' = ap (λ (v : Pair). depth (view_of v.1)) e in omega arith
field_depth_at (y ∷ xs) (suc i) x h e = omega (arith, field_depth_at xs i x (omega arith) e)
