-- Objects as finite maps from texts to values (ECMA-262, section 6.1.7). A map is written as its fields in the order of
-- their keys, each key once, so that equal maps are one tree, whatever the order in which they were written.
use Rattle.std.specs.Prelude.{◌≡◌, ℕ, Bool, List, [], ◌∷◌, Option, Some, None, if◌then◌else◌, map}
use Rattle.std.specs.declared.cmp.Ordering.{Ordering}
use Rattle.std.specs.Ordering.{nat_cmp, match_ordering, eq_by_cmp}
use Rattle.std.specs.Option.{option_or}
use Rattle.std.specs.Cmp.Lexicographic.{slice_cmp}
use Rattle.std.specs.List.Sorted.{IsStrictlySortedBy}
use Rattle.sv_value.specs.Value.{Val, Fields, bare, field, entries}

-- the order of keys, which is by their bytes
abbrev pub key_order : List ℕ → List ℕ → Ordering
key_order = slice_cmp nat_cmp

-- whether two keys are one
abbrev pub same_key : List ℕ → List ℕ → Bool
same_key = eq_by_cmp key_order

-- the value of the field with this key
abbrev pub get : Fields → List ℕ → Option Val
get bare key = None
get (field k v fs) key = if same_key key k then Some v else get fs key

-- the map after a field is written, at its place in the order or over the one with this key
abbrev pub put : Fields → List ℕ → Val → Fields
put bare key v = field key v bare
put (field k w fs) key v = match_ordering (key_order key k) (field key v (field k w fs)) (field k v fs) (field k w (put fs key v))

-- the map after some fields are written one after another
abbrev pub written : Fields → List (List ℕ × Val) → Fields
written fs [] = fs
written fs (e ∷ es) = written (put fs e.0 e.1) es

-- the value of the last pair with this key
abbrev pub last : List (List ℕ × Val) → List ℕ → Option Val
last [] key = None
last (e ∷ es) key = option_or (last es key) (if same_key key e.0 then Some e.1 else None)

-- the map has the last value of each key
abbrev pub HasLast : Fields → List (List ℕ × Val) → Type 0
HasLast fs es = (key : List ℕ) → get fs key ≡ last es key

-- the map is that of all pairs with these last values, in whatever order they are written
abbrev pub IsMapOf : Fields → List (List ℕ × Val) → Type 0
IsMapOf fs es = (ds : List (List ℕ × Val)) → ((key : List ℕ) → last ds key ≡ last es key) → written bare ds ≡ fs

-- the keys ascend, so that none stands twice
abbrev pub IsOrdered : Fields → Type 0
IsOrdered fs = IsStrictlySortedBy key_order (map (λ e. e.0) (entries fs))
