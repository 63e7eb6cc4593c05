-- Objects as maps: what is read after fields are written, and that a map is told by what is read from it.
use Rattle.std.proofs.Common.{◌≡◌, ℕ, List, [], ◌∷◌, refl, sym, ap, ◌∙◌, Option, Some, None, Bool, true, false, cond, map}
use Rattle.std.specs.Option.{option_or}
use Rattle.std.specs.declared.cmp.Ordering.{Ordering}
use Rattle.std.specs.declared.cmp.Ordering.TheVariants.{Less, Equal, Greater}
use Rattle.std.specs.Ordering.{match_ordering, is_eq, ordering_reverse}
use Rattle.std.specs.List.{AllByRecursion}
use Rattle.std.specs.List.Sorted.{IsStrictlySortedBy}
use Rattle.std.proofs.lemmas.Cmp.{nat_list_cmp_total, tied_itself}
use Rattle.std.proofs.lemmas.Map.Lookups.{exact_bytes}
use Rattle.sv_value.specs.Value.{Val, Fields, bare, field, entries}
use Rattle.sv_value.specs.Object.{key_order, same_key, get, put, written, last, IsOrdered}

-- keys that a test finds equal are one
same_keys : (a b : List ℕ) → same_key a b ≡ true → a ≡ b
same_keys a b e = exact_bytes a b (equal (key_order a b) e)
  where
    equal : (o : Ordering) → is_eq o ≡ true → o ≡ Equal
    equal Less e = cc
    equal Equal e = refl
    equal Greater e = cc

-- no key is equal to two keys that differ
choice : (b c : Bool) (x y z : Option Val) → (b ≡ true → c ≡ true → ⊥) → cond c y (cond b x z) ≡ cond b x (cond c y z)
choice true true x y z apart = absurd (apart refl refl)
choice true false x y z apart = refl
choice false true x y z apart = refl
choice false false x y z apart = refl

pub get-put : (fs : Fields) (k : List ℕ) (v : Val) (key : List ℕ) → get (put fs k v) key ≡ cond (same_key key k) (Some v) (get fs key)
get-put bare k v key = refl
get-put (field k' w fs) k v key = go (key_order k k') refl (get-put fs k v key)
  where
    twice : (b : Bool) → cond b (Some v) (get fs key) ≡ cond b (Some v) (cond b (Some w) (get fs key))
    twice true = refl
    twice false = refl

    over : k ≡ k' → cond (same_key key k') (Some v) (get fs key) ≡ cond (same_key key k) (Some v) (cond (same_key key k') (Some w) (get fs key))
    over same = rw same (twice (same_key key k'))

    go : (o : Ordering) → key_order k k' ≡ o → get (put fs k v) key ≡ cond (same_key key k) (Some v) (get fs key) →
        get (match_ordering o (field k v (field k' w fs)) (field k' v fs) (field k' w (put fs k v))) key ≡ cond (same_key key k) (Some v) (cond (same_key key k') (Some w) (get fs key))
    go Less is more = refl
    go Equal is more = over (exact_bytes k k' is)
    go Greater is more =
        ap (cond (same_key key k') (Some w)) more
        ∙ choice (same_key key k) (same_key key k') (Some v) (Some w) (get fs key)
        (λ at_k at_k'. let one = ap (key_order k) (sym (same_keys key k' at_k') ∙ same_keys key k at_k) in let tied = tied_itself nat_list_cmp_total k in cc)

option_or-assoc : (a b c : Option Val) → option_or (option_or a b) c ≡ option_or a (option_or b c)
option_or-assoc None b c = refl
option_or-assoc (Some x) b c = refl

pub get-written : (fs : Fields) (es : List (List ℕ × Val)) (key : List ℕ) → get (written fs es) key ≡ option_or (last es key) (get fs key)
get-written fs [] key = refl
get-written fs (e ∷ es) key =
    get-written (put fs e.0 e.1) es key
    ∙ ap (option_or (last es key)) (get-put fs e.0 e.1 key ∙ split (same_key key e.0) (get fs key))
    ∙ sym (option_or-assoc (last es key) (cond (same_key key e.0) (Some e.1) None) (get fs key))
  where
    split : (b : Bool) (z : Option Val) → cond b (Some e.1) z ≡ option_or (cond b (Some e.1) None) z
    split true z = refl
    split false z = refl

option_or-none : (a : Option Val) → option_or a None ≡ a
option_or-none None = refl
option_or-none (Some x) = refl

pub last-written : (es : List (List ℕ × Val)) (key : List ℕ) → get (written bare es) key ≡ last es key
last-written es key = get-written bare es key ∙ option_or-none (last es key)

-- the keys of a map
abbrev keys : Fields → List (List ℕ)
keys fs = map (λ e. e.0) (entries fs)

-- each key is above this one
abbrev AreAbove : List ℕ → List (List ℕ) → Type 0
AreAbove k = AllByRecursion (λ y. key_order k y ≡ Less)

below_more : (a b : List ℕ) (ks : List (List ℕ)) → key_order a b ≡ Less → AreAbove b ks → AreAbove a ks
below_more a b [] less all = tt
below_more a b (k ∷ ks) less all = (nat_list_cmp_total.trans a b k less all.0, below_more a b ks less all.1)

put-above : (a : List ℕ) (fs : Fields) (k : List ℕ) (v : Val) → key_order a k ≡ Less → AreAbove a (keys fs) → AreAbove a (keys (put fs k v))
put-above a bare k v less all = (less, tt)
put-above a (field k' w fs) k v less all = go (key_order k k') (put-above a fs k v less all.1)
  where
    go : (o : Ordering) → AreAbove a (keys (put fs k v)) → AreAbove a (keys (match_ordering o (field k v (field k' w fs)) (field k' v fs) (field k' w (put fs k v))))
    go Less more = (less, all)
    go Equal more = all
    go Greater more = (all.0, more)

put-ordered : (fs : Fields) (k : List ℕ) (v : Val) → IsOrdered fs → IsOrdered (put fs k v)
unfolding IsStrictlySortedBy
put-ordered bare k v ordered = (tt, tt)
put-ordered (field k' w fs) k v ordered = go (key_order k k') refl (put-ordered fs k v ordered.1)
  where
    go : (o : Ordering) → key_order k k' ≡ o → IsOrdered (put fs k v) → IsOrdered (match_ordering o (field k v (field k' w fs)) (field k' v fs) (field k' w (put fs k v)))
    go Less is more = ((is, below_more k k' (keys fs) is ordered.0), ordered)
    go Equal is more = ordered
    go Greater is more = (put-above k' fs k v (nat_list_cmp_total.antisymm k' k ∙ ap ordering_reverse is) ordered.0, more)

written-ordered : (fs : Fields) (es : List (List ℕ × Val)) → IsOrdered fs → IsOrdered (written fs es)
written-ordered fs [] ordered = ordered
written-ordered fs (e ∷ es) ordered = written-ordered (put fs e.0 e.1) es (put-ordered fs e.0 e.1 ordered)

-- a key below all has no field
get-below : (fs : Fields) (k : List ℕ) → AreAbove k (keys fs) → get fs k ≡ None
get-below bare k all = refl
get-below (field k' w fs) k all = rw (ap is_eq all.0) (get-below fs k all.1)

get-first : (k : List ℕ) (v : Val) (fs : Fields) → get (field k v fs) k ≡ Some v
get-first k v fs = rw (ap is_eq (tied_itself nat_list_cmp_total k)) refl

get-rest : (k : List ℕ) (v : Val) (fs : Fields) (key : List ℕ) → same_key key k ≡ false → get (field k v fs) key ≡ get fs key
get-rest k v fs key apart = rw apart refl

same_step : (k : List ℕ) (v : Val) (fs : Fields) (k' : List ℕ) (w : Val) (gs : Fields) → AreAbove k (keys fs) → AreAbove k' (keys gs) →
    ((key : List ℕ) → get (field k v fs) key ≡ get (field k' w gs) key) → (((key : List ℕ) → get fs key ≡ get gs key) → fs ≡ gs) → field k v fs ≡ field k' w gs
same_step k v fs k' w gs p q same more = go (key_order k k') refl
  where
    rest : k ≡ k' → (key : List ℕ) (b : Bool) → same_key key k ≡ b → get fs key ≡ get gs key
    rest one key true here =
        let at = same_keys key k here in
        ap (get fs) at ∙ get-below fs k p ∙ sym (ap (get gs) (at ∙ one) ∙ get-below gs k' q)
    rest one key false here =
        let there = ap (same_key key) (sym one) ∙ here in
        sym (get-rest k v fs key here) ∙ same key ∙ get-rest k' w gs key there

    go : (o : Ordering) → key_order k k' ≡ o → field k v fs ≡ field k' w gs
    go Less is = let here = sym (get-first k v fs) ∙ same k ∙ get-below (field k' w gs) k (is, below_more k k' (keys gs) is q) in cc
    go Greater is =
        let below : key_order k' k ≡ Less = nat_list_cmp_total.antisymm k' k ∙ ap ordering_reverse is in
        let here = sym (get-first k' w gs) ∙ sym (same k') ∙ get-below (field k v fs) k' (below, below_more k' k (keys fs) below p) in cc
    go Equal is =
        let one = exact_bytes k k' is in
        let values = sym (get-first k v fs) ∙ same k ∙ ap (get (field k' w gs)) one ∙ get-first k' w gs in
        let tail = more (λ key. rest one key (same_key key k) refl) in cc

-- maps from which the same is read are one
maps_same : (fs gs : Fields) → IsOrdered fs → IsOrdered gs → ((key : List ℕ) → get fs key ≡ get gs key) → fs ≡ gs
unfolding IsStrictlySortedBy
maps_same bare bare p q same = refl
maps_same bare (field k v gs) p q same = let here = same k ∙ get-first k v gs in cc
maps_same (field k v fs) bare p q same = let here = sym (same k) ∙ get-first k v fs in cc
maps_same (field k v fs) (field k' w gs) p q same = same_step k v fs k' w gs p.0 q.0 same (λ rest. maps_same fs gs p.1 q.1 rest)

bare-ordered : IsOrdered bare
unfolding IsStrictlySortedBy
bare-ordered = tt

pub written-same : (ds es : List (List ℕ × Val)) → ((key : List ℕ) → last ds key ≡ last es key) → written bare ds ≡ written bare es
written-same ds es same =
    maps_same (written bare ds) (written bare es) (written-ordered bare ds bare-ordered) (written-ordered bare es bare-ordered)
    (λ key. last-written ds key ∙ same key ∙ sym (last-written es key))
