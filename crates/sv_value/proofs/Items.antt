-- The items of a list, one by one: their depth, size and equality.
use Rattle.std.proofs.Common.{◌≡◌, ℕ, zero, suc, ◌+◌, ◌<◌, ◌≤◌, max, List, [], ◌∷◌, ◌++◌, map, length, get_or, take, refl, sym, ap, ◌∙◌, arith}
use Rattle.std.proofs.lemmas.List.{map_more}
use Rattle.sv_value.specs.Value.{Val, Vals, none, more, undefined, null, boolean, number, text, list, object, function, store, vals, items, depth, depths, size, sizes}
use Rattle.sv_value.specs.View.{view_of}
use Rattle.sv_value.specs.declared.value.Value.{Value}

depths-append : (vs : List Val) (v : Val) → depths (vals (vs ++ v ∷ [])) ≡ max (depths (vals vs)) (depth v)
depths-append [] v = omega arith
depths-append (w ∷ vs) v = omega (arith, depths-append vs v)

sizes-append : (vs : List Val) (v : Val) → sizes (vals (vs ++ v ∷ [])) ≡ sizes (vals vs) + size v
sizes-append [] v = omega arith
sizes-append (w ∷ vs) v = omega (arith, sizes-append vs v)

-- one more item
pub depths_more : (xs : List Value) (i : ℕ) (x : Value) → i < length xs → x ≡ get_or xs i x → depths (vals (map view_of (take (i + 1) xs))) ≡ max (depths (vals (map view_of (take i xs)))) (depth (view_of x))
depths_more xs i x h e =
    ap (λ l. depths (vals l)) (map_more view_of xs i x h)
    ∙ depths-append _ _
    ∙ ap (λ y. max (depths (vals (map view_of (take i xs)))) (depth (view_of y))) (sym e)

pub sizes_more : (xs : List Value) (i : ℕ) (x : Value) → i < length xs → x ≡ get_or xs i x → sizes (vals (map view_of (take (i + 1) xs))) ≡ sizes (vals (map view_of (take i xs))) + size (view_of x)
sizes_more xs i x h e =
    ap (λ l. sizes (vals l)) (map_more view_of xs i x h)
    ∙ sizes-append _ _
    ∙ ap (λ y. sizes (vals (map view_of (take i xs))) + size (view_of y)) (sym e)

pub items-vals : (vs : List Val) → items (vals vs) ≡ vs
items-vals [] = refl
items-vals (v ∷ vs) = ap (λ l. v ∷ l) (items-vals vs)

pub size_positive : (v : Val) → 1 ≤ size v
size_positive undefined = omega arith
size_positive null = omega arith
size_positive (boolean b) = omega arith
size_positive (number n) = omega arith
size_positive (text t) = omega arith
size_positive (list vs) = omega arith
size_positive (object fs) = omega arith
size_positive (function c o vs) = omega arith
size_positive (store s) = omega arith

-- there are no more items than their size together
pub length_le-sizes : (xs : List Value) → length xs ≤ sizes (vals (map view_of xs))
length_le-sizes [] = omega arith
length_le-sizes (x ∷ xs) = omega (arith, length_le-sizes xs, size_positive (view_of x))

-- equal lists, item by item
abbrev first : Vals → Val
first none = null
first (more v vs) = v

abbrev rest : Vals → Vals
rest none = none
rest (more v vs) = vs

pub length_same : (xs ys : List Value) → vals (map view_of xs) ≡ vals (map view_of ys) → length xs ≡ length ys
length_same [] [] e = refl
length_same [] (y ∷ ys) e = cc
length_same (x ∷ xs) [] e = cc
length_same (x ∷ xs) (y ∷ ys) e = ap suc (length_same xs ys (ap rest e))

pub vals_at : (xs ys : List Value) (i : ℕ) (x y : Value) → i < length xs → x ≡ get_or xs i x → y ≡ get_or ys i y → vals (map view_of xs) ≡ vals (map view_of ys) → view_of x ≡ view_of y
vals_at [] ys i x y h p q e = absurd (omega arith)
vals_at (v ∷ xs) [] i x y h p q e = cc
vals_at (v ∷ xs) (w ∷ ys) zero x y h p q e = ap view_of p ∙ ap first e ∙ sym (ap view_of q)
vals_at (v ∷ xs) (w ∷ ys) (suc i) x y h p q e = vals_at xs ys i x y (omega arith) p q (ap rest e)

pub take_same : (xs ys : List Value) (i : ℕ) (x y : Value) → i < length xs → i < length ys → x ≡ get_or xs i x → y ≡ get_or ys i y → view_of x ≡ view_of y → map view_of (take i xs) ≡ map view_of (take i ys) → map view_of (take (i + 1) xs) ≡ map view_of (take (i + 1) ys)
take_same xs ys i x y h k p q e f =
    map_more view_of xs i x h
    ∙ ap (λ l. l ++ view_of (get_or xs i x) ∷ []) f
    ∙ ap (λ v. map view_of (take i ys) ++ v ∷ []) (sym (ap view_of p) ∙ e ∙ ap view_of q)
    ∙ sym (map_more view_of ys i y k)

-- each item nests no deeper than all of them
pub depth_at : (xs : List Value) (i : ℕ) (x : Value) → i < length xs → x ≡ get_or xs i x → depth (view_of x) ≤ depths (vals (map view_of xs))
depth_at [] i x h e = absurd (omega arith)
depth_at (y ∷ xs) zero x h e = let e' = ap (λ v. depth (view_of v)) e in omega arith
depth_at (y ∷ xs) (suc i) x h e = omega (arith, depth_at xs i x (omega arith) e)
