-- Attributes printed round the one that is laid over.
use Rattle.std.proofs.Common.{◌≡◌, ◌+◌, ℕ, suc, List, [], ◌∷◌, ◌++◌, Bool, true, false, refl, ap, sym, ◌∙◌, arith, take, drop, append_assoc, add-one}
use Rattle.std.specs.Prelude.{not}
use Rattle.std.specs.List.{prefix_len}
use Rattle.std.specs.Str.{bytes_eq}
use Rattle.std.specs.Cmp.Lexicographic.{same_text}
use Rattle.sv_tokens.specs.declared.element.Attr.{Attr}
use Rattle.sv_tokens.specs.declared.element.Attribute.{Attribute}
use Rattle.sv_html.specs.Html.{attribute_html, attributes_html, lay, strip}

abbrev place : List ℕ → List Attribute → ℕ
place name xs = prefix_len (λ (a : Attribute). not (bytes_eq a.name name)) xs

one-more : (k : ℕ) → 1 + k ≡ suc k
one-more k = omega arith

lay-by : (name : List ℕ) (value : Attr) (x : Attribute) (xs : List Attribute) (n : ℕ) → n ≡ place name (x ∷ xs)
    → attributes_html (lay name value xs) ≡ attributes_html (take (place name xs) xs) ++ (attribute_html name value ++ attributes_html (drop (suc (place name xs)) xs))
    → (b : Bool) → bytes_eq x.name name ≡ b → attributes_html (lay name value (x ∷ xs)) ≡ attributes_html (take n (x ∷ xs)) ++ (attribute_html name value ++ attributes_html (drop (suc n) (x ∷ xs)))
lay-by name value x xs n is ih true same =
    let here : n ≡ 0 = is ∙ (rw same refl) in
    let named : x.name ≡ name = same_text x.name name (sym same) in
    rw (here, same) (ap (λ z. attribute_html z value ++ attributes_html xs) named)
lay-by name value x xs n is ih false other =
    let next : n ≡ suc (place name xs) = is ∙ (rw other (one-more (place name xs))) in
    rw (next, other) (ap (λ z. attribute_html x.name x.value ++ z) ih ∙ sym (append_assoc (attribute_html x.name x.value) (attributes_html (take (place name xs) xs)) _))

-- the attributes up to the place, the one laid over, and those behind
pub lay-html : (name : List ℕ) (value : Attr) (xs : List Attribute) (n : ℕ) → n ≡ place name xs
    → attributes_html (lay name value xs) ≡ attributes_html (take n xs) ++ (attribute_html name value ++ attributes_html (drop (suc n) xs))
lay-html name value [] n is = rw is refl
lay-html name value (x ∷ xs) n is = lay-by name value x xs n is (lay-html name value xs (place name xs) refl) (bytes_eq x.name name) refl

strip-by : (name : List ℕ) (x : Attribute) (xs : List Attribute) (n : ℕ) → n ≡ place name (x ∷ xs)
    → attributes_html (strip name xs) ≡ attributes_html (take (place name xs) xs) ++ attributes_html (drop (suc (place name xs)) xs)
    → (b : Bool) → bytes_eq x.name name ≡ b → attributes_html (strip name (x ∷ xs)) ≡ attributes_html (take n (x ∷ xs)) ++ attributes_html (drop (suc n) (x ∷ xs))
strip-by name x xs n is ih true same =
    let here : n ≡ 0 = is ∙ (rw same refl) in
    rw (here, same) refl
strip-by name x xs n is ih false other =
    let next : n ≡ suc (place name xs) = is ∙ (rw other (one-more (place name xs))) in
    rw (next, other) (ap (λ z. attribute_html x.name x.value ++ z) ih ∙ sym (append_assoc (attribute_html x.name x.value) (attributes_html (take (place name xs) xs)) _))

-- the attributes up to the place, and those behind
pub strip-html : (name : List ℕ) (xs : List Attribute) (n : ℕ) → n ≡ place name xs → attributes_html (strip name xs) ≡ attributes_html (take n xs) ++ attributes_html (drop (suc n) xs)
strip-html name [] n is = rw is refl
strip-html name (x ∷ xs) n is = strip-by name x xs n is (strip-html name xs (place name xs) refl) (bytes_eq x.name name) refl

-- the three pieces, one after another
pub printed-lay : (name : List ℕ) (value : Attr) (xs rest : List Attribute) (n : ℕ) (old first mid last : List ℕ) → n ≡ place name xs → first ≡ old ++ attributes_html (take n xs)
    → mid ≡ first ++ attribute_html name value → rest ≡ drop (n + 1) xs → last ≡ mid ++ attributes_html rest → last ≡ old ++ attributes_html (lay name value xs)
printed-lay name value xs rest n old first mid last is a b c d =
    let behind : drop (n + 1) xs ≡ drop (suc n) xs = ap (λ k. drop k xs) (add-one n) in
    rw (d, b, a, c, behind, lay-html name value xs n is) (append_assoc (old ++ attributes_html (take n xs)) (attribute_html name value) (attributes_html (drop (suc n) xs)) ∙ append_assoc old (attributes_html (take n xs)) _)

-- the two pieces
pub printed-strip : (name : List ℕ) (xs rest : List Attribute) (n : ℕ) (old first last : List ℕ) → n ≡ place name xs → first ≡ old ++ attributes_html (take n xs)
    → rest ≡ drop (n + 1) xs → last ≡ first ++ attributes_html rest → last ≡ old ++ attributes_html (strip name xs)
printed-strip name xs rest n old first last is a c d =
    let behind : drop (n + 1) xs ≡ drop (suc n) xs = ap (λ k. drop k xs) (add-one n) in
    rw (d, a, c, behind, strip-html name xs n is) (append_assoc old (attributes_html (take n xs)) (attributes_html (drop (suc n) xs)))
