-- An item of a list changed at its place.
use Rattle.std.proofs.Common.{◌≡◌, ℕ, zero, suc, ◌<◌, ◌≤◌, List, [], ◌∷◌, ◌++◌, map, length, take, drop, get_or, slice_set, refl, sym, ap, ◌∙◌, arith, Bool, true, false, cond}
use Rattle.std.specs.List.{filter}
use Rattle.std.proofs.lemmas.List.{take_at}
use Rattle.sv_store.specs.Stores.{Store, changed_at, subscribers_at, differs_at}
use Rattle.sv_value.specs.Value.{Val}
use Rattle.sv_value.specs.Change.{differs}

-- a written item is the old one changed
pub map-changed : {A B : Type 0} (f : A → B) (g : B → B) (xs : List A) (n : ℕ) (d y : A) → n < length xs → f y ≡ g (f (get_or xs n d)) → map f (slice_set xs n y) ≡ changed_at g (map f xs) n
map-changed f g [] n d y h e = absurd (omega arith)
map-changed f g (z ∷ xs) zero d y h e = ap (λ w. w ∷ map f xs) e
map-changed f g (z ∷ xs) (suc n) d y h e = ap (λ w. f z ∷ w) (map-changed f g xs n d y (omega arith) e)

-- behind the end nothing changes
pub changed_past : {A B : Type 0} (f : A → B) (g : B → B) (xs : List A) (n : ℕ) → length xs ≤ n → map f xs ≡ changed_at g (map f xs) n
changed_past f g [] n h = refl
changed_past f g (z ∷ xs) zero h = absurd (omega arith)
changed_past f g (z ∷ xs) (suc n) h = ap (λ w. f z ∷ w) (changed_past f g xs n (omega arith))

-- an item written back as it was seen
pub map-same : {A B : Type 0} (f : A → B) (xs : List A) (n : ℕ) (d y : A) → n < length xs → f y ≡ f (get_or xs n d) → map f (slice_set xs n y) ≡ map f xs
map-same f [] n d y h e = refl
map-same f (z ∷ xs) zero d y h e = ap (λ w. w ∷ map f xs) e
map-same f (z ∷ xs) (suc n) d y h e = ap (λ w. f z ∷ w) (map-same f xs n d y (omega arith) e)

module _ {A : Type 0} (f : A → Store) where
  pub subscribers_at-map : (xs : List A) (n : ℕ) (d : A) → n < length xs → (f (get_or xs n d)).subscribers ≡ subscribers_at (map f xs) n
  subscribers_at-map [] n d h = absurd (omega arith)
  subscribers_at-map (z ∷ xs) zero d h = refl
  subscribers_at-map (z ∷ xs) (suc n) d h = subscribers_at-map xs n d (omega arith)

  pub subscribers_past : (xs : List A) (n : ℕ) → length xs ≤ n → [] ≡ subscribers_at (map f xs) n
  subscribers_past [] n h = refl
  subscribers_past (z ∷ xs) zero h = absurd (omega arith)
  subscribers_past (z ∷ xs) (suc n) h = subscribers_past xs n (omega arith)

  pub differs_at-map : (xs : List A) (n : ℕ) (d : A) (v : Val) → n < length xs → differs (f (get_or xs n d)).value v ≡ differs_at (map f xs) n v
  differs_at-map [] n d v h = absurd (omega arith)
  differs_at-map (z ∷ xs) zero d v h = refl
  differs_at-map (z ∷ xs) (suc n) d v h = differs_at-map xs n d v (omega arith)

  pub differs_past : (xs : List A) (n : ℕ) (v : Val) → length xs ≤ n → false ≡ differs_at (map f xs) n v
  differs_past [] n v h = refl
  differs_past (z ∷ xs) zero v h = absurd (omega arith)
  differs_past (z ∷ xs) (suc n) v h = differs_past xs n v (omega arith)

-- what a slice of all items leaves behind
pub all_back : {A : Type 0} (new old : List A) (n : ℕ) → n ≡ length old → length new ≡ length old → take n (new ++ drop (length new) old) ≡ new
all_back new old n e h = take_at new (drop (length new) old) n (h ∙ sym e)

filter_cons : {A B : Type 0} (f : A → B) (x : A) (xs : List A) (ys : List B) (b : Bool) → map f xs ≡ ys → map f (cond b (x ∷ xs) xs) ≡ cond b (f x ∷ ys) ys
filter_cons f x xs ys true e = ap (λ w. f x ∷ w) e
filter_cons f x xs ys false e = e

pub filter-map : {A B : Type 0} (f : A → B) (p : B → Bool) (xs : List A) → map f (filter (λ x. p (f x)) xs) ≡ filter p (map f xs)
filter-map f p [] = refl
filter-map f p (x ∷ xs) = filter_cons f x (filter (λ y. p (f y)) xs) (filter p (map f xs)) (p (f x)) (filter-map f p xs)

pub get_or-map : {A B : Type 0} (f : A → B) (xs : List A) (n : ℕ) (d : A) (e : B) → n < length xs → f (get_or xs n d) ≡ get_or (map f xs) n e
get_or-map f [] n d e h = absurd (omega arith)
get_or-map f (z ∷ xs) zero d e h = refl
get_or-map f (z ∷ xs) (suc n) d e h = get_or-map f xs n d e (omega arith)
