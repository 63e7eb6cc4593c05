-- Facts of lists and of what may be absent.
use Rattle.std.proofs.Common.{◌≡◌, refl, ap₂, ap, List, [], ◌∷◌, map, Option, Some, None, option_map}
use Rattle.sv_code.proofs.Each.{each_front, each_back}
use Rattle.sv_code.specs.declared.known.Known.{Known}
use Rattle.sv_code.specs.Names.{Each, joined, given}

-- a fact of the things of two lists at the same places
abbrev pub Pairs : {A : Type 0} → (A → A → Type 0) → List A → List A → Type 0
Pairs R [] [] = Unit {0}
Pairs R (x ∷ xs) (y ∷ ys) = R x y × Pairs R xs ys
Pairs R _ _ = ⊥

-- what is made of trees in two ways, where each tree has a claim on the names in it
pub pairs_made : {T M : Type 0} (made made' : T → M) (names : T → List Known) (Q : Known → Type 0) (R : M → M → Type 0) (xs : List ((x : T) × (Each Q (names x) → R (made x) (made' x))))
    → Each Q (joined (map names (map (λ p. p.0) xs))) → Pairs R (map made (map (λ p. p.0) xs)) (map made' (map (λ p. p.0) xs))
pairs_made made made' names Q R [] h = tt
pairs_made made made' names Q R (x ∷ xs) h =
    (x.1 (each_front Q (names x.0) (joined (map names (map (λ p. p.0) xs))) h), pairs_made made made' names Q R xs (each_back Q (names x.0) (joined (map names (map (λ p. p.0) xs))) h))

-- the same where what is made is the same
pub map_made : {T M : Type 0} (made made' : T → M) (names : T → List Known) (Q : Known → Type 0) (xs : List ((x : T) × (Each Q (names x) → made x ≡ made' x)))
    → Each Q (joined (map names (map (λ p. p.0) xs))) → map made (map (λ p. p.0) xs) ≡ map made' (map (λ p. p.0) xs)
map_made made made' names Q [] h = refl
map_made made made' names Q (x ∷ xs) h =
    ap₂ (λ y ys. y ∷ ys) (x.1 (each_front Q (names x.0) (joined (map names (map (λ p. p.0) xs))) h)) (map_made made made' names Q xs (each_back Q (names x.0) (joined (map names (map (λ p. p.0) xs))) h))

-- the same of trees of which all have the claim
pub map_same : {T M : Type 0} (made made' : T → M) (names : T → List Known) (Q : Known → Type 0) → ((x : T) → Each Q (names x) → made x ≡ made' x) → (xs : List T) → Each Q (joined (map names xs)) → map made xs ≡ map made' xs
map_same made made' names Q claim [] h = refl
map_same made made' names Q claim (x ∷ xs) h = ap₂ (λ y ys. y ∷ ys) (claim x (each_front Q (names x) (joined (map names xs)) h)) (map_same made made' names Q claim xs (each_back Q (names x) (joined (map names xs)) h))

pub option_same : {T M : Type 0} (made made' : T → M) (names : T → List Known) (Q : Known → Type 0) → ((x : T) → Each Q (names x) → made x ≡ made' x) → (o : Option T) → Each Q (given (option_map names o)) → option_map made o ≡ option_map made' o
option_same made made' names Q claim None h = refl
option_same made made' names Q claim (Some x) h = ap Some (claim x h)
