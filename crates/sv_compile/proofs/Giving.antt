-- What is given under a name.
use Rattle.std.proofs.Common.{◌≡◌, ℕ, List, [], ◌∷◌, None, length, map, inl, inr, ◌⊎◌, refl, arith, Bor}
use Rattle.sv_base.specs.Names.{Table}
use Rattle.sv_base.specs.declared.names.Name.{Name}
use Rattle.sv_code.specs.declared.known.Life.{Life}
use Rattle.sv_compile.specs.Constants.{life_among}

-- where texts or what they stand for are none, nothing is given
pub ended : (table : Table) (texts : List (Bor (List ℕ))) (lives : List Life) (name : Name) → (length texts ≡ 0) ⊎ (length lives ≡ 0) → life_among table (map (λ text. text.now) texts) lives name ≡ None
ended table [] lives name h = refl
ended table (text ∷ texts) [] name h = refl
ended table (text ∷ texts) (life ∷ lives) name (inl h) = absurd (omega (arith, h))
ended table (text ∷ texts) (life ∷ lives) name (inr h) = absurd (omega (arith, h))
