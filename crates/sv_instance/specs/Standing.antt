-- Where instances stand, as contracts see it.
use Rattle.std.specs.Prelude.{ℕ, Option, refl}
use Rattle.std.specs.Coded.{Coded, code_by, coded×, coded_ℕ, coded_option}

-- a tag's number in the program, and the number of the instance in whose markup it is written
pub record Standing : Type 0 where
  pub tag : ℕ
  pub owner : ℕ

-- an instance's component, its depth, its parent's number, and the tag that made it
pub record Place : Type 0 where
  pub component : ℕ
  pub depth : ℕ
  pub parent : Option ℕ
  pub standing : Option Standing

abbrev pub standing_code : Coded Standing
standing_code = code_by (ℕ × ℕ) (coded× coded_ℕ coded_ℕ) (λ s. (s.tag, s.owner)) (λ p. record { tag = p.0; owner = p.1 }) (λ _. refl)

abbrev pub place_code : Coded Place
place_code =
    code_by (ℕ × (ℕ × (Option ℕ × Option Standing))) (coded× coded_ℕ (coded× coded_ℕ (coded× (coded_option coded_ℕ) (coded_option standing_code))))
    (λ p. (p.component, (p.depth, (p.parent, p.standing)))) (λ p. record { component = p.0; depth = p.1.0; parent = p.1.1.0; standing = p.1.1.1 }) (λ _. refl)
