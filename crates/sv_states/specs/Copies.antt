-- Copies of one value.
use Rattle.std.specs.Prelude.{ℕ, refl}
use Rattle.std.specs.Coded.{Coded, code_by, coded×, coded_ℕ}
use Rattle.sv_value.specs.Value.{Val}
use Rattle.sv_value.specs.Stored.{val_code}

-- a value, and how many copies are left
pub record Copies : Type 0 where
  pub value : Val
  pub left : ℕ

abbrev pub copies_code : Coded Copies
copies_code = code_by (Val × ℕ) (coded× val_code coded_ℕ) (λ c. (c.value, c.left)) (λ p. record { value = p.0; left = p.1 }) (λ _. refl)
