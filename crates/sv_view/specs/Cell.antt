-- Variables of a component.
use Rattle.std.specs.Prelude.{ℕ, refl}
use Rattle.std.specs.Coded.{Coded, code_by, coded×, coded_ℕ}
use Rattle.sv_value.specs.Value.{Val}
use Rattle.sv_value.specs.Stored.{val_code}

-- a variable's value, and how often it changed
pub record Cell : Type 0 where
  pub value : Val
  pub count : ℕ

abbrev pub cell_code : Coded Cell
cell_code = code_by (Val × ℕ) (coded× val_code coded_ℕ) (λ c. (c.value, c.count)) (λ p. record { value = p.0; count = p.1 }) (λ _. refl)
