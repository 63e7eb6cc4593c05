-- Names of rows and of slot props.
use Rattle.std.specs.Prelude.{ℕ, nat_eq, if◌then◌else◌, List, [], ◌∷◌, Option, Some, None, refl}
use Rattle.std.specs.Coded.{Coded, code_by, coded×, coded_ℕ}
use Rattle.sv_value.specs.Value.{Val}
use Rattle.sv_value.specs.Stored.{val_code}

-- a name's number, its value, and the number that its list or slot prop got when it was evaluated
pub record Local : Type 0 where
  pub name : ℕ
  pub value : Val
  pub number : ℕ

abbrev pub local_code : Coded Local
local_code =
    code_by (ℕ × (Val × ℕ)) (coded× coded_ℕ (coded× val_code coded_ℕ)) (λ l. (l.name, (l.value, l.number))) (λ p. record { name = p.0; value = p.1.0; number = p.1.1 }) (λ _. refl)

-- the innermost local of a name
abbrev pub local_at : List Local → ℕ → Option Local
local_at [] name = None
local_at (l ∷ locals) name = if nat_eq l.name name then Some l else local_at locals name
