-- The queue as it is kept.
use Rattle.std.specs.Prelude.{◌≡◌, ℕ, List, map, refl}
use Rattle.std.specs.List.{remove}
use Rattle.std.specs.Coded.{Coded, code_by, coded×, coded_ℕ, coded_list}
use Rattle.sv_value.specs.declared.value.Inst.{Inst}
use Rattle.sv_instance.specs.Place.{inst_number}
use Rattle.sv_states.specs.Waiting.{without}

-- the numbers in order, and how many fit without memory
pub record Queue : Type 0 where
  pub order : List ℕ
  pub room : ℕ

abbrev pub queue_code : Coded Queue
queue_code = code_by (List ℕ × ℕ) (coded× (coded_list coded_ℕ) coded_ℕ) (λ q. (q.order, q.room)) (λ p. record { order = p.0; room = p.1 }) (λ _. refl)

-- an instance doesn't stand among these
abbrev pub IsAway : List Inst → ℕ → Type 0
IsAway entries n = without (map inst_number entries) n ≡ map inst_number entries

-- an instance stands first at this place
abbrev pub IsPlace : List Inst → ℕ → ℕ → Type 0
IsPlace entries n place = without (map inst_number entries) n ≡ map inst_number (remove entries place)
