-- What scripts may still spend in a turn, and what they logged.
use Rattle.std.specs.Prelude.{ℕ, List, [], ◌∷◌, ◌++◌, refl}
use Rattle.std.specs.Coded.{Coded, code_by, coded×, coded_ℕ, coded_list}
use Rattle.sv_world.specs.declared.turn.TheConstants.{STEP_LIMIT}

-- the steps that are left, and the lines of the log
pub record Turn : Type 0 where
  pub steps : ℕ
  pub log : List (List ℕ)

abbrev pub turn_code : Coded Turn
turn_code = code_by (ℕ × List (List ℕ)) (coded× coded_ℕ (coded_list (coded_list coded_ℕ))) (λ t. (t.steps, t.log)) (λ p. record { steps = p.0; log = p.1 }) (λ _. refl)

-- nothing was spent
abbrev pub fresh : Turn
fresh = record { steps = STEP_LIMIT; log = [] }

-- the next turn
abbrev pub begun : Turn → Turn
begun t = record t { steps = STEP_LIMIT; log = [] }

abbrev pub logged : Turn → List ℕ → Turn
logged t line = record t { log = t.log ++ line ∷ [] }
