-- What is handed from one step of a plan to the next.
use Rattle.std.specs.Prelude.{◌≡◌, ℕ, suc, ◌+◌, ◌-◌, nat_le, List, [], ◌∷◌, ◌++◌, map, Result, Ok, Err, if◌then◌else◌}
use Rattle.sv_parts.specs.declared.refusal.PatchError.{PatchError}
use Rattle.sv_parts.specs.declared.refusal.PatchError.TheVariants.{Refused, NoMemory}
use Rattle.sv_parts.specs.declared.refusal.Refusal.{Refusal}
use Rattle.sv_parts.specs.declared.refusal.Refusal.TheVariants.{Budget}
use Rattle.sv_parts.specs.declared.state.Effect.{Effect}
use Rattle.sv_parts.specs.declared.state.Effect.TheVariants.{Destroy}
use Rattle.sv_parts.specs.declared.state.Kept.{Kept}
use Rattle.sv_parts.specs.declared.state.State.{State}
use Rattle.sv_shapes.specs.Places.{places_all}
use Rattle.sv_shapes.specs.declared.shape.Shape.{Shape}

-- a value and what is left afterwards, or the first refusal
abbrev pub Outcome : Type 0 → Type 0
Outcome A = Result (A × State) Refusal

-- a step
abbrev pub Run : Type 0 → Type 0
Run A = State → Outcome A

-- one step, and then another with what it gave
abbrev pub andThen : {A B : Type 0} → Outcome A → (A → Run B) → Outcome B
andThen (Ok p) next = next p.0 p.1
andThen (Err r) next = Err r

-- what code answers against a step: there may be no memory
abbrev pub MeetsBody : {A : Type 0} → Result A PatchError → State → Outcome A → Type 0
MeetsBody (Ok x) after wanted = wanted ≡ Ok (x, after)
MeetsBody (Err (Refused r)) after wanted = wanted ≡ Err r
MeetsBody (Err NoMemory) after wanted = Unit {0}

pub record Meets {A : Type 0} (result : Result A PatchError) (after : State) (wanted : Outcome A) : Type 0 where
  pub meets : MeetsBody result after wanted

-- the next number
abbrev pub numbered : Run ℕ
numbered s = Ok (s.counters.next, record s { counters = record s.counters { next = s.counters.next + 1 } })

-- so many units of work
abbrev pub spent : ℕ → Run (Unit {0})
spent n s = if nat_le n s.counters.work then Ok (tt, record s { counters = record s.counters { work = s.counters.work - n } }) else Err Budget

-- one more effect
abbrev pub emitted : Effect → Run (Unit {0})
emitted effect s = Ok (tt, record s { effects = s.effects ++ effect ∷ [] })

-- one more place that stays
abbrev pub remembered : Kept → Run (Unit {0})
remembered kept s = Ok (tt, record s { kept = s.kept ++ kept ∷ [] })

-- the children at the places of component tags in some shapes go, in document order
abbrev pub destroyed : List Shape → Run (Unit {0})
destroyed parts s = Ok (tt, record s { effects = s.effects ++ map Destroy (places_all parts) })

-- a step for each item in turn, with its number, and what each gave, one behind the other
abbrev pub each : {A B : Type 0} → (A → ℕ → Run (List B)) → ℕ → List A → Run (List B)
each step i [] s = Ok ([], s)
each step i (x ∷ xs) s = andThen (step x i s) (λ ys v. andThen (each step (suc i) xs v) (λ zs u. Ok (ys ++ zs, u)))

-- what one step gives, as a list
abbrev pub one : {A : Type 0} → Outcome A → Outcome (List A)
one outcome = andThen outcome (λ x s. Ok (x ∷ [], s))
