-- The effects of patches that are still to run.
use Rattle.std.specs.Prelude.{ℕ, ◌<◌, nat_eq, List, [], ◌∷◌, ◌++◌, if◌then◌else◌}
use Rattle.sv_code.specs.Names.{Each}
use Rattle.sv_parts.specs.declared.state.Effect.{Effect}

-- for the instances whose patches gave them, the innermost first
abbrev pub Pending : Type 0
Pending = List (ℕ × List Effect)

-- those of an instance
abbrev pub pending_of : Pending → ℕ → List Effect
pending_of [] n = []
pending_of (e ∷ pend) n = (if nat_eq e.0 n then e.1 else []) ++ pending_of pend n

-- all of them are of instances that were made before this one
abbrev pub AreBefore : ℕ → Pending → Type 0
AreBefore n pend = Each (λ e. e.0 < n) pend

-- each instance was made after those further out
abbrev pub Ascend : Pending → Type 0
Ascend [] = Unit {0}
Ascend (e ∷ pend) = AreBefore e.0 pend × Ascend pend
