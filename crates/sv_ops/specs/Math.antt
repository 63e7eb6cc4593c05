-- `Math`, `String` and `Boolean` (ECMA-262, sections 21.3, 22.1.1 and 20.3.1). A missing argument is `undefined`.
use Rattle.std.specs.Prelude.{ℤ, pos, int_le, nat_abs, Bool, true, false, List, [], ◌∷◌, if◌then◌else◌}
use Rattle.sv_value.specs.Value.{Val, undefined, boolean, number}
use Rattle.sv_value.specs.Change.{truthy}
use Rattle.sv_ops.specs.declared.faults.FaultKind.TheVariants.{NotANumber}
use Rattle.sv_ops.specs.Answer.{Answer, Refuses, gives, spelled, texted}

-- the first of some arguments
abbrev pub first : List Val → Val
first [] = undefined
first (v ∷ vs) = v

abbrev pub on_number : (ℤ → ℤ) → Val → Answer
on_number f (number n) = gives (number (f n))
on_number f _ = Refuses NotANumber

abbrev pub absolute : Val → Answer
absolute = on_number (λ n. pos (nat_abs n))

-- a whole number is its own floor
abbrev pub rounded : Val → Answer
rounded = on_number (λ n. n)

-- one of some numbers by an order: the first that no other comes before
abbrev pub best_from : (ℤ → ℤ → Bool) → ℤ → List Val → Answer
best_from before n [] = gives (number n)
best_from before n (number m ∷ vs) = if before m n then best_from before m vs else best_from before n vs
best_from before n (v ∷ vs) = Refuses NotANumber

abbrev pub best : (ℤ → ℤ → Bool) → List Val → Answer
best before (number n ∷ vs) = best_from before n vs
best before _ = Refuses NotANumber

-- the order of `Math.max`, or of `Math.min`
abbrev pub order : Bool → ℤ → ℤ → Bool
order true m n = int_le n m
order false m n = int_le m n

abbrev pub least : List Val → Answer
least = best (order false)

abbrev pub greatest : List Val → Answer
greatest = best (order true)

abbrev pub to_text : Val → Answer
to_text v = texted v (spelled 0)

abbrev pub to_boolean : Val → Answer
to_boolean v = gives (boolean (truthy v))
