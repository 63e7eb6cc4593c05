-- Equality (ECMA-262, section 7.2.14), where two lists, two objects or two functions can't be told apart.
use Rattle.std.specs.Prelude.{ℕ, Bool, true, false, not, nat_eq, length}
use Rattle.std.specs.Ordering.{int_eq}
use Rattle.std.specs.Str.{bytes_eq}
use Rattle.std.proofs.Math.Bool.{beq}
use Rattle.sv_value.specs.Value.{Val, undefined, null, boolean, number, text, list, object, function, store}
use Rattle.sv_ops.specs.declared.faults.FaultKind.TheVariants.{CompareObjects}
use Rattle.sv_ops.specs.Answer.{Answer, Gives, Refuses}

-- what two values tell of their equality, and what telling it costs: of two texts the left one is walked
pub data Equality : Type 0 where
  Tells : (cost : ℕ) → Bool → Equality
  Cannot : Equality

abbrev pub equality : Val → Val → Equality
equality undefined undefined = Tells 0 true
equality null null = Tells 0 true
equality (boolean a) (boolean b) = Tells 0 (beq a b)
equality (number a) (number b) = Tells 0 (int_eq a b)
equality (text a) (text b) = Tells (length a) (bytes_eq a b)
equality (list a) (list b) = Cannot
equality (object a) (object b) = Cannot
equality (function c o h) (function d p i) = Cannot
equality (store a) (store b) = Tells 0 (nat_eq a b)
equality _ _ = Tells 0 false

abbrev pub told : (Bool → Bool) → Equality → Answer
told f (Tells cost same) = Gives cost (boolean (f same))
told f Cannot = Refuses CompareObjects

abbrev pub same : Val → Val → Answer
same a b = told (λ x. x) (equality a b)

abbrev pub not_same : Val → Val → Answer
not_same a b = told not (equality a b)

abbrev pub is_nullish : Val → Bool
is_nullish undefined = true
is_nullish null = true
is_nullish _ = false
