-- When an assignment counts as a change, and when a condition holds: `safe_not_equal` of Svelte 4's runtime, and ToBoolean
-- of ECMA-262, section 7.1.2.
use Rattle.std.specs.Prelude.{Bool, true, false, pos, [], ◌∷◌}
use Rattle.std.specs.Ordering.{int_eq}
use Rattle.std.specs.Str.{bytes_eq}
use Rattle.std.proofs.Math.Bool.{beq, not}
use Rattle.sv_value.specs.Value.{Val, undefined, null, boolean, number, text, list, object, function, store}

-- whether the old value is a list, an object, a function or a store, or isn't the plain value that the new one is
abbrev pub differs : Val → Val → Bool
differs undefined undefined = false
differs null null = false
differs (boolean a) (boolean b) = not (beq a b)
differs (number a) (number b) = not (int_eq a b)
differs (text a) (text b) = not (bytes_eq a b)
differs _ _ = true

-- whether a condition takes the value as true: all but `undefined`, `null`, `false`, 0 and the empty text
abbrev pub truthy : Val → Bool
truthy undefined = false
truthy null = false
truthy (boolean b) = b
truthy (number n) = not (int_eq n (pos 0))
truthy (text []) = false
truthy (text (c ∷ t)) = true
truthy (list vs) = true
truthy (object fs) = true
truthy (function c o vs) = true
truthy (store s) = true
