-- The texts of plain values: ToString of ECMA-262, section 7.1.17. What is not plain has none.
use Rattle.std.specs.Prelude.{◌≡◌, ℕ, List, Option, Some, None, true, false, codes, Result, Ok, Err}
use Rattle.std.specs.Fmt.{signed_decimal}
use Rattle.sv_value.specs.Value.{Val, undefined, null, boolean, number, text, list, object, function, store}
use Rattle.sv_value.specs.declared.fault.ValueFault.{ValueFault}
use Rattle.sv_value.specs.declared.fault.ValueFault.TheVariants.{Deep, Large, NotText, NoMemory}

-- the text of a value
abbrev pub text_of : Val → Option (List ℕ)
text_of undefined = Some (codes "undefined")
text_of null = Some (codes "null")
text_of (boolean true) = Some (codes "true")
text_of (boolean false) = Some (codes "false")
text_of (number n) = Some (signed_decimal n)
text_of (text t) = Some t
text_of (list vs) = None
text_of (object fs) = None
text_of (function c o vs) = None
text_of (store s) = None

-- the answer is the text of this value, or says that it has none
abbrev pub Shows : Result (List ℕ) ValueFault → Val → Type 0
Shows (Ok t) v = text_of v ≡ Some t
Shows (Err NotText) v = text_of v ≡ None
Shows (Err NoMemory) v = Unit {0}
Shows (Err Deep) v = ⊥
Shows (Err Large) v = ⊥
