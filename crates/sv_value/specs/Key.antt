-- Which values are keys of rows and contexts: the kinds that two values may be told apart by, as `===` does.
use Rattle.std.specs.Prelude.{Option, Some, None}
use Rattle.sv_value.specs.Value.{Val, undefined, null, boolean, number, text, list, object, function, store}
use Rattle.sv_value.specs.declared.key.Key as declared
use Rattle.sv_value.specs.declared.key.Key.TheVariants.{Num, Text, Bool}

-- the key that a value is
abbrev pub key_of : Val → Option declared.Key
key_of undefined = None
key_of null = None
key_of (boolean b) = Some (Bool b)
key_of (number n) = Some (Num n)
key_of (text t) = Some (Text t)
key_of (list vs) = None
key_of (object fs) = None
key_of (function c o vs) = None
key_of (store s) = None
