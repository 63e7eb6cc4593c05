-- The calls on lists that take a function (ECMA-262, section 23.1.3): what each calls it with, how each goes on after a call, and what it
-- gives at the end.
use Rattle.std.specs.Prelude.{ℕ, pos, negsuc, true, false, List, [], ◌∷◌, if◌then◌else◌}
use Rattle.sv_value.specs.Value.{Val, undefined, boolean, number}
use Rattle.sv_value.specs.Change.{truthy}
use Rattle.sv_code.specs.declared.known.Method.{Method}
use Rattle.sv_code.specs.declared.known.Method.TheVariants as method
use Rattle.sv_ops.specs.Answer.{Answer, gives, list_made}

-- the call ends with a value, puts one in the list that it makes, passes on, or holds a value from now on
pub data Turn : Type 0 where
  Ends : Val → Turn
  Puts : Val → Turn
  Passes : Turn
  Holds : Val → Turn

-- after the function gave a value for an item with its number
abbrev pub turn : Method → Val → Val → ℕ → Turn
turn method.Map gave item n = Puts gave
turn method.Filter gave item n = if truthy gave then Puts item else Passes
turn method.Some gave item n = if truthy gave then Ends (boolean true) else Passes
turn method.Every gave item n = if truthy gave then Passes else Ends (boolean false)
turn method.Find gave item n = if truthy gave then Ends item else Passes
turn method.FindIndex gave item n = if truthy gave then Ends (number (pos n)) else Passes
turn method.Reduce gave item n = Holds gave
turn _ gave item n = Passes

-- what the function is called with
abbrev pub arguments : Method → Val → Val → ℕ → List Val
arguments method.Reduce held item n = held ∷ (item ∷ (number (pos n) ∷ []))
arguments _ held item n = item ∷ (number (pos n) ∷ [])

-- what is given after the last item
abbrev pub finish : Method → List Val → Val → Answer
finish method.Map made held = list_made made
finish method.Filter made held = list_made made
finish method.Some made held = gives (boolean false)
finish method.Every made held = gives (boolean true)
finish method.FindIndex made held = gives (number (negsuc 0))
finish method.Reduce made held = gives held
finish _ made held = gives undefined
