-- Fields, items, lengths, and what `...` takes out of a value (ECMA-262, section 13.3).
use Rattle.std.specs.Prelude.{ℕ, ◌+◌, ℤ, pos, negsuc, List, [], length, Option, None, Some, slice_get}
use Rattle.std.specs.Fmt.{signed_decimal}
use Rattle.sv_value.specs.Value.{Val, undefined, null, number, text, list, object, items, entries}
use Rattle.sv_value.specs.Object.{get}
use Rattle.sv_ops.specs.declared.faults.FaultKind.{FaultKind}
use Rattle.sv_ops.specs.declared.faults.FaultKind.TheVariants.{NoMember, NotAList, BadKey}
use Rattle.sv_ops.specs.Answer.{Answer, Gives, Refuses, gives}
use Rattle.sv_ops.specs.Numbers.{checked}
use Rattle.sv_ops.specs.Texts.{units}

abbrev pub or_undefined : Option Val → Val
or_undefined None = undefined
or_undefined (Some v) = v

-- a field of an object; other values have none
abbrev pub member : Val → List ℕ → Answer
member (object fs) word = gives (or_undefined (get fs word))
member _ word = Refuses NoMember

-- what walking a text costs besides
abbrev pub walked : ℕ → Answer → Answer
walked cost (Gives more v) = Gives (cost + more) v
walked cost (Refuses k) = Refuses k

-- `.length`: the items of a list, the UTF-16 code units of a text, which is walked for them, or the field of that name
abbrev pub length_of : Val → List ℕ → Answer
length_of (list vs) word = gives (number (pos (length (items vs))))
length_of (text t) word = walked (length t) (checked (pos (units t)))
length_of v word = member v word

abbrev pub item_at : List Val → ℤ → Option Val
item_at vs (pos n) = slice_get vs n
item_at vs (negsuc n) = None

-- an item of a list by a number, or a field of an object by a text or the spelling of a number
abbrev pub index : Val → Val → Answer
index (object fs) (text t) = gives (or_undefined (get fs t))
index (object fs) (number n) = gives (or_undefined (get fs (signed_decimal n)))
index (object fs) _ = Refuses BadKey
index (list vs) (number n) = gives (or_undefined (item_at (items vs) n))
index (list vs) _ = Refuses BadKey
index (text t) _ = Refuses BadKey
index _ _ = Refuses NoMember

-- what `...` gives, or why it gives nothing
pub data Spread (A : Type 0) : Type 0 where
  Takes : List A → Spread A
  TakesNone : FaultKind → Spread A

-- in a list the items of a list
abbrev pub spread : Val → Spread Val
spread (list vs) = Takes (items vs)
spread _ = TakesNone NotAList

-- in an object the fields of an object; `undefined` and `null` have none
abbrev pub spread_fields : Val → Spread (List ℕ × Val)
spread_fields (object fs) = Takes (entries fs)
spread_fields undefined = Takes []
spread_fields null = Takes []
spread_fields _ = TakesNone NoMember
