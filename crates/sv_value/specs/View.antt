-- The trees that values in memory stand for.
use Rattle.std.specs.Prelude.{ℕ, List}
use Rattle.sv_value.specs.Value.{Val, undefined, null, boolean, number, text, list, object, function, store}
use Rattle.sv_value.specs.declared.value.Value.{Value}
use Rattle.sv_value.specs.declared.value.Value.TheVariants.{Undefined, Null, Bool, Num, Text, List as ListOf, Obj, Func, Store}

-- the tree of a value
abbrev pub view_of : Value → Val
view_of Undefined = undefined
view_of Null = null
view_of (Bool b) = boolean b
view_of (Num n) = number n
view_of (Text t) = text t
view_of (ListOf vs) = list vs
view_of (Obj fs) = object fs
view_of (Func f) = function f.code f.owner.number f.held
view_of (Store s) = store s

-- the key and the tree of a field
abbrev pub entry_of : List ℕ × Value → List ℕ × Val
entry_of e = (e.0, view_of e.1)
