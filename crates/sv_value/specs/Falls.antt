-- What stands in a list or an object nests less deep than it.
use Rattle.std.specs.Prelude.{◌≤◌, ℕ, List, [], ◌∷◌, map}
use Rattle.std.proofs.Common.{arith}
use denote.Param.Weighed.{most}
use Rattle.sv_value.specs.Value.{depth, depths, field_depths, vals, fields}
use Rattle.sv_value.specs.View.{view_of, entry_of}
use Rattle.sv_value.specs.declared.value.Value.{Value}
use Rattle.sv_value.specs.declared.value.Value.TheVariants.{Undefined, Null, Bool, Num, Text, List as ListOf, Obj, Func, Store}
use Rattle.sv_value.specs.declared.value.List.TheDeep.{deep-Value}
use Rattle.sv_value.specs.declared.value.List.TheShapes.{weighed-Obj-shared-at-2}

deep_le-depth : (v : Value) → deep-Value v ≤ depth (view_of v)
deep_le-depth Undefined = omega arith
deep_le-depth Null = omega arith
deep_le-depth (Bool b) = omega arith
deep_le-depth (Num n) = omega arith
deep_le-depth (Text t) = omega arith
deep_le-depth (ListOf vs) = omega arith
deep_le-depth (Obj fs) = omega arith
deep_le-depth (Func f) = omega arith
deep_le-depth (Store s) = omega arith

pub most_le-depths : (vs : List Value) → most deep-Value vs ≤ depths (vals (map view_of vs))
most_le-depths [] = omega arith
most_le-depths (v ∷ vs) = omega (arith, deep_le-depth v, most_le-depths vs)

abbrev weight : List ℕ × Value → ℕ
weight e = weighed-Obj-shared-at-2.weight Value deep-Value e

weight_le-depth : (e : List ℕ × Value) → weight e ≤ depth (view_of e.1)
weight_le-depth e = omega (arith, deep_le-depth e.1)

pub most_le-field_depths : (es : List (List ℕ × Value)) → most weight es ≤ field_depths (fields (map entry_of es))
most_le-field_depths [] = omega arith
most_le-field_depths (e ∷ es) = omega (arith, weight_le-depth e, most_le-field_depths es)
