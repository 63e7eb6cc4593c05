-- The local names that are open where code runs, the innermost last. A name has no value until its declaration ran.
use Rattle.std.specs.Prelude.{ℕ, zero, suc, nat_eq, Bool, true, false, List, [], ◌∷◌, ◌++◌, map, Option, Some, None, option_and_then, slice_get, slice_set}
use Rattle.std.specs.Coded.{Coded, coded×, coded_ℕ, coded_list, coded_option}
use Rattle.sv_ast.specs.declared.names.Named.{Named}
use Rattle.sv_base.specs.declared.names.Name.{Name}
use Rattle.sv_value.specs.Value.{Val, undefined}
use Rattle.sv_value.specs.Stored.{val_code}
use Rattle.sv_view.specs.Local.{Local}

abbrev pub Env : Type 0
Env = List (ℕ × Option Val)

abbrev pub env_code : Coded Env
env_code = coded_list (coded× coded_ℕ (coded_option val_code))

abbrev pub place_in : Option ℕ → Bool → Option ℕ
place_in (Some i) here = Some (suc i)
place_in None true = Some zero
place_in None false = None

-- where the last entry of a name stands
abbrev pub place : ℕ → Env → Option ℕ
place x [] = None
place x (e ∷ env) = place_in (place x env) (nat_eq e.0 x)

abbrev pub value_in : Option (ℕ × Option Val) → Option Val
value_in None = None
value_in (Some e) = e.1

-- the value of a name, if it has one
abbrev pub look : ℕ → Env → Option Val
look x env = option_and_then (λ i. value_in (slice_get env i)) (place x env)

abbrev pub given_at : Option ℕ → ℕ → Val → Env → Env
given_at None x v env = env
given_at (Some i) x v env = slice_set env i (x, Some v)

-- a name gets a value
abbrev pub given_value : ℕ → Val → Env → Env
given_value x v env = given_at (place x env) x v env

-- names that have no values yet
abbrev pub opened : List Name → Env
opened names = map (λ x. (x.0, None)) names

-- names with values: missing ones are undefined, and further ones are dropped
abbrev pub bound : List ℕ → List Val → Env
bound [] vs = []
bound (x ∷ xs) [] = (x, Some undefined) ∷ bound xs []
bound (x ∷ xs) (v ∷ vs) = (x, Some v) ∷ bound xs vs

abbrev pub numbers : List Name → List ℕ
numbers names = map (λ x. x.0) names

abbrev pub params : List Named → List ℕ
params names = map (λ n. n.name.0) names

-- the row locals and slot props of a view, whose innermost come first
abbrev pub shown : List Local → Env
shown [] = []
shown (l ∷ locals) = shown locals ++ (l.name, Some l.value) ∷ []
