-- What a name is where some names are open (ECMA-262, 9.1.2.1: the scopes around are asked, the innermost first): the local of a scope around that
-- declares it, or else what the top of the file says.
use Rattle.std.specs.List.{list_any}
use Rattle.std.specs.Prelude.{◌≡◌, ℕ, nat_eq, Bool, false, List, map, Some, if◌then◌else◌}
use Rattle.sv_ast.specs.declared.names.Ref.{Ref}
use Rattle.sv_ast.specs.declared.names.Ref.TheVariants.{Plain, Store}
use Rattle.sv_base.specs.declared.names.Name.{Name}
use Rattle.sv_code.specs.declared.known.Known.{Known}
use Rattle.sv_code.specs.declared.known.Known.TheVariants.{Local}
use Rattle.sv_lower.specs.Tops.{Tops, known_in, known_or}
use Rattle.sv_meaning.specs.Env.{Env}
use Rattle.sv_names.specs.Locals.{name_of}

-- the names that are open
abbrev pub heads : Env → List ℕ
heads env = map (λ e. e.0) env

-- whether a name is one of some: a store name is of the top of the file
abbrev pub is_among : List ℕ → Ref → Bool
is_among xs (Plain x) = list_any (nat_eq x.0) xs
is_among xs (Store x) = false

abbrev pub is_open : Env → Ref → Bool
is_open env name = is_among (heads env) name

-- what a name is where some names are open
abbrev pub stands : Tops → Env → Ref → Known
stands tops env name = if is_open env name then Local (name_of name) else known_or (known_in tops.known name) name

-- what the top of a file says of a name is not that it is a local
abbrev pub AreOfTop : Tops → Type 0
AreOfTop tops = (name : Ref) (x : Name) → known_in tops.known name ≡ Some (Local x) → ⊥

-- a name without `$`
abbrev pub IsPlain : Ref → Type 0
IsPlain (Plain x) = Unit {0}
IsPlain (Store x) = ⊥
