-- Store names that name no store: `$x` stands for the store that a variable or a constant `x` of the component or an import between braces
-- holds (Svelte 4 docs, 'Prefix stores with $ to access their values'). A module has no store names.
use Rattle.std.specs.Prelude.{Bool, true, false, not, ◌&&◌, List, [], map, filter, if◌then◌else◌}
use Rattle.sv_ast.specs.declared.names.Ref.{Ref}
use Rattle.sv_ast.specs.declared.names.Ref.TheVariants.{Plain, Store}
use Rattle.sv_base.specs.Names.{Table}
use Rattle.sv_base.specs.declared.span.Span.{Span}
use Rattle.sv_names.specs.Distinct.{has, firsts}
use Rattle.sv_resolve.specs.Cells.{is_store}
use Rattle.sv_resolve.specs.Places.{name_place}
use Rattle.sv_scopes.specs.declared.scope.Binding.{Binding}
use Rattle.sv_scopes.specs.declared.scope.Binding.TheVariants.{Let, Export, Reactive, Const, Import}
use Rattle.sv_scopes.specs.declared.scope.Declared.{Declared}
use Rattle.sv_scopes.specs.declared.scope.Scope.{Scope}
use Rattle.sv_scopes.specs.declared.scope.Use.{Use}
use Rattle.sv_scopes.specs.Parts.{names_of}

-- whether what is declared so may hold a store: a variable, a constant, or what is imported between braces
abbrev pub may_hold : Binding → Bool
may_hold Let = true
may_hold Export = true
may_hold Reactive = true
may_hold Const = true
may_hold Import = true
may_hold _ = false

abbrev pub all_holders : List Declared → List Ref
all_holders ds = firsts (names_of (filter (λ d. may_hold d.by) ds))

-- the names that may hold a store; a module has none
abbrev pub holders : Bool → List Declared → List Ref
holders in_component ds = if in_component then all_holders ds else []

-- the name that holds the store of a store name
abbrev pub holder : Ref → Ref
holder (Plain name) = Plain name
holder (Store name) = Plain name

abbrev pub is_bad_store : List Ref → Use → Bool
is_bad_store known u = is_store u.name && not (has (holder u.name) known)

-- at each `$x`, where `x` is none of some names
abbrev pub storeless : Table → List Ref → List Use → List Span
storeless table known uses = map (name_place table) (filter (is_bad_store known) uses)

-- at each `$x`, where `x` may hold no store
abbrev pub bad_stores : Table → Bool → Scope → List Span
bad_stores table in_component top = storeless table (holders in_component top.declares) top.uses
