-- The cells of a component, and its constants.
use Rattle.std.specs.Prelude.{Bool, true, false, not, List, [], ◌∷◌, ◌++◌, map, filter, if◌then◌else◌}
use Rattle.std.specs.List.{list_any}
use Rattle.sv_ast.specs.declared.names.Ref.{Ref}
use Rattle.sv_ast.specs.declared.names.Ref.TheVariants.{Plain, Store}
use Rattle.sv_names.specs.Distinct.{same_ref, firsts}
use Rattle.sv_resolve.specs.declared.cells.Scopes.{Scopes}
use Rattle.sv_scopes.specs.declared.scope.Binding.{Binding}
use Rattle.sv_scopes.specs.declared.scope.Binding.TheVariants.{Let, Export, Reactive}
use Rattle.sv_scopes.specs.declared.scope.Declared.{Declared}
use Rattle.sv_scopes.specs.declared.scope.Scope.{Scope}
use Rattle.sv_scopes.specs.declared.scope.TheConstants.{VIEW}
use Rattle.sv_scopes.specs.declared.scope.Use.{Use}
use Rattle.sv_scopes.specs.Parts.{names_of}

abbrev pub is_variable : Binding → Bool
is_variable Let = true
is_variable Export = true
is_variable Reactive = true
is_variable _ = false

-- the variables that are declared, and the constants
abbrev pub variables : List Declared → List Ref
variables ds = names_of (filter (λ d. is_variable d.by) ds)

abbrev pub constants : List Declared → List Ref
constants ds = names_of (filter (λ d. not (is_variable d.by)) ds)

abbrev pub is_store : Ref → Bool
is_store (Plain name) = false
is_store (Store name) = not (same_ref (Store name) VIEW)

-- the store names that are used, by first appearance
abbrev pub stores : List Use → List Ref
stores uses = firsts (filter is_store (map (λ u. u.name) uses))

-- whether there is a `<slot>`, which uses the owner's view
abbrev pub uses_view : List Use → Bool
uses_view uses = list_any (λ u. same_ref u.name VIEW) uses

abbrev pub scopes : Scope → Scopes
scopes top = record { cells = variables top.declares ++ stores top.uses ++ (if uses_view top.uses then VIEW ∷ [] else []); constants = constants top.declares }
