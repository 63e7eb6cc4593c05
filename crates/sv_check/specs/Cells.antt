-- More cells than a component may have. This limit is the project's own.
use Rattle.std.specs.Prelude.{Bool, not, ◌&&◌, List, [], ◌∷◌, ◌++◌, Option, None, Some, map, filter, slice_get, if◌then◌else◌}
use Rattle.std.specs.Option.{option_to_list}
use Rattle.sv_ast.specs.declared.names.Ref.{Ref}
use Rattle.sv_base.specs.Names.{Table}
use Rattle.sv_base.specs.declared.limits.TheConstants.{CELL_LIMIT}
use Rattle.sv_base.specs.declared.span.Span.{Span}
use Rattle.sv_names.specs.Distinct.{same_ref, has, with_name}
use Rattle.sv_resolve.specs.Cells.{is_variable, is_store}
use Rattle.sv_resolve.specs.Places.{declaration_place, name_place}
use Rattle.sv_scopes.specs.declared.scope.Scope.{Scope}
use Rattle.sv_scopes.specs.declared.scope.TheConstants.{VIEW}
use Rattle.sv_scopes.specs.declared.scope.Use.{Use}

-- a store name that isn't known
abbrev pub is_new_store : List Ref → Use → Bool
is_new_store known u = is_store u.name && not (has u.name known)

-- where each store name is first used, but for some names that are known
abbrev pub store_places : Table → List Ref → List Use → List Span
store_places table known [] = []
store_places table known (u ∷ uses) =
    if is_new_store known u then name_place table u ∷ store_places table (with_name known u.name) uses else store_places table known uses

-- where the first `<slot>` stands
abbrev pub first_view : List Use → Option Span
first_view [] = None
first_view (u ∷ uses) = if same_ref u.name VIEW then Some u.span else first_view uses

-- where the name of each cell first stands, in the order of the cells: variables, then stores, then the owner's view
abbrev pub cell_places : Table → Scope → List Span
cell_places table top = map (declaration_place table) (filter (λ d. is_variable d.by) top.declares) ++ store_places table [] top.uses ++ option_to_list (first_view top.uses)

-- at the first cell that is one too many
abbrev pub too_many : Table → Scope → List Span
too_many table top = option_to_list (slice_get (cell_places table top) CELL_LIMIT)
