-- A file in which no cell is one too many has no more than it may.
use Rattle.std.proofs.Common.{◌≡◌, ℕ, zero, suc, ◌+◌, ◌≤◌, Bool, true, false, List, [], ◌∷◌, ◌++◌, length, map, filter, refl, ap, ◌∙◌, arith, length-append}
use Rattle.std.specs.Prelude.{slice_get, if◌then◌else◌}
use Rattle.std.specs.Option.{option_to_list}
use Rattle.std.proofs.lemmas.List.{length_push, length-map}
use Rattle.sv_ast.specs.declared.files.FileTree.{FileTree}
use Rattle.sv_ast.specs.declared.files.FileTree.TheVariants as tree
use Rattle.sv_ast.specs.declared.names.Ref.{Ref}
use Rattle.sv_ast.specs.declared.names.Ref.TheVariants.{Plain}
use Rattle.sv_base.specs.Names.{Table}
use Rattle.sv_base.specs.declared.limits.TheConstants.{CELL_LIMIT}
use Rattle.sv_names.specs.Distinct.{same_ref, has, with_name, with_names}
use Rattle.sv_resolve.specs.declared.cells.Scopes.{Scopes}
use Rattle.sv_resolve.specs.Cells.{is_variable, is_store, variables, stores, uses_view, scopes}
use Rattle.sv_resolve.specs.Places.{declaration_place}
use Rattle.sv_scopes.specs.declared.scope.Scope.{Scope}
use Rattle.sv_scopes.specs.declared.scope.TheConstants.{VIEW}
use Rattle.sv_scopes.specs.declared.scope.Use.{Use}
use Rattle.sv_scopes.specs.Files.{component_scopes}
use Rattle.sv_check.specs.Cells.{store_places, first_view, cell_places, too_many}
use Rattle.sv_check.specs.Files.{scopes_of, told_scopes}

-- the places of one use more
store_place : (table : Table) (known : List Ref) (u : Use) (uses : List Use) (s h : Bool) → is_store u.name ≡ s → has u.name known ≡ h
    → ((names : List Ref) → length (with_names names (filter is_store (map (λ x. x.name) uses))) ≡ length names + length (store_places table names uses))
    → length (with_names known (filter is_store (map (λ x. x.name) (u ∷ uses)))) ≡ length known + length (store_places table known (u ∷ uses))
store_place table known u uses false h e g rest = rw (e) (rest known)
store_place table known u uses true true e g rest =
    let kept : with_name known u.name ≡ known = rw (g) refl in
    rw (e, g) (ap (λ names. length (with_names names (filter is_store (map (λ x. x.name) uses)))) kept ∙ rest known)
store_place table known u uses true false e g rest =
    let added : with_name known u.name ≡ known ++ u.name ∷ [] = rw (g) refl in
    let long : length (with_name known u.name) ≡ length known + 1 = ap length added ∙ length_push known u.name in
    let same : length (store_places table (with_name known u.name) uses) ≡ length (store_places table (known ++ u.name ∷ []) uses) = ap (λ names. length (store_places table names uses)) added in
    let more = rest (with_name known u.name) in
    rw (e, g) (omega arith)

-- each store name has a place
stores_places : (table : Table) (known : List Ref) (uses : List Use)
    → length (with_names known (filter is_store (map (λ u. u.name) uses))) ≡ length known + length (store_places table known uses)
stores_places table known [] = omega arith
stores_places table known (u ∷ uses) = store_place table known u uses (is_store u.name) (has u.name known) refl refl (λ names. stores_places table names uses)

view_place_by : (u : Use) (uses : List Use) (b : Bool) → same_ref u.name VIEW ≡ b → length (if uses_view uses then VIEW ∷ [] else []) ≡ length (option_to_list (first_view uses))
    → length (if uses_view (u ∷ uses) then VIEW ∷ [] else []) ≡ length (option_to_list (first_view (u ∷ uses)))
view_place_by u uses true e rest = rw (e) refl
view_place_by u uses false e rest = rw (e) rest

-- the owner's view has one, where it is used
view_place : (uses : List Use) → length (if uses_view uses then VIEW ∷ [] else []) ≡ length (option_to_list (first_view uses))
view_place [] = refl
view_place (u ∷ uses) = view_place_by u uses (same_ref u.name VIEW) refl (view_place uses)

-- each cell has a place
cells_places : (table : Table) (top : Scope) → length (scopes top).cells ≡ length (cell_places table top)
cells_places table top =
    let own = filter (λ d. is_variable d.by) top.declares in
    let view = if uses_view top.uses then VIEW ∷ [] else [] in
    let placed = map (declaration_place table) own in
    let stored = store_places table [] top.uses in
    let viewed = option_to_list (first_view top.uses) in
    let cells : length (scopes top).cells ≡ length (variables top.declares ++ stores top.uses) + length view = length-append (variables top.declares ++ stores top.uses) view in
    let names : length (variables top.declares ++ stores top.uses) ≡ length (variables top.declares) + length (stores top.uses) = length-append (variables top.declares) (stores top.uses) in
    let places : length (cell_places table top) ≡ length (placed ++ stored) + length viewed = length-append (placed ++ stored) viewed in
    let listed : length (placed ++ stored) ≡ length placed + length stored = length-append placed stored in
    let declared : length (variables top.declares) ≡ length own = length-map own (λ d. Plain d.name) in
    let found : length placed ≡ length own = length-map own (declaration_place table) in
    let used : length (stores top.uses) ≡ 0 + length stored = stores_places table [] top.uses in
    let seen : length view ≡ length viewed = view_place top.uses in
    omega arith

-- a list without an element at a place is no longer than the place
short : {A : Type 0} (xs : List A) (n : ℕ) → option_to_list (slice_get xs n) ≡ [] → length xs ≤ n
short [] n e = omega arith
short (x ∷ xs) zero e = let none = ap length e in absurd (omega arith)
short (x ∷ xs) (suc n) e = let rest = short xs n e in omega arith

-- the cells that are told of a file
pub few_told : (table : Table) (t : FileTree) (told : Scopes) → told ≡ told_scopes t → too_many table (scopes_of t).top ≡ [] → length told.cells ≤ CELL_LIMIT
few_told table (tree.Module m) told is none = rw (is) (omega arith)
few_told table (tree.Component c) told is none =
    let same = ap (λ s. length s.cells) is ∙ cells_places table (component_scopes c).top in
    let long = short (cell_places table (component_scopes c).top) CELL_LIMIT none in
    omega arith
