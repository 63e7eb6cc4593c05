-- The mistakes that the scopes of a file show, each kind as the list of its places.
use Rattle.std.specs.Prelude.{Bool, true, false, not, ◌&&◌, ◌||◌, List, [], ◌∷◌, ◌++◌, map, filter, if◌then◌else◌}
use Rattle.std.specs.List.{flat_map}
use Rattle.sv_ast.specs.declared.names.Ref.{Ref}
use Rattle.sv_ast.specs.declared.names.Ref.TheVariants.{Plain, Store}
use Rattle.sv_base.specs.BuiltIn.{conversions, math_functions}
use Rattle.sv_base.specs.Names.{Table, is_text, is_one_of}
use Rattle.sv_base.specs.declared.built_in.TheConstants.{MATH, CONSOLE, LOG}
use Rattle.sv_base.specs.declared.names.Name.{Name}
use Rattle.sv_base.specs.declared.span.Span.{Span}
use Rattle.sv_names.specs.Distinct.{has, with_name}
use Rattle.sv_resolve.specs.declared.refusals.CheckKind.{CheckKind}
use Rattle.sv_resolve.specs.declared.refusals.CheckKind.TheVariants.{DeclaredTwice, UnknownName, AssignConst, CapturedAssign}
use Rattle.sv_resolve.specs.declared.refusals.CheckRefusal.{CheckRefusal}
use Rattle.sv_resolve.specs.Places.{name_place}
use Rattle.sv_scopes.specs.declared.scope.Binding.{Binding}
use Rattle.sv_scopes.specs.declared.scope.Binding.TheVariants.{Const, Function, Import, Component}
use Rattle.sv_scopes.specs.declared.scope.Declared.{Declared}
use Rattle.sv_scopes.specs.declared.scope.FileScopes.{FileScopes}
use Rattle.sv_scopes.specs.declared.scope.Form.{Form}
use Rattle.sv_scopes.specs.declared.scope.Form.TheVariants.{Read}
use Rattle.sv_scopes.specs.declared.scope.Role.{Role}
use Rattle.sv_scopes.specs.declared.scope.Role.TheVariants.{Called, CalledMember}
use Rattle.sv_scopes.specs.declared.scope.Scope.{Scope}
use Rattle.sv_scopes.specs.declared.scope.Use.{Use}
use Rattle.sv_scopes.specs.Parts.{names_of, is_tag}

-- ---- a name declared twice, or `Math`

-- the declarations of names that are known, or that an earlier one declares, and those of `Math`
abbrev pub again : Table → List Ref → List Declared → List Span
again names known [] = []
again names known (d ∷ ds) = (if has (Plain d.name) known || is_text names MATH.now d.name then d.span ∷ [] else []) ++ again names (with_name known (Plain d.name)) ds

-- at each further declaration of a name in a scope, and at each of `Math`
abbrev pub declared_twice : Table → Scope → List Span
declared_twice names s = again names [] s.declares

-- ---- a name that is declared nowhere

-- a call of a name that may be declared nowhere
abbrev pub calls_free : Table → Role → Name → Bool
calls_free names Called name = is_one_of names conversions name
calls_free names (CalledMember word) name = (is_text names MATH.now name && is_one_of names math_functions word) || (is_text names CONSOLE.now name && is_text names LOG.now word)
calls_free names _ name = false

-- whether a use of a name that isn't declared stands for nothing. Of store names nothing is asked here
abbrev pub is_unbound : Table → Role → Ref → Bool
is_unbound names role (Plain name) = not (calls_free names role name)
is_unbound names role (Store name) = false

abbrev pub is_component : Binding → Bool
is_component Component = true
is_component _ = false

-- the names that imports without braces give
abbrev pub components : List Declared → List Ref
components ds = names_of (filter (λ d. is_component d.by) ds)

-- where some names are known and some of them are components': a tag wants a component's name, and nothing else may use one
abbrev pub is_unknown : Table → List Ref → List Ref → Use → Bool
is_unknown names known imported u =
    if is_tag u.role then not (has u.name imported)
    else (if has u.name known then has u.name imported else is_unbound names u.role u.name)

-- at each name that no scope declares
abbrev pub unknown_names : Table → Scope → List Span
unknown_names names top = map (name_place names) (filter (is_unknown names (names_of top.declares) (components top.declares)) top.uses)

-- ---- an assignment to a constant

abbrev pub assigns : Form → Bool
assigns Read = false
assigns _ = true

abbrev pub is_constant : Binding → Bool
is_constant Const = true
is_constant Function = true
is_constant Import = true
is_constant Component = true
is_constant _ = false

abbrev pub constants : List Declared → List Ref
constants ds = names_of (filter (λ d. is_constant d.by) ds)

-- at each assignment to a constant of the scope
abbrev pub constant_assigns : Scope → List Span
constant_assigns s = map (λ u. u.span) (filter (λ u. assigns u.form && has u.name (constants s.declares)) s.uses)

-- ---- an assignment to a name that an arrow takes along

-- the names that stand free in arrows
abbrev pub captured : List Use → List Ref
captured uses = map (λ u. u.name) (filter (λ u. u.in_arrow) uses)

-- at each assignment to a name of the scope that stands free in an arrow in it
abbrev pub captured_assigns : Scope → List Span
captured_assigns s = map (λ u. u.span) (filter (λ u. assigns u.form && has u.name (names_of s.declares) && has u.name (captured s.uses)) s.uses)

-- ---- all of them

abbrev pub refused : CheckKind → List Span → List CheckRefusal
refused kind places = map (λ place. record { kind = kind; at = place }) places

abbrev pub all_scopes : FileScopes → List Scope
all_scopes f = f.inside ++ f.top ∷ []

-- the mistakes, by kind: an arrow takes names of inner scopes along, and reads those of the top level when it runs
abbrev pub mistakes : Table → FileScopes → List CheckRefusal
mistakes names f =
    refused DeclaredTwice (flat_map (declared_twice names) (all_scopes f)) ++ refused UnknownName (unknown_names names f.top)
    ++ refused AssignConst (flat_map constant_assigns (all_scopes f)) ++ refused CapturedAssign (flat_map captured_assigns f.inside)
