-- What is found in a part of a file, and how a scope closes: a name that it declares is its own in the whole of it, and hides
-- the same name of the scopes around (ECMA-262, 9.1 and 14.2).
use Rattle.std.specs.Prelude.{◌≡◌, Bool, true, false, not, ◌&&◌, ◌||◌, List, [], ◌∷◌, ◌++◌, Option, None, Some, map, filter}
use Rattle.sv_ast.specs.declared.names.Ref.{Ref}
use Rattle.sv_ast.specs.declared.names.Ref.TheVariants.{Plain}
use Rattle.sv_names.specs.Distinct.{has}
use Rattle.sv_scopes.specs.declared.scope.Declared.{Declared}
use Rattle.sv_scopes.specs.declared.scope.Role.{Role}
use Rattle.sv_scopes.specs.declared.scope.Role.TheVariants.{Tag}
use Rattle.sv_scopes.specs.declared.scope.Scope.{Scope}
use Rattle.sv_scopes.specs.declared.scope.Use.{Use}

-- what a part declares in the scope round it, what is used there that no scope inside declares, and the scopes inside
pub record Parts : Type 0 where
  pub declares : List Declared
  pub uses : List Use
  pub scopes : List Scope

-- one behind the other
abbrev pub followed : Parts → Parts → Parts
followed first second = record { declares = first.declares ++ second.declares; uses = first.uses ++ second.uses; scopes = first.scopes ++ second.scopes }

-- what there was, and behind it what was found
pub record Finds (old new found : Parts) : Type 0 where
  pub declares : new.declares ≡ old.declares ++ found.declares
  pub uses : new.uses ≡ old.uses ++ found.uses
  pub scopes : new.scopes ≡ old.scopes ++ found.scopes

abbrev pub nothing : Parts
nothing = record { declares = []; uses = []; scopes = [] }

abbrev pub in_turn : List Parts → Parts
in_turn [] = nothing
in_turn (p ∷ ps) = followed p (in_turn ps)

abbrev pub optional : Option Parts → Parts
optional None = nothing
optional (Some p) = p

abbrev pub using_name : Use → Parts
using_name u = record { declares = []; uses = u ∷ []; scopes = [] }

abbrev pub declaring : List Declared → Parts
declaring ds = record { declares = ds; uses = []; scopes = [] }

-- ---- scopes

abbrev pub is_tag : Role → Bool
is_tag Tag = true
is_tag _ = false

-- the names that a scope declares, as they are used. A store name `$x` is none of them
abbrev pub names_of : List Declared → List Ref
names_of ds = map (λ d. Plain d.name) ds

-- whether a use is of one of some names. The name of a component's tag is of none
abbrev pub is_of : List Ref → Use → Bool
is_of names u = not (is_tag u.role) && has u.name names

-- the uses of other names
abbrev pub free : List Ref → List Use → List Use
free names uses = filter (λ u. not (is_of names u)) uses

-- a use, as it is seen from around the scope that it stands in, which an arrow may make
abbrev pub seen : Bool → Use → Use
seen is_arrow u = record u { in_arrow = is_arrow || u.in_arrow }

-- what is used in a scope of some names, as it is seen from around
abbrev pub handed : Bool → List Ref → List Use → List Use
handed is_arrow names uses = map (seen is_arrow) (free names uses)

abbrev pub made : Parts → Scope
made p = record { declares = p.declares; uses = p.uses }

-- a scope round some parts, which an arrow may make
unfoldable pub closed : Bool → Parts → Parts
closed is_arrow p = record { declares = []; uses = handed is_arrow (names_of p.declares) p.uses; scopes = p.scopes ++ made p ∷ [] }

abbrev pub scope : Parts → Parts
scope p = closed false p

abbrev pub arrow : Parts → Parts
arrow p = closed true p
