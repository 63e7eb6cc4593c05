-- Names, each once.
use Rattle.std.specs.Prelude.{Bool, false, ◌==◌, List, [], ◌∷◌, ◌++◌, if◌then◌else◌}
use Rattle.std.specs.List.{list_any}
use Rattle.sv_ast.specs.declared.names.Ref.{Ref}
use Rattle.sv_ast.specs.declared.names.Ref.TheVariants.{Plain, Store}

-- whether two names are one: `x` and the store `$x` differ
abbrev pub same_ref : Ref → Ref → Bool
same_ref (Plain a) (Plain b) = a.0 == b.0
same_ref (Store a) (Store b) = a.0 == b.0
same_ref _ _ = false

-- whether a name is in a list
abbrev pub has : Ref → List Ref → Bool
has name names = list_any (same_ref name) names

-- the list with a name at its end, if it isn't there
abbrev pub with_name : List Ref → Ref → List Ref
with_name names name = if has name names then names else names ++ name ∷ []

-- the list with each of some names in turn
abbrev pub with_names : List Ref → List Ref → List Ref
with_names names [] = names
with_names names (name ∷ more) = with_names (with_name names name) more

-- each name once, by first appearance
abbrev pub firsts : List Ref → List Ref
firsts names = with_names [] names
