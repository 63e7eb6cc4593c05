-- Names that stand once.
use Rattle.std.specs.Prelude.{Bool, false, ◌==◌, List, [], ◌∷◌, ◌++◌}
use Rattle.std.specs.List.{list_any}
use Rattle.sv_tags.specs.declared.taken.Key.{Key}
use Rattle.sv_tags.specs.declared.taken.Key.TheVariants.{Attribute, Class, Let}

-- an attribute, a class and a name that a slot gives are three things
abbrev pub same_key : Key → Key → Bool
same_key (Attribute a) (Attribute b) = a.0 == b.0
same_key (Class a) (Class b) = a.0 == b.0
same_key (Let a) (Let b) = a.0 == b.0
same_key _ _ = false

-- whether a name is there
abbrev pub has : Key → List Key → Bool
has key keys = list_any (same_key key) keys

-- the names with one more
abbrev pub with_key : List Key → Key → List Key
with_key keys key = keys ++ key ∷ []
