-- The elements that have no children and no end tag (HTML, 'Void elements').
use Rattle.std.specs.Prelude.{ℕ, Bool, List, [], ◌∷◌, codes}
use Rattle.std.specs.List.{list_any}
use Rattle.std.specs.Str.{bytes_eq}

abbrev pub void_names : List (List ℕ)
void_names =
    codes "area" ∷ codes "base" ∷ codes "br" ∷ codes "col" ∷ codes "command" ∷ codes "embed" ∷ codes "hr" ∷ codes "img" ∷
    codes "input" ∷ codes "keygen" ∷ codes "link" ∷ codes "meta" ∷ codes "param" ∷ codes "source" ∷ codes "track" ∷ codes "wbr" ∷ []

unfoldable pub is_void : List ℕ → Bool
is_void name = list_any (λ void. bytes_eq void name) void_names
