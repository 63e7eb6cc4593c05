-- Uses of other names than some.
use Rattle.std.proofs.Common.{◌≡◌, Bool, cond, List, [], ◌∷◌, map, refl, ap, ◌∙◌}
use Rattle.std.specs.Prelude.{not, ◌&&◌}
use Rattle.sv_ast.specs.declared.names.Ref.{Ref}
use Rattle.sv_names.specs.Distinct.{has, firsts}
use Rattle.sv_names.proofs.Same.{has-firsts}
use Rattle.sv_scopes.specs.declared.scope.Use.{Use}
use Rattle.sv_scopes.specs.Parts.{is_tag, free, seen, handed}

pub free_firsts : (names : List Ref) (uses : List Use) → free (firsts names) uses ≡ free names uses
free_firsts names [] = refl
free_firsts names (u ∷ uses) =
    ap (λ b. cond (not (not (is_tag u.role) && b)) (u ∷ free (firsts names) uses) (free (firsts names) uses)) (has-firsts u.name names)
    ∙ ap (λ rest. cond (not (not (is_tag u.role) && has u.name names)) (u ∷ rest) rest) (free_firsts names uses)

-- each once, names are hidden as they are
pub handed_firsts : (is_arrow : Bool) (names : List Ref) (uses : List Use) → handed is_arrow (firsts names) uses ≡ handed is_arrow names uses
handed_firsts is_arrow names uses = ap (map (seen is_arrow)) (free_firsts names uses)
