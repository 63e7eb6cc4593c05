-- The component tags of which something is claimed are those that stand beside shapes.
use Rattle.std.specs.Prelude.{◌≡◌, ℕ, List, Option, None, option_map}
use Rattle.std.specs.List.{filter_map}
use Rattle.sv_code.specs.declared.fragments.Frag.{Frag}
use Rattle.sv_code.specs.declared.program.Program.{Program}
use Rattle.sv_places.specs.Fits.{Fits}
use Rattle.sv_right.specs.Claims.{Claim, OfTag, claims}
use Rattle.sv_shapes.specs.Shapes.{place_in}
use Rattle.sv_shapes.specs.declared.shape.Shape.{Shape}
use Rattle.sv_stands.specs.Holds.{Hold, holds}
use Rattle.sv_view.specs.Level.{View}

-- the place at which a tag stands of which something is claimed, if a place is held of it
abbrev pub hold_of : Claim → Option Hold
hold_of (OfTag tags tag v held) = option_map (λ place. record { place = place; tag = tag; tags = tags; view = v }) (place_in held)
hold_of _ = None

-- beside shapes that fit, the tags of which something is claimed, with a place, are those that stand there, in the same order
abbrev pub HoldsAreClaimed : Type 0
HoldsAreClaimed = (p : Program) (tags : List (Option ℕ)) (frags : List Frag) (v : View) (shapes : List Shape) → Fits p tags frags shapes →
    filter_map hold_of (claims p tags frags v shapes) ≡ holds p tags frags v shapes
