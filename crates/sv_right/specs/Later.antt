-- Two views of one instance, of which one is the later: nothing that is looked at goes back.
use Rattle.std.specs.Prelude.{◌≡◌, ◌≤◌, ◌⊎◌, ℕ, List, [], ◌∷◌, Option, Some, None}
use Rattle.sv_base.specs.declared.names.Name.{Name}
use Rattle.sv_local.specs.Versions.{AreVersions}
use Rattle.sv_places.specs.Any.{Any}
use Rattle.sv_right.specs.Claims.{Claim, OfTag}
use Rattle.sv_shapes.specs.Shapes.{place_in}
use Rattle.sv_value.specs.Value.{Val}
use Rattle.sv_view.specs.Level.{Level, View}
use Rattle.sv_view.specs.View.{version}
use Rattle.sv_view.specs.declared.view.At.TheVariants as at

-- the cell for the owner's view that an instance with a number has, if it has one
abbrev pub ViewCells : Type 0
ViewCells = ℕ → Option ℕ

-- equal versions mean equal values, and no version falls; and where the cell for the owner's view didn't move, the owners' levels are the same
pub record AreLater (views : ViewCells) (v v' : View) : Type 0 where
  pub versions : AreVersions v v'
  pub cells : (n : ℕ) → version v (at.Cell n) ≤ version v' (at.Cell n)
  pub locals : (x : Name) → version v (at.Local x) ≤ version v' (at.Local x)
  pub owners : (n : ℕ) → views v.own.inst ≡ Some n → version v (at.Cell n) ≡ version v' (at.Cell n) → v.owners ≡ v'.owners

-- so it is with the levels of owners, each with the constants of the module files of its view
abbrev pub AreOwnersLater : ViewCells → List (List (Option Val)) → List (List (Option Val)) → List Level → List Level → Type 0
AreOwnersLater views ms ms' [] [] = Unit {0}
AreOwnersLater views ms ms' [] (l' ∷ ls') = ⊥
AreOwnersLater views ms ms' (l ∷ ls) [] = ⊥
AreOwnersLater views ms ms' (l ∷ ls) (l' ∷ ls') =
    AreLater views (record { own = l; owners = ls; modules = ms }) (record { own = l'; owners = ls'; modules = ms' }) × AreOwnersLater views ms ms' ls ls'

-- one view is later at each level
pub record AreAllLater (views : ViewCells) (v v' : View) : Type 0 where
  pub own : AreLater views v v'
  pub owners : AreOwnersLater views v.modules v'.modules v.owners v'.owners

-- ---- component tags

-- at this place the tag of a claim stood, on a view of which this one is later
abbrev pub IsEarlier : ViewCells → View → ℕ → Claim → Type 0
IsEarlier views v place (OfTag tags tag old held) = (place_in held ≡ Some place) × AreAllLater views old v
IsEarlier views v place _ = ⊥

-- a place that is held of a tag is a new one, or the tag stood there on an earlier view
abbrev pub GoesOnAt : ViewCells → ℕ → List Claim → View → Option ℕ → Type 0
GoesOnAt views from olds v None = Unit {0}
GoesOnAt views from olds v (Some place) = (from ≤ place) ⊎ Any (IsEarlier views v place) olds

-- so it is of the tag of a claim, if it is of one
abbrev pub GoesOn : ViewCells → ℕ → List Claim → Claim → Type 0
GoesOn views from olds (OfTag tags tag v held) = GoesOnAt views from olds v (place_in held)
GoesOn views from olds _ = Unit {0}
