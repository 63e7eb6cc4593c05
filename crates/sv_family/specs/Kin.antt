-- Of each live instance where it stands, how many cells it has, and the view that it was lent.
use Rattle.std.specs.Prelude.{◌≡◌, ℕ, nat_lt, Bool, false, List, ◌∷◌, length, map, Option, Some, None, option_map}
use Rattle.sv_code.specs.declared.program.Component.{Component}
use Rattle.sv_code.specs.declared.program.Program.{Program}
use Rattle.sv_instance.specs.Standing.{Place}
use Rattle.sv_instance.specs.declared.instance.Instance.{Instance}
use Rattle.sv_meaning.specs.Components.{component_at}
use Rattle.sv_numbered.specs.Numbered.{at}
use Rattle.sv_states.specs.States.{States}
use Rattle.sv_view.specs.Level.{View}
use Rattle.sv_view.specs.View.{insts, levels_of}

pub record Kin : Type 0 where
  pub place : Place
  pub cells : ℕ
  pub lent : Option View

abbrev pub kin_of : Instance → Kin
kin_of i = record { place = i.place; cells = length i.cells.now; lent = i.owner_view }

-- by number
abbrev pub Kins : Type 0
Kins = List (Option Kin)

-- those of the live instances
abbrev pub kins : States → Kins
kins s = map (option_map kin_of) s.lives

-- ---- tags

abbrev pub tag_of : Option Kin → Option ℕ
tag_of None = None
tag_of (Some k) = option_map (λ s. s.tag) k.place.standing

-- the tag at which an instance stands
abbrev pub tag_at : Kins → ℕ → Option ℕ
tag_at ks n = tag_of (at ks n)

-- the tags of the levels of a view
abbrev pub tags_in : Kins → View → List (Option ℕ)
tags_in ks v = map (tag_at ks) (insts v)

-- the instances on the levels of the present view of an instance, and their tags
abbrev pub insts_now : ℕ → Kin → List ℕ
insts_now n k = n ∷ map (λ l. l.inst) (levels_of k.lent)

abbrev pub tags_now : Kins → ℕ → Kin → List (Option ℕ)
tags_now ks n k = map (tag_at ks) (insts_now n k)

-- ---- parents

abbrev pub parent_of : Option Kin → Option ℕ
parent_of None = None
parent_of (Some k) = k.place.parent

abbrev pub parent_at : Kins → ℕ → Option ℕ
parent_at ks n = parent_of (at ks n)

abbrev pub depth_of : Option Kin → ℕ
depth_of None = 0
depth_of (Some k) = k.place.depth

abbrev pub depth_at : Kins → ℕ → ℕ
depth_at ks n = depth_of (at ks n)

-- an instance is below another one: its parent is that one, or is below it
pub data IsBelow (ks : Kins) (o : ℕ) : ℕ → Type 0 where
  child : (n : ℕ) → parent_at ks n ≡ Some o → IsBelow ks o n
  further : (n q : ℕ) → parent_at ks n ≡ Some q → IsBelow ks o q → IsBelow ks o n

-- ---- views that are lent

abbrev pub is_cell_in : ℕ → Option ℕ → Bool
is_cell_in cells None = false
is_cell_in cells (Some c) = nat_lt c cells

abbrev pub takes_view : Option Component → ℕ → Bool
takes_view None cells = false
takes_view (Some c) cells = is_cell_in cells c.view

-- whether an instance has a cell for its owner's view
abbrev pub is_lent : Program → Kin → Bool
is_lent p k = takes_view (component_at p k.place.component) k.cells

abbrev pub with_lent : View → Kin → Kin
with_lent view k = record k { lent = Some view }
