-- Which instance is whose owner: the one in whose markup its tag stands.
use Rattle.std.specs.Prelude.{◌≡◌, ℕ, List, [], ◌∷◌, Option, Some, None, option_map, slice_get}
use Rattle.sv_code.specs.Content.{of_frags, SeesView}
use Rattle.sv_code.specs.Names.{Each}
use Rattle.sv_code.specs.declared.program.Program.{Program}
use Rattle.sv_code.specs.declared.tags.Tag.{Tag}
use Rattle.sv_course.specs.Watched.{view_cells}
use Rattle.sv_family.specs.Kin.{Kin, Kins, IsBelow}
use Rattle.sv_instance.specs.Standing.{Standing}
use Rattle.sv_numbered.specs.Numbered.{at}
use Rattle.sv_stands.specs.Standing.{content_in}

-- the instance in whose markup the tag of an instance stands
abbrev pub owner_of : Option Kin → Option ℕ
owner_of None = None
owner_of (Some k) = option_map (λ s. s.owner) k.place.standing

abbrev pub owner_at : Kins → ℕ → Option ℕ
owner_at ks n = owner_of (at ks n)

-- the first of some instances, if there is one, is the owner
abbrev pub IsOwnedBy : Kins → ℕ → List ℕ → Type 0
IsOwnedBy ks n [] = Unit {0}
IsOwnedBy ks n (o ∷ list) = owner_at ks n ≡ Some o

-- each of some instances is the owner of the one before it
abbrev pub IsChain : Kins → List ℕ → Type 0
IsChain ks [] = Unit {0}
IsChain ks (n ∷ list) = IsOwnedBy ks n list × IsChain ks list

-- an instance that stands at a tag is below its owner, its component is the tag's file, and each `<slot>` in the tag's content looks at the owner's own cell
-- for the view that it was lent
pub record StandsAt (p : Program) (ks : Kins) (n : ℕ) (kin : Kin) (st : Standing) : Type 0 where
  pub above : IsBelow ks st.owner n
  pub file : (t : Tag) → slice_get p.tags st.tag ≡ Some t → kin.place.component ≡ t.file
  pub sees : (depth : ℕ) → Each (SeesView p.tags (view_cells p ks st.owner) depth) (of_frags (content_in p st.tag) [])

abbrev pub AreStanding : Program → Kins → Type 0
AreStanding p ks = (n : ℕ) (kin : Kin) (st : Standing) → at ks n ≡ Some kin → kin.place.standing ≡ Some st → StandsAt p ks n kin st
