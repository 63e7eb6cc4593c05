-- The views that component tags lend to their children: what effects say of them, and where a child may stay with the view that it was lent.
use Rattle.std.specs.Prelude.{◌≡◌, ◌⊎◌, ℕ, false, List, ◌++◌, Some, None, slice_get}
use Rattle.sv_places.specs.Any.{Any}
use Rattle.sv_code.specs.Names.{Each}
use Rattle.sv_code.specs.declared.program.Program.{Program}
use Rattle.sv_code.specs.declared.tags.Tag.{Tag}
use Rattle.sv_meaning.specs.Components.{component_at}
use Rattle.sv_parts.specs.Sides.{moved}
use Rattle.sv_parts.specs.Tags.{shows_content}
use Rattle.sv_parts.specs.declared.state.Effect.{Effect}
use Rattle.sv_parts.specs.declared.state.Effect.TheVariants.{Create, Set, Destroy}
use Rattle.sv_parts.specs.declared.state.Kept.{Kept}
use Rattle.sv_parts.specs.declared.state.State.{State}
use Rattle.sv_stands.specs.Holds.{Hold}
use Rattle.sv_view.specs.Level.{View}

-- a child of the hold's tag is made at its place, on its view
abbrev pub Makes : Hold → Effect → Type 0
Makes h (Create place tag props view) = (place ≡ h.place) × (tag ≡ h.tag) × (view ≡ h.view)
Makes h _ = ⊥

-- the child at the hold's place is lent its view
abbrev pub Lends : Hold → Effect → Type 0
Lends h (Set place props view) = (place ≡ h.place) × (view ≡ Some h.view)
Lends h _ = ⊥

-- the hold's place stays, with the row locals and slot props of its view
abbrev pub Keeps : Hold → Kept → Type 0
Keeps h k = (k.place ≡ h.place) × (k.locals ≡ h.view.own.locals)

-- ---- holds that there are

-- the child of a tag may stay with an older view: its component shows no content, or nothing that the tag looks at moved
pub record StaysLent (p : Program) (k : ℕ) (old new : View) : Type 0 where
  pub tag : Tag
  pub is_tag : slice_get p.tags k ≡ Some tag
  pub stays : (shows_content (component_at p tag.file) ≡ false) ⊎ (moved tag.reads (record { old = old; new = new }) ≡ false)

-- a hold that there was goes on in one that there is, at the same place, which stays: the child there is lent the new view, or may stay with the old one
pub record GoesOn (p : Program) (effects : List Effect) (kept : List Kept) (new old : Hold) : Type 0 where
  pub place : old.place ≡ new.place
  pub tag : old.tag ≡ new.tag
  pub tags : old.tags ≡ new.tags
  pub stays : Any (Keeps new) kept
  pub lent : Any (Lends new) effects ⊎ StaysLent p new.tag old.view new.view

-- the child of a hold is made, or the hold goes on from one that there was
abbrev pub IsLent : Program → List Effect → List Kept → List Hold → Hold → Type 0
IsLent p effects kept olds h = Any (Makes h) effects ⊎ Any (GoesOn p effects kept h) olds

-- the child of a hold is made
abbrev pub IsMade : List Effect → Hold → Type 0
IsMade effects h = Any (Makes h) effects

-- ---- effects, and places that stay

-- where an effect makes a child, or lends a view to one, it does so for a hold that there is
abbrev pub IsFor : List Hold → Effect → Type 0
IsFor news (Create place tag props view) = Any (λ h. Makes h (Create place tag props view)) news
IsFor news (Set place props None) = Unit {0}
IsFor news (Set place props (Some view)) = Any (λ h. Lends h (Set place props (Some view))) news
IsFor news (Destroy place) = Unit {0}

-- a place that stays is that of a hold that there is
abbrev pub IsKept : List Hold → Kept → Type 0
IsKept news k = Any (λ h. Keeps h k) news

-- ---- plans

-- some holds were there, and some are there now: the child of each has its view, and no other is made or is lent one
pub record AreLent (p : Program) (effects : List Effect) (kept : List Kept) (olds news : List Hold) : Type 0 where
  pub lent : Each (IsLent p effects kept olds) news
  pub effects_for : Each (IsFor news) effects
  pub kept_for : Each (IsKept news) kept

-- the same of what a plan adds
pub record PlanLends (p : Program) (olds news : List Hold) (s s' : State) : Type 0 where
  pub effects : List Effect
  pub kept : List Kept
  pub effects_are : s'.effects ≡ s.effects ++ effects
  pub kept_are : s'.kept ≡ s.kept ++ kept
  pub all : AreLent p effects kept olds news

-- where no hold was there, the child of each is made
pub record AreMade (effects : List Effect) (news : List Hold) : Type 0 where
  pub made : Each (IsMade effects) news
  pub effects_for : Each (IsFor news) effects

-- the same of what a plan adds
pub record PlanMakes (news : List Hold) (s s' : State) : Type 0 where
  pub effects : List Effect
  pub effects_are : s'.effects ≡ s.effects ++ effects
  pub all : AreMade effects news
