-- Where instances stand, by number, which tells their components and their tags.
use Rattle.std.proofs.Common.{◌≡◌, ℕ, ◌<◌, ◌≤◌, List, [], ◌∷◌, ◌++◌, length, map, Option, Some, None, option_map, refl, ap, ◌∙◌, arith, inl, inr}
use Rattle.std.proofs.lemmas.List.{get_or_append_left}
use Rattle.sv_code.specs.declared.program.Component.{Component}
use Rattle.sv_code.specs.declared.program.Program.{Program}
use Rattle.sv_flush.proofs.Tracking.{picture_at}
use Rattle.sv_flush.specs.Lent.{StandsIn}
use Rattle.sv_flush.specs.Showing.{own_tag, tags_of}
use Rattle.sv_frame.proofs.Altering.{Plain, pictures}
use Rattle.sv_instance.specs.Standing.{Place}
use Rattle.sv_instance.specs.declared.instance.Instance.{Instance}
use Rattle.sv_meaning.specs.Components.{component_at, component_for, component_of}
use Rattle.sv_numbered.specs.Numbered.{at}
use Rattle.sv_states.specs.States.{States, live}
use Rattle.sv_view.specs.Cell.{Cell}
use Rattle.sv_view.specs.Level.{Level, View}
use Rattle.sv_view.specs.View.{levels, insts}
use Rattle.sv_world.specs.declared.world.World.{World}

-- where an instance stands
abbrev pub place_of : Instance → Place
place_of i = i.place

-- the place of an instance stays, whatever else becomes of it
pub plain_place : Plain place_of
plain_place = record { setup = λ i u e. refl; waits = λ i. refl; subscribed = λ i x. refl; written = λ i c x. refl }

-- the places of the live instances, by number
abbrev pub spots : States → List (Option Place)
spots s = pictures place_of s

-- ---- tags and components

-- the number of the tag with which an instance stands in its owner's markup
abbrev pub tag_in : Option Place → Option ℕ
tag_in None = None
tag_in (Some place) = option_map (λ s. s.tag) place.standing

-- the tags of the levels of a view
abbrev pub tags_at : List (Option Place) → View → List (Option ℕ)
tags_at known v = map (λ n. tag_in (at known n)) (insts v)

-- the component of an instance
abbrev pub component_in : Program → Option Place → Option Component
component_in p None = None
component_in p (Some place) = component_at p place.component

tag-is : (s : States) (n : ℕ) → tag_in (at (spots s) n) ≡ own_tag (live s n)
tag-is s n = ap tag_in (picture_at place_of s n (live s n) refl) ∙ own (live s n) where
  own : (o : Option Instance) → tag_in (option_map place_of o) ≡ own_tag o
  own None = refl
  own (Some i) = refl

pub tags-are : (w : World) (v : View) → tags_at (spots w.states) v ≡ tags_of w v
tags-are w v = by (insts v) where
  by : (ns : List ℕ) → map (λ n. tag_in (at (spots w.states) n)) ns ≡ map (λ n. own_tag (live w.states n)) ns
  by [] = refl
  by (n ∷ ns) = ap (λ t. t ∷ map (λ n. tag_in (at (spots w.states) n)) ns) (tag-is w.states n) ∙ ap (λ ts. own_tag (live w.states n) ∷ ts) (by ns)

pub component-is : (p : Program) (w : World) (n : ℕ) → component_in p (at (spots w.states) n) ≡ component_of p w n
component-is p w n = ap (component_in p) (picture_at place_of w.states n (live w.states n) refl) ∙ own (live w.states n) where
  own : (o : Option Instance) → component_in p (option_map place_of o) ≡ component_for p o
  own None = refl
  own (Some i) = refl

-- ---- one more instance

-- levels are of instances that were made, which are so many
abbrev pub AllMade : ℕ → List Level → Type 0
AllMade made ls = (n : ℕ) (cells : List Cell) → StandsIn ls n cells → n < made

-- so are those of a view
abbrev pub AreMade : ℕ → View → Type 0
AreMade made v = AllMade made (levels v)

pub made-more : (made more : ℕ) (v : View) → made ≤ more → AreMade made v → AreMade more v
made-more made more v up h = λ n cells s. let below = h n cells s in omega (arith, below, up)

-- their tags are the same beside one more
pub tags-grown : (known : List (Option Place)) (x : Option Place) (v : View) → AreMade (length known) v → tags_at (known ++ x ∷ []) v ≡ tags_at known v
tags-grown known x v h = by (levels v) h where
  by : (ls : List Level) → AllMade (length known) ls → map (λ n. tag_in (at (known ++ x ∷ []) n)) (map (λ l. l.inst) ls) ≡ map (λ n. tag_in (at known n)) (map (λ l. l.inst) ls)
  by [] h = refl
  by (l ∷ ls) h =
      ap (λ o. tag_in o ∷ map (λ n. tag_in (at (known ++ x ∷ []) n)) (map (λ l. l.inst) ls)) (get_or_append_left known (x ∷ []) None l.inst (h l.inst l.cells (inl (refl, refl))))
      ∙ ap (λ ts. tag_in (at known l.inst) ∷ ts) (by ls (λ n cells s. h n cells (inr s)))
