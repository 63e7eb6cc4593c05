-- What is shown of the instances of a page, by their numbers, and the child that stands at each place.
use Rattle.std.specs.Prelude.{ℕ, List, [], Option, Some, None}
use Rattle.std.specs.BTreeMap.{insert_entry, is_at}
use Rattle.std.specs.Map.{lookup, remove_entry}
use Rattle.std.specs.Option.{option_map_or}
use Rattle.std.specs.Ordering.{nat_cmp}
use Rattle.sv_shapes.specs.Places.{places_all}
use Rattle.sv_shapes.specs.Typed.{laid_all}
use Rattle.sv_shapes.specs.declared.shape.Shape.{Shape}
use Rattle.sv_shapes.specs.declared.shown.Shown.{Shown}
use Rattle.sv_tokens.specs.declared.element.Typed.{Typed}
use Rattle.sv_view.specs.Level.{View}

-- by ascending number of the instance what is shown of it, and by ascending number of the place the number of the child there
pub record Showing : Type 0 where
  pub shown : List (ℕ × Shown)
  pub children : List (ℕ × ℕ)

-- nothing is shown
abbrev pub nothing : Showing
nothing = record { shown = []; children = [] }

-- what is shown of an instance, if anything is
abbrev pub shown_of : Showing → ℕ → Option Shown
shown_of s n = lookup (is_at (nat_cmp n)) s.shown

-- an instance is shown on a view
abbrev pub recorded : Showing → ℕ → View → List Shape → Showing
recorded s n view parts = record s { shown = insert_entry nat_cmp s.shown n (record { view = view; parts = parts }) }

-- an instance is shown no more
abbrev pub removed : Showing → ℕ → Showing
removed s n = record s { shown = remove_entry (is_at (nat_cmp n)) s.shown }

-- a user left a state in the element with a mark
abbrev pub laid_in : Showing → ℕ → ℕ → Typed → Option Shown → Showing
laid_in s n mark typed None = s
laid_in s n mark typed (Some x) = recorded s n x.view (laid_all mark typed x.parts)

abbrev pub laid_on : Showing → ℕ → ℕ → Typed → Showing
laid_on s n mark typed = laid_in s n mark typed (shown_of s n)

-- the places of component tags in what is shown of an instance
abbrev pub places_of : Showing → ℕ → List ℕ
places_of s n = option_map_or (λ x. places_all x.parts) (shown_of s n) []

-- the number of the child at a place, if there is one
abbrev pub child_at : Showing → ℕ → Option ℕ
child_at s place = lookup (is_at (nat_cmp place)) s.children

abbrev pub with_child : Showing → ℕ → ℕ → Showing
with_child s place n = record s { children = insert_entry nat_cmp s.children place n }

abbrev pub without_child : Showing → ℕ → Showing
without_child s place = record s { children = remove_entry (is_at (nat_cmp place)) s.children }
