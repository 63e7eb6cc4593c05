-- What a page is drawn from.
use Rattle.std.specs.Prelude.{ℕ, List, [], Option}
use Rattle.std.specs.Option.{option_map_or}
use Rattle.sv_code.specs.declared.fragments.Frag.{Frag}
use Rattle.sv_code.specs.declared.program.Program.{Program}
use Rattle.sv_fresh.specs.declared.scene.Scene as handed
use Rattle.sv_fresh.specs.declared.source.Source.{Source}
use Rattle.sv_meaning.specs.Components.{component_of, markup_of}
use Rattle.sv_shapes.specs.Showing.{Showing, shown_of}
use Rattle.sv_shapes.specs.declared.shape.Shape.{Shape}
use Rattle.sv_world.specs.declared.world.World.{World}

-- from where what is shown is taken, a program, the present states, what is recorded as shown, and the number of the instance in whose shape is
-- drawn
pub record Page : Type 0 where
  pub source : Source
  pub program : Program
  pub world : World
  pub showing : Showing
  pub inst : ℕ

-- the same, where is drawn in the shape of an instance with a number
abbrev pub within : Page → ℕ → Page
within page n = record page { inst = n }

-- the numbers of the tags with which the instances of a view stand in their owners' markup, its own first
abbrev pub Tags : Type 0
Tags = List (Option ℕ)

-- a page, how deep components may still stand, and the tags of the present view
pub record Scene : Type 0 where
  pub page : Page
  pub room : ℕ
  pub tags : Tags

-- the scene that code is handed
abbrev pub seen : handed.Scene → Scene
seen s = record { page = record { source = s.source; program = s.program.now; world = s.world.now; showing = s.showing.now; inst = s.inst.number }; room = s.room; tags = s.tags.now }

-- ---- instances

-- the markup of a live instance's component
unfoldable pub markup_at : Page → ℕ → List Frag
markup_at page n = markup_of (component_of page.program page.world n)

-- what is recorded as shown of an instance
unfoldable pub parts_at : Page → ℕ → List Shape
parts_at page n = option_map_or (λ x. x.parts) (shown_of page.showing n) []
