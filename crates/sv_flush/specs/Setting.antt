-- What is handed down to an instance: props, and the view of its owner.
use Rattle.std.specs.Prelude.{ℕ, Bool, false, ◌&&◌, List, Option, Some, None, if◌then◌else◌}
use Rattle.sv_code.specs.declared.program.Component.{Component}
use Rattle.sv_code.specs.declared.program.Program.{Program}
use Rattle.sv_flush.specs.Same.{same}
use Rattle.sv_meaning.specs.Components.{component_of}
use Rattle.sv_meaning.specs.Outcome.{Ends, Deed}
use Rattle.sv_meaning.specs.Refused.{unless}
use Rattle.sv_meaning.specs.Runs.{each_in_turn}
use Rattle.sv_parts.specs.declared.state.Given.{Given}
use Rattle.sv_states.specs.Assignment.{handed_down}
use Rattle.sv_states.specs.Change.{viewed}
use Rattle.sv_states.specs.Refusal.{hand_refusal}
use Rattle.sv_states.specs.States.{live, value_in}
use Rattle.sv_store.specs.Stores.{Subscriber}
use Rattle.sv_value.specs.Value.{Val}
use Rattle.sv_view.specs.Level.{View}
use Rattle.sv_world.specs.declared.world.World.{World}

abbrev pub same_there : Option Val → Val → Bool
same_there None v = false
same_there (Some u) v = same u v

-- a bound prop that has the value already isn't set
abbrev pub stays : World → ℕ → Given → Bool
stays w n g = g.bound && same_there (value_in (live w.states n) g.cell) g.value

-- the cell of a prop of an instance
abbrev pub prop_of : ℕ → Given → Subscriber
prop_of n g = record { inst = n; cell = g.cell }

-- another takes the value, unless something speaks against it, which is told at the attribute that passes it
abbrev pub handed : ℕ → Given → Deed (Unit {0})
handed n g w = unless (hand_refusal w.states (prop_of n g) g.value) g.span (λ w'. Ends tt (record w' { states = handed_down w'.states (prop_of n g) g.value })) w

abbrev pub prop_set : ℕ → Given → Deed (Unit {0})
prop_set n g w = if stays w n g then Ends tt w else handed n g w

-- the props are set in order
abbrev pub set : ℕ → List Given → Deed (Unit {0})
set n = each_in_turn (prop_set n)

abbrev pub lent_to : Option Component → ℕ → View → World → World
lent_to None n view w = w
lent_to (Some c) n view w = lent_at c.view where
  lent_at : Option ℕ → World
  lent_at None = w
  lent_at (Some cell) = record w { states = viewed w.states n cell view }

-- an instance gets its owner's view, where its component shows slots
abbrev pub lent : Program → ℕ → View → World → World
lent p n view w = lent_to (component_of p w n) n view w

abbrev pub lent_if : Program → ℕ → Option View → World → World
lent_if p n None w = w
lent_if p n (Some view) w = lent p n view w
