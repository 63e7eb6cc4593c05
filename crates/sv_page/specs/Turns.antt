-- Turns: what becomes of a page as it is mounted, and with each event.
use Rattle.std.specs.Prelude.{Bool, true, false, List}
use Rattle.sv_code.specs.declared.program.Program.{Program}
use Rattle.sv_document.specs.declared.tree.Node.{Node}
use Rattle.sv_events.specs.declared.event.Event.{Event}
use Rattle.sv_flush.specs.Creation.{mounted}
use Rattle.sv_flush.specs.Flush.{flushed}
use Rattle.sv_flush.specs.Outcome.{Done, Step, and_then, ended}
use Rattle.sv_flush.specs.Page.{begun}
use Rattle.sv_flush.specs.declared.page.Page.{Page}
use Rattle.sv_fresh.specs.Fresh.{fresh}
use Rattle.sv_input.specs.Named.{named}
use Rattle.sv_input.specs.Typed.{laid_down}
use Rattle.sv_input.specs.Walk.{dispatched}

-- the nodes that a page shows
abbrev pub nodes_of : Program → Page → List Node
nodes_of p m = fresh p m.world m.showing

-- a flush follows where there was an element for the event
abbrev pub settled : Program → Bool → Step Bool
settled p false m = Done false m
settled p true m = and_then (flushed p m) (λ _. Done true)

-- the first turn: the page is mounted and flushed; it counts as one with an element for its event
unfoldable pub first_turn : Program → Step Bool
first_turn p m = and_then (mounted p (begun m)) (λ _. settled p true)

-- what an event does to a page that shows these nodes: its element takes what a user left in it, and directives run
abbrev pub delivered : Program → Event → List Node → Step Bool
delivered p event nodes m =
    ended (record m { showing = laid_down (named event.target nodes) event m.showing }) (dispatched p event (named event.target nodes) m.world)

-- the turn of an event
unfoldable pub next_turn : Program → Event → List Node → Step Bool
next_turn p event nodes m = and_then (delivered p event nodes (begun m)) (settled p)
