-- Runs: a page from its mounting through its events.
use Rattle.std.specs.Prelude.{Bool, List, [], ◌∷◌}
use Rattle.sv_code.specs.declared.program.Program.{Program}
use Rattle.sv_events.specs.declared.event.Event.{Event}
use Rattle.sv_flush.specs.Outcome.{Outcome, Done, Halted}
use Rattle.sv_flush.specs.Page.{blank}
use Rattle.sv_flush.specs.declared.page.Page.{Page}
use Rattle.sv_page.specs.Turns.{first_turn, next_turn, nodes_of}

-- a turn, and those that follow it on the page that it left; none follows a refusal
abbrev pub followed : Outcome Bool → (Page → List (Outcome Bool)) → List (Outcome Bool)
followed (Done target m) more = Done target m ∷ more m
followed (Halted r m) more = Halted r m ∷ []

-- the turns of these events on a page
abbrev pub turns : Program → List Event → Page → List (Outcome Bool)
turns p [] m = []
turns p (event ∷ events) m = followed (next_turn p event (nodes_of p m) m) (turns p events)

-- a run: the page is mounted, and then each event comes in turn, up to the first refusal
unfoldable pub run : Program → List Event → List (Outcome Bool)
run p events = followed (first_turn p blank) (turns p events)
