-- Pages that events led to.
use Rattle.std.specs.Prelude.{◌≡◌, Bool, List, [], ◌∷◌}
use Rattle.sv_code.specs.declared.program.Program.{Program}
use Rattle.sv_events.specs.declared.event.Event.{Event}
use Rattle.sv_flush.specs.Outcome.{Outcome, Done, Halted}
use Rattle.sv_flush.specs.Page.{blank}
use Rattle.sv_flush.specs.declared.page.Page.{Page}
use Rattle.sv_page.specs.Turns.{first_turn, next_turn, nodes_of}

-- the last turn of some, the first of which left this, where none follows a refusal
abbrev pub last_turn : Program → Outcome Bool → List Event → Outcome Bool
last_turn p o [] = o
last_turn p (Done target m) (event ∷ events) = last_turn p (next_turn p event (nodes_of p m) m) events
last_turn p (Halted r m) (event ∷ events) = Halted r m

-- a page that was mounted, and to which some events came
pub record IsReached (p : Program) (m : Page) : Type 0 where
  pub events : List Event
  pub target : Bool
  pub left : last_turn p (first_turn p blank) events ≡ Done target m
