-- What sessions answer and are.
use Rattle.std.specs.Prelude.{◌≡◌, Bool, Option, Some, None, Result, Ok, Err, count_by, is_some, if◌then◌else◌}
use Rattle.sv_code.specs.declared.program.Program.{Program}
use Rattle.sv_document.specs.Numbers.{Numbers}
use Rattle.sv_events.specs.declared.event.Event.{Event}
use Rattle.sv_flush.specs.Outcome.{Outcome, Done, Halted}
use Rattle.sv_flush.specs.declared.page.Page.{Page}
use Rattle.sv_page.specs.Turns.{first_turn, next_turn, nodes_of}
use Rattle.sv_session.specs.declared.session.Session.{Session}
use Rattle.sv_session.specs.declared.stage.Stage.{Stage}
use Rattle.sv_session.specs.declared.stage.Stage.TheVariants.{New, Running, Stopped}
use Rattle.sv_session.specs.declared.stage.TurnError.{TurnError}
use Rattle.sv_session.specs.declared.stage.TurnError.TheVariants as error
use Rattle.sv_session.specs.declared.stage.Turned.{Turned}
use Rattle.sv_store.specs.Stores.{subscription_count}

abbrev pub program_of : Session → Program
program_of s = s.machine.program.now

-- the nodes of a session are those of its page
pub record IsShown (s : Session) : Type 0 where
  pub shown : s.nodes ≡ nodes_of (program_of s) s.page
  pub running : s.stage ≡ Running

-- what is told of a turn that left this page
abbrev pub told : Bool → Page → Turned
told target m =
    record { target = target; evaluations = m.tally.count; instances = count_by is_some m.world.states.lives; subscriptions = subscription_count m.world.states.stores }

-- the numbers that are printed, where they are asked for
abbrev pub shown_numbers : Bool → Numbers → Option Numbers
shown_numbers asked numbers = if asked then Some numbers else None

-- the page is what a turn made of it, and it is shown; after a refusal it is as it was left, and the session is stopped
abbrev pub PlaysBody : Result Turned TurnError → Session → Outcome Bool → Type 0
PlaysBody (Ok turned) s o = (o ≡ Done turned.target s.page) × ((turned ≡ told turned.target s.page) × IsShown s)
PlaysBody (Err (error.Refused r)) s o = (o ≡ Halted r s.page) × (s.stage ≡ Stopped)
PlaysBody (Err error.Stopped) s o = ⊥
PlaysBody (Err error.NoMemory) s o = s.stage ≡ Stopped

-- the program and the numbers stay as they are
pub record Keeps (old new : Session) : Type 0 where
  pub machine : new.machine ≡ old.machine
  pub numbers : new.numbers ≡ old.numbers

pub record Plays (result : Result Turned TurnError) (old new : Session) (o : Outcome Bool) : Type 0 where
  pub plays : PlaysBody result new o
  pub keeps : Keeps old new

-- the page is mounted where nothing is on it yet
abbrev pub MountsAt : Stage → Result Turned TurnError → Session → Session → Type 0
MountsAt New result old new = Plays result old new (first_turn (program_of old) old.page)
MountsAt Running result old new = (result ≡ Err error.Stopped) × (new ≡ old)
MountsAt Stopped result old new = (result ≡ Err error.Stopped) × (new ≡ old)

abbrev pub Mounts : Result Turned TurnError → Session → Session → Type 0
Mounts result old new = MountsAt old.stage result old new

-- a turn is played where the page is running
abbrev pub TurnsAt : Stage → Result Turned TurnError → Session → Session → Event → Type 0
TurnsAt Running result old new event = Plays result old new (next_turn (program_of old) event old.nodes old.page)
TurnsAt New result old new event = (result ≡ Err error.Stopped) × (new ≡ old)
TurnsAt Stopped result old new event = (result ≡ Err error.Stopped) × (new ≡ old)

abbrev pub Turns : Result Turned TurnError → Session → Session → Event → Type 0
Turns result old new event = TurnsAt old.stage result old new event
