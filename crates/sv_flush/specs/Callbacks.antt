-- Lifecycle callbacks (Svelte 4 docs, 'svelte').
use Rattle.std.specs.Prelude.{ℕ, Bool, true, false, List, [], Option, Some, None, slice_get}
use Rattle.sv_base.specs.declared.span.Span.{Span}
use Rattle.sv_code.specs.declared.program.Program.{Program}
use Rattle.sv_flush.specs.Outcome.{Task, scripted}
use Rattle.sv_flush.specs.Rounds.{has_run, with_ran}
use Rattle.sv_instance.specs.Callbacks.{callbacks_at, with_callback}
use Rattle.sv_instance.specs.declared.callbacks.When.{When}
use Rattle.sv_instance.specs.declared.callbacks.When.TheVariants.{Mount, After, Returned}
use Rattle.sv_instance.specs.declared.instance.Instance.{Instance}
use Rattle.sv_meaning.specs.Outcome.{Ends, Deed, then_do}
use Rattle.sv_meaning.specs.Runs.{called, each_in_turn}
use Rattle.sv_states.specs.States.{live}
use Rattle.sv_value.specs.Value.{Val, function}
use Rattle.sv_world.specs.Setup.{set_up}
use Rattle.sv_world.specs.declared.world.World.{World}

abbrev pub callbacks_in : Option Instance → When → List Val
callbacks_in None when = []
callbacks_in (Some i) when = callbacks_at i.setup.callbacks when

-- the callbacks of an instance, in the order in which they were given
abbrev pub callbacks_of : World → ℕ → When → List Val
callbacks_of w n when = callbacks_in (live w.states n) when

-- callbacks are functions, so that nobody is told of this place
abbrev pub nowhere : Span
nowhere = record { file = 0; from = 0; to = 0 }

-- a callback is called, and what it gives is let go
abbrev pub called_back : Program → Val → Deed (Unit {0})
called_back p v w = then_do (called p v [] nowhere w) (λ _. Ends tt)

-- those of an instance in their order
abbrev pub all_called_back : Program → ℕ → When → Deed (Unit {0})
all_called_back p n when w = each_in_turn (called_back p) (callbacks_of w n when) w

-- ---- onMount

abbrev pub with_return : ℕ → Val → World → World
with_return n v w = set_up (λ s. record s { callbacks = with_callback Returned v s.callbacks }) w n

-- a function that a mount callback gives is kept until its instance goes
abbrev pub returned : ℕ → Val → Deed (Unit {0})
returned n (function c o held) w = Ends tt (with_return n (function c o held) w)
returned n _ w = Ends tt w

abbrev pub mounted_by : Program → ℕ → Val → Deed (Unit {0})
mounted_by p n v w = then_do (called p v [] nowhere w) (returned n)

-- the mount callbacks of an instance
abbrev pub all_mounted : Program → ℕ → Deed (Unit {0})
all_mounted p n w = each_in_turn (mounted_by p n) (callbacks_of w n Mount) w

-- ---- afterUpdate

abbrev pub called_if : Program → Option Val → Deed (Unit {0})
called_if p None w = Ends tt w
called_if p (Some v) w = called_back p v w

abbrev pub unless : Bool → Deed (Unit {0}) → Deed (Unit {0})
unless true deed w = Ends tt w
unless false deed w = deed w

-- an afterUpdate callback of an instance by its place runs once in a flush
abbrev pub after : Program → ℕ → ℕ → Task
after p n at m =
    scripted (unless (has_run m.rounds n at) (λ w. called_if p (slice_get (callbacks_of w n After) at) w)) (record m { rounds = with_ran m.rounds n at })
