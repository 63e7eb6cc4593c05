-- What scripts and tags leave with instances.
use Rattle.std.specs.Prelude.{ℕ, Option, Some, None, slice_get}
use Rattle.sv_value.specs.Value.{Val}
use Rattle.sv_view.specs.Constants.{constant_at}
use Rattle.sv_instance.specs.Callbacks.{callbacks_at}
use Rattle.sv_instance.specs.declared.callbacks.When.{When}
use Rattle.sv_instance.specs.declared.instance.Instance.{Instance}
use Rattle.sv_instance.specs.declared.setup.Setup.{Setup}
use Rattle.sv_states.specs.States.{with_instance}
use Rattle.sv_world.specs.declared.world.World.{World}

-- what is left with an instance changed, where it is live
abbrev pub set_up : (Setup → Setup) → World → ℕ → World
set_up f w n = record w { states = with_instance (λ i. record i { setup = f i.setup }) w.states n }

abbrev pub callback_in : Option Instance → When → ℕ → Option Val
callback_in None when at = None
callback_in (Some i) when at = slice_get (callbacks_at i.setup.callbacks when) at

abbrev pub constant_in : Option Instance → ℕ → Option Val
constant_in None n = None
constant_in (Some i) n = constant_at i.setup.constants n
