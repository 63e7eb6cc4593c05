-- What is left with an instance.
use Rattle.std.specs.Prelude.{ℕ, [], false}
use Rattle.sv_view.specs.Constants.{no_constants}
use Rattle.sv_instance.specs.Callbacks.{no_callbacks}
use Rattle.sv_instance.specs.declared.setup.Setup.{Setup}

-- nothing yet, with so many constants
abbrev pub empty : ℕ → Setup
empty constants = record { constants = no_constants constants; contexts = []; callbacks = no_callbacks; bounds = []; locals = []; attached = false }
