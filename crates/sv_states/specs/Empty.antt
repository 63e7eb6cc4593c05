-- Where everything begins.
use Rattle.std.specs.Prelude.{[], ◌∷◌, None}
use Rattle.sv_states.specs.States.{States}

-- no instances and no stores; number 0 is nobody's
abbrev pub no_states : States
no_states = record { lives = None ∷ []; stores = []; derived = []; queue = [] }
