-- What the states are once a borrow of what was left with an instance ends.
use Rattle.std.specs.Prelude.{ℕ, Option}
use Rattle.std.specs.Borrow.{LendsIf, Fml, MutBor}
use Rattle.sv_instance.specs.contracts.setup.Setup as setup
use Rattle.sv_instance.specs.declared.setup.Setup.{Setup}
use Rattle.sv_states.specs.States.{States}
use Rattle.sv_states.specs.Change.{with_setup}
use Rattle.sv_states.specs.contracts.states.States.{the_row}

-- once the borrow ends, the instance has the last setup written through it, and at `None` nothing changed
abbrev pub lends_setup : MutBor States → ℕ → Option (MutBor Setup) → Fml
lends_setup s n r = LendsIf the_row setup.the_row s r (λ w. with_setup s.now n w) s.now
