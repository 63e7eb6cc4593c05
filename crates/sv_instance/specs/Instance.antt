-- Instances as contracts see them.
use Rattle.std.specs.Prelude.{ℕ, [], None, false}
use Rattle.sv_instance.specs.Standing.{Place}
use Rattle.sv_instance.specs.Cells.{undeclared}
use Rattle.sv_instance.specs.Setup.{empty}
use Rattle.sv_instance.specs.declared.instance.Instance.{Instance}

-- an instance whose script hasn't run
abbrev pub born : Place → ℕ → ℕ → Instance
born place cells constants = record { place = place; cells = undeclared cells; owner_view = None; subscriptions = []; setup = empty constants; queued = false }
