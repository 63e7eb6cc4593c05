-- Bound props by the numbers of their owners.
use Rattle.std.specs.Prelude.{List, map}
use Rattle.sv_instance.specs.Bound as seen
use Rattle.sv_instance.specs.declared.bounds.Bound.{Bound}

abbrev pub bound_of : Bound → seen.Bound
bound_of b = record { cell = b.cell; owner = b.owner.number; target = b.target }

abbrev pub bounds_of : List Bound → List seen.Bound
bounds_of bounds = map bound_of bounds
