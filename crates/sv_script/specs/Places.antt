-- Where a statement stands.
use Rattle.std.specs.Prelude.{true, false}
use Rattle.sv_script.specs.declared.place.Place.{Place}

-- at the top of a file
abbrev pub top : Place
top = record { in_loop = false; in_function = false }

-- in the body of a function or an arrow
abbrev pub in_function : Place
in_function = record { in_loop = false; in_function = true }

-- in the body of a loop that stands there
abbrev pub looped : Place → Place
looped place = record { in_loop = true; in_function = place.in_function }
