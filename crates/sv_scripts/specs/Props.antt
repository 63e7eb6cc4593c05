-- Props that are given, as definitions see them.
use Rattle.std.specs.Prelude.{ℕ}
use Rattle.sv_value.specs.Value.{Val}
use Rattle.sv_value.specs.View.{view_of}
use Rattle.sv_value.specs.declared.value.Value.{Value}

abbrev pub given_as : ℕ × Value → ℕ × Val
given_as p = (p.0, view_of p.1)
