-- Whether two values are one tree.
use Rattle.std.specs.Prelude.{nat_eq, Bool, true, false, ◌&&◌}
use base.Stored.{Gv, gnil, gnum, gcons}
use Rattle.sv_value.specs.Stored.{val_code}
use Rattle.sv_value.specs.Value.{Val}

abbrev pub same_data : Gv → Gv → Bool
same_data gnil gnil = true
same_data (gnum m) (gnum n) = nat_eq m n
same_data (gcons a b) (gcons c d) = same_data a c && same_data b d
same_data _ _ = false

-- as plain data they are equal
unfoldable pub same : Val → Val → Bool
same u v = same_data (val_code.code u) (val_code.code v)
