use Rattle.std.proofs.Common.{◌≡◌, map, option_map}
use Rattle.sv_value.specs.View.{view_of}
use Rattle.sv_view.specs.Constants.{no_constants}
use Rattle.sv_view.proofs.constants.Constants.new.Given as goal

abbrev pub invariant-loop-number : goal.invariant-loop-number
invariant-loop-number l = map (option_map view_of) l.values.items ≡ no_constants l._number
