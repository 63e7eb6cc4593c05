use Rattle.std.proofs.Common.{◌≡◌, [], map, drop}
use Rattle.sv_value.specs.View.{view_of}
use Rattle.sv_meaning.specs.Values.{captured_after}
use Rattle.sv_meaning.proofs.literals.capture.Given as goal

abbrev pub invariant-loop-name : goal.invariant-loop-name
invariant-loop-name l = captured_after [] l.names l.locals ≡ captured_after (map view_of l.held.items) (drop l.name-index l.names) l.locals
