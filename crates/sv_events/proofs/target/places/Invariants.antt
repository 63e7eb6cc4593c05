use Rattle.std.proofs.Common.{◌≡◌, map}
use Rattle.serde_json.specs.View.{view}
use Rattle.sv_events.specs.Target.{places}
use Rattle.sv_events.proofs.Places.{placed, left}
use Rattle.sv_events.proofs.target.places.Given as goal

abbrev pub invariant-loop-value : goal.invariant-loop-value
invariant-loop-value l = places (map view l.values) ≡ placed l.path (left l.values l.value-index)
