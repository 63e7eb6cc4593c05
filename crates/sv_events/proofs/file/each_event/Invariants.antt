use Rattle.std.proofs.Common.{◌≡◌, map}
use Rattle.serde_json.specs.View.{view}
use Rattle.sv_events.specs.EventsFile.{behind, each_event}
use Rattle.sv_events.proofs.Telling.{left}
use Rattle.sv_events.proofs.file.each_event.Given as goal

abbrev pub invariant-loop-at : goal.invariant-loop-at
invariant-loop-at l = each_event l.version 0 (map view l.values) ≡ behind l.events.items (left l.version l.values l.at)
