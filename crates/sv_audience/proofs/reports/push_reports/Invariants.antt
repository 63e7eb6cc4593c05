use Rattle.std.proofs.Common.{◌≡◌}
use Rattle.sv_audience.proofs.Listing.{Listed}
use Rattle.sv_audience.proofs.reports.push_reports.Given as goal
use Rattle.sv_watch.specs.Ear.{ear_of}

abbrev pub invariant-loop-watcher : goal.invariant-loop-watcher
invariant-loop-watcher g l = record {
  number : l.number ≡ l.watcher-index;
  listed : Listed (ear_of g.W.Watcher) l.watchers l.watcher-index l.fn.text.items l.text.items;
}
