use Rattle.std.proofs.Common.{map, drop}
use Rattle.sv_watch.specs.Ear.{ear_of}
use Rattle.sv_watch.proofs.Parting.{Leads}
use Rattle.sv_watch.proofs.tell.tell_each.Given as goal

abbrev pub invariant-loop-change : goal.invariant-loop-change
invariant-loop-change g l =
    Leads l.changes (drop l.change-index l.changes) (map (ear_of g.W.Watcher) l.fn.list.items) (map (ear_of g.W.Watcher) l.list.items)
    (map (ear_of g.W.Watcher) l.fn.gone.items) (map (ear_of g.W.Watcher) l.gone.items)
