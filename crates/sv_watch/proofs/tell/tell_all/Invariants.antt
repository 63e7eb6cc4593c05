use Rattle.std.proofs.Common.{◌≤◌, ◌+◌, ◌-◌, map}
use Rattle.std.specs.Vec.{vec_len, vec_capacity}
use Rattle.sv_watch.specs.Ear.{ear_of}
use Rattle.sv_watch.proofs.Telling.{Begun}
use Rattle.sv_watch.proofs.tell.tell_all.Given as goal

abbrev pub invariant-loop-at : goal.invariant-loop-at
invariant-loop-at g l = record {
  begun : Begun l.change (map (ear_of g.W.Watcher) l.fn.list.items) (map (ear_of g.W.Watcher) l.list.items)
      (map (ear_of g.W.Watcher) l.fn.gone.items) (map (ear_of g.W.Watcher) l.gone.items) l.at;
  within : l.at ≤ vec_len l.list;
  room : vec_len l.gone + (vec_len l.list - l.at) ≤ vec_capacity l.gone;
}

abbrev pub decreases-loop-at : goal.decreases-loop-at
decreases-loop-at g l = vec_len l.list - l.at
