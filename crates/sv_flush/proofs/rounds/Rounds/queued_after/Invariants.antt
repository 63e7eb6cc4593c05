use Rattle.std.proofs.Common.{◌≡◌, ◌++◌, drop, map}
use Rattle.std.specs.List.{filter_map}
use Rattle.sv_flush.specs.Rounds.{callback_of}
use Rattle.sv_flush.specs.Waits.{waiting_of}
use Rattle.sv_flush.proofs.rounds.Rounds.queued_after.Given as goal

abbrev pub invariant-loop-waiting : goal.invariant-loop-waiting
invariant-loop-waiting l =
    filter_map (callback_of l.self l.inst.number) (map waiting_of l.waiting-items)
    ≡ l.places.items ++ filter_map (callback_of l.self l.inst.number) (map waiting_of (drop l.waiting-index l.waiting-items))
