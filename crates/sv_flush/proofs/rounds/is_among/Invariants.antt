use Rattle.std.proofs.Common.{◌≡◌, drop, map}
use Rattle.std.specs.List.{list_any}
use Rattle.sv_flush.specs.Rounds.{same_ran}
use Rattle.sv_flush.specs.Waits.{ran_of}
use Rattle.sv_flush.proofs.rounds.is_among.Given as goal

abbrev pub invariant-loop-other : goal.invariant-loop-other
invariant-loop-other l = list_any (same_ran l.number l.at) (map ran_of l.ran) ≡ list_any (same_ran l.number l.at) (map ran_of (drop l.other-index l.ran))
