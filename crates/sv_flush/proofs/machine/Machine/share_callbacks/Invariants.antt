use Rattle.std.proofs.Common.{◌≡◌, take, map}
use Rattle.sv_value.specs.View.{view_of}
use Rattle.sv_flush.proofs.machine.Machine.share_callbacks.Given as goal

abbrev pub invariant-loop-callback : goal.invariant-loop-callback
invariant-loop-callback l = map view_of l.list.items ≡ map view_of (take l.callback-index l.callback-items)
