use Rattle.std.proofs.Common.{◌≡◌, take, drop, ◌++◌}
use Rattle.sv_instance.specs.Subscriptions.{moved_to}
use Rattle.sv_instance.proofs.subscriptions.move_in.Given as goal

abbrev pub invariant-loop-index : goal.invariant-loop-index
invariant-loop-index l = l.list ≡ moved_to (take l.index l.initial.list) l.cell l.store ++ drop l.index l.initial.list
