use Rattle.std.proofs.Common.{◌≡◌, take}
use Rattle.sv_plan.specs.Lists.{keys_of}
use Rattle.sv_plan.proofs.lists.keys_of.Given as goal

abbrev pub invariant-loop-entry : goal.invariant-loop-entry
invariant-loop-entry l = l.keys ≡ keys_of (take l.entry-index l.entries)
