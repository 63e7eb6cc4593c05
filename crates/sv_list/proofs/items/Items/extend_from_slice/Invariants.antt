use Rattle.std.proofs.Common.{◌≡◌, ◌++◌, take}
use Rattle.sv_list.proofs.items.Items.extend_from_slice.Given as goal

abbrev pub invariant-loop-item : goal.invariant-loop-item
invariant-loop-item g l = l.self ≡ l.initial.self ++ take l.item-index l.items
