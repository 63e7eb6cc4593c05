use Rattle.std.proofs.Common.{◌≡◌, drop}
use Rattle.sv_meaning.specs.Runs.{each_in_turn, name_subscribed}
use Rattle.sv_scripts.proofs.components.subscribe_names.Given as goal

abbrev pub invariant-loop-store : goal.invariant-loop-store
invariant-loop-store l = each_in_turn (name_subscribed l.inst.number) l.stores l.fn.world ≡ each_in_turn (name_subscribed l.inst.number) (drop l.store-index l.stores) l.world
