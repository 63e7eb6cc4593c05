use Rattle.std.proofs.Common.{◌≡◌, drop}
use Rattle.sv_input.specs.Delivery.{seen}
use Rattle.sv_input.specs.Walk.{element_told}
use Rattle.sv_input.proofs.walk.tell_all.Given as goal

abbrev pub invariant-loop-listener : goal.invariant-loop-listener
invariant-loop-listener l = element_told (seen l.delivery) l.here l.listeners l.fn.world ≡ element_told (seen l.delivery) l.here (drop l.listener-index l.listeners) l.world
