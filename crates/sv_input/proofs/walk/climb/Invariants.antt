use Rattle.std.proofs.Common.{◌≡◌, drop, map}
use Rattle.sv_input.specs.Delivery.{seen}
use Rattle.sv_input.specs.Walk.{climbed}
use Rattle.sv_input.proofs.walk.climb.Given as goal

abbrev pub invariant-loop-element : goal.invariant-loop-element
invariant-loop-element l = climbed (seen l.delivery) (map (λ e. e.now) l.outer) l.fn.world ≡ climbed (seen l.delivery) (map (λ e. e.now) (drop l.element-index l.outer)) l.world
