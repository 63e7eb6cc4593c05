use Rattle.std.proofs.Common.{subst}
use Rattle.sv_graph.specs.Links.{IsLink}
use Rattle.sv_graph.specs.Cycle.{IsFirstCycle}
use Rattle.sv_graph.proofs.Cycling.{cyclic-turned, first-turned}
use Rattle.sv_graph.proofs.outcome.visit.Goals as goal

pub first_cycle-requires-clause-cyclic : goal.first_cycle-requires-clause-cyclic
first_cycle-requires-clause-cyclic c = cyclic-turned c.args.links.now c.in_ok-turned.turned.items c.deref-then-walk-2.result.now c.deref-then-walk-2.ensures.value c.in_ok-turned.ensures.turned (c.in_ok-walk.ensures.cyclic c.if-walk.true)

pub returns-then-walk : goal.returns-then-walk
returns-then-walk c =
    first-turned c.args.links.now c.in_ok-turned.turned.items c.in_ok-first_cycle.field-0.items c.in_ok-turned.ensures.turned
    (subst (λ z. IsFirstCycle (IsLink z) c.in_ok-first_cycle.field-0.items) c.deref-then-walk-2.ensures.value c.in_ok-first_cycle.ensures)
