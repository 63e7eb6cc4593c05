use Rattle.std.proofs.Common.{ap, Some}
use Rattle.sv_plan.proofs.lists.items_of.Goals as goal

pub returns-in-List : goal.returns-in-List
returns-in-List c = record { items = rw c.in-List.is (ap Some c.items.ensures.list); few = c.items.ensures.few }
