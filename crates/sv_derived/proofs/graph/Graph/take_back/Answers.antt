use Rattle.std.proofs.Common.{subst}
use Rattle.std.specs.Option.{option_to_list}
use Rattle.sv_derived.specs.Order.{IsOrdered}
use Rattle.sv_derived.proofs.Ordering.{ordered-front}
use Rattle.sv_derived.proofs.graph.Graph.take_back.Goals as goal

pub invariant_of-self : goal.invariant_of-self
invariant_of-self c = ordered-front c.pop-last.new.self.items (option_to_list c.pop-last.result) (subst IsOrdered c.pop-last.ensures.items c.self.invariant)
