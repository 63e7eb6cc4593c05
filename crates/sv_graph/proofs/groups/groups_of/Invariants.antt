use Rattle.sv_graph.specs.Groups.{IsFlooded}
use Rattle.sv_graph.proofs.groups.groups_of.Given as goal

abbrev pub invariant-loop-group : goal.invariant-loop-group
invariant-loop-group l = IsFlooded l.links l.groups.items l.group
