use Rattle.std.proofs.Common.{◌≡◌, ◌++◌, map, drop}
use Rattle.std.specs.List.{flat_map}
use Rattle.sv_scopes.specs.Parts.{in_turn}
use Rattle.sv_scopes.specs.Markup as spec
use Rattle.sv_scopes.proofs.Leaving.{Leaves}
use Rattle.sv_scopes.proofs.markup.+markup.Given as goal

abbrev pub invariant-find_nodes-loop-node : goal.invariant-find_nodes-loop-node
invariant-find_nodes-loop-node l = Leaves l.fn.found l.found (spec.nodes (map spec.node l.nodes)) (spec.nodes (map spec.node (drop l.node-index l.nodes)))

abbrev pub invariant-find_branches-loop-branch : goal.invariant-find_branches-loop-branch
invariant-find_branches-loop-branch l = Leaves l.fn.found l.found (in_turn (map spec.branch_parts l.branches)) (in_turn (map spec.branch_parts (drop l.branch-index l.branches)))

abbrev pub invariant-find_children-loop-child : goal.invariant-find_children-loop-child
invariant-find_children-loop-child l = record {
  found : Leaves l.fn.found l.found (in_turn (map (spec.around_default l.fn.content.own) (map spec.node l.children))) (in_turn (map (spec.around_default l.fn.content.own) (map spec.node (drop l.child-index l.children))));
  declares : l.content.declares ≡ l.fn.content.declares;
  own : l.content.own ≡ l.fn.content.own;
  uses : l.fn.content.uses ++ flat_map spec.default_uses (map spec.node l.children) ≡ l.content.uses ++ flat_map spec.default_uses (map spec.node (drop l.child-index l.children));
}
