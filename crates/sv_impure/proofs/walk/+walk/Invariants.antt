use Rattle.std.proofs.Common.{◌≡◌, ◌++◌, map, drop}
use Rattle.std.specs.List.{flat_map}
use Rattle.sv_purity.specs.Pure.{each}
use Rattle.sv_purity.specs.Scopes.{visible}
use Rattle.sv_impure.specs.Impure as spec
use Rattle.sv_impure.proofs.walk.+walk.Given as goal

abbrev pub invariant-find_nodes-loop-node : goal.invariant-find_nodes-loop-node
invariant-find_nodes-loop-node l =
    l.fn.places ++ spec.nodes (map spec.node l.nodes) l.names (visible l.scope) ≡ l.places ++ spec.nodes (map spec.node (drop l.node-index l.nodes)) l.names (visible l.scope)

abbrev pub invariant-find_branches-loop-branch : goal.invariant-find_branches-loop-branch
invariant-find_branches-loop-branch l =
    l.fn.places ++ each (map spec.branch_places l.branches) l.names (visible l.scope) ≡ l.places ++ each (map spec.branch_places (drop l.branch-index l.branches)) l.names (visible l.scope)

abbrev pub invariant-find_content-loop-child : goal.invariant-find_content-loop-child
invariant-find_content-loop-child l =
    l.fn.places ++ flat_map (λ n. spec.node_in (visible l.scope) (visible l.inside) n l.names) (map spec.node l.children)
    ≡ l.places ++ flat_map (λ n. spec.node_in (visible l.scope) (visible l.inside) n l.names) (map spec.node (drop l.child-index l.children))
