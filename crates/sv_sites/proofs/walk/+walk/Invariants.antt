use Rattle.std.proofs.Common.{◌≡◌, ◌++◌, map, drop}
use Rattle.sv_sites.specs.Hidden.{all_hidden}
use Rattle.sv_sites.specs.Sites.{nodes, node, each, branch_sites, content}
use Rattle.sv_sites.proofs.walk.+walk.Given as goal

abbrev pub invariant-find_nodes-loop-node : goal.invariant-find_nodes-loop-node
invariant-find_nodes-loop-node l =
    l.fn.sites ++ nodes (map node l.nodes) l.names (all_hidden l.hidden) ≡ l.sites ++ nodes (map node (drop l.node-index l.nodes)) l.names (all_hidden l.hidden)

abbrev pub invariant-find_branches-loop-branch : goal.invariant-find_branches-loop-branch
invariant-find_branches-loop-branch l =
    l.fn.sites ++ each (map branch_sites l.branches) l.names (all_hidden l.hidden)
    ≡ l.sites ++ each (map branch_sites (drop l.branch-index l.branches)) l.names (all_hidden l.hidden)

abbrev pub invariant-find_content-loop-child : goal.invariant-find_content-loop-child
invariant-find_content-loop-child l =
    l.fn.sites ++ content l.own (map node l.children) l.names (all_hidden l.hidden) ≡ l.sites ++ content l.own (map node (drop l.child-index l.children)) l.names (all_hidden l.hidden)
