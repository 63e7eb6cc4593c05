use Rattle.std.proofs.Common.{◌≡◌, ◌++◌, [], false, map, drop}
use Rattle.sv_sites.specs.Sites.{node, contents}
use Rattle.sv_sites.proofs.content.add_contents.Given as goal

abbrev pub invariant-loop-child : goal.invariant-loop-child
invariant-loop-child l =
    l.fn.sites ++ contents l.of false [] (map (λ n. n.child) (map node l.children))
    ≡ l.sites ++ contents l.of l.begun l.given (map (λ n. n.child) (map node (drop l.child-index l.children)))
