use Rattle.std.proofs.Common.{map}
use Rattle.sv_select.proofs.Finding.{found_element, on_ok}
use Rattle.sv_select.specs.Seen.{seen}
use Rattle.sv_select.proofs.matching.+search.Goals as goal

pub push_from-returns-in_ok-push_own-in-Element : goal.push_from-returns-in_ok-push_own-in-Element
push_from-returns-in_ok-push_own-in-Element t c =
    on_ok c.push_matches.result _ _ c.push_matches.ensures
    (λ more. found_element c.args.links.now c.args.reached.now _ c.as_slice.result.now c.args.node.now c.in-Element.element c.in-Element.children c.as_slice-children.result.now _
    (map seen c.args.found.now.items) (map seen c.push_own.new.found.items) (map seen c.push_matches.new.found.items)
    c.in-Element.is c.as_slice-children.ensures c.in_ok-inside-in-Element.ensures.reached c.as_slice.ensures.value c.in_ok-inside-in-Element.ensures.is_match
    c.in_ok-push_own-in-Element.ensures more)
