use Rattle.std.proofs.Common.{ap, map}
use Rattle.sv_select.proofs.Finding.{all_matches}
use Rattle.sv_select.specs.Seen.{seen}
use Rattle.sv_select.proofs.matching.matches.Goals as goal

pub returns : goal.returns
returns c =
    all_matches c.args.selector.now.links c.as_slice-links.result.now c.args.nodes.now _ c.as_slice.result.now (map seen c.new-found.result.items) (map seen c.push_matches.new.found.items)
    c.as_slice-links.ensures c.in_ok-reached.ensures c.as_slice.ensures.value (ap (map seen) c.new-found.ensures.items) c.in_ok-push_matches.ensures
