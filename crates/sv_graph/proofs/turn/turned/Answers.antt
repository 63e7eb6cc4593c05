use Rattle.std.proofs.Common.{length, ap, subst, sym, ◌∙◌, ◌≡◌, List, ℕ, get_or, arith}
use Rattle.std.proofs.lemmas.List.{length-replicate}
use Rattle.sv_graph.proofs.Turning.{links_within, turned-none, turned-more, turned-all}
use Rattle.sv_graph.proofs.turn.turned.Goals as goal

pub add_links-requires : goal.add_links-requires
add_links-requires c =
    let is = subst (λ (z : List ℕ). z ≡ get_or c.args.links.now c.loop-point.point z) (sym c.as_slice.ensures) c.index-links-point.is in
    links_within c.args.links.now c.loop-point.point c.as_slice.result.now (length c.loop-point.turned.items) c.requires.whole c.loop-point-test.true is c.loop-point.invariant.size

pub loop-point-init : goal.loop-point-init
loop-point-init c = record {
  size = ap length c.in_ok-turned.ensures ∙ length-replicate (length c.args.links.now) _;
  turned = turned-none (length c.args.links.now) c.in_ok-turned.turned.items c.in_ok-turned.ensures;
}

pub loop-point-preserved : goal.loop-point-preserved
loop-point-preserved c =
    let is = subst (λ (z : List ℕ). z ≡ get_or c.args.links.now c.loop-point.point z) (sym c.as_slice.ensures) c.index-links-point.is in
    record {
      size = c.add_links.ensures.size ∙ c.loop-point.invariant.size;
      turned = turned-more c.args.links.now c.loop-point.turned.items c.add_links.new.links.items c.loop-point.point c.as_slice.result.now c.loop-point-test.true (sym is) c.loop-point.invariant.turned c.in_ok-add_links.ensures.links;
    }

pub returns : goal.returns
returns c = record {
  size = c.loop-point.invariant.size;
  turned = turned-all c.args.links.now c.loop-point.turned.items c.loop-point.point (omega (arith, c.loop-point-test.false)) c.loop-point.invariant.turned;
}
