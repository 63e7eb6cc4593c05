use Rattle.std.proofs.Common.{◌≡◌, [], List, ℕ, length, get_or, sym, ◌∙◌, subst, arith, refl}
use Rattle.std.proofs.lemmas.List.{get_or_read, drop_more, drop_all}
use Rattle.sv_graph.specs.Groups.{IsFlooding}
use Rattle.sv_graph.proofs.Turning.{links_within}
use Rattle.sv_graph.proofs.Flooding.{flooding-take, take-less}
use Rattle.sv_graph.proofs.groups.take_all.Goals as goal

pub loop-other-init : goal.loop-other-init
loop-other-init c =
    let items = c.as_slice-other-items.ensures ∙ get_or_read c.args.links.now c.args.point c.index-links-point.result c.requires.within c.index-links-point.is [] in
    record {
      flooding = subst (IsFlooding c.args.links.now c.args.groups.now.items c.args.stack.now.items c.args.group c.args.point) (sym items) c.requires.flooding;
      own = c.requires.own;
      less = omega arith;
    }

pub take-requires : goal.take-requires
take-requires c =
    let is = subst (λ (z : List ℕ). z ≡ get_or c.args.links.now c.args.point z) (sym c.as_slice-other-items.ensures) c.index-links-point.is in
    links_within c.args.links.now c.args.point c.as_slice-other-items.result.now (length c.loop-other.groups.items) c.requires.whole c.requires.within is c.loop-other.invariant.flooding.size c.loop-other.other-index 0 c.loop-other-test.true

pub loop-other-preserved : goal.loop-other-preserved
loop-other-preserved c =
    let is = subst (λ (z : List ℕ). z ≡ get_or c.args.links.now c.args.point z) (sym c.as_slice-other-items.ensures) c.index-links-point.is in
    let inside = links_within c.args.links.now c.args.point c.as_slice-other-items.result.now (length c.args.links.now) c.requires.whole c.requires.within is refl c.loop-other.other-index 0 c.loop-other-test.true in
    let here = links_within c.args.links.now c.args.point c.as_slice-other-items.result.now (length c.loop-other.groups.items) c.requires.whole c.requires.within is c.loop-other.invariant.flooding.size c.loop-other.other-index 0 c.loop-other-test.true in
    let rest = drop_more c.as_slice-other-items.result.now c.loop-other.other-index 0 c.loop-other-test.true in
    let f = subst (IsFlooding c.args.links.now c.loop-other.groups.items c.loop-other.stack.items c.args.group c.args.point) rest c.loop-other.invariant.flooding in
    let taken = flooding-take c.args.links.now c.loop-other.groups.items c.take.new.groups.items c.loop-other.stack.items c.take.new.stack.items c.args.group c.args.point (get_or c.as_slice-other-items.result.now c.loop-other.other-index 0)
    _ _ c.requires.small c.loop-other.invariant.own inside f refl c.in_ok-take.ensures in
    record {
      flooding = taken.0;
      own = taken.1;
      less = omega (arith, c.loop-other.invariant.less, take-less c.loop-other.groups.items c.take.new.groups.items c.loop-other.stack.items c.take.new.stack.items c.args.group (get_or c.as_slice-other-items.result.now c.loop-other.other-index 0) _ c.requires.small here refl c.in_ok-take.ensures);
    }

pub returns : goal.returns
returns c = record {
  flooding = subst (IsFlooding c.args.links.now c.loop-other.groups.items c.loop-other.stack.items c.args.group c.args.point) (drop_all c.loop-other.other-index c.as_slice-other-items.result.now c.loop-other-test.false) c.loop-other.invariant.flooding;
  less = c.loop-other.invariant.less;
}
