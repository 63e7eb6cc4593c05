use Rattle.std.proofs.Common.{◌≡◌, ◌<◌, List, ℕ, [], true, length, get_or, sym, ◌∙◌, subst, arith}
use Rattle.std.specs.Prelude.{◌==◌}
use Rattle.std.specs.List.{list_any}
use Rattle.std.proofs.lemmas.Bool.{or_from}
use Rattle.std.proofs.lemmas.List.{get_or_read}
use Rattle.std.proofs.lemmas.List.Folds.{list_any_at, list_any_more}
use Rattle.sv_graph.specs.Groups.{group_at}
use Rattle.sv_graph.proofs.Turning.{links_within}
use Rattle.sv_graph.proofs.Flooding.{same-group, other-group}
use Rattle.sv_graph.proofs.groups.stays.Goals as goal

pub bounds-groups-other : goal.bounds-groups-other
bounds-groups-other c =
    let is = subst (λ (z : List ℕ). z ≡ get_or c.args.links.now c.args.point z) (sym c.as_slice-other-items.ensures) c.index-links-point.is in
    links_within c.args.links.now c.args.point c.as_slice-other-items.result.now (length c.args.groups.now) c.requires.whole c.requires.within is c.requires.size c.loop-other.other-index 0 c.loop-other-test.true

pub returns-then-groups-other : goal.returns-then-groups-other
returns-then-groups-other c =
    let is = subst (λ (z : List ℕ). z ≡ get_or c.args.links.now c.args.point z) (sym c.as_slice-other-items.ensures) c.index-links-point.is in
    let there = links_within c.args.links.now c.args.point c.as_slice-other-items.result.now (length c.args.groups.now) c.requires.whole c.requires.within is c.requires.size c.loop-other.other-index 0 c.loop-other-test.true in
    let here : c.args.point < length c.args.groups.now = omega (arith, c.requires.within, c.requires.size) in
    let same = same-group c.args.groups.now c.args.point (get_or c.as_slice-other-items.result.now c.loop-other.other-index 0) here there c.if-groups-other.true in
    let items = get_or_read c.args.links.now c.args.point c.as_slice-other-items.result.now c.requires.within is [] in
    sym (subst (λ (z : List ℕ). list_any (λ q. group_at c.args.groups.now q == group_at c.args.groups.now c.args.point) z ≡ true) items
    (list_any_at (λ q. group_at c.args.groups.now q == group_at c.args.groups.now c.args.point) c.as_slice-other-items.result.now c.loop-other.other-index 0 c.loop-other-test.true same))

pub loop-other-preserved : goal.loop-other-preserved
loop-other-preserved c =
    let is = subst (λ (z : List ℕ). z ≡ get_or c.args.links.now c.args.point z) (sym c.as_slice-other-items.ensures) c.index-links-point.is in
    let there = links_within c.args.links.now c.args.point c.as_slice-other-items.result.now (length c.args.groups.now) c.requires.whole c.requires.within is c.requires.size c.loop-other.other-index 0 c.loop-other-test.true in
    let here : c.args.point < length c.args.groups.now = omega (arith, c.requires.within, c.requires.size) in
    let differs = other-group c.args.groups.now c.args.point (get_or c.as_slice-other-items.result.now c.loop-other.other-index 0) here there c.if-groups-other.false in
    list_any_more (λ q. group_at c.args.groups.now q == group_at c.args.groups.now c.args.point) c.as_slice-other-items.result.now c.loop-other.other-index 0 c.loop-other-test.true ∙ or_from _ _ c.loop-other.invariant differs
