use Rattle.std.proofs.Common.{◌++◌, rules, ap, sym, ◌∙◌, arith}
use Rattle.sv_live.specs.Known.{number}
use Rattle.sv_live.specs.Shown.{name_of, plainly_all, flat_all}
use Rattle.sv_live.proofs.Stands.{Becomes-refl, Becomes-then, Stands-then}
use Rattle.sv_live.proofs.Plain.{flat-more, flat-whole}
use Rattle.sv_live.proofs.Kept.{places-none, places-then, kept-all}
use Rattle.sv_commit.proofs.Placing.{shown-alone, put-element, one-Text, one-Element, one-Hole, one-Block, el-opens, el-below, el-inside, el-whole}
use Rattle.sv_commit.proofs.Results.{on_ok}
use Rattle.sv_commit.proofs.Keeping.{places-Element, sole-asked}
use Rattle.sv_commit.proofs.arrange.+commit.Goals as goal

pub commit-place_all-requires : goal.commit-place_all-requires
commit-place_all-requires t c = (search rules, Stands-then c.args.screen.now c.begin.new.screen (name_of c.args.spot.above) c.args.spot.end c.args.lives _ c.requires c.in_ok-walk.ensures.becomes)

pub commit-returns-clause-shown : goal.commit-returns-clause-shown
commit-returns-clause-shown t c =
    ap plainly_all (c.into_placed.ensures ∙ c.in_ok-clear.ensures.placed)
    ∙ shown-alone (plainly_all c.place_all.new.walk.placed) (flat_all c.args.nodes.now) c.in_ok-walk.walk.placed c.in_ok-place_all.ensures.shown c.in_ok-walk.ensures.placed

pub commit-returns-clause-kept : goal.commit-returns-clause-kept
commit-returns-clause-kept t c =
    kept-all c.args.screen.now.page.next c.begin.new.screen.page.next c.args.lives c.into_placed.result c.in_ok-walk.walk c.place_all.new.walk c.in_ok-walk.ensures.becomes.later c.in_ok-walk.ensures.placed (sym (c.into_placed.ensures ∙ c.in_ok-clear.ensures.placed))
    (λ l sole. c.in_ok-walk.ensures.known (number l) (sole-asked l c.into_placed.result (flat_all c.args.nodes.now) sole (commit-returns-clause-shown t c))) c.in_ok-place_all.ensures.keeps

pub place_all-loop-i-init : goal.place_all-loop-i-init
place_all-loop-i-init t c = record {
  becomes = Becomes-refl c.args.screen.now (name_of c.args.spot.above) c.args.spot.end (c.args.walk.now.rest ++ c.args.walk.now.placed);
  shown = flat-whole c.args.nodes.now (plainly_all c.args.walk.now.placed);
  keeps = places-none c.args.screen.now.page.next c.args.walk.now;
  within = omega arith;
}

pub place_all-loop-i-preserved : goal.place_all-loop-i-preserved
place_all-loop-i-preserved t c = record {
  becomes = Becomes-then c.args.screen.now c.loop-i.screen c.place_one.new.screen (name_of c.args.spot.above) c.args.spot.end _ _ _ c.loop-i.invariant.becomes c.in_ok-place_one.ensures.becomes;
  shown =
      flat-more c.args.nodes.now c.loop-i.i c.index-nodes-i.result _ (plainly_all c.args.walk.now.placed) _ c.loop-i-test.true (let w = c.loop-i.invariant.within in let p = c.loop-i-test.true in omega (arith, w, p)) c.index-nodes-i.is
      c.loop-i.invariant.shown c.in_ok-place_one.ensures.shown;
  keeps = places-then c.args.screen.now.page.next c.loop-i.screen.page.next c.args.walk.now c.loop-i.walk c.place_one.new.walk c.loop-i.invariant.becomes.later c.loop-i.invariant.keeps c.in_ok-place_one.ensures.keeps;
  within = (let w = c.loop-i.invariant.within in omega (arith, w));
}

pub place_element-dress-requires-clause-stands : goal.place_element-dress-requires-clause-stands
place_element-dress-requires-clause-stands t c =
    let s = c.in_ok-standing.standing in
    el-opens c.args.screen.now c.stand_element.new.screen (name_of c.args.spot.above) c.args.spot.end _ c.stand_element.new.walk.rest c.stand_element.new.walk.placed s.named s.own s.parts c.requires c.in_ok-standing.ensures.stands c.has_keys.ensures

pub place_element-dress-requires-clause-below : goal.place_element-dress-requires-clause-below
place_element-dress-requires-clause-below t c =
    let s = c.in_ok-standing.standing in
    el-below c.args.screen.now c.stand_element.new.screen (name_of c.args.spot.above) c.args.spot.end _ c.stand_element.new.walk.rest c.stand_element.new.walk.placed s.named s.own s.parts c.requires c.in_ok-standing.ensures.stands c.has_keys.ensures

pub place_element-commit-requires : goal.place_element-commit-requires
place_element-commit-requires t c =
    let s = c.in_ok-standing.standing in
    let stands =
    el-inside c.args.screen.now c.stand_element.new.screen (name_of c.args.spot.above) c.args.spot.end _ c.stand_element.new.walk.rest c.stand_element.new.walk.placed s.named s.own s.parts c.requires c.in_ok-standing.ensures.stands c.dress.new.screen
    c.args.own.now (sym c.in_ok-standing.ensures.name) c.in_ok-dress.ensures c.has_keys-2.ensures in
    (search rules, stands)

pub place_element-returns-clause-becomes : goal.place_element-returns-clause-becomes
place_element-returns-clause-becomes t c = on_ok c.put.result c.put.ensures.placed (λ e.
    let s = c.in_ok-standing.standing in
    el-whole c.args.screen.now c.stand_element.new.screen (name_of c.args.spot.above) c.args.spot.end _ c.stand_element.new.walk.rest c.stand_element.new.walk.placed s.named s.own s.parts c.requires c.in_ok-standing.ensures.stands c.dress.new.screen
    c.commit.new.screen c.args.own.now c.in_ok-own.own c.in_ok-parts.parts c.put.new.self.rest c.put.new.self.placed (sym c.in_ok-standing.ensures.name) c.in_ok-dress.ensures c.in_ok-parts.ensures.becomes c.in_ok-own.ensures c.put.ensures.rest e)

pub place_element-returns-clause-shown : goal.place_element-returns-clause-shown
place_element-returns-clause-shown t c = on_ok c.put.result c.put.ensures.placed (λ e.
    put-element c.put.new.self.placed c.in_ok-standing.standing.named c.in_ok-own.own c.args.own.now c.in_ok-parts.parts _ c.args.walk.now.placed c.args.nodes.now e c.in_ok-own.ensures c.in_ok-parts.ensures.shown c.in_ok-standing.ensures.placed)

pub place_element-returns-clause-keeps : goal.place_element-returns-clause-keeps
place_element-returns-clause-keeps t c = on_ok c.put.result c.put.ensures.placed (λ e.
    let s = c.in_ok-standing in
    let a = s.ensures.stands.later in
    let b = c.in_ok-dress.ensures.later in
    places-Element c.args.screen.now.page.next c.dress.new.screen.page.next c.args.walk.now c.stand_element.new.walk c.put.new.self s.standing.named c.in_ok-own.own c.args.own.now s.standing.parts c.in_ok-parts.parts (omega (arith, a, b)) c.in_ok-own.ensures
    e c.put.ensures.rest s.ensures.placed s.ensures.others s.ensures.named s.ensures.inside c.in_ok-parts.ensures.kept)

pub place_one-returns-in-Text-clause-shown : goal.place_one-returns-in-Text-clause-shown
place_one-returns-in-Text-clause-shown t c = on_ok c.place_text.result c.place_text.ensures.shown (λ e. one-Text c.args.node.now c.in-Text.mark c.in-Text.text _ _ c.in-Text.is e)

pub place_one-returns-in-Element-clause-shown : goal.place_one-returns-in-Element-clause-shown
place_one-returns-in-Element-clause-shown t c = on_ok c.place_element.result c.place_element.ensures.shown (λ e. one-Element c.args.node.now c.in-Element.own c.in-Element.parts _ _ _ c.in-Element.is c.as_slice.ensures e)

pub place_one-returns-in-Block-clause-shown : goal.place_one-returns-in-Block-clause-shown
place_one-returns-in-Block-clause-shown t c = on_ok c.place_all.result c.place_all.ensures.shown (λ e. one-Block c.args.node.now c.in-Block.parts _ _ _ c.in-Block.is c.as_slice-in-Block.ensures e)

pub place_one-returns-in-Hole-clause-shown : goal.place_one-returns-in-Hole-clause-shown
place_one-returns-in-Hole-clause-shown t c = on_ok c.place_hole.result c.place_hole.ensures.shown (λ e. one-Hole c.args.node.now c.in-Hole.place _ _ c.in-Hole.is e)
