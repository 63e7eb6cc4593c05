use Rattle.std.proofs.Common.{arith, [], ◌∷◌, ap}
use Rattle.sv_live.specs.declared.live.Live.TheVariants as live
use denote.Param.Weighed.{at_most, most}
use Rattle.sv_live.specs.declared.live.Live.{size-Live}
use Rattle.sv_live.proofs.Sizes.{smaller-Hole}
use Rattle.sv_live.specs.Shown.{name_of}
use Rattle.sv_live.proofs.Regions.{Among-as, Among-left, Among-rest, Goes-as, Goes-two, Goes-none, lone-is-Text, lone-is-Element, lone-Hole, hole-whole, hole-parts, among-stands, among-below, among-beside, among-goes, among-next, goes-next}
use Rattle.sv_commit.proofs.Results.{on_three}
use Rattle.sv_commit.proofs.shift.+shift.Goals as goal

pub move_all-loop-live-init : goal.move_all-loop-live-init
move_all-loop-live-init t c = Goes-none c.args.screen.now (name_of c.args.spot.above) c.args.spot.end

pub move_all-move_one-requires : goal.move_all-move_one-requires
move_all-move_one-requires t c = (
  (let m = at_most size-Live c.args.lives.now c.loop-live.live-index c.live-item.result c.loop-live-test.true in let d = c.decreases in let e = ap size-Live c.live-item.is in omega (arith, m, d, e)),
  among-next c.args.screen.now c.loop-live.screen (name_of c.args.spot.above) c.args.lives.now c.loop-live.live-index c.live-item.result c.loop-live-test.true c.live-item.is c.args.spot.end c.requires c.loop-live.invariant,
)

pub move_all-loop-live-preserved : goal.move_all-loop-live-preserved
move_all-loop-live-preserved t c =
    goes-next c.args.screen.now c.loop-live.screen (name_of c.args.spot.above) c.args.lives.now c.loop-live.live-index c.live-item.result c.loop-live-test.true c.live-item.is c.move_one.new.screen c.args.spot.end c.loop-live.invariant c.in_ok-move_one.ensures

pub move_one-move_before-requires-clause-stands : goal.move_one-move_before-requires-clause-stands
move_one-move_before-requires-clause-stands t c = among-stands c.args.screen.now (name_of c.args.spot.above) c.args.spot.end c.in-Text.named.key c.args.live.now (lone-is-Text _ _ _ _ c.in-Text.is) c.requires c.has_keys.ensures

pub move_one-move_before-requires-clause-below : goal.move_one-move_before-requires-clause-below
move_one-move_before-requires-clause-below t c = among-below c.args.screen.now (name_of c.args.spot.above) c.args.spot.end c.in-Text.named.key c.args.live.now (lone-is-Text _ _ _ _ c.in-Text.is) c.requires c.has_keys.ensures

pub move_one-move_before-requires-clause-place : goal.move_one-move_before-requires-clause-place
move_one-move_before-requires-clause-place t c = among-beside c.args.screen.now (name_of c.args.spot.above) c.args.spot.end c.in-Text.named.key c.args.live.now (lone-is-Text _ _ _ _ c.in-Text.is) c.requires c.has_keys.ensures

pub move_one-returns-in-Text : goal.move_one-returns-in-Text
move_one-returns-in-Text t c = on_three c.move_before.result c.move_before.ensures.tokens c.move_before.ensures.next c.move_before.ensures.tells (λ r n k.
    among-goes c.args.screen.now (name_of c.args.spot.above) c.args.spot.end c.in-Text.named.key c.args.live.now (lone-is-Text _ _ _ _ c.in-Text.is) c.requires c.has_keys.ensures c.move_before.new.self r n k)

pub move_one-move_before-requires-in-Element-clause-stands : goal.move_one-move_before-requires-in-Element-clause-stands
move_one-move_before-requires-in-Element-clause-stands t c = among-stands c.args.screen.now (name_of c.args.spot.above) c.args.spot.end c.in-Element.named.key c.args.live.now (lone-is-Element _ _ _ _ c.in-Element.is) c.requires c.has_keys-in-Element.ensures

pub move_one-move_before-requires-in-Element-clause-below : goal.move_one-move_before-requires-in-Element-clause-below
move_one-move_before-requires-in-Element-clause-below t c = among-below c.args.screen.now (name_of c.args.spot.above) c.args.spot.end c.in-Element.named.key c.args.live.now (lone-is-Element _ _ _ _ c.in-Element.is) c.requires c.has_keys-in-Element.ensures

pub move_one-move_before-requires-in-Element-clause-place : goal.move_one-move_before-requires-in-Element-clause-place
move_one-move_before-requires-in-Element-clause-place t c = among-beside c.args.screen.now (name_of c.args.spot.above) c.args.spot.end c.in-Element.named.key c.args.live.now (lone-is-Element _ _ _ _ c.in-Element.is) c.requires c.has_keys-in-Element.ensures

pub move_one-returns-in-Element : goal.move_one-returns-in-Element
move_one-returns-in-Element t c = on_three c.move_before-in-Element.result c.move_before-in-Element.ensures.tokens c.move_before-in-Element.ensures.next c.move_before-in-Element.ensures.tells (λ r n k.
    among-goes c.args.screen.now (name_of c.args.spot.above) c.args.spot.end c.in-Element.named.key c.args.live.now (lone-is-Element _ _ _ _ c.in-Element.is) c.requires c.has_keys-in-Element.ensures c.move_before-in-Element.new.self r n k)

pub move_one-move_all-requires : goal.move_one-move_all-requires
move_one-move_all-requires t c =
    let split = hole-parts c.args.live.now c.in-Hole.place 0 c.in-Hole.anchor c.in-Hole.parts c.as_slice.result.now c.in-Hole.is c.as_slice.ensures in (
      (let d = c.decreases in let z = ap (most size-Live) c.as_slice.ensures in let w = smaller-Hole c.args.live.now _ _ _ c.in-Hole.is in omega (arith, d, z, w)),
      Among-left c.args.screen.now.page.tokens (name_of c.args.spot.above) c.args.spot.end c.as_slice.result.now (live.Hole 0 c.in-Hole.anchor [] ∷ []) (Among-as c.args.screen.now.page.tokens (name_of c.args.spot.above) c.args.spot.end _ _ split c.requires),
    )

pub move_one-move_before-requires-in-Hole-clause-stands : goal.move_one-move_before-requires-in-Hole-clause-stands
move_one-move_before-requires-in-Hole-clause-stands t c =
    let split = hole-parts c.args.live.now c.in-Hole.place 0 c.in-Hole.anchor c.in-Hole.parts c.as_slice.result.now c.in-Hole.is c.as_slice.ensures in
    among-stands c.move_all.new.screen (name_of c.args.spot.above) c.args.spot.end c.in-Hole.anchor (live.Hole 0 c.in-Hole.anchor []) (lone-Hole 0 c.in-Hole.anchor)
    (Among-rest c.args.screen.now c.move_all.new.screen (name_of c.args.spot.above) c.args.spot.end c.as_slice.result.now (live.Hole 0 c.in-Hole.anchor [] ∷ []) (Among-as c.args.screen.now.page.tokens (name_of c.args.spot.above) c.args.spot.end _ _ split c.requires) c.in_ok-move_all-in-Hole.ensures) c.has_keys-in-Hole.ensures

pub move_one-move_before-requires-in-Hole-clause-below : goal.move_one-move_before-requires-in-Hole-clause-below
move_one-move_before-requires-in-Hole-clause-below t c =
    let split = hole-parts c.args.live.now c.in-Hole.place 0 c.in-Hole.anchor c.in-Hole.parts c.as_slice.result.now c.in-Hole.is c.as_slice.ensures in
    among-below c.move_all.new.screen (name_of c.args.spot.above) c.args.spot.end c.in-Hole.anchor (live.Hole 0 c.in-Hole.anchor []) (lone-Hole 0 c.in-Hole.anchor)
    (Among-rest c.args.screen.now c.move_all.new.screen (name_of c.args.spot.above) c.args.spot.end c.as_slice.result.now (live.Hole 0 c.in-Hole.anchor [] ∷ []) (Among-as c.args.screen.now.page.tokens (name_of c.args.spot.above) c.args.spot.end _ _ split c.requires) c.in_ok-move_all-in-Hole.ensures) c.has_keys-in-Hole.ensures

pub move_one-move_before-requires-in-Hole-clause-place : goal.move_one-move_before-requires-in-Hole-clause-place
move_one-move_before-requires-in-Hole-clause-place t c =
    let split = hole-parts c.args.live.now c.in-Hole.place 0 c.in-Hole.anchor c.in-Hole.parts c.as_slice.result.now c.in-Hole.is c.as_slice.ensures in
    among-beside c.move_all.new.screen (name_of c.args.spot.above) c.args.spot.end c.in-Hole.anchor (live.Hole 0 c.in-Hole.anchor []) (lone-Hole 0 c.in-Hole.anchor)
    (Among-rest c.args.screen.now c.move_all.new.screen (name_of c.args.spot.above) c.args.spot.end c.as_slice.result.now (live.Hole 0 c.in-Hole.anchor [] ∷ []) (Among-as c.args.screen.now.page.tokens (name_of c.args.spot.above) c.args.spot.end _ _ split c.requires) c.in_ok-move_all-in-Hole.ensures) c.has_keys-in-Hole.ensures

pub move_one-returns-in_ok-move_all-in-Hole : goal.move_one-returns-in_ok-move_all-in-Hole
move_one-returns-in_ok-move_all-in-Hole t c = on_three c.move_before-in-Hole.result c.move_before-in-Hole.ensures.tokens c.move_before-in-Hole.ensures.next c.move_before-in-Hole.ensures.tells (λ r n k.
    let split = hole-parts c.args.live.now c.in-Hole.place 0 c.in-Hole.anchor c.in-Hole.parts c.as_slice.result.now c.in-Hole.is c.as_slice.ensures in
    let whole = hole-whole c.args.live.now c.in-Hole.place 0 c.in-Hole.anchor c.in-Hole.parts c.as_slice.result.now c.in-Hole.is c.as_slice.ensures in
    let goes = among-goes c.move_all.new.screen (name_of c.args.spot.above) c.args.spot.end c.in-Hole.anchor (live.Hole 0 c.in-Hole.anchor []) (lone-Hole 0 c.in-Hole.anchor)
    (Among-rest c.args.screen.now c.move_all.new.screen (name_of c.args.spot.above) c.args.spot.end c.as_slice.result.now (live.Hole 0 c.in-Hole.anchor [] ∷ []) (Among-as c.args.screen.now.page.tokens (name_of c.args.spot.above) c.args.spot.end _ _ split c.requires) c.in_ok-move_all-in-Hole.ensures) c.has_keys-in-Hole.ensures c.move_before-in-Hole.new.self r n k in
    Goes-as c.args.screen.now c.move_before-in-Hole.new.self (name_of c.args.spot.above) c.args.spot.end _ _ whole (Goes-two c.args.screen.now c.move_all.new.screen c.move_before-in-Hole.new.self (name_of c.args.spot.above) c.args.spot.end c.as_slice.result.now (live.Hole 0 c.in-Hole.anchor [] ∷ []) c.in_ok-move_all-in-Hole.ensures goes))
