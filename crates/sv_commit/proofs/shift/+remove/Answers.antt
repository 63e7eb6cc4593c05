use Rattle.std.proofs.Common.{arith, [], ◌∷◌, ap}
use Rattle.sv_live.specs.declared.live.Live.TheVariants as live
use denote.Param.Weighed.{at_most, most}
use Rattle.sv_live.specs.declared.live.Live.{size-Live}
use Rattle.sv_live.proofs.Sizes.{smaller-Hole}
use Rattle.sv_live.specs.Shown.{name_of}
use Rattle.sv_live.proofs.Regions.{Within-as, Within-left, Within-rest, Gone-as, Gone-two, Gone-none, lone-is-Text, lone-is-Element, lone-Hole, hole-whole, hole-parts, within-stands, within-below, within-gone, within-next, gone-next}
use Rattle.sv_commit.proofs.Results.{on_three}
use Rattle.sv_commit.proofs.shift.+remove.Goals as goal

pub remove_all-loop-live-init : goal.remove_all-loop-live-init
remove_all-loop-live-init t c = Gone-none c.args.screen.now (name_of c.args.above)

pub remove_all-remove_one-requires : goal.remove_all-remove_one-requires
remove_all-remove_one-requires t c = (
  (let m = at_most size-Live c.args.lives.now c.loop-live.live-index c.live-item.result c.loop-live-test.true in let d = c.decreases in let e = ap size-Live c.live-item.is in omega (arith, m, d, e)),
  within-next c.args.screen.now c.loop-live.screen (name_of c.args.above) c.args.lives.now c.loop-live.live-index c.live-item.result c.loop-live-test.true c.live-item.is c.requires c.loop-live.invariant,
)

pub remove_all-loop-live-preserved : goal.remove_all-loop-live-preserved
remove_all-loop-live-preserved t c =
    gone-next c.args.screen.now c.loop-live.screen (name_of c.args.above) c.args.lives.now c.loop-live.live-index c.live-item.result c.loop-live-test.true c.live-item.is c.remove_one.new.screen c.loop-live.invariant c.in_ok-remove_one.ensures

pub remove_one-remove-requires-clause-stands : goal.remove_one-remove-requires-clause-stands
remove_one-remove-requires-clause-stands t c = within-stands c.args.screen.now (name_of c.args.above) c.in-Text.named.key c.args.live.now (lone-is-Text _ _ _ _ c.in-Text.is) c.requires c.has_keys.ensures

pub remove_one-remove-requires-clause-below : goal.remove_one-remove-requires-clause-below
remove_one-remove-requires-clause-below t c = within-below c.args.screen.now (name_of c.args.above) c.in-Text.named.key c.args.live.now (lone-is-Text _ _ _ _ c.in-Text.is) c.requires c.has_keys.ensures

pub remove_one-returns-in-Text : goal.remove_one-returns-in-Text
remove_one-returns-in-Text t c = on_three c.remove.result c.remove.ensures.tokens c.remove.ensures.next c.remove.ensures.tells (λ r n k.
    within-gone c.args.screen.now (name_of c.args.above) c.in-Text.named.key c.args.live.now (lone-is-Text _ _ _ _ c.in-Text.is) c.requires c.has_keys.ensures c.remove.new.self r n k)

pub remove_one-remove-requires-in-Element-clause-stands : goal.remove_one-remove-requires-in-Element-clause-stands
remove_one-remove-requires-in-Element-clause-stands t c =
    within-stands c.args.screen.now (name_of c.args.above) c.in-Element.named.key c.args.live.now (lone-is-Element _ _ _ _ c.in-Element.is) c.requires c.has_keys-in-Element.ensures

pub remove_one-remove-requires-in-Element-clause-below : goal.remove_one-remove-requires-in-Element-clause-below
remove_one-remove-requires-in-Element-clause-below t c =
    within-below c.args.screen.now (name_of c.args.above) c.in-Element.named.key c.args.live.now (lone-is-Element _ _ _ _ c.in-Element.is) c.requires c.has_keys-in-Element.ensures

pub remove_one-returns-in-Element : goal.remove_one-returns-in-Element
remove_one-returns-in-Element t c = on_three c.remove-in-Element.result c.remove-in-Element.ensures.tokens c.remove-in-Element.ensures.next c.remove-in-Element.ensures.tells (λ r n k.
    within-gone c.args.screen.now (name_of c.args.above) c.in-Element.named.key c.args.live.now (lone-is-Element _ _ _ _ c.in-Element.is) c.requires c.has_keys-in-Element.ensures c.remove-in-Element.new.self r n k)

pub remove_one-remove_all-requires : goal.remove_one-remove_all-requires
remove_one-remove_all-requires t c =
    let split = hole-parts c.args.live.now c.in-Hole.place 0 c.in-Hole.anchor c.in-Hole.parts c.as_slice.result.now c.in-Hole.is c.as_slice.ensures in
    ((let d = c.decreases in let z = ap (most size-Live) c.as_slice.ensures in let w = smaller-Hole c.args.live.now _ _ _ c.in-Hole.is in omega (arith, d, z, w)), Within-left c.args.screen.now.page.tokens (name_of c.args.above) c.as_slice.result.now (live.Hole 0 c.in-Hole.anchor [] ∷ []) (Within-as c.args.screen.now.page.tokens (name_of c.args.above) _ _ split c.requires))

pub remove_one-remove-requires-in-Hole-clause-stands : goal.remove_one-remove-requires-in-Hole-clause-stands
remove_one-remove-requires-in-Hole-clause-stands t c =
    let split = hole-parts c.args.live.now c.in-Hole.place 0 c.in-Hole.anchor c.in-Hole.parts c.as_slice.result.now c.in-Hole.is c.as_slice.ensures in
    within-stands c.remove_all.new.screen (name_of c.args.above) c.in-Hole.anchor (live.Hole 0 c.in-Hole.anchor []) (lone-Hole 0 c.in-Hole.anchor)
    (Within-rest c.args.screen.now c.remove_all.new.screen (name_of c.args.above) c.as_slice.result.now _ (Within-as c.args.screen.now.page.tokens (name_of c.args.above) _ _ split c.requires) c.in_ok-remove_all-in-Hole.ensures) c.has_keys-in-Hole.ensures

pub remove_one-remove-requires-in-Hole-clause-below : goal.remove_one-remove-requires-in-Hole-clause-below
remove_one-remove-requires-in-Hole-clause-below t c =
    let split = hole-parts c.args.live.now c.in-Hole.place 0 c.in-Hole.anchor c.in-Hole.parts c.as_slice.result.now c.in-Hole.is c.as_slice.ensures in
    within-below c.remove_all.new.screen (name_of c.args.above) c.in-Hole.anchor (live.Hole 0 c.in-Hole.anchor []) (lone-Hole 0 c.in-Hole.anchor)
    (Within-rest c.args.screen.now c.remove_all.new.screen (name_of c.args.above) c.as_slice.result.now _ (Within-as c.args.screen.now.page.tokens (name_of c.args.above) _ _ split c.requires) c.in_ok-remove_all-in-Hole.ensures) c.has_keys-in-Hole.ensures

pub remove_one-returns-in_ok-remove_all-in-Hole : goal.remove_one-returns-in_ok-remove_all-in-Hole
remove_one-returns-in_ok-remove_all-in-Hole t c = on_three c.remove-in-Hole.result c.remove-in-Hole.ensures.tokens c.remove-in-Hole.ensures.next c.remove-in-Hole.ensures.tells (λ r n k.
    let split = hole-parts c.args.live.now c.in-Hole.place 0 c.in-Hole.anchor c.in-Hole.parts c.as_slice.result.now c.in-Hole.is c.as_slice.ensures in
    let whole = hole-whole c.args.live.now c.in-Hole.place 0 c.in-Hole.anchor c.in-Hole.parts c.as_slice.result.now c.in-Hole.is c.as_slice.ensures in
    let last = live.Hole 0 c.in-Hole.anchor [] ∷ [] in
    let rest = Within-rest c.args.screen.now c.remove_all.new.screen (name_of c.args.above) c.as_slice.result.now last (Within-as c.args.screen.now.page.tokens (name_of c.args.above) _ _ split c.requires) c.in_ok-remove_all-in-Hole.ensures in
    let gone = within-gone c.remove_all.new.screen (name_of c.args.above) c.in-Hole.anchor (live.Hole 0 c.in-Hole.anchor []) (lone-Hole 0 c.in-Hole.anchor) rest c.has_keys-in-Hole.ensures c.remove-in-Hole.new.self r n k in
    Gone-as c.args.screen.now c.remove-in-Hole.new.self (name_of c.args.above) _ _ whole (Gone-two c.args.screen.now c.remove_all.new.screen c.remove-in-Hole.new.self (name_of c.args.above) c.as_slice.result.now last c.in_ok-remove_all-in-Hole.ensures gone))
