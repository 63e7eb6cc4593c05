use Rattle.std.proofs.Common.{◌≡◌, ◌<◌, ◌∙◌, ap, sym, length, get_or, rules}
use Rattle.std.specs.Prelude.{IsTrue}
use Rattle.sv_tokens.specs.declared.element.Attribute.{Attribute}
use Rattle.sv_nodes.proofs.Attributes.{put-here, put-other, put-more}
use Rattle.sv_nodes.proofs.same.holds.Goals as goal

pub returns-then-has_slot : goal.returns-then-has_slot
returns-then-has_slot c =
    let xs = c.args.attributes.now in
    let at = c.slots_below-at.result in
    let x = c.index-attributes-at.result in
    let p : Attribute = record { slot = c.args.slot; name = c.args.name.now; value = c.args.attr.now } in
    let yes : IsTrue c.has_slot.result = search rules in
    let inside : at < length xs = c.has_slot.ensures.inside yes in
    let slot : (get_or xs at x).slot ≡ c.args.slot = c.has_slot.ensures.same x yes in
    let same_slot : x.slot ≡ c.args.slot = ap (λ (a : Attribute). a.slot) c.index-attributes-at.is ∙ slot in
    let whole : record { slot = x.slot; name = c.args.name.now; value = c.args.attr.now } ≡ p = (λ i. record { slot = same_slot i; name = c.args.name.now; value = c.args.attr.now }) in (
      λ shown. put-here xs p x at c.slots_below-at.ensures.count inside (sym c.index-attributes-at.is ∙ (c.shows.ensures.0 shown ∙ whole)),
      λ same. c.shows.ensures.1 (c.index-attributes-at.is ∙ (put-other xs p x at c.slots_below-at.ensures.count inside slot same ∙ sym whole)),
    )

pub returns-else-has_slot : goal.returns-else-has_slot
returns-else-has_slot c =
    let xs = c.args.attributes.now in
    let at = c.slots_below-at.result in
    let p : Attribute = record { slot = c.args.slot; name = c.args.name.now; value = c.args.attr.now } in
    let no : IsTrue c.has_slot.result → ⊥ = search rules in (
      λ yes. absurd (no yes),
      λ same. absurd (put-more xs p p at c.slots_below-at.ensures.count (λ below slot. no (c.has_slot.ensures.no p below slot)) same),
    )
