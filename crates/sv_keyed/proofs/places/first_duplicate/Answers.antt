use Rattle.std.proofs.Common.{refl, sym, ap, ◌∙◌}
use Rattle.std.specs.Option.{is_some}
use Rattle.sv_keyed.proofs.Times.{get_at}
use Rattle.sv_keyed.proofs.Repeats.{finds-more, finds-absent, repeat-more, repeat-end}
use Rattle.sv_keyed.proofs.places.first_duplicate.Goals as goal

pub loop-i-init : goal.loop-i-init
loop-i-init c = record { finds = record { at = λ k. rw c.new-places.ensures.empty refl }; rest = refl }

pub loop-i-preserved : goal.loop-i-preserved
loop-i-preserved c =
    let here = get_at c.args.keys.now c.loop-i.i c.index-keys-i.result c.loop-i-test.true c.index-keys-i.is in
    let none = sym (ap is_some c.place_in.ensures) ∙ sym c.is_some.ensures ∙ c.if-is_some.false in
    record {
      finds = finds-more _ _ c.args.keys.now c.loop-i.i c.index-keys-i.result here c.loop-i.invariant.finds c.in_ok-note_place.ensures;
      rest = c.loop-i.invariant.rest ∙ repeat-more c.args.keys.now c.loop-i.i c.index-keys-i.result here (finds-absent _ _ _ c.index-keys-i.result c.loop-i.invariant.finds none);
    }

pub returns : goal.returns
returns c = sym (c.loop-i.invariant.rest ∙ repeat-end c.args.keys.now c.loop-i.i c.loop-i-test.false)
