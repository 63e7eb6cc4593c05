use Rattle.std.proofs.Common.{refl, sym, ap, ◌∙◌, ◌+◌, drop}
use Rattle.sv_keyed.specs.Keys.{place_after}
use Rattle.sv_keyed.proofs.Times.{get_at}
use Rattle.sv_keyed.proofs.Repeats.{finds-more, finds-all, place-more, place-end}
use Rattle.sv_keyed.proofs.places.places_of.Goals as goal

pub loop-i-init : goal.loop-i-init
loop-i-init c = record { finds = record { at = λ k. rw c.new-places.ensures.empty refl }; rest = λ k. rw c.new-places.ensures.empty refl }

pub loop-i-preserved : goal.loop-i-preserved
loop-i-preserved c =
    let here = get_at c.args.keys.now c.loop-i.i c.index-keys-i.result c.loop-i-test.true c.index-keys-i.is in
    record {
      finds = finds-more _ _ c.args.keys.now c.loop-i.i c.index-keys-i.result here c.loop-i.invariant.finds c.in_ok-note_place.ensures;
      rest = λ k.
          c.loop-i.invariant.rest k ∙ place-more c.args.keys.now c.loop-i.i c.index-keys-i.result k _ here
          ∙ ap (λ f. place_after f (c.loop-i.i + 1) (drop (c.loop-i.i + 1) c.args.keys.now) k) (sym (c.in_ok-note_place.ensures k));
    }

pub returns : goal.returns
returns c = record {
  finds = finds-all _ c.args.keys.now c.loop-i.i c.loop-i-test.false c.loop-i.invariant.finds;
  last = λ k. sym (c.loop-i.invariant.rest k ∙ place-end c.args.keys.now c.loop-i.i k _ c.loop-i-test.false);
}
