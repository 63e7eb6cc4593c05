use Rattle.sv_parts.proofs.Steps.{Left}
use Rattle.sv_parts.specs.Sides.{sides}
use Rattle.sv_parts.specs.State.{one}
use Rattle.sv_parts.specs.Tags.{offer_step, offers_step, texts_at}
use Rattle.sv_parts.proofs.tags.take_offers.Given as goal

abbrev pub invariant-loop-index : goal.invariant-loop-index
invariant-loop-index l =
    Left (λ a i u. one (offer_step l.here.program.now a (texts_at l.texts i) l.is_new (sides l.here) u)) (offers_step l.here.program.now l.attrs l.texts l.is_new (sides l.here) l.fn.state) l.attrs l.index l.offers l.state
