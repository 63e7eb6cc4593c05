use Rattle.std.proofs.Common.{◌≡◌, take}
use Rattle.sv_parts.specs.Tags.{texts_of}
use Rattle.sv_parts.proofs.tags.texts_offered.Given as goal

abbrev pub invariant-loop-offer : goal.invariant-loop-offer
invariant-loop-offer l = l.texts ≡ texts_of (take l.offer-index l.offers)
