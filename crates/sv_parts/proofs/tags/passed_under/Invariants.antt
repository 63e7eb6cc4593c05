use Rattle.std.proofs.Common.{◌≡◌, drop}
use Rattle.sv_parts.specs.Tags.{passed_under}
use Rattle.sv_parts.proofs.tags.passed_under.Given as goal

abbrev pub invariant-loop-offer : goal.invariant-loop-offer
invariant-loop-offer l = passed_under l.name l.offers ≡ passed_under l.name (drop l.offer-index l.offers)
