use Rattle.std.proofs.Common.{◌≡◌, drop}
use Rattle.sv_listing.specs.Parts.{insides, insides_from}
use Rattle.sv_listing.proofs.found.insides_of.Given as goal

abbrev pub invariant-loop-tag : goal.invariant-loop-tag
invariant-loop-tag l = insides l.tags ≡ insides_from l.insides.items (drop l.tag-index l.tags)
