use Rattle.std.proofs.Common.{length}
use Rattle.std.specs.String.{string_bytes}
use Rattle.sv_tags.proofs.Characters.{IsAhead}
use Rattle.sv_tags.proofs.texts.content.Given as goal

abbrev pub invariant-loop-c : goal.invariant-loop-c
invariant-loop-c l = IsAhead l.setting l.z l.rest (string_bytes l.text)

abbrev pub decreases-loop-c : goal.decreases-loop-c
decreases-loop-c l = length l.rest
