use Rattle.std.proofs.Common.{◌≡◌, drop}
use Rattle.sv_lower.specs.Tops.{method_in}
use Rattle.sv_lower.proofs.members.method_of.Given as goal

abbrev pub invariant-loop-word : goal.invariant-loop-word
invariant-loop-word l = method_in l.words l.name ≡ method_in (drop l.word-index l.words) l.name
