use Rattle.std.proofs.Common.{◌≡◌, ◌-◌}
use Rattle.sv_tags.specs.Attributes as spec
use Rattle.sv_tags.proofs.modifiers.read.Given as goal

abbrev pub invariant-loop-turn : goal.invariant-loop-turn
invariant-loop-turn l = spec.all_modifiers l.fn.source ≡ spec.modifiers_from (l._turn-end - l._turn) l.found l.source
