use Rattle.std.proofs.Common.{◌≡◌, ◌-◌}
use Rattle.sv_expr.specs.Limits.{real}
use Rattle.sv_tags.specs.Values as spec
use Rattle.sv_tags.proofs.values.parts.Given as goal

abbrev pub invariant-loop-turn : goal.invariant-loop-turn
invariant-loop-turn l = spec.parts real l.room l.quote l.fn.source ≡ spec.parts_from real l.room l.quote (l._turn-end - l._turn) l.found l.source
