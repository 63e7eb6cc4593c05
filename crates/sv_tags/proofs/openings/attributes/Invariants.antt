use Rattle.std.proofs.Common.{◌≡◌, ◌-◌}
use Rattle.sv_expr.specs.Limits.{real}
use Rattle.sv_tags.specs.Openings as spec
use Rattle.sv_tags.proofs.openings.attributes.Given as goal

abbrev pub invariant-loop-turn : goal.invariant-loop-turn
invariant-loop-turn l =
    spec.attributes real l.room l.tag l.owned l.from l.fn.found l.fn.source ≡ spec.attributes_from real l.room l.tag l.owned l.from (l._turn-end - l._turn) l.found l.source
