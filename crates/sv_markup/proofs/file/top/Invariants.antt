use Rattle.std.proofs.Common.{◌≡◌, ◌-◌}
use Rattle.sv_expr.specs.Limits.{real}
use Rattle.sv_markup.specs.Files as spec
use Rattle.sv_markup.proofs.file.top.Given as goal

abbrev pub invariant-loop-turn : goal.invariant-loop-turn
invariant-loop-turn l = spec.top real l.fn.source ≡ spec.parts_from real (l._turn-end - l._turn) l.found l.source
