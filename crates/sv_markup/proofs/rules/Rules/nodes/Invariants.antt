use Rattle.std.proofs.Common.{◌≡◌, ◌-◌}
use Rattle.sv_expr.specs.Limits.{real}
use Rattle.sv_markup.specs.Rules as spec
use Rattle.sv_markup.specs.Rules.{inside}
use Rattle.sv_markup.proofs.rules.Rules.nodes.Given as goal

abbrev pub invariant-loop-turn : goal.invariant-loop-turn
invariant-loop-turn g l =
    spec.nodes real l.self.room (inside real l.self.room) l.owned l.fn.source
    ≡ spec.nodes_from real l.self.room (inside real l.self.room) l.owned (l._turn-end - l._turn) l.found l.source
