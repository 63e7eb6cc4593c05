use Rattle.std.proofs.Common.{◌≡◌, ◌-◌}
use Rattle.sv_expr.specs.Limits.{real}
use Rattle.sv_expr.specs.Rules as spec
use Rattle.sv_expr.proofs.grammar.Grammar.parts.Given as goal

abbrev pub invariant-loop-turn : goal.invariant-loop-turn
invariant-loop-turn g l =
    spec.parts real l.self.room (g.B.Enclosed.readers l.self.room) l.fn.tokens
    ≡ spec.parts_from real l.self.room (g.B.Enclosed.readers l.self.room) (l._turn-end - l._turn) l.found l.tokens
