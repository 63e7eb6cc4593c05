use Rattle.std.proofs.Common.{◌≡◌, ◌-◌}
use Rattle.sv_expr.specs.Limits.{real}
use Rattle.sv_expr.specs.Rules as spec
use Rattle.sv_expr.proofs.grammar.Grammar.suffixes.Given as goal

abbrev pub invariant-loop-turn : goal.invariant-loop-turn
invariant-loop-turn g l =
    spec.suffixes real l.self.room (g.B.Enclosed.readers l.self.room) l.from l.most l.fn.first l.fn.tokens
    ≡ spec.suffixes real l.self.room (g.B.Enclosed.readers l.self.room) l.from (l.most - l._turn) l.whole l.tokens
