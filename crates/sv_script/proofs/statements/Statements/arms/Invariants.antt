use Rattle.std.proofs.Common.{◌≡◌, ◌-◌, []}
use Rattle.sv_expr.specs.Limits.{real}
use Rattle.sv_script.specs.Rules as spec
use Rattle.sv_script.specs.Script.{bodies}
use Rattle.sv_script.proofs.statements.Statements.arms.Given as goal

abbrev pub invariant-loop-turn : goal.invariant-loop-turn
invariant-loop-turn g l =
    spec.arms real l.self.exprs.room (bodies real l.self.exprs.room) l.place l.most [] l.fn.tokens
    ≡ spec.arms real l.self.exprs.room (bodies real l.self.exprs.room) l.place (l.most - l._turn) l.found l.tokens
