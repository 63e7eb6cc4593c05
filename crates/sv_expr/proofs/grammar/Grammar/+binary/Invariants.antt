use Rattle.std.proofs.Common.{◌≡◌, ◌-◌, ◌+◌, ◌*◌, []}
use Rattle.sv_expr.specs.Limits.{real}
use Rattle.sv_expr.specs.Rules as spec
use Rattle.sv_expr.proofs.grammar.Grammar.+binary.Given as goal

abbrev pub decreases-binary : goal.decreases-binary
decreases-binary g l = 3 * l.group

abbrev pub decreases-extended : goal.decreases-extended
decreases-extended g l = 3 * l.below + 2

abbrev pub decreases-links : goal.decreases-links
decreases-links g l = 3 * l.below + 1

abbrev pub invariant-links-loop-turn : goal.invariant-links-loop-turn
invariant-links-loop-turn g l =
    spec.links (spec.binary real l.self.room (g.B.Enclosed.readers l.self.room) l.below) l.group l.most l.fn.first [] l.fn.tokens
    ≡ spec.links (spec.binary real l.self.room (g.B.Enclosed.readers l.self.room) l.below) l.group (l.most - l._turn) l.left l.found l.tokens
