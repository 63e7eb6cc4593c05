use Rattle.std.proofs.Common.{◌≡◌, ◌-◌}
use Rattle.sv_lex.specs.Reader.{Parser}
use Rattle.sv_expr.specs.Below.{ReadsAs}
use Rattle.sv_expr.specs.Lists as spec
use Rattle.sv_expr.proofs.lists.listed.Given as goal

abbrev pub invariant-loop-turn : goal.invariant-loop-turn
invariant-loop-turn g l =
    (reader : Parser g.row.T.Denot) → ReadsAs reader (goal.I-post g l.item)
    → spec.listed reader l.close l.fn.tokens ≡ spec.listed_from reader l.close (l._turn-end - l._turn) l.found l.tokens
