use Rattle.std.proofs.Common.{◌≡◌, ◌-◌}
use Rattle.sv_lex.specs.Reader.{Parser}
use Rattle.sv_expr.specs.Below.{ReadsAs}
use Rattle.sv_script.specs.Lists as spec
use Rattle.sv_script.proofs.lists.upto.Given as goal

abbrev pub invariant-loop-turn : goal.invariant-loop-turn
invariant-loop-turn g l =
    (reader : Parser g.row.T.Denot) → ReadsAs reader (goal.I-post g l.item)
    → spec.upto reader l.last l.fn.tokens ≡ spec.upto_from reader l.last (l._turn-end - l._turn) l.found l.tokens
