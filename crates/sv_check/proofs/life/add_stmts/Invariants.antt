use Rattle.std.proofs.Common.{◌≡◌, drop}
use Rattle.sv_check.specs.Called.{with_places}
use Rattle.sv_check.specs.Life.{called_at_top}
use Rattle.sv_check.proofs.life.add_stmts.Given as goal

abbrev pub invariant-loop-stmt : goal.invariant-loop-stmt
invariant-loop-stmt l = with_places l.fn.places (called_at_top l.stmts) ≡ with_places l.places (called_at_top (drop l.stmt-index l.stmts))
