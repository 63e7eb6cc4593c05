use Rattle.std.proofs.Common.{◌≡◌, drop}
use Rattle.sv_check.specs.Called.{with_places}
use Rattle.sv_check.specs.Life.{called_in}
use Rattle.sv_check.proofs.life.add_decls.Given as goal

abbrev pub invariant-loop-decl : goal.invariant-loop-decl
invariant-loop-decl l = with_places l.fn.places (called_in l.decls) ≡ with_places l.places (called_in (drop l.decl-index l.decls))
