use Rattle.std.proofs.Common.{◌≡◌, drop}
use Rattle.sv_compile.specs.TopLevel.{holder}
use Rattle.sv_compile.proofs.cells.holder.Given as goal

abbrev pub invariant-loop-found : goal.invariant-loop-found
invariant-loop-found l = holder l.given l.name ≡ holder (drop l.found-index l.given) l.name
