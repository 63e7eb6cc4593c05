use Rattle.std.proofs.Common.{◌≡◌, drop}
use Rattle.sv_names.specs.NameMap.{with_entries}
use Rattle.sv_effects.specs.Known.{imported}
use Rattle.sv_effects.proofs.known.add_imports.Given as goal

abbrev pub invariant-loop-stmt : goal.invariant-loop-stmt
invariant-loop-stmt l = with_entries l.fn.known (imported l.files l.given l.stmts) ≡ with_entries l.known (imported l.files l.given (drop l.stmt-index l.stmts))
