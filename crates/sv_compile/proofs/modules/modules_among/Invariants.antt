use Rattle.std.proofs.Common.{◌≡◌, ◌++◌, drop}
use Rattle.std.specs.Prelude.{filter}
use Rattle.sv_compile.specs.Modules.{is_module_at}
use Rattle.sv_compile.proofs.modules.modules_among.Given as goal

abbrev pub invariant-loop-n : goal.invariant-loop-n
invariant-loop-n l = filter (is_module_at l.files) l.order ≡ l.modules ++ filter (is_module_at l.files) (drop l.n-index l.order)
