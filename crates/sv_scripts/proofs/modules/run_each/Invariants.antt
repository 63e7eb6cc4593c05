use Rattle.std.proofs.Common.{◌≡◌, drop}
use Rattle.std.specs.Prelude.{slice_get}
use Rattle.sv_meaning.specs.Runs.{each_in_turn, run_module}
use Rattle.sv_scripts.proofs.modules.run_each.Given as goal

abbrev pub invariant-loop-module : goal.invariant-loop-module
invariant-loop-module l = each_in_turn (λ n. run_module l.program (slice_get l.program.files n)) l.modules l.fn.world ≡ each_in_turn (λ n. run_module l.program (slice_get l.program.files n)) (drop l.module-index l.modules) l.world
