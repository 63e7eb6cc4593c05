use Rattle.sv_check.proofs.Progress.{CheckedTo}
use Rattle.sv_check.proofs.program.check_files.Given as goal

abbrev pub invariant-loop-n : goal.invariant-loop-n
invariant-loop-n l = CheckedTo l.bundle l.found l.n l.components
