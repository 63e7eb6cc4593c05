use Rattle.sv_lines.specs.Lines.{LinesAscend}
use Rattle.rows_check.proofs.read.program.Given as goal

abbrev pub invariant-loop-file : goal.invariant-loop-file
invariant-loop-file l = LinesAscend l.bundle.files
