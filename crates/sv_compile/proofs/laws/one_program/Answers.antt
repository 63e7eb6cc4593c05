use Rattle.sv_compile.proofs.OneProgram.{program_same}
use Rattle.sv_compile.proofs.laws.one_program.Goals as goal

pub returns : goal.returns
returns c = program_same
