use Rattle.sv_meant.proofs.Compiled.{compiled_means}
use Rattle.sv_meant.proofs.laws.compiled_code_means_the_same.Goals as goal

pub returns : goal.returns
returns c = record { same = compiled_means }
