use Rattle.sv_apart.proofs.Compiled.{compiled_apart}
use Rattle.sv_apart.proofs.laws.compiled_programs_are_apart.Goals as goal

pub returns : goal.returns
returns c = λ bundle told modules clean checked. compiled_apart bundle told modules clean checked
