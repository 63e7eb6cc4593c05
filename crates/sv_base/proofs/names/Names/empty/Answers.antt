use Rattle.sv_base.proofs.Tables.{no_table}
use Rattle.sv_base.proofs.names.Names.empty.Goals as goal

pub invariant_of-result : goal.invariant_of-result
invariant_of-result c = no_table _ c.new.ensures.empty
