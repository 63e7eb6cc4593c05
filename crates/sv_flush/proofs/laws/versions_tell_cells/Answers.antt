use Rattle.sv_flush.proofs.Knowing.{held_past, versions_tell}
use Rattle.sv_flush.proofs.laws.versions_tell_cells.Goals as goal

pub returns : goal.returns
returns c = record { past = held_past; same = versions_tell }
