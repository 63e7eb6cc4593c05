use Rattle.sv_slotted.proofs.Slotting.{page-slotted}
use Rattle.sv_slotted.proofs.laws.drawn_pages_are_slotted.Goals as goal

pub returns : goal.returns
returns c = page-slotted
