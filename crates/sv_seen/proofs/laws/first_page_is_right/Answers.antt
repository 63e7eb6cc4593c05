use Rattle.sv_seen.proofs.Mounting.{first_page}
use Rattle.sv_seen.proofs.laws.first_page_is_right.Goals as goal

pub returns : goal.returns
returns c = record { right = first_page }
