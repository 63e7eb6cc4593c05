use Rattle.sv_first.proofs.Pages.{first_seen}
use Rattle.sv_first.proofs.laws.first_page_is_seen.Goals as goal

pub returns : goal.returns
returns c = record { seen = first_seen }
