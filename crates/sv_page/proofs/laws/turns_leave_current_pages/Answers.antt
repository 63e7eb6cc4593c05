use Rattle.sv_page.proofs.Turning.{run_current}
use Rattle.sv_page.proofs.laws.turns_leave_current_pages.Goals as goal

pub returns : goal.returns
returns c = run_current
