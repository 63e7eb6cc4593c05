use Rattle.sv_page.proofs.Delivering.{dispatched_computed}
use Rattle.sv_page.proofs.laws.events_leave_stores_computed.Goals as goal

pub returns : goal.returns
returns c = dispatched_computed
