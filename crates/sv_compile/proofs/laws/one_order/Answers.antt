use Rattle.sv_compile.proofs.OneOrder.{order_same}
use Rattle.sv_compile.proofs.laws.one_order.Goals as goal

pub returns : goal.returns
returns c = order_same
