use Rattle.std.proofs.Common.{◌≡◌, drop}
use Rattle.sv_instance.specs.Subscriptions.{subscription_at}
use Rattle.sv_instance.proofs.subscriptions.find_in.Given as goal

abbrev pub invariant-loop-subscription : goal.invariant-loop-subscription
invariant-loop-subscription l = subscription_at l.list l.cell ≡ subscription_at (drop l.subscription-index l.list) l.cell
