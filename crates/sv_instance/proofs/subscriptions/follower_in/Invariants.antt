use Rattle.std.proofs.Common.{◌≡◌, drop}
use Rattle.sv_instance.specs.Subscriptions.{follower_of}
use Rattle.sv_instance.proofs.subscriptions.follower_in.Given as goal

abbrev pub invariant-loop-subscription : goal.invariant-loop-subscription
invariant-loop-subscription l = follower_of l.list l.cell ≡ follower_of (drop l.subscription-index l.list) l.cell
