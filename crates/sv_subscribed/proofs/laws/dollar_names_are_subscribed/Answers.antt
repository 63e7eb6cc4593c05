use Rattle.sv_subscribed.proofs.Turning.{run_known}
use Rattle.sv_subscribed.proofs.laws.dollar_names_are_subscribed.Goals as goal

pub returns : goal.returns
returns c = λ p events apart. run_known p apart events
