use Rattle.sv_stands.proofs.Patches.{plan_lends, plan_makes}
use Rattle.sv_stands.proofs.laws.tags_stay_lent.Goals as goal

pub returns-clause-stay : goal.returns-clause-stay
returns-clause-stay c = λ p tags frags at old new s s' fit e. plan_lends p tags frags at old new s s' fit e

pub returns-clause-first : goal.returns-clause-first
returns-clause-first c = λ p tags frags at new s s' e. plan_makes p tags frags at new s s' e
