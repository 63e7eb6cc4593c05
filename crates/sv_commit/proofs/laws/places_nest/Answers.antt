use Rattle.sv_live.proofs.Inside.{inside, outside, inside-hole, outside-hole}
use Rattle.sv_commit.proofs.laws.places_nest.Goals as goal

pub returns-clause-child : goal.returns-clause-child
returns-clause-child c = inside-hole

pub returns-clause-child_alone : goal.returns-clause-child_alone
returns-clause-child_alone c = outside-hole

pub returns-clause-element : goal.returns-clause-element
returns-clause-element c = λ page above end front back n own parts once s. inside page above end front back n own parts s once

pub returns-clause-element_alone : goal.returns-clause-element_alone
returns-clause-element_alone c = outside
