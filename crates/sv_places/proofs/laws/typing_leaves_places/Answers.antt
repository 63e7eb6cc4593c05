use Rattle.sv_places.proofs.Blind.{fits-laid}
use Rattle.sv_places.proofs.Typing.{places-laid, numbers-laid}
use Rattle.sv_places.proofs.laws.typing_leaves_places.Goals as goal

pub returns-clause-places : goal.returns-clause-places
returns-clause-places c = λ mark typed parts. places-laid mark typed parts

pub returns-clause-numbers : goal.returns-clause-numbers
returns-clause-numbers c = λ mark typed parts. numbers-laid mark typed parts

pub returns-clause-fits : goal.returns-clause-fits
returns-clause-fits c = λ p tags frags mark typed parts. fits-laid mark typed p tags frags parts
