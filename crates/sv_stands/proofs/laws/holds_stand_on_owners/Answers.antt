use Rattle.sv_stands.proofs.Standing.{holds_stand}
use Rattle.sv_stands.proofs.laws.holds_stand_on_owners.Goals as goal

pub returns : goal.returns
returns c = record { stand = λ p tags frags v shapes owners. holds_stand p tags frags v shapes owners }
