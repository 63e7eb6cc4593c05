use Rattle.sv_stands.proofs.Markup.{all_stands}
use Rattle.sv_stands.proofs.laws.each_place_is_held.Goals as goal

pub returns : goal.returns
returns c = record { held = λ p tags frags v shapes fit. (all_stands p tags frags).places v shapes fit }
