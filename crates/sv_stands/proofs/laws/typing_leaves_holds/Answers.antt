use Rattle.sv_stands.proofs.Markup.{all_stands}
use Rattle.sv_stands.proofs.laws.typing_leaves_holds.Goals as goal

pub returns : goal.returns
returns c = record { same = λ p tags frags v mark typed shapes. (all_stands p tags frags).same mark typed v shapes }
