use Rattle.sv_shown.proofs.First.{first_fresh}
use Rattle.sv_shown.proofs.Whole.{shown_course}
use Rattle.sv_shown.proofs.laws.first_page_is_fresh.Goals as goal

pub returns : goal.returns
returns c = λ p m compiled keys. first_fresh p compiled keys (λ ms. shown_course p ms compiled keys) m
