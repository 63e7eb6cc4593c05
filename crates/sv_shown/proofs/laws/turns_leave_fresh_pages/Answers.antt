use Rattle.sv_shown.proofs.Turning.{run_fresh, run_right}
use Rattle.sv_shown.proofs.Whole.{shown_course}
use Rattle.sv_shown.proofs.laws.turns_leave_fresh_pages.Goals as goal

pub returns : goal.returns
returns c = record {
  page = λ p events compiled keys. run_fresh p compiled (λ ms. shown_course p ms compiled keys) keys events;
  held = λ p events compiled keys. run_right p compiled (λ ms. shown_course p ms compiled keys) keys events;
}
