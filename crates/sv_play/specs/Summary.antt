-- The sums of a run.
use Rattle.std.specs.Prelude.{ℕ, ◌+◌, Bool, true, false, List, [], ◌∷◌, length, None, Result, Ok, Err}
use Rattle.sv_code.specs.declared.program.Program.{Program}
use Rattle.sv_document.specs.Printed.{html}
use Rattle.sv_events.specs.declared.event.Event.{Event}
use Rattle.sv_flush.specs.Outcome.{Outcome, Done, Halted}
use Rattle.sv_flush.specs.Page.{blank}
use Rattle.sv_flush.specs.declared.page.Page.{Page}
use Rattle.sv_page.specs.Run.{run}
use Rattle.sv_page.specs.Turns.{nodes_of}
use Rattle.sv_parts.specs.declared.refusal.Refusal.{Refusal}
use Rattle.sv_play.specs.Lines.{summary_line}
use Rattle.sv_play.specs.Refused.{refused_line}
use Rattle.sv_play.specs.Run.{Printed}
use Rattle.sv_play.specs.declared.summary.Sums.{Sums}

-- how many bytes a page has
abbrev pub page_bytes : Program → Page → ℕ
page_bytes p m = length (html None (nodes_of p m))

-- the evaluations of all turns behind some, and the length of the last page; or the first refusal
abbrev pub sums_after : Program → ℕ → Page → List (Outcome Bool) → Result Sums Refusal
sums_after p evaluations m [] = Ok (record { evaluations = evaluations; bytes = page_bytes p m })
sums_after p evaluations m (Done target m' ∷ outcomes) = sums_after p (evaluations + m'.tally.count) m' outcomes
sums_after p evaluations m (Halted r m' ∷ outcomes) = Err r

-- those of a run
unfoldable pub sums : Program → List Event → Result Sums Refusal
sums p events = sums_after p 0 blank (run p events)

abbrev pub summed : Program → ℕ → Result Sums Refusal → Printed
summed p count (Ok sums) = record { text = summary_line count sums.evaluations sums.bytes; refused = false }
summed p count (Err r) = record { text = refused_line p r; refused = true }

-- what is printed of them: one line, or why a turn is refused
abbrev pub summary : Program → List Event → Printed
summary p events = summed p (length events) (sums p events)
