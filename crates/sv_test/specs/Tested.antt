-- What is printed of a test. An expectation speaks of the page after the events before it.
use Rattle.std.specs.Prelude.{ℕ, suc, Bool, List, [], ◌∷◌, ◌++◌, if◌then◌else◌}
use Rattle.sv_checks.specs.Deeds.{Deed, Comes, Checks}
use Rattle.sv_checks.specs.Report.{Report, empty, checked, finished, is_failed}
use Rattle.sv_code.specs.declared.program.Program.{Program}
use Rattle.sv_events.specs.declared.event.Event.{Event}
use Rattle.sv_flush.specs.Outcome.{Outcome, Done, Halted}
use Rattle.sv_flush.specs.declared.page.Page.{Page}
use Rattle.sv_page.specs.Run.{run}
use Rattle.sv_page.specs.Turns.{nodes_of}
use Rattle.sv_parts.specs.declared.refusal.Refusal.{Refusal}
use Rattle.sv_play.specs.Refused.{refused_line}
use Rattle.sv_test.specs.declared.play.Ended.{Ended}
use Rattle.sv_test.specs.declared.play.Ended.TheVariants.{Passed, Failed, Refused}

-- how far a test was played: to its end, or to a turn that is refused; and what was printed until then
pub data Played : Type 0 where
  Ends : (report : Report) → Played
  Stops : (refusal : Refusal) (report : Report) → Played

-- the events among deeds, in order
abbrev pub events_in : List Deed → List Event
events_in [] = []
events_in (Comes event ∷ deeds) = event ∷ events_in deeds
events_in (Checks selector want ∷ deeds) = events_in deeds

-- the next of some turns, and what follows on the page that it left
abbrev pub next_turn_of : List (Outcome Bool) → Report → (Page → List (Outcome Bool) → Played) → Played
next_turn_of [] report further = Ends report
next_turn_of (Done target m ∷ turns) report further = further m turns
next_turn_of (Halted r m ∷ turns) report further = Stops r report

-- deeds from the one with a number on, on a page, with the turns of the events among them
abbrev pub played_from : Program → (at : ℕ) → List Deed → Report → Page → List (Outcome Bool) → Played
played_from p at [] report m turns = Ends report
played_from p at (Comes event ∷ deeds) report m turns = next_turn_of turns report (played_from p (suc at) deeds report)
played_from p at (Checks selector want ∷ deeds) report m turns = played_from p (suc at) deeds (checked at (nodes_of p m) selector want report) m turns

-- a test: the page is mounted, and then the deeds come in turn
unfoldable pub played : Program → List Deed → Report → Played
played p deeds report = next_turn_of (run p (events_in deeds)) report (played_from p 0 deeds report)

-- what was printed, and how the test ended
pub record Tested : Type 0 where
  pub text : List ℕ
  pub ended : Ended

abbrev pub ended : Bool → Ended
ended failed = if failed then Failed else Passed

-- the lines so far, and the line of a refused turn behind them
abbrev pub refused_text : Program → Refusal → Report → List ℕ
refused_text p r report = report.text ++ refused_line p r

abbrev pub printed : Program → Played → Tested
printed p (Ends report) = record { text = (finished report).text; ended = ended (is_failed report) }
printed p (Stops r report) = record { text = refused_text p r report; ended = Refused }

abbrev pub tested : Program → List Deed → Tested
tested p deeds = printed p (played p deeds empty)
