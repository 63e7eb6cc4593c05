-- What is printed of a run, turn by turn.
use Rattle.std.specs.Prelude.{ℕ, suc, Bool, true, false, List, [], ◌∷◌, ◌++◌, if◌then◌else◌}
use Rattle.std.specs.List.{list_any}
use Rattle.sv_code.specs.declared.program.Program.{Program}
use Rattle.sv_document.specs.Numbers.{Numbers, unnumbered, numbered}
use Rattle.sv_document.specs.Printed.{html}
use Rattle.sv_document.specs.declared.tree.Node.{Node}
use Rattle.sv_events.specs.declared.event.Event.{Event}
use Rattle.sv_flush.specs.Outcome.{Outcome, Done, Halted}
use Rattle.sv_flush.specs.declared.page.Page.{Page}
use Rattle.sv_page.specs.Run.{run}
use Rattle.sv_page.specs.Turns.{nodes_of}
use Rattle.sv_play.specs.Lines.{turn_line, log_lines, tally_line}
use Rattle.sv_play.specs.Refused.{refused_line}
use Rattle.sv_play.specs.declared.flags.Flags.{Flags}
use Rattle.sv_session.specs.Plays.{told, shown_numbers}

-- what was printed, and whether the last turn was refused
pub record Printed : Type 0 where
  pub text : List ℕ
  pub refused : Bool

-- the line of a turn by its number, and what was logged where that is asked for
abbrev pub head : Flags → ℕ → Bool → Page → List ℕ
head flags number target m = turn_line number target ++ log_lines flags.logs m.world.turn.log

-- the line of a turn's tally, where it is asked for
abbrev pub tally : Flags → Bool → Page → List ℕ
tally flags target m = if flags.tally then tally_line (told target m) else []

-- a turn that was played: its head, what is shown, with these numbers where they are asked for, and its tally
abbrev pub page_text : Flags → ℕ → Bool → Page → Numbers → List Node → List ℕ
page_text flags number target m ns nodes = head flags number target m ++ (html (shown_numbers flags.serials ns) nodes ++ (10 ∷ tally flags target m))

-- what is shown is numbered, where numbers are asked for
abbrev pub renumbered : Flags → List Node → Numbers → Numbers
renumbered flags nodes ns = if flags.serials then numbered nodes ns else ns

-- what is printed of a turn by its number, once the page before had these numbers; of a refused one it is its head and why it is refused
abbrev pub turn_text : Program → Flags → ℕ → Numbers → Outcome Bool → List ℕ
turn_text p flags number ns (Done target m) = page_text flags number target m (renumbered flags (nodes_of p m) ns) (nodes_of p m)
turn_text p flags number ns (Halted r m) = head flags number true m ++ refused_line p r

abbrev pub numbers_after : Program → Flags → Outcome Bool → Numbers → Numbers
numbers_after p flags (Done target m) ns = renumbered flags (nodes_of p m) ns
numbers_after p flags (Halted r m) ns = ns

-- what is printed of turns, from the one with a number on
abbrev pub turn_texts : Program → Flags → ℕ → Numbers → List (Outcome Bool) → List ℕ
turn_texts p flags number ns [] = []
turn_texts p flags number ns (o ∷ outcomes) = turn_text p flags number ns o ++ turn_texts p flags (suc number) (numbers_after p flags o ns) outcomes

abbrev pub is_refused : Outcome Bool → Bool
is_refused (Done target m) = false
is_refused (Halted r m) = true

-- a run: each turn in order
unfoldable pub printed : Program → Flags → List Event → Printed
printed p flags events = record { text = turn_texts p flags 0 unnumbered (run p events); refused = list_any is_refused (run p events) }
