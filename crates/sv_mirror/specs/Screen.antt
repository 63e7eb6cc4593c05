-- What is still to be printed of a stream, from a page on that followed it so far.
use Rattle.std.specs.Prelude.{◌≡◌, ℕ, suc, List, [], ◌∷◌, Option, Some, None, if◌then◌else◌}
use Rattle.sv_io.specs.Sink.{with_bytes}
use Rattle.sv_tokens.specs.Replay.{replay}
use Rattle.sv_tokens.specs.Seen.{View}
use Rattle.sv_watch.specs.Fits.{fits}
use Rattle.sv_watch.specs.Mirror.{page_html}
use Rattle.sv_wire.specs.Stream.{Standing, Told}
use Rattle.sv_wire.specs.declared.item.Item.{Item}
use Rattle.sv_wire.specs.declared.item.Item.TheVariants as item
use Rattle.sv_wire.specs.declared.item.Placed.{Placed}
use Rattle.sv_mirror.specs.Faults.{fault_of}
use Rattle.sv_mirror.specs.Printed.{Printed, ends, after, turn_text}
use Rattle.sv_mirror.specs.declared.fault.StreamFault.{StreamFault}
use Rattle.sv_mirror.specs.declared.fault.StreamFault.TheVariants as faults
use Rattle.sv_mirror.specs.declared.screen.Screen.{Screen}

-- the item at an offset, on a page and behind so many turns, and what follows it
abbrev pub at_page : ℕ → Item → (View → ℕ → Printed) → View → ℕ → Printed
at_page at (item.Change c) more page turns = if fits c page then more (replay c page) turns else ends (Some (faults.Unfit at))
at_page at (item.Turn target) more page turns = after (turn_text turns target (page_html page.tokens)) (more page (suc turns))
at_page at item.End more page turns = more page turns

-- the items one after another; behind them the stream stands so
abbrev pub from_page : List Placed → Standing → View → ℕ → Printed
from_page [] standing page turns = ends (fault_of standing)
from_page (placed ∷ items) standing page turns = at_page placed.at placed.item (from_page items standing) page turns

-- what is printed of what is told
abbrev pub printed_on : Screen → Told → Printed
printed_on screen told = from_page told.items told.standing screen.page screen.turns

-- nothing is left behind a fault
abbrev pub left : Option StreamFault → Printed → Printed
left None rest = rest
left (Some fault) rest = ends (Some fault)

-- some text was written, and the rest of what is to be printed is left
pub record Prints (old new : Option (List ℕ)) (whole rest : Printed) : Type 0 where
  pub text : List ℕ
  pub written : new ≡ with_bytes old text
  pub is : whole ≡ after text rest
