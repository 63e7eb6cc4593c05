-- What is printed of a stream: the page at each turn, up to the stream's end or its first fault.
use Rattle.std.specs.Prelude.{ℕ, suc, Bool, List, [], ◌∷◌, ◌++◌, Option, Some, if◌then◌else◌}
use Rattle.sv_heads.specs.Lines.{turn_line}
use Rattle.sv_tokens.specs.declared.change.Change.{Change}
use Rattle.sv_watch.specs.Fits.{fits}
use Rattle.sv_watch.specs.Mirror.{mirrored, mirror_html}
use Rattle.sv_wire.specs.Stream.{Standing, told}
use Rattle.sv_wire.specs.declared.item.Item.{Item}
use Rattle.sv_wire.specs.declared.item.Item.TheVariants as item
use Rattle.sv_wire.specs.declared.item.Placed.{Placed}
use Rattle.sv_mirror.specs.Faults.{line_of, fault_of}
use Rattle.sv_mirror.specs.declared.fault.StreamFault.{StreamFault}
use Rattle.sv_mirror.specs.declared.fault.StreamFault.TheVariants as faults

-- the text of the turns, and the fault that ends them
pub record Printed : Type 0 where
  pub turns : List ℕ
  pub fault : Option StreamFault

-- there is no turn more
abbrev pub ends : Option StreamFault → Printed
ends fault = record { turns = []; fault = fault }

-- what is printed behind this text
abbrev pub after : List ℕ → Printed → Printed
after text p = record { turns = text ++ p.turns; fault = p.fault }

-- a turn by its number: its line, and the text of the page
abbrev pub turn_text : ℕ → Bool → List ℕ → List ℕ
turn_text number target page = turn_line number target ++ (page ++ 10 ∷ [])

-- The item at an offset, behind these changes and so many turns, and what follows it. A change has to fit the page that those before it made, and a turn shows that page.
abbrev pub at_item : ℕ → Item → (List Change → ℕ → Printed) → List Change → ℕ → Printed
at_item at (item.Change c) more changes turns = if fits c (mirrored changes) then more (changes ++ c ∷ []) turns else ends (Some (faults.Unfit at))
at_item at (item.Turn target) more changes turns = after (turn_text turns target (mirror_html changes)) (more changes (suc turns))
at_item at item.End more changes turns = more changes turns

-- the items one after another; behind them the stream stands so
abbrev pub printed_from : List Placed → Standing → List Change → ℕ → Printed
printed_from [] standing changes turns = ends (fault_of standing)
printed_from (placed ∷ items) standing changes turns = at_item placed.at placed.item (printed_from items standing) changes turns

-- the whole stream
abbrev pub printed : List ℕ → Printed
printed bytes = printed_from (told bytes).items (told bytes).standing [] 0

-- all of it: the turns, and the line of the fault
abbrev pub text_of : Printed → List ℕ
text_of p = p.turns ++ line_of p.fault
