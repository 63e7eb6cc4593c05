-- An event on its way through a page.
use Rattle.std.specs.Prelude.{Option, option_copied}
use Rattle.sv_code.specs.declared.program.Program.{Program}
use Rattle.sv_document.specs.Element.{Element}
use Rattle.sv_events.specs.declared.event.Event.{Event}
use Rattle.sv_input.specs.declared.delivery.Delivery as handed
use Rattle.sv_tokens.specs.declared.element.Typed.{Typed}

-- the program, the event, the element that it went to, and what that takes of it
pub record Delivery : Type 0 where
  pub program : Program
  pub event : Event
  pub target : Element
  pub typed : Option Typed

-- the one that code is handed
abbrev pub seen : handed.Delivery → Delivery
seen d = record { program = d.desk.now.program.now; event = d.desk.now.event.now; target = d.target.now; typed = option_copied d.typed }
