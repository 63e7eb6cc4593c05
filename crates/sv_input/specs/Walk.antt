-- An event goes from its target to the outermost element (DOM Standard, 'Dispatching events').
use Rattle.std.specs.List.{list_any}
use Rattle.std.specs.Option.{option_map_or}
use Rattle.std.specs.Prelude.{Bool, true, false, ◌&&◌, List, [], ◌∷◌, Option, Some, None, slice_get}
use Rattle.sv_code.specs.declared.program.Program.{Program}
use Rattle.sv_document.specs.Element.{Element}
use Rattle.sv_document.specs.Listener.{Listener}
use Rattle.sv_document.specs.declared.listener.Directive.{Directive}
use Rattle.sv_document.specs.declared.listener.Directive.TheVariants as directive
use Rattle.sv_events.specs.declared.event.Event.{Event}
use Rattle.sv_input.specs.Binding.{value_told, check_told}
use Rattle.sv_input.specs.Delivery.{Delivery}
use Rattle.sv_input.specs.Handling.{hears, handler_told}
use Rattle.sv_input.specs.Typed.{taken}
use Rattle.sv_meaning.specs.Outcome.{Ends, Deed, then_do}
use Rattle.sv_meaning.specs.Runs.{each_in_turn}

-- a directive is told of an event; `here` says whether its element is the target
abbrev pub told_at : Delivery → (here : Bool) → Listener → Directive → Deed (Unit {0})
told_at d here l (directive.Handler n) = handler_told d here (slice_get d.program.handlers n) l
told_at d here l (directive.BindValue b) = value_told d here l.inst b
told_at d here l (directive.BindChecked b) = check_told d here l.inst b

abbrev pub told : Delivery → (here : Bool) → Listener → Deed (Unit {0})
told d here l = told_at d here l l.at

-- the directives of an element in the order of the text
abbrev pub element_told : Delivery → (here : Bool) → List Listener → Deed (Unit {0})
element_told d here listeners = each_in_turn (told d here) listeners

-- a handler that hears of the event and has the modifier `stopPropagation` ends its way, whatever its value is
abbrev pub stops_at : Delivery → (here : Bool) → Directive → Bool
stops_at d here (directive.Handler n) = option_map_or (λ h. hears d here h && h.modifiers.stop) (slice_get d.program.handlers n) false
stops_at d here _ = false

abbrev pub stops : Delivery → (here : Bool) → Element → Bool
stops d here e = list_any (λ (l : Listener). stops_at d here l.at) e.listeners

-- the elements round one, unless it ended the way
abbrev pub unless : Bool → Deed (Unit {0}) → Deed (Unit {0})
unless true deed w = Ends tt w
unless false deed w = deed w

-- the elements round the target, from the innermost on
abbrev pub climbed : Delivery → List Element → Deed (Unit {0})
climbed d [] w = Ends tt w
climbed d (e ∷ outer) w = then_do (element_told d false e.listeners w) (λ u. unless (stops d false e) (climbed d outer))

-- the target, and then those round it
abbrev pub walked : Delivery → List Element → Deed (Unit {0})
walked d outer w = then_do (element_told d true d.target.listeners w) (λ u. unless (stops d true d.target) (climbed d outer))

-- the way of an event to an element
abbrev pub delivery : Program → Event → Element → Delivery
delivery p event e = record { program = p; event = event; target = e; typed = taken e event }

-- what an event does in the world of a page, and whether there is an element for it: the first on its path is the target
abbrev pub dispatched : Program → Event → Option (List Element) → Deed Bool
dispatched p event None w = Ends false w
dispatched p event (Some []) w = Ends false w
dispatched p event (Some (e ∷ outer)) w = then_do (walked (delivery p event e) outer w) (λ u. Ends true)
