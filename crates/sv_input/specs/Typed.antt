-- What an input takes of an event, and where that is laid down (HTML, 'The input element').
use Rattle.std.specs.List.{list_any}
use Rattle.std.specs.Prelude.{ℕ, Bool, true, false, List, [], ◌∷◌, codes, Option, Some, None, option_map, if◌then◌else◌}
use Rattle.std.specs.Str.{bytes_eq}
use Rattle.sv_document.specs.Element.{Element}
use Rattle.sv_document.specs.Listener.{Listener}
use Rattle.sv_document.specs.Shown.{is_check_kind, is_number_kind}
use Rattle.sv_document.specs.declared.listener.Directive.{Directive}
use Rattle.sv_document.specs.declared.listener.Directive.TheVariants as directive
use Rattle.sv_events.specs.declared.event.Event.{Event}
use Rattle.sv_input.specs.Number.{spelling}
use Rattle.sv_shapes.specs.Showing.{Showing, laid_on}
use Rattle.sv_tokens.specs.declared.element.Typed.{Typed}
use Rattle.sv_tokens.specs.declared.element.Typed.TheVariants as typed

-- a text as an input shows it: one for numbers shows the number alone
abbrev pub shown_text : Bool → List ℕ → List ℕ
shown_text numbers t = if numbers then spelling t else t

-- a box takes whether it is checked, another input a text
abbrev pub taken_by : (box numbers : Bool) → Event → Option Typed
taken_by true numbers event = option_map typed.Checked event.checked
taken_by false numbers event = option_map (λ t. typed.Text (shown_text numbers t)) event.value

-- what an element takes of an event, if it is an input
abbrev pub taken : Element → Event → Option Typed
taken e event = if bytes_eq e.name (codes "input") then taken_by (is_check_kind e) (is_number_kind e) event else None

-- ---- inputs that are bound

-- a directive that assigns such a state to a variable
abbrev pub assigns : Typed → Directive → Bool
assigns (typed.Text t) (directive.BindValue b) = true
assigns (typed.Checked c) (directive.BindChecked b) = true
assigns t d = false

-- an element whose state of this kind is kept by a variable
abbrev pub is_bound : Typed → Element → Bool
is_bound t e = list_any (λ (l : Listener). assigns t l.at) e.listeners

-- ---- what is laid down

abbrev pub laid : Option Typed → Element → Showing → Showing
laid None e s = s
laid (Some t) e s = if is_bound t e then s else laid_on s e.inst e.mark t

-- what the target takes of an event is laid down on it, unless a variable keeps it
abbrev pub laid_down : Option (List Element) → Event → Showing → Showing
laid_down None event s = s
laid_down (Some []) event s = s
laid_down (Some (e ∷ outer)) event s = laid (taken e event) e s
