-- Listeners of elements (Svelte 4 docs, 'on:eventname'): the expression is evaluated as the event comes, and its value is called with the event's
-- object. One without an expression passes the object on to the listeners of the component's own tag.
use Rattle.std.specs.Prelude.{ℕ, Bool, true, false, ◌&&◌, ◌||◌, not, [], ◌∷◌, Option, Some, None, Result, Ok, Err}
use Rattle.sv_base.specs.Names.{is_text}
use Rattle.sv_base.specs.declared.span.Span.{Span}
use Rattle.sv_code.specs.declared.parts.Part.{Part}
use Rattle.sv_code.specs.declared.tags.Handler.{Handler}
use Rattle.sv_document.specs.Listener.{Listener}
use Rattle.sv_input.specs.Delivery.{Delivery}
use Rattle.sv_input.specs.Object.{object_of}
use Rattle.sv_meaning.specs.Listeners.{listener_view, teller}
use Rattle.sv_meaning.specs.Outcome.{Ends, Fails, Deed, then_do, answered}
use Rattle.sv_meaning.specs.Parts.{part_value}
use Rattle.sv_meaning.specs.Runs.{calls, called}
use Rattle.sv_ops.specs.declared.faults.Fault.{Fault}
use Rattle.sv_ops.specs.declared.faults.FaultKind.TheVariants.{NotAFunction}
use Rattle.sv_value.specs.Value.{Val, undefined, null, function}
use Rattle.sv_view.specs.Level.{View}

-- a handler hears of its event; with the modifier `self` where the event went to this very element
abbrev pub hears : Delivery → (here : Bool) → Handler → Bool
hears d here h = is_text d.program.names d.event.name h.name && (here || not h.modifiers.only_self)

-- something is done with the event's object, whose limits count at a place
abbrev pub with_object : Delivery → Span → (Val → Deed (Unit {0})) → Deed (Unit {0})
with_object d at go w = then_do (answered at (object_of d) w) go

-- a function is called, and what it gives is let go
abbrev pub called_with : Delivery → Span → Val → Val → Deed (Unit {0})
called_with d s f e w = then_do (called d.program f (e ∷ []) s w) (λ v. Ends tt)

-- the value of a handler's expression is called; `undefined` and `null` are passed over, and another value that is no function can't be
abbrev pub heard_value : Delivery → Span → Span → Val → Deed (Unit {0})
heard_value d at s undefined w = Ends tt w
heard_value d at s null w = Ends tt w
heard_value d at s (function c o held) w = with_object d at (called_with d s (function c o held)) w
heard_value d at s _ w = Fails NotAFunction s w

abbrev pub heard_result : Delivery → Span → Span → Result Val Fault → Deed (Unit {0})
heard_result d at s (Ok v) w = heard_value d at s v w
heard_result d at s (Err f) w = Fails f.kind f.span w

abbrev pub heard_on : Option View → Delivery → Span → Part → Deed (Unit {0})
heard_on None d at part w = Ends tt w
heard_on (Some v) d at part w = heard_result d at part.span (part_value d.program v part) w

-- the listeners of the component's own tag are told
abbrev pub passed_on : Delivery → Span → ℕ → Deed (Unit {0})
passed_on d at inst w = with_object d at (teller d.program (calls d.program) inst d.event.name) w

-- a handler of an element: its expression is evaluated on the present cells of the instance, with the locals that are seen there
abbrev pub heard : Delivery → Span → Option Part → Listener → Deed (Unit {0})
heard d at None l w = passed_on d at l.inst w
heard d at (Some part) l w = heard_on (listener_view w l.inst l.locals) d at part w

abbrev pub heard_if : Bool → Delivery → Handler → Listener → Deed (Unit {0})
heard_if true d h l w = heard d h.span h.listener l w
heard_if false d h l w = Ends tt w

abbrev pub handler_told : Delivery → (here : Bool) → Option Handler → Listener → Deed (Unit {0})
handler_told d here None l w = Ends tt w
handler_told d here (Some h) l w = heard_if (hears d here h) d h l w
