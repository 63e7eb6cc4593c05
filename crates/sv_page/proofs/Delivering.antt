-- What stays true of the states while an event goes its way.
use Rattle.std.proofs.Common.{◌≡◌, subst, ℕ, Bool, true, false, List, [], ◌∷◌, Option, Some, None, Result, Ok, Err, slice_get}
use Rattle.sv_base.specs.declared.span.Span.{Span}
use Rattle.sv_code.specs.declared.parts.Part.{Part}
use Rattle.sv_code.specs.declared.program.Program.{Program}
use Rattle.sv_code.specs.declared.tags.Handler.{Handler}
use Rattle.sv_document.specs.Element.{Element}
use Rattle.sv_document.specs.Listener.{Listener}
use Rattle.sv_document.specs.Shown.{is_number_kind}
use Rattle.sv_document.specs.declared.listener.Binding.{Binding}
use Rattle.sv_document.specs.declared.listener.Directive.{Directive}
use Rattle.sv_document.specs.declared.listener.Directive.TheVariants as directive
use Rattle.sv_events.specs.declared.event.Event.{Event}
use Rattle.sv_frame.proofs.Outcomes.{Fact, at_ends, Left, Stays, Leaves, then_leaves, ends_leaves, fails_leaves, answered_leaves, left_leaves}
use Rattle.sv_frame.proofs.Running.{teller_keeps, calls_keep, called_leaves, in_turn_leaves}
use Rattle.sv_frame.proofs.Calls.{set_keeps}
use Rattle.sv_frame.proofs.Staying.{computed_stay}
use Rattle.sv_frame.specs.Computed.{AreComputed, LeavesComputed}
use Rattle.sv_input.specs.Binding.{assigned, typed_value, value_bound, check_bound}
use Rattle.sv_input.specs.Delivery.{Delivery}
use Rattle.sv_input.specs.Handling.{hears, with_object, heard_value, heard_result, heard_on, heard, heard_if, handler_told}
use Rattle.sv_input.specs.Object.{object_of}
use Rattle.sv_input.specs.Walk.{told_at, told, element_told, stops, unless, climbed, walked, delivery, dispatched}
use Rattle.sv_meaning.specs.Listeners.{listener_view}
use Rattle.sv_meaning.specs.Outcome.{Ends, Deed}
use Rattle.sv_meaning.specs.Parts.{part_value}
use Rattle.sv_meaning.specs.Runs.{world_ground, calls}
use Rattle.sv_ops.specs.declared.faults.Fault.{Fault}
use Rattle.sv_ops.specs.declared.faults.FaultKind.TheVariants.{NotAFunction}
use Rattle.sv_states.specs.States.{States}
use Rattle.sv_value.specs.Value.{Val, undefined, null, boolean, number, text, list, object, function, store}
use Rattle.sv_view.specs.Level.{View}
use Rattle.sv_world.specs.declared.world.World.{World}

module _ (d : Delivery) {P : Fact} (stay : Stays d.program P) where
  -- ---- variables that follow inputs

  assigned_leaves : (inst : ℕ) (b : Binding) (v : Val) → Leaves P (assigned d.program inst b v)
  assigned_leaves inst b v = then_leaves (left_leaves [] (set_keeps stay (calls d.program) (calls_keep stay) (world_ground d.program) inst b.target v b.span)) (λ u. ends_leaves tt)

  value_leaves : (inst : ℕ) (b : Binding) (o : Option (List ℕ)) → Leaves P (value_bound d inst b o)
  value_leaves inst b None = ends_leaves tt
  value_leaves inst b (Some t) = then_leaves (answered_leaves b.span (typed_value (is_number_kind d.target) t)) (assigned_leaves inst b)

  check_leaves : (inst : ℕ) (b : Binding) (o : Option Bool) → Leaves P (check_bound d inst b o)
  check_leaves inst b None = ends_leaves tt
  check_leaves inst b (Some c) = assigned_leaves inst b (boolean c)

  -- ---- handlers

  object_leaves : (at : Span) {go : Val → Deed (Unit {0})} → ((e : Val) → Leaves P (go e)) → Leaves P (with_object d at go)
  object_leaves at k = then_leaves (answered_leaves at (object_of d)) k

  heard_value_leaves : (at s : Span) (v : Val) → Leaves P (heard_value d at s v)
  heard_value_leaves at s (function c o held) = object_leaves at (λ e. then_leaves (called_leaves stay (function c o held) (e ∷ []) s) (λ v. ends_leaves tt))
  heard_value_leaves at s undefined = ends_leaves tt
  heard_value_leaves at s null = ends_leaves tt
  heard_value_leaves at s (boolean b) = fails_leaves NotAFunction s
  heard_value_leaves at s (number n) = fails_leaves NotAFunction s
  heard_value_leaves at s (text t) = fails_leaves NotAFunction s
  heard_value_leaves at s (list vs) = fails_leaves NotAFunction s
  heard_value_leaves at s (object fs) = fails_leaves NotAFunction s
  heard_value_leaves at s (store id) = fails_leaves NotAFunction s

  heard_result_leaves : (at s : Span) (r : Result Val Fault) → Leaves P (heard_result d at s r)
  heard_result_leaves at s (Ok v) = heard_value_leaves at s v
  heard_result_leaves at s (Err f) = fails_leaves f.kind f.span

  heard_on_leaves : (o : Option View) (at : Span) (part : Part) → Leaves P (heard_on o d at part)
  heard_on_leaves None at part = ends_leaves tt
  heard_on_leaves (Some v) at part = heard_result_leaves at part.span (part_value d.program v part)

  heard_leaves : (at : Span) (o : Option Part) (l : Listener) → Leaves P (heard d at o l)
  heard_leaves at None l = object_leaves at (λ e. teller_keeps stay (calls d.program) (calls_keep stay) l.inst d.event.name e)
  heard_leaves at (Some part) l = record { held = λ w h. (heard_on_leaves (listener_view w l.inst l.locals) at part).held w h }

  heard_if_leaves : (b : Bool) (h : Handler) (l : Listener) → Leaves P (heard_if b d h l)
  heard_if_leaves true h l = heard_leaves h.span h.listener l
  heard_if_leaves false h l = ends_leaves tt

  handler_leaves : (here : Bool) (o : Option Handler) (l : Listener) → Leaves P (handler_told d here o l)
  handler_leaves here None l = ends_leaves tt
  handler_leaves here (Some h) l = heard_if_leaves (hears d here h) h l

  -- ---- the way

  at_leaves : (here : Bool) (l : Listener) (x : Directive) → Leaves P (told_at d here l x)
  at_leaves here l (directive.Handler n) = handler_leaves here (slice_get d.program.handlers n) l
  at_leaves here l (directive.BindValue b) = value_leaves l.inst b _
  at_leaves here l (directive.BindChecked b) = check_leaves l.inst b _

  element_leaves : (here : Bool) (ls : List Listener) → Leaves P (element_told d here ls)
  element_leaves here ls = in_turn_leaves stay (told d here) ls (λ l. at_leaves here l l.at)

  unless_leaves : (b : Bool) {deed : Deed (Unit {0})} → Leaves P deed → Leaves P (unless b deed)
  unless_leaves true k = ends_leaves tt
  unless_leaves false k = k

  climbed_leaves : (outer : List Element) → Leaves P (climbed d outer)
  climbed_leaves [] = ends_leaves tt
  climbed_leaves (e ∷ outer) = then_leaves (element_leaves false e.listeners) (λ u. unless_leaves (stops d false e) (climbed_leaves outer))

  pub walked_leaves : (outer : List Element) → Leaves P (walked d outer)
  walked_leaves outer = then_leaves (element_leaves true d.target.listeners) (λ u. unless_leaves (stops d true d.target) (climbed_leaves outer))

-- an event on a page
dispatched_ends : (p : Program) (event : Event) (path : Option (List Element)) (w w' : World) (a : Bool) → AreComputed p w.states → dispatched p event path w ≡ Ends a w' → Left (at_ends (AreComputed p)) (dispatched p event path w)
dispatched_ends p event None w w' a h e = h
dispatched_ends p event (Some []) w w' a h e = h
dispatched_ends p event (Some (x ∷ outer)) w w' a h e = (then_leaves (walked_leaves (delivery p event x) computed_stay outer) (λ u. ends_leaves true)).held w h

pub dispatched_computed : (p : Program) (event : Event) (path : Option (List Element)) → LeavesComputed p (dispatched p event path)
dispatched_computed p event path w w' a h e = subst (Left (at_ends (AreComputed p))) e (dispatched_ends p event path w w' a h e)
