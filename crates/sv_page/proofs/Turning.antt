-- Each turn that isn't refused leaves a page that is current.
use Rattle.std.proofs.Common.{◌≡◌, ℕ, Bool, true, false, List, [], ◌∷◌, Option, Some, None, Result, Ok, Err, OnOk, refl, sym, ap, subst, ◌∙◌, if◌then◌else◌}
use Rattle.std.specs.List.{All}
use Rattle.std.proofs.lemmas.List.Elements.{All-nil, All-cons}
use Rattle.sv_code.specs.declared.program.Program.{Program}
use Rattle.sv_document.specs.Element.{Element}
use Rattle.sv_document.specs.declared.tree.Node.{Node}
use Rattle.sv_events.specs.declared.event.Event.{Event}
use Rattle.sv_flush.proofs.Blank.{blank_tracked, blank_lending}
use Rattle.sv_flush.proofs.Bringing.{Afterwards}
use Rattle.sv_flush.proofs.Derived.{mounted-computed, flushed-computed, blank_computed}
use Rattle.sv_flush.proofs.Holding.{shown-found}
use Rattle.sv_flush.proofs.Lending.{Lends, lends_stay, lends_of, holds_of, lends-laid}
use Rattle.sv_flush.proofs.Presenting.{presents, mounted-tracked, flushed-tracked, mounted-lending, flushed-lending}
use Rattle.sv_flush.proofs.Recording.{records-laid}
use Rattle.sv_flush.proofs.Settling.{settled-flushed}
use Rattle.sv_flush.proofs.Tracking.{Tracks, tracks_stay}
use Rattle.sv_flush.specs.Creation.{mounted}
use Rattle.sv_flush.specs.Flush.{flushed}
use Rattle.sv_flush.specs.Meets.{Meets}
use Rattle.sv_flush.specs.Outcome.{Outcome, Done, Halted, and_then, ended}
use Rattle.sv_flush.specs.Page.{blank, begun}
use Rattle.sv_flush.specs.Records.{nobody}
use Rattle.sv_flush.specs.declared.page.Page.{Page}
use Rattle.sv_frame.proofs.Outcomes.{at_ends, Stays, Left, both_stay}
use Rattle.sv_frame.proofs.Staying.{computed_stay}
use Rattle.sv_frame.specs.Computed.{AreComputed}
use Rattle.sv_frame.specs.Snapshots.{snapshots}
use Rattle.sv_input.specs.Named.{named}
use Rattle.sv_input.specs.Typed.{taken, is_bound, laid, laid_down}
use Rattle.sv_input.specs.Walk.{walked, delivery, dispatched}
use Rattle.sv_meaning.specs.Outcome.{Ending, Ends, Fails, then_do}
use Rattle.sv_page.proofs.Delivering.{walked_leaves}
use Rattle.sv_page.specs.Current.{IsCurrent, LeavesCurrent}
use Rattle.sv_page.specs.Run.{followed, turns, run}
use Rattle.sv_page.specs.Turns.{nodes_of, settled, first_turn, next_turn}
use Rattle.sv_parts.specs.declared.refusal.PatchError.{PatchError}
use Rattle.sv_shapes.specs.Showing.{Showing, shown_of, laid_in, laid_on}
use Rattle.sv_shapes.specs.declared.shown.Shown.{Shown}
use Rattle.sv_states.specs.Sound.{IsSound}
use Rattle.sv_states.specs.States.{States}
use Rattle.sv_tokens.specs.declared.element.Typed.{Typed}

-- what is shown, the views that are held and the values of derived stores go with the states
abbrev Goes : Program → List (ℕ × Shown) → States → Type 0
Goes p shown states = Tracks nobody shown states × (Lends [] shown states × AreComputed p states)

go_on : (p : Program) (shown : List (ℕ × Shown)) → Stays p (at_ends (Goes p shown))
go_on p shown = both_stay (tracks_stay p shown) (both_stay (lends_stay [] shown p) computed_stay)

-- a page behind a turn, and what is so of it
abbrev Known : Program → Page → Type 0
Known p m = Goes p m.showing.shown m.world.states × IsCurrent p m

abbrev Knows : Program → Outcome Bool → Type 0
Knows p o = Afterwards (Known p) o

-- ---- what users leave

module _ (p : Program) where
  goes_in : (s : Showing) (n mark : ℕ) (left : Typed) (o : Option Shown) (states : States) → shown_of s n ≡ o → Goes p s.shown states → Goes p (laid_in s n mark left o).shown states
  goes_in s n mark left None states is h = h
  goes_in s n mark left (Some x) states is h =
      (record { sound = h.0.sound; records = records-laid nobody (snapshots states) n s.shown x _ is refl h.0.records }, (lends-laid [] s.shown states n _ (shown-found s.shown n x is) h.1.0, h.1.1))

  goes_if : (b : Bool) (s t : Showing) (states : States) → Goes p s.shown states → Goes p t.shown states → Goes p (if b then s else t).shown states
  goes_if true s t states h k = h
  goes_if false s t states h k = k

  goes_laid : (o : Option Typed) (e : Element) (s : Showing) (states : States) → Goes p s.shown states → Goes p (laid o e s).shown states
  goes_laid None e s states h = h
  goes_laid (Some left) e s states h = goes_if (is_bound left e) s (laid_on s e.inst e.mark left) states h (goes_in s e.inst e.mark left (shown_of s e.inst) states refl h)

-- ---- turns

flushed_known : (p : Program) (m : Page) (o : Outcome (Unit {0})) → flushed p m ≡ o → Goes p m.showing.shown m.world.states → Knows p (and_then o (λ _. Done true))
flushed_known p m (Done u n) is h =
    let t = flushed-tracked p m n h.0 is in
    let l = flushed-lending p m n h.1.0 is in
    let d = flushed-computed p m n h.1.1 is in
    let s = settled-flushed p m n is in
    ((t, (l, d)), record { settled = s; records = t.records; present = presents n t s; past = holds_of n l; computed = d })
flushed_known p m (Halted r n) is h = tt

mounted_known : (p : Program) (m : Page) (o : Outcome (Unit {0})) → mounted p m ≡ o → Goes p m.showing.shown m.world.states → Knows p (and_then o (λ _. settled p true))
mounted_known p m (Done u n) is h = flushed_known p n (flushed p n) refl (mounted-tracked p m n h.0 is, (mounted-lending p m n h.1.0 is, mounted-computed p m n h.1.1 is))
mounted_known p m (Halted r n) is h = tt

first_known : (p : Program) → Knows p (first_turn p blank)
unfolding first_turn
first_known p = mounted_known p (begun blank) (mounted p (begun blank)) refl (blank_tracked, (blank_lending, blank_computed p))

-- behind what an event did where there was an element for it
walked_known : (p : Program) (m : Page) (e : Ending (Unit {0})) → Left (at_ends (Goes p m.showing.shown)) e → Knows p (and_then (ended m (then_do e (λ u. Ends true))) (settled p))
walked_known p m (Ends u w) h = flushed_known p (record m { world = w }) (flushed p (record m { world = w })) refl h
walked_known p m (Fails k s w) h = tt

delivered_known : (p : Program) (event : Event) (path : Option (List Element)) (m : Page) → Known p m → Knows p (and_then (ended (record m { showing = laid_down path event m.showing }) (dispatched p event path m.world)) (settled p))
delivered_known p event None m h = h
delivered_known p event (Some []) m h = h
delivered_known p event (Some (e ∷ outer)) m h =
    let s : Showing = laid (taken e event) e m.showing in
    walked_known p (record m { showing = s }) (walked (delivery p event e) outer m.world) ((walked_leaves (delivery p event e) (go_on p s.shown) outer).held m.world (goes_laid p (taken e event) e m.showing m.world.states h.0))

next_known : (p : Program) (event : Event) (nodes : List Node) (m : Page) → Known p m → Knows p (next_turn p event nodes m)
unfolding next_turn
next_known p event nodes m h = delivered_known p event (named event.target nodes) (begun m) (h.0, record { settled = record { queue = h.1.settled.queue; bindings = h.1.settled.bindings; render = h.1.settled.render }; records = h.1.records; present = λ n i there. let k = h.1.present n i there in record { last = k.last; shown = k.shown; cells = k.cells; seen = k.seen }; past = h.1.past; computed = h.1.computed })

-- ---- runs

followed_current : (p : Program) (o : Outcome Bool) (more : Page → List (Outcome Bool)) → Knows p o → ((m : Page) → Known p m → All (LeavesCurrent p) (more m)) → All (LeavesCurrent p) (followed o more)
followed_current p (Done target m) more h k = All-cons (LeavesCurrent p) (Done target m) (more m) h.1 (k m h)
followed_current p (Halted r m) more h k = All-cons (LeavesCurrent p) (Halted r m) [] tt (All-nil (LeavesCurrent p))

turns_current : (p : Program) (events : List Event) (m : Page) → Known p m → All (LeavesCurrent p) (turns p events m)
turns_current p [] m h = All-nil (LeavesCurrent p)
turns_current p (event ∷ events) m h = followed_current p (next_turn p event (nodes_of p m) m) (turns p events) (next_known p event (nodes_of p m) m h) (turns_current p events)

pub run_current : (p : Program) (events : List Event) → All (LeavesCurrent p) (run p events)
unfolding run
run_current p events = followed_current p (first_turn p blank) (turns p events) (first_known p) (turns_current p events)

-- ---- what code answers

module _ (p : Program) (r : Result Bool PatchError) (m n : Page) where
  pub first_current : Meets r n (first_turn p m) → m ≡ blank → OnOk r (IsCurrent p n)
  first_current = by r where
    by : (r : Result Bool PatchError) → Meets r n (first_turn p m) → m ≡ blank → OnOk r (IsCurrent p n)
    by (Ok target) h is = (subst (Knows p) (ap (first_turn p) (sym is) ∙ h.meets) (first_known p)).1
    by (Err e) h is = tt

  pub next_current : (event : Event) (nodes : List Node) → IsSound m.world.states → Meets r n (next_turn p event nodes m) → IsCurrent p m → OnOk r (IsCurrent p n)
  next_current event nodes = by r where
    by : (r : Result Bool PatchError) → IsSound m.world.states → Meets r n (next_turn p event nodes m) → IsCurrent p m → OnOk r (IsCurrent p n)
    by (Ok target) sound h k = (subst (Knows p) h.meets (next_known p event nodes m ((record { sound = sound; records = k.records }, (lends_of m sound k.past, k.computed)), k))).1
    by (Err e) sound h k = tt
