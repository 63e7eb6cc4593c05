-- What is shown is true behind each turn, and so the page that is recorded is the fresh one.
use Rattle.std.proofs.Common.{◌≡◌, ℕ, Bool, true, false, List, [], ◌∷◌, Option, Some, None, refl, sym, subst, if◌then◌else◌, get_or}
use Rattle.std.specs.List.{All}
use Rattle.std.proofs.lemmas.List.Elements.{All-nil, All-cons}
use Rattle.sv_code.specs.Compiled.{IsCompiled}
use Rattle.sv_code.specs.declared.program.Program.{Program}
use Rattle.sv_course.proofs.Course.{Course}
use Rattle.sv_course.proofs.Flushing.{flushed_keeps}
use Rattle.sv_course.proofs.Told.{watched_tells}
use Rattle.sv_course.proofs.WatchingPages.{watched_laid}
use Rattle.sv_course.proofs.WatchingPhases.{Watched, watched_last}
use Rattle.sv_document.specs.Element.{Element}
use Rattle.sv_document.specs.declared.tree.Node.{Node}
use Rattle.sv_events.specs.declared.event.Event.{Event}
use Rattle.sv_family.proofs.Laying.{family_lays, filled_lays}
use Rattle.sv_family.proofs.Numbering.{numbers_lay}
use Rattle.sv_family.proofs.Scripts.{Are, are_stay}
use Rattle.sv_family.specs.Kin.{Kins, kins}
use Rattle.sv_flush.proofs.Bringing.{Afterwards, after_then}
use Rattle.sv_flush.proofs.Lasting.{Idle}
use Rattle.sv_flush.specs.Creation.{mounted}
use Rattle.sv_flush.specs.Flush.{flushed}
use Rattle.sv_flush.specs.Outcome.{Outcome, Done, Halted, and_then, ended}
use Rattle.sv_flush.specs.Page.{blank, begun}
use Rattle.sv_flush.specs.declared.page.Page.{Page}
use Rattle.sv_frame.proofs.Outcomes.{ending, both_stay, Left}
use Rattle.sv_input.specs.Named.{named}
use Rattle.sv_input.specs.Typed.{taken, is_bound, laid, laid_down}
use Rattle.sv_input.specs.Walk.{walked, delivery, dispatched}
use Rattle.sv_meaning.specs.Outcome.{Ending, Ends, Fails, then_do}
use Rattle.sv_page.proofs.Delivering.{walked_leaves}
use Rattle.sv_page.proofs.Turning.{run_current}
use Rattle.sv_page.specs.Current.{LeavesCurrent}
use Rattle.sv_page.specs.Run.{followed, turns, run}
use Rattle.sv_page.specs.Turns.{nodes_of, settled, first_turn, next_turn}
use Rattle.sv_shapes.specs.Showing.{Showing, shown_of, laid_in, laid_on}
use Rattle.sv_shapes.specs.Typed.{laid_all}
use Rattle.sv_shapes.specs.declared.shown.Shown as shown
use Rattle.sv_shown.proofs.Beginning.{BeginWithNobody, flushed_begins}
use Rattle.sv_shown.proofs.First.{known_fresh, known_right}
use Rattle.sv_shown.proofs.Laying.{true_lays}
use Rattle.sv_shown.proofs.Mounting.{Holds, Known, Knows, known_some, known_with, mounted_known}
use Rattle.sv_shown.proofs.Whole.{Shown, shown_sorted}
use Rattle.sv_shown.specs.Fresh.{LeavesFresh, LeavesRight}
use Rattle.sv_shown.specs.True.{Modules}
use Rattle.sv_states.specs.States.{States}
use Rattle.sv_tokens.specs.declared.element.Typed.{Typed}
use Rattle.sv_within.specs.Keys.{AreAllKeysSeen}
use Rattle.sv_world.specs.declared.world.World.{World}

-- ---- what users leave

watched_lays : (p : Program) (ms : Modules) (s : Showing) (n mark : ℕ) (typed : Typed) (now : Modules) (states : States) → Watched p ms Idle s.shown now states → Watched p ms Idle (laid_on s n mark typed).shown now states
watched_lays p ms s n mark typed now states h = by (shown_of s n) refl where
  by : (o : Option shown.Shown) → shown_of s n ≡ o → Watched p ms Idle (laid_in s n mark typed o).shown now states
  by None e = h
  by (Some x) e = watched_laid p ms s.shown now states n x (record { view = x.view; parts = laid_all mark typed x.parts }) e refl h

module _ (p : Program) (ms : Modules) where
  if_holds : (b : Bool) (w : World) (next : ℕ) (s t : Showing) → Holds p ms w next s → Holds p ms w next t → Holds p ms w next (if b then s else t)
  if_holds true w next s t h k = h
  if_holds false w next s t h k = k

  laid_holds : (o : Option Typed) (e : Element) (w : World) (next : ℕ) (s : Showing) → Holds p ms w next s → Holds p ms w next (laid o e s)
  laid_holds None e w next s h = h
  laid_holds (Some left) e w next s h =
      let ks : Kins = kins w.states in
      let whole = h.0.0.0 in
      if_holds (is_bound left e) w next s (laid_on s e.inst e.mark left) h (
        (
          ((family_lays p ks s next e.inst e.mark left whole.0, numbers_lay s next e.inst e.mark left whole.1, filled_lays p ks s next e.inst e.mark left whole.0 whole.2), true_lays p ms ks s next e.inst e.mark left h.0.0.1),
          watched_lays p ms s e.inst e.mark left w.modules w.states h.0.1,
        ),
        h.1,
      )

module _ (p : Program) (compiled : IsCompiled p) (course : (ms : Modules) → Course p ms (Shown p ms)) where
  -- ---- turns

  settled_known : (ms : Modules) (target : Bool) (m : Page) → Known p ms m → Afterwards (Known p ms) (settled p target m)
  settled_known ms false m h = h
  settled_known ms true m h =
      after_then (Known p ms) (Known p ms) (flushed p m) (λ _. Done true)
      (known_with p ms (flushed p m) ((flushed_keeps p ms (Shown p ms) (Watched p ms) (course ms) (shown_sorted p ms) (watched_tells p ms)).held m h.0) ((flushed_begins p compiled).held m (h.0.0.0, h.1)))
      (λ a n k. k)

  first_known : Afterwards (Knows p) (first_turn p blank)
  unfolding first_turn
  first_known = after_then (Knows p) (Knows p) (mounted p (begun blank)) (λ _. settled p true) (mounted_known p compiled course) (λ a n k. known_some p k.0 (settled p true n) (settled_known k.0 true n k.1))

  -- behind what an event did where there was an element for it
  walked_known : (ms : Modules) (m : Page) (e : Ending (Unit {0})) → Known p ms m → Left (ending (λ now s. Are (kins m.world.states) s × Watched p ms Idle m.showing.shown now s)) e →
      Afterwards (Known p ms) (and_then (ended m (then_do e (λ u. Ends true))) (settled p))
  walked_known ms m (Ends u w) h k =
      settled_known ms true (record m { world = w }) (
        (subst (λ ks. Shown p ms [] None [] ks m.showing m.counters.next) (sym k.0) h.0.0, k.1),
        subst BeginWithNobody (sym k.0) h.1,
      )
  walked_known ms m (Fails k s w) h same = tt

  delivered_known : (ms : Modules) (event : Event) (path : Option (List Element)) (m : Page) → Known p ms m →
      Afterwards (Known p ms) (and_then (ended (record m { showing = laid_down path event m.showing }) (dispatched p event path m.world)) (settled p))
  delivered_known ms event None m h = h
  delivered_known ms event (Some []) m h = h
  delivered_known ms event (Some (e ∷ outer)) m h =
      let s : Showing = laid (taken e event) e m.showing in
      let lies = laid_holds p ms (taken e event) e m.world m.counters.next m.showing h in
      walked_known ms (record m { showing = s }) (walked (delivery p event e) outer m.world) lies
      ((walked_leaves (delivery p event e) (both_stay (are_stay p (kins m.world.states)) ((watched_last p ms).scripts Idle tt [] s.shown)) outer).held m.world (refl, lies.0.1))

  next_known : (event : Event) (nodes : List Node) (m : Page) → Knows p m → Afterwards (Knows p) (next_turn p event nodes m)
  unfolding next_turn
  next_known event nodes m h = known_some p h.0 (next_turn p event nodes m) (delivered_known h.0 event (named event.target nodes) (begun m) h.1)

  -- ---- runs

  abbrev Leaves : Outcome Bool → Type 0
  Leaves o = Afterwards (Knows p) o

  followed_known : (o : Outcome Bool) (more : Page → List (Outcome Bool)) → Leaves o → ((m : Page) → Knows p m → All Leaves (more m)) → All Leaves (followed o more)
  followed_known (Done target m) more h k = All-cons Leaves (Done target m) (more m) h (k m h)
  followed_known (Halted r m) more h k = All-cons Leaves (Halted r m) [] tt (All-nil Leaves)

  turns_known : (events : List Event) (m : Page) → Knows p m → All Leaves (turns p events m)
  turns_known [] m h = All-nil Leaves
  turns_known (event ∷ events) m h = followed_known (next_turn p event (nodes_of p m) m) (turns p events) (next_known event (nodes_of p m) m h) (turns_known events)

  run_known : (events : List Event) → All Leaves (run p events)
  unfolding run
  run_known events = followed_known (first_turn p blank) (turns p events) first_known (turns_known events)

  -- ---- what is drawn

  module _ (keys : AreAllKeysSeen p) where
    leaves_fresh : (o : Outcome Bool) → Leaves o → LeavesCurrent p o → LeavesFresh p o
    leaves_fresh (Done target m) h current = known_fresh p compiled keys m h current.present
    leaves_fresh (Halted r m) h current = tt

    leaves_right : (o : Outcome Bool) → Leaves o → LeavesCurrent p o → LeavesRight p o
    leaves_right (Done target m) h current = known_right p compiled keys m h current.present
    leaves_right (Halted r m) h current = tt

    -- behind each turn that isn't refused the page that is recorded is the fresh one
    pub run_fresh : (events : List Event) → All (LeavesFresh p) (run p events)
    run_fresh events k d below = leaves_fresh (get_or (run p events) k d) (run_known events k d below) (run_current p events k d below)

    -- and what is held is right
    pub run_right : (events : List Event) → All (LeavesRight p) (run p events)
    run_right events k d below = leaves_right (get_or (run p events) k d) (run_known events k d below) (run_current p events k d below)
