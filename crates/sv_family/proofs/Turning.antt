-- Instances stand as they should behind each turn.
use Rattle.std.proofs.Common.{ℕ, Bool, true, false, List, [], ◌∷◌, Option, Some, None, refl, sym, subst, if◌then◌else◌}
use Rattle.std.specs.List.{All}
use Rattle.std.proofs.lemmas.List.Elements.{All-nil, All-cons}
use Rattle.sv_code.specs.declared.program.Program.{Program}
use Rattle.sv_document.specs.Element.{Element}
use Rattle.sv_document.specs.declared.tree.Node.{Node}
use Rattle.sv_events.specs.declared.event.Event.{Event}
use Rattle.sv_family.proofs.Blank.{family_blank, filled_blank}
use Rattle.sv_family.proofs.Laying.{family_lays, filled_lays}
use Rattle.sv_family.proofs.Numbering.{numbers_lay, numbers_blank}
use Rattle.sv_family.proofs.Scripts.{Are, are_stay}
use Rattle.sv_family.specs.Family.{Family, AreFilled, IsFamily, LeavesFamily}
use Rattle.sv_family.specs.Kin.{kins}
use Rattle.sv_family.specs.Numbers.{AreNumbers}
use Rattle.sv_flush.proofs.Bringing.{Afterwards, Brings, after_then}
use Rattle.sv_flush.specs.Creation.{mounted}
use Rattle.sv_flush.specs.Flush.{flushed}
use Rattle.sv_flush.specs.Outcome.{Outcome, Done, Halted, and_then, ended}
use Rattle.sv_flush.specs.Page.{blank, begun}
use Rattle.sv_flush.specs.declared.page.Page.{Page}
use Rattle.sv_frame.proofs.Outcomes.{at_ends, Left}
use Rattle.sv_input.specs.Named.{named}
use Rattle.sv_input.specs.Typed.{taken, is_bound, laid, laid_down}
use Rattle.sv_input.specs.Walk.{walked, delivery, dispatched}
use Rattle.sv_meaning.specs.Outcome.{Ending, Ends, Fails, then_do}
use Rattle.sv_page.proofs.Delivering.{walked_leaves}
use Rattle.sv_page.specs.Run.{followed, turns, run}
use Rattle.sv_page.specs.Turns.{nodes_of, settled, first_turn, next_turn}
use Rattle.sv_shapes.specs.Showing.{Showing, laid_on}
use Rattle.sv_tokens.specs.declared.element.Typed.{Typed}
use Rattle.sv_world.specs.declared.world.World.{World}

module _ (p : Program) (mounts : Brings (IsFamily p) (IsFamily p) (mounted p)) (flushes : Brings (IsFamily p) (IsFamily p) (flushed p)) where
  -- ---- what users leave

  abbrev Stands : World → ℕ → Showing → Type 0
  Stands w next s = Family p [] None [] (kins w.states) s next × AreNumbers s next × AreFilled p [] [] (kins w.states) s

  if_stands : (b : Bool) (w : World) (next : ℕ) (s t : Showing) → Stands w next s → Stands w next t → Stands w next (if b then s else t)
  if_stands true w next s t h k = h
  if_stands false w next s t h k = k

  laid_stands : (o : Option Typed) (e : Element) (w : World) (next : ℕ) (s : Showing) → Stands w next s → Stands w next (laid o e s)
  laid_stands None e w next s h = h
  laid_stands (Some left) e w next s h = if_stands (is_bound left e) w next s (laid_on s e.inst e.mark left) h
      (family_lays p (kins w.states) s next e.inst e.mark left h.0, numbers_lay s next e.inst e.mark left h.1, filled_lays p (kins w.states) s next e.inst e.mark left h.0 h.2)

  -- ---- turns

  settled_stands : (target : Bool) (m : Page) → IsFamily p m → Afterwards (IsFamily p) (settled p target m)
  settled_stands false m h = h
  settled_stands true m h = after_then (IsFamily p) (IsFamily p) (flushed p m) (λ _. Done true) (flushes.held m h) (λ a n k. k)

  pub first_stands : (m : Page) → IsFamily p m → Afterwards (IsFamily p) (first_turn p m)
  unfolding first_turn
  first_stands m h = after_then (IsFamily p) (IsFamily p) (mounted p (begun m)) (λ _. settled p true) (mounts.held (begun m) h) (λ a n k. settled_stands true n k)

  -- behind what an event did where there was an element for it
  walked_stands : (m : Page) (e : Ending (Unit {0})) → IsFamily p m → Left (at_ends (Are (kins m.world.states))) e → Afterwards (IsFamily p) (and_then (ended m (then_do e (λ u. Ends true))) (settled p))
  walked_stands m (Ends u w) h same = settled_stands true (record m { world = w }) (subst (λ ks. Family p [] None [] ks m.showing m.counters.next × AreNumbers m.showing m.counters.next × AreFilled p [] [] ks m.showing) (sym same) h)
  walked_stands m (Fails k s w) h same = tt

  delivered_stands : (event : Event) (path : Option (List Element)) (m : Page) → IsFamily p m →
      Afterwards (IsFamily p) (and_then (ended (record m { showing = laid_down path event m.showing }) (dispatched p event path m.world)) (settled p))
  delivered_stands event None m h = h
  delivered_stands event (Some []) m h = h
  delivered_stands event (Some (e ∷ outer)) m h =
      walked_stands (record m { showing = laid (taken e event) e m.showing }) (walked (delivery p event e) outer m.world) (laid_stands (taken e event) e m.world m.counters.next m.showing h)
      ((walked_leaves (delivery p event e) (are_stay p (kins m.world.states)) outer).held m.world refl)

  pub next_stands : (event : Event) (nodes : List Node) (m : Page) → IsFamily p m → Afterwards (IsFamily p) (next_turn p event nodes m)
  unfolding next_turn
  next_stands event nodes m h = delivered_stands event (named event.target nodes) (begun m) h

  -- ---- runs

  followed_leave : (o : Outcome Bool) (more : Page → List (Outcome Bool)) → Afterwards (IsFamily p) o → ((m : Page) → IsFamily p m → All (LeavesFamily p) (more m)) → All (LeavesFamily p) (followed o more)
  followed_leave (Done target m) more h k = All-cons (LeavesFamily p) (Done target m) (more m) h (k m h)
  followed_leave (Halted r m) more h k = All-cons (LeavesFamily p) (Halted r m) [] tt (All-nil (LeavesFamily p))

  turns_leave : (events : List Event) (m : Page) → IsFamily p m → All (LeavesFamily p) (turns p events m)
  turns_leave [] m h = All-nil (LeavesFamily p)
  turns_leave (event ∷ events) m h = followed_leave (next_turn p event (nodes_of p m) m) (turns p events) (next_stands event (nodes_of p m) m h) (turns_leave events)

  pub run_leaves : (events : List Event) → All (LeavesFamily p) (run p events)
  unfolding run
  run_leaves events = followed_leave (first_turn p blank) (turns p events) (first_stands blank (family_blank p blank.counters.next, numbers_blank blank.counters.next, filled_blank p)) (turns_leave events)
