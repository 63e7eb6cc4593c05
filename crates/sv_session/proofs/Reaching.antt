-- What is so of each turn of a run is so of pages that events led to.
use Rattle.std.proofs.Common.{◌≡◌, ◌≤◌, Bool, List, [], ◌∷◌, ◌++◌, refl, ap, sym, subst, ◌∙◌}
use Rattle.std.specs.List.{All}
use Rattle.std.proofs.lemmas.List.Elements.{All-head, All-tail}
use Rattle.sv_code.specs.declared.program.Program.{Program}
use Rattle.sv_document.specs.Marks.{marks}
use Rattle.sv_document.specs.declared.tree.Node.{Node}
use Rattle.sv_events.specs.declared.event.Event.{Event}
use Rattle.sv_flush.specs.Outcome.{Outcome, Done, Halted}
use Rattle.sv_flush.specs.Page.{blank}
use Rattle.sv_flush.specs.declared.page.Page.{Page}
use Rattle.sv_marks.proofs.Runs.{runs_apart}
use Rattle.sv_marks.specs.Marks.{LeavesMarksApart}
use Rattle.sv_page.proofs.Turning.{run_current}
use Rattle.sv_page.specs.Current.{IsCurrent, LeavesCurrent}
use Rattle.sv_page.specs.Run.{followed, turns, run}
use Rattle.sv_page.specs.Turns.{first_turn, next_turn, nodes_of}
use Rattle.sv_places.specs.Numbers.{count}
use Rattle.sv_session.specs.Reached.{IsReached, last_turn}
use Rattle.sv_session.specs.Ready.{AreApart}
use Rattle.sv_shown.proofs.Turning.{run_fresh}
use Rattle.sv_shown.proofs.Whole.{shown_course}
use Rattle.sv_shown.specs.Fresh.{IsFresh, LeavesFresh}
use Rattle.sv_within.specs.Runnable.{IsRunnable}

-- ---- what holds behind each turn

module _ (P : Outcome Bool → Type 0) (p : Program) where
  last_holds : (events : List Event) (o : Outcome Bool) → All P (followed o (turns p events)) → P (last_turn p o events)
  last_holds [] (Done target m) h = All-head P (Done target m) [] h
  last_holds [] (Halted r m) h = All-head P (Halted r m) [] h
  last_holds (event ∷ events) (Done target m) h =
      let next : Outcome Bool = next_turn p event (nodes_of p m) m in
      last_holds events next (All-tail P (Done target m) (followed next (turns p events)) h)
  last_holds (event ∷ events) (Halted r m) h = All-head P (Halted r m) [] h

  run_holds : (events : List Event) → All P (run p events) → P (last_turn p (first_turn p blank) events)
  unfolding run
  run_holds events h = last_holds events (first_turn p blank) h

  reached_holds : (m : Page) → ((events : List Event) → All P (run p events)) → (h : IsReached p m) → P (Done h.target m)
  reached_holds m all h = subst P h.left (run_holds h.events (all h.events))

-- nothing was lost
pub reached_fresh : (p : Program) (m : Page) → IsRunnable p → IsReached p m → IsFresh p m
reached_fresh p m r h = reached_holds (LeavesFresh p) p m (run_fresh p r.compiled (λ ms. shown_course p ms r.compiled r.keys) r.keys) h

-- no two nodes of it have one mark
pub reached_apart : (p : Program) (m : Page) (nodes : List Node) → IsRunnable p → IsReached p m → nodes ≡ nodes_of p m → AreApart nodes
reached_apart p m nodes r h is mark some =
    subst (λ ns. count mark (marks ns) ≤ 1) (reached_fresh p m r h ∙ sym is) (reached_holds (LeavesMarksApart p) p m (runs_apart p r.compiled r.compiled.contents) h mark some)

pub reached_current : (p : Program) (m : Page) → IsReached p m → IsCurrent p m
reached_current p m h = reached_holds (LeavesCurrent p) p m (run_current p) h

-- ---- one event more

last_then : (p : Program) (event : Event) (events : List Event) (o : Outcome Bool) → last_turn p o (events ++ event ∷ []) ≡ last_turn p (last_turn p o events) (event ∷ [])
last_then p event [] o = refl
last_then p event (e ∷ events) (Done target m) = last_then p event events (next_turn p e (nodes_of p m) m)
last_then p event (e ∷ events) (Halted r m) = refl

pub reached_first : (p : Program) (target : Bool) (m : Page) → first_turn p blank ≡ Done target m → IsReached p m
reached_first p target m e = record { events = []; target = target; left = e }

pub reached_next : (p : Program) (event : Event) (target : Bool) (m m' : Page) → IsReached p m → next_turn p event (nodes_of p m) m ≡ Done target m' → IsReached p m'
reached_next p event target m m' h e =
    record { events = h.events ++ event ∷ []; target = target; left = last_then p event h.events (first_turn p blank) ∙ (ap (λ o. last_turn p o (event ∷ [])) h.left ∙ e) }
