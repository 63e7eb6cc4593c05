-- Sessions go on from pages that events led to.
use Rattle.std.proofs.Common.{◌≡◌, Bool, List, Result, Ok, Err, OnOk, refl, sym, ap, subst, ◌∙◌}
use Rattle.sv_code.specs.declared.program.Program.{Program}
use Rattle.sv_document.specs.declared.tree.Node.{Node}
use Rattle.sv_events.specs.declared.event.Event.{Event}
use Rattle.sv_flush.specs.Meets.{Meets}
use Rattle.sv_flush.specs.declared.machine.Machine.{Machine}
use Rattle.sv_flush.specs.Page.{blank}
use Rattle.sv_flush.specs.declared.page.Page.{Page}
use Rattle.sv_fresh.specs.Fresh.{drawn}
use Rattle.sv_page.specs.Current.{IsCurrent}
use Rattle.sv_page.specs.Turns.{first_turn, next_turn, nodes_of}
use Rattle.sv_parts.specs.declared.refusal.PatchError.{PatchError}
use Rattle.sv_session.proofs.Reaching.{reached_fresh, reached_apart, reached_current, reached_first, reached_next}
use Rattle.sv_session.specs.Plays.{IsShown, Keeps, program_of}
use Rattle.sv_session.specs.Reached.{IsReached}
use Rattle.sv_session.specs.Ready.{IsReady, IsUnderWay, StandsAt}
use Rattle.sv_session.specs.declared.session.Session.{Session}
use Rattle.sv_session.specs.declared.stage.Stage.TheVariants.{New, Running, Stopped}
use Rattle.sv_within.specs.Runnable.{IsRunnable}

-- ---- what code answers

module _ (p : Program) (m n : Page) where
  pub first_reaches : (r : Result Bool PatchError) → m ≡ blank → Meets r n (first_turn p m) → OnOk r (IsReached p n)
  first_reaches (Ok target) is h = reached_first p target n (ap (first_turn p) (sym is) ∙ h.meets)
  first_reaches (Err e) is h = tt

  pub next_reaches : (event : Event) (nodes : List Node) (r : Result Bool PatchError) → IsReached p m → nodes ≡ nodes_of p m → Meets r n (next_turn p event nodes m) → OnOk r (IsReached p n)
  next_reaches event nodes (Ok target) reached is h = reached_next p event target m n reached (ap (λ ns. next_turn p event ns m) (sym is) ∙ h.meets)
  next_reaches event nodes (Err e) reached is h = tt

-- what is drawn is the fresh page
pub drawn_fresh : (p : Program) (m : Page) (nodes : List Node) → IsRunnable p → IsReached p m → nodes ≡ drawn p m.world m.showing → nodes ≡ nodes_of p m
drawn_fresh p m nodes runnable reached is = is ∙ reached_fresh p m runnable reached

-- ---- sessions by their stages

module _ (s : Session) where
  pub ready_new : IsReady s → s.stage ≡ New → s.page ≡ blank
  ready_new h is = subst (λ stage. StandsAt stage s) is h.stands

  pub ready_running : IsReady s → s.stage ≡ Running → IsUnderWay s
  ready_running h is = subst (λ stage. StandsAt stage s) is h.stands

  pub stopped_ready : IsRunnable (program_of s) → s.stage ≡ Stopped → IsReady s
  stopped_ready runnable is = record { runnable = runnable; stands = subst (λ stage. StandsAt stage s) (sym is) tt }

  pub shown_ready : IsRunnable (program_of s) → IsReached (program_of s) s.page → IsShown s → IsReady s
  shown_ready runnable reached h =
      let way : IsUnderWay s = record { reached = reached; shown = h.shown; apart = reached_apart (program_of s) s.page s.nodes runnable reached h.shown } in
      record { runnable = runnable; stands = subst (λ stage. StandsAt stage s) (sym h.running) way }

  pub shown_current : IsReached (program_of s) s.page → IsCurrent (program_of s) s.page
  shown_current reached = reached_current (program_of s) s.page reached

-- ---- where the program stays

module _ (old new : Session) (keeps : Keeps old new) where
  same_program : program_of new ≡ program_of old
  same_program = ap (λ (m : Machine). m.program.now) keeps.machine

  pub kept_runnable : IsRunnable (program_of old) → IsRunnable (program_of new)
  kept_runnable h = subst IsRunnable (sym same_program) h

  pub kept_reached : new.page ≡ old.page → IsReached (program_of old) old.page → IsReached (program_of new) new.page
  kept_reached page h = subst (λ p. IsReached p new.page) (sym same_program) (subst (IsReached (program_of old)) (sym page) h)
