-- What a run comes to, as far as it was played.
use Rattle.std.proofs.Common.{◌≡◌, ◌+◌, ℕ, List, drop, Bool, Result, Ok, Err, refl, ap, sym, subst, ◌∙◌, zero-add}
use Rattle.sv_code.specs.declared.program.Program.{Program}
use Rattle.sv_events.specs.declared.event.Event.{Event}
use Rattle.sv_flush.specs.Outcome.{Outcome}
use Rattle.sv_flush.specs.Page.{blank}
use Rattle.sv_flush.specs.declared.page.Page.{Page}
use Rattle.sv_page.specs.Run.{followed, turns, run}
use Rattle.sv_page.specs.Turns.{first_turn}
use Rattle.sv_parts.specs.declared.refusal.Refusal.{Refusal}
use Rattle.sv_play.specs.Summary.{sums_after, sums}
use Rattle.sv_play.specs.Sums.{SumsTo}
use Rattle.sv_play.specs.declared.summary.Sums.{Sums}
use Rattle.sv_session.specs.Plays.{IsShown, Plays, PlaysBody, program_of}
use Rattle.sv_session.specs.declared.session.Session.{Session}
use Rattle.sv_session.specs.declared.stage.TurnError.{TurnError}
use Rattle.sv_session.specs.declared.stage.TurnError.TheVariants as error
use Rattle.sv_session.specs.declared.stage.Turned.{Turned}

-- a turn among those of a run
module _ (p : Program) (evaluations : ℕ) (m : Page) (o : Outcome Bool) (more : Page → List (Outcome Bool)) (whole : Result Sums Refusal)
    (is : whole ≡ sums_after p evaluations m (followed o more)) where
  -- it was played
  done : (turned : Turned) (s : Session) → PlaysBody (Ok turned) s o → whole ≡ sums_after p (evaluations + turned.evaluations) s.page (more s.page)
  done turned s played =
      is ∙ (ap (λ x. sums_after p evaluations m (followed x more)) played.0 ∙ ap (λ (t : Turned). sums_after p (evaluations + t.evaluations) s.page (more s.page)) (sym played.1.0))

  -- or it was refused
  refused : (e : TurnError) (s : Session) → PlaysBody (Err e) s o → SumsTo (Err e) whole
  refused (error.Refused r) s played = record { sums = is ∙ ap (λ x. sums_after p evaluations m (followed x more)) played.0 }
  refused error.Stopped s played = absurd played
  refused error.NoMemory s played = record { sums = tt }

-- what is left of a run, once some turns were played
pub record Summed (p : Program) (events : List Event) (index evaluations : ℕ) (s : Session) : Type 0 where
  pub so_far : sums p events ≡ sums_after p evaluations s.page (turns p (drop index events) s.page)

-- ---- the first turn

module _ (p : Program) (events : List Event) (answer : Result Turned TurnError) (begun s : Session) (program : program_of begun ≡ p) (page : begun.page ≡ blank)
    (plays : Plays answer begun s (first_turn (program_of begun) begun.page)) where
  first-played : PlaysBody answer s (first_turn p blank)
  first-played = subst (λ m. PlaysBody answer s (first_turn p m)) page (subst (λ q. PlaysBody answer s (first_turn q begun.page)) program plays.plays)

  pub first-program : program_of s ≡ p
  first-program = ap (λ m. m.program.now) plays.keeps.machine ∙ program

  first-is : sums p events ≡ sums_after p 0 blank (followed (first_turn p blank) (turns p events))
  unfolding sums run
  first-is = refl

  module _ (turned : Turned) (is : answer ≡ Ok turned) where
    first-ok : PlaysBody (Ok turned) s (first_turn p blank)
    first-ok = subst (λ a. PlaysBody a s (first_turn p blank)) is first-played

    pub first-shown : IsShown s
    first-shown = first-ok.1.1

    pub first-summed : Summed p events 0 turned.evaluations s
    first-summed = record {
      so_far = done p 0 blank (first_turn p blank) (turns p events) (sums p events) first-is turned s first-ok ∙ ap (λ n. sums_after p n s.page (turns p events s.page)) (zero-add turned.evaluations);
    }

  pub first-refused : (e : TurnError) → answer ≡ Err e → SumsTo (Err e) (sums p events)
  first-refused e is = refused p 0 blank (first_turn p blank) (turns p events) (sums p events) first-is e s (subst (λ a. PlaysBody a s (first_turn p blank)) is first-played)
