-- How far a test was played.
use Rattle.std.proofs.Common.{◌≡◌, ◌<◌, ◌≤◌, ◌+◌, ℕ, suc, List, [], ◌∷◌, length, get_or, drop, map, Bool, refl, ap, sym, subst, ◌∙◌, add-one}
use Rattle.std.specs.Prelude.{Result, Ok, Err}
use Rattle.std.proofs.lemmas.List.{at_drop_more, at_drop_all}
use Rattle.sv_checks.specs.Deeds.{Deed, Comes, Checks}
use Rattle.sv_checks.specs.Report.{Report, checked}
use Rattle.sv_checks.specs.Tells.{seen}
use Rattle.sv_checks.specs.declared.deed.Deed.{Deed as Own}
use Rattle.sv_code.specs.declared.program.Program.{Program}
use Rattle.sv_document.specs.declared.tree.Node.{Node}
use Rattle.sv_events.specs.declared.event.Event.{Event}
use Rattle.sv_flush.specs.Outcome.{Outcome, Done, Halted}
use Rattle.sv_flush.specs.Page.{blank}
use Rattle.sv_flush.specs.declared.page.Page.{Page}
use Rattle.sv_session.specs.Plays.{IsShown, Plays, PlaysBody, Turns, program_of}
use Rattle.sv_page.specs.Run.{followed, turns, run}
use Rattle.sv_page.specs.Turns.{first_turn, next_turn, nodes_of}
use Rattle.sv_session.specs.declared.session.Session.{Session}
use Rattle.sv_session.specs.declared.stage.TurnError.{TurnError}
use Rattle.sv_session.specs.declared.stage.TurnError.TheVariants as error
use Rattle.sv_session.specs.declared.stage.Turned.{Turned}
use Rattle.sv_play.proofs.Playing.{turn-is}
use Rattle.sv_select.specs.declared.selector.Selector.{Selector}
use Rattle.sv_steps.specs.declared.step.Want.{Want}
use Rattle.sv_test.specs.PlaysTo.{PlaysTo}
use Rattle.sv_test.specs.Tested.{Played, Ends, Stops, events_in, next_turn_of, played_from, played}

-- the deeds from a place on, on the page of a session
abbrev pub rest_of : Program → List Own → ℕ → Report → Session → Played
rest_of p deeds at report s = played_from p at (map seen (drop at deeds)) report s.page (turns p (events_in (map seen (drop at deeds))) s.page)

-- what is left of a test, once some deeds were done
pub record Left (p : Program) (deeds : List Own) (first : Report) (at : ℕ) (report : Report) (s : Session) : Type 0 where
  pub so_far : played p (map seen deeds) first ≡ rest_of p deeds at report s

-- a turn that is refused ends a test
pub stopped : (e : TurnError) (s : Session) (o : Outcome Bool) (more : Page → List (Outcome Bool)) (report : Report) (further : Page → List (Outcome Bool) → Played) (whole : Played)
    → whole ≡ next_turn_of (followed o more) report further → PlaysBody (Err e) s o → PlaysTo (Err e) report whole
stopped (error.Refused r) s o more report further whole is played = record { plays = is ∙ ap (λ x. next_turn_of (followed x more) report further) played.0 }
stopped error.Stopped s o more report further whole is played = absurd played
stopped error.NoMemory s o more report further whole is played = record { plays = tt }

-- ---- the first turn

module _ (p : Program) (deeds : List Own) (report : Report) (answer : Result Turned TurnError) (begun s : Session) (program : program_of begun ≡ p) (page : begun.page ≡ blank)
    (plays : Plays answer begun s (first_turn (program_of begun) begun.page)) where
  first-played : PlaysBody answer s (first_turn p blank)
  first-played = subst (λ m. PlaysBody answer s (first_turn p m)) page (subst (λ q. PlaysBody answer s (first_turn q begun.page)) program plays.plays)

  pub first-program : program_of s ≡ p
  first-program = ap (λ m. m.program.now) plays.keeps.machine ∙ program

  first-is : played p (map seen deeds) report
      ≡ next_turn_of (followed (first_turn p blank) (turns p (events_in (map seen deeds)))) report (played_from p 0 (map seen deeds) report)
  unfolding played run
  first-is = refl

  module _ (turned : Turned) (is : answer ≡ Ok turned) where
    first-ok : PlaysBody (Ok turned) s (first_turn p blank)
    first-ok = subst (λ a. PlaysBody a s (first_turn p blank)) is first-played

    pub first-shown : IsShown s
    first-shown = first-ok.1.1

    pub first-left : Left p deeds report 0 report s
    first-left = record {
      so_far = first-is ∙ ap (λ x. next_turn_of (followed x (turns p (events_in (map seen deeds)))) report (played_from p 0 (map seen deeds) report)) first-ok.0;
    }

  pub first-refused : (e : TurnError) → answer ≡ Err e → PlaysTo (Err e) report (played p (map seen deeds) report)
  first-refused e is =
      stopped e s (first_turn p blank) (turns p (events_in (map seen deeds))) report (played_from p 0 (map seen deeds) report) _ first-is (subst (λ a. PlaysBody a s (first_turn p blank)) is first-played)

-- ---- the deeds

deed-next : (p : Program) (deeds : List Own) (at : ℕ) (deed : Own) (d : Deed) (report : Report) (m : Page) → at < length deeds → deed ≡ get_or deeds at deed → seen deed ≡ d
    → played_from p at (map seen (drop at deeds)) report m (turns p (events_in (map seen (drop at deeds))) m)
    ≡ played_from p at (d ∷ map seen (drop (at + 1) deeds)) report m (turns p (events_in (d ∷ map seen (drop (at + 1) deeds))) m)
deed-next p deeds at deed d report m below here is =
    at_drop_more (λ rest. played_from p at (map seen rest) report m (turns p (events_in (map seen rest)) m)) deeds at deed below
    ∙ ap (λ w. played_from p at (w ∷ map seen (drop (at + 1) deeds)) report m (turns p (events_in (w ∷ map seen (drop (at + 1) deeds))) m)) (ap seen (sym here) ∙ is)

module _ (p : Program) (deeds : List Own) (first report : Report) (at : ℕ) (deed : Own) (s : Session) (left : Left p deeds first at report s) (below : at < length deeds) (here : deed ≡ get_or deeds at deed) where
  abbrev later : List Deed
  later = map seen (drop (at + 1) deeds)

  -- an event comes
  module _ (e : Event) (is : seen deed ≡ Comes e) (answer : Result Turned TurnError) (s' : Session) (same : program_of s ≡ p) (shown : IsShown s) (turned : Turns answer s s' e) where
    abbrev outcome : Outcome Bool
    outcome = next_turn p e (nodes_of p s.page) s.page

    event-played : Plays answer s s' outcome
    event-played = turn-is p answer s s' e same shown turned

    pub event-program : program_of s' ≡ p
    event-program = ap (λ m. m.program.now) event-played.keeps.machine ∙ same

    event-is : played p (map seen deeds) first ≡ next_turn_of (followed outcome (turns p (events_in later))) report (played_from p (suc at) later report)
    event-is = left.so_far ∙ deed-next p deeds at deed (Comes e) report s.page below here is

    pub event-shown : (t : Turned) → answer ≡ Ok t → IsShown s'
    event-shown t ok = (subst (λ a. PlaysBody a s' outcome) ok event-played.plays).1.1

    pub event-left : (t : Turned) → answer ≡ Ok t → Left p deeds first (at + 1) report s'
    event-left t ok = record {
      so_far =
          event-is ∙ ap (λ x. next_turn_of (followed x (turns p (events_in later))) report (played_from p (suc at) later report)) (subst (λ a. PlaysBody a s' outcome) ok event-played.plays).0
          ∙ ap (λ n. played_from p n later report s'.page (turns p (events_in later) s'.page)) (sym (add-one at));
    }

    pub event-refused : (f : TurnError) → answer ≡ Err f → PlaysTo (Err f) report (played p (map seen deeds) first)
    event-refused f failed = stopped f s' outcome (turns p (events_in later)) report (played_from p (suc at) later report) _ event-is (subst (λ a. PlaysBody a s' outcome) failed event-played.plays)

  -- the page is checked
  pub check-left : (selector : Selector) (want : Want) (nodes : List Node) (now : Report) → seen deed ≡ Checks selector want → nodes ≡ nodes_of p s.page → now ≡ checked at nodes selector want report
      → Left p deeds first (at + 1) now s
  check-left selector want nodes now is ns more = record {
    so_far =
        left.so_far ∙ deed-next p deeds at deed (Checks selector want) report s.page below here is
        ∙ ap (λ r. played_from p (suc at) later r s.page (turns p (events_in later) s.page)) (sym (more ∙ ap (λ n. checked at n selector want report) ns))
        ∙ ap (λ n. played_from p n later now s.page (turns p (events_in later) s.page)) (sym (add-one at));
  }

-- no deed is left
pub all-played : (p : Program) (deeds : List Own) (first : Report) (at : ℕ) (report : Report) (s : Session) → Left p deeds first at report s → length deeds ≤ at → played p (map seen deeds) first ≡ Ends report
all-played p deeds first at report s left past = left.so_far ∙ at_drop_all (λ rest. played_from p at (map seen rest) report s.page (turns p (events_in (map seen rest)) s.page)) deeds at past
