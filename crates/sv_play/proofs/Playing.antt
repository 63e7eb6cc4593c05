-- How far a run has been printed.
use Rattle.std.proofs.Common.{◌≡◌, ◌<◌, ◌≤◌, ◌+◌, ℕ, suc, List, [], ◌++◌, length, get_or, drop, Bool, true, false, Option, Result, Ok, Err, is_err, refl, ap, sym, subst, ◌∙◌, append_assoc, append-nil, add-one, drop-cons}
use Rattle.std.proofs.lemmas.Bool.{true≢false}
use Rattle.std.proofs.lemmas.List.{drop_all}
use Rattle.std.specs.List.{list_any}
use Rattle.sv_code.specs.declared.program.Program.{Program}
use Rattle.sv_document.specs.Numbers.{Numbers, unnumbered}
use Rattle.sv_events.specs.declared.event.Event.{Event}
use Rattle.sv_flush.specs.Outcome.{Outcome, Done, Halted}
use Rattle.sv_flush.specs.Page.{blank}
use Rattle.sv_flush.specs.declared.page.Page.{Page}
use Rattle.sv_io.proofs.Written.{with_bytes-twice, with_bytes-none}
use Rattle.sv_io.specs.Sink.{with_bytes, AppendsFront}
use Rattle.sv_page.specs.Run.{followed, turns, run}
use Rattle.sv_page.specs.Turns.{first_turn, next_turn, nodes_of}
use Rattle.sv_play.specs.Run.{printed, page_text, turn_text, turn_texts, renumbered, is_refused}
use Rattle.sv_play.specs.Session.{counted, shown}
use Rattle.sv_play.specs.declared.flags.Flags.{Flags}
use Rattle.sv_session.specs.Plays.{IsShown, Plays, PlaysBody, Turns, TurnsAt, program_of}
use Rattle.sv_session.specs.Ready.{IsReady, StandsAt}
use Rattle.sv_session.specs.declared.session.Session.{Session}
use Rattle.sv_session.specs.declared.stage.Stage.{Stage}
use Rattle.sv_session.specs.declared.stage.Stage.TheVariants.{New, Running, Stopped}
use Rattle.sv_session.specs.declared.stage.TurnError.{TurnError}
use Rattle.sv_session.specs.declared.stage.Turned.{Turned}

-- ---- sessions

-- a turn that was played left its page, and it is shown
pub record Goes (s : Session) (o : Outcome Bool) : Type 0 where
  pub target : Bool
  pub is : o ≡ Done target s.page
  pub shown : IsShown s

pub goes : (answer : Result Turned TurnError) (s : Session) (o : Outcome Bool) → is_err answer ≡ false → PlaysBody answer s o → Goes s o
goes (Ok turned) s o ok played = record { target = turned.target; is = played.0; shown = played.1.1 }
goes (Err e) s o ok played = absurd (true≢false ok)

-- the turn of an event on a page that is shown
pub turn-is : (p : Program) (r : Result Turned TurnError) (s s' : Session) (e : Event) → program_of s ≡ p → IsShown s → Turns r s s' e
    → Plays r s s' (next_turn p e (nodes_of p s.page) s.page)
turn-is p r s s' e same is_shown turned =
    let at : Plays r s s' (next_turn (program_of s) e s.nodes s.page) = subst (λ g. TurnsAt g r s s' e) is_shown.running turned in
    let with_nodes : Plays r s s' (next_turn (program_of s) e (nodes_of (program_of s) s.page) s.page) =
    subst (λ ns. Plays r s s' (next_turn (program_of s) e ns s.page)) is_shown.shown at in
    subst (λ q. Plays r s s' (next_turn q e (nodes_of q s.page) s.page)) same with_nodes

-- printing a turn gives numbers and changes nothing else
page-printed : (flags : Flags) (answer : Result Turned TurnError) (s : Session) → (shown flags answer s).page ≡ s.page
page-printed flags (Ok turned) s = refl
page-printed flags (Err e) s = refl

program-printed : (flags : Flags) (answer : Result Turned TurnError) (s : Session) → program_of (shown flags answer s) ≡ program_of s
program-printed flags (Ok turned) s = refl
program-printed flags (Err e) s = refl

stands-counted : (flags : Flags) (s : Session) (stage : Stage) → StandsAt stage s → StandsAt stage (counted flags s)
stands-counted flags s New is = is
stands-counted flags s Running is = record { reached = is.reached; shown = is.shown; apart = is.apart }
stands-counted flags s Stopped is = tt

shown-printed : (flags : Flags) (answer : Result Turned TurnError) (s : Session) → IsShown s → IsShown (shown flags answer s)
shown-printed flags (Ok turned) s is = record { shown = is.shown; running = is.running }
shown-printed flags (Err e) s is = is

pub ready-printed : (flags : Flags) (answer : Result Turned TurnError) (s : Session) → IsReady s → IsReady (shown flags answer s)
ready-printed flags (Ok turned) s is = record { runnable = is.runnable; stands = stands-counted flags s s.stage is.stands }
ready-printed flags (Err e) s is = is

numbers-printed : (flags : Flags) (answer : Result Turned TurnError) (s : Session) → is_err answer ≡ false → (shown flags answer s).numbers ≡ renumbered flags s.nodes s.numbers
numbers-printed flags (Ok turned) s ok = refl
numbers-printed flags (Err e) s ok = absurd (true≢false ok)

-- ---- turns and their texts

module _ (p : Program) (flags : Flags) (number : ℕ) (ns : Numbers) (o : Outcome Bool) (more : Page → List (Outcome Bool)) where
  -- what is printed behind the turn
  abbrev pub behind : Outcome Bool → List ℕ
  behind (Done target m) = turn_texts p flags (suc number) (renumbered flags (nodes_of p m) ns) (more m)
  behind (Halted r m) = []

  texts-followed : turn_texts p flags number ns (followed o more) ≡ turn_text p flags number ns o ++ behind o
  texts-followed = by o where
    by : (x : Outcome Bool) → turn_texts p flags number ns (followed x more) ≡ turn_text p flags number ns x ++ behind x
    by (Done target m) = refl
    by (Halted r m) = refl

  texts-done : (target : Bool) (m : Page) → o ≡ Done target m
      → turn_texts p flags number ns (followed o more) ≡ turn_text p flags number ns o ++ turn_texts p flags (suc number) (renumbered flags (nodes_of p m) ns) (more m)
  texts-done target m is = texts-followed ∙ ap (λ x. turn_text p flags number ns o ++ behind x) is

  any-done : (target : Bool) (m : Page) → o ≡ Done target m → list_any is_refused (followed o more) ≡ list_any is_refused (more m)
  any-done target m is = ap (λ x. list_any is_refused (followed x more)) is

  behind-refused : (x : Outcome Bool) → is_refused x ≡ true → behind x ≡ []
  behind-refused (Done target m) is = absurd (true≢false (sym is))
  behind-refused (Halted r m) is = refl

  texts-refused : is_refused o ≡ true → turn_texts p flags number ns (followed o more) ≡ turn_text p flags number ns o
  texts-refused is = texts-followed ∙ (ap (λ t. turn_text p flags number ns o ++ t) (behind-refused o is) ∙ append-nil (turn_text p flags number ns o))

  any-refused : (x : Outcome Bool) → is_refused x ≡ true → list_any is_refused (followed x more) ≡ true
  any-refused (Done target m) is = absurd (true≢false (sym is))
  any-refused (Halted r m) is = refl

-- ---- what was printed

-- what a run prints, and whether it ends refused
abbrev run_text : Program → Flags → List Event → List ℕ
run_text p flags events = turn_texts p flags 0 unnumbered (run p events)

abbrev run_refused : Program → List Event → Bool
run_refused p events = list_any is_refused (run p events)

printed-is : (p : Program) (flags : Flags) (events : List Event) → printed p flags events ≡ record { text = run_text p flags events; refused = run_refused p events }
unfolding printed
printed-is p flags events = refl

-- these bytes were written, and the turns of the events from one with a number on are left
pub record Played (p : Program) (flags : Flags) (events : List Event) (old now : Option (List ℕ)) (index : ℕ) (s : Session) : Type 0 where
  pub done : List ℕ
  pub written : now ≡ with_bytes old done
  pub text : run_text p flags events ≡ done ++ turn_texts p flags (suc index) s.numbers (turns p (drop index events) s.page)
  pub rest : run_refused p events ≡ list_any is_refused (turns p (drop index events) s.page)

-- a front of a text that has more behind it
front-more : (old new : Option (List ℕ)) (text more whole : List ℕ) → whole ≡ text ++ more → AppendsFront old new text → AppendsFront old new whole
front-more old new text more whole is f = record {
  front = f.front;
  rest = f.rest ++ more;
  parts = is ∙ (ap (λ t. t ++ more) f.parts ∙ append_assoc f.front f.rest more);
  appended = f.appended;
}

-- a front of what follows bytes that were written
front-behind : (old now new : Option (List ℕ)) (done text : List ℕ) → now ≡ with_bytes old done → AppendsFront now new text → AppendsFront old new (done ++ text)
front-behind old now new done text written f = record {
  front = done ++ f.front;
  rest = f.rest;
  parts = ap (λ t. done ++ t) f.parts ∙ sym (append_assoc done f.front f.rest);
  appended = f.appended ∙ (ap (λ w. with_bytes w f.front) written ∙ with_bytes-twice old done f.front);
}

pub front-nothing : (old : Option (List ℕ)) (bytes : List ℕ) → AppendsFront old old bytes
front-nothing old bytes = record { front = []; rest = bytes; parts = refl; appended = sym (with_bytes-none old) }

-- all turns were printed
module _ (p : Program) (flags : Flags) (events : List Event) (old now : Option (List ℕ)) (i : ℕ) (s : Session) (played : Played p flags events old now i s) where
  pub all-text : length events ≤ i → now ≡ with_bytes old (printed p flags events).text
  all-text past =
      played.written ∙ ap (with_bytes old) (sym (ap (λ x. x.text) (printed-is p flags events) ∙ (played.text
      ∙ (ap (λ es. played.done ++ turn_texts p flags (suc i) s.numbers (turns p es s.page)) (drop_all i events past) ∙ append-nil played.done))))

  pub all-refused : length events ≤ i → false ≡ (printed p flags events).refused
  all-refused past =
      sym (ap (λ x. x.refused) (printed-is p flags events) ∙ (played.rest ∙ ap (λ es. list_any is_refused (turns p es s.page)) (drop_all i events past)))

-- ---- what code says of a turn that it prints

abbrev Fronts : Flags → Result Turned TurnError → Session → Option (List ℕ) → Option (List ℕ) → ℕ → Type 0
Fronts flags answer s old new number = (o : Outcome Bool) → PlaysBody answer s o → AppendsFront old new (turn_text (program_of s) flags number s.numbers o)

abbrev Tells : Result Turned TurnError → Session → Bool → Type 0
Tells answer s refused = (o : Outcome Bool) → PlaysBody answer s o → refused ≡ is_refused o

abbrev Writes : Flags → Result Turned TurnError → Session → Option (List ℕ) → Option (List ℕ) → ℕ → Type 0
Writes flags answer s old new number = (o : Outcome Bool) → PlaysBody answer s o → new ≡ with_bytes old (turn_text (program_of s) flags number s.numbers o)

-- the text of a turn that was played
turn-text : (flags : Flags) (number : ℕ) (answer : Result Turned TurnError) (turned : Turned) (s s' : Session) (text : List ℕ) → answer ≡ Ok turned → s' ≡ counted flags s
    → text ≡ page_text flags number turned.target s'.page s'.numbers s'.nodes → (o : Outcome Bool) → PlaysBody answer s o → text ≡ turn_text (program_of s) flags number s.numbers o
turn-text flags number answer turned s s' text is printing made o played =
    let done : PlaysBody (Ok turned) s o = subst (λ a. PlaysBody a s o) is played in
    made ∙ (ap (λ x. page_text flags number turned.target x.page x.numbers x.nodes) printing
    ∙ (ap (λ ns. page_text flags number turned.target s.page (renumbered flags ns s.numbers) ns) done.1.1.shown ∙ ap (turn_text (program_of s) flags number s.numbers) (sym done.0)))

pub turn-front : (flags : Flags) (number : ℕ) (answer : Result Turned TurnError) (turned : Turned) (s s' : Session) (text : List ℕ) (old new : Option (List ℕ)) → answer ≡ Ok turned
    → s' ≡ counted flags s → text ≡ page_text flags number turned.target s'.page s'.numbers s'.nodes → AppendsFront old new text → Fronts flags answer s old new number
turn-front flags number answer turned s s' text old new is printing made f = λ o played. subst (AppendsFront old new) (turn-text flags number answer turned s s' text is printing made o played) f

pub turn-written : (flags : Flags) (number : ℕ) (answer : Result Turned TurnError) (turned : Turned) (s s' : Session) (text : List ℕ) (old new : Option (List ℕ)) → answer ≡ Ok turned
    → s' ≡ counted flags s → text ≡ page_text flags number turned.target s'.page s'.numbers s'.nodes → new ≡ with_bytes old text → Writes flags answer s old new number
turn-written flags number answer turned s s' text old new is printing made written = λ o played. written ∙ ap (with_bytes old) (turn-text flags number answer turned s s' text is printing made o played)

-- ---- the first turn

module _ (p : Program) (flags : Flags) (events : List Event) (old new : Option (List ℕ)) (answer : Result Turned TurnError) (begun s : Session)
    (program : program_of begun ≡ p) (page : begun.page ≡ blank) (numbers : begun.numbers ≡ unnumbered) (plays : Plays answer begun s (first_turn (program_of begun) begun.page)) where
  abbrev pub first : Outcome Bool
  first = first_turn p blank

  first-played : PlaysBody answer s first
  first-played = subst (λ m. PlaysBody answer s (first_turn p m)) page (subst (λ q. PlaysBody answer s (first_turn q begun.page)) program plays.plays)

  pub first-is : (o : Outcome Bool) × PlaysBody answer s o
  first-is = (first, first-played)

  pub first-program : program_of s ≡ p
  first-program = ap (λ m. m.program.now) plays.keeps.machine ∙ program

  first-numbers : s.numbers ≡ unnumbered
  first-numbers = plays.keeps.numbers ∙ numbers

  first-text : turn_text (program_of s) flags 0 s.numbers first ≡ turn_text p flags 0 unnumbered first
  first-text = ap (λ q. turn_text q flags 0 s.numbers first) first-program ∙ ap (λ ns. turn_text p flags 0 ns first) first-numbers

  first-run : (printed p flags events).text ≡ turn_texts p flags 0 unnumbered (followed first (turns p events))
  unfolding run
  first-run = ap (λ x. x.text) (printed-is p flags events)

  first-any : (printed p flags events).refused ≡ list_any is_refused (followed first (turns p events))
  unfolding run
  first-any = ap (λ x. x.refused) (printed-is p flags events)

  pub first-fronts : Fronts flags answer s old new 0 → AppendsFront old new (printed p flags events).text
  first-fronts f =
      front-more old new (turn_text p flags 0 unnumbered first) (behind p flags 0 unnumbered first (turns p events) first) (printed p flags events).text
      (first-run ∙ texts-followed p flags 0 unnumbered first (turns p events)) (subst (AppendsFront old new) first-text (f first first-played))

  module _ (refused : Bool) (tells : Tells answer s refused) (is : refused ≡ true) where
    first-halted : is_refused first ≡ true
    first-halted = sym (tells first first-played) ∙ is

    pub first-refused : true ≡ (printed p flags events).refused
    first-refused = sym (first-any ∙ any-refused p flags 0 unnumbered first (turns p events) first first-halted)

    pub first-written : Writes flags answer s old new 0 → new ≡ with_bytes old (printed p flags events).text
    first-written writes =
        writes first first-played ∙ ap (with_bytes old) (first-text ∙ sym (first-run ∙ texts-refused p flags 0 unnumbered first (turns p events) first-halted))

  module _ (refused : Bool) (same : refused ≡ is_err answer) (is : refused ≡ false) (s' : Session) (printing : s' ≡ shown flags answer s) where
    first-goes : Goes s first
    first-goes = goes answer s first (sym same ∙ is) first-played

    pub first-shown : IsShown s'
    first-shown = subst IsShown (sym printing) (shown-printed flags answer s first-goes.shown)

    pub first-same : program_of s' ≡ p
    first-same = ap program_of printing ∙ (program-printed flags answer s ∙ first-program)

    first-page : s'.page ≡ s.page
    first-page = ap (λ x. x.page) printing ∙ page-printed flags answer s

    first-now : s'.numbers ≡ renumbered flags (nodes_of p s.page) unnumbered
    first-now =
        ap (λ x. x.numbers) printing ∙ (numbers-printed flags answer s (sym same ∙ is) ∙ (ap (λ ns. renumbered flags ns s.numbers) first-goes.shown.shown
        ∙ (ap (λ q. renumbered flags (nodes_of q s.page) s.numbers) first-program ∙ ap (renumbered flags (nodes_of p s.page)) first-numbers)))

    pub first-printed : Writes flags answer s old new 0 → Played p flags events old new 0 s'
    unfolding run
    first-printed writes = record {
      done = turn_text p flags 0 unnumbered first;
      written = writes first first-played ∙ ap (with_bytes old) first-text;
      text = texts-done p flags 0 unnumbered first (turns p events) first-goes.target s.page first-goes.is
          ∙ (ap (λ ns. turn_text p flags 0 unnumbered first ++ turn_texts p flags 1 ns (turns p events s.page)) (sym first-now)
          ∙ ap (λ m. turn_text p flags 0 unnumbered first ++ turn_texts p flags 1 s'.numbers (turns p events m)) (sym first-page));
      rest = any-done p flags 0 unnumbered first (turns p events) first-goes.target s.page first-goes.is ∙ ap (λ m. list_any is_refused (turns p events m)) (sym first-page);
    }

-- ---- a further turn

module _ (p : Program) (flags : Flags) (events : List Event) (old now new : Option (List ℕ)) (i number : ℕ) (answer : Result Turned TurnError) (begun s : Session) (event : Event)
    (program : program_of begun ≡ p) (is_shown : IsShown begun) (played : Played p flags events old now i begun) (count : number ≡ i) (below : i < length events)
    (at : event ≡ get_or events i event) (turned : Turns answer begun s event) where
  abbrev pub next : Outcome Bool
  next = next_turn p event (nodes_of p begun.page) begun.page

  abbrev left : Page → List (Outcome Bool)
  left = turns p (drop (suc i) events)

  next-plays : Plays answer begun s next
  next-plays = turn-is p answer begun s event program is_shown turned

  pub next-is : (o : Outcome Bool) × PlaysBody answer s o
  next-is = (next, next-plays.plays)

  pub next-program : program_of s ≡ p
  next-program = ap (λ m. m.program.now) next-plays.keeps.machine ∙ program

  next-text : turn_text (program_of s) flags (number + 1) s.numbers next ≡ turn_text p flags (suc i) begun.numbers next
  next-text =
      ap (λ q. turn_text q flags (number + 1) s.numbers next) next-program ∙ (ap (λ ns. turn_text p flags (number + 1) ns next) next-plays.keeps.numbers
      ∙ ap (λ n. turn_text p flags n begun.numbers next) (ap (λ n. n + 1) count ∙ rw add-one refl))

  next-turns : turns p (drop i events) begun.page ≡ followed next left
  next-turns = rw (drop-cons events i event below, ← at) refl

  next-run : run_text p flags events ≡ played.done ++ turn_texts p flags (suc i) begun.numbers (followed next left)
  next-run = played.text ∙ ap (λ os. played.done ++ turn_texts p flags (suc i) begun.numbers os) next-turns

  next-any : run_refused p events ≡ list_any is_refused (followed next left)
  next-any = played.rest ∙ ap (list_any is_refused) next-turns

  next-whole : (printed p flags events).text ≡ played.done ++ turn_texts p flags (suc i) begun.numbers (followed next left)
  next-whole = ap (λ x. x.text) (printed-is p flags events) ∙ next-run

  pub next-fronts : Fronts flags answer s now new (number + 1) → AppendsFront old new (printed p flags events).text
  next-fronts f =
      let text : List ℕ = turn_text p flags (suc i) begun.numbers next in
      let more : List ℕ = behind p flags (suc i) begun.numbers next left next in
      front-more old new (played.done ++ text) more (printed p flags events).text
      (next-whole ∙ (ap (λ t. played.done ++ t) (texts-followed p flags (suc i) begun.numbers next left) ∙ sym (append_assoc played.done text more)))
      (front-behind old now new played.done text played.written (subst (AppendsFront now new) next-text (f next next-plays.plays)))

  -- what is written once the turn is
  next-done : Writes flags answer s now new (number + 1) → new ≡ with_bytes old (played.done ++ turn_text p flags (suc i) begun.numbers next)
  next-done writes =
      writes next next-plays.plays ∙ (ap (with_bytes now) next-text ∙ (ap (λ w. with_bytes w (turn_text p flags (suc i) begun.numbers next)) played.written
      ∙ with_bytes-twice old played.done (turn_text p flags (suc i) begun.numbers next)))

  module _ (refused : Bool) (tells : Tells answer s refused) (is : refused ≡ true) where
    next-halted : is_refused next ≡ true
    next-halted = sym (tells next next-plays.plays) ∙ is

    pub next-refused : true ≡ (printed p flags events).refused
    next-refused = sym (ap (λ x. x.refused) (printed-is p flags events) ∙ (next-any ∙ any-refused p flags (suc i) begun.numbers next left next next-halted))

    pub next-written : Writes flags answer s now new (number + 1) → new ≡ with_bytes old (printed p flags events).text
    next-written writes =
        next-done writes ∙ ap (with_bytes old) (sym (next-whole ∙ ap (λ t. played.done ++ t) (texts-refused p flags (suc i) begun.numbers next left next-halted)))

  module _ (refused : Bool) (same : refused ≡ is_err answer) (is : refused ≡ false) (s' : Session) (printing : s' ≡ shown flags answer s) where
    next-goes : Goes s next
    next-goes = goes answer s next (sym same ∙ is) next-plays.plays

    pub next-shown : IsShown s'
    next-shown = subst IsShown (sym printing) (shown-printed flags answer s next-goes.shown)

    pub next-same : program_of s' ≡ p
    next-same = ap program_of printing ∙ (program-printed flags answer s ∙ next-program)

    next-page : s'.page ≡ s.page
    next-page = ap (λ x. x.page) printing ∙ page-printed flags answer s

    next-now : s'.numbers ≡ renumbered flags (nodes_of p s.page) begun.numbers
    next-now =
        ap (λ x. x.numbers) printing ∙ (numbers-printed flags answer s (sym same ∙ is) ∙ (ap (λ ns. renumbered flags ns s.numbers) next-goes.shown.shown
        ∙ (ap (λ q. renumbered flags (nodes_of q s.page) s.numbers) next-program ∙ ap (renumbered flags (nodes_of p s.page)) next-plays.keeps.numbers)))

    pub next-printed : Writes flags answer s now new (number + 1) → Played p flags events old new (i + 1) s'
    next-printed writes = record {
      done = played.done ++ turn_text p flags (suc i) begun.numbers next;
      written = next-done writes;
      text = next-run ∙ (ap (λ t. played.done ++ t) (texts-done p flags (suc i) begun.numbers next left next-goes.target s.page next-goes.is)
          ∙ (sym (append_assoc played.done (turn_text p flags (suc i) begun.numbers next) (turn_texts p flags (suc (suc i)) (renumbered flags (nodes_of p s.page) begun.numbers) (left s.page)))
          ∙ rw (add-one, next-now, next-page) refl));
      rest = next-any ∙ (any-done p flags (suc i) begun.numbers next left next-goes.target s.page next-goes.is ∙ rw (add-one, next-page) refl);
    }
