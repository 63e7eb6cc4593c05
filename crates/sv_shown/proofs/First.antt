-- The page that is recorded is the fresh one where each live instance is shown on its present cells; so it is on the first page, where nobody waits.
use Rattle.std.proofs.Common.{◌≡◌, [], refl, sym, subst}
use Rattle.sv_code.specs.Compiled.{IsCompiled}
use Rattle.sv_code.specs.declared.program.Program.{Program}
use Rattle.sv_course.proofs.Course.{Course}
use Rattle.sv_course.proofs.WatchingPages.{are_watched, watching_of}
use Rattle.sv_family.specs.Kin.{kins}
use Rattle.sv_flush.proofs.Bringing.{Afterwards}
use Rattle.sv_flush.proofs.Presenting.{presents}
use Rattle.sv_flush.specs.Creation.{mounted}
use Rattle.sv_flush.specs.Outcome.{Done}
use Rattle.sv_flush.specs.Page.{begun, blank}
use Rattle.sv_flush.specs.Records.{ShowsPresent}
use Rattle.sv_flush.specs.Rounds.{no_rounds}
use Rattle.sv_flush.specs.declared.page.Page.{Page}
use Rattle.sv_course.specs.Watched.{AreWatched}
use Rattle.sv_shapes.specs.Showing.{shown_of}
use Rattle.sv_shown.proofs.Beginning.{nobody_there}
use Rattle.sv_shown.proofs.Ending.{true_is_fresh}
use Rattle.sv_shown.proofs.Mounting.{Knows, mounted_known}
use Rattle.sv_shown.proofs.Whole.{Shown}
use Rattle.sv_shown.proofs.Now.{are_right}
use Rattle.sv_shown.specs.Fresh.{IsTrue, IsFresh, AreRightNow}
use Rattle.sv_shown.specs.True.{Modules, AreTrue}
use Rattle.sv_within.specs.Keys.{AreAllKeysSeen}

module _ (p : Program) (compiled : IsCompiled p) (keys : AreAllKeysSeen p) where
  module _ (m : Page) (h : Knows p m) where
    all_true : IsTrue p m
    all_true = record { family = h.1.0.0.0; all = subst (λ now. AreTrue p now [] (kins m.world.states) m.showing m.counters.next) (sym h.1.0.1.1.0.1) h.1.0.0.1 }

    all_watched : AreWatched p m.world.modules (shown_of m.showing) m.world.states
    all_watched = are_watched p m.world.modules m.showing.shown m.world.modules m.world.states (watching_of p h.0 m h.1.0.1)

    pub known_fresh : ShowsPresent m → IsFresh p m
    known_fresh present = true_is_fresh p m compiled keys all_true present all_watched (nobody_there (kins m.world.states) h.1.1)

    pub known_right : ShowsPresent m → AreRightNow p m
    known_right present = are_right p m compiled keys all_true present all_watched

  -- where nobody waits, what was seen is what is there
  shows_present : (m : Page) → Knows p m → m.world.states.queue ≡ [] → ShowsPresent m
  shows_present m h idle n i there =
      let now = presents (record m { rounds = no_rounds }) h.1.0.1.0 (record { queue = idle; bindings = refl; render = refl }) n i there in
      record { last = now.last; shown = now.shown; cells = now.cells; seen = now.seen }

  pub first_fresh : (course : (ms : Modules) → Course p ms (Shown p ms)) (m : Page) → mounted p (begun blank) ≡ Done tt m → m.world.states.queue ≡ [] → IsFresh p m
  first_fresh course m is idle = let known = subst (Afterwards (Knows p)) is (mounted_known p compiled course) in known_fresh m known (shows_present m known idle)
