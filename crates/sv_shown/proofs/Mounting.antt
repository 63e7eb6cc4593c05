-- What is so of a page between turns, and that mounting brings it about.
use Rattle.std.proofs.Common.{ℕ, [], None, refl, subst}
use Rattle.sv_code.specs.Compiled.{IsCompiled}
use Rattle.sv_code.specs.declared.program.Program.{Program}
use Rattle.sv_course.proofs.Course.{Course}
use Rattle.sv_course.proofs.Creating.{mounted_after, rooted_keeps}
use Rattle.sv_course.proofs.Telling.{Stands, both_bring}
use Rattle.sv_course.proofs.Told.{watched_tells}
use Rattle.sv_course.proofs.WatchingPages.{IsUnmade, IsWatching, watched_loaded}
use Rattle.sv_course.proofs.WatchingPhases.{Watched}
use Rattle.sv_family.proofs.Blank.{family_blank, filled_blank}
use Rattle.sv_family.proofs.Numbering.{numbers_blank}
use Rattle.sv_family.proofs.Scripts.{About, At, are_sets, are_stay, scripted_brings}
use Rattle.sv_family.proofs.Whole.{Whole}
use Rattle.sv_family.specs.Kin.{kins}
use Rattle.sv_flush.proofs.Blank.{blank_tracked}
use Rattle.sv_flush.proofs.Bringing.{Afterwards, Brings}
use Rattle.sv_flush.proofs.Lasting.{Idle}
use Rattle.sv_flush.proofs.Playing.{rooted}
use Rattle.sv_flush.specs.Creation.{mounted}
use Rattle.sv_flush.specs.Outcome.{Outcome, Done, Halted, scripted}
use Rattle.sv_flush.specs.Page.{blank, begun}
use Rattle.sv_flush.specs.declared.page.Page.{Page}
use Rattle.sv_frame.proofs.Running.{modules_leave}
use Rattle.sv_meaning.specs.Runs.{run_modules}
use Rattle.sv_shapes.specs.Showing.{Showing}
use Rattle.sv_shown.proofs.Beginning.{BeginWithNobody, Begins, blank_begins, mounted_begins}
use Rattle.sv_shown.proofs.Blank.{true_blank}
use Rattle.sv_shown.proofs.Whole.{Shown, shown_sorted}
use Rattle.sv_shown.specs.True.{Modules, AreTrue}
use Rattle.sv_world.specs.declared.world.World.{World}

-- instances stand as they should, all that is shown of them is true and watched, and nobody has the number 0
abbrev pub Holds : Program → Modules → World → ℕ → Showing → Type 0
Holds p ms w next s = (Shown p ms [] None [] (kins w.states) s next × Watched p ms Idle s.shown w.modules w.states) × BeginWithNobody (kins w.states)

abbrev pub Known : Program → Modules → Page → Type 0
Known p ms m = Holds p ms m.world m.counters.next m.showing

-- so it is for the constants that module files left
abbrev pub Knows : Program → Page → Type 0
Knows p m = (ms : Modules) × Known p ms m

pub known_some : (p : Program) (ms : Modules) {A : Type 0} (o : Outcome A) → Afterwards (Known p ms) o → Afterwards (Knows p) o
known_some p ms (Done a m) h = (ms, h)
known_some p ms (Halted r m) h = tt

-- what is known besides that nobody has the number 0
pub known_with : (p : Program) (ms : Modules) (o : Outcome (Unit {0})) → Afterwards (Stands (Shown p ms) (Watched p ms) Idle []) o → Afterwards (Begins p) o → Afterwards (Known p ms) o
known_with p ms (Done u m) h k = (h, k.1)
known_with p ms (Halted r m) h k = tt

module _ (p : Program) (compiled : IsCompiled p) (course : (ms : Modules) → Course p ms (Shown p ms)) where
  -- nobody was made, whatever constants module files leave
  abbrev Empty : About
  Empty ks s next = Whole p [] None [] ks s next × ((ms : Modules) → AreTrue p ms [] ks s next)

  abbrev Loaded : Page → Type 0
  Loaded m = At Empty m × IsWatching p m

  loaded : Brings (λ m. At Empty m × IsUnmade m.showing.shown m.world.states) Loaded (scripted (run_modules p))
  loaded = both_bring (scripted_brings Empty (λ old. modules_leave (are_stay p old) (are_sets old 0) (λ ms ms' s h. h))) (watched_loaded p)

  blank_loaded : Afterwards Loaded (scripted (run_modules p) (begun blank))
  blank_loaded = loaded.held (begun blank) (((family_blank p blank.counters.next, numbers_blank blank.counters.next, filled_blank p), λ ms. true_blank p ms blank.counters.next), (blank_tracked, refl))

  -- the root is made
  abbrev IsMade : Page → Type 0
  IsMade m = (ms : Modules) × Stands (Shown p ms) (Watched p ms) Idle [] m

  made_some : (ms : Modules) (o : Outcome (Unit {0})) → Afterwards (Stands (Shown p ms) (Watched p ms) Idle []) o → Afterwards IsMade o
  made_some ms (Done u m) h = (ms, h)
  made_some ms (Halted r m) h = tt

  rooted_made : (m : Page) → Loaded m → Afterwards IsMade (rooted p m)
  rooted_made m h =
      let ms = m.world.modules in
      made_some ms (rooted p m) ((rooted_keeps p ms (Shown p ms) (Watched p ms) (course ms) (shown_sorted p ms) (watched_tells p ms)).held m ((h.0.0, h.0.1 ms), h.1))

  blank_made : Afterwards IsMade (mounted p (begun blank))
  blank_made = mounted_after p IsMade (begun blank) (λ m e. rooted_made m (subst (Afterwards Loaded) e blank_loaded))

  made_known : (o : Outcome (Unit {0})) → Afterwards IsMade o → Afterwards (Begins p) o → Afterwards (Knows p) o
  made_known (Done u m) h k = (h.0, (h.1, k.1))
  made_known (Halted r m) h k = tt

  pub mounted_known : Afterwards (Knows p) (mounted p (begun blank))
  mounted_known = made_known (mounted p (begun blank)) blank_made ((mounted_begins p compiled).held (begun blank) (blank_begins p))
