-- Pages whose live instances are watched: where a snapshot of one was taken, behind mounting, through flushes and scripts, and where users left states.
use Rattle.std.proofs.Common.{◌≡◌, ℕ, zero, suc, List, [], ◌∷◌, length, Option, Some, None, option_map, unwrap_or, refl, sym, ap, subst, ◌∙◌, arith, ⊎_elim}
use Rattle.std.specs.BTreeMap.{insert_entry}
use Rattle.std.specs.Ordering.{nat_cmp}
use Rattle.std.specs.Prelude.{slice_get}
use Rattle.std.proofs.lemmas.Bool.{cases_eq}
use Rattle.std.proofs.lemmas.List.{length-map}
use Rattle.std.proofs.lemmas.Option.{none-some, same_Some}
use Rattle.sv_code.specs.declared.program.Program.{Program}
use Rattle.sv_course.proofs.WatchingPhases.{ArePassed, Watched, count_present, watched_last}
use Rattle.sv_course.proofs.Watching.{shown_in, WasShown, IsWatched, numbers, numbers-count, AreGiven, Watches}
use Rattle.sv_course.specs.Watched.{view_in, view_cells, AreWatched, IsNow}
use Rattle.sv_family.proofs.Pictures.{IsOpened, kin_at}
use Rattle.sv_family.specs.Family.{component_for}
use Rattle.sv_family.specs.Kin.{kin_of, kins}
use Rattle.sv_flush.proofs.Blank.{blank_tracked}
use Rattle.sv_flush.proofs.Bringing.{Afterwards, Brings, after_then}
use Rattle.sv_flush.proofs.Knowing.{count_is}
use Rattle.sv_flush.proofs.Lasting.{Idle, Busy, Snapped}
use Rattle.sv_flush.proofs.Playing.{rooted_brings, flushed_brings}
use Rattle.sv_flush.proofs.Recording.{records-laid}
use Rattle.sv_flush.proofs.Tracking.{Tracks, goes_sets, tracks_go, tracks_stay, picture_at}
use Rattle.sv_flush.specs.Creation.{mounted}
use Rattle.sv_flush.specs.Flush.{flushed}
use Rattle.sv_flush.specs.Outcome.{Outcome, Done, Halted, ended, scripted}
use Rattle.sv_flush.specs.Page.{begun, blank}
use Rattle.sv_flush.specs.Records.{nobody}
use Rattle.sv_flush.specs.declared.page.Page.{Page}
use Rattle.sv_frame.proofs.Altering.{seen_setups, seen_stays}
use Rattle.sv_frame.proofs.Outcomes.{Modules, at_ends, Leaves, Left, both_stay, both_sets, ends_stay}
use Rattle.sv_frame.proofs.Running.{modules_leave}
use Rattle.sv_frame.proofs.Stepping.{sets_by, steps_stay}
use Rattle.sv_frame.specs.Snapshots.{snapshot_of, snapshots}
use Rattle.sv_instance.specs.Cells.{count_of}
use Rattle.sv_instance.specs.declared.instance.Instance.{Instance}
use Rattle.sv_meaning.specs.Components.{component_at}
use Rattle.sv_meaning.specs.Outcome.{Ending, Ends, Fails}
use Rattle.sv_meaning.specs.Runs.{run_modules}
use Rattle.sv_numbered.specs.Numbered.{at}
use Rattle.sv_places.proofs.Lookups.{found-put, found-put_other}
use Rattle.sv_right.specs.Later.{AreLater}
use Rattle.sv_shapes.specs.declared.shown.Shown.{Shown}
use Rattle.sv_states.specs.States.{States, live}
use Rattle.sv_view.specs.Cell.{Cell}
use Rattle.sv_view.specs.Level.{View}
use Rattle.sv_view.specs.Local.{Local, local_at}
use Rattle.sv_world.specs.World.{present_view}

-- ---- a snapshot was taken

module _ (p : Program) (ms now : Modules) (s : States) (n : ℕ) (i : Instance) (there : live s n ≡ Some i) (fixed : now ≡ ms) (x : Shown) (w : WasShown p ms n i x) (passed : ArePassed x i) where
  abbrev view : View
  view = present_view now n i

  view_cell : (c : ℕ) → view_cells p (kins s) x.view.own.inst ≡ Some c → view_in (component_at p i.place.component) ≡ Some c
  view_cell c is = sym (ap (λ o. view_in (component_for p o)) (kin_at s n (Some i) there)) ∙ (sym (ap (view_cells p (kins s)) w.inst) ∙ is)

  same_counts : (a b : Option Cell) → unwrap_or (option_map (λ (cell : Cell). cell.count) a) 0 ≡ unwrap_or (option_map (λ (cell : Cell). cell.count) b) 0 → count_of a ≡ count_of b
  same_counts a b e = count_is a ∙ (e ∙ sym (count_is b))

  -- the present view is later than the one on which the instance was shown
  later : AreLater (view_cells p (kins s)) x.view view
  later = record {
    versions = record {
      one = record { inst = w.inst; constants = w.fixed.constants; modules = w.fixed.modules ∙ sym fixed };
      cells = λ c e. ap (option_map (λ (cell : Cell). cell.value)) ((passed c).same (same_counts (slice_get x.view.own.cells c) (slice_get view.own.cells c) e));
      locals = λ name e. ap (λ l. option_map (λ (y : Local). y.value) (local_at l name.0)) w.locals;
    };
    cells = λ c. let a = count_is (slice_get x.view.own.cells c) in let b = count_is (slice_get view.own.cells c) in let l = (passed c).least in omega (arith, a, b, l);
    locals = λ name. let e = ap (λ l. unwrap_or (option_map (λ (y : Local). y.number) (local_at l name.0)) 0) w.locals in omega (arith, e);
    owners = λ c is e. ⊎_elim
        (λ less.
        let f = same_counts (slice_get x.view.own.cells c) (slice_get view.own.cells c) e in
        let g = count_present i.cells.now c in
        absurd (omega (arith, less, f, g)))
        (λ same. same)
        (w.lent c (view_cell c is));
  }

pub now_of : (p : Program) (ms : Modules) (n : ℕ) (i : Instance) (m : Page) → live m.world.states n ≡ Some i → Watched p ms (Snapped n) m.showing.shown m.world.modules m.world.states
    → IsNow p ms (kins m.world.states) m.showing n (kin_of i) (present_view m.world.modules n i)
now_of p ms n i m there h = record {
  inst = refl;
  locals = refl;
  owners = refl;
  modules = h.1.0.0.1;
  later = λ x is. later p ms m.world.modules m.world.states n i there h.1.0.0.1 x ((h.1.0.0.0 n i there).last x is) (h.1.1 x i is there);
}

module _ (p : Program) (ms : Modules) (n : ℕ) (shown : List (ℕ × Shown)) (now : Modules) (s : States) where
  opened_in : Watches p ms nobody shown now s → IsOpened p n s
  opened_in h i c cell there comp view = (h.0.0 n i there).opened (λ none. none) c cell comp view

  pub idle_opened : Watched p ms Idle shown now s → IsOpened p n s
  idle_opened h = opened_in h.1

  pub busy_opened : (m : ℕ) → Watched p ms (Busy m) shown now s → IsOpened p n s
  busy_opened m h = opened_in h.1

-- ---- pages behind module files

abbrev pub IsWatching : Program → Page → Type 0
IsWatching p m = Watched p m.world.modules Idle m.showing.shown m.world.modules m.world.states

-- module files left the constants that there are
pub watching_of : (p : Program) (ms : Modules) (m : Page) → Watched p ms Idle m.showing.shown m.world.modules m.world.states → IsWatching p m
watching_of p ms m h = subst (λ k. Watched p k Idle m.showing.shown m.world.modules m.world.states) (sym h.1.0.1) h

pub are_watched : (p : Program) (ms : Modules) (shown : List (ℕ × Shown)) (now : Modules) (s : States) → Watched p ms Idle shown now s → AreWatched p ms (shown_in shown) s
are_watched p ms shown now s h = record { fixed = λ n x i is there. ((h.1.0.0 n i there).last x is).fixed; lent = λ n x i is there. ((h.1.0.0 n i there).last x is).lent }

-- ---- mounting

-- nobody was made
abbrev pub IsUnmade : List (ℕ × Shown) → States → Type 0
IsUnmade shown s = Tracks nobody shown s × (snapshots s ≡ None ∷ [])

unmade_leave : (p : Program) (shown : List (ℕ × Shown)) → Leaves (at_ends (IsUnmade shown)) (run_modules p)
unmade_leave p shown = modules_leave (both_stay (tracks_stay p shown) (ends_stay (steps_stay (seen_stays (None ∷ [])) p)))
    (both_sets (goes_sets (tracks_go shown) 0) (sets_by (seen_setups (None ∷ [])) (seen_stays (None ∷ [])) 0)) (λ ms ms' s h. h)

none_there : {A : Type 0} (n : ℕ) → at {T = A} (None ∷ []) n ≡ None
none_there zero = refl
none_there (suc n) = refl

given : (s : States) → snapshots s ≡ None ∷ [] → AreGiven nobody (numbers s)
given s e =
    let a = length-map s.lives (option_map snapshot_of) in
    let b = numbers-count s in
    let c = ap length e in
    (omega (arith, a, b, c), λ n none. absurd none)

unmade_watched : (p : Program) (shown : List (ℕ × Shown)) (now : Modules) (s : States) → IsUnmade shown s → Watched p now Idle shown now s
unmade_watched p shown now s h = (
  h.0,
  (
    (λ n i there. absurd (none-some (snapshot_of i) (sym (ap (λ l. at l n) h.1 ∙ none_there n) ∙ picture_at snapshot_of s n (Some i) there)), refl),
    given s h.1,
  ),
)

-- module files ran
pub watched_loaded : (p : Program) → Brings (λ m. IsUnmade m.showing.shown m.world.states) (IsWatching p) (scripted (run_modules p))
watched_loaded p = record { held = λ m h. by m (run_modules p m.world) ((unmade_leave p m.showing.shown).held m.world h) } where
  by : (m : Page) (e : Ending (Unit {0})) → Left (at_ends (IsUnmade m.showing.shown)) e → Afterwards (IsWatching p) (ended m e)
  by m (Ends a w) h = unmade_watched p m.showing.shown w.modules w.states h
  by m (Fails k s w) h = tt

-- so it is where a task keeps what is watched with these constants
watching_left : (p : Program) (ms : Modules) (o : Outcome (Unit {0})) → Afterwards (λ m. Watched p ms Idle m.showing.shown m.world.modules m.world.states) o → Afterwards (IsWatching p) o
watching_left p ms (Done a m) h = watching_of p ms m h
watching_left p ms (Halted r m) h = tt

mounted_watched : (p : Program) → Afterwards (IsWatching p) (mounted p (begun blank))
unfolding mounted
mounted_watched p =
    after_then (IsWatching p) (IsWatching p) (scripted (run_modules p) (begun blank)) _ ((watched_loaded p).held (begun blank) (blank_tracked, refl))
    (λ u m h. watching_left p m.world.modules _ ((rooted_brings (watched_last p m.world.modules) []).held m h))

pub watched_mount : (p : Program) (m : Page) → mounted p (begun blank) ≡ Done tt m → IsWatching p m
watched_mount p m is = subst (Afterwards (IsWatching p)) is (mounted_watched p)

-- ---- flushes

pub watched_flush : (p : Program) (m n : Page) → IsWatching p m → flushed p m ≡ Done tt n → IsWatching p n
watched_flush p m n h is = subst (Afterwards (IsWatching p)) is (watching_left p m.world.modules (flushed p m) ((flushed_brings (watched_last p m.world.modules) []).held m h))

-- ---- what users leave

module _ (p : Program) (ms : Modules) (shown : List (ℕ × Shown)) (now : Modules) (s : States) (n : ℕ) (x y : Shown) (was : shown_in shown n ≡ Some x) (same : y.view ≡ x.view) where
  abbrev put : List (ℕ × Shown)
  put = insert_entry nat_cmp shown n y

  laid_shown : (i : Instance) → WasShown p ms n i x → WasShown p ms n i y
  laid_shown i w = subst (λ v. WasShown p ms n i (record { view = v; parts = y.parts })) (sym same)
      (record { inst = w.inst; locals = w.locals; fixed = record { constants = w.fixed.constants; modules = w.fixed.modules }; lent = w.lent })

  laid_in : (k : ℕ) (i : Instance) (z : Shown) → IsWatched p ms nobody shown k i → shown_in put k ≡ Some z → WasShown p ms k i z
  laid_in k i z h is = ⊎_elim
      (λ here.
      let e : y ≡ z = same_Some y z (sym (found-put shown n y) ∙ (sym (ap (shown_in put) here) ∙ is)) in
      subst (λ m. WasShown p ms m i z) (sym here) (subst (WasShown p ms n i) e (laid_shown i (subst (λ m. WasShown p ms m i x) here (h.last x (ap (shown_in shown) here ∙ was))))))
      (λ other. h.last z (sym (found-put_other shown n y k other) ∙ is))
      (cases_eq k n)

  -- what is shown on the same view is another thing
  pub watched_laid : Watched p ms Idle shown now s → Watched p ms Idle put now s
  watched_laid h = (
    record { sound = h.0.sound; records = records-laid nobody (snapshots s) n shown x y was same h.0.records },
    (
      (λ k i there. let w = h.1.0.0 k i there in record { unshown = λ none. absurd none; unseen = λ none. absurd none; opened = w.opened; last = λ z is. laid_in k i z w is }, h.1.0.1),
      h.1.1,
    ),
  )
