-- What is so of live instances against what is shown of them, at every moment of a flush.
use Rattle.std.proofs.Common.{◌≡◌, ◌≢◌, ℕ, zero, suc, ◌<◌, ◌≤◌, List, [], ◌∷◌, ◌++◌, length, Option, Some, None, option_map, refl, sym, ap, subst, ◌∙◌, arith, inr, ⊎_elim}
use Rattle.std.specs.BTreeMap.{is_at, insert_entry}
use Rattle.std.specs.Map.{remove_entry}
use Rattle.std.specs.Ordering.{nat_cmp}
use Rattle.std.specs.Prelude.{slice_get}
use Rattle.std.proofs.lemmas.Bool.{cases_eq, cases_lt}
use Rattle.std.proofs.lemmas.List.{get_or_append_left, get_or_past, get_or_push, length-map, length-set, length_push}
use Rattle.std.proofs.lemmas.Option.{none-some, same_Some}
use Rattle.sv_code.specs.declared.program.Program.{Program}
use Rattle.sv_course.proofs.Watching.{shown_in, WasShown, IsWatched, EachIs, altered_each, number_of, numbers, numbers-count, AreGiven, Watches, watches_stay, watches-handed, watches-bound, watches-viewed, watches_set}
use Rattle.sv_family.proofs.Declaring.{opens}
use Rattle.sv_family.proofs.Pictures.{IsOpened}
use Rattle.sv_family.proofs.Removal.{at-differs, at-before}
use Rattle.sv_flush.proofs.Lasting.{Phase, Loading, Idle, Fresh, Busy, Snapped, Lasting, TakesAt, while_running}
use Rattle.sv_flush.proofs.Past.{later_now}
use Rattle.sv_flush.proofs.Recording.{Only}
use Rattle.sv_flush.proofs.Tracking.{Tracks, Shot, tracks_last, tracks_stay, tracks-viewed, picture_at}
use Rattle.sv_flush.specs.Creation.{cell_count}
use Rattle.sv_flush.specs.Lent.{ArePast}
use Rattle.sv_flush.specs.Records.{IsRecorded, Records, nobody}
use Rattle.sv_frame.proofs.Altering.{pictures-altered}
use Rattle.sv_frame.proofs.Outcomes.{Modules, at_ends, ending, Left, both_stay}
use Rattle.sv_frame.proofs.Running.{settle_leaves, top_leaves}
use Rattle.sv_frame.specs.Snapshots.{Snapshot, snapshot_of, snapshots}
use Rattle.sv_instance.specs.Cells.{cell_or_new, count_of, count_at, present}
use Rattle.sv_instance.specs.Instance.{born}
use Rattle.sv_instance.specs.Standing.{Place}
use Rattle.sv_instance.specs.declared.instance.Instance.{Instance}
use Rattle.sv_meaning.specs.Outcome.{Ending, Ends, Fails}
use Rattle.sv_meaning.specs.Runs.{run_top, settle}
use Rattle.sv_places.proofs.Lookups.{found-put, found-put_other, found-left, found-all}
use Rattle.sv_shapes.specs.declared.shape.Shape.{Shape}
use Rattle.sv_shapes.specs.declared.shown.Shown.{Shown}
use Rattle.sv_states.proofs.Altering.{at-altered_same, at-altered_none}
use Rattle.sv_states.proofs.Later.{later_same}
use Rattle.sv_states.specs.Assignment.{bound_up}
use Rattle.sv_states.specs.Change.{added, removed, viewed}
use Rattle.sv_states.specs.Sound.{IsSeen, IsLater}
use Rattle.sv_states.specs.States.{States, live}
use Rattle.sv_states.specs.Waiting.{snapped}
use Rattle.sv_states.specs.Waiting as waiting
use Rattle.sv_value.specs.Value.{Val}
use Rattle.sv_view.specs.Cell.{Cell}
use Rattle.sv_view.specs.Level.{View}
use Rattle.sv_world.specs.World.{present_view}
use Rattle.sv_world.specs.declared.world.World.{World}

-- ---- cells on which an instance was shown

recorded_past : (w : Snapshot) (x : Shown) → IsRecorded w x → ArePast w x.view.own.cells
recorded_past w x r = by w.seen refl r.seen where
  by : (o : Option (List (Option Cell))) → w.seen ≡ o → option_map present o ≡ Some x.view.own.cells → ArePast w x.view.own.cells
  by None e f = absurd (none-some x.view.own.cells f)
  by (Some old) e f =
      let same : present old ≡ x.view.own.cells = same_Some (present old) x.view.own.cells f in
      record {
        old = old;
        seen = e;
        whole = sym (length-map old cell_or_new) ∙ (ap length same ∙ r.whole);
        later = λ c. subst (λ (cells : List Cell). IsLater (slice_get cells c) (slice_get (present old) c)) same (later_same (slice_get (present old) c));
      }

-- they are no later than what it has now
abbrev pub ArePassed : Shown → Instance → Type 0
ArePassed x i = (c : ℕ) → IsLater (slice_get x.view.own.cells c) (slice_get (present i.cells.now) c)

passed : {But : ℕ → Type 0} (shown : List (ℕ × Shown)) (s : States) (n : ℕ) (x : Shown) (i : Instance) → Tracks But shown s → shown_in shown n ≡ Some x → live s n ≡ Some i → ArePassed x i
passed shown s n x i h is there =
    later_now i (subst IsSeen there (h.sound.seen n)) x.view.own.cells
    (recorded_past (snapshot_of i) x (h.records.seen n (snapshot_of i) x (picture_at snapshot_of s n (Some i) there) is))

pub count_present : (now : List (Option Cell)) (c : ℕ) → count_of (slice_get (present now) c) ≡ count_at now c
count_present [] c = refl
count_present (None ∷ now) zero = refl
count_present (Some x ∷ now) zero = refl
count_present (o ∷ now) (suc c) = count_present now c

least : (x : Shown) (i : Instance) (c : ℕ) → ArePassed x i → count_of (slice_get x.view.own.cells c) ≤ count_at i.cells.now c
least x i c h = let l = (h c).least in let e = count_present i.cells.now c in omega (arith, l, e)

-- ---- what is watched

-- what an instance was shown on, of which a snapshot was taken just now
abbrev pub PassedAt : ℕ → List (ℕ × Shown) → States → Type 0
PassedAt n shown s = (x : Shown) (i : Instance) → shown_in shown n ≡ Some x → live s n ≡ Some i → ArePassed x i

-- what goes on behind module files, which left these constants
abbrev pub Watched : Program → Modules → Phase → List (ℕ × Shown) → Modules → States → Type 0
Watched p ms Loading shown now s = ⊥
Watched p ms Idle shown now s = Tracks nobody shown s × Watches p ms nobody shown now s
Watched p ms (Fresh n) shown now s = Tracks (Only n) shown s × Watches p ms (Only n) shown now s
Watched p ms (Busy n) shown now s = Tracks (Only n) shown s × Watches p ms nobody shown now s
Watched p ms (Snapped n) shown now s = Shot n shown s × (Watches p ms nobody shown now s × PassedAt n shown s)

both_left : {A : Type 0} (P R : Modules → States → Type 0) (e : Ending A) → Left (ending P) e → Left (ending R) e → Left (ending (λ ms s. P ms s × R ms s)) e
both_left P R (Ends a w) h k = (h, k)
both_left P R (Fails kind s w) h k = tt

module _ (p : Program) (ms : Modules) where
  -- ---- instances that are made

  -- all are watched where one more is no new one
  old_watched : (l : ℕ) (shown : List (ℕ × Shown)) (n : ℕ) (i : Instance) → n ≢ l → IsWatched p ms nobody shown n i → IsWatched p ms (Only l) shown n i
  old_watched l shown n i other h = record { unshown = λ e. absurd (other e); unseen = λ e. absurd (other e); opened = λ old. h.opened (λ none. none); last = h.last }

  -- only who was made before is shown
  unshown_yet : (saw : List (Option Snapshot)) (shown : List (ℕ × Shown)) → Records nobody saw shown → shown_in shown (length saw) ≡ None
  unshown_yet saw shown h = by (shown_in shown (length saw)) refl where
    by : (o : Option Shown) → shown_in shown (length saw) ≡ o → shown_in shown (length saw) ≡ None
    by None e = e
    by (Some x) e = absurd (let l : length saw < length saw = found-all (λ k. k < length saw) shown (length saw) x h.made e in omega (arith, l))

  new_watched : (l : ℕ) (shown : List (ℕ × Shown)) (place : Place) (cells constants : ℕ) → shown_in shown l ≡ None → IsWatched p ms (Only l) shown l (born place cells constants)
  new_watched l shown place cells constants none = record { unshown = λ e. none; unseen = λ e. refl; opened = λ old. absurd (old refl); last = λ x is. absurd (none-some x (sym none ∙ is)) }

  born_watched : (shown : List (ℕ × Shown)) (s : States) (place : Place) (cells constants : ℕ) → shown_in shown (length s.lives) ≡ None → EachIs (IsWatched p ms nobody shown) s
      → EachIs (IsWatched p ms (Only (length s.lives)) shown) (added s (born place cells constants))
  born_watched shown s place cells constants none h n i there = ⊎_elim same other (cases_eq n (length s.lives)) where
    last : Option Instance
    last = Some (born place cells constants)

    same : n ≡ length s.lives → IsWatched p ms (Only (length s.lives)) shown n i
    same e =
        let is : born place cells constants ≡ i = same_Some (born place cells constants) i (sym (get_or_push s.lives last None n (sym e)) ∙ there) in
        subst (λ k. IsWatched p ms (Only (length s.lives)) shown k i) (sym e) (subst (IsWatched p ms (Only (length s.lives)) shown (length s.lives)) is (new_watched (length s.lives) shown place cells constants none))

    other : n ≢ length s.lives → IsWatched p ms (Only (length s.lives)) shown n i
    other e = ⊎_elim
        (λ below. old_watched (length s.lives) shown n i e (h n i (sym (get_or_append_left s.lives (last ∷ []) None n below) ∙ there)))
        (λ past. absurd (none-some i (sym (get_or_past (s.lives ++ last ∷ []) n None (let l = length_push s.lives last in omega (arith, l, e, past))) ∙ there)))
        (cases_lt n (length s.lives))

  given-born : (s : States) (i : Instance) → AreGiven nobody (numbers s) → AreGiven (Only (length s.lives)) (numbers (added s i))
  given-born s i h =
      let a = numbers-count (added s i) in
      let b = length_push s.lives (Some i) in
      let c = numbers-count s in
      let k = h.0 in
      (omega (arith, a, b), λ n e zero_is. omega (arith, c, k, e, zero_is))

  watches-born : (shown : List (ℕ × Shown)) (now : Modules) (s : States) (place : Place) (cells constants : ℕ) → Tracks nobody shown s → Watches p ms nobody shown now s
      → Watches p ms (Only (length s.lives)) shown now (added s (born place cells constants))
  watches-born shown now s place cells constants t h =
      let none : shown_in shown (length s.lives) ≡ None = subst (λ l. shown_in shown l ≡ None) (length-map s.lives (option_map snapshot_of)) (unshown_yet (snapshots s) shown t.records) in (
        (born_watched shown s place cells constants none h.0.0, h.0.1),
        given-born s (born place cells constants) h.1,
      )

  -- ---- their scripts

  opened_watched : (shown : List (ℕ × Shown)) (n : ℕ) (now : Modules) (s : States) → IsOpened p n s → Watches p ms (Only n) shown now s → Watches p ms nobody shown now s
  opened_watched shown n now s o h = (
    (
      λ k i there. let w = h.0.0 k i there in record {
        unshown = λ none. absurd none;
        unseen = λ none. absurd none;
        opened = λ old c cell comp view. ⊎_elim (λ same. o i c cell (ap (live s) (sym same) ∙ there) comp view) (λ other. w.opened other c cell comp view) (cases_eq k n);
        last = w.last;
      },
      h.0.1,
    ),
    (h.1.0, λ k none. absurd none),
  )

  opened_left : (shown : List (ℕ × Shown)) (n : ℕ) (props : List (ℕ × Val)) (w : World) → Watches p ms (Only n) shown w.modules w.states → Left (ending (Watches p ms nobody shown)) (run_top p n props w)
  opened_left shown n props w h =
      over (run_top p n props w) ((top_leaves watches_stay n (watches_set p ms shown n) props).held w h) (opens p n props w (λ i there. (h.0.0 n i there).unseen refl))
    where
      over : (e : Ending (Unit {0})) → Left (ending (Watches p ms (Only n) shown)) e → Left (at_ends (IsOpened p n)) e → Left (ending (Watches p ms nobody shown)) e
      over (Ends a u) k o = opened_watched shown n u.modules u.states o k
      over (Fails kind span u) k o = tt

  -- ---- instances that go

  given-gone : (s : States) (n : ℕ) → AreGiven nobody (numbers s) → AreGiven nobody (numbers (removed s n))
  given-gone s n h =
      let a = numbers-count (removed s n) in
      let b = length-set s.lives n None in
      let c = numbers-count s in
      let k = h.0 in
      (omega (arith, a, b, c, k), λ m none. absurd none)

  watches-gone : (shown : List (ℕ × Shown)) (now : Modules) (s : States) (n : ℕ) → Watches p ms nobody shown now s → Watches p ms nobody (remove_entry (is_at (nat_cmp n)) shown) now (removed s n)
  watches-gone shown now s n h = (
    (
      λ k i there.
          let w = h.0.0 k i (at-before s.lives n k i there) in
          record {
            unshown = λ none. absurd none;
            unseen = λ none. absurd none;
            opened = w.opened;
            last = λ x is. w.last x (sym (found-left shown n k (at-differs s.lives n k i there)) ∙ is);
          },
      h.0.1,
    ),
    given-gone s n h.1,
  )

  -- ---- snapshots

  snapped_watched : (shown : List (ℕ × Shown)) (n : ℕ) (i : Instance) → IsWatched p ms nobody shown n i → IsWatched p ms nobody shown n (waiting.shown i)
  snapped_watched shown n i h = record {
    unshown = λ none. absurd none;
    unseen = λ none. absurd none;
    opened = h.opened;
    last = λ x is. let w = h.last x is in record { inst = w.inst; locals = w.locals; fixed = record { constants = w.fixed.constants; modules = w.fixed.modules }; lent = w.lent };
  }

  watches-snapped : (shown : List (ℕ × Shown)) (now : Modules) (s : States) (n : ℕ) → Watches p ms nobody shown now s → Watches p ms nobody shown now (snapped s n)
  watches-snapped shown now s n h = (
    (altered_each (IsWatched p ms nobody shown) waiting.shown s n h.0.0 (λ i there. snapped_watched shown n i), h.0.1),
    subst (AreGiven nobody) (sym (pictures-altered number_of waiting.shown s.lives n (λ i. refl))) h.1,
  )

  passed-snapped : {But : ℕ → Type 0} (shown : List (ℕ × Shown)) (s : States) (n : ℕ) → Tracks But shown s → PassedAt n shown (snapped s n)
  passed-snapped shown s n h x i is = by (live s n) refl where
    by : (o : Option Instance) → live s n ≡ o → live (snapped s n) n ≡ Some i → ArePassed x i
    by None e there = absurd (none-some i (sym (at-altered_none waiting.shown s.lives n e) ∙ there))
    by (Some j) e there = subst (ArePassed x) (same_Some (waiting.shown j) i (sym (at-altered_same waiting.shown s.lives n j e) ∙ there)) (passed shown s n x j h is e)

  -- ---- instances that are shown

  module _ (shown : List (ℕ × Shown)) (now : Modules) (s : States) (n : ℕ) (i : Instance) (parts : List Shape) (there : live s n ≡ Some i) (h : Watches p ms nobody shown now s) where
    abbrev last : Shown
    last = record { view = present_view now n i; parts = parts }

    abbrev put : List (ℕ × Shown)
    put = insert_entry nat_cmp shown n last

    last_watched : IsWatched p ms nobody put n i
    last_watched = record {
      unshown = λ none. absurd none;
      unseen = λ none. absurd none;
      opened = (h.0.0 n i there).opened;
      last = λ x is. subst (WasShown p ms n i) (same_Some last x (sym (found-put shown n last) ∙ is))
          (record { inst = refl; locals = refl; fixed = record { constants = refl; modules = h.0.1 }; lent = λ c view. inr refl });
    }

    other_watched : (k : ℕ) (j : Instance) → k ≢ n → IsWatched p ms nobody shown k j → IsWatched p ms nobody put k j
    other_watched k j other w = record {
      unshown = λ none. absurd none;
      unseen = λ none. absurd none;
      opened = w.opened;
      last = λ x is. w.last x (sym (found-put_other shown n last k other) ∙ is);
    }

    watches-shown : Watches p ms nobody put now s
    watches-shown = (
      (
        λ k j here. ⊎_elim
            (λ same. subst (λ m. IsWatched p ms nobody put m j) (sym same) (subst (IsWatched p ms nobody put n) (same_Some i j (sym there ∙ (ap (live s) (sym same) ∙ here))) last_watched))
            (λ other. other_watched k j other (h.0.0 k j here))
            (cases_eq k n),
        h.0.1,
      ),
      h.1,
    )

  -- ---- views that are lent

  viewed_on : {But New : ℕ → Type 0} (shown : List (ℕ × Shown)) (now : Modules) (s : States) (n c : ℕ) (view : View) → TakesAt p (live s n) c → Tracks But shown s × Watches p ms New shown now s
      → Tracks But shown (viewed s n c view) × Watches p ms New shown now (viewed s n c view)
  viewed_on shown now s n c view takes h =
      (tracks-viewed shown s n c view h.0, watches-viewed now s n c view takes (λ x i is there. least x i c (passed shown s n x i h.0 is there)) h.1)

  -- ---- whatever a flush does

  pub watched_last : Lasting p (λ phase due. Watched p ms phase)
  watched_last = record {
    scripts = while_running _ (λ due shown. both_stay (tracks_stay p shown) watches_stay) (λ n due shown. both_stay (tracks_stay p shown) watches_stay) (λ n due shown. both_stay (tracks_stay p shown) watches_stay);
    loads = λ due shown w h. absurd h;
    opens = λ n due shown props w h. both_left _ _ (run_top p n props w) ((tracks_last p).opens n due shown props w h.0) (opened_left shown n props w h.1);
    binds = λ due shown w n b may h. both_left _ _ (settle p (record w { states = bound_up w.states n b })) ((tracks_last p).binds due shown w n b may h.0)
        ((settle_leaves watches_stay).held (record w { states = bound_up w.states n b }) (watches-bound w.modules w.states n b h.1));
    hands = while_running _ (λ due shown now s at v h. ((tracks_last p).hands Idle tt due shown now s at v h.0, watches-handed now s at v h.1))
        (λ n due shown now s at v h. ((tracks_last p).hands (Fresh n) tt due shown now s at v h.0, watches-handed now s at v h.1))
        (λ n due shown now s at v h. ((tracks_last p).hands (Busy n) tt due shown now s at v h.0, watches-handed now s at v h.1));
    lends = while_running _ (λ due shown now s n c view takes d h. viewed_on shown now s n c view takes h)
        (λ m due shown now s n c view takes d h. viewed_on shown now s n c view takes h)
        (λ m due shown now s n c view takes d h. viewed_on shown now s n c view takes h);
    spends = λ more due shown now s h. h;
    makes = λ due shown now s place c is h. ((tracks_last p).makes due shown now s place c is h.0, watches-born shown now s place (cell_count c) c.constants h.0 h.1);
    drops = λ due shown now s n h. ((tracks_last p).drops due shown now s n h.0, watches-gone shown now s n h.1);
    begins = λ n due shown now s h. ((tracks_last p).begins n due shown now s h.0, h.1);
    snaps = λ n due shown now s h. ((tracks_last p).snaps n due shown now s h.0, (watches-snapped shown now s n h.1, passed-snapped shown s n h.0));
    passes = λ n due shown now s none h. ((tracks_last p).passes n due shown now s none h.0, h.1.0);
    shows = λ n due shown now s i parts there h. ((tracks_last p).shows n due shown now s i parts there h.0, watches-shown shown now s n i parts there h.1.0);
  }
