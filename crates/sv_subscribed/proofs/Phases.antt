-- How the `$` names of all live instances stand, at every moment of a flush.
use Rattle.std.proofs.Common.{◌≡◌, ◌≢◌, ℕ, ◌<◌, List, [], ◌∷◌, ◌++◌, length, Option, Some, None, option_map, refl, sym, ap, subst, ◌∙◌, arith, inl, inr, ◌⊎◌, ⊎_elim, slice_set}
use Rattle.std.specs.Prelude.{replicate, slice_index_or}
use Rattle.std.proofs.lemmas.Bool.{cases_eq, cases_lt}
use Rattle.std.proofs.lemmas.List.{length-set, length-map, length_push, get_or-set_same, get_or-set_other, set_past, get_or_append_left, get_or_past, get_or_push, length-replicate, get_or-replicate}
use Rattle.std.proofs.lemmas.Option.{none-some, same_Some}
use Rattle.sv_code.specs.declared.known.Known.TheVariants as known
use Rattle.sv_code.specs.declared.program.Component.{Component}
use Rattle.sv_code.specs.declared.program.Program.{Program}
use Rattle.sv_flush.proofs.Lasting.{Phase, Loading, Idle, Fresh, Busy, Snapped, Lasting, TakesAt, while_running}
use Rattle.sv_flush.proofs.Recording.{Only}
use Rattle.sv_flush.proofs.Tracking.{picture_at}
use Rattle.sv_flush.specs.Creation.{cell_count}
use Rattle.sv_flush.specs.Records.{nobody}
use Rattle.sv_frame.proofs.Altering.{Plain, pictures, pictures_keep, pictures_setup, pictures_stay, pictures-altered, pictures-bound, pictures-handed}
use Rattle.sv_frame.proofs.Outcomes.{ending, Left, Stays, both_stay, ends_stay}
use Rattle.sv_frame.proofs.Running.{settle_leaves, top_leaves}
use Rattle.sv_frame.proofs.Stepping.{Setups, Steps, sets_by, steps_stay}
use Rattle.sv_instance.specs.Cells as cells
use Rattle.sv_instance.specs.Cells.{cell_at, touched_cell}
use Rattle.sv_instance.specs.Instance.{born}
use Rattle.sv_instance.specs.Standing.{Place}
use Rattle.sv_instance.specs.Subscriptions.{moved_to}
use Rattle.sv_instance.specs.declared.instance.Instance.{Instance}
use Rattle.sv_meaning.specs.Components.{component_at, component_for, component_of}
use Rattle.sv_meaning.specs.Outcome.{Ending, Ends, Fails}
use Rattle.sv_meaning.specs.Runs.{run_top}
use Rattle.sv_numbered.specs.Numbered.{at, altered, altered_over}
use Rattle.sv_states.proofs.Keeping.{new-born}
use Rattle.sv_states.proofs.Making.{tally-viewed, tally-removed}
use Rattle.sv_states.proofs.Sounding.{sound-viewed, sound-added, sound-snapped, sound-removed}
use Rattle.sv_instance.specs.Bound.{Bound}
use Rattle.sv_states.specs.Assignment.{handed_down, bound_up}
use Rattle.sv_store.proofs.Counts.{once-dropped}
use Rattle.sv_store.specs.Stores.{Subscriber, IsOnce}
use Rattle.sv_states.specs.Change.{added, removed, with_view, viewed}
use Rattle.sv_states.specs.States.{States, live, with_instance, has_cell}
use Rattle.sv_states.specs.Waiting.{joins, queued, enqueued, snapped}
use Rattle.sv_states.specs.Waiting as waiting
use Rattle.sv_value.specs.Value.{Val, undefined}
use Rattle.sv_view.specs.Constants.{constant_at}
use Rattle.sv_view.specs.Level.{View}
use Rattle.sv_world.specs.declared.world.World.{World}
use Rattle.sv_subscribed.proofs.Adding.{part-stands, stands-part, part-kept}
use Rattle.sv_subscribed.proofs.Following.{altered_at, Rides, none, Is, Goes, goes_stay, goes-handed, goes-bound}
use Rattle.sv_subscribed.proofs.Known.{at_set}
use Rattle.sv_subscribed.proofs.Opening.{IsBare}
use Rattle.sv_subscribed.proofs.Script.{Script, component_left}
use Rattle.sv_subscribed.proofs.Stages.{Stage}
use Rattle.sv_subscribed.proofs.Standing.{Modules}
use Rattle.sv_subscribed.proofs.Ways.{if_either}
use Rattle.sv_subscribed.specs.Apart.{IsApart, AreApart}
use Rattle.sv_subscribed.specs.Holders.{store_held}

-- ---- how many instances there are

abbrev pub unit_of : Instance → Unit {0}
unit_of i = tt

plain_unit : Plain unit_of
plain_unit = record { setup = λ i u e. refl; waits = λ i. refl; subscribed = λ i x. refl; written = λ i c x. refl }

-- the file of its component
abbrev pub file_of : Instance → ℕ
file_of i = i.place.component

pub plain_file : Plain file_of
plain_file = record { setup = λ i u e. refl; waits = λ i. refl; subscribed = λ i x. refl; written = λ i c x. refl }

-- there is a number that is nobody's, and this is so
abbrev pub Peopled : Type 0 → States → Type 0
Peopled X s = (0 < length (pictures unit_of s)) × X

peopled_steps : (X : Type 0) → Steps (Peopled X)
peopled_steps X = pictures_keep plain_unit (λ l. (0 < length l) × X)

peopled_setups : (X : Type 0) → Setups (Peopled X)
peopled_setups X s f n h = (subst (λ l. 0 < length l) (sym (pictures-altered unit_of (λ i. record i { setup = f i.setup }) s.lives n (λ i. refl))) h.0, h.1)

peopled_stay : (p : Program) (X : Type 0) → Stays p (ending (λ now. Peopled X))
peopled_stay p X = ends_stay (steps_stay (peopled_steps X) p)

peopled-count : {X : Type 0} (s : States) → Peopled X s → 0 < length s.lives
peopled-count s h = let e = length-map s.lives (option_map unit_of) in let k = h.0 in omega (arith, e, k)

peopled-by : {X : Type 0} (s t : States) → length t.lives ≡ length s.lives → Peopled X s → Peopled X t
peopled-by s t same h = (let e = length-map s.lives (option_map unit_of) in let k = length-map t.lives (option_map unit_of) in let l = h.0 in omega (arith, e, k, l, same), h.1)

-- ---- instances that are new

-- nothing ran of it
pub record IsRaw (p : Program) (i : Instance) : Type 0 where
  pub unseen : i.cells.seen ≡ None
  pub names : i.subscriptions ≡ []
  pub cells : (k : ℕ) → cell_at i.cells.now k ≡ None
  pub constants : (k : ℕ) → constant_at i.setup.constants k ≡ None
  pub sized : (c : Component) → component_at p i.place.component ≡ Some c → (length i.cells.now ≡ cell_count c) × (length i.setup.constants ≡ c.constants)

-- it has a component
abbrev pub IsOne : Program → Instance → Type 0
IsOne p i = (c : Component) × (component_at p i.place.component ≡ Some c)

altered-count : (f : Instance → Instance) (lives : List (Option Instance)) (n : ℕ) → length (altered f lives n) ≡ length lives
altered-count f lives n = by (at lives n) where
  by : (o : Option Instance) → length (altered_over f o lives n) ≡ length lives
  by None = refl
  by (Some i) = length-set lives n (Some (f i))

queue-count : (s : States) (n : ℕ) → length (enqueued s n).lives ≡ length s.lives
queue-count s n = if_either (λ lives. length lives ≡ length s.lives) (joins (live s n)) (altered queued s.lives n) s.lives (altered-count queued s.lives n) refl

lives_set : (lives : List (Option Instance)) (n m : ℕ) → (at (slice_set lives n None) m ≡ at lives m) ⊎ ((m ≡ n) × (at (slice_set lives n None) m ≡ None))
lives_set lives n m = ⊎_elim
    (λ same. ⊎_elim (λ below. inr (same, ap (at (slice_set lives n None)) same ∙ get_or-set_same lives n None None below)) (λ past. inl (ap (λ l. at l m) (set_past lives n None past))) (cases_lt n (length lives)))
    (λ other. inl (get_or-set_other lives n m None None other))
    (cases_eq m n)

nothing_at : {A : Type 0} (n k : ℕ) → slice_index_or {A = Option A} (replicate n None) k None ≡ None
nothing_at {A = A} n k = ⊎_elim
    (λ below. get_or-replicate n k None None below)
    (λ past. get_or_past (replicate n None) k None (let e : length {A = Option A} (replicate n None) ≡ n = length-replicate n None in omega (arith, e, past)))
    (cases_lt k n)

module _ (p : Program) where
  pub raw_ride : (Q : Type 0) → Rides (λ i. (Q → IsRaw p i) × IsOne p i)
  raw_ride Q = record {
    setup = λ i u e h. (λ q. let r = h.0 q in record { unseen = r.unseen; names = r.names; cells = r.cells; constants = λ k. ap (λ l. constant_at l k) e ∙ r.constants k; sized = λ c is. ((r.sized c is).0, ap length e ∙ (r.sized c is).1) }, h.1);
    waits = λ i h. (λ q. let r = h.0 q in record { unseen = r.unseen; names = r.names; cells = r.cells; constants = r.constants; sized = r.sized }, h.1);
    moved = λ i c st h. (λ q. let r = h.0 q in record { unseen = r.unseen; names = ap (λ l. moved_to l c st) r.names; cells = r.cells; constants = r.constants; sized = r.sized }, h.1);
    assigned = λ i c v h. (
      λ q. let r = h.0 q in record {
        unseen = r.unseen;
        names = r.names;
        cells = λ k. ⊎_elim (λ same. same ∙ r.cells k) (λ set. set.1 ∙ ap (λ o. cells.assigned_cell o v) (r.cells c)) (at_set i.cells.now c k (cells.assigned_cell (cell_at i.cells.now c) v));
        constants = r.constants;
        sized = λ k is. (length-set i.cells.now c _ ∙ (r.sized k is).0, (r.sized k is).1);
      },
      h.1,
    );
  }

  raw-viewed : (Q : Type 0) (i : Instance) (c : ℕ) (view : View) → (Q → IsRaw p i) × IsOne p i → (Q → IsRaw p (with_view c view i)) × IsOne p (with_view c view i)
  raw-viewed Q i c view h = (
    λ q. let r = h.0 q in record {
      unseen = r.unseen;
      names = r.names;
      cells = λ k. ⊎_elim (λ same. same ∙ r.cells k) (λ set. set.1 ∙ ap touched_cell (r.cells c)) (at_set i.cells.now c k (touched_cell (cell_at i.cells.now c)));
      constants = r.constants;
      sized = λ k is. (length-set i.cells.now c _ ∙ (r.sized k is).0, (r.sized k is).1);
    },
    h.1,
  )

  raw-bare : (many : ℕ) (ms : Modules) (c : Component) (its : IsApart c) (i : Instance) → component_at p i.place.component ≡ Some c → IsRaw p i → IsBare p many ms c its i
  raw-bare many ms c its i is r = record {
    open_yet = record { is = is; unseen = r.unseen; cells = (r.sized c is).0; constants = (r.sized c is).1 };
    names = r.names;
    now = λ k. inl (r.cells k);
    sets = λ k. ap store_held (r.constants k);
  }

  module _ (many : ℕ) (ms : Modules) (apart : AreApart p) where
    -- all but those that are new ran their scripts
    abbrev pub Went : (ℕ → Type 0) → States → Type 0
    Went New s = Goes p many ms apart (λ m. New m → ⊥) (λ m i. (New m → IsRaw p i) × IsOne p i) (λ m. raw_ride (New m)) s

    -- so it is at a moment
    abbrev pub At : (ℕ → Type 0) → Type 0 → Modules → States → Type 0
    At New X now s = (Went New s × (now ≡ ms)) × Peopled X s

    pub at_stay : (New : ℕ → Type 0) (X : Type 0) → Stays p (ending (At New X))
    at_stay New X = both_stay (goes_stay p many ms apart (λ m. New m → ⊥) (λ m i. (New m → IsRaw p i) × IsOne p i) (λ m. raw_ride (New m))) (peopled_stay p X)

    -- what goes on behind module files
    abbrev pub Standing : Phase → Modules → States → Type 0
    Standing Loading now s = ⊥
    Standing Idle now s = At nobody (Unit {0}) now s
    Standing (Fresh n) now s = At (Only n) (n ≢ 0) now s
    Standing (Busy n) now s = At nobody (Unit {0}) now s
    Standing (Snapped n) now s = At nobody (Unit {0}) now s

    module _ (New : ℕ → Type 0) (X : Type 0) (now : Modules) (s : States) (h : At New X now s) where
      abbrev one : ℕ → Instance → Type 0
      one m i = (New m → IsRaw p i) × IsOne p i

      abbrev each : ℕ → Instance → Type 0
      each m i = Is p many ms apart (λ k. New k → ⊥) one (λ k. raw_ride (New k)) none none undefined m i

      -- ---- what is handed down

      at-handed : (q : Subscriber) (v : Val) → At New X now (handed_down s q v)
      at-handed q v = (
        (goes-handed p many ms apart (λ m. New m → ⊥) one (λ m. raw_ride (New m)) s q v h.0.0, h.0.1),
        (subst (λ l. 0 < length l) (sym (pictures-handed plain_unit s q v)) h.1.0, h.1.1),
      )

      at-bound : (n : ℕ) (b : Bound) → At New X now (bound_up s n b)
      at-bound n b = (
        (goes-bound p many ms apart (λ m. New m → ⊥) one (λ m. raw_ride (New m)) s n b h.0.0, h.0.1),
        (subst (λ l. 0 < length l) (sym (pictures-bound plain_unit s n b)) h.1.0, h.1.1),
      )

      -- the cell for the owner's view holds no store
      touched : (n c : ℕ) (view : View) → TakesAt p (live s n) c → (i : Instance) → live s n ≡ Some i → each n i → each n (with_view c view i)
      touched n c view takes i there k = (
        λ old comp is.
            stands-part undefined (λ x among r. r)
            (part-kept (slice_set i.cells.now c (touched_cell (cell_at i.cells.now c))) i.setup.constants (λ x among r. r)
            (λ x among. inr (
              λ d holds. get_or-set_other i.cells.now c d (touched_cell (cell_at i.cells.now c)) None
                  (λ same. (apart i.place.component comp is).viewless x c among (takes comp (ap (component_for p) there ∙ is)) (holds ∙ ap known.Cell same)),
              λ d holds. refl,
            ))
            (part-stands {Rest = λ x. ⊥} (k.0 old comp is))),
        raw-viewed (New n) i c view k.1,
      )

      at-viewed : (n c : ℕ) (view : View) → TakesAt p (live s n) c → At New X now (viewed s n c view)
      at-viewed n c view takes = (
        (
          record {
            once = if_either (λ t. IsOnce t.stores) (has_cell (live s n) c) (enqueued (with_instance (with_view c view) s n) n) s h.0.0.once h.0.0.once;
            sound = sound-viewed s n c view h.0.0.sound;
            enough = let e = ap (λ (x : List ℕ × ℕ). x.1) (tally-viewed s n c view) in let k = h.0.0.enough in omega (arith, e, k);
            all = if_either (λ t. (m : ℕ) (i : Instance) → live t m ≡ Some i → each m i) (has_cell (live s n) c) (enqueued (with_instance (with_view c view) s n) n) s
                (waits (with_instance (with_view c view) s n) (altered_at each each (with_view c view) s n h.0.0.all (λ i there k. touched n c view takes i there k) (λ m i other k. k)))
                h.0.0.all;
          },
          h.0.1,
        ),
        peopled-by s (viewed s n c view) (if_either (λ t. length t.lives ≡ length s.lives) (has_cell (live s n) c) (enqueued (with_instance (with_view c view) s n) n) s
            (queue-count (with_instance (with_view c view) s n) n ∙ altered-count (with_view c view) s.lives n) refl) h.1,
      ) where
        waits : (t : States) → ((m : ℕ) (i : Instance) → live t m ≡ Some i → each m i) → (m : ℕ) (i : Instance) → live (enqueued t n) m ≡ Some i → each m i
        waits t k = if_either (λ lives. (m : ℕ) (i : Instance) → at lives m ≡ Some i → each m i) (joins (live t n)) (altered queued t.lives n) t.lives
            (altered_at each each queued t n k (λ i there x. (λ old comp is. x.0 old comp is, (raw_ride (New n)).waits i x.1)) (λ m i other x. x)) k

      -- ---- snapshots

      at-snapped : (n : ℕ) → (New n → ⊥) → At New X now (snapped s n)
      at-snapped n old = (
        (
          record {
            sound = sound-snapped s n h.0.0.sound;
            enough = h.0.0.enough;
            once = h.0.0.once;
            all = altered_at each each waiting.shown s n h.0.0.all (λ i there k. (λ o comp is. k.0 o comp is, (λ new. absurd (old new), k.1.1))) (λ m i other k. k);
          },
          h.0.1,
        ),
        peopled-by s (snapped s n) (altered-count waiting.shown s.lives n) h.1,
      )

      -- ---- instances that go

      before : (n m : ℕ) (i : Instance) → at (slice_set s.lives n None) m ≡ Some i → live s m ≡ Some i
      before n m i there = ⊎_elim (λ same. sym same ∙ there) (λ set. absurd (none-some i (sym set.1 ∙ there))) (lives_set s.lives n m)

      at-removed : (n : ℕ) → At New X now (removed s n)
      at-removed n = (
        (
          record {
            sound = sound-removed s n h.0.0.sound;
            enough = let e = ap (λ (x : List ℕ × ℕ). x.1) (tally-removed s n) in let k = h.0.0.enough in omega (arith, e, k);
            once = once-dropped n s.stores h.0.0.once;
            all = λ m i there. h.0.0.all m i (before n m i there);
          },
          h.0.1,
        ),
        peopled-by s (removed s n) (length-set s.lives n None) h.1,
      )

    -- ---- instances that are made

    raw-born : (place : Place) (c : Component) → component_at p place.component ≡ Some c → IsRaw p (born place (cell_count c) c.constants)
    raw-born place c is = record {
      unseen = refl;
      names = refl;
      cells = nothing_at (cell_count c);
      constants = nothing_at c.constants;
      sized = λ k same. let e = same_Some c k (sym is ∙ same) in (length-replicate (cell_count c) None ∙ ap cell_count e, length-replicate c.constants None ∙ ap (λ (x : Component). x.constants) e);
    }

    at-added : (now : Modules) (s : States) (place : Place) (c : Component) → component_at p place.component ≡ Some c → At nobody (Unit {0}) now s
        → At (Only (length s.lives)) (length s.lives ≢ 0) now (added s (born place (cell_count c) c.constants))
    at-added now s place c is h = (
      (
        record {
          sound = sound-added s (born place (cell_count c) c.constants) (new-born place (cell_count c) c.constants) h.0.0.sound;
          enough = h.0.0.enough;
          once = h.0.0.once;
          all = λ m i there. ⊎_elim (λ same. new m i same there) (λ other. old m i other there) (cases_eq m (length s.lives));
        },
        h.0.1,
      ),
      (
        (let e = length-map (s.lives ++ last ∷ []) (option_map unit_of) in let k = length_push s.lives last in omega (arith, e, k)),
        λ none. let k = peopled-count s h.1 in absurd (omega (arith, k, none)),
      ),
    ) where
      last : Option Instance
      last = Some (born place (cell_count c) c.constants)

      new : (m : ℕ) (i : Instance) → m ≡ length s.lives → at (s.lives ++ last ∷ []) m ≡ Some i
          → Is p many ms apart (λ k. Only (length s.lives) k → ⊥) (λ k j. (Only (length s.lives) k → IsRaw p j) × IsOne p j) (λ k. raw_ride (Only (length s.lives) k)) none none undefined m i
      new m i same there =
          let e : born place (cell_count c) c.constants ≡ i = same_Some (born place (cell_count c) c.constants) i (sym (get_or_push s.lives last None m (sym same)) ∙ there) in
          (λ old comp x. absurd (old same), (λ q. subst (IsRaw p) e (raw-born place c is), subst (IsOne p) e (c, is)))

      old : (m : ℕ) (i : Instance) → m ≢ length s.lives → at (s.lives ++ last ∷ []) m ≡ Some i
          → Is p many ms apart (λ k. Only (length s.lives) k → ⊥) (λ k j. (Only (length s.lives) k → IsRaw p j) × IsOne p j) (λ k. raw_ride (Only (length s.lives) k)) none none undefined m i
      old m i other there = ⊎_elim
          (λ below. let k = h.0.0.all m i (sym (get_or_append_left s.lives (last ∷ []) None m below) ∙ there) in (λ x comp y. k.0 (λ no. no) comp y, (λ q. absurd (other q), k.1.1)))
          (λ past. absurd (none-some i (sym (get_or_past (s.lives ++ last ∷ []) m None (let l = length_push s.lives last in omega (arith, l, other, past))) ∙ there)))
          (cases_lt m (length s.lives))

    -- ---- their scripts

    both_left : {A : Type 0} (P R : Modules → States → Type 0) (e : Ending A) → Left (ending P) e → Left (ending R) e → Left (ending (λ now s. P now s × R now s)) e
    both_left P R (Ends a w) h k = (h, k)
    both_left P R (Fails kind s w) h k = tt

    -- its component is the one that it had
    same_one : (old s : States) (m : ℕ) (i : Instance) → pictures file_of s ≡ pictures file_of old → ((k : ℕ) (j : Instance) → live old k ≡ Some j → IsOne p j) → live s m ≡ Some i → IsOne p i
    same_one old s m i same ones there = by (live old m) refl where
      now : at (pictures file_of old) m ≡ Some (file_of i)
      now = ap (λ l. at l m) (sym same) ∙ picture_at file_of s m (Some i) there

      by : (o : Option Instance) → live old m ≡ o → IsOne p i
      by None e = absurd (none-some (file_of i) (sym (picture_at file_of old m None e) ∙ now))
      by (Some j) e = let x = ones m j e in (x.0, ap (component_at p) (same_Some (file_of i) (file_of j) (sym now ∙ picture_at file_of old m (Some j) e)) ∙ x.1)

    three_left : {A : Type 0} (P R T O : Modules → States → Type 0) → ((now : Modules) (s : States) → P now s → R now s → T now s → O now s) → (e : Ending A) → Left (ending P) e → Left (ending R) e → Left (ending T) e → Left (ending O) e
    three_left P R T O join (Ends a w) h k l = join w.modules w.states h k l
    three_left P R T O join (Fails kind s w) h k l = tt

    at-opened : (n : ℕ) (props : List (ℕ × Val)) (w : World) → At (Only n) (n ≢ 0) w.modules w.states → Left (ending (At nobody (Unit {0}))) (run_top p n props w)
    at-opened n props w h = by (component_of p w n) refl where
      old : List (Option ℕ)
      old = pictures file_of w.states

      files : Left (ending (λ now s. pictures file_of s ≡ old)) (run_top p n props w)
      files = (top_leaves (ends_stay (steps_stay (pictures_stay plain_file old) p)) n (sets_by (pictures_setup (λ i u. refl) old) (pictures_stay plain_file old) n) props).held w refl

      peopled : Left (ending (λ now. Peopled (Unit {0}))) (run_top p n props w)
      peopled = (top_leaves (peopled_stay p (Unit {0})) n (sets_by (peopled_setups (Unit {0})) (peopled_steps (Unit {0})) n) props).held w (h.1.0, tt)

      ones : (k : ℕ) (j : Instance) → live w.states k ≡ Some j → IsOne p j
      ones k j there = (h.0.0.all k j there).1.1

      -- one without a component has no `$` names
      unnamed : component_of p w n ≡ None → At nobody (Unit {0}) w.modules w.states
      unnamed e = (
        (
          record {
            sound = h.0.0.sound;
            enough = h.0.0.enough;
            once = h.0.0.once;
            all = λ m i there. (
              λ some c is. ⊎_elim
                  (λ same. absurd (none-some c (sym e ∙ (ap (component_for p) (ap (live w.states) (sym same) ∙ there) ∙ is))))
                  (λ other. (h.0.0.all m i there).0 other c is)
                  (cases_eq m n),
              (λ no. absurd no, ones m i there),
            );
          },
          h.0.1,
        ),
        (h.1.0, tt),
      )

      -- behind its script
      join : (c : Component) (its : IsApart c) (now : Modules) (s : States) → Script p many ms apart n h.1.1 c its [] now s → pictures file_of s ≡ old → Peopled (Unit {0}) s → At nobody (Unit {0}) now s
      join c its now s k same some = (
        (
          record { sound = k.0.sound; enough = k.0.enough; once = k.0.once; all = λ m i there. (λ o. (k.0.all m i there).0 tt, (λ no. absurd no, same_one w.states s m i same ones there)) },
          k.1,
        ),
        some,
      )

      bare : (c : Component) (its : IsApart c) → component_of p w n ≡ Some c → Stage p many ms n (IsBare p many ms c its) w.states
      bare c its e = record {
        sound = h.0.0.sound;
        enough = h.0.0.enough;
        once = h.0.0.once;
        beside = λ m i there. (
          λ other. (h.0.0.all m i there).0 other,
          λ same. raw-bare many ms c its i (sym (ap (component_for p) (ap (live w.states) (sym same) ∙ there)) ∙ e) ((h.0.0.all m i there).1.0 same),
        );
      }

      its_of : (c : Component) → component_of p w n ≡ Some c → IsApart c
      its_of c e = by_live (live w.states n) refl where
        by_live : (o : Option Instance) → live w.states n ≡ o → IsApart c
        by_live None none = absurd (none-some c (sym (ap (component_for p) none) ∙ e))
        by_live (Some i) there = apart i.place.component c (sym (ap (component_for p) there) ∙ e)

      by : (o : Option Component) → component_of p w n ≡ o → Left (ending (At nobody (Unit {0}))) (run_top p n props w)
      by None e = rw e (unnamed e)
      by (Some c) e =
          let its : IsApart c = its_of c e in
          let ran : Left (ending (Script p many ms apart n h.1.1 c its [])) (run_top p n props w) = rw e (component_left p many ms apart n h.1.1 c its props w (bare c its e, h.0.1)) in
          three_left (Script p many ms apart n h.1.1 c its []) (λ now s. pictures file_of s ≡ old) (λ now. Peopled (Unit {0})) (At nobody (Unit {0})) (join c its) (run_top p n props w) ran files peopled

    -- ---- whatever a flush does

    pub standing_last : Lasting p (λ phase due shown. Standing phase)
    standing_last = record {
      scripts = while_running _ (λ due shown. at_stay nobody (Unit {0})) (λ n due shown. at_stay (Only n) (n ≢ 0)) (λ n due shown. at_stay nobody (Unit {0}));
      loads = λ due shown w h. absurd h;
      opens = λ n due shown props w h. at-opened n props w h;
      binds = λ due shown w n b may h. (settle_leaves (at_stay nobody (Unit {0}))).held (record w { states = bound_up w.states n b }) (at-bound nobody (Unit {0}) w.modules w.states h n b);
      hands = while_running _ (λ due shown now s q v h. at-handed nobody (Unit {0}) now s h q v) (λ n due shown now s q v h. at-handed (Only n) (n ≢ 0) now s h q v) (λ n due shown now s q v h. at-handed nobody (Unit {0}) now s h q v);
      lends = while_running _ (λ due shown now s n c view takes d h. at-viewed nobody (Unit {0}) now s h n c view takes) (λ m due shown now s n c view takes d h. at-viewed (Only m) (m ≢ 0) now s h n c view takes)
          (λ m due shown now s n c view takes d h. at-viewed nobody (Unit {0}) now s h n c view takes);
      spends = λ more due shown now s h. h;
      makes = λ due shown now s place c is h. at-added now s place c is h;
      drops = λ due shown now s n h. at-removed nobody (Unit {0}) now s h n;
      begins = λ n due shown now s h. h;
      snaps = λ n due shown now s h. at-snapped nobody (Unit {0}) now s h n (λ no. no);
      passes = λ n due shown now s none h. h;
      shows = λ n due shown now s i parts there h. h;
    }
