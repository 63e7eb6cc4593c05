-- Where nobody waits, what was seen is what is there.
use Rattle.std.proofs.Common.{◌≡◌, ℕ, List, [], length, Option, Some, None, option_map, Result, Ok, Err, Bool, true, false, cond, refl, sym, ap, subst, ◌∙◌, arith, nat_eq, is_some, ⊎_elim}
use Rattle.std.specs.Prelude.{not, ◌&&◌, OnOk}
use Rattle.std.proofs.lemmas.Bool.{cases_Bool, eqb-true, true≢false}
use Rattle.std.proofs.lemmas.List.{ext_get_or, length-map}
use Rattle.std.proofs.lemmas.Option.{none-some, same_Some}
use Rattle.sv_code.specs.declared.program.Program.{Program}
use Rattle.sv_flush.proofs.Bringing.{Afterwards}
use Rattle.sv_flush.proofs.Lending.{Lends, lends_last, lends_of, holds_of}
use Rattle.sv_flush.proofs.Playing.{mounted_brings, flushed_brings}
use Rattle.sv_flush.proofs.Settling.{settled-flushed}
use Rattle.sv_flush.proofs.Tracking.{Tracked, picture_at, tracks_last}
use Rattle.sv_flush.specs.Creation.{mounted}
use Rattle.sv_flush.specs.Flush.{flushed}
use Rattle.sv_flush.specs.Lent.{HoldsPast}
use Rattle.sv_flush.specs.Meets.{Meets}
use Rattle.sv_flush.specs.Outcome.{Done}
use Rattle.sv_flush.specs.Records.{IsRecorded, IsPresent, RecordsSeen, ShowsPresent}
use Rattle.sv_flush.specs.Settled.{IsSettled}
use Rattle.sv_flush.specs.declared.page.Page.{Page}
use Rattle.sv_frame.specs.Snapshots.{snapshot_of, snapshots}
use Rattle.sv_instance.specs.Cells.{present, cell_at, count_of, has_moved, is_dirty_since}
use Rattle.sv_instance.specs.declared.instance.Instance.{Instance}
use Rattle.sv_parts.specs.declared.refusal.PatchError.{PatchError}
use Rattle.sv_numbered.specs.Numbered.{at}
use Rattle.sv_shapes.specs.Showing.{shown_of}
use Rattle.sv_shapes.specs.declared.shown.Shown.{Shown}
use Rattle.sv_states.specs.Sound.{IsSound, IsSeen, has_changed}
use Rattle.sv_states.specs.States.{States, live}
use Rattle.sv_states.specs.Waiting.{is_waiting, times}
use Rattle.sv_view.specs.Cell.{Cell}

-- nobody who isn't queued has a changed cell
clean : (s : States) → IsSound s → s.queue ≡ [] → (n c : ℕ) → has_changed (live s n) c ≡ false
clean s sound none n c = ⊎_elim
    (λ changed. absurd (busy (is_waiting (live s n)) (sound.dirty n c changed) (sym (ap (λ q. times q n) none) ∙ sound.queued n)))
    (λ same. same)
    (cases_Bool (has_changed (live s n) c))
  where
    busy : (b : Bool) → b ≡ true → ◌≡◌ {A = ℕ} 0 (cond b 1 0) → ⊥
    busy true e f = omega (arith, f)
    busy false e f = true≢false (sym e)

same_count : (a b : Option Cell) → has_moved a b ≡ false → count_of a ≡ count_of b
same_count a b e = sym (by (nat_eq (count_of b) (count_of a)) refl e) where
  by : (x : Bool) → nat_eq (count_of b) (count_of a) ≡ x → not x ≡ false → count_of b ≡ count_of a
  by true is h = eqb-true (count_of b) (count_of a) is
  by false is h = absurd (true≢false h)

-- an instance of which no cell changed is what its last snapshot saw
unchanged : (i : Instance) (old : List (Option Cell)) → IsSeen (Some i) → i.cells.seen ≡ Some old → ((c : ℕ) → has_changed (Some i) c ≡ false) → length old ≡ length i.cells.now → old ≡ i.cells.now
unchanged i old seen is same whole = ext_get_or None old i.cells.now whole (λ c below. (seen old is c).same (same_count (cell_at old c) (cell_at i.cells.now c) (unmoved c))) where
  unmoved : (c : ℕ) → has_moved (cell_at old c) (cell_at i.cells.now c) ≡ false
  unmoved c = subst (λ o. (is_some o && is_dirty_since o i.cells.now c) ≡ false) is (same c)

-- what is recorded of such an instance is its present cells
recorded_present : (i : Instance) (cells : List Cell) (o : Option (List (Option Cell))) → i.cells.seen ≡ o → IsSeen (Some i) → ((c : ℕ) → has_changed (Some i) c ≡ false)
    → option_map present o ≡ Some cells → length cells ≡ length i.cells.now → (cells ≡ present i.cells.now) × (o ≡ Some i.cells.now)
recorded_present i cells None is seen same recorded whole = absurd (none-some cells recorded)
recorded_present i cells (Some old) is seen same recorded whole =
    let e : present old ≡ cells = same_Some (present old) cells recorded in
    let l : length old ≡ length i.cells.now = sym (length-map old _) ∙ (ap length e ∙ whole) in
    let now : old ≡ i.cells.now = unchanged i old seen is same l in
    (sym e ∙ ap present now, ap Some now)

pub presents : (m : Page) → Tracked m → IsSettled m → ShowsPresent m
presents m h settled n i there = over (shown_of m.showing n) refl
  where
    saw : at (snapshots m.world.states) n ≡ Some (snapshot_of i)
    saw = picture_at snapshot_of m.world.states n (Some i) there

    over : (o : Option Shown) → shown_of m.showing n ≡ o → IsPresent m n i
    over None is = absurd (true≢false (sym (h.records.whole n (snapshot_of i) (λ none. none) saw) ∙ ap is_some is))
    over (Some x) is =
        let r : IsRecorded (snapshot_of i) x = h.records.seen n (snapshot_of i) x saw is in
        let now = recorded_present i x.view.own.cells i.cells.seen refl (subst IsSeen there (h.sound.seen n)) (λ c. ap (λ o. has_changed o c) (sym there) ∙ clean m.world.states h.sound settled.queue n c) r.seen r.whole in
        record { last = x; shown = is; cells = now.0; seen = now.1 }

-- ---- for those that call

tracked : (m : Page) → IsSound m.world.states → RecordsSeen m → Tracked m
tracked m sound records = record { sound = sound; records = records }

pub mounted-tracked : (p : Program) (m n : Page) → Tracked m → mounted p m ≡ Done tt n → Tracked n
mounted-tracked p m n h is = subst (Afterwards Tracked) is ((mounted_brings (tracks_last p) []).held m h)

pub flushed-tracked : (p : Program) (m n : Page) → Tracked m → flushed p m ≡ Done tt n → Tracked n
flushed-tracked p m n h is = subst (Afterwards Tracked) is ((flushed_brings (tracks_last p) []).held m h)

abbrev pub Lending : Page → Type 0
Lending m = Lends [] m.showing.shown m.world.states

pub mounted-lending : (p : Program) (m n : Page) → Lending m → mounted p m ≡ Done tt n → Lending n
mounted-lending p m n h is = subst (Afterwards Lending) is ((mounted_brings (lends_last p) []).held m h)

pub flushed-lending : (p : Program) (m n : Page) → Lending m → flushed p m ≡ Done tt n → Lending n
flushed-lending p m n h is = subst (Afterwards Lending) is ((flushed_brings (lends_last p) []).held m h)

-- ---- what code answers

module _ (p : Program) (r : Result (Unit {0}) PatchError) (m n : Page) where
  pub mounted_records : IsSound m.world.states → Meets r n (mounted p m) → OnOk r (RecordsSeen m → RecordsSeen n)
  mounted_records = by r where
    by : (r : Result (Unit {0}) PatchError) → IsSound m.world.states → Meets r n (mounted p m) → OnOk r (RecordsSeen m → RecordsSeen n)
    by (Ok u) sound h = λ k. (mounted-tracked p m n (tracked m sound k) h.meets).records
    by (Err e) sound h = tt

  pub mounted_past : IsSound m.world.states → Meets r n (mounted p m) → OnOk r (HoldsPast m → HoldsPast n)
  mounted_past = by r where
    by : (r : Result (Unit {0}) PatchError) → IsSound m.world.states → Meets r n (mounted p m) → OnOk r (HoldsPast m → HoldsPast n)
    by (Ok u) sound h = λ k. holds_of n (mounted-lending p m n (lends_of m sound k) h.meets)
    by (Err e) sound h = tt

  pub flushed_settled : Meets r n (flushed p m) → OnOk r (IsSettled n)
  flushed_settled = by r where
    by : (r : Result (Unit {0}) PatchError) → Meets r n (flushed p m) → OnOk r (IsSettled n)
    by (Ok u) h = settled-flushed p m n h.meets
    by (Err e) h = tt

  pub flushed_records : IsSound m.world.states → Meets r n (flushed p m) → OnOk r (RecordsSeen m → RecordsSeen n)
  flushed_records = by r where
    by : (r : Result (Unit {0}) PatchError) → IsSound m.world.states → Meets r n (flushed p m) → OnOk r (RecordsSeen m → RecordsSeen n)
    by (Ok u) sound h = λ k. (flushed-tracked p m n (tracked m sound k) h.meets).records
    by (Err e) sound h = tt

  pub flushed_present : IsSound m.world.states → Meets r n (flushed p m) → OnOk r (RecordsSeen m → ShowsPresent n)
  flushed_present = by r where
    by : (r : Result (Unit {0}) PatchError) → IsSound m.world.states → Meets r n (flushed p m) → OnOk r (RecordsSeen m → ShowsPresent n)
    by (Ok u) sound h = λ k. presents n (flushed-tracked p m n (tracked m sound k) h.meets) (settled-flushed p m n h.meets)
    by (Err e) sound h = tt

  pub flushed_past : IsSound m.world.states → Meets r n (flushed p m) → OnOk r (HoldsPast m → HoldsPast n)
  flushed_past = by r where
    by : (r : Result (Unit {0}) PatchError) → IsSound m.world.states → Meets r n (flushed p m) → OnOk r (HoldsPast m → HoldsPast n)
    by (Ok u) sound h = λ k. holds_of n (flushed-lending p m n (lends_of m sound k) h.meets)
    by (Err e) sound h = tt
