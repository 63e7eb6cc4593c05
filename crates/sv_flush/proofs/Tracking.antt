-- States that are sound, and records of what is shown that go with them, whatever is done.
use Rattle.std.proofs.Common.{◌≡◌, ℕ, List, [], ◌∷◌, ◌++◌, length, map, Option, Some, None, option_map, refl, sym, ap, subst, ◌∙◌}
use Rattle.std.specs.BTreeMap.{is_at, insert_entry}
use Rattle.std.specs.Map.{remove_entry}
use Rattle.std.specs.Ordering.{nat_cmp}
use Rattle.std.proofs.Math.ListN.{get_or-map}
use Rattle.std.proofs.lemmas.List.{map-append, map-set, length-map}
use Rattle.std.proofs.lemmas.Option.{none-some, same_Some}
use Rattle.sv_code.specs.declared.program.Program.{Program}
use Rattle.sv_flush.proofs.Lasting.{Loading, Idle, Fresh, Busy, Snapped, About, Lasting, while_running}
use Rattle.sv_flush.proofs.Recording.{Only, RecordsBut, records-weaker, records-added, records-gone, records-snapped, records-but, records-dead, records-shown}
use Rattle.sv_flush.specs.Creation.{cell_count}
use Rattle.sv_flush.specs.Records.{Records, nobody}
use Rattle.sv_flush.specs.declared.page.Page.{Page}
use Rattle.sv_frame.proofs.Altering.{pictures, seen_setups, seen_stays, lent_setups, lent_stays, snapshots-viewed, snapshots-bound, snapshots-handed, views-bound, views-handed}
use Rattle.sv_frame.proofs.Outcomes.{at_ends, Left, Stays, Sets, ends_stay}
use Rattle.sv_frame.proofs.Running.{modules_leave, top_leaves, settle_leaves}
use Rattle.sv_frame.proofs.Stepping.{Setups, Steps, sets_by, steps_stay}
use Rattle.sv_frame.specs.Snapshots.{snapshot_of, snapshots}
use Rattle.sv_frame.specs.Views.{lent_views}
use Rattle.sv_instance.specs.Bound.{Bound}
use Rattle.sv_instance.specs.Cells.{present}
use Rattle.sv_instance.specs.declared.instance.Instance.{Instance}
use Rattle.sv_meaning.specs.Runs.{run_modules, run_top, settle}
use Rattle.sv_numbered.specs.Numbered.{at}
use Rattle.sv_shapes.specs.declared.shown.Shown.{Shown}
use Rattle.sv_states.proofs.Altering.{at_within, at-altered_same, at-altered_none, altered-none, altered-some}
use Rattle.sv_states.proofs.Keeping.{new-born}
use Rattle.sv_states.proofs.Naming.{sound-sent, sound-bound, sound-subscribed}
use Rattle.sv_states.proofs.Sounding.{sound-inert, sound-viewed, sound-declared, sound-store, sound-computed, sound-derived, sound-added, sound-snapped, sound-removed}
use Rattle.sv_states.specs.Assignment.{way_of, way_into, handed_down, bound_up}
use Rattle.sv_states.specs.Change.{added, removed, viewed}
use Rattle.sv_states.specs.Prepared.{IsNew}
use Rattle.sv_states.specs.Sound.{IsSound}
use Rattle.sv_states.specs.States.{States, live}
use Rattle.sv_states.specs.Waiting.{snapped}
use Rattle.sv_states.specs.Waiting as waiting
use Rattle.sv_store.specs.Stores.{Subscriber}
use Rattle.sv_value.specs.Value.{Val}
use Rattle.sv_view.specs.Level.{View}
use Rattle.sv_world.specs.World.{present_view}
use Rattle.sv_world.specs.declared.world.World.{World}

-- ---- what scripts leave

sound_setups : Setups IsSound
sound_setups s f n h = sound-inert (λ i. record i { setup = f i.setup }) s n (λ i. refl) (λ i. refl) (λ i. refl) h

pub sound_steps : Steps IsSound
sound_steps = record {
  left = λ s f n e h. sound_setups s f n h;
  assigned = λ s n c v h. sound-sent s (way_of s n c v) v h;
  store_set = λ s id v h. sound-sent s (record { cells = []; store = Some id }) v h;
  computed = λ s id v h. sound-computed s id v h;
  with_store = λ s v h. sound-store s v h;
  with_derived = λ s owner r v h. sound-derived s owner r v h;
  declared = λ s p v h. sound-declared s p v h;
  subscribed = λ s p source v h. sound-subscribed s p source v h;
}

-- a fact of sound states goes by their snapshots and the views that were lent
pub record GoesBy (P : States → Type 0) : Type 0 where
  pub sound : (s : States) → P s → IsSound s
  pub on : (s t : States) → P s → IsSound t → snapshots t ≡ snapshots s → lent_views t ≡ lent_views s → P t

module _ {P : States → Type 0} (goes : GoesBy P) where
  goes_setups : Setups P
  goes_setups s f n h = goes.on s _ h (sound_setups s f n (goes.sound s h)) (seen_setups (snapshots s) s f n refl) (lent_setups (lent_views s) s f n refl)

  -- so scripts leave it
  goes_steps : Steps P
  goes_steps = record {
    left = λ s f n e h. goes_setups s f n h;
    assigned = λ s n c v h. goes.on s _ h (sound_steps.assigned s n c v (goes.sound s h)) ((seen_stays (snapshots s)).assigned s n c v refl) ((lent_stays (lent_views s)).assigned s n c v refl);
    store_set = λ s id v h. goes.on s _ h (sound_steps.store_set s id v (goes.sound s h)) ((seen_stays (snapshots s)).store_set s id v refl) ((lent_stays (lent_views s)).store_set s id v refl);
    computed = λ s id v h. goes.on s _ h (sound_steps.computed s id v (goes.sound s h)) ((seen_stays (snapshots s)).computed s id v refl) ((lent_stays (lent_views s)).computed s id v refl);
    with_store = λ s v h. goes.on s _ h (sound_steps.with_store s v (goes.sound s h)) refl refl;
    with_derived = λ s owner r v h. goes.on s _ h (sound_steps.with_derived s owner r v (goes.sound s h)) refl refl;
    declared = λ s p v h. goes.on s _ h (sound_steps.declared s p v (goes.sound s h)) ((seen_stays (snapshots s)).declared s p v refl) ((lent_stays (lent_views s)).declared s p v refl);
    subscribed = λ s p source v h. goes.on s _ h (sound_steps.subscribed s p source v (goes.sound s h)) ((seen_stays (snapshots s)).subscribed s p source v refl) ((lent_stays (lent_views s)).subscribed s p source v refl);
  }

  pub goes_stays : (p : Program) → Stays p (at_ends P)
  goes_stays p = ends_stay (steps_stay goes_steps p)

  pub goes_sets : (owner : ℕ) → Sets owner (λ ms. P)
  goes_sets owner = sets_by goes_setups goes_steps owner

  pub goes-loaded : (p : Program) (w : World) → P w.states → Left (at_ends P) (run_modules p w)
  goes-loaded p w h = (modules_leave (goes_stays p) (goes_sets 0) (λ ms ms' s k. k)).held w h

  pub goes-opened : (p : Program) (n : ℕ) (props : List (ℕ × Val)) (w : World) → P w.states → Left (at_ends P) (run_top p n props w)
  goes-opened p n props w h = (top_leaves (goes_stays p) n (goes_sets n) props).held w h

  -- and what flushes do besides
  pub goes-bound : (p : Program) (w : World) (n : ℕ) (b : Bound) → P w.states → Left (at_ends P) (settle p (record w { states = bound_up w.states n b }))
  goes-bound p w n b h = (settle_leaves (goes_stays p)).held (record w { states = bound_up w.states n b }) (goes.on w.states _ h (sound-bound w.states n b (goes.sound w.states h)) (snapshots-bound w.states n b) (views-bound w.states n b))

  pub goes-handed : (s : States) (p : Subscriber) (v : Val) → P s → P (handed_down s p v)
  goes-handed s p v h = goes.on s _ h (sound-sent s (way_into s p v) v (goes.sound s h)) (snapshots-handed s p v) (views-handed s p v)

-- ---- records

pub record Tracks (But : ℕ → Type 0) (shown : List (ℕ × Shown)) (s : States) : Type 0 where
  pub sound : IsSound s
  pub records : Records But (snapshots s) shown

-- so it is on a page, for all instances
abbrev pub Tracked : Page → Type 0
Tracked m = Tracks nobody m.showing.shown m.world.states

module _ {But : ℕ → Type 0} where
  -- snapshots stay
  tracks_on : (shown : List (ℕ × Shown)) (s t : States) → Tracks But shown s → IsSound t → snapshots t ≡ snapshots s → Tracks But shown t
  tracks_on shown s t h sound same = record { sound = sound; records = subst (λ saw. Records But saw shown) (sym same) h.records }

  pub tracks_go : (shown : List (ℕ × Shown)) → GoesBy (Tracks But shown)
  tracks_go shown = record { sound = λ s h. h.sound; on = λ s t h sound same views. tracks_on shown s t h sound same }

  -- whatever scripts do
  pub tracks_stay : (p : Program) (shown : List (ℕ × Shown)) → Stays p (at_ends (Tracks But shown))
  tracks_stay p shown = goes_stays (tracks_go shown) p

  pub tracks-viewed : (shown : List (ℕ × Shown)) (s : States) (n c : ℕ) (view : View) → Tracks But shown s → Tracks But shown (viewed s n c view)
  tracks-viewed shown s n c view h = tracks_on shown s _ h (sound-viewed s n c view h.sound) (snapshots-viewed s n c view)

tracks-added : (shown : List (ℕ × Shown)) (s : States) (i : Instance) → IsNew i → Tracks nobody shown s → Tracks (Only (length s.lives)) shown (added s i)
tracks-added shown s i new h = record {
  sound = sound-added s i new h.sound;
  records = subst (λ saw. Records (Only (length s.lives)) saw shown) (sym (map-append (option_map snapshot_of) s.lives (Some i ∷ [])))
      (subst (λ l. Records (Only l) (snapshots s ++ Some (snapshot_of i) ∷ []) shown) (length-map s.lives (option_map snapshot_of)) (records-added (snapshots s) (Some (snapshot_of i)) shown h.records));
}

tracks-gone : (shown : List (ℕ × Shown)) (s : States) (n : ℕ) → Tracks nobody shown s → Tracks nobody (remove_entry (is_at (nat_cmp n)) shown) (removed s n)
tracks-gone shown s n h = record {
  sound = sound-removed s n h.sound;
  records = subst (λ saw. Records nobody saw (remove_entry (is_at (nat_cmp n)) shown)) (sym (map-set (option_map snapshot_of) s.lives n None)) (records-gone (snapshots s) n shown h.records);
}

-- ---- snapshots

-- the picture that a number has, as the states have its instance
pub picture_at : {X : Type 0} (g : Instance → X) (s : States) (n : ℕ) (o : Option Instance) → live s n ≡ o → at (pictures g s) n ≡ option_map g o
picture_at g s n o e = get_or-map (option_map g) s.lives n None ∙ ap (option_map g) e

-- a snapshot of an instance was taken just now, and it isn't shown on that yet
pub record Shot (n : ℕ) (shown : List (ℕ × Shown)) (s : States) : Type 0 where
  pub sound : IsSound s
  pub records : RecordsBut n (snapshots s) shown
  pub now : (i : Instance) → live s n ≡ Some i → i.cells.seen ≡ Some i.cells.now

snapped_but : (n : ℕ) (s : States) (shown : List (ℕ × Shown)) (o : Option Instance) → live s n ≡ o → Records (Only n) (snapshots s) shown → RecordsBut n (snapshots (snapped s n)) shown
snapped_but n s shown None e h = subst (λ lives. RecordsBut n (map (option_map snapshot_of) lives) shown) (sym (altered-none waiting.shown s.lives n e)) (records-but (snapshots s) n shown h)
snapped_but n s shown (Some i) e h =
    subst (λ lives. RecordsBut n (map (option_map snapshot_of) lives) shown) (sym (altered-some waiting.shown s.lives n i e))
    (subst (λ saw. RecordsBut n saw shown) (sym (map-set (option_map snapshot_of) s.lives n (Some (waiting.shown i)))) (records-snapped (snapshots s) n (Some (snapshot_of (waiting.shown i))) shown h))

-- it saw the present cells
pub seen-snapped : (n : ℕ) (s : States) (i : Instance) → live (snapped s n) n ≡ Some i → i.cells.seen ≡ Some i.cells.now
seen-snapped n s = by (live s n) refl where
  by : (o : Option Instance) → live s n ≡ o → (i : Instance) → live (snapped s n) n ≡ Some i → i.cells.seen ≡ Some i.cells.now
  by None e i there = absurd (none-some i (sym (at-altered_none waiting.shown s.lives n e) ∙ there))
  by (Some j) e i there = subst (λ k. k.cells.seen ≡ Some k.cells.now) (same_Some (waiting.shown j) i (sym (at-altered_same waiting.shown s.lives n j e) ∙ there)) refl

tracks-shown : (n : ℕ) (shown : List (ℕ × Shown)) (s : States) (i : Instance) (x : Shown) → live s n ≡ Some i → x.view.own.cells ≡ present i.cells.now → Shot n shown s → Tracks nobody (insert_entry nat_cmp shown n x) s
tracks-shown n shown s i x there is h = record {
  sound = h.sound;
  records = records-shown (snapshots s) n shown (snapshot_of i) x (at_within (snapshots s) n (snapshot_of i) (picture_at snapshot_of s n (Some i) there)) (picture_at snapshot_of s n (Some i) there)
      (record { seen = ap (option_map present) (h.now i there) ∙ ap Some (sym is); whole = ap length is ∙ length-map i.cells.now _ }) h.records;
}

-- ---- whatever a flush does

-- whoever is made or readied is left out
abbrev pub TracksWhile : About
TracksWhile Loading due shown ms = Tracks nobody shown
TracksWhile Idle due shown ms = Tracks nobody shown
TracksWhile (Fresh n) due shown ms = Tracks (Only n) shown
TracksWhile (Busy n) due shown ms = Tracks (Only n) shown
TracksWhile (Snapped n) due shown ms = Shot n shown

pub tracks_last : (p : Program) → Lasting p TracksWhile
tracks_last p = record {
  scripts = while_running _ (λ due shown. tracks_stay p shown) (λ n due shown. tracks_stay p shown) (λ n due shown. tracks_stay p shown);
  loads = λ due shown w h. goes-loaded (tracks_go shown) p w h;
  opens = λ n due shown props w h. goes-opened (tracks_go shown) p n props w h;
  binds = λ due shown w n b may h. goes-bound (tracks_go shown) p w n b h;
  hands = while_running _ (λ due shown ms s at v h. goes-handed (tracks_go shown) s at v h) (λ n due shown ms s at v h. goes-handed (tracks_go shown) s at v h) (λ n due shown ms s at v h. goes-handed (tracks_go shown) s at v h);
  lends = while_running _ (λ due shown ms s n c view is d h. tracks-viewed shown s n c view h) (λ m due shown ms s n c view is d h. tracks-viewed shown s n c view h) (λ m due shown ms s n c view is d h. tracks-viewed shown s n c view h);
  spends = λ more due shown ms s h. h;
  makes = λ due shown ms s place c is h. tracks-added shown s _ (new-born place (cell_count c) c.constants) h;
  drops = λ due shown ms s n h. tracks-gone shown s n h;
  begins = λ n due shown ms s h. record { sound = h.sound; records = records-weaker nobody (Only n) (snapshots s) shown (λ j none. absurd none) h.records };
  snaps = λ n due shown ms s h. record { sound = sound-snapped s n h.sound; records = snapped_but n s shown (live s n) refl h.records; now = seen-snapped n s };
  passes = λ n due shown ms s e h. record { sound = h.sound; records = records-dead (snapshots s) n shown (picture_at snapshot_of s n None e) h.records };
  shows = λ n due shown ms s i parts there h. tracks-shown n shown s i (record { view = present_view ms n i; parts = parts }) there refl h;
}
