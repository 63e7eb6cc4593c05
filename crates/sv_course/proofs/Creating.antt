-- Instances that are made and shown, and the effects of patches, where it is told on what view each instance is shown.
use Rattle.std.proofs.Common.{◌≡◌, ℕ, zero, suc, ◌<◌, Bool, true, List, [], ◌∷◌, length, Option, Some, None, option_map, Ok, Err, refl, sym, ap, subst, ◌∙◌, slice_get, ⊎_elim}
use Rattle.std.proofs.lemmas.Option.{none-some}
use Rattle.sv_code.specs.declared.program.Component.{Component}
use Rattle.sv_code.specs.declared.program.Program.{Program}
use Rattle.sv_code.specs.declared.tags.Tag.{Tag}
use Rattle.sv_course.proofs.Course.{Course}
use Rattle.sv_course.proofs.Telling.{Moments, Tells, Both, Stands, both_bring}
use Rattle.sv_family.proofs.Births.{readied_keeps as readied_rests, Births, made_then, child_held, none_made, Born, New, born_placed, just_born}
use Rattle.sv_family.proofs.Course.{Fact, child_place, root_place, with_born}
use Rattle.sv_family.proofs.Destroying.{KeepsSorted, taken_keeps}
use Rattle.sv_family.proofs.Pictures.{Pictured, pictured, tags-same, markup-same, kins-added, kin_at, IsOpened, lent_either, lent-none}
use Rattle.sv_family.proofs.Scripts.{About, At, are_sets, are_stay, scripted_brings, set_leaves, world_brings, kins-setup, kins-tags}
use Rattle.sv_family.specs.Family.{markup_in}
use Rattle.sv_family.specs.Kin.{Kins, kin_of, kins, depth_at}
use Rattle.sv_family.specs.Pending.{Pending, AreBefore}
use Rattle.sv_flush.proofs.Bringing.{Afterwards, Brings, brings_then, nothing_brings, changed_brings}
use Rattle.sv_flush.proofs.Lasting.{Phase, Idle, Fresh, Busy, Snapped}
use Rattle.sv_flush.proofs.Playing.{scripted_brings as scripted_lasts, world_brings as world_lasts, leads_on, set_leaves as set_lasts, lent_if_lasts, all_tags_last, readied_brings, taken_brings, gone_brings, rooted}
use Rattle.sv_flush.specs.Creation.{readied, after_waits, cell_count, mount_waits, started, passed, binds, placed, attached, site_of, grown, created, tag_task, child_set, effect_by, created_in, effects, root_site, mounted}
use Rattle.sv_flush.specs.Destruction.{child_task}
use Rattle.sv_flush.specs.Outcome.{Outcome, Done, Halted, Task, and_then, in_turn, each, changed, in_world, scripted}
use Rattle.sv_flush.specs.Setting.{lent, lent_if}
use Rattle.sv_flush.specs.Showing.{tags_of, recorded, followed, patched_on, patched_now, shown}
use Rattle.sv_flush.specs.declared.page.Page.{Page}
use Rattle.sv_frame.proofs.Outcomes.{Modules}
use Rattle.sv_frame.proofs.Running.{top_leaves}
use Rattle.sv_instance.specs.declared.instance.Instance.{Instance}
use Rattle.sv_meaning.specs.Components.{component_at, component_of, markup_of}
use Rattle.sv_meaning.specs.Runs.{run_modules, run_top}
use Rattle.sv_numbered.specs.Numbered.{at}
use Rattle.sv_parts.specs.State.{Outcome as Planned}
use Rattle.sv_parts.specs.declared.state.Effect.{Effect}
use Rattle.sv_parts.specs.declared.state.Effect.TheVariants as effect
use Rattle.sv_parts.specs.declared.state.Given.{Given}
use Rattle.sv_plan.specs.Patch.{After, begun, ended as patch_ended, planned, patched}
use Rattle.sv_shapes.specs.Showing.{Showing, recorded as shown_on, shown_of, child_at}
use Rattle.sv_shapes.specs.declared.shape.Shape.{Shape}
use Rattle.sv_states.specs.Change.{place_below}
use Rattle.sv_states.specs.States.{live}
use Rattle.sv_states.specs.declared.states.TheConstants.{DEPTH_LIMIT}
use Rattle.sv_view.specs.Level.{View}
use Rattle.sv_view.specs.View.{levels}
use Rattle.sv_world.specs.World.{present_view}

-- mounting is what module files do, and then the making of the root
pub mounted_after : (p : Program) (Q : Page → Type 0) (m : Page) → ((u : Page) → scripted (run_modules p) m ≡ Done tt u → Afterwards Q (rooted p u)) → Afterwards Q (mounted p m)
unfolding mounted
mounted_after p Q m k = by (scripted (run_modules p) m) refl where
  by : (o : Outcome (Unit {0})) → scripted (run_modules p) m ≡ o → Afterwards Q (and_then o (λ _. rooted p))
  by (Done a u) e = k u e
  by (Halted r u) e = tt

module _ (p : Program) (ms : Modules) (P : Fact) (L : Moments) (course : Course p ms P) (sorted : KeepsSorted P) (tells : Tells p ms L) where
  -- nothing was made just now, and nobody is leaving
  abbrev Calm : Pending → About
  Calm pend = P pend None []

  abbrev On : Phase → Pending → Page → Type 0
  On = Stands P L

  -- ---- snapshots and patches

  pub readied_keeps : (pend : Pending) (n : ℕ) (all : Bool) → Brings (On (Busy n) pend) (On (Snapped n) pend) (readied p n all)
  readied_keeps pend n all = both_bring (readied_rests p (Calm pend) n all) (readied_brings tells.lasts {due = []} n all)

  -- the effects of the patch of an instance run
  abbrev pub Runs : Pending → ℕ → (Effect → Task) → Type 0
  Runs pend n run = (es : List Effect) → Brings (On Idle ((n, es) ∷ pend)) (On Idle pend) (each run es)

  module _ (pend : Pending) (n : ℕ) (before : AreBefore n pend) (run : Effect → Task) (runs : Runs pend n run) (m : Page) (h : On (Snapped n) pend m) where
    -- what is planned for it comes of a patch, if anything does
    patch_followed : (i : Instance) → live m.world.states n ≡ Some i → (o : Planned (List Shape))
        → patched p (tags_of m.world (present_view m.world.modules n i)) n (markup_of (component_of p m.world n)) (present_view m.world.modules n i) m.showing m.counters m.tally
        ≡ patch_ended m.showing n (present_view m.world.modules n i) o
        → Afterwards (On Idle pend) (and_then (followed m (patch_ended m.showing n (present_view m.world.modules n i) o)) (each run))
    patch_followed i is (Err r) e = tt
    patch_followed i is (Ok x) e =
        let v : View = present_view m.world.modules n i in
        let ks : Kins = kins m.world.states in
        let a : After = record { effects = x.1.effects; kept = x.1.kept; showing = shown_on m.showing n v x.0; counters = x.1.counters; tally = x.1.tally } in
        (runs x.1.effects).held (recorded a m) (
          subst (λ ks'. P ((n, x.1.effects) ∷ pend) None [] ks' a.showing a.counters.next) (sym (kins-tags a.showing a.kept m.world))
              (course.shows.shows pend n (kin_of i) v ks m.showing m.counters m.tally a (kin_at m.world.states n (Some i) is) refl
              (tells.now n i m is h.1) before
              (ap (λ t. patched p t n (markup_in p ks n) v m.showing m.counters m.tally) (sym (tags-same m.world v))
              ∙ (ap (λ t. patched p (tags_of m.world v) n t v m.showing m.counters m.tally) (sym (markup-same p m.world n)) ∙ e)) h.0),
          all_tags_last tells.lasts {due = []} a.showing.shown a.showing a.kept m.world (tells.lasts.shows n [] m.showing.shown m.world.modules m.world.states i x.0 is h.1),
        )

    patch_of : (o : Option Instance) → live m.world.states n ≡ o → Afterwards (On Idle pend) (and_then (patched_on p n (option_map (present_view m.world.modules n) o) m) (each run))
    unfolding patched
    patch_of None e = (h.0, tells.lasts.passes n [] m.showing.shown m.world.modules m.world.states e h.1)
    patch_of (Some i) e =
        let v : View = present_view m.world.modules n i in
        patch_followed i e (planned p (tags_of m.world v) (markup_of (component_of p m.world n)) (shown_of m.showing n) v (begun m.counters m.tally)) refl

    shown_held : Afterwards (On Idle pend) (shown p (each run) n m)
    unfolding patched_now
    shown_held = patch_of (live m.world.states n) refl

  pub shown_keeps : (pend : Pending) (n : ℕ) → AreBefore n pend → (run : Effect → Task) → Runs pend n run → Brings (On (Snapped n) pend) (On Idle pend) (shown p (each run) n)
  shown_keeps pend n before run runs = record { held = λ m h. shown_held pend n before run runs m h }

  -- what comes behind the script of a new instance
  rest_keeps : (pend : Pending) (n : ℕ) → AreBefore n pend → (run : Effect → Task) → Runs pend n run
      → Brings (On (Busy n) pend) (On Idle pend) (in_turn (readied p n true ∷ shown p (each run) n ∷ changed (mount_waits n) ∷ changed (after_waits n) ∷ []))
  rest_keeps pend n before run runs =
      brings_then (readied_keeps pend n true) (λ _.
      brings_then (shown_keeps pend n before run runs) (λ _.
      brings_then (changed_brings {Q = On Idle pend} {R = On Idle pend} (mount_waits n) (λ m h. h)) (λ _.
      brings_then (changed_brings {Q = On Idle pend} {R = On Idle pend} (after_waits n) (λ m h. h)) (λ _. nothing_brings))))

  -- its script
  top_keeps : (F : About) (n : ℕ) (props : List Given) → Brings (Both L (Fresh n) F) (Both L (Busy n) F) (scripted (run_top p n (passed props)))
  top_keeps F n props = both_bring
      (scripted_brings F (λ old. top_leaves (are_stay p old) n (are_sets old n) (passed props)))
      (leads_on tells.lasts (Fresh n) (Busy n) [] (run_top p n (passed props)) (λ shown w h. tells.lasts.opens n [] shown (passed props) w h))

  -- ---- a child that was made just now

  module _ (pend : Pending) (q place : ℕ) (view : View) (n : ℕ) where
    abbrev Newly : About
    Newly = New p P pend q place view n

    new_lent : (m : Page) (h : At Newly m) → IsOpened p n m.world.states → Pictured m.world.states n h.kin → At (Calm pend) (record m { world = lent p n view m.world })
    new_lent m h ready i =
        let ks : Kins = kins m.world.states in
        let there : at ks n ≡ Some (kin_of i.instance) = kin_at m.world.states n (Some i.instance) i.live_is in
        ⊎_elim
        (λ stays. subst (λ ks'. P pend None [] ks' m.showing m.counters.next) (sym stays.0)
        (course.makes.spares pend n (kin_of i.instance) ks m.showing m.counters.next there (stays.1 ready) h.fact))
        (λ now. subst (λ ks'. P pend None [] ks' m.showing m.counters.next) (sym now.0)
        (course.makes.lends pend q place n (kin_of i.instance) view ks m.showing m.counters.next h.hold h.stands there now.1 h.fact))
        (lent_either p n view m.world i.instance i.live_is)

    lent_new : Brings (Both L (Busy n) Newly) (On (Busy n) pend) (in_world (lent_if p n (Some view)))
    lent_new = record {
      held = λ m h. (
        new_lent m h.0 (tells.busy n m h.1) (pictured m.world.states n h.0.kin h.0.there),
        lent_if_lasts tells.lasts (Busy n) tt {due = levels view} m.showing.shown n (Some view) m.world (λ k cells s. s) h.1,
      );
    }

    new_started : (props : List Given) → AreBefore n pend → (run : Effect → Task) → Runs pend n run → Brings (Both L (Fresh n) Newly) (On Idle pend) (started p (each run) n props (Some view))
    new_started props before run runs = brings_then (brings_then (top_keeps Newly n props) (λ _. brings_then lent_new (λ _. nothing_brings))) (λ _. rest_keeps pend n before run runs)

    -- it was made, and isn't placed yet
    abbrev IsBorn : Page → Type 0
    IsBorn = Both L (Fresh n) (Born p P pend q place view n)

    born_grown : (run : ℕ → Effect → Task) (props : List Given) (t : Tag) → Runs pend n (run n) → Brings IsBorn (On Idle pend) (grown p (λ n. each (run n)) place props view t n)
    born_grown run props t runs = record { held = λ m h. (whole h.0.before).held m h } where
      whole : AreBefore n pend → Brings IsBorn (On Idle pend) (grown p (λ n. each (run n)) place props view t n)
      whole before =
          brings_then (changed_brings {Q = IsBorn} {R = Both L (Fresh n) Newly} (placed place view n)
          (λ m h. (born_placed p P pend q place view n m h.0, (tells.lasts.scripts (Fresh n) tt [] m.showing.shown).left m.world.modules m.world.states (λ s. record s { locals = view.own.locals }) n (λ u. refl) h.1))) (λ _.
          brings_then (new_started props before (run n) runs) (λ _.
          brings_then (both_bring (world_brings (Calm pend) (attached n) (λ w. kins-setup w.states (λ s. record s { attached = true }) n))
          (world_lasts tells.lasts {phase = Idle} {due = []} (attached n) (λ shown w h. (tells.lasts.scripts Idle tt [] shown).left w.modules w.states (λ s. record s { attached = true }) n (λ u. refl) h))) (λ _.
          brings_then (changed_brings {Q = On Idle pend} {R = On Idle pend} (binds p t n view.own.inst) (λ m h. h)) (λ _. nothing_brings))))

  -- ---- children that are made

  module _ (pend : Pending) (q place k : ℕ) (props : List Given) (view : View) (es : List Effect) (tag : Tag) (is : slice_get p.tags k ≡ Some tag) where
    abbrev Creating : About
    Creating = Calm ((q, effect.Create place k props view ∷ es) ∷ pend)

    abbrev Rest : Pending
    Rest = (q, es) ∷ pend

    child_born : (c : Component) → component_at p tag.file ≡ Some c → (ks : Kins) (s : Showing) (next : ℕ) → depth_at ks q < DEPTH_LIMIT → Creating ks s next
        → Born p P Rest q place view (length ks) (with_born ks (child_place ks tag q k view) (cell_count c)) s next
    child_born c comp ks s next shallow h =
        just_born p P Rest q place view (child_place ks tag q k view) (cell_count c) ks s next (course.passes.ascend ((q, effect.Create place k props view ∷ es) ∷ pend) None [] ks s next h).1
        (course.makes.makes pend q place k props view es ks s next tag c is comp shallow h)

    born_child : Births p (site_of q k view tag) (Both L Idle Creating) (IsBorn Rest q place view)
    born_child c comp m fits h = (
      child_held p q k view tag Creating (Born p P Rest q place view) c (child_born c comp) m fits h.0,
      tells.lasts.makes [] m.showing.shown m.world.modules m.world.states (place_below m.world.states tag.file (Some q) (Some (record { tag = k; owner = view.own.inst }))) c comp h.1,
    )

    created_keeps : (run : ℕ → Effect → Task) → ((n : ℕ) → Runs Rest n (run n)) → Brings (Both L Idle Creating) (On Idle Rest) (created p (λ n. each (run n)) q place k props view tag)
    created_keeps run runs =
        made_then p (site_of q k view tag) (Both L Idle Creating) (On Idle Rest) (IsBorn Rest q place view) (λ m left h. h)
        (λ none m h. (course.passes.creates pend q place k props view es (kins m.world.states) m.showing m.counters.next (none_made p q k view tag is none) h.0, h.1))
        born_child (λ n. born_grown Rest q place view n run props tag (runs n))

  -- ---- effects

  abbrev Creates : Type 0
  Creates = (parent place k : ℕ) → List Given → View → Tag → Task

  -- a child is made for an effect
  abbrev CreatesKeep : Creates → Type 0
  CreatesKeep create = (pend : Pending) (q place k : ℕ) (props : List Given) (view : View) (es : List Effect) (tag : Tag) → slice_get p.tags k ≡ Some tag
      → Brings (On Idle ((q, effect.Create place k props view ∷ es) ∷ pend)) (On Idle ((q, es) ∷ pend)) (create q place k props view tag)

  create_keeps : (create : Creates) → CreatesKeep create → (pend : Pending) (q place k : ℕ) (props : List Given) (view : View) (es : List Effect) (o : Option Tag) → slice_get p.tags k ≡ o
      → Brings (On Idle ((q, effect.Create place k props view ∷ es) ∷ pend)) (On Idle ((q, es) ∷ pend)) (tag_task o (create q place k props view))
  create_keeps create keeps pend q place k props view es None is =
      record { held = λ m h. (course.passes.creates pend q place k props view es (kins m.world.states) m.showing m.counters.next (λ tag c there comp. none-some tag (sym is ∙ there)) h.0, h.1) }
  create_keeps create keeps pend q place k props view es (Some tag) is = keeps pend q place k props view es tag is

  -- the child at a place gets what moved
  module _ (pend : Pending) (q place : ℕ) (props : List Given) (es : List Effect) where
    abbrev Setting : Option View → ℕ → About
    Setting view n ks s next = P ((q, effect.Set place props view ∷ es) ∷ pend) None [] ks s next × (child_at s place ≡ Some n)

    lent_set : (view : View) (n : ℕ) (m : Page) → IsOpened p n m.world.states → (o : Option Instance) → live m.world.states n ≡ o → At (Setting (Some view) n) m
        → At (Calm ((q, es) ∷ pend)) (record m { world = lent p n view m.world })
    lent_set view n m ready None e h =
        subst (λ w. P ((q, es) ∷ pend) None [] (kins w.states) m.showing m.counters.next) (sym (lent-none p n view m.world e))
        (course.sets.dead pend q place n props (Some view) es (kins m.world.states) m.showing m.counters.next h.1 (kin_at m.world.states n None e) h.0)
    lent_set view n m ready (Some i) e h =
        let ks : Kins = kins m.world.states in
        let there : at ks n ≡ Some (kin_of i) = kin_at m.world.states n (Some i) e in
        ⊎_elim
        (λ stays. subst (λ ks'. P ((q, es) ∷ pend) None [] ks' m.showing m.counters.next) (sym stays.0)
        (course.sets.spares pend q place n (kin_of i) props view es ks m.showing m.counters.next h.1 there (stays.1 ready) h.0))
        (λ now. subst (λ ks'. P ((q, es) ∷ pend) None [] ks' m.showing m.counters.next) (sym now.0)
        (course.sets.lends pend q place n (kin_of i) props view es ks m.showing m.counters.next h.1 there now.1 h.0))
        (lent_either p n view m.world i e)

    set_lent : (view : Option View) (n : ℕ) → Brings (Both L Idle (Setting view n)) (On Idle ((q, es) ∷ pend)) (in_world (lent_if p n view))
    set_lent None n = record { held = λ m h. (course.sets.no_view pend q place props es (kins m.world.states) m.showing m.counters.next h.0.0, h.1) }
    set_lent (Some view) n = record {
      held = λ m h. (
        lent_set view n m (tells.idle n m h.1) (live m.world.states n) refl h.0,
        lent_if_lasts tells.lasts Idle tt {due = levels view} m.showing.shown n (Some view) m.world (λ k cells s. s) h.1,
      );
    }

    set_keeps : (view : Option View) (n : ℕ) → Brings (Both L Idle (Setting view n)) (On Idle ((q, es) ∷ pend)) (child_set p props view n)
    set_keeps view n =
        brings_then (both_bring (scripted_brings (Setting view n) (λ old. set_leaves p old n props)) (scripted_lasts tells.lasts {phase = Idle} {due = []} (λ shown. set_lasts tells.lasts Idle tt {due = []} shown n props))) (λ _.
        brings_then (set_lent view n) (λ _. nothing_brings))

    set_held : (view : Option View) (m : Page) (o : Option ℕ) → child_at m.showing place ≡ o → On Idle ((q, effect.Set place props view ∷ es) ∷ pend) m
        → Afterwards (On Idle ((q, es) ∷ pend)) (child_task (child_set p props view) o m)
    set_held view m None e h = (course.sets.nobody pend q place props view es (kins m.world.states) m.showing m.counters.next e h.0, h.1)
    set_held view m (Some n) e h = (set_keeps view n).held m ((h.0, e), h.1)

  effect_keeps : (create : Creates) → CreatesKeep create → (pend : Pending) (q : ℕ) (es : List Effect) (e : Effect) → Brings (On Idle ((q, e ∷ es) ∷ pend)) (On Idle ((q, es) ∷ pend)) (effect_by p create q e)
  effect_keeps create keeps pend q es (effect.Create place k props view) = create_keeps create keeps pend q place k props view es (slice_get p.tags k) refl
  effect_keeps create keeps pend q es (effect.Set place props view) = record { held = λ m h. set_held pend q place props es view m (child_at m.showing place) refl h }
  effect_keeps create keeps pend q es (effect.Destroy place) = both_bring
      (taken_keeps p P course.leaves sorted course.passes.destroys course.passes.ascend pend q place es)
      (taken_brings tells.lasts {due = []} place (gone_brings tells.lasts {due = []} DEPTH_LIMIT))

  all_effects_keep : (create : Creates) → CreatesKeep create → (pend : Pending) (q : ℕ) → Runs pend q (effect_by p create q)
  all_effects_keep create keeps pend q [] = record { held = λ m h. (course.passes.ends pend q (kins m.world.states) m.showing m.counters.next h.0, h.1) }
  all_effects_keep create keeps pend q (e ∷ es) = brings_then (effect_keeps create keeps pend q es e) (λ _. all_effects_keep create keeps pend q es)

  creations_keep : (room : ℕ) → CreatesKeep (created_in room p)
  unfolding created_in
  creations_keep zero pend q place k props view es tag is = record { held = λ m h. tt }
  creations_keep (suc room) pend q place k props view es tag is =
      created_keeps pend q place k props view es tag is (λ n. effect_by p (created_in room p) n) (λ n. all_effects_keep (created_in room p) (creations_keep room) ((q, es) ∷ pend) n)

  pub effects_keep : (room : ℕ) (pend : Pending) (n : ℕ) → Runs pend n (effect_by p (created_in room p) n)
  effects_keep room pend n = all_effects_keep (created_in room p) (creations_keep room) pend n

  -- ---- the root

  root_started : (n : ℕ) → Brings (Both L (Fresh n) (Calm [])) (On Idle []) (started p (effects DEPTH_LIMIT p n) n [] None)
  root_started n =
      brings_then (brings_then (top_keeps (Calm []) n []) (λ _. brings_then unlent (λ _. nothing_brings))) (λ _.
      rest_keeps [] n tt (effect_by p (created_in DEPTH_LIMIT p) n) (effects_keep DEPTH_LIMIT [] n))
    where
      unlent : Brings (On (Busy n) []) (On (Busy n) []) (in_world (lent_if p n None))
      unlent = record { held = λ m h. h }

  born_root : Births p root_site (On Idle []) (λ n. Both L (Fresh n) (Calm []))
  born_root c comp m fits h = (
    subst (λ ks. P [] None [] ks m.showing m.counters.next) (sym (kins-added m.world.states root_place (cell_count c) c.constants))
        (course.makes.roots (kins m.world.states) m.showing m.counters.next c comp h.0),
    tells.lasts.makes [] m.showing.shown m.world.modules m.world.states root_place c comp h.1,
  )

  pub rooted_keeps : Brings (On Idle []) (On Idle []) (rooted p)
  rooted_keeps = made_then p root_site (On Idle []) (On Idle []) (λ n. Both L (Fresh n) (Calm [])) (λ m left h. h) (λ none m h. h) born_root root_started
