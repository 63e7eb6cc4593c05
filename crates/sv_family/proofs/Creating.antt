-- Instances that are made and shown, and the effects of patches.
use Rattle.std.proofs.Common.{◌≡◌, ℕ, zero, suc, ◌<◌, Bool, true, false, List, [], ◌∷◌, length, Option, Some, None, option_map, Result, Ok, Err, refl, sym, ap, subst, ◌∙◌, slice_get, nat_le, inl, inr, ⊎_elim}
use Rattle.std.proofs.lemmas.Option.{none-some}
use Rattle.sv_code.specs.declared.program.Component.{Component}
use Rattle.sv_code.specs.declared.program.Program.{Program}
use Rattle.sv_code.specs.declared.tags.Tag.{Tag}
use Rattle.sv_family.proofs.Births.{readied_keeps, Births, made_then, child_held, unseen_child, none_made, Born, New, born_placed, just_born}
use Rattle.sv_family.proofs.Course.{Fact, Course, child_place, root_place, with_born}
use Rattle.sv_family.proofs.Destroying.{KeepsSorted, taken_keeps}
use Rattle.sv_family.proofs.Pictures.{Pictured, pictured, tags-same, markup-same, kins-added, kin_at, IsUnseen, unseen-setup, IsOpened, lent_either, lent-none}
use Rattle.sv_family.proofs.Scripts.{About, At, Are, are_sets, are_stay, scripted_brings, world_brings, same_at, set_leaves, kins-setup, kins-tags}
use Rattle.sv_family.specs.Family.{markup_in}
use Rattle.sv_family.specs.Kin.{Kins, kin_of, kins, depth_at}
use Rattle.sv_family.specs.Pending.{Pending, AreBefore}
use Rattle.sv_flush.proofs.Bringing.{Afterwards, Brings, brings_then, nothing_brings, changed_brings}
use Rattle.sv_flush.specs.Creation.{next, readied, after_waits, cell_count, mount_waits, opened, started, passed, binds, placed, attached, site_of, grown, created, tag_task, child_set, effect_by, created_in, effects, root_site, mounted}
use Rattle.sv_flush.specs.Destruction.{child_task}
use Rattle.sv_flush.specs.Outcome.{Task, and_then, in_turn, each, changed, in_world, ended, scripted, work, work_if}
use Rattle.sv_flush.specs.Setting.{lent, lent_if}
use Rattle.sv_flush.specs.Showing.{tags_of, recorded, followed, patched_on, patched_now, shown}
use Rattle.sv_flush.specs.declared.page.Page.{Page}
use Rattle.sv_frame.proofs.Outcomes.{at_ends, Left}
use Rattle.sv_frame.proofs.Running.{modules_leave, top_leaves}
use Rattle.sv_instance.specs.declared.instance.Instance.{Instance}
use Rattle.sv_meaning.specs.Components.{component_at, component_of, markup_of}
use Rattle.sv_meaning.specs.Outcome.{Ending, Ends, Fails}
use Rattle.sv_meaning.specs.Runs.{run_top}
use Rattle.sv_numbered.specs.Numbered.{at}
use Rattle.sv_parts.specs.declared.refusal.Refusal.{Refusal}
use Rattle.sv_parts.specs.declared.state.Effect.{Effect}
use Rattle.sv_parts.specs.declared.state.Effect.TheVariants as effect
use Rattle.sv_parts.specs.declared.state.Given.{Given}
use Rattle.sv_plan.specs.Patch.{After, patched}
use Rattle.sv_shapes.specs.Showing.{Showing, child_at}
use Rattle.sv_states.specs.States.{live}
use Rattle.sv_states.specs.declared.states.TheConstants.{DEPTH_LIMIT}
use Rattle.sv_value.specs.Value.{Val}
use Rattle.sv_view.specs.Level.{View}
use Rattle.sv_world.specs.World.{present_view}
use Rattle.sv_world.specs.declared.world.World.{World}

-- behind its script a cell for the owner's view is declared
abbrev pub Opens : Program → Type 0
Opens p = (n : ℕ) (props : List (ℕ × Val)) (w : World) → IsUnseen n w.states → Left (at_ends (IsOpened p n)) (run_top p n props w)

-- scripts leave the pictures, and the script of an instance opens it
pub run_opens : (p : Program) → Opens p → (F : About) (n : ℕ) (props : List (ℕ × Val)) → Brings (λ m. At F m × IsUnseen n m.world.states) (λ m. At F m × IsOpened p n m.world.states) (scripted (run_top p n props))
run_opens p opens F n props = record { held = λ m h. by m h.0 (run_top p n props m.world) ((top_leaves (are_stay p (kins m.world.states)) n (are_sets (kins m.world.states) n) props).held m.world refl) (opens n props m.world h.1) } where
  by : (m : Page) → At F m → (e : Ending (Unit {0})) → Left (at_ends (Are (kins m.world.states))) e → Left (at_ends (IsOpened p n)) e → Afterwards (λ m. At F m × IsOpened p n m.world.states) (ended m e)
  by m h (Ends a w) same opened = (same_at F m w same h, opened)
  by m h (Fails kind s w) same opened = tt

work_one : (F : About) (b : Bool) (m : Page) → At F m → Afterwards (At F) (work_if b m)
work_one F true m h = h
work_one F false m h = tt

pub work_keeps : (F : About) → Brings (At F) (At F) work
work_keeps F = record { held = λ m h. work_one F (nat_le 1 m.counters.work) m h }

module _ (p : Program) (P : Fact) (course : Course p P) (sorted : KeepsSorted P) (opens : Opens p) where
  -- nothing was made just now, and nobody is leaving
  abbrev pub Calm : Pending → About
  Calm pend = P pend None []

  abbrev pub Keeps : Pending → Task → Type 0
  Keeps pend task = Brings (At (Calm pend)) (At (Calm pend)) task

  -- ---- snapshots and patches

  -- the effects of the patch of an instance run
  abbrev pub Runs : Pending → ℕ → (Effect → Task) → Type 0
  Runs pend n run = (es : List Effect) → Brings (At (Calm ((n, es) ∷ pend))) (At (Calm pend)) (each run es)

  module _ (pend : Pending) (n : ℕ) (before : AreBefore n pend) (run : Effect → Task) (runs : Runs pend n run) (m : Page) (h : At (Calm pend) m) where
    patch_followed : (i : Instance) → live m.world.states n ≡ Some i → (o : Result After Refusal)
        → patched p (tags_of m.world (present_view m.world.modules n i)) n (markup_of (component_of p m.world n)) (present_view m.world.modules n i) m.showing m.counters m.tally ≡ o
        → Afterwards (At (Calm pend)) (and_then (followed m o) (each run))
    patch_followed i is (Err r) e = tt
    patch_followed i is (Ok a) e =
        let v : View = present_view m.world.modules n i in
        let ks : Kins = kins m.world.states in
        (runs a.effects).held (recorded a m) (subst (λ ks'. P ((n, a.effects) ∷ pend) None [] ks' a.showing a.counters.next) (sym (kins-tags a.showing a.kept m.world))
        (course.shows.shows pend n (kin_of i) v ks m.showing m.counters m.tally a (kin_at m.world.states n (Some i) is) refl before
        (ap (λ t. patched p t n (markup_in p ks n) v m.showing m.counters m.tally) (sym (tags-same m.world v))
        ∙ (ap (λ t. patched p (tags_of m.world v) n t v m.showing m.counters m.tally) (sym (markup-same p m.world n)) ∙ e)) h))

    patch_of : (o : Option Instance) → live m.world.states n ≡ o → Afterwards (At (Calm pend)) (and_then (patched_on p n (option_map (present_view m.world.modules n) o) m) (each run))
    patch_of None e = h
    patch_of (Some i) e = patch_followed i e _ refl

    shown_held : Afterwards (At (Calm pend)) (shown p (each run) n m)
    unfolding patched_now
    shown_held = subst (λ o. Afterwards (At (Calm pend)) (and_then (patched_on p n (option_map (present_view m.world.modules n) o) m) (each run))) refl (patch_of (live m.world.states n) refl)

  pub shown_keeps : (pend : Pending) (n : ℕ) → AreBefore n pend → (run : Effect → Task) → Runs pend n run → Keeps pend (shown p (each run) n)
  shown_keeps pend n before run runs = record { held = λ m h. shown_held pend n before run runs m h }

  -- what comes behind the script of a new instance
  rest_keeps : (pend : Pending) (n : ℕ) → AreBefore n pend → (run : Effect → Task) → Runs pend n run
      → Keeps pend (in_turn (readied p n true ∷ shown p (each run) n ∷ changed (mount_waits n) ∷ changed (after_waits n) ∷ []))
  rest_keeps pend n before run runs =
      brings_then (readied_keeps p (Calm pend) n true) (λ _.
      brings_then (shown_keeps pend n before run runs) (λ _.
      brings_then (changed_brings {Q = At (Calm pend)} {R = At (Calm pend)} (mount_waits n) (λ m h. h)) (λ _.
      brings_then (changed_brings {Q = At (Calm pend)} {R = At (Calm pend)} (after_waits n) (λ m h. h)) (λ _. nothing_brings))))

  -- ---- a child that was made just now

  module _ (pend : Pending) (q place : ℕ) (view : View) (n : ℕ) where
    abbrev Newly : About
    Newly = New p P pend q place view n

    lent_new : Brings (λ m. At Newly m × IsOpened p n m.world.states) (At (Calm pend)) (in_world (lent_if p n (Some view)))
    lent_new = record { held = λ m h. by m h.0 h.1 (pictured m.world.states n h.0.kin h.0.there) } where
      by : (m : Page) (h : At Newly m) → IsOpened p n m.world.states → Pictured m.world.states n h.kin → At (Calm pend) (record m { world = lent p n view m.world })
      by m h ready i =
          let ks : Kins = kins m.world.states in
          let there : at ks n ≡ Some (kin_of i.instance) = kin_at m.world.states n (Some i.instance) i.live_is in
          ⊎_elim
          (λ stays. subst (λ ks'. P pend None [] ks' m.showing m.counters.next) (sym stays.0)
          (course.makes.spares pend n (kin_of i.instance) ks m.showing m.counters.next there (stays.1 ready) h.fact))
          (λ now. subst (λ ks'. P pend None [] ks' m.showing m.counters.next) (sym now.0)
          (course.makes.lends pend (Some n) q place n (kin_of i.instance) view ks m.showing m.counters.next (inr refl) h.hold h.stands there now.1 h.fact))
          (lent_either p n view m.world i.instance i.live_is)

    new_started : (props : List Given) → AreBefore n pend → (run : Effect → Task) → Runs pend n run → Brings (λ m. At Newly m × IsUnseen n m.world.states) (At (Calm pend)) (started p (each run) n props (Some view))
    new_started props before run runs =
        brings_then (brings_then (run_opens p opens Newly n (passed props)) (λ _. brings_then lent_new (λ _. nothing_brings))) (λ _. rest_keeps pend n before run runs)

  module _ (pend : Pending) (q place : ℕ) (view : View) (n : ℕ) where
    -- it isn't placed yet, nor was it ever shown
    abbrev IsBorn : Page → Type 0
    IsBorn m = At (Born p P pend q place view n) m × IsUnseen n m.world.states

    unseen_placed : (m : Page) → IsBorn m → At (New p P pend q place view n) (placed place view n m) × IsUnseen n (placed place view n m).world.states
    unseen_placed m h = (born_placed p P pend q place view n m h.0, unseen-setup m.world.states (λ s. record s { locals = view.own.locals }) n h.1)

    born_grown : (run : ℕ → Effect → Task) (props : List Given) (t : Tag) → Runs pend n (run n) → Brings IsBorn (At (Calm pend)) (grown p (λ n. each (run n)) place props view t n)
    born_grown run props t runs = record { held = λ m h. (whole h.0.before).held m h } where
      whole : AreBefore n pend → Brings IsBorn (At (Calm pend)) (grown p (λ n. each (run n)) place props view t n)
      whole before =
          brings_then (changed_brings {Q = IsBorn} {R = λ m. At (New p P pend q place view n) m × IsUnseen n m.world.states} (placed place view n) unseen_placed) (λ _.
          brings_then (new_started pend q place view n props before (run n) runs) (λ _.
          brings_then (world_brings (Calm pend) (attached n) (λ w. kins-setup w.states (λ s. record s { attached = true }) n)) (λ _.
          brings_then (changed_brings {Q = At (Calm pend)} {R = At (Calm pend)} (binds p t n view.own.inst) (λ m h. h)) (λ _. nothing_brings))))

  -- ---- children that are made

  module _ (pend : Pending) (q place k : ℕ) (props : List Given) (view : View) (es : List Effect) (tag : Tag) (is : slice_get p.tags k ≡ Some tag) where
    abbrev Creating : About
    Creating = Calm ((q, effect.Create place k props view ∷ es) ∷ pend)

    abbrev Rest : Pending
    Rest = (q, es) ∷ pend

    child_born : (c : Component) → component_at p tag.file ≡ Some c → (ks : Kins) (s : Showing) (next : ℕ) → depth_at ks q < DEPTH_LIMIT → Creating ks s next
        → Born p P Rest q place view (length ks) (with_born ks (child_place ks tag q k view) (cell_count c)) s next
    child_born c comp ks s next shallow h =
        just_born p P Rest q place view (child_place ks tag q k view) (cell_count c) ks s next (course.passes.ascend ((q, effect.Create place k props view ∷ es) ∷ pend) None [] ks s next h).1
        (course.makes.makes pend q place k props view es ks s next tag c is comp shallow h)

    born_child : Births p (site_of q k view tag) (At Creating) (IsBorn Rest q place view)
    born_child c comp m fits h = (child_held p q k view tag Creating (Born p P Rest q place view) c (child_born c comp) m fits h, unseen_child p q k view tag c m)

    created_keeps : (run : ℕ → Effect → Task) → ((n : ℕ) → Runs Rest n (run n)) → Brings (At Creating) (At (Calm Rest)) (created p (λ n. each (run n)) q place k props view tag)
    created_keeps run runs =
        made_then p (site_of q k view tag) (At Creating) (At (Calm Rest)) (IsBorn Rest q place view) (λ m left h. h)
        (λ none m h. course.passes.creates pend q place k props view es (kins m.world.states) m.showing m.counters.next (none_made p q k view tag is none) h)
        born_child (λ n. born_grown Rest q place view n run props tag (runs n))

  -- ---- effects

  abbrev Creates : Type 0
  Creates = (parent place k : ℕ) → List Given → View → Tag → Task

  -- a child is made for an effect
  abbrev CreatesKeep : Creates → Type 0
  CreatesKeep create = (pend : Pending) (q place k : ℕ) (props : List Given) (view : View) (es : List Effect) (tag : Tag) → slice_get p.tags k ≡ Some tag
      → Brings (At (Calm ((q, effect.Create place k props view ∷ es) ∷ pend))) (At (Calm ((q, es) ∷ pend))) (create q place k props view tag)

  create_keeps : (create : Creates) → CreatesKeep create → (pend : Pending) (q place k : ℕ) (props : List Given) (view : View) (es : List Effect) (o : Option Tag) → slice_get p.tags k ≡ o
      → Brings (At (Calm ((q, effect.Create place k props view ∷ es) ∷ pend))) (At (Calm ((q, es) ∷ pend))) (tag_task o (create q place k props view))
  create_keeps create keeps pend q place k props view es None is =
      record { held = λ m h. course.passes.creates pend q place k props view es (kins m.world.states) m.showing m.counters.next (λ tag c there comp. none-some tag (sym is ∙ there)) h }
  create_keeps create keeps pend q place k props view es (Some tag) is = keeps pend q place k props view es tag is

  -- the child at a place gets what moved
  module _ (pend : Pending) (q place : ℕ) (props : List Given) (es : List Effect) where
    abbrev Setting : Option View → ℕ → About
    Setting view n ks s next = P ((q, effect.Set place props view ∷ es) ∷ pend) None [] ks s next × (child_at s place ≡ Some n)

    lent_set : (view : View) (n : ℕ) (m : Page) (o : Option Instance) → live m.world.states n ≡ o → At (Setting (Some view) n) m → At (Calm ((q, es) ∷ pend)) (record m { world = lent p n view m.world })
    lent_set view n m None e h =
        subst (λ w. P ((q, es) ∷ pend) None [] (kins w.states) m.showing m.counters.next) (sym (lent-none p n view m.world e))
        (course.passes.sets pend q place props (Some view) es (kins m.world.states) m.showing m.counters.next h.0)
    lent_set view n m (Some i) e h =
        let ks : Kins = kins m.world.states in
        let done = course.passes.sets pend q place props (Some view) es ks m.showing m.counters.next h.0 in
        ⊎_elim
        (λ stays. subst (λ ks'. P ((q, es) ∷ pend) None [] ks' m.showing m.counters.next) (sym stays.0) done)
        (λ now. subst (λ ks'. P ((q, es) ∷ pend) None [] ks' m.showing m.counters.next) (sym now.0)
        (course.makes.lends ((q, es) ∷ pend) None q place n (kin_of i) view ks m.showing m.counters.next (inl refl) (course.makes.for_set pend q place props view es ks m.showing m.counters.next h.0) h.1
        (kin_at m.world.states n (Some i) e) now.1 done))
        (lent_either p n view m.world i e)

    set_lent : (view : Option View) (n : ℕ) → Brings (At (Setting view n)) (At (Calm ((q, es) ∷ pend))) (in_world (lent_if p n view))
    set_lent None n = record { held = λ m h. course.passes.sets pend q place props None es (kins m.world.states) m.showing m.counters.next h.0 }
    set_lent (Some view) n = record { held = λ m h. lent_set view n m (live m.world.states n) refl h }

    set_keeps : (view : Option View) (n : ℕ) → Brings (At (Setting view n)) (At (Calm ((q, es) ∷ pend))) (child_set p props view n)
    set_keeps view n = brings_then (scripted_brings (Setting view n) (λ old. set_leaves p old n props)) (λ _. brings_then (set_lent view n) (λ _. nothing_brings))

    set_held : (view : Option View) (m : Page) (o : Option ℕ) → child_at m.showing place ≡ o → At (Calm ((q, effect.Set place props view ∷ es) ∷ pend)) m
        → Afterwards (At (Calm ((q, es) ∷ pend))) (child_task (child_set p props view) o m)
    set_held view m None e h = course.passes.sets pend q place props view es (kins m.world.states) m.showing m.counters.next h
    set_held view m (Some n) e h = (set_keeps view n).held m (h, e)

  effect_keeps : (create : Creates) → CreatesKeep create → (pend : Pending) (q : ℕ) (es : List Effect) (e : Effect) → Brings (At (Calm ((q, e ∷ es) ∷ pend))) (At (Calm ((q, es) ∷ pend))) (effect_by p create q e)
  effect_keeps create keeps pend q es (effect.Create place k props view) = create_keeps create keeps pend q place k props view es (slice_get p.tags k) refl
  effect_keeps create keeps pend q es (effect.Set place props view) = record { held = λ m h. set_held pend q place props es view m (child_at m.showing place) refl h }
  effect_keeps create keeps pend q es (effect.Destroy place) = taken_keeps p P course.leaves sorted course.passes.destroys course.passes.ascend pend q place es

  all_effects_keep : (create : Creates) → CreatesKeep create → (pend : Pending) (q : ℕ) → Runs pend q (effect_by p create q)
  all_effects_keep create keeps pend q [] = record { held = λ m h. course.passes.ends pend q (kins m.world.states) m.showing m.counters.next h }
  all_effects_keep create keeps pend q (e ∷ es) = brings_then (effect_keeps create keeps pend q es e) (λ _. all_effects_keep create keeps pend q es)

  creations_keep : (room : ℕ) → CreatesKeep (created_in room p)
  unfolding created_in
  creations_keep zero pend q place k props view es tag is = record { held = λ m h. tt }
  creations_keep (suc room) pend q place k props view es tag is =
      created_keeps pend q place k props view es tag is (λ n. effect_by p (created_in room p) n) (λ n. all_effects_keep (created_in room p) (creations_keep room) ((q, es) ∷ pend) n)

  pub effects_keep : (room : ℕ) (pend : Pending) (n : ℕ) → Runs pend n (effect_by p (created_in room p) n)
  effects_keep room pend n = all_effects_keep (created_in room p) (creations_keep room) pend n

  -- ---- the root

  root_started : (n : ℕ) → Brings (At (Calm [])) (At (Calm [])) (started p (effects DEPTH_LIMIT p n) n [] None)
  root_started n =
      brings_then (brings_then (scripted_brings (Calm []) (λ old. top_leaves (are_stay p old) n (are_sets old n) (passed []))) (λ _. brings_then (world_brings (Calm []) (lent_if p n None) (λ w. refl)) (λ _. nothing_brings))) (λ _.
      rest_keeps [] n tt (effect_by p (created_in DEPTH_LIMIT p) n) (effects_keep DEPTH_LIMIT [] n))

  born_root : Births p root_site (At (Calm [])) (λ n. At (Calm []))
  born_root c comp m fits h = subst (λ ks. P [] None [] ks m.showing m.counters.next) (sym (kins-added m.world.states root_place (cell_count c) c.constants))
      (course.makes.roots (kins m.world.states) m.showing m.counters.next c comp h)

  pub mounted_keeps : Keeps [] (mounted p)
  unfolding mounted
  mounted_keeps =
      brings_then (scripted_brings (Calm []) (λ old. modules_leave (are_stay p old) (are_sets old 0) (λ ms ms' s h. h))) (λ _. made_then p root_site (At (Calm [])) (At (Calm [])) (λ n. At (Calm [])) (λ m left h. h) (λ none m h. h) born_root root_started)
