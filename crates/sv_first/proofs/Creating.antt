-- Instances that are made, one below the other: each is shown once, on the view that its present cells and the lent view give.
use Rattle.std.proofs.Common.{◌≡◌, ℕ, zero, suc, ◌<◌, true, List, [], ◌∷◌, length, Option, Some, None, option_map, Result, Ok, Err, refl, sym, ap, subst, ◌∙◌, slice_get, inr, ⊎_elim}
use Rattle.std.proofs.lemmas.Option.{none-some, same_Some}
use Rattle.sv_code.specs.Names.{Each}
use Rattle.sv_code.specs.declared.program.Component.{Component}
use Rattle.sv_code.specs.declared.program.Program.{Program}
use Rattle.sv_code.specs.declared.tags.Tag.{Tag}
use Rattle.sv_family.proofs.Births.{readied_keeps, Births, made_then, child_held, unseen_child, none_made, Born, New, born_placed, just_born}
use Rattle.sv_family.proofs.Born.{none_before}
use Rattle.sv_family.proofs.Course.{Course, child_place, root_place, with_born}
use Rattle.sv_family.proofs.Creating.{run_opens}
use Rattle.sv_family.proofs.Declaring.{opens}
use Rattle.sv_family.proofs.Pictures.{Pictured, pictured, tags-same, markup-same, next-same, kins-added, kin_at, IsUnseen, unseen-setup, IsOpened, lent_either}
use Rattle.sv_family.proofs.Scripts.{About, At, are_sets, are_stay, scripted_brings, world_brings, kins-setup, kins-tags}
use Rattle.sv_family.proofs.Whole.{Whole, whole_course}
use Rattle.sv_family.specs.Family.{IsShown, markup_in}
use Rattle.sv_family.specs.Kin.{Kins, kin_of, kins, depth_at}
use Rattle.sv_family.specs.Owners.{SlotsAreOwned}
use Rattle.sv_family.specs.Pending.{Pending, AreBefore}
use Rattle.sv_first.proofs.Facts.{First, all_born, all_lent}
use Rattle.sv_first.proofs.Patches.{IsBirth, first_shows}
use Rattle.sv_flush.proofs.Bringing.{Afterwards, Brings, brings_then, nothing_brings, changed_brings}
use Rattle.sv_flush.specs.Creation.{next, readied, after_waits, cell_count, born_at, mount_waits, started, passed, binds, placed, attached, site_of, grown, created, tag_task, effect_by, created_in, effects, root_site, mounted}
use Rattle.sv_flush.specs.Outcome.{Task, and_then, in_turn, each, changed, in_world}
use Rattle.sv_flush.specs.Setting.{lent, lent_if}
use Rattle.sv_flush.specs.Showing.{tags_of, recorded, followed, patched_on, patched_now, shown}
use Rattle.sv_flush.specs.declared.page.Page.{Page}
use Rattle.sv_frame.proofs.Running.{modules_leave, top_leaves}
use Rattle.sv_instance.specs.declared.instance.Instance.{Instance}
use Rattle.sv_meaning.specs.Components.{component_at, component_of, markup_of}
use Rattle.sv_numbered.specs.Numbered.{at}
use Rattle.sv_parts.specs.declared.refusal.Refusal.{Refusal}
use Rattle.sv_parts.specs.declared.state.Effect.{Effect}
use Rattle.sv_parts.specs.declared.state.Effect.TheVariants as effect
use Rattle.sv_parts.specs.declared.state.Given.{Given}
use Rattle.sv_places.proofs.Lookups.{found-put, found-put_other}
use Rattle.sv_plan.specs.Patch.{After, patched}
use Rattle.sv_shapes.specs.Showing.{Showing, shown_of, child_at, with_child}
use Rattle.sv_shapes.specs.declared.shown.Shown.{Shown}
use Rattle.sv_states.specs.States.{live}
use Rattle.sv_states.specs.declared.states.TheConstants.{DEPTH_LIMIT}
use Rattle.sv_view.specs.Level.{View}
use Rattle.sv_world.specs.World.{present_view}
use Rattle.std.proofs.lemmas.Bool.{cases_eq}

-- who was shown was made before
unmade : (p : Program) (ks : Kins) (s : Showing) → ((n : ℕ) (x : Shown) → shown_of s n ≡ Some x → IsShown p ks n x) → shown_of s (length ks) ≡ None
unmade p ks s shows = by (shown_of s (length ks)) refl where
  by : (o : Option Shown) → shown_of s (length ks) ≡ o → o ≡ None
  by None e = refl
  by (Some x) e = let k = shows (length ks) x e in absurd (none-some k.kin (sym (none_before ks root_place 0) ∙ k.live))

-- who stands beside a new child stood there before
stood : (s : Showing) (place new : ℕ) (a n : ℕ) → child_at (with_child s place new) a ≡ Some n → (n ≡ new → ⊥) → child_at s a ≡ Some n
stood s place new a n e other = ⊎_elim
    (λ same. absurd (other (same_Some n new (sym e ∙ (ap (child_at (with_child s place new)) same ∙ found-put s.children place new)))))
    (λ apart. sym (found-put_other s.children place new a apart) ∙ e)
    (cases_eq a place)

module _ (p : Program) (owned : SlotsAreOwned p) where
  abbrev course : Course p (Whole p)
  course = whole_course p owned

  abbrev Calm : Pending → About
  Calm pend = First p pend None []

  -- one instance isn't shown yet
  abbrev Fresh : Pending → ℕ → About
  Fresh pend n ks s next = First p pend None [] ks s next × (shown_of s n ≡ None)

  -- ---- snapshots and patches

  -- the effects of the patch of an instance run
  abbrev Runs : Pending → ℕ → (Effect → Task) → Type 0
  Runs pend n run = (es : List Effect) → Each IsBirth es → Brings (At (Calm ((n, es) ∷ pend))) (At (Calm pend)) (each run es)

  module _ (pend : Pending) (n : ℕ) (before : AreBefore n pend) (run : Effect → Task) (runs : Runs pend n run) (m : Page) (h : At (Fresh pend n) m) where
    patch_followed : (i : Instance) → live m.world.states n ≡ Some i → (o : Result After Refusal)
        → patched p (tags_of m.world (present_view m.world.modules n i)) n (markup_of (component_of p m.world n)) (present_view m.world.modules n i) m.showing m.counters m.tally ≡ o
        → Afterwards (At (Calm pend)) (and_then (followed m o) (each run))
    patch_followed i is (Err r) e = tt
    patch_followed i is (Ok a) e =
        let v : View = present_view m.world.modules n i in
        let ks : Kins = kins m.world.states in
        let done = first_shows p owned pend n (kin_of i) v ks m.showing m.counters m.tally a (kin_at m.world.states n (Some i) is) refl before h.1 refl refl refl
        (ap (λ t. patched p t n (markup_in p ks n) v m.showing m.counters m.tally) (sym (tags-same m.world v))
        ∙ (ap (λ t. patched p (tags_of m.world v) n t v m.showing m.counters m.tally) (sym (markup-same p m.world n)) ∙ e)) h.0 in
        (runs a.effects done.1).held (recorded a m) (subst (λ ks'. Calm ((n, a.effects) ∷ pend) ks' a.showing a.counters.next) (sym (kins-tags a.showing a.kept m.world)) done.0)

    patch_of : (o : Option Instance) → live m.world.states n ≡ o → Afterwards (At (Calm pend)) (and_then (patched_on p n (option_map (present_view m.world.modules n) o) m) (each run))
    patch_of None e = h.0
    patch_of (Some i) e = patch_followed i e _ refl

    shown_held : Afterwards (At (Calm pend)) (shown p (each run) n m)
    unfolding patched_now
    shown_held = subst (λ o. Afterwards (At (Calm pend)) (and_then (patched_on p n (option_map (present_view m.world.modules n) o) m) (each run))) refl (patch_of (live m.world.states n) refl)

  shown_keeps : (pend : Pending) (n : ℕ) → AreBefore n pend → (run : Effect → Task) → Runs pend n run → Brings (At (Fresh pend n)) (At (Calm pend)) (shown p (each run) n)
  shown_keeps pend n before run runs = record { held = λ m h. shown_held pend n before run runs m h }

  -- what comes behind the script of a new instance
  rest_keeps : (pend : Pending) (n : ℕ) → AreBefore n pend → (run : Effect → Task) → Runs pend n run
      → Brings (At (Fresh pend n)) (At (Calm pend)) (in_turn (readied p n true ∷ shown p (each run) n ∷ changed (mount_waits n) ∷ changed (after_waits n) ∷ []))
  rest_keeps pend n before run runs =
      brings_then (readied_keeps p (Fresh pend n) n true) (λ _.
      brings_then (shown_keeps pend n before run runs) (λ _.
      brings_then (changed_brings {Q = At (Calm pend)} {R = At (Calm pend)} (mount_waits n) (λ m h. h)) (λ _.
      brings_then (changed_brings {Q = At (Calm pend)} {R = At (Calm pend)} (after_waits n) (λ m h. h)) (λ _. nothing_brings))))

  -- ---- a child that was made just now

  module _ (pend : Pending) (q place : ℕ) (view : View) (n : ℕ) where
    abbrev Newly : About
    Newly = New p (First p) pend q place view n

    lent_new : Brings (λ m. At Newly m × IsOpened p n m.world.states) (At (Fresh pend n)) (in_world (lent_if p n (Some view)))
    lent_new = record { held = λ m h. by m h.0 h.1 (pictured m.world.states n h.0.kin h.0.there) } where
      by : (m : Page) (h : At Newly m) → IsOpened p n m.world.states → Pictured m.world.states n h.kin → At (Fresh pend n) (record m { world = lent p n view m.world })
      by m h ready i =
          let ks : Kins = kins m.world.states in
          let there : at ks n ≡ Some (kin_of i.instance) = kin_at m.world.states n (Some i.instance) i.live_is in
          let unseen = h.fact.0.0.lent.unseen n refl in
          ⊎_elim
          (λ stays. subst (λ ks'. Fresh pend n ks' m.showing m.counters.next) (sym stays.0)
          ((course.makes.spares pend n (kin_of i.instance) ks m.showing m.counters.next there (stays.1 ready) h.fact.0, h.fact.1), unseen))
          (λ now. subst (λ ks'. Fresh pend n ks' m.showing m.counters.next) (sym now.0) (
            (
              course.makes.lends pend (Some n) q place n (kin_of i.instance) view ks m.showing m.counters.next (inr refl) h.hold h.stands there now.1 h.fact.0,
              all_lent p pend (Some n) q place n (kin_of i.instance) view ks m.showing m.counters.next h.hold h.stands there h.fact.0.0 unseen h.fact.1,
            ),
            unseen,
          ))
          (lent_either p n view m.world i.instance i.live_is)

    new_started : (props : List Given) → AreBefore n pend → (run : Effect → Task) → Runs pend n run → Brings (λ m. At Newly m × IsUnseen n m.world.states) (At (Calm pend)) (started p (each run) n props (Some view))
    new_started props before run runs =
        brings_then (brings_then (run_opens p (opens p) Newly n (passed props)) (λ _. brings_then lent_new (λ _. nothing_brings))) (λ _. rest_keeps pend n before run runs)

  module _ (pend : Pending) (q place : ℕ) (view : View) (n : ℕ) where
    -- it isn't placed yet, nor was it ever shown
    abbrev IsBorn : Page → Type 0
    IsBorn m = At (Born p (First p) pend q place view n) m × IsUnseen n m.world.states

    unseen_placed : (m : Page) → IsBorn m → At (New p (First p) pend q place view n) (placed place view n m) × IsUnseen n (placed place view n m).world.states
    unseen_placed m h = (born_placed p (First p) pend q place view n m h.0, unseen-setup m.world.states (λ s. record s { locals = view.own.locals }) n h.1)

    born_grown : (run : ℕ → Effect → Task) (props : List Given) (t : Tag) → Runs pend n (run n) → Brings IsBorn (At (Calm pend)) (grown p (λ n. each (run n)) place props view t n)
    born_grown run props t runs = record { held = λ m h. (whole h.0.before).held m h } where
      whole : AreBefore n pend → Brings IsBorn (At (Calm pend)) (grown p (λ n. each (run n)) place props view t n)
      whole before =
          brings_then (changed_brings {Q = IsBorn} {R = λ m. At (New p (First p) pend q place view n) m × IsUnseen n m.world.states} (placed place view n) unseen_placed) (λ _.
          brings_then (new_started pend q place view n props before (run n) runs) (λ _.
          brings_then (world_brings (Calm pend) (attached n) (λ w. kins-setup w.states (λ s. record s { attached = true }) n)) (λ _.
          brings_then (changed_brings {Q = At (Calm pend)} {R = At (Calm pend)} (binds p t n view.own.inst) (λ m h. h)) (λ _. nothing_brings))))

  -- ---- children that are made

  module _ (pend : Pending) (q place k : ℕ) (props : List Given) (view : View) (es : List Effect) (tag : Tag) (is : slice_get p.tags k ≡ Some tag) where
    abbrev Creating : About
    Creating = Calm ((q, effect.Create place k props view ∷ es) ∷ pend)

    abbrev Rest : Pending
    Rest = (q, es) ∷ pend

    child_born : (c : Component) → component_at p tag.file ≡ Some c → (ks : Kins) (s : Showing) (next : ℕ) → depth_at ks q < DEPTH_LIMIT → Creating ks s next
        → Born p (First p) Rest q place view (length ks) (with_born ks (child_place ks tag q k view) (cell_count c)) s next
    child_born c comp ks s next shallow h =
        let made = course.makes.makes pend q place k props view es ks s next tag c is comp shallow h.0 in
        just_born p (First p) Rest q place view (child_place ks tag q k view) (cell_count c) ks s next (course.passes.ascend ((q, effect.Create place k props view ∷ es) ∷ pend) None [] ks s next h.0).1
        ((made.0, all_born p ks (child_place ks tag q k view) (cell_count c) s (with_child s place (length ks)) h.0.0.parents h.0.0.shown (stood s place (length ks)) (λ n. refl) h.1), made.1)

    born_child : Births p (site_of q k view tag) (At Creating) (IsBorn Rest q place view)
    born_child c comp m fits h = (child_held p q k view tag Creating (Born p (First p) Rest q place view) c (child_born c comp) m fits h, unseen_child p q k view tag c m)

    created_keeps : (run : ℕ → Effect → Task) → ((n : ℕ) → Runs Rest n (run n)) → Brings (At Creating) (At (Calm Rest)) (created p (λ n. each (run n)) q place k props view tag)
    created_keeps run runs =
        made_then p (site_of q k view tag) (At Creating) (At (Calm Rest)) (IsBorn Rest q place view) (λ m left h. h)
        (λ none m h. (course.passes.creates pend q place k props view es (kins m.world.states) m.showing m.counters.next (none_made p q k view tag is none) h.0, h.1))
        born_child (λ n. born_grown Rest q place view n run props tag (runs n))

  -- ---- effects

  abbrev Creates : Type 0
  Creates = (parent place k : ℕ) → List Given → View → Tag → Task

  -- a child is made for an effect
  abbrev CreatesKeep : Creates → Type 0
  CreatesKeep create = (pend : Pending) (q place k : ℕ) (props : List Given) (view : View) (es : List Effect) (tag : Tag) → slice_get p.tags k ≡ Some tag
      → Brings (At (Calm ((q, effect.Create place k props view ∷ es) ∷ pend))) (At (Calm ((q, es) ∷ pend))) (create q place k props view tag)

  create_keeps : (create : Creates) → CreatesKeep create → (pend : Pending) (q place k : ℕ) (props : List Given) (view : View) (es : List Effect) (o : Option Tag) → slice_get p.tags k ≡ o
      → Brings (At (Calm ((q, effect.Create place k props view ∷ es) ∷ pend))) (At (Calm ((q, es) ∷ pend))) (tag_task o (create q place k props view))
  create_keeps create keeps pend q place k props view es None is =
      record { held = λ m h. (course.passes.creates pend q place k props view es (kins m.world.states) m.showing m.counters.next (λ tag c there comp. none-some tag (sym is ∙ there)) h.0, h.1) }
  create_keeps create keeps pend q place k props view es (Some tag) is = keeps pend q place k props view es tag is

  effect_keeps : (create : Creates) → CreatesKeep create → (pend : Pending) (q : ℕ) (es : List Effect) (e : Effect) → IsBirth e → Brings (At (Calm ((q, e ∷ es) ∷ pend))) (At (Calm ((q, es) ∷ pend))) (effect_by p create q e)
  effect_keeps create keeps pend q es (effect.Create place k props view) b = record { held = λ m h. (create_keeps create keeps pend q place k props view es (slice_get p.tags k) refl).held m h }
  effect_keeps create keeps pend q es (effect.Set place props view) b = absurd b
  effect_keeps create keeps pend q es (effect.Destroy place) b = absurd b

  all_effects_keep : (create : Creates) → CreatesKeep create → (pend : Pending) (q : ℕ) → Runs pend q (effect_by p create q)
  all_effects_keep create keeps pend q [] b = record { held = λ m h. (course.passes.ends pend q (kins m.world.states) m.showing m.counters.next h.0, h.1) }
  all_effects_keep create keeps pend q (e ∷ es) b = brings_then (effect_keeps create keeps pend q es e b.0) (λ _. all_effects_keep create keeps pend q es b.1)

  creations_keep : (room : ℕ) → CreatesKeep (created_in room p)
  unfolding created_in
  creations_keep zero pend q place k props view es tag is = record { held = λ m h. tt }
  creations_keep (suc room) pend q place k props view es tag is =
      created_keeps pend q place k props view es tag is (λ n. effect_by p (created_in room p) n) (λ n. all_effects_keep (created_in room p) (creations_keep room) ((q, es) ∷ pend) n)

  effects_keep : (room : ℕ) (pend : Pending) (n : ℕ) → Runs pend n (effect_by p (created_in room p) n)
  effects_keep room pend n = all_effects_keep (created_in room p) (creations_keep room) pend n

  -- ---- the root

  root_started : (n : ℕ) → Brings (At (Fresh [] n)) (At (Calm [])) (started p (effects DEPTH_LIMIT p n) n [] None)
  root_started n =
      brings_then (brings_then (scripted_brings (Fresh [] n) (λ old. top_leaves (are_stay p old) n (are_sets old n) (passed []))) (λ _. brings_then (world_brings (Fresh [] n) (lent_if p n None) (λ w. refl)) (λ _. nothing_brings))) (λ _.
      rest_keeps [] n tt (effect_by p (created_in DEPTH_LIMIT p) n) (effects_keep DEPTH_LIMIT [] n))

  born_root : Births p root_site (At (Calm [])) (λ n. At (Fresh [] n))
  born_root c comp m fits h =
      let ks : Kins = kins m.world.states in
      subst (λ n. Fresh [] n (kins (born_at root_site c m.world).states) m.showing m.counters.next) (sym (next-same m.world))
      (subst (λ ks'. Fresh [] (length ks) ks' m.showing m.counters.next) (sym (kins-added m.world.states root_place (cell_count c) c.constants))
      ((course.makes.roots ks m.showing m.counters.next c comp h.0, all_born p ks root_place (cell_count c) m.showing m.showing h.0.0.parents h.0.0.shown (λ a n e other. e) (λ n. refl) h.1), unmade p ks m.showing h.0.0.shown))

  pub first_mounts : Brings (At (Calm [])) (At (Calm [])) (mounted p)
  unfolding mounted
  first_mounts =
      brings_then (scripted_brings (Calm []) (λ old. modules_leave (are_stay p old) (are_sets old 0) (λ ms ms' s h. h))) (λ _. made_then p root_site (At (Calm [])) (At (Calm [])) (λ n. At (Fresh [] n)) (λ m left h. h) (λ none m h. h) born_root root_started)
