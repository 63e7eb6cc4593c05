-- What a flush does to a page keeps what lasts.
use Rattle.std.proofs.Common.{◌≡◌, ℕ, zero, suc, Bool, true, false, List, [], ◌∷◌, ◌++◌, Option, Some, None, option_map, Ok, Err, refl, sym, ap, ◌∙◌, slice_get, if◌then◌else◌, nat_le}
use Rattle.std.specs.Prelude.{reverse}
use Rattle.std.proofs.lemmas.Option.{same_Some}
use Rattle.sv_code.proofs.Each.{each_mono}
use Rattle.sv_code.specs.Names.{Each}
use Rattle.sv_code.specs.declared.program.Component.{Component}
use Rattle.sv_code.specs.declared.program.Program.{Program}
use Rattle.sv_code.specs.declared.tags.Tag.{Tag}
use Rattle.sv_flush.proofs.Bringing.{Afterwards, Brings, brings_then, nothing_brings, changed_brings, all_bring, each_brings, child_brings, settled_brings}
use Rattle.sv_flush.proofs.Handing.{HandsView, Hands, Handed, planned-hands}
use Rattle.sv_flush.proofs.Lasting.{Phase, Loading, Idle, Fresh, Busy, Snapped, MayRun, IsOf, About, Lasting}
use Rattle.sv_flush.proofs.Standing.{stands-front, of_pass, hands-mono}
use Rattle.sv_flush.specs.Callbacks.{callbacks_of, nowhere, called_back, all_called_back, returned, mounted_by, all_mounted, called_if, unless, after}
use Rattle.sv_flush.specs.Creation.{next, too_deep, snapshot, readied, after_waits, cell_count, Site, born_at, born_here, is_too_deep, made_of, made, mount_waits, started, passed, binds, placed, attached, site_of, grown, tag_task, child_set, effect_by, created_in, effects, root_site, mounted}
use Rattle.sv_flush.specs.Destruction.{gone, taken, child_task, destroyed_by, children_destroyed, destroyed}
use Rattle.sv_flush.specs.Flush.{updated, bound, all_bound, rendered_one, round, flush_ended, flushed}
use Rattle.sv_flush.specs.Outcome.{Outcome, Done, Halted, Task, and_then, in_world, ended, scripted, work, work_if, each}
use Rattle.sv_flush.specs.Rounds.{Binding, Waiting, mounting, after_update, has_run, with_ran, waiting_callbacks}
use Rattle.sv_flush.specs.Setting.{stays, prop_of, handed, prop_set, set, lent_to, lent_if}
use Rattle.sv_flush.specs.Showing.{tags_of, tag_shown, tag_kept, tags_kept, followed, patched_on, patched_now, shown}
use Rattle.sv_flush.specs.declared.page.Page.{Page}
use Rattle.sv_frame.proofs.Outcomes.{Fact, ending, MaySet, Stays, Leaves, Left, if_left, unless_left, then_leaves, ends_leaves}
use Rattle.sv_frame.proofs.Running.{reactive_leaves, called_leaves, in_turn_leaves}
use Rattle.sv_instance.specs.Callbacks.{with_callback}
use Rattle.sv_instance.specs.declared.callbacks.When.{When}
use Rattle.sv_instance.specs.declared.callbacks.When.TheVariants.{Mount, Before, After, Destroy, Returned}
use Rattle.sv_instance.specs.declared.instance.Instance.{Instance}
use Rattle.sv_meaning.specs.Components.{component_at, component_of, markup_of}
use Rattle.sv_meaning.specs.Outcome.{Ending, Ends, Fails, Deed, then_do}
use Rattle.sv_meaning.specs.Refused.{unless as refused}
use Rattle.sv_meaning.specs.Runs.{run_modules, run_top, settle}
use Rattle.sv_parts.specs.State.{Outcome as Planned}
use Rattle.sv_parts.specs.declared.state.Effect.{Effect}
use Rattle.sv_parts.specs.declared.state.Effect.TheVariants as effect
use Rattle.sv_parts.specs.declared.state.Given.{Given}
use Rattle.sv_parts.specs.declared.state.Kept.{Kept}
use Rattle.sv_plan.specs.Patch.{begun, ended as patch_ended, patched}
use Rattle.sv_shapes.specs.Showing.{Showing, recorded as shown_on, shown_of, child_at}
use Rattle.sv_shapes.specs.declared.shape.Shape.{Shape}
use Rattle.sv_shapes.specs.declared.shown.Shown.{Shown}
use Rattle.sv_states.specs.Assignment.{bound_up}
use Rattle.sv_states.specs.Change.{place_below}
use Rattle.sv_states.specs.Refusal.{hand_refusal, bind_refusal}
use Rattle.sv_states.specs.States.{live}
use Rattle.sv_states.specs.declared.error.AssignError.{AssignError}
use Rattle.sv_states.specs.declared.error.AssignError.TheVariants.{ReadOnly, NotAStore, NoMemory}
use Rattle.sv_states.specs.declared.states.TheConstants.{DEPTH_LIMIT}
use Rattle.sv_value.specs.Value.{Val, undefined, null, boolean, number, text, list, object, function, store}
use Rattle.sv_view.specs.Level.{Level, View}
use Rattle.sv_view.specs.View.{levels}
use Rattle.sv_world.specs.World.{present_view}
use Rattle.sv_world.specs.declared.world.World.{World}

module _ {p : Program} {P : Fact} (stay : Stays p P) where
  pub back_leaves : (v : Val) → Leaves P (called_back p v)
  back_leaves v = then_leaves (called_leaves stay v [] nowhere) (λ u. ends_leaves tt)

  pub all_back_leave : (n : ℕ) (when : When) → Leaves P (all_called_back p n when)
  all_back_leave n when = record { held = λ w h. (in_turn_leaves stay (called_back p) (callbacks_of w n when) back_leaves).held w h }

  pub returned_leaves : (n : ℕ) (v : Val) → Leaves P (returned n v)
  returned_leaves n (function c o held) = record { held = λ w h. stay.left w.modules w.states (λ s. record s { callbacks = with_callback Returned (function c o held) s.callbacks }) n (λ u. refl) h }
  returned_leaves n undefined = ends_leaves tt
  returned_leaves n null = ends_leaves tt
  returned_leaves n (boolean b) = ends_leaves tt
  returned_leaves n (number x) = ends_leaves tt
  returned_leaves n (text t) = ends_leaves tt
  returned_leaves n (list vs) = ends_leaves tt
  returned_leaves n (object fs) = ends_leaves tt
  returned_leaves n (store id) = ends_leaves tt

  pub all_mounted_leave : (n : ℕ) → Leaves P (all_mounted p n)
  all_mounted_leave n =
      record { held = λ w h. (in_turn_leaves stay (mounted_by p n) (callbacks_of w n Mount) (λ v. then_leaves (called_leaves stay v [] nowhere) (returned_leaves n))).held w h }

  pub called_if_leaves : (o : Option Val) → Leaves P (called_if p o)
  called_if_leaves None = ends_leaves tt
  called_if_leaves (Some v) = back_leaves v

  pub unless_leaves : (b : Bool) {deed : Deed (Unit {0})} → Leaves P deed → Leaves P (unless b deed)
  unless_leaves true k = ends_leaves tt
  unless_leaves false k = k

abbrev now_bound : Binding → Deed (Unit {0})
now_bound b w = Ends tt (record w { states = bound_up w.states b.child b.bound })

only : {Q R : Page → Type 0} {t : Task} → Brings Q (λ u. Q u × R u) t → Brings Q Q t
only {Q = Q} {R = R} {t = t} k = record { held = λ m h. weaker (t m) (k.held m h) } where
  weaker : (o : Outcome (Unit {0})) → Afterwards (λ u. Q u × R u) o → Afterwards Q o
  weaker (Done a m) h = h.0
  weaker (Halted r m) h = tt

-- the root is made behind module files, with all below it
abbrev pub rooted : Program → Task
rooted p m = and_then (made p root_site m) (child_task (λ n. started p (effects DEPTH_LIMIT p n) n [] None))

-- so it is on a page
abbrev pub On : About → Phase → List Level → Page → Type 0
On P phase due m = P phase due m.showing.shown m.world.modules m.world.states

module _ {p : Program} {P : About} (lasts : Lasting p P) where
  ended_on : (phase : Phase) (due : List Level) (m : Page) (e : Ending (Unit {0})) → Left (ending (P phase due m.showing.shown)) e → Afterwards (On P phase due) (ended m e)
  ended_on phase due m (Ends a w) h = h
  ended_on phase due m (Fails k s w) h = tt

  -- scripts after which something else goes on
  pub leads_on : (phase later : Phase) (due : List Level) (deed : Deed (Unit {0}))
      → ((shown : List (ℕ × Shown)) (w : World) → P phase due shown w.modules w.states → Left (ending (P later due shown)) (deed w)) → Brings (On P phase due) (On P later due) (scripted deed)
  leads_on phase later due deed k = record { held = λ m h. ended_on later due m (deed m.world) (k m.showing.shown m.world h) }

  module _ {phase : Phase} {due : List Level} where
    pub world_brings : (f : World → World) → ((shown : List (ℕ × Shown)) (w : World) → P phase due shown w.modules w.states → P phase due shown (f w).modules (f w).states) → Brings (On P phase due) (On P phase due) (in_world f)
    world_brings f k = record { held = λ m h. k m.showing.shown m.world h }

    pub scripted_brings : {deed : Deed (Unit {0})} → ((shown : List (ℕ × Shown)) → Leaves (ending (P phase due shown)) deed) → Brings (On P phase due) (On P phase due) (scripted deed)
    scripted_brings {deed = deed} k = leads_on phase phase due deed (λ shown. (k shown).held)

  module _ (phase : Phase) (may : MayRun phase) {due : List Level} where
    -- ---- callbacks

    pub after_brings : (n at : ℕ) → Brings (On P phase due) (On P phase due) (after p n at)
    after_brings n at = record {
      held = λ m h. (scripted_brings {deed = unless (has_run m.rounds n at) (λ w. called_if p (slice_get (callbacks_of w n After) at) w)}
          (λ shown. unless_leaves (lasts.scripts phase may due shown) (has_run m.rounds n at) (record { held = λ w k. (called_if_leaves (lasts.scripts phase may due shown) (slice_get (callbacks_of w n After) at)).held w k }))).held
          (record m { rounds = with_ran m.rounds n at }) h;
    }

    -- ---- what is handed down

    handed_leaves : (shown : List (ℕ × Shown)) (n : ℕ) (g : Given) → Leaves (ending (P phase due shown)) (handed n g)
    handed_leaves shown n g =
        record { held = λ w h. unless_left (ending (P phase due shown)) (hand_refusal w.states (prop_of n g) g.value) g.span _ w h (lasts.hands phase may due shown w.modules w.states (prop_of n g) g.value h) }

    prop_leaves : (shown : List (ℕ × Shown)) (n : ℕ) (g : Given) → Leaves (ending (P phase due shown)) (prop_set n g)
    prop_leaves shown n g = record { held = λ w h. if_left (ending (P phase due shown)) (stays w n g) (Ends tt w) (handed n g w) h ((handed_leaves shown n g).held w h) }

    pub set_leaves : (shown : List (ℕ × Shown)) (n : ℕ) (props : List Given) → Leaves (ending (P phase due shown)) (set n props)
    set_leaves shown n props = in_turn_leaves (lasts.scripts phase may due shown) (prop_set n) props (prop_leaves shown n)

    to_lasts : (shown : List (ℕ × Shown)) (c : Component) (cell : Option ℕ) (n : ℕ) (view : View) (w : World) → component_of p w n ≡ Some (record c { view = cell }) → IsOf due view → P phase due shown w.modules w.states
        → let u : World = lent_to (Some (record c { view = cell })) n view w in P phase due shown u.modules u.states
    to_lasts shown c None n view w is d h = h
    to_lasts shown c (Some cell) n view w is d h =
        lasts.lends phase may due shown w.modules w.states n cell view (λ k e. ap (λ (k : Component). k.view) (same_Some k (record c { view = Some cell }) (sym e ∙ is))) d h

    lent_lasts : (shown : List (ℕ × Shown)) (c : Option Component) (n : ℕ) (view : View) (w : World) → component_of p w n ≡ c → IsOf due view → P phase due shown w.modules w.states
        → P phase due shown (lent_to c n view w).modules (lent_to c n view w).states
    lent_lasts shown None n view w is d h = h
    lent_lasts shown (Some c) n view w is d h = to_lasts shown c c.view n view w is d h

    pub lent_if_lasts : (shown : List (ℕ × Shown)) (n : ℕ) (o : Option View) (w : World) → HandsView (IsOf due) o → P phase due shown w.modules w.states → P phase due shown (lent_if p n o w).modules (lent_if p n o w).states
    lent_if_lasts shown n None w d h = h
    lent_if_lasts shown n (Some view) w d h = lent_lasts shown (component_of p w n) n view w refl d h

  module _ {due : List Level} where
    -- ---- snapshots and patches

    pub snapshot_taken : (n : ℕ) → Brings (On P (Busy n) due) (On P (Snapped n) due) (in_world (snapshot n))
    snapshot_taken n = record { held = λ m h. lasts.snaps n due m.showing.shown m.world.modules m.world.states h }

    tag_lasts : (shown : List (ℕ × Shown)) (k : Kept) (o : Option ℕ) (w : World) → P Idle due shown w.modules w.states → P Idle due shown (tag_shown o k w).modules (tag_shown o k w).states
    tag_lasts shown k None w h = h
    tag_lasts shown k (Some n) w h = (lasts.scripts Idle tt due shown).left w.modules w.states (λ u. record u { locals = k.locals }) n (λ u. refl) h

    pub all_tags_last : (shown : List (ℕ × Shown)) (s : Showing) (kept : List Kept) (w : World) → P Idle due shown w.modules w.states → P Idle due shown (tags_kept s kept w).modules (tags_kept s kept w).states
    all_tags_last shown s [] w h = h
    all_tags_last shown s (k ∷ kept) w h = all_tags_last shown s kept (tag_kept s k w) (tag_lasts shown k (child_at s k.place) w h)

    pub readied_brings : (n : ℕ) (all : Bool) → Brings (On P (Busy n) due) (On P (Snapped n) due) (readied p n all)
    readied_brings n all =
        brings_then (scripted_brings (λ shown. reactive_leaves (lasts.scripts (Busy n) tt due shown) n all)) (λ _.
        brings_then (scripted_brings (λ shown. all_back_leave (lasts.scripts (Busy n) tt due shown) n Before)) (λ _. brings_then (snapshot_taken n) (λ _. nothing_brings)))

  -- what a patch leaves, and the views that its effects hand down
  abbrev Patched : List Level → Outcome (List Effect) → Type 0
  Patched due (Done es m) = (more : List Level) × (On P Idle (more ++ due) m × Each (Hands (IsOf (more ++ due))) es)
  Patched due (Halted r m) = Unit {0}

  patch_fits : (due : List Level) (m : Page) (n : ℕ) (i : Instance) (o : Planned (List Shape)) → live m.world.states n ≡ Some i → Handed (IsOf (levels (present_view m.world.modules n i))) o → On P (Snapped n) due m
      → Patched due (followed m (patch_ended m.showing n (present_view m.world.modules n i) o))
  patch_fits due m n i (Err r) there d h = tt
  patch_fits due m n i (Ok x) there d h =
      let v : View = present_view m.world.modules n i in (
        levels v,
        (
          all_tags_last {due = levels v ++ due} (shown_on m.showing n v x.0).shown (shown_on m.showing n v x.0) x.1.kept m.world (lasts.shows n due m.showing.shown m.world.modules m.world.states i x.0 there h),
          each_mono (Hands (IsOf (levels v))) (Hands (IsOf (levels v ++ due))) (hands-mono (IsOf (levels v)) (IsOf (levels v ++ due)) (λ u w k cells s. stands-front (levels v) due k cells (w k cells s))) x.1.effects d,
        ),
      )

  patched_over : (due : List Level) (n : ℕ) (m : Page) (o : Option Instance) → live m.world.states n ≡ o → On P (Snapped n) due m → Patched due (patched_on p n (option_map (present_view m.world.modules n) o) m)
  unfolding patched
  patched_over due n m None e h = ([], (lasts.passes n due m.showing.shown m.world.modules m.world.states e h, tt))
  patched_over due n m (Some i) e h =
      let v : View = present_view m.world.modules n i in
      patch_fits due m n i _ e
      ((planned-hands (IsOf (levels v)) (of_pass (levels v)) p (tags_of m.world v) (markup_of (component_of p m.world n)) (shown_of m.showing n) v (λ k cells s. s)).held (begun m.counters m.tally) tt) h

  patched_fits : (due : List Level) (n : ℕ) (m : Page) → On P (Snapped n) due m → Patched due (patched_now p n m)
  unfolding patched_now
  patched_fits due n m h = patched_over due n m (live m.world.states n) refl h

  -- the effects of a patch, by how its children's run
  abbrev Bring : (List Effect → Task) → Type 0
  Bring run = (due : List Level) (es : List Effect) → Each (Hands (IsOf due)) es → Brings (On P Idle due) (On P Idle due) (run es)

  spent : (more due : List Level) (o : Outcome (Unit {0})) → Afterwards (On P Idle (more ++ due)) o → Afterwards (On P Idle due) o
  spent more due (Done a m) h = lasts.spends more due m.showing.shown m.world.modules m.world.states h
  spent more due (Halted r m) h = tt

  run_after : (run : List Effect → Task) (due : List Level) (o : Outcome (List Effect)) → Bring run → Patched due o → Afterwards (On P Idle due) (and_then o run)
  run_after run due (Done es m) k h = spent h.0 due (run es m) ((k (h.0 ++ due) es h.1.1).held m h.1.0)
  run_after run due (Halted r m) k h = tt

  -- an instance is shown, and the effects run
  shown_brings : {due : List Level} {run : List Effect → Task} (n : ℕ) → Bring run → Brings (On P (Snapped n) due) (On P Idle due) (shown p run n)
  shown_brings {due = due} {run = run} n k = record { held = λ m h. run_after run due (patched_now p n m) k (patched_fits due n m h) }

  -- the one that was made just now, if one was, is to run its script
  abbrev AfterMade : List Level → Outcome (Option ℕ) → Type 0
  AfterMade due (Done None m) = On P Idle due m
  AfterMade due (Done (Some n) m) = On P (Fresh n) due m
  AfterMade due (Halted r m) = Unit {0}

  module _ {due : List Level} where
    -- ---- instances that go

    gone_lasts : (n : ℕ) (m : Page) → On P Idle due m → On P Idle due (gone n m)
    gone_lasts n m h = lasts.drops due m.showing.shown m.world.modules m.world.states n h

    pub taken_brings : {task : ℕ → Task} (place : ℕ) → ((n : ℕ) → Brings (On P Idle due) (On P Idle due) (task n)) → Brings (On P Idle due) (On P Idle due) (taken task place)
    taken_brings place k = record { held = λ m h. (child_brings (child_at m.showing place) k).held _ h }

    destroyed_brings : {children : Task} (n : ℕ) → Brings (On P Idle due) (On P Idle due) children → Brings (On P Idle due) (On P Idle due) (destroyed_by children p n)
    destroyed_brings n k =
        brings_then (record { held = λ m h. (each_brings (waiting_callbacks m.rounds n) (after_brings Idle tt n)).held m h }) (λ _.
        brings_then (scripted_brings (λ shown. all_back_leave (lasts.scripts Idle tt due shown) n Destroy)) (λ _.
        brings_then (scripted_brings (λ shown. all_back_leave (lasts.scripts Idle tt due shown) n Returned)) (λ _.
        brings_then k (λ _. brings_then (changed_brings (gone n) (gone_lasts n)) (λ _. nothing_brings)))))

    children_bring : (room : ℕ) (n : ℕ) → Brings (On P Idle due) (On P Idle due) (children_destroyed room p n)
    unfolding children_destroyed
    children_bring zero n = nothing_brings
    children_bring (suc room) n = record { held = λ m h. (each_brings _ (λ place. taken_brings place (λ c. destroyed_brings c (children_bring room c)))).held m h }

    pub gone_brings : (room : ℕ) (n : ℕ) → Brings (On P Idle due) (On P Idle due) (destroyed room p n)
    gone_brings room n = destroyed_brings n (children_bring room n)

    -- ---- instances that are made

    work_lasts : (b : Bool) (m : Page) → On P Idle due m → Afterwards (On P Idle due) (work_if b m)
    work_lasts true m h = h
    work_lasts false m h = tt

    pub work_brings : Brings (On P Idle due) (On P Idle due) work
    work_brings = record { held = λ m h. work_lasts (nat_le 1 m.counters.work) m h }

    born_lasts : (site : Site) (c : Component) → component_at p site.file ≡ Some c → (b : Bool) (m : Page) → On P Idle due m
        → AfterMade due (if b then too_deep site.span m else Done (Some (next m.world)) (record m { world = born_at site c m.world }))
    born_lasts site c is true m h = tt
    born_lasts site c is false m h = lasts.makes due m.showing.shown m.world.modules m.world.states (place_below m.world.states site.file site.parent site.standing) c is h

    work_made : (site : Site) (c : Component) → component_at p site.file ≡ Some c → (b : Bool) (m : Page) → On P Idle due m → AfterMade due (and_then (work_if b m) (λ _. born_here site c))
    work_made site c is true m h = born_lasts site c is (is_too_deep site m.world) _ h
    work_made site c is false m h = tt

    made_of_lasts : (site : Site) (o : Option Component) → component_at p site.file ≡ o → (m : Page) → On P Idle due m → AfterMade due (made_of site o m)
    made_of_lasts site None is m h = h
    made_of_lasts site (Some c) is m h = work_made site c is (nat_le 1 m.counters.work) m h

    -- what is done with one that is made
    made_then : (site : Site) {task : ℕ → Task} → ((n : ℕ) → Brings (On P (Fresh n) due) (On P Idle due) (task n)) → Brings (On P Idle due) (On P Idle due) (λ m. and_then (made p site m) (child_task task))
    made_then site {task = task} k = record { held = λ m h. over (made p site m) (made_of_lasts site (component_at p site.file) refl m h) } where
      over : (o : Outcome (Option ℕ)) → AfterMade due o → Afterwards (On P Idle due) (and_then o (child_task task))
      over (Done None m) h = h
      over (Done (Some n) m) h = (k n).held m h
      over (Halted r m) h = tt

    -- its callbacks wait, and so on
    started_brings : {run : List Effect → Task} (n : ℕ) (props : List Given) (view : Option View) → HandsView (IsOf due) view → Bring run → Brings (On P (Fresh n) due) (On P Idle due) (started p run n props view)
    started_brings n props view d k =
        brings_then (brings_then (leads_on (Fresh n) (Busy n) due (run_top p n (passed props)) (λ shown w h. lasts.opens n due shown (passed props) w h)) (λ _.
        brings_then (world_brings (lent_if p n view) (λ shown w h. lent_if_lasts (Busy n) tt shown n view w d h)) (λ _. nothing_brings))) (λ _.
        brings_then (readied_brings n true) (λ _.
        brings_then (shown_brings n k) (λ _.
        brings_then (changed_brings {Q = On P Idle due} {R = On P Idle due} (mount_waits n) (λ m h. h)) (λ _.
        brings_then (changed_brings {Q = On P Idle due} {R = On P Idle due} (after_waits n) (λ m h. h)) (λ _. nothing_brings)))))

    grown_brings : (run : ℕ → List Effect → Task) (place : ℕ) (props : List Given) (view : View) (t : Tag) (n : ℕ) → IsOf due view → Bring (run n) → Brings (On P (Fresh n) due) (On P Idle due) (grown p run place props view t n)
    grown_brings run place props view t n d k =
        brings_then (changed_brings (placed place view n) (λ m h. (lasts.scripts (Fresh n) tt due m.showing.shown).left m.world.modules m.world.states (λ s. record s { locals = view.own.locals }) n (λ u. refl) h)) (λ _.
        brings_then (started_brings n props (Some view) d k) (λ _.
        brings_then (world_brings (attached n) (λ shown w h. (lasts.scripts Idle tt due shown).left w.modules w.states (λ s. record s { attached = true }) n (λ u. refl) h)) (λ _.
        brings_then (changed_brings {Q = On P Idle due} {R = On P Idle due} (binds p t n view.own.inst) (λ m h. h)) (λ _. nothing_brings))))

    tag_brings : {task : Tag → Task} (o : Option Tag) → ((t : Tag) → Brings (On P Idle due) (On P Idle due) (task t)) → Brings (On P Idle due) (On P Idle due) (tag_task o task)
    tag_brings None k = nothing_brings
    tag_brings (Some t) k = k t

    set_brings : (props : List Given) (view : Option View) (n : ℕ) → HandsView (IsOf due) view → Brings (On P Idle due) (On P Idle due) (child_set p props view n)
    set_brings props view n d =
        brings_then (scripted_brings (λ shown. set_leaves Idle tt shown n props)) (λ _. brings_then (world_brings (lent_if p n view) (λ shown w h. lent_if_lasts Idle tt shown n view w d h)) (λ _. nothing_brings))

  abbrev Creates : Type 0
  Creates = (parent place k : ℕ) → List Given → View → Tag → Task

  abbrev CreatesBring : Creates → Type 0
  CreatesBring create = (due : List Level) (parent place k : ℕ) (props : List Given) (view : View) (t : Tag) → IsOf due view → Brings (On P Idle due) (On P Idle due) (create parent place k props view t)

  effect_brings : (create : Creates) (due : List Level) (n : ℕ) → CreatesBring create → (e : Effect) → Hands (IsOf due) e → Brings (On P Idle due) (On P Idle due) (effect_by p create n e)
  effect_brings create due n k (effect.Create place t props view) d = tag_brings (slice_get p.tags t) (λ tag. k due n place t props view tag d)
  effect_brings create due n k (effect.Set place props view) d = record { held = λ m h. (child_brings (child_at m.showing place) (λ c. set_brings props view c d)).held m h }
  effect_brings create due n k (effect.Destroy place) d = taken_brings place (gone_brings DEPTH_LIMIT)

  all_effects_bring : (create : Creates) (n : ℕ) → CreatesBring create → Bring (λ es. each (effect_by p create n) es)
  all_effects_bring create n k due es d = all_bring (effect_by p create n) es (each_mono (Hands (IsOf due)) (λ e. Brings (On P Idle due) (On P Idle due) (effect_by p create n e)) (effect_brings create due n k) es d)

  creations_bring : (room : ℕ) → CreatesBring (created_in room p)
  unfolding created_in
  creations_bring zero due parent place k props view t d = record { held = λ m h. tt }
  creations_bring (suc room) due parent place k props view t d =
      made_then (site_of parent k view t) (λ n. grown_brings (λ n. each (effect_by p (created_in room p) n)) place props view t n d (all_effects_bring (created_in room p) n (creations_bring room)))

  effects_bring : (room n : ℕ) → Bring (effects room p n)
  effects_bring room n = all_effects_bring (created_in room p) n (creations_bring room)

  module _ (due : List Level) where
    pub rooted_brings : Brings (On P Idle due) (On P Idle due) (rooted p)
    rooted_brings = made_then root_site (λ n. started_brings n [] None tt (effects_bring DEPTH_LIMIT n))

    pub mounted_brings : Brings (On P Loading due) (On P Idle due) (mounted p)
    unfolding mounted
    mounted_brings = brings_then (leads_on Loading Idle due (run_modules p) (λ shown w h. lasts.loads due shown w h)) (λ _. rooted_brings)

    -- ---- rounds

    weakened : (n : ℕ) {R : Page → Type 0} {t : Task} → Brings (On P (Busy n) due) R t → Brings (On P Idle due) R t
    weakened n k = record { held = λ m h. k.held m (lasts.begins n due m.showing.shown m.world.modules m.world.states h) }

    updated_brings : (n : ℕ) → Brings (On P Idle due) (On P Idle due) (updated p n)
    unfolding updated
    updated_brings n =
        brings_then work_brings (λ _. brings_then (weakened n (readied_brings n false)) (λ _. brings_then (shown_brings n (effects_bring DEPTH_LIMIT n)) (λ _.
        brings_then (changed_brings {Q = On P Idle due} {R = On P Idle due} (after_waits n) (λ m h. h)) (λ _. nothing_brings))))

    pub bound_leaves : (shown : List (ℕ × Shown)) (b : Binding) → Leaves (ending (P Idle due shown)) (bound p b)
    bound_leaves shown b = record { held = λ w h. by w (bind_refusal w.states b.child b.bound) h (λ may. lasts.binds due shown w b.child b.bound may h) } where
      by : (w : World) (o : Option AssignError) → P Idle due shown w.modules w.states → (MaySet o → Left (ending (P Idle due shown)) (settle p (record w { states = bound_up w.states b.child b.bound })))
          → Left (ending (P Idle due shown)) (then_do (refused o b.span (now_bound b) w) (λ u. settle p))
      by w None h k = k (λ e. absurd (let q = e in cc))
      by w (Some ReadOnly) h k = tt
      by w (Some NotAStore) h k = tt
      by w (Some NoMemory) h k = k (λ e. absurd (let q = e in cc))

    pub all_bound_brings : Brings (On P Idle due) (On P Idle due) (all_bound p)
    all_bound_brings = record {
      held = λ m h. (scripted_brings (λ shown. in_turn_leaves (lasts.scripts Idle tt due shown) (bound p) (reverse m.rounds.bindings) (bound_leaves shown))).held (record m { rounds = record m.rounds { bindings = [] } }) h;
    }

    pub rendered_brings : (one : Waiting) → Brings (On P Idle due) (On P Idle due) (rendered_one p one)
    rendered_brings (mounting n) = scripted_brings (λ shown. all_mounted_leave (lasts.scripts Idle tt due shown) n)
    rendered_brings (after_update n at) = after_brings Idle tt n at

    round_brings : Brings (On P Idle due) (On P Idle due) (round p)
    unfolding round
    round_brings =
        brings_then (only (settled_brings updated_brings)) (λ _. brings_then all_bound_brings (λ _.
        brings_then (record { held = λ m h. (each_brings m.rounds.render rendered_brings).held (record m { rounds = record m.rounds { render = [] } }) h }) (λ _. nothing_brings)))

    pub flushed_brings : Brings (On P Idle due) (On P Idle due) (flushed p)
    unfolding flushed
    flushed_brings =
        brings_then round_brings (λ _. brings_then (only (settled_brings (λ n. round_brings))) (λ _. brings_then (changed_brings {Q = On P Idle due} {R = On P Idle due} flush_ended (λ m h. h)) (λ _. nothing_brings)))
