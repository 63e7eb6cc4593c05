-- What is shown is right while instances are made, and when the root was made with all below it.
use Rattle.std.proofs.Common.{◌≡◌, ℕ, zero, suc, Bool, true, false, List, [], ◌∷◌, ◌++◌, length, Option, Some, None, option_map, refl, sym, subst, arith, slice_get, if◌then◌else◌, nat_le}
use Rattle.std.specs.BTreeMap.{is_at}
use Rattle.std.specs.Map.{lookup}
use Rattle.std.specs.Ordering.{nat_cmp}
use Rattle.std.proofs.lemmas.List.{map-append, length-map}
use Rattle.std.proofs.lemmas.Option.{none-some}
use Rattle.sv_code.proofs.Each.{each_mono}
use Rattle.sv_code.specs.Within.{ArePartsWithin}
use Rattle.sv_code.specs.declared.program.Component.{Component}
use Rattle.sv_code.specs.declared.program.Program.{Program}
use Rattle.sv_code.specs.declared.tags.Tag.{Tag}
use Rattle.sv_flush.proofs.Bringing.{Afterwards, Brings, brings_then, nothing_brings, changed_brings, all_bring}
use Rattle.sv_flush.proofs.Handing.{HandsView}
use Rattle.sv_flush.specs.Creation.{next, too_deep, snapshot, readied, after_waits, cell_count, Site, born_at, born_here, is_too_deep, made_of, made, mount_waits, started, passed, binds, placed, attached, site_of, grown, tag_task, effect_by, created_in, effects, root_site, mounted}
use Rattle.sv_flush.specs.Destruction.{child_task}
use Rattle.sv_flush.specs.Outcome.{Outcome, Done, Halted, Task, and_then, work_if, each}
use Rattle.sv_flush.specs.Page.{begun, blank}
use Rattle.sv_flush.specs.declared.page.Page.{Page}
use Rattle.sv_frame.proofs.Altering.{view_of}
use Rattle.sv_frame.proofs.Running.{modules_leave, top_leaves, reactive_leaves}
use Rattle.sv_frame.specs.Views.{lent_views}
use Rattle.sv_instance.specs.Instance.{born}
use Rattle.sv_instance.specs.declared.callbacks.When.TheVariants.{Before}
use Rattle.sv_instance.specs.declared.instance.Instance.{Instance}
use Rattle.sv_meaning.specs.Components.{component_at, component_of, markup_of}
use Rattle.sv_numbered.specs.Numbered.{at}
use Rattle.sv_parts.specs.declared.state.Effect.{Effect}
use Rattle.sv_parts.specs.declared.state.Effect.TheVariants as effect
use Rattle.sv_parts.specs.declared.state.Given.{Given}
use Rattle.sv_right.specs.Right.{AreRight}
use Rattle.sv_seen.proofs.Making.{Right, IsHidden, Hidden, lent_if_brings, Bring, shown_brings}
use Rattle.sv_seen.proofs.Plans.{Bears}
use Rattle.sv_seen.proofs.Showing.{OneRight, AllRight, all-born, none-shown}
use Rattle.sv_seen.proofs.Spots.{spots, place_of, tags_at, AreMade, tags-are, component-is}
use Rattle.sv_seen.proofs.Steps.{knows_sets, knows_stay, back_leaves, same-setup, same-snapshot, on-same, scripted_brings, world_brings}
use Rattle.sv_seen.specs.Seen.{IsShownRight, AreShownRight, FirstPageIsRight}
use Rattle.sv_shapes.specs.declared.shown.Shown.{Shown}
use Rattle.sv_states.specs.Change.{added, place_below}
use Rattle.sv_states.specs.States.{States}
use Rattle.sv_states.specs.declared.states.TheConstants.{DEPTH_LIMIT}
use Rattle.sv_view.specs.Level.{View}
use Rattle.sv_within.specs.Keys.{AreAllKeysSeen}

module _ (p : Program) where
  -- ---- an instance is made

  -- it isn't shown yet
  abbrev AfterMade : ℕ → Outcome (Option ℕ) → Type 0
  AfterMade from (Done None m) = Right p from m
  AfterMade from (Done (Some n) m) = Hidden p from n m
  AfterMade from (Halted r m) = Unit {0}

  module _ (from : ℕ) where
    added-hidden : (s : States) (shown : List (ℕ × Shown)) (i : Instance) → i.owner_view ≡ None → AllRight p from (spots s) (lent_views s) shown
        → IsHidden p from (length s.lives) (spots (added s i)) (lent_views (added s i)) shown
    added-hidden s shown i none h = (
      subst (λ known. AllRight p from known (lent_views (added s i)) shown) (sym (map-append (option_map place_of) s.lives (Some i ∷ [])))
          (subst (λ lent. AllRight p from (spots s ++ Some i.place ∷ []) lent shown) (sym (map-append (option_map view_of) s.lives (Some i ∷ [])))
          (subst (λ o. AllRight p from (spots s ++ Some i.place ∷ []) (lent_views s ++ Some o ∷ []) shown) (sym none) (all-born p (spots s) i.place from (lent_views s) shown h))),
      subst (λ n. lookup (is_at (nat_cmp n)) shown ≡ None) (length-map s.lives (option_map place_of)) (none-shown p from (spots s) (lent_views s) shown h),
    )

    born-right : (site : Site) (c : Component) (b : Bool) (m : Page) → Right p from m → AfterMade from (if b then too_deep site.span m else Done (Some (next m.world)) (record m { world = born_at site c m.world }))
    born-right site c true m h = tt
    born-right site c false m h = added-hidden m.world.states m.showing.shown (born (place_below m.world.states site.file site.parent site.standing) (cell_count c) c.constants) refl h

    work-made : (site : Site) (c : Component) (b : Bool) (m : Page) → Right p from m → AfterMade from (and_then (work_if b m) (λ _. born_here site c))
    work-made site c true m h = born-right site c (is_too_deep site m.world) _ h
    work-made site c false m h = tt

    made-right : (site : Site) (o : Option Component) (m : Page) → Right p from m → AfterMade from (made_of site o m)
    made-right site None m h = h
    made-right site (Some c) m h = work-made site c (nat_le 1 m.counters.work) m h

    -- what is done with one that is made
    made_then : (site : Site) {task : ℕ → Task} → ((n : ℕ) → Brings (Hidden p from n) (Right p from) (task n)) → Brings (Right p from) (Right p from) (λ m. and_then (made p site m) (child_task task))
    made_then site {task = task} k = record { held = λ m h. over (made p site m) (made-right site (component_at p site.file) m h) } where
      over : (o : Outcome (Option ℕ)) → AfterMade from o → Afterwards (Right p from) (and_then o (child_task task))
      over (Done None m) h = h
      over (Done (Some n) m) h = (k n).held m h
      over (Halted r m) h = tt

    readied_brings : (n : ℕ) → Brings (Hidden p from n) (Hidden p from n) (readied p n true)
    readied_brings n =
        brings_then (scripted_brings (IsHidden p from n) (λ known lent. reactive_leaves (knows_stay p known lent) n true)) (λ _.
        brings_then (scripted_brings (IsHidden p from n) (back_leaves p n Before)) (λ _.
        brings_then (world_brings (IsHidden p from n) (snapshot n) (same-snapshot n)) (λ _. nothing_brings)))

module _ (p : Program) (within : ArePartsWithin p) (keys : AreAllKeysSeen p) where
  -- its script runs, it is shown, and its callbacks wait
  started_brings : (run : List Effect → Task) (from n : ℕ) (props : List Given) (view : Option View) → HandsView (AreMade from) view → Bring p within keys run
      → Brings (Hidden p from n) (Right p from) (started p run n props view)
  started_brings run from n props view made k =
      brings_then (brings_then (scripted_brings (IsHidden p from n) (λ known lent. top_leaves (knows_stay p known lent) n (knows_sets known lent n) (passed props))) (λ _. brings_then (lent_if_brings p from n view made) (λ _. nothing_brings))) (λ _.
      brings_then (readied_brings p from n) (λ _.
      brings_then (shown_brings p within keys run from n k) (λ _.
      brings_then (changed_brings {Q = Right p from} {R = Right p from} (mount_waits n) (λ m h. h)) (λ _.
      brings_then (changed_brings {Q = Right p from} {R = Right p from} (after_waits n) (λ m h. h)) (λ _. nothing_brings)))))

  -- a child
  grown_brings : (run : ℕ → List Effect → Task) (from place : ℕ) (props : List Given) (view : View) (t : Tag) (n : ℕ) → AreMade from view → Bring p within keys (run n)
      → Brings (Hidden p from n) (Right p from) (grown p run place props view t n)
  grown_brings run from place props view t n made k =
      brings_then (changed_brings (placed place view n) (λ m h. on-same (IsHidden p from n) m.world.states (placed place view n m).world.states m.showing.shown (same-setup m.world.states (λ s. record s { locals = view.own.locals }) n) h)) (λ _.
      brings_then (started_brings (run n) from n props (Some view) made k) (λ _.
      brings_then (world_brings (AllRight p from) (attached n) (λ w. same-setup w.states (λ s. record s { attached = true }) n)) (λ _.
      brings_then (changed_brings {Q = Right p from} {R = Right p from} (binds p t n view.own.inst) (λ m h. h)) (λ _. nothing_brings))))

  -- ---- children

  tag_brings : (from : ℕ) {task : Tag → Task} (o : Option Tag) → ((t : Tag) → Brings (Right p from) (Right p from) (task t)) → Brings (Right p from) (Right p from) (tag_task o task)
  tag_brings from None k = nothing_brings
  tag_brings from (Some t) k = k t

  -- how a child is made
  abbrev Creates : Type 0
  Creates = (parent place k : ℕ) → List Given → View → Tag → Task

  abbrev CreatesBring : Creates → Type 0
  CreatesBring create = (from parent place k : ℕ) (props : List Given) (view : View) (t : Tag) → AreMade from view → Brings (Right p from) (Right p from) (create parent place k props view t)

  effect_brings : (create : Creates) (from n : ℕ) → CreatesBring create → (e : Effect) → Bears (AreMade from) e → Brings (Right p from) (Right p from) (effect_by p create n e)
  effect_brings create from n k (effect.Create place t props view) made = record { held = λ m h. (tag_brings from (slice_get p.tags t) (λ tag. k from n place t props view tag made)).held m h }
  effect_brings create from n k (effect.Set place props view) none = absurd none
  effect_brings create from n k (effect.Destroy place) none = absurd none

  all_effects_bring : (create : Creates) (n : ℕ) → CreatesBring create → Bring p within keys (λ es. each (effect_by p create n) es)
  all_effects_bring create n k from es made =
      all_bring (effect_by p create n) es (each_mono (Bears (AreMade from)) (λ e. Brings (Right p from) (Right p from) (effect_by p create n e)) (effect_brings create from n k) es made)

  creations_bring : (room : ℕ) → CreatesBring (created_in room p)
  unfolding created_in
  creations_bring zero from parent place k props view t made = record { held = λ m h. tt }
  creations_bring (suc room) from parent place k props view t made =
      made_then p from (site_of parent k view t) (λ n. grown_brings (λ n. each (effect_by p (created_in room p) n)) from place props view t n made (all_effects_bring (created_in room p) n (creations_bring room)))

  -- ---- the root

  mounted_brings : (from : ℕ) → Brings (Right p from) (Right p from) (mounted p)
  unfolding mounted
  mounted_brings from =
      brings_then (scripted_brings (AllRight p from) (λ known lent. modules_leave (knows_stay p known lent) (knows_sets known lent 0) (λ ms ms' s h. h))) (λ _.
      made_then p from root_site (λ n. started_brings (effects DEPTH_LIMIT p n) from n [] None tt (all_effects_bring (created_in DEPTH_LIMIT p) n (creations_bring DEPTH_LIMIT))))

-- ---- the first page

-- nobody was lent a view on a page that is blank
none-lent : (n : ℕ) (v : View) → at (None ∷ []) n ≡ Some (Some v) → ⊥
none-lent zero v e = none-some (Some v) e
none-lent (suc n) v e = none-some (Some v) e

module _ (p : Program) where
  -- and nothing is shown on it
  blank-right : Right p 0 (begun blank)
  blank-right = record { grown = omega arith; lends = λ v l. absurd (none-lent l.number v l.there); shows = λ n x e. absurd (none-some x e) }

  shown-right : (m : Page) (n : ℕ) (x : Shown) → OneRight p (spots m.world.states) n x → IsShownRight p m n x
  shown-right m n x h =
      subst (λ ts. AreRight p ts (markup_of (component_of p m.world n)) x.view x.parts) (tags-are m.world x.view)
      (subst (λ c. AreRight p (tags_at (spots m.world.states) x.view) (markup_of c) x.view x.parts) (component-is p m.world n) h.right)

  all-right : (m : Page) → Right p 0 m → AreShownRight p m
  all-right m h n x e = shown-right m n x (h.shows n x e)

pub first_page : FirstPageIsRight
first_page p m within keys e = all-right p m (subst (Afterwards (Right p 0)) e ((mounted_brings p within keys 0).held (begun blank) (blank-right p)))
