-- Instances that are made, for any fact of the live instances, of what is shown and of the next number.
use Rattle.std.proofs.Common.{◌≡◌, ℕ, ◌<◌, Bool, true, false, [], length, Option, Some, None, refl, sym, ap, subst, ◌∙◌, slice_get, if◌then◌else◌, nat_le}
use Rattle.std.specs.Prelude.{◌-◌}
use Rattle.std.proofs.lemmas.Bool.{leb-false}
use Rattle.std.proofs.lemmas.List.{get_or_push}
use Rattle.std.proofs.lemmas.Option.{none-some, same_Some}
use Rattle.sv_code.specs.declared.program.Component.{Component}
use Rattle.sv_code.specs.declared.program.Program.{Program}
use Rattle.sv_code.specs.declared.tags.Tag.{Tag}
use Rattle.sv_family.proofs.Course.{Fact, MakesNone, born_kin, child_place, with_born}
use Rattle.sv_family.proofs.Pictures.{depth-same, next-same, kins-added, place-same, IsUnseen, unseen-added}
use Rattle.sv_family.proofs.Scripts.{About, At, are_stay, scripted_brings, world_brings, same_at, kins-setup, kins-snapshot}
use Rattle.sv_family.specs.Family.{HasHold}
use Rattle.sv_family.specs.Kin.{Kin, Kins, kins, depth_at}
use Rattle.sv_family.specs.Pending.{Pending, AreBefore}
use Rattle.sv_flush.proofs.Bringing.{Afterwards, Brings, brings_then, nothing_brings}
use Rattle.sv_flush.proofs.Playing.{all_back_leave}
use Rattle.sv_flush.specs.Creation.{next, too_deep, snapshot, readied, cell_count, Site, born_at, born_here, is_too_deep, made_of, made, placed, site_of}
use Rattle.sv_flush.specs.Destruction.{child_task}
use Rattle.sv_flush.specs.Outcome.{Outcome, Done, Halted, Task, and_then, work_if}
use Rattle.sv_flush.specs.declared.page.Page.{Page}
use Rattle.sv_frame.proofs.Running.{reactive_leaves}
use Rattle.sv_instance.specs.declared.callbacks.When.TheVariants.{Before}
use Rattle.sv_instance.specs.Standing.{Place}
use Rattle.sv_meaning.specs.Components.{component_at}
use Rattle.sv_numbered.specs.Numbered.{at}
use Rattle.sv_places.proofs.Lookups.{found-put}
use Rattle.sv_shapes.specs.Showing.{Showing, child_at, with_child}
use Rattle.sv_states.specs.Change.{place_below}
use Rattle.sv_states.specs.States.{live, depth_of}
use Rattle.sv_states.specs.declared.states.TheConstants.{DEPTH_LIMIT}
use Rattle.sv_view.specs.Level.{View}
use Rattle.sv_world.specs.Setup.{set_up}
use Rattle.sv_world.specs.declared.world.World.{World}

module _ (p : Program) where
  -- ---- what runs before an instance is shown

  pub readied_keeps : (F : About) (n : ℕ) (all : Bool) → Brings (At F) (At F) (readied p n all)
  readied_keeps F n all =
      brings_then (scripted_brings F (λ old. reactive_leaves (are_stay p old) n all)) (λ _.
      brings_then (scripted_brings F (λ old. all_back_leave (are_stay p old) n Before)) (λ _.
      brings_then (world_brings F (snapshot n) (λ w. kins-snapshot n w)) (λ _. nothing_brings)))

  -- ---- instances that are made

  -- so it is behind the making of an instance, if one was made
  abbrev AfterMade : (Page → Type 0) → (ℕ → Page → Type 0) → Outcome (Option ℕ) → Type 0
  AfterMade R G (Done None m) = R m
  AfterMade R G (Done (Some n) m) = G n m
  AfterMade R G (Halted r m) = Unit {0}

  -- what is so of one that is made
  abbrev pub Births : Site → (Page → Type 0) → (ℕ → Page → Type 0) → Type 0
  Births site F G = (c : Component) → component_at p site.file ≡ Some c → (m : Page) → is_too_deep site m.world ≡ false → F m → G (next m.world) (record m { world = born_at site c m.world })

  -- the fact before doesn't count how much work is left
  module _ (site : Site) (F R : Page → Type 0) (G : ℕ → Page → Type 0) (works : (m : Page) (left : ℕ) → F m → F (record m { counters = record m.counters { work = left } }))
      (none : component_at p site.file ≡ None → (m : Page) → F m → R m) (some : Births site F G) where
    born_after : (c : Component) → component_at p site.file ≡ Some c → (b : Bool) (m : Page) → is_too_deep site m.world ≡ b → F m
        → AfterMade R G (if b then too_deep site.span m else Done (Some (next m.world)) (record m { world = born_at site c m.world }))
    born_after c is true m e h = tt
    born_after c is false m e h = some c is m e h

    work_after : (c : Component) → component_at p site.file ≡ Some c → (b : Bool) (m : Page) → F m → AfterMade R G (and_then (work_if b m) (λ _. born_here site c))
    work_after c is true m h = born_after c is (is_too_deep site m.world) (record m { counters = record m.counters { work = m.counters.work - 1 } }) refl (works m (m.counters.work - 1) h)
    work_after c is false m h = tt

    made_after : (o : Option Component) → component_at p site.file ≡ o → (m : Page) → F m → AfterMade R G (made_of site o m)
    made_after None is m h = none is m h
    made_after (Some c) is m h = work_after c is (nat_le 1 m.counters.work) m h

    -- something is done with one that is made
    pub made_then : {task : ℕ → Task} → ((n : ℕ) → Brings (G n) R (task n)) → Brings F R (λ m. and_then (made p site m) (child_task task))
    made_then {task = task} k = record { held = λ m h. over (made p site m) (made_after (component_at p site.file) refl m h) } where
      over : (o : Outcome (Option ℕ)) → AfterMade R G o → Afterwards R (and_then o (child_task task))
      over (Done None m) h = h
      over (Done (Some n) m) h = (k n).held m h
      over (Halted r m) h = tt

  -- ---- children that are made

  module _ (q k : ℕ) (view : View) (tag : Tag) where
    kins-child : (c : Component) (w : World) → kins (born_at (site_of q k view tag) c w).states ≡ with_born (kins w.states) (child_place (kins w.states) tag q k view) (cell_count c)
    kins-child c w =
        kins-added w.states (place_below w.states tag.file (Some q) (Some (record { tag = k; owner = view.own.inst }))) (cell_count c) c.constants
        ∙ ap (λ place. with_born (kins w.states) place (cell_count c)) (place-same w.states tag q k view)

    -- what becomes of one that is made, by its number
    pub child_held : (F : About) (B : ℕ → About) (c : Component) → ((ks : Kins) (s : Showing) (next : ℕ) → depth_at ks q < DEPTH_LIMIT → F ks s next → B (length ks) (with_born ks (child_place ks tag q k view) (cell_count c)) s next)
        → (m : Page) → is_too_deep (site_of q k view tag) m.world ≡ false → At F m → At (B (next m.world)) (record m { world = born_at (site_of q k view tag) c m.world })
    child_held F B c born m fits h =
        let shallow : depth_at (kins m.world.states) q < DEPTH_LIMIT = subst (λ d. d < DEPTH_LIMIT) (sym (depth-same m.world.states q)) (leb-false DEPTH_LIMIT (depth_of (live m.world.states q)) fits) in
        subst (λ n. B n (kins (born_at (site_of q k view tag) c m.world).states) m.showing m.counters.next) (sym (next-same m.world))
        (subst (λ ks. B (length (kins m.world.states)) ks m.showing m.counters.next) (sym (kins-child c m.world)) (born (kins m.world.states) m.showing m.counters.next shallow h))

    pub unseen_child : (c : Component) (m : Page) → IsUnseen (next m.world) (born_at (site_of q k view tag) c m.world).states
    unseen_child c m = unseen-added m.world.states (place_below m.world.states tag.file (Some q) (Some (record { tag = k; owner = view.own.inst }))) (cell_count c) c.constants

    pub none_made : slice_get p.tags k ≡ Some tag → component_at p tag.file ≡ None → MakesNone p k
    none_made is none other c there comp = none-some c (sym none ∙ (ap (λ (t : Tag). component_at p t.file) (same_Some tag other (sym is ∙ there)) ∙ comp))

  -- ---- a child that was made just now

  module _ (P : Fact) (pend : Pending) (q place : ℕ) (view : View) (n : ℕ) where
    -- it isn't placed yet
    pub record Born (ks : Kins) (s : Showing) (next : ℕ) : Type 0 where
      pub kin : Kin
      pub there : at ks n ≡ Some kin
      pub fact : P pend (Some n) [] ks (with_child s place n) next
      pub hold : HasHold p ks (with_child s place n) q place view
      pub before : AreBefore n pend

    -- it stands at its place, and wasn't lent its owner's view yet
    pub record New (ks : Kins) (s : Showing) (next : ℕ) : Type 0 where
      pub kin : Kin
      pub there : at ks n ≡ Some kin
      pub fact : P pend (Some n) [] ks s next
      pub hold : HasHold p ks s q place view
      pub stands : child_at s place ≡ Some n

    pub born_placed : (m : Page) → At Born m → At New (placed place view n m)
    born_placed m h =
        same_at New (record m { showing = with_child m.showing place n }) (set_up (λ s. record s { locals = view.own.locals }) m.world n) (kins-setup m.world.states (λ s. record s { locals = view.own.locals }) n)
        (record { kin = h.kin; there = h.there; fact = h.fact; hold = h.hold; stands = found-put m.showing.children place n })

  pub just_born : (P : Fact) (pend : Pending) (q place : ℕ) (view : View) (at_place : Place) (cells : ℕ) (ks : Kins) (s : Showing) (next : ℕ) → AreBefore (length ks) pend
      → P pend (Some (length ks)) [] (with_born ks at_place cells) (with_child s place (length ks)) next × HasHold p (with_born ks at_place cells) (with_child s place (length ks)) q place view
      → Born P pend q place view (length ks) (with_born ks at_place cells) s next
  just_born P pend q place view at_place cells ks s next before made =
      record { kin = born_kin at_place cells; there = get_or_push ks (Some (born_kin at_place cells)) None (length ks) refl; fact = made.0; hold = made.1; before = before }
