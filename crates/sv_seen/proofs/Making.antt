-- The first patch of an instance keeps what is shown right.
use Rattle.std.proofs.Common.{◌≡◌, ℕ, ◌<◌, ◌≤◌, List, [], length, Option, Some, None, option_map, Ok, Err, refl, sym, subst, arith, ⊎_elim}
use Rattle.std.specs.BTreeMap.{is_at}
use Rattle.std.specs.Map.{lookup}
use Rattle.std.specs.Ordering.{nat_cmp}
use Rattle.sv_code.specs.Names.{Each}
use Rattle.sv_code.specs.Within.{ArePartsWithin}
use Rattle.sv_code.specs.declared.fragments.Frag.{Frag}
use Rattle.sv_code.specs.declared.program.Component.{Component}
use Rattle.sv_code.specs.declared.program.Program.{Program}
use Rattle.sv_flush.proofs.Bringing.{Afterwards, Brings}
use Rattle.sv_flush.proofs.Handing.{HandsView, Handed, planned-hands}
use Rattle.sv_flush.proofs.Lending.{owners_held}
use Rattle.sv_flush.proofs.Standing.{all_pass}
use Rattle.sv_flush.proofs.Tracking.{picture_at}
use Rattle.sv_flush.specs.Lent.{StandsHeld}
use Rattle.sv_flush.specs.Outcome.{Outcome, Done, Halted, Task, and_then, in_world}
use Rattle.sv_flush.specs.Setting.{lent_to, lent_if}
use Rattle.sv_flush.specs.Showing.{tags_of, tags_kept, followed, patched_on, patched_now, shown}
use Rattle.sv_flush.specs.declared.page.Page.{Page}
use Rattle.sv_frame.specs.Views.{lent_views}
use Rattle.sv_instance.specs.Standing.{Place}
use Rattle.sv_instance.specs.declared.instance.Instance.{Instance}
use Rattle.sv_meaning.specs.Components.{component_of, markup_of}
use Rattle.sv_numbered.specs.Numbered.{at}
use Rattle.sv_parts.specs.State.{Outcome as Planned}
use Rattle.sv_parts.specs.declared.state.Effect.{Effect}
use Rattle.sv_plan.specs.Patch.{begun as plan_begun, ended as patch_ended, patched, planned}
use Rattle.sv_right.proofs.Levels.{first}
use Rattle.sv_right.specs.Fits.{Fits}
use Rattle.sv_right.specs.Right.{AreRight}
use Rattle.sv_seen.proofs.Markup.{all_fit, markup_fits}
use Rattle.sv_seen.proofs.Plans.{Bears, plan-bears}
use Rattle.sv_seen.proofs.Showing.{OneRight, AllRight, all-lent, all-shown, all-from}
use Rattle.sv_seen.proofs.Spots.{spots, place_of, component_in, AreMade, made-more, tags-are, component-is}
use Rattle.sv_seen.proofs.Steps.{On, on-same, same-tags, viewed-spots, viewed-lent}
use Rattle.sv_shapes.specs.Showing.{Showing, shown_of, recorded as shown_on}
use Rattle.sv_shapes.specs.declared.shape.Shape.{Shape}
use Rattle.sv_shapes.specs.declared.shown.Shown.{Shown}
use Rattle.sv_states.proofs.Altering.{at_within}
use Rattle.sv_states.specs.Change.{viewed}
use Rattle.sv_states.specs.States.{States, live}
use Rattle.sv_view.specs.Cell.{Cell}
use Rattle.sv_view.specs.Level.{View}
use Rattle.sv_within.specs.Keys.{AreAllKeysSeen}
use Rattle.sv_world.specs.World.{present_view}

-- so many instances were made at least, and each that is shown on a page is shown right
abbrev pub Right : Program → ℕ → Page → Type 0
Right p from = On (AllRight p from)

-- the same, and one more instance isn't shown yet
abbrev pub IsHidden : Program → (from n : ℕ) → List (Option Place) → List (Option (Option View)) → List (ℕ × Shown) → Type 0
IsHidden p from n known lent shown = AllRight p from known lent shown × (lookup (is_at (nat_cmp n)) shown ≡ None)

-- so it is on a page
abbrev pub Hidden : Program → (from n : ℕ) → Page → Type 0
Hidden p from n = On (IsHidden p from n)

-- ---- an owner's view

module _ (p : Program) (from n : ℕ) where
  to-hidden : (c : Component) (cell : Option ℕ) (view : View) (m : Page) → AreMade from view → Hidden p from n m → Hidden p from n (record m { world = lent_to (Some (record c { view = cell })) n view m.world })
  to-hidden c None view m made h = h
  to-hidden c (Some cell) view m made h =
      let s : States = m.world.states in
      let lent : List (Option (Option View)) = lent_views (viewed s n cell view) in (
        subst (λ known. AllRight p from known lent m.showing.shown) (sym (viewed-spots s n cell view))
            (all-lent p from (spots s) (lent_views s) m.showing.shown h.0 view lent (made-more from (length (spots s)) view h.0.grown made) (viewed-lent s n cell view)),
        h.1,
      )

  lent-hidden : (c : Option Component) (view : View) (m : Page) → AreMade from view → Hidden p from n m → Hidden p from n (record m { world = lent_to c n view m.world })
  lent-hidden None view m made h = h
  lent-hidden (Some c) view m made h = to-hidden c c.view view m made h

  -- the view that is handed down is of instances that were made
  pub lent_if_brings : (o : Option View) → HandsView (AreMade from) o → Brings (Hidden p from n) (Hidden p from n) (in_world (lent_if p n o))
  lent_if_brings None made = record { held = λ m h. h }
  lent_if_brings (Some view) made = record { held = λ m h. lent-hidden (component_of p m.world n) view m made h }

-- ---- patches

module _ (p : Program) (within : ArePartsWithin p) (keys : AreAllKeysSeen p) where
  -- what a patch leaves, and the children that are to be made
  abbrev Patched : ℕ → Outcome (List Effect) → Type 0
  Patched from (Done es m) = (now : ℕ) × ((from ≤ now) × (Right p now m × Each (Bears (AreMade now)) es))
  Patched from (Halted r m) = Unit {0}

  module _ (from n : ℕ) (m : Page) where
    -- where instances stand
    abbrev known : List (Option Place)
    known = spots m.world.states

    module _ (i : Instance) (there : live m.world.states n ≡ Some i) (h : Right p from m) where
      -- its view, the tags of that view's levels, and its markup
      abbrev view : View
      view = present_view m.world.modules n i

      abbrev tags : List (Option ℕ)
      tags = tags_of m.world view

      abbrev markup : List Frag
      markup = markup_of (component_of p m.world n)

      below : n < length known
      below = at_within known n (place_of i) (picture_at place_of m.world.states n (Some i) there)

      -- the levels of its view are of instances that were made
      lent-made : (k : ℕ) (cells : List Cell) → StandsHeld (lent_views m.world.states) [] k cells → k < length known
      lent-made k cells held = ⊎_elim (λ l. h.lends held.0 l k cells held.1.1) (λ none. absurd none) held.1.0

      view-made : AreMade (length known) view
      view-made k cells g = ⊎_elim (λ own. subst (λ j. j < length known) own.0 below) (λ owner. lent-made k cells (owners_held m.world.states n i there [] k cells owner)) g

      shown-right : (parts : List Shape) → AreRight p tags markup view parts → OneRight p known n (record { view = view; parts = parts })
      shown-right parts right = record {
        made = below;
        levels = view-made;
        right = subst (λ ts. AreRight p ts (markup_of (component_in p (at known n))) view parts) (sym (tags-are m.world view))
            (subst (λ c. AreRight p tags (markup_of c) view parts) (sym (component-is p m.world n)) right);
      }

      fits : Fits p markup
      fits = subst (λ c. Fits p (markup_of c)) (component-is p m.world n) (markup_fits p within keys (at known n))

      patch-ends : (o : Planned (List Shape)) → planned p tags markup None view (plan_begun m.counters m.tally) ≡ o → Handed (AreMade (length known)) o
          → Patched from (followed m (patch_ended m.showing n view o))
      unfolding planned
      patch-ends (Err r) e hands = tt
      patch-ends (Ok x) e hands =
          let right = first p tags markup (record { old = view; new = view }) x.0 (plan_begun m.counters m.tally) x.1 (all_fit p within keys) fits e in
          let page : Showing = shown_on m.showing n view x.0 in (
            length known,
            (
              h.grown,
              (
                on-same (AllRight p (length known)) m.world.states (tags_kept page x.1.kept m.world).states page.shown (same-tags page x.1.kept m.world)
                    (all-shown p (length known) known (lent_views m.world.states) m.showing.shown (all-from p from known (lent_views m.world.states) m.showing.shown h (length known) (omega arith)) n _ (shown-right x.0 right.right)),
                plan-bears (AreMade (length known)) p tags markup (record { old = view; new = view }) m.counters m.tally x.0 x.1 e hands,
              ),
            ),
          )

      -- it wasn't shown before
      patch-first : (o : Option Shown) → o ≡ None → Patched from (followed m (patch_ended m.showing n view (planned p tags markup o view (plan_begun m.counters m.tally))))
      patch-first o none = subst (λ z. Patched from (followed m (patch_ended m.showing n view (planned p tags markup z view (plan_begun m.counters m.tally))))) (sym none)
          (patch-ends _ refl ((planned-hands (AreMade (length known)) (all_pass (λ k cells. k < length known)) p tags markup None view view-made).held (plan_begun m.counters m.tally) tt))

    patched-over : (o : Option Instance) → live m.world.states n ≡ o → Hidden p from n m → Patched from (patched_on p n (option_map (present_view m.world.modules n) o) m)
    unfolding patched
    patched-over None there h = (from, (omega arith, (h.0, tt)))
    patched-over (Some i) there h = patch-first i there h.0 (shown_of m.showing n) h.1

    patched-right : Hidden p from n m → Patched from (patched_now p n m)
    unfolding patched_now
    patched-right h = patched-over (live m.world.states n) refl h

  -- ---- and the children that are made behind it

  -- children that are made keep it so, by how they are made
  abbrev pub Bring : (List Effect → Task) → Type 0
  Bring run = (from : ℕ) (es : List Effect) → Each (Bears (AreMade from)) es → Brings (Right p from) (Right p from) (run es)

  from-then : (from now : ℕ) (o : Outcome (Unit {0})) → from ≤ now → Afterwards (Right p now) o → Afterwards (Right p from) o
  from-then from now (Done a m) up h = all-from p now (spots m.world.states) (lent_views m.world.states) m.showing.shown h from (let grown = h.grown in omega (arith, grown, up))
  from-then from now (Halted r m) up h = tt

  run-after : (run : List Effect → Task) (from : ℕ) (o : Outcome (List Effect)) → Bring run → Patched from o → Afterwards (Right p from) (and_then o run)
  run-after run from (Done es m) k h = from-then from h.0 (run es m) h.1.0 ((k h.0 es h.1.1.1).held m h.1.1.0)
  run-after run from (Halted r m) k h = tt

  -- an instance is shown for the first time, and its children are made
  pub shown_brings : (run : List Effect → Task) (from n : ℕ) → Bring run → Brings (Hidden p from n) (Right p from) (shown p run n)
  shown_brings run from n k = record { held = λ m h. run-after run from (patched_now p n m) k (patched-right from n m h) }
