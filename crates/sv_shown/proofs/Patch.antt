-- The patch of an instance that is shown on a later view: what it leaves is right, and each tag in it stands at a new place or where one stood before.
use Rattle.std.proofs.Common.{◌≡◌, ◌≢◌, ⊎_elim, ℕ, ◌≤◌, List, [], ◌∷◌, Option, Some, None, Ok, Err, refl, sym, ap, subst, ◌∙◌}
use Rattle.std.proofs.lemmas.Bool.{cases_eq}
use Rattle.std.proofs.lemmas.Option.{same_Some}
use Rattle.sv_agree.proofs.Claiming.{told}
use Rattle.sv_agree.proofs.Holding.{holding}
use Rattle.sv_code.specs.Compiled.{IsCompiled}
use Rattle.sv_code.specs.Names.{Each}
use Rattle.sv_code.specs.declared.fragments.Frag.{Frag}
use Rattle.sv_code.specs.declared.program.Program.{Program}
use Rattle.sv_course.specs.Watched.{view_cells, IsNow}
use Rattle.sv_family.proofs.Showing.{fit_before, patches as family_patches, same_tags}
use Rattle.sv_family.proofs.Whole.{Whole}
use Rattle.sv_family.specs.Family.{component_for, markup_in, holds_in}
use Rattle.sv_family.specs.Kin.{Kin, Kins, tags_in, insts_now}
use Rattle.sv_family.specs.Pending.{Pending, AreBefore}
use Rattle.sv_meaning.specs.Components.{markup_of}
use Rattle.sv_numbered.specs.Numbered.{at}
use Rattle.sv_parts.specs.Sides.{Sides}
use Rattle.sv_parts.specs.State.{Outcome}
use Rattle.sv_parts.specs.declared.counters.Counters.{Counters}
use Rattle.sv_parts.specs.declared.state.State.{State}
use Rattle.sv_parts.specs.declared.tally.Tally.{Tally}
use Rattle.sv_places.proofs.Lookups.{found-put, found-put_other}
use Rattle.sv_places.specs.Fits as places
use Rattle.sv_places.specs.Keeping.{parts_of}
use Rattle.sv_plan.specs.Patch.{After, old_view, old_parts, begun, ended, planned, patched}
use Rattle.sv_plan.specs.Plan.{plan_all}
use Rattle.sv_right.proofs.Levels.{first, going_on, patches}
use Rattle.sv_right.specs.Claims.{claims}
use Rattle.sv_right.specs.Fits.{Fits, AllFit}
use Rattle.sv_right.specs.Later.{AreOwnersLater, AreAllLater, GoesOn}
use Rattle.sv_right.specs.Staying.{Stands}
use Rattle.sv_seen.proofs.Markup.{all_fit, markup_fits}
use Rattle.sv_shapes.specs.Showing.{Showing, shown_of, child_at, recorded}
use Rattle.sv_shapes.specs.declared.shape.Shape.{Shape}
use Rattle.sv_shapes.specs.declared.shown.Shown.{Shown}
use Rattle.sv_shown.proofs.Told.{HoldGoesOn, told_go_on}
use Rattle.sv_shown.specs.True.{Modules, AreTrue}
use Rattle.sv_stands.specs.Holds.{holds}
use Rattle.sv_view.specs.Level.{View}
use Rattle.sv_view.specs.View.{insts, levels_of}
use Rattle.sv_within.specs.Keys.{AreAllKeysSeen}

-- what is known before the patch of an instance that is shown on a view now, and that all stand behind it as they should
pub record IsPatch (p : Program) (ms : Modules) (pend : Pending) (n : ℕ) (kin : Kin) (view : View) (ks : Kins) (s : Showing) (counters : Counters) (tally : Tally) (after : After) : Type 0 where
  pub compiled : IsCompiled p
  pub keys : AreAllKeysSeen p
  pub live : at ks n ≡ Some kin
  pub around : insts view ≡ insts_now n kin
  pub now : IsNow p ms ks s n kin view
  pub before : AreBefore n pend
  pub patch : patched p (tags_in ks view) n (markup_in p ks n) view s counters tally ≡ Ok after
  pub whole : Whole p pend None [] ks s counters.next
  pub was : AreTrue p ms pend ks s counters.next
  pub left : Whole p ((n, after.effects) ∷ pend) None [] ks after.showing after.counters.next

module _ (p : Program) (ms : Modules) (pend : Pending) (n : ℕ) (kin : Kin) (view : View) (ks : Kins) (s : Showing) (counters : Counters) (tally : Tally) (after : After)
    (h : IsPatch p ms pend n kin view ks s counters tally after) where
  abbrev tags : List (Option ℕ)
  tags = tags_in ks view

  abbrev markup : List Frag
  markup = markup_in p ks n

  -- ---- what was planned

  abbrev sides : Option Shown → Sides
  sides o = record { old = old_view o view; new = view }

  abbrev outcome : Outcome (List Shape)
  outcome = plan_all p tags markup (sides (shown_of s n)) (parts_of s n) (begun counters tally)

  abbrev shown_on : List Shape → Shown
  shown_on parts = record { view = view; parts = parts }

  -- the patch recorded what was planned
  pub record Plan : Type 0 where
    pub parts : List Shape
    pub end : State
    pub is : outcome ≡ Ok (parts, end)
    pub showing : after.showing ≡ recorded s n view parts
    pub next : end.counters.next ≡ after.counters.next

  plan_by : (o : Outcome (List Shape)) → outcome ≡ o → ended s n view o ≡ Ok after → Plan
  plan_by (Ok (parts, t)) is e =
      let same : record { effects = t.effects; kept = t.kept; showing = recorded s n view parts; counters = t.counters; tally = t.tally } ≡ after = cc in
      record { parts = parts; end = t; is = is; showing = sym (ap (λ (a : After). a.showing) same); next = ap (λ (a : After). a.counters.next) same }
  plan_by (Err r) is e = absurd (cc)

  pub plan : Plan
  unfolding patched planned
  plan = plan_by outcome refl h.patch

  -- what is shown of it now, and of the others
  pub here : shown_of after.showing n ≡ Some (shown_on plan.parts)
  here = ap (λ t. shown_of t n) plan.showing ∙ found-put s.shown n (shown_on plan.parts)

  others : (q : ℕ) → q ≢ n → shown_of after.showing q ≡ shown_of s q
  others q other = ap (λ t. shown_of t q) plan.showing ∙ found-put_other s.shown n (shown_on plan.parts) q other

  -- a fact of each instance that is shown
  pub by_shown : (Q : ℕ → Shown → Type 0) → Q n (shown_on plan.parts) → ((q : ℕ) (x : Shown) → shown_of s q ≡ Some x → Q q x) → (q : ℕ) (x : Shown) → shown_of after.showing q ≡ Some x → Q q x
  by_shown Q own other q x is = ⊎_elim
      (λ same. subst (λ m. Q m x) (sym same) (subst (Q n) (same_Some (shown_on plan.parts) x (sym here ∙ (ap (shown_of after.showing) (sym same) ∙ is))) own))
      (λ apart. other q x (sym (others q apart) ∙ is))
      (cases_eq q n)

  -- children stand where they stood
  pub same_child : (place : ℕ) → child_at after.showing place ≡ child_at s place
  same_child place = ap (λ t. child_at t place) plan.showing

  -- the next number never falls
  pub more : counters.next ≤ after.counters.next
  more = (family_patches p pend ks n kin h.live view h.around s counters h.whole.0 tally after h.patch).gives.next

  -- ---- what is right

  every_fits : AllFit p
  every_fits = all_fit p h.compiled.within h.keys

  own_fits : Fits p markup
  own_fits = subst (λ o. Fits p (markup_of (component_for p o))) (sym h.live) (markup_fits p h.compiled.within h.keys (Some kin.place))

  -- where it wasn't shown
  right_first : shown_of s n ≡ None → Stands p tags markup view after.counters.next plan.parts
  right_first none =
      subst (λ next. Stands p tags markup view next plan.parts) plan.next
      (first p tags markup (sides (shown_of s n)) plan.parts (begun counters tally) plan.end every_fits own_fits
      (subst (λ xs. plan_all p tags markup (sides (shown_of s n)) xs (begun counters tally) ≡ Ok (plan.parts, plan.end)) (ap old_parts none) plan.is))

  -- where it was shown before
  module _ (y : Shown) (is : shown_of s n ≡ Some y) where
    -- its view is later than the one on which it was shown
    later_view : AreAllLater (view_cells p ks) y.view view
    later_view = record {
      own = h.now.later y is;
      owners = subst (λ ls. AreOwnersLater (view_cells p ks) y.view.modules view.modules y.view.owners ls) (sym h.now.owners)
          (subst (λ m. AreOwnersLater (view_cells p ks) y.view.modules m y.view.owners (levels_of kin.lent)) (sym h.now.modules)
          (subst (λ m. AreOwnersLater (view_cells p ks) m ms y.view.owners (levels_of kin.lent)) (sym (h.was.right n y is).modules) (h.was.behind n kin y h.live is)));
    }

    tags_were : tags_in ks y.view ≡ tags
    tags_were = same_tags p pend ks n kin h.live view h.around s counters h.whole.0 y is

    stood : Stands p tags markup y.view counters.next y.parts
    stood = subst (λ ts. Stands p ts markup y.view counters.next y.parts) tags_were (h.was.right n y is).stands

    planned_from : plan_all p tags markup (sides (Some y)) y.parts (begun counters tally) ≡ Ok (plan.parts, plan.end)
    planned_from = subst (λ o. plan_all p tags markup (sides o) (old_parts o) (begun counters tally) ≡ Ok (plan.parts, plan.end)) is plan.is

    right_after : Stands p tags markup view after.counters.next plan.parts
    right_after =
        subst (λ next. Stands p tags markup view next plan.parts) plan.next
        (patches p (view_cells p ks) tags markup (sides (Some y)) y.parts plan.parts (begun counters tally) plan.end every_fits own_fits later_view stood planned_from)

    -- ---- tags

    fit_then : places.Fits p tags markup y.parts
    fit_then = fit_before p pend ks n kin h.live view h.around s counters h.whole.0 (Some y) is

    fit_now : places.Fits p tags markup plan.parts
    fit_now = (h.left.0.shown n (shown_on plan.parts) here).fits

    claims_go_on : Each (GoesOn (view_cells p ks) counters.next (claims p tags markup y.view y.parts)) (claims p tags markup view plan.parts)
    claims_go_on = going_on p (view_cells p ks) tags markup (sides (Some y)) y.parts plan.parts (begun counters tally) plan.end every_fits own_fits later_view stood planned_from

    -- the holds that there were, by the tags of the view that there is
    pub holds_were : holds p tags markup (old_view (shown_of s n) view) (parts_of s n) ≡ holds_in p ks n y
    holds_were = ap (λ o. holds p tags markup (old_view o view) (old_parts o)) is ∙ ap (λ ts. holds p ts markup y.view y.parts) (sym tags_were)

    -- each tag stands at a new place, or where one stood on an earlier view
    pub holds_go_on : Each (HoldGoesOn (view_cells p ks) counters.next (holds_in p ks n y)) (holds p tags markup view plan.parts)
    holds_go_on =
        subst (λ ts. Each (HoldGoesOn (view_cells p ks) counters.next (holds p ts markup y.view y.parts)) (holds p tags markup view plan.parts)) (sym tags_were)
        (subst (λ hs. Each (HoldGoesOn (view_cells p ks) counters.next hs) (holds p tags markup view plan.parts)) (holding p tags markup y.view y.parts fit_then)
        (subst (λ hs. Each (HoldGoesOn (view_cells p ks) counters.next (told (claims p tags markup y.view y.parts))) hs) (holding p tags markup view plan.parts fit_now)
        (told_go_on (view_cells p ks) counters.next (claims p tags markup y.view y.parts) (claims p tags markup view plan.parts) claims_go_on)))

  pub right_now : Stands p tags markup view after.counters.next plan.parts
  right_now = by (shown_of s n) refl
    where
      by : (o : Option Shown) → shown_of s n ≡ o → Stands p tags markup view after.counters.next plan.parts
      by None is = right_first is
      by (Some y) is = right_after y is
