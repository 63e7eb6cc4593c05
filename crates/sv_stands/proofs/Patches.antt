-- What whole plans lend, as their outcomes say, and patches, whose shapes are recorded.
use Rattle.std.proofs.Common.{◌≡◌, ℕ, List, [], Option, None, Ok, Err, refl, sym, ap, subst}
use Rattle.sv_code.specs.declared.fragments.Frag.{Frag}
use Rattle.sv_code.specs.declared.program.Program.{Program}
use Rattle.sv_parts.specs.Sides.{Sides}
use Rattle.sv_parts.specs.State.{Outcome}
use Rattle.sv_parts.specs.declared.counters.Counters.{Counters}
use Rattle.sv_parts.specs.declared.state.Effect.{Effect}
use Rattle.sv_parts.specs.declared.state.Kept.{Kept}
use Rattle.sv_parts.specs.declared.state.State.{State}
use Rattle.sv_parts.specs.declared.tally.Tally.{Tally}
use Rattle.sv_places.proofs.Changes.{ends-is}
use Rattle.sv_places.proofs.Lookups.{found-put}
use Rattle.sv_places.specs.Fits.{Fits}
use Rattle.sv_places.specs.Keeping.{parts_of}
use Rattle.sv_plan.specs.Patch.{After, old_view, old_parts, begun, ended, planned, patched}
use Rattle.sv_plan.specs.Plan.{plan_all}
use Rattle.sv_shapes.specs.Showing.{Showing, shown_of, recorded}
use Rattle.sv_shapes.specs.declared.shape.Shape.{Shape}
use Rattle.sv_stands.proofs.Lending.{lent_made}
use Rattle.sv_stands.proofs.Plans.{plan_walks}
use Rattle.sv_stands.proofs.Walks.{Lending}
use Rattle.sv_stands.specs.Holds.{Hold, holds}
use Rattle.sv_stands.specs.Lent.{AreLent, PlanLends, AreMade, PlanMakes}
use Rattle.sv_view.specs.Level.{View}

module _ (p : Program) (tags : List (Option ℕ)) (frags : List Frag) (at : Sides) where
  pub plan_lends : (old new : List Shape) (s s' : State) → Fits p tags frags old → plan_all p tags frags at old s ≡ Ok (new, s') → PlanLends p (holds p tags frags at.old old) (holds p tags frags at.new new) s s'
  plan_lends old new s s' fit e = ends-is (Lending p (holds p tags frags) at old s) (plan_all p tags frags at old s) new s' ((plan_walks p tags frags).ends at old s fit) e

  pub plan_makes : (new : List Shape) (s s' : State) → plan_all p tags frags at [] s ≡ Ok (new, s') → PlanMakes (holds p tags frags at.new new) s s'
  plan_makes new s s' e = lent_made p (holds p tags frags at.new new) s s' (subst (λ hs. PlanLends p hs (holds p tags frags at.new new) s s') ((plan_walks p tags frags).none at.old) (plan_lends [] new s s' (plan_walks p tags frags).empty e))

-- ---- what was recorded is found

parts_recorded : (page : Showing) (n : ℕ) (view : View) (parts : List Shape) → parts_of (recorded page n view parts) n ≡ parts
parts_recorded page n view parts = ap old_parts (found-put page.shown n (record { view = view; parts = parts }))

-- ---- patches

module _ (p : Program) (tags : List (Option ℕ)) (n : ℕ) (markup : List Frag) (view : View) (page : Showing) (counters : Counters) (tally : Tally) where
  abbrev sides : Sides
  sides = record { old = old_view (shown_of page n) view; new = view }

  abbrev outcome : Outcome (List Shape)
  outcome = plan_all p tags markup sides (parts_of page n) (begun counters tally)

  -- what a patch leaves, where something is so of what a plan adds
  module _ (P : List Effect → List Kept → List Hold → Type 0) (plans : (new : List Shape) (s' : State) → outcome ≡ Ok (new, s') → P s'.effects s'.kept (holds p tags markup view new)) where
    patch_ended : (o : Outcome (List Shape)) → outcome ≡ o → (after : After) → ended page n view o ≡ Ok after → P after.effects after.kept (holds p tags markup view (parts_of after.showing n))
    patch_ended (Ok (new, s')) e after is =
        let same : record { effects = s'.effects; kept = s'.kept; showing = recorded page n view new; counters = s'.counters; tally = s'.tally } ≡ after = cc in
        subst (λ (a : After). P a.effects a.kept (holds p tags markup view (parts_of a.showing n))) same
        (subst (λ xs. P s'.effects s'.kept (holds p tags markup view xs)) (sym (parts_recorded page n view new)) (plans new s' e))
    patch_ended (Err r) e after is = absurd (cc)

    patch_is : (after : After) → patched p tags n markup view page counters tally ≡ Ok after → P after.effects after.kept (holds p tags markup view (parts_of after.showing n))
    unfolding patched planned
    patch_is after e = patch_ended outcome refl after e

  abbrev befores : List Hold
  befores = holds p tags markup (old_view (shown_of page n) view) (parts_of page n)

  all_lent : (news : List Hold) (s' : State) → PlanLends p befores news (begun counters tally) s' → AreLent p s'.effects s'.kept befores news
  all_lent news s' k = subst (λ es. AreLent p es s'.kept befores news) (sym k.effects_are) (subst (λ ks. AreLent p k.effects ks befores news) (sym k.kept_are) k.all)

  pub patch_lends : (after : After) → Fits p tags markup (parts_of page n) → patched p tags n markup view page counters tally ≡ Ok after → AreLent p after.effects after.kept befores (holds p tags markup view (parts_of after.showing n))
  patch_lends after fit e = patch_is (λ es ks hs. AreLent p es ks befores hs) (λ new s' is. all_lent (holds p tags markup view new) s' (plan_lends p tags markup sides (parts_of page n) new (begun counters tally) s' fit is)) after e

  all_made : (news : List Hold) (s' : State) → PlanMakes news (begun counters tally) s' → AreMade s'.effects news
  all_made news s' k = subst (λ es. AreMade es news) (sym k.effects_are) k.all

  pub patch_makes : (after : After) → shown_of page n ≡ None → patched p tags n markup view page counters tally ≡ Ok after → AreMade after.effects (holds p tags markup view (parts_of after.showing n))
  patch_makes after none e =
      patch_is (λ es ks hs. AreMade es hs)
      (λ new s' is. all_made (holds p tags markup view new) s' (plan_makes p tags markup sides new (begun counters tally) s' (subst (λ xs. plan_all p tags markup sides xs (begun counters tally) ≡ Ok (new, s')) (ap old_parts none) is))) after e
