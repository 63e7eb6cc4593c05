-- What whole plans and patches change: the induction over fragments, and over the tags of the levels of a view.
use Rattle.std.proofs.Common.{◌≡◌, ℕ, ◌+◌, true, List, [], ◌∷◌, map, Option, Some, None, option_map, Ok, Err, refl, sym, ap, subst, ◌∙◌, arith}
use Rattle.sv_code.specs.declared.fragments.Frag.{Frag, Frag-F, roll-Frag, map-Frag, fold-roll-Frag, ind-Frag}
use Rattle.sv_code.specs.declared.fragments.FragArm.{FragArm, FragArm-F, roll-FragArm, map-FragArm, fold-FragArm, fold-roll-FragArm}
use Rattle.sv_code.specs.declared.program.Program.{Program}
use Rattle.sv_parts.specs.Sides.{Sides}
use Rattle.sv_parts.specs.State.{Outcome}
use Rattle.sv_parts.specs.declared.counters.Counters.{Counters}
use Rattle.sv_parts.specs.declared.state.State.{State}
use Rattle.sv_parts.specs.declared.tally.Tally.{Tally}
use Rattle.sv_view.specs.Level.{View}
use Rattle.sv_places.proofs.Changes.{Change, Grows, ends-is}
use Rattle.sv_places.proofs.Counting.{count-joined, count-kept, given-between}
use Rattle.sv_places.proofs.Forms.{FilledWalks, ArmsPlan, text-makes, show-makes, element-makes, tag-makes, named-makes, slot-makes, if-makes, each-makes, key-makes}
use Rattle.sv_places.proofs.Loads.{loads}
use Rattle.sv_places.proofs.Lookups.{found-put}
use Rattle.sv_places.proofs.Walks.{Walks, Plans, AllPlan, each-walks, layer-plans}
use Rattle.sv_places.specs.Fits as fits
use Rattle.sv_places.specs.Fits.{Fits, Fitter, AllFitter, ArmFitter, fit_each, fitter, all_fitter, fits_all}
use Rattle.sv_places.specs.Keeping.{Keeps, Gives, Follows, Patches, parts_of, created_by, set_by, destroyed_by, created_at, set_at, destroyed_at, kept_at}
use Rattle.sv_places.specs.Numbers.{count, numbers_all}
use Rattle.sv_plan.specs.Content.{Content, content_at}
use Rattle.sv_plan.specs.Patch.{After, old_view, old_parts, begun, ended, planned, patched}
use Rattle.sv_plan.specs.Plan.{Planner, ArmPlan, Filled, step, arm_step, planner, walker, slotted, plan_all}
use Rattle.sv_shapes.specs.Places.{places_all}
use Rattle.sv_shapes.specs.Showing.{Showing, shown_of, recorded}
use Rattle.sv_shapes.specs.declared.shape.Shape.{Shape}
use Rattle.sv_shapes.specs.declared.shape.Shape.TheVariants as shape

module _ (n : ℕ) (p : Program) where
  module _ (given : List ℕ → Option AllFitter) (slot : List ℕ → Option Filled) (filled : (name : List ℕ) → FilledWalks n p given (given name) (slot name)) where
    -- ---- fragments, with what is known of each

    abbrev fit_of : Frag → Fitter
    fit_of = fitter p given

    abbrev arm_fit_of : FragArm → ArmFitter
    arm_fit_of = fold-FragArm Fitter ArmFitter (fits.step p given) fits.arm_step

    abbrev plan_of : Frag → Planner
    plan_of = planner p slot

    abbrev arm_of : FragArm → ArmPlan
    arm_of = fold-FragArm Planner ArmPlan (step p slot) arm_step

    abbrev FragPlans : Frag → Type 0
    FragPlans f = Plans n (fit_of f) (plan_of f)

    abbrev ArmPlans : FragArm → Type 0
    ArmPlans a = AllPlan n (arm_fit_of a).1 (arm_of a).1

    abbrev KnownFrag : Type 0
    KnownFrag = (f : Frag) × FragPlans f

    abbrev KnownArm : Type 0
    KnownArm = (a : FragArm) × ArmPlans a

    abbrev bare_frag : Frag-F KnownFrag KnownArm → Frag-F Frag FragArm
    bare_frag = map-Frag KnownFrag KnownArm Frag FragArm (λ x. x.0) (λ x. x.0)

    abbrev fit_frag : Frag-F Frag FragArm → Frag-F Fitter ArmFitter
    fit_frag = map-Frag Frag FragArm Fitter ArmFitter fit_of arm_fit_of

    abbrev made_frag : Frag-F Frag FragArm → Frag-F Planner ArmPlan
    made_frag = map-Frag Frag FragArm Planner ArmPlan plan_of arm_of

    abbrev bare_arm : FragArm-F KnownFrag KnownArm → FragArm-F Frag FragArm
    bare_arm = map-FragArm KnownFrag KnownArm Frag FragArm (λ x. x.0) (λ x. x.0)

    abbrev fit_arm : FragArm-F Frag FragArm → FragArm-F Fitter ArmFitter
    fit_arm = map-FragArm Frag FragArm Fitter ArmFitter fit_of arm_fit_of

    abbrev made_arm : FragArm-F Frag FragArm → FragArm-F Planner ArmPlan
    made_arm = map-FragArm Frag FragArm Planner ArmPlan plan_of arm_of

    frags_plan : (fs : List KnownFrag) → AllPlan n (map fit_of (map (λ x. x.0) fs)) (map plan_of (map (λ x. x.0) fs))
    frags_plan [] = tt
    frags_plan (f ∷ fs) = (f.1, frags_plan fs)

    arms_plan : (arms : List KnownArm) → ArmsPlan n p given (map arm_fit_of (map (λ x. x.0) arms)) (map arm_of (map (λ x. x.0) arms))
    arms_plan [] = tt
    arms_plan (a ∷ arms) = (a.1, arms_plan arms)

    abbrev LayerPlan : Frag-F Frag FragArm → Type 0
    LayerPlan x = Plans n (fits.step p given (fit_frag x)) (step p slot (made_frag x))

    frag_plans : (y : Frag-F KnownFrag KnownArm) → LayerPlan (bare_frag y)
    frag_plans (Frag-F.Text text) = layer-plans n _ _ (text-makes n p given text)
    frag_plans (Frag-F.Show part) = layer-plans n _ _ (show-makes n p given part)
    frag_plans (Frag-F.Element span name attrs children) = layer-plans n _ _ (element-makes n p given span name attrs _ _ (frags_plan children))
    frag_plans (Frag-F.Tag tag reads) = layer-plans n _ _ (tag-makes n p given tag reads)
    frag_plans (Frag-F.Named name lets node) = layer-plans n _ (λ at old s. Ok (shape.Nothing, s)) (named-makes n p given name lets (fit_of node.0))
    frag_plans (Frag-F.Slot span name attrs own reads) = layer-plans n _ _ (slot-makes n p given span name attrs _ reads (slot name) (filled name) _ (frags_plan own))
    frag_plans (Frag-F.If arms None) = layer-plans n _ _ (if-makes n p given _ None _ (arms_plan arms) None tt)
    frag_plans (Frag-F.If arms (Some last)) = layer-plans n _ _ (if-makes n p given _ (Some (map fit_of (map (λ x. x.0) last))) _ (arms_plan arms) (Some (map plan_of (map (λ x. x.0) last))) (frags_plan last))
    frag_plans (Frag-F.Each list item index key body None) = layer-plans n _ _ (each-makes n p given list item index key _ None _ [] (frags_plan body) tt)
    frag_plans (Frag-F.Each list item index key body (Some none)) = layer-plans n _ _ (each-makes n p given list item index key _ (Some (map fit_of (map (λ x. x.0) none))) _ _ (frags_plan body) (frags_plan none))
    frag_plans (Frag-F.Key part body) = layer-plans n _ _ (key-makes n p given part _ _ (frags_plan body))

    frag_whole : (x : Frag-F Frag FragArm) (y : Frag-F KnownFrag KnownArm) → bare_frag y ≡ x → FragPlans (roll-Frag x)
    frag_whole x y e =
        subst (λ f. Plans n f (plan_of (roll-Frag x))) (sym (fold-roll-Frag Fitter ArmFitter (fits.step p given) fits.arm_step x))
        (subst (Plans n (fits.step p given (fit_frag x))) (sym (fold-roll-Frag Planner ArmPlan (step p slot) arm_step x)) (subst LayerPlan e (frag_plans y)))

    arm_whole : (x : FragArm-F Frag FragArm) (y : FragArm-F KnownFrag KnownArm) → bare_arm y ≡ x → ArmPlans (roll-FragArm x)
    arm_whole x y e =
        subst (λ (f : ArmFitter). AllPlan n f.1 (arm_of (roll-FragArm x)).1) (sym (fold-roll-FragArm Fitter ArmFitter (fits.step p given) fits.arm_step x))
        (subst (λ (a : ArmPlan). AllPlan n (fits.arm_step (fit_arm x)).1 a.1) (sym (fold-roll-FragArm Planner ArmPlan (step p slot) arm_step x)) (subst (λ z. AllPlan n (fits.arm_step (fit_arm z)).1 (arm_step (made_arm z)).1) e (frags_plan y.body)))

    all_plan : (fs : List Frag) → AllPlan n (map fit_of fs) (map plan_of fs)
    all_plan [] = tt
    all_plan (f ∷ fs) = (ind-Frag FragPlans ArmPlans frag_whole arm_whole f, all_plan fs)

    walker-walks : (fs : List Frag) → Walks n (all_fitter p given fs) (walker p slot fs)
    walker-walks fs = each-walks n (map fit_of fs) (map plan_of fs) (all_plan fs)

  -- what is given to slots, by the tags of the levels
  slotted-walks : (tags : List (Option ℕ)) (name : List ℕ) → FilledWalks n p (fits.slotted p tags) (fits.slotted p tags name) (slotted p tags name)
  slotted-walks [] name = tt
  slotted-walks (tag ∷ tags) name = by (slotted-walks tags) (content_at p (tag ∷ tags) name)
    where
      by : ((name' : List ℕ) → FilledWalks n p (fits.slotted p tags) (fits.slotted p tags name') (slotted p tags name')) → (o : Option Content) →
          FilledWalks n p (fits.slotted p (tag ∷ tags)) (option_map (λ c. all_fitter p (fits.slotted p tags) c.frags) o) (option_map (λ c. record { lets = c.lets; walk = walker p (slotted p tags) c.frags }) o)
      by outer None = tt
      by outer (Some c) = walker-walks (fits.slotted p tags) (slotted p tags) outer c.frags

  -- whole plans
  pub plan-walks : (tags : List (Option ℕ)) (frags : List Frag) → Walks n (fits_all p tags frags) (plan_all p tags frags)
  unfolding fits_all plan_all
  plan-walks tags frags = walker-walks (fits.slotted p tags) (slotted p tags) (slotted-walks tags) frags

-- ---- all numbers together

follows-all : (old new : List Shape) (s s' : State) → ((n : ℕ) → Change n (loads n old) (loads n new) s s') → Grows s s' → Follows old new s s'
follows-all old new s s' k g = record {
  effects = g.effects;
  kept = g.kept;
  effects_are = g.effects_are;
  kept_are = g.kept_are;
  keeps = record {
    lost = λ n. omega (arith, (k n).lost, created n, destroyed n);
    there = λ n. omega (arith, (k n).there, created n, kept n);
    set = λ n. omega (arith, (k n).set, sets n, kept n);
  };
  gives = record {
    next = (k 0).next;
    numbers = λ n. omega (arith, (k n).numbers, given-between s.counters.next s'.counters.next n (k 0).next);
    created = λ n. omega (arith, (k n).made, created n, given-between s.counters.next s'.counters.next n (k 0).next);
  };
}
  where
    created : (n : ℕ) → count n (created_at s'.effects) ≡ count n (created_at s.effects) + count n (created_at g.effects)
    created n = ap (λ e. count n (created_at e)) g.effects_are ∙ count-joined n created_by s.effects g.effects

    sets : (n : ℕ) → count n (set_at s'.effects) ≡ count n (set_at s.effects) + count n (set_at g.effects)
    sets n = ap (λ e. count n (set_at e)) g.effects_are ∙ count-joined n set_by s.effects g.effects

    destroyed : (n : ℕ) → count n (destroyed_at s'.effects) ≡ count n (destroyed_at s.effects) + count n (destroyed_at g.effects)
    destroyed n = ap (λ e. count n (destroyed_at e)) g.effects_are ∙ count-joined n destroyed_by s.effects g.effects

    kept : (n : ℕ) → count n (kept_at s'.kept) ≡ count n (kept_at s.kept) + count n (kept_at g.kept)
    kept n = ap (λ e. count n (kept_at e)) g.kept_are ∙ count-kept n s.kept g.kept

module _ (p : Program) (tags : List (Option ℕ)) (frags : List Frag) (at : Sides) (old new : List Shape) (s s' : State) (fit : Fits p tags frags old) (e : plan_all p tags frags at old s ≡ Ok (new, s')) where
  pub ends-all : (n : ℕ) → (fits_all p tags frags new ≡ true) × Change n (loads n old) (loads n new) s s'
  ends-all n = ends-is (λ x t. (fits_all p tags frags x ≡ true) × Change n (loads n old) (loads n x) s t) (plan_all p tags frags at old s) new s' ((plan-walks n p tags frags).ends at old s fit) e

  pub plan-fits : Fits p tags frags new
  plan-fits = (ends-all 0).0

  pub plan-follows : Follows old new s s'
  plan-follows = follows-all old new s s' (λ n. (ends-all n).1) (ends-all 0).1.grows

-- ---- patches

-- what was recorded is found
parts-recorded : (page : Showing) (n : ℕ) (view : View) (parts : List Shape) → parts_of (recorded page n view parts) n ≡ parts
parts-recorded page n view parts = ap old_parts (found-put page.shown n (record { view = view; parts = parts }))

module _ (p : Program) (tags : List (Option ℕ)) (n : ℕ) (markup : List Frag) (view : View) (page : Showing) (counters : Counters) (tally : Tally) where
  abbrev sides : Sides
  sides = record { old = old_view (shown_of page n) view; new = view }

  abbrev outcome : Outcome (List Shape)
  outcome = plan_all p tags markup sides (parts_of page n) (begun counters tally)

  abbrev before : List Shape
  before = parts_of page n

  module _ (fit : Fits p tags markup before) (new : List Shape) (s' : State) (e : outcome ≡ Ok (new, s')) where
    abbrev follows : Follows before new (begun counters tally) s'
    follows = plan-follows p tags markup sides before new (begun counters tally) s' fit e

    new-keeps : Keeps (places_all before) (places_all new) s'.effects s'.kept
    new-keeps = subst (λ es. Keeps (places_all before) (places_all new) es s'.kept) (sym follows.effects_are) (subst (Keeps (places_all before) (places_all new) follows.effects) (sym follows.kept_are) follows.keeps)

    new-gives : Gives (numbers_all before) (numbers_all new) s'.effects counters.next s'.counters.next
    new-gives = subst (λ es. Gives (numbers_all before) (numbers_all new) es counters.next s'.counters.next) (sym follows.effects_are) follows.gives

    abbrev made : After
    made = record { effects = s'.effects; kept = s'.kept; showing = recorded page n view new; counters = s'.counters; tally = s'.tally }

    patch-made : Patches p tags n markup page counters.next made
    patch-made = record {
      fits = subst (Fits p tags markup) (sym (parts-recorded page n view new)) (plan-fits p tags markup sides before new (begun counters tally) s' fit e);
      keeps = subst (λ xs. Keeps (places_all before) (places_all xs) s'.effects s'.kept) (sym (parts-recorded page n view new)) new-keeps;
      gives = subst (λ xs. Gives (numbers_all before) (numbers_all xs) s'.effects counters.next s'.counters.next) (sym (parts-recorded page n view new)) new-gives;
    }

  -- what was planned is recorded
  patch-ended : (o : Outcome (List Shape)) → outcome ≡ o → (after : After) → Fits p tags markup before → ended page n view o ≡ Ok after → Patches p tags n markup page counters.next after
  patch-ended (Ok (new, s')) e after fit is = let same : made fit new s' e ≡ after = cc in subst (Patches p tags n markup page counters.next) same (patch-made fit new s' e)
  patch-ended (Err r) e after fit is = absurd (cc)

  pub patch-keeps : (after : After) → Fits p tags markup (parts_of page n) → patched p tags n markup view page counters tally ≡ Ok after → Patches p tags n markup page counters.next after
  unfolding patched planned
  patch-keeps after fit e = patch-ended outcome refl after fit e
