-- What whole plans and patches lend: the induction over fragments, and over the tags of the levels of a view.
use Rattle.std.proofs.Common.{◌≡◌, ℕ, List, [], ◌∷◌, map, Option, Some, None, option_map, Ok, refl, sym, subst}
use Rattle.sv_code.specs.declared.fragments.Frag.{Frag, Frag-F, roll-Frag, map-Frag, fold-roll-Frag, ind-Frag}
use Rattle.sv_code.specs.declared.fragments.FragArm.{FragArm, FragArm-F, roll-FragArm, map-FragArm, fold-FragArm, fold-roll-FragArm}
use Rattle.sv_code.specs.declared.program.Program.{Program}
use Rattle.sv_places.specs.Fits as fits
use Rattle.sv_places.specs.Fits.{Fits, Fitter, AllFitter, ArmFitter, fitter, all_fitter, fits_all}
use Rattle.sv_plan.specs.Content.{Content, content_at}
use Rattle.sv_plan.specs.Plan.{Planner, ArmPlan, Filled, step, arm_step, planner, walker, slotted, plan_all}
use Rattle.sv_shapes.specs.declared.shape.Shape.TheVariants as shape
use Rattle.sv_stands.proofs.Forms.{FilledWalks, ArmsPlan, text_comes, show_comes, element_comes, tag_comes, named_comes, slot_comes, if_comes, each_comes, key_comes}
use Rattle.sv_stands.proofs.Walks.{Walks, Plans, AllPlan, each_walks, layer_plans}
use Rattle.sv_stands.specs.Holds as stands
use Rattle.sv_stands.specs.Holds.{Hold, Holder, ArmHolder, holder, holds}

module _ (p : Program) where
  module _ (tags : List (Option ℕ)) (given : List ℕ → Option AllFitter) (shown : List ℕ → Option stands.Filled) (slot : List ℕ → Option Filled) (filled : (name : List ℕ) → FilledWalks p tags given shown (given name) (shown name) (slot name)) where
    -- ---- fragments, with what is known of each

    abbrev fit_of : Frag → Fitter
    fit_of = fitter p given

    abbrev arm_fit_of : FragArm → ArmFitter
    arm_fit_of = fold-FragArm Fitter ArmFitter (fits.step p given) fits.arm_step

    abbrev hold_of : Frag → Holder
    hold_of = holder tags shown

    abbrev arm_hold_of : FragArm → ArmHolder
    arm_hold_of = fold-FragArm Holder ArmHolder (stands.step tags shown) stands.arm_step

    abbrev plan_of : Frag → Planner
    plan_of = planner p slot

    abbrev arm_of : FragArm → ArmPlan
    arm_of = fold-FragArm Planner ArmPlan (step p slot) arm_step

    abbrev FragPlans : Frag → Type 0
    FragPlans f = Plans p (fit_of f) (hold_of f) (plan_of f)

    abbrev ArmPlans : FragArm → Type 0
    ArmPlans a = AllPlan p (arm_fit_of a).1 (arm_hold_of a).1 (arm_of a).1

    abbrev KnownFrag : Type 0
    KnownFrag = (f : Frag) × FragPlans f

    abbrev KnownArm : Type 0
    KnownArm = (a : FragArm) × ArmPlans a

    abbrev bare_frag : Frag-F KnownFrag KnownArm → Frag-F Frag FragArm
    bare_frag = map-Frag KnownFrag KnownArm Frag FragArm (λ x. x.0) (λ x. x.0)

    abbrev fit_frag : Frag-F Frag FragArm → Frag-F Fitter ArmFitter
    fit_frag = map-Frag Frag FragArm Fitter ArmFitter fit_of arm_fit_of

    abbrev hold_frag : Frag-F Frag FragArm → Frag-F Holder ArmHolder
    hold_frag = map-Frag Frag FragArm Holder ArmHolder hold_of arm_hold_of

    abbrev plan_frag : Frag-F Frag FragArm → Frag-F Planner ArmPlan
    plan_frag = map-Frag Frag FragArm Planner ArmPlan plan_of arm_of

    abbrev bare_arm : FragArm-F KnownFrag KnownArm → FragArm-F Frag FragArm
    bare_arm = map-FragArm KnownFrag KnownArm Frag FragArm (λ x. x.0) (λ x. x.0)

    abbrev fit_arm : FragArm-F Frag FragArm → ArmFitter
    fit_arm x = fits.arm_step (map-FragArm Frag FragArm Fitter ArmFitter fit_of arm_fit_of x)

    abbrev hold_arm : FragArm-F Frag FragArm → ArmHolder
    hold_arm x = stands.arm_step (map-FragArm Frag FragArm Holder ArmHolder hold_of arm_hold_of x)

    abbrev plan_arm : FragArm-F Frag FragArm → ArmPlan
    plan_arm x = arm_step (map-FragArm Frag FragArm Planner ArmPlan plan_of arm_of x)

    frags_plan : (fs : List KnownFrag) → AllPlan p (map fit_of (map (λ x. x.0) fs)) (map hold_of (map (λ x. x.0) fs)) (map plan_of (map (λ x. x.0) fs))
    frags_plan [] = tt
    frags_plan (f ∷ fs) = (f.1, frags_plan fs)

    arms_plan : (arms : List KnownArm) → ArmsPlan p tags given shown (map arm_fit_of (map (λ x. x.0) arms)) (map arm_hold_of (map (λ x. x.0) arms)) (map arm_of (map (λ x. x.0) arms))
    arms_plan [] = tt
    arms_plan (a ∷ arms) = (a.1, arms_plan arms)

    abbrev LayerPlan : Frag-F Frag FragArm → Type 0
    LayerPlan x = Plans p (fits.step p given (fit_frag x)) (stands.step tags shown (hold_frag x)) (step p slot (plan_frag x))

    frag_plans : (y : Frag-F KnownFrag KnownArm) → LayerPlan (bare_frag y)
    frag_plans (Frag-F.Text text) = layer_plans p _ _ _ (text_comes p tags given shown text)
    frag_plans (Frag-F.Show part) = layer_plans p _ _ _ (show_comes p tags given shown part)
    frag_plans (Frag-F.Element span name attrs children) = layer_plans p _ _ _ (element_comes p tags given shown span name attrs _ _ _ (frags_plan children))
    frag_plans (Frag-F.Tag tag reads) = layer_plans p _ _ _ (tag_comes p tags given shown tag reads)
    frag_plans (Frag-F.Named name lets node) = layer_plans p _ _ (λ at old s. Ok (shape.Nothing, s)) (named_comes p tags given shown name lets (fit_of node.0) (hold_of node.0))
    frag_plans (Frag-F.Slot span name attrs own reads) = layer_plans p _ _ _ (slot_comes p tags given shown span name attrs _ _ reads (slot name) (filled name) _ (frags_plan own))
    frag_plans (Frag-F.If arms None) = layer_plans p _ _ _ (if_comes p tags given shown _ None _ None _ (arms_plan arms) None tt)
    frag_plans (Frag-F.If arms (Some last)) =
        layer_plans p _ _ _ (if_comes p tags given shown _ (Some (map fit_of (map (λ x. x.0) last))) _ (Some (map hold_of (map (λ x. x.0) last))) _ (arms_plan arms) (Some (map plan_of (map (λ x. x.0) last))) (frags_plan last))
    frag_plans (Frag-F.Each list item index key body None) = layer_plans p _ _ _ (each_comes p tags given shown list item index key _ None _ None _ [] (frags_plan body) tt)
    frag_plans (Frag-F.Each list item index key body (Some none)) =
        layer_plans p _ _ _ (each_comes p tags given shown list item index key _ (Some (map fit_of (map (λ x. x.0) none))) _ (Some (map hold_of (map (λ x. x.0) none))) _ _ (frags_plan body) (frags_plan none))
    frag_plans (Frag-F.Key part body) = layer_plans p _ _ _ (key_comes p tags given shown part _ _ _ (frags_plan body))

    frag_whole : (x : Frag-F Frag FragArm) (y : Frag-F KnownFrag KnownArm) → bare_frag y ≡ x → FragPlans (roll-Frag x)
    frag_whole x y e =
        subst (λ f. Plans p f (hold_of (roll-Frag x)) (plan_of (roll-Frag x))) (sym (fold-roll-Frag Fitter ArmFitter (fits.step p given) fits.arm_step x))
        (subst (λ h. Plans p (fits.step p given (fit_frag x)) h (plan_of (roll-Frag x))) (sym (fold-roll-Frag Holder ArmHolder (stands.step tags shown) stands.arm_step x))
        (subst (Plans p (fits.step p given (fit_frag x)) (stands.step tags shown (hold_frag x))) (sym (fold-roll-Frag Planner ArmPlan (step p slot) arm_step x)) (subst LayerPlan e (frag_plans y))))

    arm_whole : (x : FragArm-F Frag FragArm) (y : FragArm-F KnownFrag KnownArm) → bare_arm y ≡ x → ArmPlans (roll-FragArm x)
    arm_whole x y e =
        subst (λ (f : ArmFitter). AllPlan p f.1 (arm_hold_of (roll-FragArm x)).1 (arm_of (roll-FragArm x)).1) (sym (fold-roll-FragArm Fitter ArmFitter (fits.step p given) fits.arm_step x))
        (subst (λ (h : ArmHolder). AllPlan p (fit_arm x).1 h.1 (arm_of (roll-FragArm x)).1) (sym (fold-roll-FragArm Holder ArmHolder (stands.step tags shown) stands.arm_step x))
        (subst (λ (a : ArmPlan). AllPlan p (fit_arm x).1 (hold_arm x).1 a.1) (sym (fold-roll-FragArm Planner ArmPlan (step p slot) arm_step x))
        (subst (λ z. AllPlan p (fit_arm z).1 (hold_arm z).1 (plan_arm z).1) e (frags_plan y.body))))

    all_plan : (fs : List Frag) → AllPlan p (map fit_of fs) (map hold_of fs) (map plan_of fs)
    all_plan [] = tt
    all_plan (f ∷ fs) = (ind-Frag FragPlans ArmPlans frag_whole arm_whole f, all_plan fs)

    walker_walks : (fs : List Frag) → Walks p (all_fitter p given fs) (stands.walker tags shown fs) (walker p slot fs)
    walker_walks fs = each_walks p (map fit_of fs) (map hold_of fs) (map plan_of fs) (all_plan fs)

  -- what is given to slots, by the tags of the levels
  slotted_walks : (tags : List (Option ℕ)) (name : List ℕ) → FilledWalks p tags (fits.slotted p tags) (stands.slotted p tags) (fits.slotted p tags name) (stands.slotted p tags name) (slotted p tags name)
  slotted_walks [] name = tt
  slotted_walks (tag ∷ tags) name = by (slotted_walks tags) (content_at p (tag ∷ tags) name)
    where
      by : ((name' : List ℕ) → FilledWalks p tags (fits.slotted p tags) (stands.slotted p tags) (fits.slotted p tags name') (stands.slotted p tags name') (slotted p tags name')) → (o : Option Content) →
          FilledWalks p (tag ∷ tags) (fits.slotted p (tag ∷ tags)) (stands.slotted p (tag ∷ tags)) (option_map (λ c. all_fitter p (fits.slotted p tags) c.frags) o)
          (option_map (λ c. record { lets = c.lets; walk = stands.walker tags (stands.slotted p tags) c.frags }) o) (option_map (λ c. record { lets = c.lets; walk = walker p (slotted p tags) c.frags }) o)
      by outer None = tt
      by outer (Some c) = (refl, walker_walks tags (fits.slotted p tags) (stands.slotted p tags) (slotted p tags) outer c.frags)

  -- whole plans
  pub plan_walks : (tags : List (Option ℕ)) (frags : List Frag) → Walks p (fits_all p tags frags) (holds p tags frags) (plan_all p tags frags)
  unfolding fits_all holds plan_all
  plan_walks tags frags = walker_walks tags (fits.slotted p tags) (stands.slotted p tags) (slotted p tags) (slotted_walks tags) frags
