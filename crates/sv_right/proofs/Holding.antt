-- Whole markup is drawn alike: an induction over fragments, and over the levels whose tags give content.
use Rattle.std.proofs.Common.{◌≡◌, ℕ, zero, suc, List, [], ◌∷◌, map, Option, Some, None, option_map, unwrap_or, refl, sym, ap, ap₂, ◌∙◌, subst}
use Rattle.sv_code.specs.Names.{Each}
use Rattle.sv_code.specs.declared.fragments.Frag.{Frag, Frag-F, roll-Frag, map-Frag, fold-roll-Frag, ind-Frag}
use Rattle.sv_code.specs.declared.fragments.FragArm.{FragArm, FragArm-F, roll-FragArm, map-FragArm, fold-FragArm, fold-roll-FragArm}
use Rattle.sv_code.specs.declared.parts.Part.{Part}
use Rattle.sv_fresh.specs.Fresh as fresh
use Rattle.sv_fresh.specs.Fresh.{Drawer, Descent, ArmDrawer, Given, walked, frag_step}
use Rattle.sv_fresh.specs.Scene.{Page, Tags}
use Rattle.sv_fresh.specs.Blocks.{choose}
use Rattle.sv_plan.specs.Content.{Content, content_at}
use Rattle.sv_plan.specs.Plan.{body_at, head}
use Rattle.sv_right.proofs.Forms.{if_layer}
use Rattle.sv_right.proofs.Drawing.{now_page, kept_page, Holds, DrawsOne, DrawsAll, DrawsFilled, walk_draws, draws_text, draws_element, draws_tag, draws_slot, draws_if, draws_key, draws_each}
use Rattle.sv_right.specs.Claims.{Claim, Claimer, Filled, ArmClaims, claim_each, arm_step, step, claimer, walker, slotted, claims}
use Rattle.sv_right.specs.Drawing.{DrawsAlike, HoldsWhatEvaluates}
use Rattle.sv_right.specs.Right.{IsTrue}
use Rattle.sv_shapes.specs.Shapes.{opened, arm_in, parts_in}

module _ (page : Page) (evaluates records : Descent) where
  module _ (tags : Tags) (slot : List ℕ → Option Filled) (given given' : Given) (filled : (name : List ℕ) → DrawsFilled page evaluates records (slot name) (given name) (given' name)) where
    -- the claims on a layer
    abbrev claims_step : Frag-F Claimer ArmClaims → Claimer
    claims_step f v old = step tags slot f v (opened old)

    -- what is drawn of a layer, evaluated
    abbrev now_step : Frag-F Drawer ArmDrawer → Drawer
    now_step f v old = frag_step (now_page page evaluates records) evaluates tags given f v (opened old)

    -- what is drawn of a layer, recorded
    abbrev kept_step : Frag-F Drawer ArmDrawer → Drawer
    kept_step f v old = frag_step (kept_page page evaluates records) records tags given' f v (opened old)

    -- the claims on a fragment
    abbrev claim_of : Frag → Claimer
    claim_of = claimer tags slot

    -- what is drawn of a fragment, evaluated
    abbrev now_of : Frag → Drawer
    now_of = fresh.drawer (now_page page evaluates records) evaluates tags given

    -- what is drawn of a fragment, recorded
    abbrev kept_of : Frag → Drawer
    kept_of = fresh.drawer (kept_page page evaluates records) records tags given'

    -- the claims on a branch
    abbrev claim_arm : FragArm → ArmClaims
    claim_arm = fold-FragArm Claimer ArmClaims claims_step arm_step

    -- what is drawn of a branch, evaluated
    abbrev now_arm : FragArm → ArmDrawer
    now_arm = fold-FragArm Drawer ArmDrawer now_step fresh.arm_step

    -- what is drawn of a branch, recorded
    abbrev kept_arm : FragArm → ArmDrawer
    kept_arm = fold-FragArm Drawer ArmDrawer kept_step fresh.arm_step

    -- a fragment is drawn alike
    abbrev FragDraws : Frag → Type 0
    FragDraws f = DrawsOne page evaluates records (claim_of f) (now_of f) (kept_of f)

    -- a branch has the same condition, and is drawn alike
    abbrev ArmHolds : ArmClaims → ArmDrawer → ArmDrawer → Type 0
    ArmHolds a b c = (b.0 ≡ a.0) × DrawsAll page evaluates records (claim_each a.1) (walked b.1) (walked c.1)

    -- a branch is drawn alike
    abbrev ArmDraws : FragArm → Type 0
    ArmDraws a = ArmHolds (claim_arm a) (now_arm a) (kept_arm a)

    -- a fragment that is drawn alike
    abbrev KnownFrag : Type 0
    KnownFrag = (f : Frag) × FragDraws f

    -- a branch that is drawn alike
    abbrev KnownArm : Type 0
    KnownArm = (a : FragArm) × ArmDraws a

    -- the layer without what is known
    abbrev bare_frag : Frag-F KnownFrag KnownArm → Frag-F Frag FragArm
    bare_frag = map-Frag KnownFrag KnownArm Frag FragArm (λ x. x.0) (λ x. x.0)

    -- the branch without what is known
    abbrev bare_arm : FragArm-F KnownFrag KnownArm → FragArm-F Frag FragArm
    bare_arm = map-FragArm KnownFrag KnownArm Frag FragArm (λ x. x.0) (λ x. x.0)

    known_frags : (fs : List KnownFrag) → Each FragDraws (map (λ x. x.0) fs)
    known_frags [] = tt
    known_frags (f ∷ fs) = (f.1, known_frags fs)

    -- fragments beside one another are drawn alike
    abbrev FragsDraw : List Frag → Type 0
    FragsDraw fs = DrawsAll page evaluates records (claim_each (map claim_of fs)) (walked (map now_of fs)) (walked (map kept_of fs))

    children_draw : (fs : List KnownFrag) → FragsDraw (map (λ x. x.0) fs)
    children_draw fs = walk_draws page evaluates records claim_of now_of kept_of (map (λ x. x.0) fs) (known_frags fs)

    known_tests : (arms : List KnownArm) → map (λ a. a.0) (map now_arm (map (λ x. x.0) arms)) ≡ map (λ a. a.0) (map claim_arm (map (λ x. x.0) arms))
    known_tests [] = refl
    known_tests (a ∷ arms) = ap₂ (λ (t : Part) ts. t ∷ ts) a.1.0 (known_tests arms)

    -- the content of a branch, or of the last one
    abbrev BodyDraws : List FragArm → Option (List Frag) → ℕ → Type 0
    BodyDraws arms last i =
        DrawsAll page evaluates records (claim_each (body_at (map claim_arm arms) (option_map (map claim_of) last) i)) (walked (body_at (map now_arm arms) (option_map (map now_of) last) i))
        (walked (body_at (map kept_arm arms) (option_map (map kept_of) last) i))

    body_draws : (arms : List KnownArm) (last : Option (List Frag)) (i : ℕ) → FragsDraw (unwrap_or last []) → BodyDraws (map (λ x. x.0) arms) last i
    body_draws [] None i h = h
    body_draws [] (Some fs) i h = h
    body_draws (a ∷ arms) last zero h = a.1.1
    body_draws (a ∷ arms) last (suc i) h = body_draws arms last i h

    -- the claims on what a layer is made of
    abbrev claimed : Frag-F Frag FragArm → Claimer
    claimed x = claims_step (map-Frag Frag FragArm Claimer ArmClaims claim_of claim_arm x)

    -- what is drawn of it, evaluated
    abbrev now_made : Frag-F Frag FragArm → Drawer
    now_made x = now_step (map-Frag Frag FragArm Drawer ArmDrawer now_of now_arm x)

    -- what is drawn of it, recorded
    abbrev kept_made : Frag-F Frag FragArm → Drawer
    kept_made x = kept_step (map-Frag Frag FragArm Drawer ArmDrawer kept_of kept_arm x)

    -- a layer is drawn alike
    abbrev LayerDraws : Frag-F Frag FragArm → Type 0
    LayerDraws x = DrawsOne page evaluates records (claimed x) (now_made x) (kept_made x)

    if_draws : (arms : List KnownArm) (last : Option (List Claimer)) (now_last kept_last : Option (List Drawer)) →
        ((i : ℕ) → DrawsAll page evaluates records (claim_each (body_at (map claim_arm (map (λ x. x.0) arms)) last i)) (walked (body_at (map now_arm (map (λ x. x.0) arms)) now_last i))
        (walked (body_at (map kept_arm (map (λ x. x.0) arms)) kept_last i))) →
        DrawsOne page evaluates records
        (λ v old. if_layer (map (λ a. a.0) (map claim_arm (map (λ x. x.0) arms))) (λ i. claim_each (body_at (map claim_arm (map (λ x. x.0) arms)) last i)) v (opened old))
        (λ v old. walked (body_at (map now_arm (map (λ x. x.0) arms)) now_last (choose page.program v (map (λ a. a.0) (map now_arm (map (λ x. x.0) arms))) 0)) v (parts_in (opened old)))
        (λ v old. walked (body_at (map kept_arm (map (λ x. x.0) arms)) kept_last (unwrap_or (arm_in (opened old)) 0)) v (parts_in (opened old)))
    if_draws arms last now_last kept_last draws v now kept old h alike named =
        let bare = map (λ x. x.0) arms in
        ap (λ ts. walked (body_at (map now_arm bare) now_last (choose page.program now ts 0)) now (parts_in (opened old))) (known_tests arms)
        ∙ draws_if page evaluates records (map (λ a. a.0) (map claim_arm bare)) (λ i. claim_each (body_at (map claim_arm bare) last i)) (λ i. walked (body_at (map now_arm bare) now_last i))
        (λ i. walked (body_at (map kept_arm bare) kept_last i)) draws v now kept (opened old) h alike named

    frag_layer : (y : Frag-F KnownFrag KnownArm) → LayerDraws (bare_frag y)
    frag_layer (Frag-F.Text text) = λ v now kept old h alike named. refl
    frag_layer (Frag-F.Show part) = λ v now kept old. draws_text page evaluates records part v now kept (opened old)
    frag_layer (Frag-F.Element span name attrs children) = λ v now kept old.
        draws_element page evaluates records name attrs (claim_each (map claim_of (map (λ x. x.0) children))) (walked (map now_of (map (λ x. x.0) children))) (walked (map kept_of (map (λ x. x.0) children)))
        (children_draw children) v now kept (opened old)
    frag_layer (Frag-F.Tag tag reads) = λ v now kept old. draws_tag page evaluates records tags tag v now kept (opened old)
    frag_layer (Frag-F.Named name lets node) = λ v now kept old h alike named. refl
    frag_layer (Frag-F.Slot span name attrs own reads) = λ v now kept old.
        draws_slot page evaluates records attrs (slot name) (given name) (given' name) (claim_each (map claim_of (map (λ x. x.0) own))) (walked (map now_of (map (λ x. x.0) own)))
        (walked (map kept_of (map (λ x. x.0) own))) (filled name) (children_draw own) v now kept (opened old)
    frag_layer (Frag-F.If arms None) = if_draws arms None None None (λ i. body_draws arms None i (children_draw []))
    frag_layer (Frag-F.If arms (Some last)) =
        let bare = map (λ x. x.0) last in
        if_draws arms (Some (map claim_of bare)) (Some (map now_of bare)) (Some (map kept_of bare)) (λ i. body_draws arms (Some bare) i (children_draw last))
    frag_layer (Frag-F.Each list item index key body None) = λ v now kept old.
        draws_each page evaluates records (head list item index key) (claim_each (map claim_of (map (λ x. x.0) body))) (claim_each []) (walked (map now_of (map (λ x. x.0) body)))
        (walked (map kept_of (map (λ x. x.0) body))) (walked []) (walked []) (children_draw body) (children_draw []) v now kept (opened old)
    frag_layer (Frag-F.Each list item index key body (Some none)) = λ v now kept old.
        draws_each page evaluates records (head list item index key) (claim_each (map claim_of (map (λ x. x.0) body))) (claim_each (map claim_of (map (λ x. x.0) none)))
        (walked (map now_of (map (λ x. x.0) body))) (walked (map kept_of (map (λ x. x.0) body))) (walked (map now_of (map (λ x. x.0) none))) (walked (map kept_of (map (λ x. x.0) none)))
        (children_draw body) (children_draw none) v now kept (opened old)
    frag_layer (Frag-F.Key part body) = λ v now kept old.
        draws_key page evaluates records part (claim_each (map claim_of (map (λ x. x.0) body))) (walked (map now_of (map (λ x. x.0) body))) (walked (map kept_of (map (λ x. x.0) body)))
        (children_draw body) v now kept (opened old)

    frag_whole : (x : Frag-F Frag FragArm) (y : Frag-F KnownFrag KnownArm) → bare_frag y ≡ x → FragDraws (roll-Frag x)
    frag_whole x y e =
        subst (λ c. DrawsOne page evaluates records c (now_of (roll-Frag x)) (kept_of (roll-Frag x))) (sym (fold-roll-Frag Claimer ArmClaims claims_step arm_step x))
        (subst (λ d. DrawsOne page evaluates records (claimed x) d (kept_of (roll-Frag x))) (sym (fold-roll-Frag Drawer ArmDrawer now_step fresh.arm_step x))
        (subst (DrawsOne page evaluates records (claimed x) (now_made x)) (sym (fold-roll-Frag Drawer ArmDrawer kept_step fresh.arm_step x)) (subst LayerDraws e (frag_layer y))))

    -- one layer of a branch is drawn alike
    abbrev ArmLayer : FragArm-F Frag FragArm → Type 0
    ArmLayer x =
        ArmHolds (arm_step (map-FragArm Frag FragArm Claimer ArmClaims claim_of claim_arm x)) (fresh.arm_step (map-FragArm Frag FragArm Drawer ArmDrawer now_of now_arm x))
        (fresh.arm_step (map-FragArm Frag FragArm Drawer ArmDrawer kept_of kept_arm x))

    arm_layer : (y : FragArm-F KnownFrag KnownArm) → ArmLayer (bare_arm y)
    arm_layer y = (refl, children_draw y.body)

    arm_whole : (x : FragArm-F Frag FragArm) (y : FragArm-F KnownFrag KnownArm) → bare_arm y ≡ x → ArmDraws (roll-FragArm x)
    arm_whole x y e =
        subst (λ c. ArmHolds c (now_arm (roll-FragArm x)) (kept_arm (roll-FragArm x))) (sym (fold-roll-FragArm Claimer ArmClaims claims_step arm_step x))
        (subst (λ d. ArmHolds (arm_step (map-FragArm Frag FragArm Claimer ArmClaims claim_of claim_arm x)) d (kept_arm (roll-FragArm x))) (sym (fold-roll-FragArm Drawer ArmDrawer now_step fresh.arm_step x))
        (subst (ArmHolds (arm_step (map-FragArm Frag FragArm Claimer ArmClaims claim_of claim_arm x)) (fresh.arm_step (map-FragArm Frag FragArm Drawer ArmDrawer now_of now_arm x)))
        (sym (fold-roll-FragArm Drawer ArmDrawer kept_step fresh.arm_step x)) (subst ArmLayer e (arm_layer y))))

    frags_draw : (fs : List Frag) → Each FragDraws fs
    frags_draw [] = tt
    frags_draw (f ∷ fs) = (ind-Frag FragDraws ArmDraws frag_whole arm_whole f, frags_draw fs)

    walker_draws : (fs : List Frag) → FragsDraw fs
    walker_draws fs = walk_draws page evaluates records claim_of now_of kept_of fs (frags_draw fs)

  slotted_draws : (tags : Tags) (name : List ℕ) →
      DrawsFilled page evaluates records (slotted page.program tags name) (fresh.slotted (now_page page evaluates records) evaluates tags name) (fresh.slotted (kept_page page evaluates records) records tags name)
  slotted_draws [] name = tt
  slotted_draws (tag ∷ tags) name = by (λ x. slotted_draws tags x) (content_at page.program (tag ∷ tags) name)
    where
      by : ((x : List ℕ) → DrawsFilled page evaluates records (slotted page.program tags x) (fresh.slotted (now_page page evaluates records) evaluates tags x) (fresh.slotted (kept_page page evaluates records) records tags x)) →
          (o : Option Content) →
          DrawsFilled page evaluates records (option_map (λ c. record { lets = c.lets; walk = walker tags (slotted page.program tags) c.frags }) o)
          (option_map (λ (c : Content). (c.lets, fresh.walker (now_page page evaluates records) evaluates tags (fresh.slotted (now_page page evaluates records) evaluates tags) c.frags)) o)
          (option_map (λ (c : Content). (c.lets, fresh.walker (kept_page page evaluates records) records tags (fresh.slotted (kept_page page evaluates records) records tags) c.frags)) o)
      by outer None = tt
      by outer (Some c) = (
        (refl, refl),
        walker_draws tags (slotted page.program tags) (fresh.slotted (now_page page evaluates records) evaluates tags) (fresh.slotted (kept_page page evaluates records) records tags) outer c.frags,
      )

  each_both : (cs : List Claim) → Each (IsTrue page.program) cs → Each (DrawsAlike page evaluates records) cs → Each (Holds page evaluates records) cs
  each_both [] h k = tt
  each_both (c ∷ cs) h k = ((h.0, k.0), each_both cs h.1 k.1)

pub holding : HoldsWhatEvaluates
unfolding claims
holding page evaluates records tags frags v now kept shapes right alike named draws =
    walker_draws page evaluates records tags (slotted page.program tags) (fresh.slotted (now_page page evaluates records) evaluates tags) (fresh.slotted (kept_page page evaluates records) records tags)
    (slotted_draws page evaluates records tags) frags v now kept shapes (each_both page evaluates records (walker tags (slotted page.program tags) frags v shapes) right draws) alike named
