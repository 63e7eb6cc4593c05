-- Whole markup stays right: an induction over fragments, and over the levels whose tags give content.
use Rattle.std.proofs.Common.{◌≡◌, ℕ, zero, suc, List, [], ◌∷◌, ◌++◌, map, Option, Some, None, unwrap_or, refl, sym, ap₂, subst, Ok}
use Rattle.std.specs.Prelude.{slice_get}
use Rattle.sv_base.specs.declared.names.Name.{Name}
use Rattle.sv_code.proofs.Each.{each_front, each_back}
use Rattle.sv_code.specs.Names.{Each}
use Rattle.sv_code.specs.Parts as parts
use Rattle.sv_code.specs.Within.{IsWithin}
use Rattle.sv_code.specs.declared.fragments.Frag.{Frag, Frag-F, roll-Frag, map-Frag, fold-roll-Frag, ind-Frag}
use Rattle.sv_code.specs.declared.fragments.FragArm.{FragArm, FragArm-F, roll-FragArm, map-FragArm, fold-FragArm, fold-roll-FragArm}
use Rattle.sv_code.specs.declared.parts.Part.{Part}
use Rattle.sv_code.specs.declared.program.Program.{Program}
use Rattle.sv_code.specs.declared.tags.Tag.{Tag}
use Rattle.sv_parts.specs.Parts.{literal_step, show_step}
use Rattle.sv_parts.specs.Tags.{tag_step}
use Rattle.sv_plan.specs.Plan as plans
use Rattle.sv_plan.specs.Plan.{body_at, head}
use Rattle.sv_right.proofs.Forms.{literal_layer, literal_stays, text_layer, show_stays, element_layer, element_stays, if_layer, if_stays, key_layer, key_stays}
use Rattle.sv_right.proofs.Keys.{compiled_head, IsKeyWithin}
use Rattle.sv_right.proofs.Rows.{each_layer, each_stays}
use Rattle.sv_right.proofs.Slots.{slot_layer, slot_stays, FilledStays}
use Rattle.sv_right.proofs.Standing.{Start, StaysLayer, StaysOne, StayAll, Pairs, by_layer, made, walk_stays}
use Rattle.sv_right.proofs.Steps.{grows_same}
use Rattle.sv_right.proofs.Tags.{tag_layer, tag_stays}
use Rattle.sv_right.specs.Claims.{Claimer, Filled, ArmClaims, claim_each, arm_step, step, claimer, walker}
use Rattle.sv_right.specs.Fits.{Fits}
use Rattle.sv_within.specs.Keys.{Head, in_turn, frag_heads, arm_heads, heads_of, heads_all, IsHeadSeen, AreKeysSeen}
use Rattle.sv_shapes.specs.Shapes.{opened, mark_in, texts_in, place_in}
use Rattle.sv_shapes.specs.declared.shape.Shape.{Shape-F}
use Rattle.sv_shapes.specs.declared.shape.Shape.TheVariants as shape

-- ---- branches

-- the list of an each block looks at what the key of its rows looks at
abbrev Seen : Head → Type 0
Seen h = IsHeadSeen h h.key

-- the plan of a branch, and the claims on it
abbrev ArmPair : Program → Start → plans.ArmPlan → ArmClaims → Type 0
ArmPair p start a b = ((a.0 ≡ b.0) × IsWithin p a.0) × Pairs (StaysOne p start) a.1 b.1

-- the plans of the last branch, and the claims on it
abbrev LastPair : Program → Start → Option (List plans.Planner) → Option (List Claimer) → Type 0
LastPair p start None None = Unit {0}
LastPair p start None (Some cs) = ⊥
LastPair p start (Some ps) None = ⊥
LastPair p start (Some ps) (Some cs) = Pairs (StaysOne p start) ps cs

same_tests : (p : Program) (start : Start) (arms : List plans.ArmPlan) (bs : List ArmClaims) → Pairs (ArmPair p start) arms bs → map (λ a. a.0) arms ≡ map (λ b. b.0) bs
same_tests p start [] [] h = refl
same_tests p start [] (b ∷ bs) h = absurd h
same_tests p start (a ∷ arms) [] h = absurd h
same_tests p start (a ∷ arms) (b ∷ bs) h = ap₂ (λ t ts. t ∷ ts) h.0.0.0 (same_tests p start arms bs h.1)

tests_within : (p : Program) (start : Start) (arms : List plans.ArmPlan) (bs : List ArmClaims) → Pairs (ArmPair p start) arms bs → Each (IsWithin p) (map (λ a. a.0) arms)
tests_within p start [] [] h = tt
tests_within p start [] (b ∷ bs) h = absurd h
tests_within p start (a ∷ arms) [] h = absurd h
tests_within p start (a ∷ arms) (b ∷ bs) h = (h.0.0.1, tests_within p start arms bs h.1)

last_pair : (p : Program) (start : Start) (last : Option (List plans.Planner)) (last' : Option (List Claimer)) → LastPair p start last last' → Pairs (StaysOne p start) (unwrap_or last []) (unwrap_or last' [])
last_pair p start None None h = tt
last_pair p start None (Some cs) h = absurd h
last_pair p start (Some ps) None h = absurd h
last_pair p start (Some ps) (Some cs) h = h

body_pair : (p : Program) (start : Start) (arms : List plans.ArmPlan) (bs : List ArmClaims) (last : Option (List plans.Planner)) (last' : Option (List Claimer)) (i : ℕ) → Pairs (ArmPair p start) arms bs → LastPair p start last last' →
    Pairs (StaysOne p start) (body_at arms last i) (body_at bs last' i)
body_pair p start [] [] last last' i h k = last_pair p start last last' k
body_pair p start [] (b ∷ bs) last last' i h k = absurd h
body_pair p start (a ∷ arms) [] last last' i h k = absurd h
body_pair p start (a ∷ arms) (b ∷ bs) last last' zero h k = h.0.1
body_pair p start (a ∷ arms) (b ∷ bs) last last' (suc i) h k = body_pair p start arms bs last last' i h.1 k

if_pair : (p : Program) (start : Start) (arms : List plans.ArmPlan) (bs : List ArmClaims) (last : Option (List plans.Planner)) (last' : Option (List Claimer)) → Pairs (ArmPair p start) arms bs → LastPair p start last last' →
    StaysLayer p start (λ at held s. plans.if_step p (map (λ a. a.0) arms) (λ i. plans.plan_each (body_at arms last i)) at held s) (if_layer (map (λ b. b.0) bs) (λ i. claim_each (body_at bs last' i)))
if_pair p start arms bs last last' h k =
    subst (λ ts. StaysLayer p start (λ at held s. plans.if_step p (map (λ a. a.0) arms) (λ i. plans.plan_each (body_at arms last i)) at held s) (if_layer ts (λ i. claim_each (body_at bs last' i)))) (same_tests p start arms bs h)
    (if_stays p start (map (λ a. a.0) arms) (λ i. plans.plan_each (body_at arms last i)) (λ i. claim_each (body_at bs last' i)) (tests_within p start arms bs h)
    (λ i. walk_stays p start (body_at arms last i) (body_at bs last' i) (body_pair p start arms bs last last' i h k)))

key_within : (p : Program) (key : Option Part) → Each (IsWithin p) (parts.if_any (λ k. k ∷ []) key) → IsKeyWithin p key
key_within p None h = tt
key_within p (Some k) h = h.0

-- what goes to a slot with a name shows nothing where it is written
nothing_stays : (p : Program) (start : Start) → StaysLayer p start (λ at held s. Ok (shape.Nothing, s)) (λ v held. [])
nothing_stays p start at held s was = (made p start (λ v o. []) at.new s.counters.next shape.Nothing Shape-F.Nothing shape.outs-Nothing (record { right = tt; below = tt }), grows_same s)

-- ---- fragments

module _ (p : Program) (start : Start) (tags : List (Option ℕ)) (slot : List ℕ → Option plans.Filled) (slot' : List ℕ → Option Filled) (filled : (name : List ℕ) → FilledStays p start (slot name) (slot' name))
    (tag_fits : (k : ℕ) (t : Tag) → slice_get p.tags k ≡ Some t → Each (IsWithin p) (parts.of_attrs t.attrs)) where
  -- the plan of a fragment
  abbrev plan_of : Frag → plans.Planner
  plan_of = plans.planner p slot

  -- the plan of a branch
  abbrev plan_arm : FragArm → plans.ArmPlan
  plan_arm = fold-FragArm plans.Planner plans.ArmPlan (plans.step p slot) plans.arm_step

  -- the claims on a layer
  abbrev claims_step : Frag-F Claimer ArmClaims → Claimer
  claims_step f v old = step tags slot' f v (opened old)

  -- the claims on a fragment
  abbrev claim_of : Frag → Claimer
  claim_of = claimer tags slot'

  -- the claims on a branch
  abbrev claim_arm : FragArm → ArmClaims
  claim_arm = fold-FragArm Claimer ArmClaims claims_step arm_step

  -- the parts in a branch
  abbrev arm_parts : FragArm → List Part
  arm_parts = fold-FragArm (List Part) (List Part) parts.frag parts.arm

  -- the heads of each blocks in a branch
  abbrev heads_in : FragArm → List Head
  heads_in = fold-FragArm (List Head) (List Head) frag_heads arm_heads

  -- a fragment stays right
  abbrev FragStays : Frag → Type 0
  FragStays f = Each (IsWithin p) (parts.of_frag f) → Each Seen (heads_of f) → StaysOne p start (plan_of f) (claim_of f)

  -- a branch stays right
  abbrev ArmStays : FragArm → Type 0
  ArmStays a = Each (IsWithin p) (arm_parts a) → Each Seen (heads_in a) → ArmPair p start (plan_arm a) (claim_arm a)

  -- a fragment that stays right
  abbrev KnownFrag : Type 0
  KnownFrag = (f : Frag) × FragStays f

  -- a branch that stays right
  abbrev KnownArm : Type 0
  KnownArm = (a : FragArm) × ArmStays a

  -- the layer without what is known
  abbrev bare_frag : Frag-F KnownFrag KnownArm → Frag-F Frag FragArm
  bare_frag = map-Frag KnownFrag KnownArm Frag FragArm (λ x. x.0) (λ x. x.0)

  -- the branch without what is known
  abbrev bare_arm : FragArm-F KnownFrag KnownArm → FragArm-F Frag FragArm
  bare_arm = map-FragArm KnownFrag KnownArm Frag FragArm (λ x. x.0) (λ x. x.0)

  known_frags : (fs : List KnownFrag) → Each (IsWithin p) (parts.in_turn (map parts.of_frag (map (λ x. x.0) fs))) → Each Seen (in_turn (map heads_of (map (λ x. x.0) fs))) →
      Pairs (StaysOne p start) (map plan_of (map (λ x. x.0) fs)) (map claim_of (map (λ x. x.0) fs))
  known_frags [] h k = tt
  known_frags (f ∷ fs) h k = (
    f.1 (each_front (IsWithin p) (parts.of_frag f.0) (parts.in_turn (map parts.of_frag (map (λ x. x.0) fs))) h) (each_front Seen (heads_of f.0) (in_turn (map heads_of (map (λ x. x.0) fs))) k),
    known_frags fs (each_back (IsWithin p) (parts.of_frag f.0) (parts.in_turn (map parts.of_frag (map (λ x. x.0) fs))) h) (each_back Seen (heads_of f.0) (in_turn (map heads_of (map (λ x. x.0) fs))) k),
  )

  known_arms : (arms : List KnownArm) → Each (IsWithin p) (parts.in_turn (map arm_parts (map (λ x. x.0) arms))) → Each Seen (in_turn (map heads_in (map (λ x. x.0) arms))) →
      Pairs (ArmPair p start) (map plan_arm (map (λ x. x.0) arms)) (map claim_arm (map (λ x. x.0) arms))
  known_arms [] h k = tt
  known_arms (a ∷ arms) h k = (
    a.1 (each_front (IsWithin p) (arm_parts a.0) (parts.in_turn (map arm_parts (map (λ x. x.0) arms))) h) (each_front Seen (heads_in a.0) (in_turn (map heads_in (map (λ x. x.0) arms))) k),
    known_arms arms (each_back (IsWithin p) (arm_parts a.0) (parts.in_turn (map arm_parts (map (λ x. x.0) arms))) h) (each_back Seen (heads_in a.0) (in_turn (map heads_in (map (λ x. x.0) arms))) k),
  )

  children_stay : (fs : List KnownFrag) → Each (IsWithin p) (parts.in_turn (map parts.of_frag (map (λ x. x.0) fs))) → Each Seen (in_turn (map heads_of (map (λ x. x.0) fs))) →
      StayAll p start (plans.plan_each (map plan_of (map (λ x. x.0) fs))) (claim_each (map claim_of (map (λ x. x.0) fs)))
  children_stay fs h k = walk_stays p start (map plan_of (map (λ x. x.0) fs)) (map claim_of (map (λ x. x.0) fs)) (known_frags fs h k)

  -- what is planned of a layer, claimed of it, found in it
  abbrev planned : Frag-F Frag FragArm → plans.Planner
  planned x = plans.step p slot (map-Frag Frag FragArm plans.Planner plans.ArmPlan plan_of plan_arm x)

  abbrev claimed : Frag-F Frag FragArm → Claimer
  claimed x = claims_step (map-Frag Frag FragArm Claimer ArmClaims claim_of claim_arm x)

  abbrev parts_of : Frag-F Frag FragArm → List Part
  parts_of x = parts.frag (map-Frag Frag FragArm (List Part) (List Part) parts.of_frag arm_parts x)

  abbrev heads_at : Frag-F Frag FragArm → List Head
  heads_at x = frag_heads (map-Frag Frag FragArm (List Head) (List Head) heads_of heads_in x)

  -- a layer stays right
  abbrev LayerStays : Frag-F Frag FragArm → Type 0
  LayerStays x = Each (IsWithin p) (parts_of x) → Each Seen (heads_at x) → StaysOne p start (planned x) (claimed x)

  each_form : (list : Part) (item : Name) (index : Option Name) (key : Option Part) (body : List KnownFrag) (none : List KnownFrag) →
      Each (IsWithin p) (list ∷ (parts.if_any (λ k. k ∷ []) key ++ (parts.in_turn (map parts.of_frag (map (λ x. x.0) body)) ++ parts.in_turn (map parts.of_frag (map (λ x. x.0) none))))) →
      Each Seen (compiled_head (head list item index key) ∷ (in_turn (map heads_of (map (λ x. x.0) body)) ++ in_turn (map heads_of (map (λ x. x.0) none)))) →
      StaysLayer p start (λ at held s. plans.each_step p (head list item index key) (plans.plan_each (map plan_of (map (λ x. x.0) body))) (plans.plan_each (map plan_of (map (λ x. x.0) none))) at held s)
      (each_layer (head list item index key) (claim_each (map claim_of (map (λ x. x.0) body))) (claim_each (map claim_of (map (λ x. x.0) none))))
  each_form list item index key body none h k =
      let keys = parts.if_any (λ k. k ∷ []) key in
      let body_parts = parts.in_turn (map parts.of_frag (map (λ x. x.0) body)) in
      let none_parts = parts.in_turn (map parts.of_frag (map (λ x. x.0) none)) in
      let body_heads = in_turn (map heads_of (map (λ x. x.0) body)) in
      let none_heads = in_turn (map heads_of (map (λ x. x.0) none)) in
      let rest = each_back (IsWithin p) keys (body_parts ++ none_parts) h.1 in
      each_stays p start (head list item index key) (plans.plan_each (map plan_of (map (λ x. x.0) body))) (claim_each (map claim_of (map (λ x. x.0) body))) (plans.plan_each (map plan_of (map (λ x. x.0) none)))
      (claim_each (map claim_of (map (λ x. x.0) none))) (record { list = h.0; key = key_within p key (each_front (IsWithin p) keys (body_parts ++ none_parts) h.1); seen = k.0 })
      (children_stay body (each_front (IsWithin p) body_parts none_parts rest) (each_front Seen body_heads none_heads k.1))
      (children_stay none (each_back (IsWithin p) body_parts none_parts rest) (each_back Seen body_heads none_heads k.1))

  frag_layer : (y : Frag-F KnownFrag KnownArm) → LayerStays (bare_frag y)
  frag_layer (Frag-F.Text text) h k = by_layer p start (λ at held s. literal_step (mark_in held) s) literal_layer (literal_stays p start)
  frag_layer (Frag-F.Show part) h k = by_layer p start (λ at held s. show_step p part at held s) (text_layer part) (show_stays p start part h.0)
  frag_layer (Frag-F.Element span name attrs children) h k =
      let within = parts.in_turn (map parts.of_frag (map (λ x. x.0) children)) in
      by_layer p start (λ at held s. plans.element_step p attrs (plans.plan_each (map plan_of (map (λ x. x.0) children))) at held s) (element_layer attrs (claim_each (map claim_of (map (λ x. x.0) children))))
      (element_stays p start attrs (plans.plan_each (map plan_of (map (λ x. x.0) children))) (claim_each (map claim_of (map (λ x. x.0) children))) (each_front (IsWithin p) (parts.of_attrs attrs) within h)
      (children_stay children (each_back (IsWithin p) (parts.of_attrs attrs) within h) k))
  frag_layer (Frag-F.Tag tag reads) h k = by_layer p start (λ at held s. tag_step p tag (place_in held) (texts_in held) at s) (tag_layer tags tag) (tag_stays p start tags tag (tag_fits tag))
  frag_layer (Frag-F.Named name lets node) h k = by_layer p start (λ at held s. Ok (shape.Nothing, s)) (λ v held. []) (nothing_stays p start)
  frag_layer (Frag-F.Slot span name attrs own reads) h k =
      let within = parts.in_turn (map parts.of_frag (map (λ x. x.0) own)) in
      by_layer p start (λ at held s. plans.slot_step p attrs (slot name) (plans.plan_each (map plan_of (map (λ x. x.0) own))) at held s)
      (slot_layer attrs (slot' name) (claim_each (map claim_of (map (λ x. x.0) own))))
      (slot_stays p start attrs (slot name) (slot' name) (plans.plan_each (map plan_of (map (λ x. x.0) own))) (claim_each (map claim_of (map (λ x. x.0) own)))
      (each_front (IsWithin p) (parts.of_attrs attrs) within h) (filled name) (children_stay own (each_back (IsWithin p) (parts.of_attrs attrs) within h) k))
  frag_layer (Frag-F.If arms None) h k =
      let bare = map (λ x. x.0) arms in
      by_layer p start (λ at held s. plans.if_step p (map (λ a. a.0) (map plan_arm bare)) (λ i. plans.plan_each (body_at (map plan_arm bare) None i)) at held s)
      (if_layer (map (λ b. b.0) (map claim_arm bare)) (λ i. claim_each (body_at (map claim_arm bare) None i)))
      (if_pair p start (map plan_arm bare) (map claim_arm bare) None None
      (known_arms arms (each_front (IsWithin p) (parts.in_turn (map arm_parts bare)) [] h) (each_front Seen (in_turn (map heads_in bare)) [] k)) tt)
  frag_layer (Frag-F.If arms (Some last)) h k =
      let bare = map (λ x. x.0) arms in
      let ls = map (λ x. x.0) last in
      by_layer p start (λ at held s. plans.if_step p (map (λ a. a.0) (map plan_arm bare)) (λ i. plans.plan_each (body_at (map plan_arm bare) (Some (map plan_of ls)) i)) at held s)
      (if_layer (map (λ b. b.0) (map claim_arm bare)) (λ i. claim_each (body_at (map claim_arm bare) (Some (map claim_of ls)) i)))
      (if_pair p start (map plan_arm bare) (map claim_arm bare) (Some (map plan_of ls)) (Some (map claim_of ls))
      (known_arms arms (each_front (IsWithin p) (parts.in_turn (map arm_parts bare)) (parts.in_turn (map parts.of_frag ls)) h)
      (each_front Seen (in_turn (map heads_in bare)) (in_turn (map heads_of ls)) k))
      (known_frags last (each_back (IsWithin p) (parts.in_turn (map arm_parts bare)) (parts.in_turn (map parts.of_frag ls)) h)
      (each_back Seen (in_turn (map heads_in bare)) (in_turn (map heads_of ls)) k)))
  frag_layer (Frag-F.Each list item index key body None) h k =
      by_layer p start (λ at held s. plans.each_step p (head list item index key) (plans.plan_each (map plan_of (map (λ x. x.0) body))) (plans.plan_each []) at held s)
      (each_layer (head list item index key) (claim_each (map claim_of (map (λ x. x.0) body))) (claim_each [])) (each_form list item index key body [] h k)
  frag_layer (Frag-F.Each list item index key body (Some none)) h k =
      by_layer p start (λ at held s. plans.each_step p (head list item index key) (plans.plan_each (map plan_of (map (λ x. x.0) body))) (plans.plan_each (map plan_of (map (λ x. x.0) none))) at held s)
      (each_layer (head list item index key) (claim_each (map claim_of (map (λ x. x.0) body))) (claim_each (map claim_of (map (λ x. x.0) none)))) (each_form list item index key body none h k)
  frag_layer (Frag-F.Key part body) h k =
      by_layer p start (λ at held s. plans.key_step p part (plans.plan_each (map plan_of (map (λ x. x.0) body))) at held s) (key_layer part (claim_each (map claim_of (map (λ x. x.0) body))))
      (key_stays p start part (plans.plan_each (map plan_of (map (λ x. x.0) body))) (claim_each (map claim_of (map (λ x. x.0) body))) h.0 (children_stay body h.1 k))

  frag_whole : (x : Frag-F Frag FragArm) (y : Frag-F KnownFrag KnownArm) → bare_frag y ≡ x → FragStays (roll-Frag x)
  frag_whole x y e h k =
      subst (λ g. StaysOne p start g (claim_of (roll-Frag x))) (sym (fold-roll-Frag plans.Planner plans.ArmPlan (plans.step p slot) plans.arm_step x))
      (subst (StaysOne p start (planned x)) (sym (fold-roll-Frag Claimer ArmClaims claims_step arm_step x))
      (subst LayerStays e (frag_layer y) (subst (Each (IsWithin p)) (fold-roll-Frag (List Part) (List Part) parts.frag parts.arm x) h)
      (subst (Each Seen) (fold-roll-Frag (List Head) (List Head) frag_heads arm_heads x) k)))

  -- one layer of a branch stays right
  abbrev ArmLayer : FragArm-F Frag FragArm → Type 0
  ArmLayer x =
      Each (IsWithin p) (parts.arm (map-FragArm Frag FragArm (List Part) (List Part) parts.of_frag arm_parts x)) → Each Seen (arm_heads (map-FragArm Frag FragArm (List Head) (List Head) heads_of heads_in x)) →
      ArmPair p start (plans.arm_step (map-FragArm Frag FragArm plans.Planner plans.ArmPlan plan_of plan_arm x)) (arm_step (map-FragArm Frag FragArm Claimer ArmClaims claim_of claim_arm x))

  arm_layer : (y : FragArm-F KnownFrag KnownArm) → ArmLayer (bare_arm y)
  arm_layer y h k = ((refl, h.0), known_frags y.body h.1 k)

  arm_whole : (x : FragArm-F Frag FragArm) (y : FragArm-F KnownFrag KnownArm) → bare_arm y ≡ x → ArmStays (roll-FragArm x)
  arm_whole x y e h k =
      subst (λ g. ArmPair p start g (claim_arm (roll-FragArm x))) (sym (fold-roll-FragArm plans.Planner plans.ArmPlan (plans.step p slot) plans.arm_step x))
      (subst (ArmPair p start (plans.arm_step (map-FragArm Frag FragArm plans.Planner plans.ArmPlan plan_of plan_arm x))) (sym (fold-roll-FragArm Claimer ArmClaims claims_step arm_step x))
      (subst ArmLayer e (arm_layer y) (subst (Each (IsWithin p)) (fold-roll-FragArm (List Part) (List Part) parts.frag parts.arm x) h)
      (subst (Each Seen) (fold-roll-FragArm (List Head) (List Head) frag_heads arm_heads x) k)))

  frags_stay : (fs : List Frag) → Each (IsWithin p) (parts.of_frags fs) → AreKeysSeen fs → Pairs (StaysOne p start) (map plan_of fs) (map claim_of fs)
  frags_stay [] h k = tt
  frags_stay (f ∷ fs) h k = (
    ind-Frag FragStays ArmStays frag_whole arm_whole f (each_front (IsWithin p) (parts.of_frag f) (parts.of_frags fs) h) (each_front Seen (heads_of f) (heads_all fs) k),
    frags_stay fs (each_back (IsWithin p) (parts.of_frag f) (parts.of_frags fs) h) (each_back Seen (heads_of f) (heads_all fs) k),
  )

  pub walker_stays : (fs : List Frag) → Fits p fs → StayAll p start (plans.walker p slot fs) (walker tags slot' fs)
  walker_stays fs fits = walk_stays p start (map plan_of fs) (map claim_of fs) (frags_stay fs fits.within fits.keys)
