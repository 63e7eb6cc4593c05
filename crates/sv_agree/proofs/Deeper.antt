-- A slot that stands so many component tags deep counts where one more tag does, and views that agree there agree here.
use Rattle.std.proofs.Common.{◌≡◌, ℕ, zero, suc, Bool, true, false, ◌||◌, List, [], ◌∷◌, map, Option, Some, None, refl, sym, subst, true≢false}
use Rattle.std.specs.Prelude.{slice_get}
use Rattle.sv_agree.specs.Agreeing.{Counts, in_any, frag_slot, arm_slot, has_slot, slot_in_arm, have_slot, slot_in, slot_in_tag, slot_within, OfOwners, AgreesForTag, AgreesAbove}
use Rattle.sv_code.specs.declared.fragments.Frag.{Frag, Frag-F, roll-Frag, map-Frag, fold-roll-Frag, ind-Frag}
use Rattle.sv_code.specs.declared.fragments.FragArm.{FragArm, FragArm-F, roll-FragArm, map-FragArm, fold-roll-FragArm}
use Rattle.sv_code.specs.declared.program.Program.{Program}
use Rattle.sv_code.specs.declared.tags.Tag.{Tag}
use Rattle.sv_view.specs.Level.{View}
use Rattle.sv_view.specs.View.{owner_of}

or_more : (a b a' b' : Bool) → (a ≡ true → a' ≡ true) → (b ≡ true → b' ≡ true) → (a || b) ≡ true → (a' || b') ≡ true
or_more a b true b' f g e = refl
or_more true b false b' f g e = absurd (true≢false (sym (f refl)))
or_more false b false b' f g e = g e

-- ---- where more counts

module _ (some more : Counts) (all : (k : ℕ) → some k ≡ true → more k ≡ true) where
  abbrev FragMore : Frag → Type 0
  FragMore f = has_slot some f ≡ true → has_slot more f ≡ true

  abbrev ArmMore : FragArm → Type 0
  ArmMore a = slot_in_arm some a ≡ true → slot_in_arm more a ≡ true

  abbrev KnownFrag : Type 0
  KnownFrag = (f : Frag) × FragMore f

  abbrev KnownArm : Type 0
  KnownArm = (a : FragArm) × ArmMore a

  abbrev bare_frag : Frag-F KnownFrag KnownArm → Frag-F Frag FragArm
  bare_frag = map-Frag KnownFrag KnownArm Frag FragArm (λ x. x.0) (λ x. x.0)

  abbrev bare_arm : FragArm-F KnownFrag KnownArm → FragArm-F Frag FragArm
  bare_arm = map-FragArm KnownFrag KnownArm Frag FragArm (λ x. x.0) (λ x. x.0)

  known_frags : (fs : List KnownFrag) → have_slot some (map (λ x. x.0) fs) ≡ true → have_slot more (map (λ x. x.0) fs) ≡ true
  known_frags [] e = e
  known_frags (f ∷ fs) e =
      let bare = map (λ x. x.0) fs in or_more (has_slot some f.0) (have_slot some bare) (has_slot more f.0) (have_slot more bare) f.1 (known_frags fs) e

  known_arms : (arms : List KnownArm) → in_any (map (slot_in_arm some) (map (λ x. x.0) arms)) ≡ true → in_any (map (slot_in_arm more) (map (λ x. x.0) arms)) ≡ true
  known_arms [] e = e
  known_arms (a ∷ arms) e =
      let bare = map (λ x. x.0) arms in
      or_more (slot_in_arm some a.0) (in_any (map (slot_in_arm some) bare)) (slot_in_arm more a.0) (in_any (map (slot_in_arm more) bare)) a.1 (known_arms arms) e

  abbrev layer : Counts → Frag-F Frag FragArm → Bool
  layer counts x = frag_slot counts (map-Frag Frag FragArm Bool Bool (has_slot counts) (slot_in_arm counts) x)

  abbrev LayerMore : Frag-F Frag FragArm → Type 0
  LayerMore x = layer some x ≡ true → layer more x ≡ true

  two_more : (fs gs : List KnownFrag) → (have_slot some (map (λ x. x.0) fs) || have_slot some (map (λ x. x.0) gs)) ≡ true → (have_slot more (map (λ x. x.0) fs) || have_slot more (map (λ x. x.0) gs)) ≡ true
  two_more fs gs =
      let f = map (λ x. x.0) fs in
      let g = map (λ x. x.0) gs in or_more (have_slot some f) (have_slot some g) (have_slot more f) (have_slot more g) (known_frags fs) (known_frags gs)

  arms_more : (arms : List KnownArm) (gs : List KnownFrag) → (in_any (map (slot_in_arm some) (map (λ x. x.0) arms)) || have_slot some (map (λ x. x.0) gs)) ≡ true →
      (in_any (map (slot_in_arm more) (map (λ x. x.0) arms)) || have_slot more (map (λ x. x.0) gs)) ≡ true
  arms_more arms gs =
      let bare = map (λ x. x.0) arms in
      let g = map (λ x. x.0) gs in
      or_more (in_any (map (slot_in_arm some) bare)) (have_slot some g) (in_any (map (slot_in_arm more) bare)) (have_slot more g) (known_arms arms) (known_frags gs)

  frag_layer : (y : Frag-F KnownFrag KnownArm) → LayerMore (bare_frag y)
  frag_layer (Frag-F.Text text) e = e
  frag_layer (Frag-F.Show part) e = e
  frag_layer (Frag-F.Element span name attrs children) e = known_frags children e
  frag_layer (Frag-F.Tag tag reads) e = all tag e
  frag_layer (Frag-F.Named name lets inner) e = inner.1 e
  frag_layer (Frag-F.Slot span name attrs own reads) e = e
  frag_layer (Frag-F.If arms None) e = arms_more arms [] e
  frag_layer (Frag-F.If arms (Some last)) e = arms_more arms last e
  frag_layer (Frag-F.Each list item index key body None) e = two_more body [] e
  frag_layer (Frag-F.Each list item index key body (Some none)) e = two_more body none e
  frag_layer (Frag-F.Key part body) e = known_frags body e

  frag_whole : (x : Frag-F Frag FragArm) (y : Frag-F KnownFrag KnownArm) → bare_frag y ≡ x → FragMore (roll-Frag x)
  frag_whole x y e q =
      subst (λ b. b ≡ true) (sym (fold-roll-Frag Bool Bool (frag_slot more) arm_slot x))
      (subst LayerMore e (frag_layer y) (subst (λ b. b ≡ true) (fold-roll-Frag Bool Bool (frag_slot some) arm_slot x) q))

  abbrev ArmLayer : FragArm-F Frag FragArm → Type 0
  ArmLayer x =
      arm_slot (map-FragArm Frag FragArm Bool Bool (has_slot some) (slot_in_arm some) x) ≡ true → arm_slot (map-FragArm Frag FragArm Bool Bool (has_slot more) (slot_in_arm more) x) ≡ true

  arm_layer : (y : FragArm-F KnownFrag KnownArm) → ArmLayer (bare_arm y)
  arm_layer y e = known_frags y.body e

  arm_whole : (x : FragArm-F Frag FragArm) (y : FragArm-F KnownFrag KnownArm) → bare_arm y ≡ x → ArmMore (roll-FragArm x)
  arm_whole x y e q =
      subst (λ b. b ≡ true) (sym (fold-roll-FragArm Bool Bool (frag_slot more) arm_slot x))
      (subst ArmLayer e (arm_layer y) (subst (λ b. b ≡ true) (fold-roll-FragArm Bool Bool (frag_slot some) arm_slot x) q))

  pub frags_more : (fs : List Frag) → have_slot some fs ≡ true → have_slot more fs ≡ true
  frags_more [] e = e
  frags_more (f ∷ fs) e = or_more (has_slot some f) (have_slot some fs) (has_slot more f) (have_slot more fs) (ind-Frag FragMore ArmMore frag_whole arm_whole f) (frags_more fs) e

-- ---- one tag deeper

tag_deeper : (p : Program) (depth k : ℕ) → slot_in_tag p depth k ≡ true → slot_in_tag p (suc depth) k ≡ true
tag_deeper p zero k e = absurd (true≢false (sym e))
tag_deeper p (suc depth) k e = by (slice_get p.tags k) (tag_deeper p depth) e
  where
    by : (o : Option Tag) → ((j : ℕ) → slot_in_tag p depth j ≡ true → slot_in_tag p (suc depth) j ≡ true) → slot_in (slot_in_tag p depth) o ≡ true → slot_in (slot_in_tag p (suc depth)) o ≡ true
    by None more q = q
    by (Some t) more q = frags_more (slot_in_tag p depth) (slot_in_tag p (suc depth)) more t.content q

-- a slot that stands in fragments stands there one tag deeper, too
pub slot_deeper : (p : Program) (depth : ℕ) (frags : List Frag) → slot_within p depth frags ≡ true → slot_within p (suc depth) frags ≡ true
slot_deeper p depth frags = frags_more (slot_in_tag p depth) (slot_in_tag p (suc depth)) (tag_deeper p depth) frags

tag_less : (p : Program) (depth : ℕ) (t : Option Tag) (owners owners' : OfOwners) (o o' : Option View) → ((x x' : Option View) → owners x x' → owners' x x') → AgreesForTag p (suc depth) t owners o o' →
    AgreesForTag p depth t owners' o o'
tag_less p depth None owners owners' o o' f a = tt
tag_less p depth (Some t) owners owners' None None f a = a
tag_less p depth (Some t) owners owners' None (Some v') f a = a
tag_less p depth (Some t) owners owners' (Some v) None f a = a
tag_less p depth (Some t) owners owners' (Some v) (Some v') f a = (a.0, λ e. f (owner_of v) (owner_of v') (a.1 (slot_deeper p depth t.content e)))

-- owners' views that agree where slots stand one tag deeper agree
pub above_less : (p : Program) (depth : ℕ) (tags tags' : List (Option ℕ)) (o o' : Option View) → AgreesAbove p (suc depth) tags tags' o o' → AgreesAbove p depth tags tags' o o'
above_less p depth [] tags' o o' a = a
above_less p depth (None ∷ tags) tags' o o' a = a
above_less p depth (Some k ∷ tags) [] o o' a = a
above_less p depth (Some k ∷ tags) (tag ∷ tags') o o' a =
    (a.0, tag_less p depth (slice_get p.tags k) (AgreesAbove p (suc depth) tags tags') (AgreesAbove p depth tags tags') o o' (λ x x' b. above_less p depth tags tags' x x' b) a.1)
