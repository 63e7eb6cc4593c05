-- The holds that claims on whole markup tell: each form of a fragment, the induction over fragments, and over the tags of the levels of a view.
use Rattle.std.proofs.Common.{◌≡◌, ℕ, zero, suc, true, List, [], ◌∷◌, ◌++◌, map, Option, Some, None, option_map, refl, sym, ap, ap₂, ◌∙◌, subst, unwrap_or}
use Rattle.sv_agree.proofs.Claiming.{told, told_append, OneTells, Tells, tells_none, EachTells, each_tells, LayerTells, layer_tells, rows_same, none_same, FilledTells, content_tells, slot_bare}
use Rattle.sv_agree.specs.Holding.{HoldsAreClaimed}
use Rattle.sv_base.specs.declared.names.Name.{Name}
use Rattle.sv_base.specs.declared.span.Span.{Span}
use Rattle.sv_code.specs.declared.fragments.Frag.{Frag, Frag-F, roll-Frag, map-Frag, fold-roll-Frag, ind-Frag}
use Rattle.sv_code.specs.declared.fragments.FragArm.{FragArm, FragArm-F, roll-FragArm, map-FragArm, fold-FragArm, fold-roll-FragArm}
use Rattle.sv_code.specs.declared.fragments.FragAttr.{FragAttr}
use Rattle.sv_code.specs.declared.fragments.LetName.{LetName}
use Rattle.sv_code.specs.declared.parts.Part.{Part}
use Rattle.sv_code.specs.declared.parts.Reading.{Reading}
use Rattle.sv_code.specs.declared.program.Program.{Program}
use Rattle.sv_places.proofs.Walks.{both-true}
use Rattle.sv_places.specs.Fits as fits
use Rattle.sv_places.specs.Fits.{Fitter, AllFitter, ArmFitter, fit_each, rows_fit, are_once, is_empty, layer_fits, fitter, all_fitter, fits_all}
use Rattle.sv_plan.specs.Content.{Content, content_at}
use Rattle.sv_plan.specs.Plan.{body_at, head}
use Rattle.sv_plan.specs.Slots.{content_view}
use Rattle.sv_right.specs.Claims as claims
use Rattle.sv_right.specs.Claims.{Claimer, Walker, ArmClaims, claim_each, rows_claims, none_claims, slot_claims, claimer}
use Rattle.sv_shapes.specs.Shapes.{opened}
use Rattle.sv_shapes.specs.declared.shape.Row.{Row}
use Rattle.sv_shapes.specs.declared.shape.Shape.{Shape, Shape-F}
use Rattle.sv_shapes.specs.declared.shape.SlotProp.{SlotProp}
use Rattle.sv_stands.specs.Holds as holds
use Rattle.sv_stands.specs.Holds.{Hold, Holder, AllHolder, ArmHolder, hold_each, rows_hold, slot_holds, layer_holds, holder}
use Rattle.sv_view.specs.Level.{View}

module _ (p : Program) where
  module _ (tags : List (Option ℕ)) (given : List ℕ → Option AllFitter) (stood : List ℕ → Option holds.Filled) (claimed : List ℕ → Option claims.Filled)
      (filled : (name : List ℕ) → FilledTells (given name) (stood name) (claimed name)) where
    abbrev FragTells : Frag-F Fitter ArmFitter → Frag-F Holder ArmHolder → Frag-F Claimer ArmClaims → Type 0
    FragTells f h c = LayerTells (layer_fits p given f) (layer_holds tags stood h) (claims.step tags claimed c)

    -- ---- what holds nothing, and tags

    text_tells : (text : List ℕ) → FragTells (Frag-F.Text text) (Frag-F.Text text) (Frag-F.Text text)
    text_tells text = record { bare = λ v. refl; shown = λ v y e. refl }

    show_tells : (part : Part) → FragTells (Frag-F.Show part) (Frag-F.Show part) (Frag-F.Show part)
    show_tells part = record { bare = λ v. refl; shown = λ v y e. refl }

    named_tells : (name : List ℕ) (lets : List LetName) (node : Fitter) (stand : Holder) (claim : Claimer) → FragTells (Frag-F.Named name lets node) (Frag-F.Named name lets stand) (Frag-F.Named name lets claim)
    named_tells name lets node stand claim = record { bare = λ v. refl; shown = λ v y e. refl }

    tag_tells : (k : ℕ) (reads : Reading) → FragTells (Frag-F.Tag k reads) (Frag-F.Tag k reads) (Frag-F.Tag k reads)
    tag_tells k reads = record { bare = λ v. refl; shown = shown }
      where
        shown : (v : View) (y : Shape-F Shape Row) → layer_fits p given (Frag-F.Tag k reads) y ≡ true → told (claims.step tags claimed (Frag-F.Tag k reads) v (Some y)) ≡ layer_holds tags stood (Frag-F.Tag k reads) v y
        shown v (Shape-F.Tag place texts) e = refl
        shown v Shape-F.Nothing e = refl
        shown v _ e = absurd (cc)

    -- ---- elements, key blocks and slots

    module _ (fitting : List Fitter) (standing : List Holder) (claiming : List Claimer) (k : Tells (fit_each fitting) (hold_each standing) (claim_each claiming)) where
      element_tells : (span : Span) (name : List ℕ) (attrs : List FragAttr) → FragTells (Frag-F.Element span name attrs fitting) (Frag-F.Element span name attrs standing) (Frag-F.Element span name attrs claiming)
      element_tells span name attrs = record { bare = tells_none (fit_each fitting) (hold_each standing) (claim_each claiming) k; shown = shown }
        where
          shown : (v : View) (y : Shape-F Shape Row) → layer_fits p given (Frag-F.Element span name attrs fitting) y ≡ true →
              told (claims.step tags claimed (Frag-F.Element span name attrs claiming) v (Some y)) ≡ layer_holds tags stood (Frag-F.Element span name attrs standing) v y
          shown v (Shape-F.Element mark typed states parts) e = k.same v parts e
          shown v _ e = absurd (cc)

      key_tells : (part : Part) → FragTells (Frag-F.Key part fitting) (Frag-F.Key part standing) (Frag-F.Key part claiming)
      key_tells part = record { bare = tells_none (fit_each fitting) (hold_each standing) (claim_each claiming) k; shown = shown }
        where
          shown : (v : View) (y : Shape-F Shape Row) → layer_fits p given (Frag-F.Key part fitting) y ≡ true →
              told (claims.step tags claimed (Frag-F.Key part claiming) v (Some y)) ≡ layer_holds tags stood (Frag-F.Key part standing) v y
          shown v (Shape-F.Key state parts) e = k.same v parts e
          shown v _ e = absurd (cc)

      slot_tells : (span : Span) (name : List ℕ) (attrs : List FragAttr) (reads : Reading) → FragTells (Frag-F.Slot span name attrs fitting reads) (Frag-F.Slot span name attrs standing reads) (Frag-F.Slot span name attrs claiming reads)
      slot_tells span name attrs reads = record { bare = λ v. ap told (slot_bare (claimed name) (claim_each claiming) v) ∙ tells_none _ _ _ (content []) v; shown = shown }
        where
          content : (props : List SlotProp) → Tells (unwrap_or (given name) (fit_each fitting)) (λ v parts. slot_holds (stood name) (hold_each standing) v props parts) (λ v parts. slot_claims (claimed name) (claim_each claiming) v (Some (Shape-F.Slot props parts)))
          content = content_tells (given name) (stood name) (claimed name) (filled name) (fit_each fitting) (hold_each standing) (claim_each claiming) k

          shown : (v : View) (y : Shape-F Shape Row) → layer_fits p given (Frag-F.Slot span name attrs fitting reads) y ≡ true →
              told (claims.step tags claimed (Frag-F.Slot span name attrs claiming reads) v (Some y)) ≡ layer_holds tags stood (Frag-F.Slot span name attrs standing reads) v y
          shown v (Shape-F.Slot props parts) e = (content props).same v parts e
          shown v _ e = absurd (cc)

    -- ---- if blocks

    abbrev ArmsTell : List ArmFitter → List ArmHolder → List ArmClaims → Type 0
    ArmsTell [] [] [] = Unit {0}
    ArmsTell [] [] (c ∷ claiming) = ⊥
    ArmsTell [] (b ∷ standing) claiming = ⊥
    ArmsTell (f ∷ fitting) [] claiming = ⊥
    ArmsTell (f ∷ fitting) (b ∷ standing) [] = ⊥
    ArmsTell (f ∷ fitting) (b ∷ standing) (c ∷ claiming) = EachTells f.1 b.1 c.1 × ArmsTell fitting standing claiming

    body_tells : (fitting : List ArmFitter) (standing : List ArmHolder) (claiming : List ArmClaims) → ArmsTell fitting standing claiming →
        (last_fits : Option (List Fitter)) (last_holds : Option (List Holder)) (last_claims : Option (List Claimer)) → EachTells (unwrap_or last_fits []) (unwrap_or last_holds []) (unwrap_or last_claims []) → (i : ℕ) →
        EachTells (body_at fitting last_fits i) (body_at standing last_holds i) (body_at claiming last_claims i)
    body_tells [] [] [] q last_fits last_holds last_claims r i = r
    body_tells [] [] (c ∷ claiming) q last_fits last_holds last_claims r i = elim q [ ]
    body_tells [] (b ∷ standing) claiming q last_fits last_holds last_claims r i = elim q [ ]
    body_tells (f ∷ fitting) [] claiming q last_fits last_holds last_claims r i = elim q [ ]
    body_tells (f ∷ fitting) (b ∷ standing) [] q last_fits last_holds last_claims r i = elim q [ ]
    body_tells (f ∷ fitting) (b ∷ standing) (c ∷ claiming) q last_fits last_holds last_claims r zero = q.0
    body_tells (f ∷ fitting) (b ∷ standing) (c ∷ claiming) q last_fits last_holds last_claims r (suc i) = body_tells fitting standing claiming q.1 last_fits last_holds last_claims r i

    if_tells : (fitting : List ArmFitter) (standing : List ArmHolder) (claiming : List ArmClaims) (last_fits : Option (List Fitter)) (last_holds : Option (List Holder)) (last_claims : Option (List Claimer)) →
        ((i : ℕ) → Tells (fit_each (body_at fitting last_fits i)) (hold_each (body_at standing last_holds i)) (claim_each (body_at claiming last_claims i))) →
        FragTells (Frag-F.If fitting last_fits) (Frag-F.If standing last_holds) (Frag-F.If claiming last_claims)
    if_tells fitting standing claiming last_fits last_holds last_claims k = record { bare = tells_none _ _ _ (k 0); shown = shown }
      where
        shown : (v : View) (y : Shape-F Shape Row) → layer_fits p given (Frag-F.If fitting last_fits) y ≡ true →
            told (claims.step tags claimed (Frag-F.If claiming last_claims) v (Some y)) ≡ layer_holds tags stood (Frag-F.If standing last_holds) v y
        shown v (Shape-F.If arm parts) e = (k arm).same v parts e
        shown v _ e = absurd (cc)

    -- ---- each blocks

    module _ (list : Part) (item : Name) (index : Option Name) (key : Option Part) (fitting : List Fitter) (standing : List Holder) (claiming : List Claimer) (k : Tells (fit_each fitting) (hold_each standing) (claim_each claiming))
        (last_fits : Option (List Fitter)) (last_holds : Option (List Holder)) (last_claims : Option (List Claimer)) (l : Tells (fit_each (unwrap_or last_fits [])) (hold_each (unwrap_or last_holds [])) (claim_each (unwrap_or last_claims []))) where
      list_shown : (v : View) (y : Shape-F Shape Row) → layer_fits p given (Frag-F.Each list item index key fitting last_fits) y ≡ true →
          told (claims.step tags claimed (Frag-F.Each list item index key claiming last_claims) v (Some y)) ≡ layer_holds tags stood (Frag-F.Each list item index key standing last_holds) v y
      list_shown v (Shape-F.Each number rows none) e =
          let h = head list item index key in
          let idle = both-true _ _ e in
          let last = both-true _ _ idle.0 in
          let body = both-true _ _ last.0 in
          told_append (rows_claims h (claim_each claiming) number v rows) (none_claims (claim_each (unwrap_or last_claims [])) v rows none)
          ∙ ap₂ (λ xs ys. xs ++ ys) (rows_same h (fit_each fitting) (hold_each standing) (claim_each claiming) k number v 0 rows body.1)
          (none_same (fit_each (unwrap_or last_fits [])) (hold_each (unwrap_or last_holds [])) (claim_each (unwrap_or last_claims [])) l v rows none last.1 idle.1)
      list_shown v _ e = absurd (cc)

      list_tells : FragTells (Frag-F.Each list item index key fitting last_fits) (Frag-F.Each list item index key standing last_holds) (Frag-F.Each list item index key claiming last_claims)
      list_tells = record { bare = tells_none _ _ _ l; shown = list_shown }

    -- ---- fragments, with what is known of each

    abbrev fit_of : Frag → Fitter
    fit_of = fitter p given

    abbrev arm_fit_of : FragArm → ArmFitter
    arm_fit_of = fold-FragArm Fitter ArmFitter (fits.step p given) fits.arm_step

    abbrev hold_of : Frag → Holder
    hold_of = holder tags stood

    abbrev arm_hold_of : FragArm → ArmHolder
    arm_hold_of = fold-FragArm Holder ArmHolder (holds.step tags stood) holds.arm_step

    abbrev claim_step : Frag-F Claimer ArmClaims → Claimer
    claim_step f v old = claims.step tags claimed f v (opened old)

    abbrev claim_of : Frag → Claimer
    claim_of = claimer tags claimed

    abbrev arm_claim_of : FragArm → ArmClaims
    arm_claim_of = fold-FragArm Claimer ArmClaims claim_step claims.arm_step

    abbrev IsFrag : Frag → Type 0
    IsFrag f = OneTells (fit_of f) (hold_of f) (claim_of f)

    abbrev IsArm : FragArm → Type 0
    IsArm a = EachTells (arm_fit_of a).1 (arm_hold_of a).1 (arm_claim_of a).1

    abbrev KnownFrag : Type 0
    KnownFrag = (f : Frag) × IsFrag f

    abbrev KnownArm : Type 0
    KnownArm = (a : FragArm) × IsArm a

    abbrev bare_frag : Frag-F KnownFrag KnownArm → Frag-F Frag FragArm
    bare_frag = map-Frag KnownFrag KnownArm Frag FragArm (λ x. x.0) (λ x. x.0)

    abbrev bare_arm : FragArm-F KnownFrag KnownArm → FragArm-F Frag FragArm
    bare_arm = map-FragArm KnownFrag KnownArm Frag FragArm (λ x. x.0) (λ x. x.0)

    abbrev fit_frag : Frag-F Frag FragArm → Frag-F Fitter ArmFitter
    fit_frag = map-Frag Frag FragArm Fitter ArmFitter fit_of arm_fit_of

    abbrev hold_frag : Frag-F Frag FragArm → Frag-F Holder ArmHolder
    hold_frag = map-Frag Frag FragArm Holder ArmHolder hold_of arm_hold_of

    abbrev claim_frag : Frag-F Frag FragArm → Frag-F Claimer ArmClaims
    claim_frag = map-Frag Frag FragArm Claimer ArmClaims claim_of arm_claim_of

    abbrev fit_arm : FragArm-F Frag FragArm → ArmFitter
    fit_arm x = fits.arm_step (map-FragArm Frag FragArm Fitter ArmFitter fit_of arm_fit_of x)

    abbrev hold_arm : FragArm-F Frag FragArm → ArmHolder
    hold_arm x = holds.arm_step (map-FragArm Frag FragArm Holder ArmHolder hold_of arm_hold_of x)

    abbrev claim_arm : FragArm-F Frag FragArm → ArmClaims
    claim_arm x = claims.arm_step (map-FragArm Frag FragArm Claimer ArmClaims claim_of arm_claim_of x)

    abbrev AllTell : List Frag → Type 0
    AllTell fs = EachTells (map fit_of fs) (map hold_of fs) (map claim_of fs)

    frags_tell : (fs : List KnownFrag) → AllTell (map (λ x. x.0) fs)
    frags_tell [] = tt
    frags_tell (f ∷ fs) = (f.1, frags_tell fs)

    arms_tell : (arms : List KnownArm) → ArmsTell (map arm_fit_of (map (λ x. x.0) arms)) (map arm_hold_of (map (λ x. x.0) arms)) (map arm_claim_of (map (λ x. x.0) arms))
    arms_tell [] = tt
    arms_tell (a ∷ arms) = (a.1, arms_tell arms)

    -- fragments beside one another
    known_tell : (fs : List KnownFrag) → Tells (fit_each (map fit_of (map (λ x. x.0) fs))) (hold_each (map hold_of (map (λ x. x.0) fs))) (claim_each (map claim_of (map (λ x. x.0) fs)))
    known_tell fs = each_tells _ _ _ (frags_tell fs)

    abbrev IsLayer : Frag-F Frag FragArm → Type 0
    IsLayer x = FragTells (fit_frag x) (hold_frag x) (claim_frag x)

    layers : (y : Frag-F KnownFrag KnownArm) → IsLayer (bare_frag y)
    layers (Frag-F.Text text) = text_tells text
    layers (Frag-F.Show part) = show_tells part
    layers (Frag-F.Element span name attrs children) = element_tells _ _ _ (known_tell children) span name attrs
    layers (Frag-F.Tag tag reads) = tag_tells tag reads
    layers (Frag-F.Named name lets node) = named_tells name lets (fit_of node.0) (hold_of node.0) (claim_of node.0)
    layers (Frag-F.Slot span name attrs own reads) = slot_tells _ _ _ (known_tell own) span name attrs reads
    layers (Frag-F.If arms None) = if_tells _ _ _ None None None (λ i. each_tells _ _ _ (body_tells _ _ _ (arms_tell arms) None None None tt i))
    layers (Frag-F.If arms (Some last)) =
        let ls = map (λ x. x.0) last in
        if_tells _ _ _ (Some (map fit_of ls)) (Some (map hold_of ls)) (Some (map claim_of ls))
        (λ i. each_tells _ _ _ (body_tells _ _ _ (arms_tell arms) (Some (map fit_of ls)) (Some (map hold_of ls)) (Some (map claim_of ls)) (frags_tell last) i))
    layers (Frag-F.Each list item index key body None) = list_tells list item index key _ _ _ (known_tell body) None None None (each_tells [] [] [] tt)
    layers (Frag-F.Each list item index key body (Some none)) =
        let ns = map (λ x. x.0) none in
        list_tells list item index key _ _ _ (known_tell body) (Some (map fit_of ns)) (Some (map hold_of ns)) (Some (map claim_of ns)) (known_tell none)
    layers (Frag-F.Key part body) = key_tells _ _ _ (known_tell body) part

    frag_whole : (x : Frag-F Frag FragArm) (y : Frag-F KnownFrag KnownArm) → bare_frag y ≡ x → IsFrag (roll-Frag x)
    frag_whole x y e =
        subst (λ f. OneTells f (hold_of (roll-Frag x)) (claim_of (roll-Frag x))) (sym (fold-roll-Frag Fitter ArmFitter (fits.step p given) fits.arm_step x))
        (subst (λ h. OneTells (fits.step p given (fit_frag x)) h (claim_of (roll-Frag x))) (sym (fold-roll-Frag Holder ArmHolder (holds.step tags stood) holds.arm_step x))
        (subst (OneTells (fits.step p given (fit_frag x)) (holds.step tags stood (hold_frag x))) (sym (fold-roll-Frag Claimer ArmClaims claim_step claims.arm_step x))
        (layer_tells _ _ (claims.step tags claimed (claim_frag x)) (subst IsLayer e (layers y)))))

    arm_whole : (x : FragArm-F Frag FragArm) (y : FragArm-F KnownFrag KnownArm) → bare_arm y ≡ x → IsArm (roll-FragArm x)
    arm_whole x y e =
        subst (λ (f : ArmFitter). EachTells f.1 (arm_hold_of (roll-FragArm x)).1 (arm_claim_of (roll-FragArm x)).1) (sym (fold-roll-FragArm Fitter ArmFitter (fits.step p given) fits.arm_step x))
        (subst (λ (h : ArmHolder). EachTells (fit_arm x).1 h.1 (arm_claim_of (roll-FragArm x)).1) (sym (fold-roll-FragArm Holder ArmHolder (holds.step tags stood) holds.arm_step x))
        (subst (λ (c : ArmClaims). EachTells (fit_arm x).1 (hold_arm x).1 c.1) (sym (fold-roll-FragArm Claimer ArmClaims claim_step claims.arm_step x))
        (subst (λ z. EachTells (fit_arm z).1 (hold_arm z).1 (claim_arm z).1) e (frags_tell y.body))))

    all_tell : (fs : List Frag) → AllTell fs
    all_tell [] = tt
    all_tell (f ∷ fs) = (ind-Frag IsFrag IsArm frag_whole arm_whole f, all_tell fs)

    walker_tells : (fs : List Frag) → Tells (all_fitter p given fs) (holds.walker tags stood fs) (claims.walker tags claimed fs)
    walker_tells fs = each_tells (map fit_of fs) (map hold_of fs) (map claim_of fs) (all_tell fs)

  -- ---- content that is given to slots, by the tags of the levels

  -- content, on the view that a slot gives it
  given_tells : (fit : AllFitter) (hold : AllHolder) (walk : Walker) → Tells fit hold walk → (lets : List LetName) (props : List SlotProp) →
      Tells fit (λ v shapes. hold (content_view lets props v) shapes) (λ v shapes. walk (content_view lets props v) shapes)
  given_tells fit hold walk k lets props = record { empty = k.empty; none = λ v. k.none (content_view lets props v); same = λ v shapes e. k.same (content_view lets props v) shapes e }

  slotted_tells : (tags : List (Option ℕ)) (name : List ℕ) → FilledTells (fits.slotted p tags name) (holds.slotted p tags name) (claims.slotted p tags name)
  slotted_tells [] name = tt
  slotted_tells (tag ∷ tags) name = by (slotted_tells tags) (content_at p (tag ∷ tags) name)
    where
      by : ((name' : List ℕ) → FilledTells (fits.slotted p tags name') (holds.slotted p tags name') (claims.slotted p tags name')) → (o : Option Content) →
          FilledTells (option_map (λ c. all_fitter p (fits.slotted p tags) c.frags) o) (option_map (λ c. record { lets = c.lets; walk = holds.walker tags (holds.slotted p tags) c.frags }) o)
          (option_map (λ c. record { lets = c.lets; walk = claims.walker tags (claims.slotted p tags) c.frags }) o)
      by outer None = tt
      by outer (Some c) = λ props. given_tells _ _ _ (walker_tells tags (fits.slotted p tags) (holds.slotted p tags) (claims.slotted p tags) outer c.frags) c.lets props

-- whole markup
pub holding : HoldsAreClaimed
unfolding fits_all holds.holds claims.claims
holding p tags frags v shapes fit = (walker_tells p tags (fits.slotted p tags) (holds.slotted p tags) (claims.slotted p tags) (slotted_tells p tags) frags).same v shapes fit
