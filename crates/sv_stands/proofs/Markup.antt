-- What is so of the holds of whole markup: each form of a fragment, the induction over fragments, and over the tags of the levels of a view.
use Rattle.std.proofs.Common.{◌≡◌, ℕ, zero, suc, Bool, true, List, [], ◌∷◌, map, Option, Some, None, option_map, refl, sym, ap, ◌∙◌, subst, unwrap_or}
use Rattle.sv_base.specs.declared.names.Name.{Name}
use Rattle.sv_base.specs.declared.span.Span.{Span}
use Rattle.sv_code.specs.declared.fragments.Frag.{Frag, Frag-F, roll-Frag, map-Frag, fold-roll-Frag, ind-Frag}
use Rattle.sv_code.specs.declared.fragments.FragArm.{FragArm, FragArm-F, roll-FragArm, map-FragArm, fold-FragArm, fold-roll-FragArm}
use Rattle.sv_code.specs.declared.fragments.FragAttr.{FragAttr}
use Rattle.sv_code.specs.declared.fragments.LetName.{LetName}
use Rattle.sv_code.specs.declared.parts.Part.{Part}
use Rattle.sv_code.specs.declared.parts.Reading.{Reading}
use Rattle.sv_code.specs.declared.program.Program.{Program}
use Rattle.sv_places.proofs.Typing.{relaid}
use Rattle.sv_places.proofs.Walks.{both-true}
use Rattle.sv_places.specs.Fits as fits
use Rattle.sv_places.specs.Fits.{Fits, Fitter, AllFitter, ArmFitter, fit_each, rows_fit, each_fits, layer_fits, fitter, all_fitter, fits_all}
use Rattle.sv_plan.specs.Content.{Content, content_at}
use Rattle.sv_plan.specs.Plan.{body_at, head}
use Rattle.sv_plan.specs.Slots.{content_view}
use Rattle.sv_shapes.specs.Places.{places_all, places_rows}
use Rattle.sv_shapes.specs.declared.shape.Row.{Row}
use Rattle.sv_shapes.specs.declared.shape.Shape.{Shape, Shape-F}
use Rattle.sv_shapes.specs.declared.shape.SlotProp.{SlotProp}
use Rattle.sv_stands.proofs.Stands.{places_held, held_append, layer_places, Stands, OneStands, EachStands, each_stands, LayerStands, layer_stands, rows_places, rows_same, FilledStands}
use Rattle.sv_stands.proofs.Walks.{LayerHolder}
use Rattle.sv_stands.specs.Holds as stands
use Rattle.sv_stands.specs.Holds.{Hold, Holder, AllHolder, ArmHolder, hold_each, rows_hold, slot_holds, layer_holds, holder, holds}
use Rattle.sv_tokens.specs.declared.element.Typed.{Typed}
use Rattle.sv_view.specs.Level.{View}

module _ (p : Program) where
  module _ (tags : List (Option ℕ)) (given : List ℕ → Option AllFitter) (shown : List ℕ → Option stands.Filled) (filled : (name : List ℕ) → FilledStands (given name) (shown name)) where
    abbrev FragStands : Frag-F Fitter ArmFitter → Frag-F Holder ArmHolder → Type 0
    FragStands f h = LayerStands (layer_fits p given f) (layer_holds tags shown h)

    -- ---- what holds nothing, and tags

    nothing_stands : (fit : Shape-F Shape Row → Bool) (hold : LayerHolder) → ((v : View) (y : Shape-F Shape Row) → hold v y ≡ []) → ((y : Shape-F Shape Row) → fit y ≡ true → layer_places y ≡ []) → LayerStands fit hold
    nothing_stands fit hold none bare = record {
      held = λ v y e. ap places_held (none v y) ∙ sym (bare y e);
      same = λ at left v y. none v (relaid at left y) ∙ sym (none v y);
    }

    text_stands : (text : List ℕ) → FragStands (Frag-F.Text text) (Frag-F.Text text)
    text_stands text = nothing_stands (layer_fits p given (Frag-F.Text text)) (layer_holds tags shown (Frag-F.Text text)) (λ v y. refl) bare
      where
        bare : (y : Shape-F Shape Row) → layer_fits p given (Frag-F.Text text) y ≡ true → layer_places y ≡ []
        bare (Shape-F.Literal mark) e = refl
        bare _ e = absurd (cc)

    show_stands : (part : Part) → FragStands (Frag-F.Show part) (Frag-F.Show part)
    show_stands part = nothing_stands (layer_fits p given (Frag-F.Show part)) (layer_holds tags shown (Frag-F.Show part)) (λ v y. refl) bare
      where
        bare : (y : Shape-F Shape Row) → layer_fits p given (Frag-F.Show part) y ≡ true → layer_places y ≡ []
        bare (Shape-F.Text mark text) e = refl
        bare _ e = absurd (cc)

    named_stands : (name : List ℕ) (lets : List LetName) (node : Fitter) (inner : Holder) → FragStands (Frag-F.Named name lets node) (Frag-F.Named name lets inner)
    named_stands name lets node inner = nothing_stands (layer_fits p given (Frag-F.Named name lets node)) (layer_holds tags shown (Frag-F.Named name lets inner)) (λ v y. refl) bare
      where
        bare : (y : Shape-F Shape Row) → layer_fits p given (Frag-F.Named name lets node) y ≡ true → layer_places y ≡ []
        bare Shape-F.Nothing e = refl
        bare _ e = absurd (cc)

    tag_stands : (k : ℕ) (reads : Reading) → FragStands (Frag-F.Tag k reads) (Frag-F.Tag k reads)
    tag_stands k reads = record { held = held; same = same }
      where
        held : (v : View) (y : Shape-F Shape Row) → layer_fits p given (Frag-F.Tag k reads) y ≡ true → places_held (layer_holds tags shown (Frag-F.Tag k reads) v y) ≡ layer_places y
        held v (Shape-F.Tag place texts) e = refl
        held v Shape-F.Nothing e = refl
        held v _ e = absurd (cc)

        same : (at : ℕ) (left : Typed) (v : View) (y : Shape-F Shape Row) → layer_holds tags shown (Frag-F.Tag k reads) v (relaid at left y) ≡ layer_holds tags shown (Frag-F.Tag k reads) v y
        same at left v (Shape-F.Tag place texts) = refl
        same at left v _ = refl

    -- ---- elements and key blocks

    module _ (span : Span) (name : List ℕ) (attrs : List FragAttr) (children : List Fitter) (inner : List Holder) (k : Stands (fit_each children) (hold_each inner)) where
      element_held : (v : View) (y : Shape-F Shape Row) → layer_fits p given (Frag-F.Element span name attrs children) y ≡ true → places_held (layer_holds tags shown (Frag-F.Element span name attrs inner) v y) ≡ layer_places y
      unfolding places_all
      element_held v (Shape-F.Element mark typed states parts) e = k.places v parts e
      element_held v _ e = absurd (cc)

      element_same : (at : ℕ) (left : Typed) (v : View) (y : Shape-F Shape Row) → layer_holds tags shown (Frag-F.Element span name attrs inner) v (relaid at left y) ≡ layer_holds tags shown (Frag-F.Element span name attrs inner) v y
      element_same at left v (Shape-F.Element mark typed states parts) = k.same at left v parts
      element_same at left v _ = refl

      element_stands : FragStands (Frag-F.Element span name attrs children) (Frag-F.Element span name attrs inner)
      element_stands = record { held = element_held; same = element_same }

    module _ (part : Part) (body : List Fitter) (inner : List Holder) (k : Stands (fit_each body) (hold_each inner)) where
      key_held : (v : View) (y : Shape-F Shape Row) → layer_fits p given (Frag-F.Key part body) y ≡ true → places_held (layer_holds tags shown (Frag-F.Key part inner) v y) ≡ layer_places y
      unfolding places_all
      key_held v (Shape-F.Key state parts) e = k.places v parts e
      key_held v _ e = absurd (cc)

      key_same : (at : ℕ) (left : Typed) (v : View) (y : Shape-F Shape Row) → layer_holds tags shown (Frag-F.Key part inner) v (relaid at left y) ≡ layer_holds tags shown (Frag-F.Key part inner) v y
      key_same at left v (Shape-F.Key state parts) = k.same at left v parts
      key_same at left v _ = refl

      key_stands : FragStands (Frag-F.Key part body) (Frag-F.Key part inner)
      key_stands = record { held = key_held; same = key_same }

    -- ---- slots

    content_walk : (fit : Option AllFitter) (held : Option stands.Filled) → FilledStands fit held → (own : AllFitter) (hold : AllHolder) → Stands own hold → (props : List SlotProp) → Stands (unwrap_or fit own) (λ v parts. slot_holds held hold v props parts)
    content_walk None None q own hold k props = k
    content_walk None (Some g) q own hold k props = elim q [ ]
    content_walk (Some fit) None q own hold k props = elim q [ ]
    content_walk (Some fit) (Some g) q own hold k props = q props

    module _ (span : Span) (name : List ℕ) (attrs : List FragAttr) (own : List Fitter) (inner : List Holder) (reads : Reading) (k : (props : List SlotProp) → Stands (unwrap_or (given name) (fit_each own)) (λ v parts. slot_holds (shown name) (hold_each inner) v props parts)) where
      slot_held : (v : View) (y : Shape-F Shape Row) → layer_fits p given (Frag-F.Slot span name attrs own reads) y ≡ true → places_held (layer_holds tags shown (Frag-F.Slot span name attrs inner reads) v y) ≡ layer_places y
      unfolding places_all
      slot_held v (Shape-F.Slot props parts) e = (k props).places v parts e
      slot_held v _ e = absurd (cc)

      slot_same : (at : ℕ) (left : Typed) (v : View) (y : Shape-F Shape Row) → layer_holds tags shown (Frag-F.Slot span name attrs inner reads) v (relaid at left y) ≡ layer_holds tags shown (Frag-F.Slot span name attrs inner reads) v y
      slot_same at left v (Shape-F.Slot props parts) = (k props).same at left v parts
      slot_same at left v _ = refl

      slot_stands : FragStands (Frag-F.Slot span name attrs own reads) (Frag-F.Slot span name attrs inner reads)
      slot_stands = record { held = slot_held; same = slot_same }

    -- ---- if blocks

    abbrev ArmsStand : List ArmFitter → List ArmHolder → Type 0
    ArmsStand [] [] = Unit {0}
    ArmsStand [] (b ∷ inners) = ⊥
    ArmsStand (f ∷ fits) [] = ⊥
    ArmsStand (f ∷ fits) (b ∷ inners) = EachStands f.1 b.1 × ArmsStand fits inners

    body_stands : (fits : List ArmFitter) (inners : List ArmHolder) → ArmsStand fits inners → (last_fits : Option (List Fitter)) (last_inner : Option (List Holder)) → EachStands (unwrap_or last_fits []) (unwrap_or last_inner []) → (i : ℕ) →
        EachStands (body_at fits last_fits i) (body_at inners last_inner i)
    body_stands [] [] q last_fits last_inner r i = r
    body_stands [] (b ∷ inners) q last_fits last_inner r i = elim q [ ]
    body_stands (f ∷ fits) [] q last_fits last_inner r i = elim q [ ]
    body_stands (f ∷ fits) (b ∷ inners) q last_fits last_inner r zero = q.0
    body_stands (f ∷ fits) (b ∷ inners) q last_fits last_inner r (suc i) = body_stands fits inners q.1 last_fits last_inner r i

    module _ (arms : List ArmFitter) (last : Option (List Fitter)) (inners : List ArmHolder) (last_inner : Option (List Holder)) (k : (i : ℕ) → Stands (fit_each (body_at arms last i)) (hold_each (body_at inners last_inner i))) where
      if_held : (v : View) (y : Shape-F Shape Row) → layer_fits p given (Frag-F.If arms last) y ≡ true → places_held (layer_holds tags shown (Frag-F.If inners last_inner) v y) ≡ layer_places y
      unfolding places_all
      if_held v (Shape-F.If arm parts) e = (k arm).places v parts e
      if_held v _ e = absurd (cc)

      if_same : (at : ℕ) (left : Typed) (v : View) (y : Shape-F Shape Row) → layer_holds tags shown (Frag-F.If inners last_inner) v (relaid at left y) ≡ layer_holds tags shown (Frag-F.If inners last_inner) v y
      if_same at left v (Shape-F.If arm parts) = (k arm).same at left v parts
      if_same at left v _ = refl

      if_stands : FragStands (Frag-F.If arms last) (Frag-F.If inners last_inner)
      if_stands = record { held = if_held; same = if_same }

    -- ---- each blocks

    module _ (list : Part) (item : Name) (index : Option Name) (key : Option Part) (body : List Fitter) (last : Option (List Fitter)) (inner : List Holder) (last_inner : Option (List Holder)) (k : Stands (fit_each body) (hold_each inner)) (l : Stands (fit_each (unwrap_or last [])) (hold_each (unwrap_or last_inner []))) where
      list_held : (v : View) (y : Shape-F Shape Row) → layer_fits p given (Frag-F.Each list item index key body last) y ≡ true → places_held (layer_holds tags shown (Frag-F.Each list item index key inner last_inner) v y) ≡ layer_places y
      unfolding places_all places_rows
      list_held v (Shape-F.Each number rows none) e =
          let a = both-true _ _ e in
          let b = both-true _ _ a.0 in
          let c = both-true _ _ b.0 in
          rw (held_append, rows_places (head list item index key) (fit_each body) (hold_each inner) k number v 0 rows c.1, l.places v none b.1) refl
      list_held v _ e = absurd (cc)

      list_same : (at : ℕ) (left : Typed) (v : View) (y : Shape-F Shape Row) → layer_holds tags shown (Frag-F.Each list item index key inner last_inner) v (relaid at left y) ≡ layer_holds tags shown (Frag-F.Each list item index key inner last_inner) v y
      list_same at left v (Shape-F.Each number rows none) = rw (rows_same (head list item index key) (fit_each body) (hold_each inner) k number at left v 0 rows, l.same at left v none) refl
      list_same at left v _ = refl

      list_stands : FragStands (Frag-F.Each list item index key body last) (Frag-F.Each list item index key inner last_inner)
      list_stands = record { held = list_held; same = list_same }

    -- ---- fragments, with what is known of each

    abbrev fit_of : Frag → Fitter
    fit_of = fitter p given

    abbrev arm_fit_of : FragArm → ArmFitter
    arm_fit_of = fold-FragArm Fitter ArmFitter (fits.step p given) fits.arm_step

    abbrev hold_of : Frag → Holder
    hold_of = holder tags shown

    abbrev arm_hold_of : FragArm → ArmHolder
    arm_hold_of = fold-FragArm Holder ArmHolder (stands.step tags shown) stands.arm_step

    abbrev IsFrag : Frag → Type 0
    IsFrag f = OneStands (fit_of f) (hold_of f)

    abbrev IsArm : FragArm → Type 0
    IsArm a = EachStands (arm_fit_of a).1 (arm_hold_of a).1

    abbrev KnownFrag : Type 0
    KnownFrag = (f : Frag) × IsFrag f

    abbrev KnownArm : Type 0
    KnownArm = (a : FragArm) × IsArm a

    abbrev bare_frag : Frag-F KnownFrag KnownArm → Frag-F Frag FragArm
    bare_frag = map-Frag KnownFrag KnownArm Frag FragArm (λ x. x.0) (λ x. x.0)

    abbrev fit_frag : Frag-F Frag FragArm → Frag-F Fitter ArmFitter
    fit_frag = map-Frag Frag FragArm Fitter ArmFitter fit_of arm_fit_of

    abbrev hold_frag : Frag-F Frag FragArm → Frag-F Holder ArmHolder
    hold_frag = map-Frag Frag FragArm Holder ArmHolder hold_of arm_hold_of

    abbrev bare_arm : FragArm-F KnownFrag KnownArm → FragArm-F Frag FragArm
    bare_arm = map-FragArm KnownFrag KnownArm Frag FragArm (λ x. x.0) (λ x. x.0)

    abbrev fit_arm : FragArm-F Frag FragArm → ArmFitter
    fit_arm x = fits.arm_step (map-FragArm Frag FragArm Fitter ArmFitter fit_of arm_fit_of x)

    abbrev hold_arm : FragArm-F Frag FragArm → ArmHolder
    hold_arm x = stands.arm_step (map-FragArm Frag FragArm Holder ArmHolder hold_of arm_hold_of x)

    frags_stand : (fs : List KnownFrag) → EachStands (map fit_of (map (λ x. x.0) fs)) (map hold_of (map (λ x. x.0) fs))
    frags_stand [] = tt
    frags_stand (f ∷ fs) = (f.1, frags_stand fs)

    arms_stand : (arms : List KnownArm) → ArmsStand (map arm_fit_of (map (λ x. x.0) arms)) (map arm_hold_of (map (λ x. x.0) arms))
    arms_stand [] = tt
    arms_stand (a ∷ arms) = (a.1, arms_stand arms)

    -- fragments beside one another, and those of a branch
    known_stand : (fs : List KnownFrag) → Stands (fit_each (map fit_of (map (λ x. x.0) fs))) (hold_each (map hold_of (map (λ x. x.0) fs)))
    known_stand fs = each_stands _ _ (frags_stand fs)

    abbrev IsLayer : Frag-F Frag FragArm → Type 0
    IsLayer x = FragStands (fit_frag x) (hold_frag x)

    layers : (y : Frag-F KnownFrag KnownArm) → IsLayer (bare_frag y)
    layers (Frag-F.Text text) = text_stands text
    layers (Frag-F.Show part) = show_stands part
    layers (Frag-F.Element span name attrs children) = element_stands span name attrs _ _ (known_stand children)
    layers (Frag-F.Tag tag reads) = tag_stands tag reads
    layers (Frag-F.Named name lets node) = named_stands name lets (fit_of node.0) (hold_of node.0)
    layers (Frag-F.Slot span name attrs own reads) = slot_stands span name attrs _ _ reads (content_walk (given name) (shown name) (filled name) _ _ (known_stand own))
    layers (Frag-F.If arms None) = if_stands _ None _ None (λ i. each_stands _ _ (body_stands _ _ (arms_stand arms) None None tt i))
    layers (Frag-F.If arms (Some last)) =
        if_stands _ (Some (map fit_of (map (λ x. x.0) last))) _ (Some (map hold_of (map (λ x. x.0) last)))
        (λ i. each_stands _ _ (body_stands _ _ (arms_stand arms) (Some (map fit_of (map (λ x. x.0) last))) (Some (map hold_of (map (λ x. x.0) last))) (frags_stand last) i))
    layers (Frag-F.Each list item index key body None) = list_stands list item index key _ None _ None (known_stand body) (each_stands [] [] tt)
    layers (Frag-F.Each list item index key body (Some none)) = list_stands list item index key _ (Some (map fit_of (map (λ x. x.0) none))) _ (Some (map hold_of (map (λ x. x.0) none))) (known_stand body) (known_stand none)
    layers (Frag-F.Key part body) = key_stands part _ _ (known_stand body)

    frag_whole : (x : Frag-F Frag FragArm) (y : Frag-F KnownFrag KnownArm) → bare_frag y ≡ x → IsFrag (roll-Frag x)
    frag_whole x y e =
        subst (λ f. OneStands f (hold_of (roll-Frag x))) (sym (fold-roll-Frag Fitter ArmFitter (fits.step p given) fits.arm_step x))
        (subst (OneStands (fits.step p given (fit_frag x))) (sym (fold-roll-Frag Holder ArmHolder (stands.step tags shown) stands.arm_step x)) (layer_stands _ _ (subst IsLayer e (layers y))))

    arm_whole : (x : FragArm-F Frag FragArm) (y : FragArm-F KnownFrag KnownArm) → bare_arm y ≡ x → IsArm (roll-FragArm x)
    arm_whole x y e =
        subst (λ (f : ArmFitter). EachStands f.1 (arm_hold_of (roll-FragArm x)).1) (sym (fold-roll-FragArm Fitter ArmFitter (fits.step p given) fits.arm_step x))
        (subst (λ (h : ArmHolder). EachStands (fit_arm x).1 h.1) (sym (fold-roll-FragArm Holder ArmHolder (stands.step tags shown) stands.arm_step x))
        (subst (λ z. EachStands (fit_arm z).1 (hold_arm z).1) e (frags_stand y.body)))

    all_stand : (fs : List Frag) → EachStands (map fit_of fs) (map hold_of fs)
    all_stand [] = tt
    all_stand (f ∷ fs) = (ind-Frag IsFrag IsArm frag_whole arm_whole f, all_stand fs)

    walker_stands : (fs : List Frag) → Stands (all_fitter p given fs) (stands.walker tags shown fs)
    walker_stands fs = each_stands (map fit_of fs) (map hold_of fs) (all_stand fs)

  -- ---- content that is given to slots, by the tags of the levels

  -- the content of a tag, on the view of the instance that stands at it
  given_stands : (fit : AllFitter) (hold : AllHolder) → Stands fit hold → (lets : List LetName) (props : List SlotProp) → Stands fit (λ v shapes. hold (content_view lets props v) shapes)
  given_stands fit hold s lets props = record {
    places = λ v shapes e. s.places (content_view lets props v) shapes e;
    same = λ at left v shapes. s.same at left (content_view lets props v) shapes;
  }

  slotted_stands : (tags : List (Option ℕ)) (name : List ℕ) → FilledStands (fits.slotted p tags name) (stands.slotted p tags name)
  slotted_stands [] name = tt
  slotted_stands (None ∷ tags) name = tt
  slotted_stands (Some k ∷ tags) name = by (slotted_stands tags) (content_at p (Some k ∷ tags) name)
    where
      by : ((name' : List ℕ) → FilledStands (fits.slotted p tags name') (stands.slotted p tags name')) → (o : Option Content) →
          FilledStands (option_map (λ c. all_fitter p (fits.slotted p tags) c.frags) o) (option_map (λ c. record { lets = c.lets; walk = stands.walker tags (stands.slotted p tags) c.frags }) o)
      by outer None = tt
      by outer (Some c) = λ props. given_stands _ _ (walker_stands tags (fits.slotted p tags) (stands.slotted p tags) outer c.frags) c.lets props

  -- whole markup
  pub all_stands : (tags : List (Option ℕ)) (frags : List Frag) → Stands (fits_all p tags frags) (holds p tags frags)
  unfolding fits_all holds
  all_stands tags frags = walker_stands tags (fits.slotted p tags) (stands.slotted p tags) (slotted_stands tags) frags
