-- Holds stand on the views of owners: each form of a fragment, the induction over fragments, and over the tags of the levels of a view.
use Rattle.std.proofs.Common.{◌≡◌, ℕ, zero, suc, List, [], ◌∷◌, ◌++◌, map, Option, Some, None, option_map, refl, sym, subst, unwrap_or}
use Rattle.sv_base.specs.declared.names.Name.{Name}
use Rattle.sv_base.specs.declared.span.Span.{Span}
use Rattle.sv_code.proofs.Each.{each_append, each_front, each_back}
use Rattle.sv_code.specs.Content as looks
use Rattle.sv_code.specs.Content.{Looks, Node}
use Rattle.sv_code.specs.Names.{Each}
use Rattle.sv_code.specs.declared.fragments.Frag.{Frag, Frag-F, roll-Frag, map-Frag, fold-roll-Frag, ind-Frag}
use Rattle.sv_code.specs.declared.fragments.FragArm.{FragArm, FragArm-F, roll-FragArm, map-FragArm, fold-FragArm, fold-roll-FragArm}
use Rattle.sv_code.specs.declared.fragments.FragAttr.{FragAttr}
use Rattle.sv_code.specs.declared.parts.Part.{Part}
use Rattle.sv_code.specs.declared.parts.Reading.{Reading}
use Rattle.sv_code.specs.declared.program.Program.{Program}
use Rattle.sv_places.specs.Any.{Any}
use Rattle.sv_plan.specs.Content.{Content, content_at}
use Rattle.sv_plan.specs.Lists.{Head, row_view}
use Rattle.sv_plan.specs.Plan.{body_at, head}
use Rattle.sv_plan.specs.Slots.{content_view}
use Rattle.sv_shapes.specs.declared.shape.Row.{Row}
use Rattle.sv_shapes.specs.declared.shape.Shape.{Shape, Shape-F, out-Shape}
use Rattle.sv_shapes.specs.declared.shape.SlotProp.{SlotProp}
use Rattle.sv_stands.proofs.Outward.{row_over, owners_over, stand_over, content_stands}
use Rattle.sv_stands.proofs.Owners.{Among, all_among, given_among, owners_fewer, tag_has}
use Rattle.sv_stands.proofs.Walks.{LayerHolder}
use Rattle.sv_stands.specs.Holds.{Holder, AllHolder, ArmHolder, Filled, hold_each, rows_hold, slot_holds, layer_holds, arm_step, step, holder, walker, slotted, holds}
use Rattle.sv_stands.specs.Standing.{HasSlot, here, OwnersFor, StandsOn, content_in}
use Rattle.sv_view.specs.Level.{View}

module _ (p : Program) where
  module _ (whole : List Frag) (tags : List (Option ℕ)) where
    -- what a walk holds stands on the view, where there are owners for the whole markup
    record AllStand (hold : AllHolder) : Type 0 where
      stand : (v : View) (shapes : List Shape) → OwnersFor p whole tags v.owners → Each (StandsOn p whole tags v) (hold v shapes)

    record OneStands (hold : Holder) : Type 0 where
      stand : (v : View) (x : Shape) → OwnersFor p whole tags v.owners → Each (StandsOn p whole tags v) (hold v x)

    -- the same of one layer
    record LayerStands (hold : LayerHolder) : Type 0 where
      stand : (v : View) (y : Shape-F Shape Row) → OwnersFor p whole tags v.owners → Each (StandsOn p whole tags v) (hold v y)

    each_stand : (holds : List Holder) → Each OneStands holds → (v : View) (shapes : List Shape) → OwnersFor p whole tags v.owners → Each (StandsOn p whole tags v) (hold_each holds v shapes)
    each_stand holds q v [] h = tt
    each_stand [] q v (x ∷ shapes) h = tt
    each_stand (hold ∷ holds) q v (x ∷ shapes) h = each_append (StandsOn p whole tags v) (hold v x) (hold_each holds v shapes) (q.0.stand v x h) (each_stand holds q.1 v shapes h)

    all_stand : (holds : List Holder) → Each OneStands holds → AllStand (hold_each holds)
    all_stand holds q = record { stand = each_stand holds q }

    layer_stands : (hold : LayerHolder) → LayerStands hold → OneStands (λ v x. hold v (out-Shape x))
    layer_stands hold k = record { stand = λ v x h. k.stand v (out-Shape x) h }

    -- ---- rows and slots

    rows_stand : (h : Head) (hold : AllHolder) → AllStand hold → (n : ℕ) (v : View) (i : ℕ) (rows : List Row) → OwnersFor p whole tags v.owners → Each (StandsOn p whole tags v) (rows_hold h hold n v i rows)
    rows_stand h hold k n v i [] o = tt
    rows_stand h hold k n v i (r ∷ rows) o =
        each_append (StandsOn p whole tags v) (hold (row_view h n i r.item v) r.parts) (rows_hold h hold n v (suc i) rows)
        (stand_over p whole tags v (row_view h n i r.item v) (row_over h n i r.item v) (hold (row_view h n i r.item v) r.parts)
        (k.stand (row_view h n i r.item v) r.parts (owners_over p whole tags v (row_view h n i r.item v) (row_over h n i r.item v) o)))
        (rows_stand h hold k n v (suc i) rows o)

    -- what is given to a slot, where there is one
    abbrev FilledStands : Option Filled → Type 0
    FilledStands None = Unit {0}
    FilledStands (Some g) = HasSlot p whole → (props : List SlotProp) → AllStand (λ v shapes. g.walk (content_view g.lets props v) shapes)

    filled_stands : (held : Option Filled) → FilledStands held → HasSlot p whole → (own : AllHolder) → AllStand own → (props : List SlotProp) → AllStand (λ v parts. slot_holds held own v props parts)
    filled_stands None q s own k props = k
    filled_stands (Some g) q s own k props = q s props

    -- ---- branches

    abbrev ArmStands : ArmHolder → Type 0
    ArmStands b = Each OneStands b.1

    body_stands : (arms : List ArmHolder) → Each ArmStands arms → (last : Option (List Holder)) → Each OneStands (unwrap_or last []) → (i : ℕ) → Each OneStands (body_at arms last i)
    body_stands [] q last r i = r
    body_stands (b ∷ arms) q last r zero = q.0
    body_stands (b ∷ arms) q last r (suc i) = body_stands arms q.1 last r i

    module _ (shown : List ℕ → Option Filled) (filled : (name : List ℕ) → FilledStands (shown name)) where
      abbrev FragStands : Frag-F Holder ArmHolder → Type 0
      FragStands f = LayerStands (layer_holds tags shown f)

      -- ---- each form

      nothing_stands : (hold : LayerHolder) → ((v : View) (y : Shape-F Shape Row) → hold v y ≡ []) → LayerStands hold
      nothing_stands hold none = record { stand = λ v y h. subst (Each (StandsOn p whole tags v)) (sym (none v y)) tt }

      tag_stands : (k : ℕ) (reads : Reading) → Any (λ look. look.by ≡ looks.ByTag k) (looks.of_frags whole []) → FragStands (Frag-F.Tag k reads)
      tag_stands k reads q = record { stand = stand }
        where
          stand : (v : View) (y : Shape-F Shape Row) → OwnersFor p whole tags v.owners → Each (StandsOn p whole tags v) (layer_holds tags shown (Frag-F.Tag k reads) v y)
          stand v (Shape-F.Tag place texts) h =
              (record { depth = 0; tags_are = refl; insts_are = refl; view_is = refl; within = q; owners = owners_fewer p (content_in p k) whole (tag_has p whole k q) tags v.owners h }, tt)
          stand v _ h = tt

      element_stands : (span : Span) (name : List ℕ) (attrs : List FragAttr) (children : List Holder) → AllStand (hold_each children) → FragStands (Frag-F.Element span name attrs children)
      element_stands span name attrs children k = record { stand = stand }
        where
          stand : (v : View) (y : Shape-F Shape Row) → OwnersFor p whole tags v.owners → Each (StandsOn p whole tags v) (layer_holds tags shown (Frag-F.Element span name attrs children) v y)
          stand v (Shape-F.Element mark typed states parts) h = k.stand v parts h
          stand v _ h = tt

      key_stands : (part : Part) (body : List Holder) → AllStand (hold_each body) → FragStands (Frag-F.Key part body)
      key_stands part body k = record { stand = stand }
        where
          stand : (v : View) (y : Shape-F Shape Row) → OwnersFor p whole tags v.owners → Each (StandsOn p whole tags v) (layer_holds tags shown (Frag-F.Key part body) v y)
          stand v (Shape-F.Key state parts) h = k.stand v parts h
          stand v _ h = tt

      slot_stands : (span : Span) (name : List ℕ) (attrs : List FragAttr) (own : List Holder) (reads : Reading) → HasSlot p whole → AllStand (hold_each own) → FragStands (Frag-F.Slot span name attrs own reads)
      slot_stands span name attrs own reads s k = record { stand = stand }
        where
          stand : (v : View) (y : Shape-F Shape Row) → OwnersFor p whole tags v.owners → Each (StandsOn p whole tags v) (layer_holds tags shown (Frag-F.Slot span name attrs own reads) v y)
          stand v (Shape-F.Slot props parts) h = (filled_stands (shown name) (filled name) s (hold_each own) k props).stand v parts h
          stand v _ h = tt

      if_stands : (arms : List ArmHolder) (last : Option (List Holder)) → ((i : ℕ) → AllStand (hold_each (body_at arms last i))) → FragStands (Frag-F.If arms last)
      if_stands arms last k = record { stand = stand }
        where
          stand : (v : View) (y : Shape-F Shape Row) → OwnersFor p whole tags v.owners → Each (StandsOn p whole tags v) (layer_holds tags shown (Frag-F.If arms last) v y)
          stand v (Shape-F.If arm parts) h = (k arm).stand v parts h
          stand v _ h = tt

      list_stands : (list : Part) (item : Name) (index : Option Name) (key : Option Part) (body : List Holder) (last : Option (List Holder)) → AllStand (hold_each body) → AllStand (hold_each (unwrap_or last [])) →
          FragStands (Frag-F.Each list item index key body last)
      list_stands list item index key body last k l = record { stand = stand }
        where
          stand : (v : View) (y : Shape-F Shape Row) → OwnersFor p whole tags v.owners → Each (StandsOn p whole tags v) (layer_holds tags shown (Frag-F.Each list item index key body last) v y)
          stand v (Shape-F.Each number rows none) h = each_append (StandsOn p whole tags v) _ _ (rows_stand (head list item index key) (hold_each body) k number v 0 rows h) (l.stand v none h)
          stand v _ h = tt

      -- ---- fragments, with what is known of each

      abbrev hold_of : Frag → Holder
      hold_of = holder tags shown

      abbrev arm_hold_of : FragArm → ArmHolder
      arm_hold_of = fold-FragArm Holder ArmHolder (step tags shown) arm_step

      -- what looks in there looks in the whole
      abbrev AreAmong : Looks → Type 0
      AreAmong list = (bound : List Name) × Each (Among whole) (list bound)

      abbrev IsFrag : Frag → Type 0
      IsFrag f = AreAmong (looks.node f).looks → OneStands (hold_of f)

      abbrev IsArm : FragArm → Type 0
      IsArm a = AreAmong (looks.of_arm a) → ArmStands (arm_hold_of a)

      abbrev KnownFrag : Type 0
      KnownFrag = (f : Frag) × IsFrag f

      abbrev KnownArm : Type 0
      KnownArm = (a : FragArm) × IsArm a

      abbrev bare_frags : List KnownFrag → List Frag
      bare_frags fs = map (λ x. x.0) fs

      abbrev bare_arms : List KnownArm → List FragArm
      bare_arms arms = map (λ x. x.0) arms

      -- the looks in them
      abbrev nodes_of : List Frag → Looks
      nodes_of fs = looks.nodes (map looks.node fs)

      among_first : (xs ys : Looks) → AreAmong (looks.both xs ys) → AreAmong xs
      among_first xs ys h = (h.0, each_front (Among whole) (xs h.0) (ys h.0) h.1)

      among_second : (xs ys : Looks) → AreAmong (looks.both xs ys) → AreAmong ys
      among_second xs ys h = (h.0, each_back (Among whole) (xs h.0) (ys h.0) h.1)

      among_within : (names : List Name) (xs : Looks) → AreAmong (looks.within names xs) → AreAmong xs
      among_within names xs h = (names ++ h.0, h.1)

      frags_stand : (fs : List KnownFrag) → AreAmong (nodes_of (bare_frags fs)) → Each OneStands (map hold_of (bare_frags fs))
      frags_stand [] h = tt
      frags_stand (f ∷ fs) h = (
        f.1 (among_first (looks.node f.0).looks (nodes_of (bare_frags fs)) h),
        frags_stand fs (among_second (looks.node f.0).looks (nodes_of (bare_frags fs)) h),
      )

      known_stand : (fs : List KnownFrag) → AreAmong (nodes_of (bare_frags fs)) → AllStand (hold_each (map hold_of (bare_frags fs)))
      known_stand fs h = all_stand _ (frags_stand fs h)

      arms_stand : (arms : List KnownArm) → AreAmong (looks.in_turn (map looks.of_arm (bare_arms arms))) → Each ArmStands (map arm_hold_of (bare_arms arms))
      arms_stand [] h = tt
      arms_stand (a ∷ arms) h = (
        a.1 (among_first (looks.of_arm a.0) (looks.in_turn (map looks.of_arm (bare_arms arms))) h),
        arms_stand arms (among_second (looks.of_arm a.0) (looks.in_turn (map looks.of_arm (bare_arms arms))) h),
      )

      -- ---- layers

      abbrev bare_frag : Frag-F KnownFrag KnownArm → Frag-F Frag FragArm
      bare_frag = map-Frag KnownFrag KnownArm Frag FragArm (λ x. x.0) (λ x. x.0)

      abbrev hold_frag : Frag-F Frag FragArm → Frag-F Holder ArmHolder
      hold_frag = map-Frag Frag FragArm Holder ArmHolder hold_of arm_hold_of

      abbrev seen_frag : Frag-F Frag FragArm → Node
      seen_frag x = looks.frag (map-Frag Frag FragArm Node Looks looks.node looks.of_arm x)

      abbrev bare_arm : FragArm-F KnownFrag KnownArm → FragArm-F Frag FragArm
      bare_arm = map-FragArm KnownFrag KnownArm Frag FragArm (λ x. x.0) (λ x. x.0)

      abbrev hold_arm : FragArm-F Frag FragArm → ArmHolder
      hold_arm x = arm_step (map-FragArm Frag FragArm Holder ArmHolder hold_of arm_hold_of x)

      abbrev seen_arm : FragArm-F Frag FragArm → Looks
      seen_arm x = looks.arm (map-FragArm Frag FragArm Node Looks looks.node looks.of_arm x)

      abbrev IsLayer : Frag-F Frag FragArm → Type 0
      IsLayer x = AreAmong (seen_frag x).looks → FragStands (hold_frag x)

      abbrev IsArmLayer : FragArm-F Frag FragArm → Type 0
      IsArmLayer x = AreAmong (seen_arm x) → ArmStands (hold_arm x)

      -- what looks in the rows of a list, and in what is shown for none
      abbrev row_looks : Name → Option Name → Option Part → List KnownFrag → Looks
      row_looks item index key body = looks.both (looks.given (option_map looks.of_part key)) (nodes_of (bare_frags body))

      among_rows : (list : Part) (item : Name) (index : Option Name) (key : Option Part) (body : List KnownFrag) (last : Looks) →
          AreAmong (looks.both (looks.of_part list) (looks.both (looks.within (looks.row_names item index) (row_looks item index key body)) last)) → AreAmong (nodes_of (bare_frags body)) × AreAmong last
      among_rows list item index key body last h =
          let rest = among_second (looks.of_part list) (looks.both (looks.within (looks.row_names item index) (row_looks item index key body)) last) h in (
            among_second (looks.given (option_map looks.of_part key)) (nodes_of (bare_frags body))
                (among_within (looks.row_names item index) (row_looks item index key body) (among_first (looks.within (looks.row_names item index) (row_looks item index key body)) last rest)),
            among_second (looks.within (looks.row_names item index) (row_looks item index key body)) last rest,
          )

      layers : (y : Frag-F KnownFrag KnownArm) → IsLayer (bare_frag y)
      layers (Frag-F.Text text) h = nothing_stands _ (λ v y. refl)
      layers (Frag-F.Show part) h = nothing_stands _ (λ v y. refl)
      layers (Frag-F.Element span name attrs children) h = element_stands span name attrs _ (known_stand children (among_second (looks.of_attrs attrs) (nodes_of (bare_frags children)) h))
      layers (Frag-F.Tag tag reads) h = tag_stands tag reads h.1.0
      layers (Frag-F.Named name lets node) h = nothing_stands _ (λ v y. refl)
      layers (Frag-F.Slot span name attrs own reads) h =
          slot_stands span name attrs _ reads (here whole h.1.0) (known_stand own (among_second (looks.of_attrs attrs) (nodes_of (bare_frags own)) (h.0, h.1.1)))
      layers (Frag-F.If arms None) h =
          let turns = looks.in_turn (map looks.of_arm (bare_arms arms)) in
          if_stands _ None (λ i. all_stand _ (body_stands _ (arms_stand arms (among_first turns looks.nothing h)) None tt i))
      layers (Frag-F.If arms (Some last)) h =
          let turns = looks.in_turn (map looks.of_arm (bare_arms arms)) in
          if_stands _ (Some (map hold_of (bare_frags last)))
          (λ i. all_stand _ (body_stands _ (arms_stand arms (among_first turns (nodes_of (bare_frags last)) h)) (Some (map hold_of (bare_frags last))) (frags_stand last (among_second turns (nodes_of (bare_frags last)) h)) i))
      layers (Frag-F.Each list item index key body None) h =
          list_stands list item index key _ None (known_stand body (among_rows list item index key body looks.nothing h).0) (all_stand [] tt)
      layers (Frag-F.Each list item index key body (Some none)) h =
          let rows = among_rows list item index key body (nodes_of (bare_frags none)) h in
          list_stands list item index key _ (Some (map hold_of (bare_frags none))) (known_stand body rows.0) (known_stand none rows.1)
      layers (Frag-F.Key part body) h = key_stands part _ (known_stand body (among_second (looks.of_part part) (nodes_of (bare_frags body)) h))

      frag_whole : (x : Frag-F Frag FragArm) (y : Frag-F KnownFrag KnownArm) → bare_frag y ≡ x → IsFrag (roll-Frag x)
      frag_whole x y e =
          subst (λ (n : Node). AreAmong n.looks → OneStands (hold_of (roll-Frag x))) (sym (fold-roll-Frag Node Looks looks.frag looks.arm x))
          (λ h. subst OneStands (sym (fold-roll-Frag Holder ArmHolder (step tags shown) arm_step x)) (layer_stands _ (subst IsLayer e (layers y) h)))

      arm_whole : (x : FragArm-F Frag FragArm) (y : FragArm-F KnownFrag KnownArm) → bare_arm y ≡ x → IsArm (roll-FragArm x)
      arm_whole x y e =
          subst (λ l. AreAmong l → ArmStands (arm_hold_of (roll-FragArm x))) (sym (fold-roll-FragArm Node Looks looks.frag looks.arm x))
          (λ h. subst ArmStands (sym (fold-roll-FragArm Holder ArmHolder (step tags shown) arm_step x))
          (subst IsArmLayer e (λ k. frags_stand y.body (among_second (looks.of_part y.test) (nodes_of (bare_frags y.body)) k)) h))

      markup_stands : (fs : List Frag) → AreAmong (nodes_of fs) → Each OneStands (map hold_of fs)
      markup_stands [] h = tt
      markup_stands (f ∷ fs) h = (
        ind-Frag IsFrag IsArm frag_whole arm_whole f (among_first (looks.node f).looks (nodes_of fs) h),
        markup_stands fs (among_second (looks.node f).looks (nodes_of fs) h),
      )

      walker_stands : (fs : List Frag) → AreAmong (nodes_of fs) → AllStand (walker tags shown fs)
      walker_stands fs h = all_stand (map hold_of fs) (markup_stands fs h)

  -- ---- content that is given to slots, by the tags of the levels

  -- the content of a tag, on the view of the instance that stands at it
  given_stands : (whole : List Frag) (k : ℕ) (tags : List (Option ℕ)) (hold : AllHolder) → AllStand (content_in p k) tags hold → (c : Content) → HasSlot p whole → (props : List SlotProp) →
      AllStand whole (Some k ∷ tags) (λ v shapes. hold (content_view c.lets props v) shapes)
  given_stands whole k tags hold q c s props = record {
    stand = λ v shapes h. content_stands p whole k tags c.lets props v.own v.owners v.modules (λ w. hold w shapes) (λ w o. q.stand w shapes o) s h;
  }

  slotted_stands : (whole : List Frag) (tags : List (Option ℕ)) (name : List ℕ) → FilledStands whole tags (slotted p tags name)
  slotted_stands whole [] name = tt
  slotted_stands whole (None ∷ tags) name = tt
  slotted_stands whole (Some k ∷ tags) name = by (slotted_stands (content_in p k) tags) (content_at p (Some k ∷ tags) name) refl
    where
      by : ((name' : List ℕ) → FilledStands (content_in p k) tags (slotted p tags name')) → (o : Option Content) → content_at p (Some k ∷ tags) name ≡ o →
          FilledStands whole (Some k ∷ tags) (option_map (λ c. record { lets = c.lets; walk = walker tags (slotted p tags) c.frags }) o)
      by outer None is = tt
      by outer (Some c) is =
          let so = given_among p k tags name c is in
          given_stands whole k tags _ (walker_stands (content_in p k) tags (slotted p tags) outer c.frags (so.bound, so.each)) c

-- whole markup
pub holds_stand : (p : Program) (tags : List (Option ℕ)) (frags : List Frag) (v : View) (shapes : List Shape) → OwnersFor p frags tags v.owners → Each (StandsOn p frags tags v) (holds p tags frags v shapes)
unfolding holds
holds_stand p tags frags v shapes h = (walker_stands p frags tags (slotted p tags) (slotted_stands p frags tags) frags ([], all_among frags)).stand v shapes h
