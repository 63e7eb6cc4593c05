-- A state that a user leaves changes nothing that claims on whole markup speak of, nor the numbers that were given.
use Rattle.std.proofs.Common.{◌≡◌, ℕ, zero, suc, ◌<◌, nat_eq, List, [], ◌∷◌, ◌++◌, map, Option, Some, None, option_map, refl, sym, ap, ap₂, ◌∙◌, subst, if◌then◌else◌}
use Rattle.sv_code.specs.Names.{Each}
use Rattle.sv_code.specs.declared.fragments.Frag.{Frag, Frag-F, roll-Frag, map-Frag, fold-roll-Frag, ind-Frag}
use Rattle.sv_code.specs.declared.fragments.FragArm.{FragArm, FragArm-F, roll-FragArm, map-FragArm, fold-FragArm, fold-roll-FragArm}
use Rattle.sv_code.specs.declared.program.Program.{Program}
use Rattle.sv_plan.specs.Content.{Content, content_at}
use Rattle.sv_plan.specs.Plan.{body_at, head}
use Rattle.sv_right.proofs.Forms.{literal_layer, text_layer, element_layer, if_layer, key_layer}
use Rattle.sv_right.proofs.Laying.{LeavesOne, LeavesAll, LeavesFilled, by_layer, walk_leaves, leaves_literal, leaves_text, leaves_element, leaves_tag, leaves_slot, leaves_if, leaves_key, leaves_each_block}
use Rattle.sv_right.proofs.Rows.{each_layer}
use Rattle.sv_right.proofs.Slots.{slot_layer}
use Rattle.sv_right.proofs.Standing.{layer_versions, versions_out, versions_row}
use Rattle.sv_right.proofs.Tags.{tag_layer}
use Rattle.sv_right.specs.Claims.{Claimer, Filled, ArmClaims, claim_each, arm_step, step, claimer, walker, slotted, claims}
use Rattle.sv_right.specs.Given.{of_props, of_shape, of_row, versions, versions_in, versions_all}
use Rattle.sv_right.specs.Staying.{LeavingStaysRight}
use Rattle.sv_shapes.specs.Places.{joined}
use Rattle.sv_shapes.specs.Shapes.{opened}
use Rattle.sv_shapes.specs.Typed.{laid, laid_in, laid_all, laid_rows, laid_shape, laid_row}
use Rattle.sv_shapes.specs.declared.shape.Row.{Row, Row-F, roll-Row, map-Row, fold-roll-Row}
use Rattle.sv_shapes.specs.declared.shape.Shape.{Shape, Shape-F, roll-Shape, out-Shape, map-Shape, fold-roll-Shape, ind-Shape}
use Rattle.sv_shapes.specs.declared.shape.Shape.TheVariants as shape
use Rattle.sv_tokens.specs.declared.element.Typed.{Typed}

module _ (mark : ℕ) (left : Typed) where
  -- ---- fragments

  module _ (p : Program) (tags : List (Option ℕ)) (slot : List ℕ → Option Filled) (filled : (name : List ℕ) → LeavesFilled mark left p (slot name)) where
    -- the claims on a layer
    abbrev claims_step : Frag-F Claimer ArmClaims → Claimer
    claims_step f v old = step tags slot f v (opened old)

    -- the claims on a fragment
    abbrev claim_of : Frag → Claimer
    claim_of = claimer tags slot

    -- the claims on a branch
    abbrev claim_arm : FragArm → ArmClaims
    claim_arm = fold-FragArm Claimer ArmClaims claims_step arm_step

    -- what is claimed of a fragment stays true
    abbrev FragLeaves : Frag → Type 0
    FragLeaves f = LeavesOne mark left p (claim_of f)

    -- what is claimed of a branch stays true
    abbrev ArmLeaves : FragArm → Type 0
    ArmLeaves a = Each (LeavesOne mark left p) (claim_arm a).1

    -- a fragment of which that is known
    abbrev KnownFrag : Type 0
    KnownFrag = (f : Frag) × FragLeaves f

    -- a branch of which that is known
    abbrev KnownArm : Type 0
    KnownArm = (a : FragArm) × ArmLeaves a

    -- the layer without what is known
    abbrev bare_frag : Frag-F KnownFrag KnownArm → Frag-F Frag FragArm
    bare_frag = map-Frag KnownFrag KnownArm Frag FragArm (λ x. x.0) (λ x. x.0)

    -- the branch without what is known
    abbrev bare_arm : FragArm-F KnownFrag KnownArm → FragArm-F Frag FragArm
    bare_arm = map-FragArm KnownFrag KnownArm Frag FragArm (λ x. x.0) (λ x. x.0)

    -- the claims on what a layer is made of
    abbrev claimed : Frag-F Frag FragArm → Claimer
    claimed x = claims_step (map-Frag Frag FragArm Claimer ArmClaims claim_of claim_arm x)

    known_frags : (fs : List KnownFrag) → Each (LeavesOne mark left p) (map claim_of (map (λ x. x.0) fs))
    known_frags [] = tt
    known_frags (f ∷ fs) = (f.1, known_frags fs)

    children_leave : (fs : List KnownFrag) → LeavesAll mark left p (claim_each (map claim_of (map (λ x. x.0) fs)))
    children_leave fs = walk_leaves mark left p (map claim_of (map (λ x. x.0) fs)) (known_frags fs)

    body_leaves : (arms : List KnownArm) (last : List Claimer) (i : ℕ) → Each (LeavesOne mark left p) last → Each (LeavesOne mark left p) (body_at (map claim_arm (map (λ x. x.0) arms)) (Some last) i)
    body_leaves [] last i h = h
    body_leaves (a ∷ arms) last zero h = a.1
    body_leaves (a ∷ arms) last (suc i) h = body_leaves arms last i h

    if_leaves : (arms : List KnownArm) (last : Option (List Claimer)) → ((i : ℕ) → Each (LeavesOne mark left p) (body_at (map claim_arm (map (λ x. x.0) arms)) last i)) →
        LeavesOne mark left p
        (λ v old. if_layer (map (λ b. b.0) (map claim_arm (map (λ x. x.0) arms))) (λ i. claim_each (body_at (map claim_arm (map (λ x. x.0) arms)) last i)) v (opened old))
    if_leaves arms last leaves =
        by_layer mark left p (if_layer (map (λ b. b.0) (map claim_arm (map (λ x. x.0) arms))) (λ i. claim_each (body_at (map claim_arm (map (λ x. x.0) arms)) last i)))
        (leaves_if mark left p (map (λ b. b.0) (map claim_arm (map (λ x. x.0) arms))) (λ i. claim_each (body_at (map claim_arm (map (λ x. x.0) arms)) last i))
        (λ i. walk_leaves mark left p (body_at (map claim_arm (map (λ x. x.0) arms)) last i) (leaves i)))

    no_last : (arms : List ArmClaims) (i : ℕ) → body_at arms (Some []) i ≡ body_at arms None i
    no_last [] i = refl
    no_last (a ∷ arms) zero = refl
    no_last (a ∷ arms) (suc i) = no_last arms i

    frag_layer : (y : Frag-F KnownFrag KnownArm) → LeavesOne mark left p (claimed (bare_frag y))
    frag_layer (Frag-F.Text text) = by_layer mark left p literal_layer (leaves_literal mark left p)
    frag_layer (Frag-F.Show part) = by_layer mark left p (text_layer part) (leaves_text mark left p part)
    frag_layer (Frag-F.Element span name attrs children) =
        by_layer mark left p (element_layer attrs (claim_each (map claim_of (map (λ x. x.0) children))))
        (leaves_element mark left p attrs (claim_each (map claim_of (map (λ x. x.0) children))) (children_leave children))
    frag_layer (Frag-F.Tag tag reads) = by_layer mark left p (tag_layer tags tag) (leaves_tag mark left p tags tag)
    frag_layer (Frag-F.Named name lets node) = λ v old h. tt
    frag_layer (Frag-F.Slot span name attrs own reads) =
        by_layer mark left p (slot_layer attrs (slot name) (claim_each (map claim_of (map (λ x. x.0) own))))
        (leaves_slot mark left p attrs (slot name) (claim_each (map claim_of (map (λ x. x.0) own))) (filled name) (children_leave own))
    frag_layer (Frag-F.If arms None) =
        if_leaves arms None (λ i. subst (Each (LeavesOne mark left p)) (no_last (map claim_arm (map (λ x. x.0) arms)) i) (body_leaves arms [] i tt))
    frag_layer (Frag-F.If arms (Some last)) =
        if_leaves arms (Some (map claim_of (map (λ x. x.0) last))) (λ i. body_leaves arms (map claim_of (map (λ x. x.0) last)) i (known_frags last))
    frag_layer (Frag-F.Each list item index key body None) =
        by_layer mark left p (each_layer (head list item index key) (claim_each (map claim_of (map (λ x. x.0) body))) (claim_each []))
        (leaves_each_block mark left p (head list item index key) (claim_each (map claim_of (map (λ x. x.0) body))) (claim_each []) (children_leave body) (children_leave []))
    frag_layer (Frag-F.Each list item index key body (Some none)) =
        by_layer mark left p (each_layer (head list item index key) (claim_each (map claim_of (map (λ x. x.0) body))) (claim_each (map claim_of (map (λ x. x.0) none))))
        (leaves_each_block mark left p (head list item index key) (claim_each (map claim_of (map (λ x. x.0) body))) (claim_each (map claim_of (map (λ x. x.0) none))) (children_leave body)
        (children_leave none))
    frag_layer (Frag-F.Key part body) =
        by_layer mark left p (key_layer part (claim_each (map claim_of (map (λ x. x.0) body))))
        (leaves_key mark left p part (claim_each (map claim_of (map (λ x. x.0) body))) (children_leave body))

    frag_whole : (x : Frag-F Frag FragArm) (y : Frag-F KnownFrag KnownArm) → bare_frag y ≡ x → FragLeaves (roll-Frag x)
    frag_whole x y e = subst (LeavesOne mark left p) (sym (fold-roll-Frag Claimer ArmClaims claims_step arm_step x)) (subst (λ z. LeavesOne mark left p (claimed z)) e (frag_layer y))

    arm_whole : (x : FragArm-F Frag FragArm) (y : FragArm-F KnownFrag KnownArm) → bare_arm y ≡ x → ArmLeaves (roll-FragArm x)
    arm_whole x y e =
        subst (λ (g : ArmClaims). Each (LeavesOne mark left p) g.1) (sym (fold-roll-FragArm Claimer ArmClaims claims_step arm_step x))
        (subst (λ z. Each (LeavesOne mark left p) (arm_step (map-FragArm Frag FragArm Claimer ArmClaims claim_of claim_arm z)).1) e (known_frags y.body))

    frags_leave : (fs : List Frag) → Each (LeavesOne mark left p) (map claim_of fs)
    frags_leave [] = tt
    frags_leave (f ∷ fs) = (ind-Frag FragLeaves ArmLeaves frag_whole arm_whole f, frags_leave fs)

    walker_leaves : (fs : List Frag) → LeavesAll mark left p (walker tags slot fs)
    walker_leaves fs = walk_leaves mark left p (map claim_of fs) (frags_leave fs)

  slotted_leaves : (p : Program) (tags : List (Option ℕ)) (name : List ℕ) → LeavesFilled mark left p (slotted p tags name)
  slotted_leaves p [] name = tt
  slotted_leaves p (tag ∷ tags) name = by (λ x. slotted_leaves p tags x) (content_at p (tag ∷ tags) name)
    where
      by : ((x : List ℕ) → LeavesFilled mark left p (slotted p tags x)) → (o : Option Content) →
          LeavesFilled mark left p (option_map (λ c. record { lets = c.lets; walk = walker tags (slotted p tags) c.frags }) o)
      by outer None = tt
      by outer (Some c) = walker_leaves p tags (slotted p tags) outer c.frags

  right_left : (p : Program) (tags : List (Option ℕ)) (frags : List Frag) → LeavesAll mark left p (claims p tags frags)
  unfolding claims
  right_left p tags frags = walker_leaves p tags (slotted p tags) (slotted_leaves p tags) frags

  -- ---- numbers

  -- the same numbers stand in a shape
  abbrev SameShape : Shape → Type 0
  SameShape x = versions (laid mark left x) ≡ versions x

  -- the same numbers stand in a row
  abbrev SameRow : Row → Type 0
  SameRow r = versions_in (laid_in mark left r) ≡ versions_in r

  -- a shape of which that is known
  abbrev KnownShape : Type 0
  KnownShape = (x : Shape) × SameShape x

  -- a row of which that is known
  abbrev KnownRow : Type 0
  KnownRow = (r : Row) × SameRow r

  known_shapes : (xs : List KnownShape) → joined (map versions (laid_all mark left (map (λ x. x.0) xs))) ≡ joined (map versions (map (λ x. x.0) xs))
  known_shapes [] = refl
  known_shapes (x ∷ xs) = ap₂ (λ ns more. ns ++ more) x.1 (known_shapes xs)

  known_rows : (rs : List KnownRow) → joined (map versions_in (laid_rows mark left (map (λ r. r.0) rs))) ≡ joined (map versions_in (map (λ r. r.0) rs))
  known_rows [] = refl
  known_rows (r ∷ rs) = ap₂ (λ ns more. ns ++ more) r.1 (known_rows rs)

  -- the layer without what is known
  abbrev bare_shape : Shape-F KnownShape KnownRow → Shape-F Shape Row
  bare_shape = map-Shape KnownShape KnownRow Shape Row (λ x. x.0) (λ r. r.0)

  -- a layer with the state
  abbrev laid_layer : Shape-F Shape Row → Shape
  laid_layer o = laid_shape mark left (map-Shape Shape Row Shape Row (laid mark left) (laid_in mark left) o)

  of_layer : (x : Shape) (o : Shape-F Shape Row) → out-Shape x ≡ o → versions x ≡ layer_versions o
  of_layer x o e = versions_out x ∙ ap layer_versions e

  shape_layer : (y : Shape-F KnownShape KnownRow) → versions (laid_layer (bare_shape y)) ≡ layer_versions (bare_shape y)
  shape_layer (Shape-F.Literal own) = of_layer (shape.Literal own) (Shape-F.Literal own) (shape.outs-Literal own)
  shape_layer (Shape-F.Text own text) = of_layer (shape.Text own text) (Shape-F.Text own text) (shape.outs-Text own text)
  shape_layer (Shape-F.Element own typed states parts) =
      let now = if nat_eq own mark then Some left else typed in
      let laid_parts = laid_all mark left (map (λ x. x.0) parts) in
      of_layer (shape.Element own now states laid_parts) (Shape-F.Element own now states laid_parts) (shape.outs-Element own now states laid_parts) ∙ known_shapes parts
  shape_layer (Shape-F.Tag place texts) = of_layer (shape.Tag place texts) (Shape-F.Tag place texts) (shape.outs-Tag place texts)
  shape_layer Shape-F.Nothing = of_layer shape.Nothing Shape-F.Nothing shape.outs-Nothing
  shape_layer (Shape-F.Slot props parts) =
      let laid_parts = laid_all mark left (map (λ x. x.0) parts) in
      of_layer (shape.Slot props laid_parts) (Shape-F.Slot props laid_parts) (shape.outs-Slot props laid_parts) ∙ ap (λ ns. of_props props ++ ns) (known_shapes parts)
  shape_layer (Shape-F.If arm parts) =
      let laid_parts = laid_all mark left (map (λ x. x.0) parts) in of_layer (shape.If arm laid_parts) (Shape-F.If arm laid_parts) (shape.outs-If arm laid_parts) ∙ known_shapes parts
  shape_layer (Shape-F.Each number rows none) =
      let laid_list = laid_rows mark left (map (λ r. r.0) rows) in
      let laid_none = laid_all mark left (map (λ x. x.0) none) in
      of_layer (shape.Each number laid_list laid_none) (Shape-F.Each number laid_list laid_none) (shape.outs-Each number laid_list laid_none)
      ∙ ap₂ (λ ns more. number ∷ (ns ++ more)) (known_rows rows) (known_shapes none)
  shape_layer (Shape-F.Key state parts) =
      let laid_parts = laid_all mark left (map (λ x. x.0) parts) in of_layer (shape.Key state laid_parts) (Shape-F.Key state laid_parts) (shape.outs-Key state laid_parts) ∙ known_shapes parts

  laid_roll : (o : Shape-F Shape Row) → laid mark left (roll-Shape o) ≡ laid_layer o
  unfolding laid laid_in
  laid_roll o = fold-roll-Shape Shape Row (laid_shape mark left) laid_row o

  versions_roll : (o : Shape-F Shape Row) → versions (roll-Shape o) ≡ layer_versions o
  unfolding versions versions_in
  versions_roll o = fold-roll-Shape (List ℕ) (List ℕ) of_shape of_row o

  shape_whole : (o : Shape-F Shape Row) (y : Shape-F KnownShape KnownRow) → bare_shape y ≡ o → SameShape (roll-Shape o)
  shape_whole o y e = ap versions (laid_roll o) ∙ subst (λ z. versions (laid_layer z) ≡ layer_versions z) e (shape_layer y) ∙ sym (versions_roll o)

  -- the row without what is known
  abbrev bare_row : Row-F KnownShape KnownRow → Row-F Shape Row
  bare_row = map-Row KnownShape KnownRow Shape Row (λ x. x.0) (λ r. r.0)

  row_parts : (o : Row-F Shape Row) → versions_in (roll-Row o) ≡ versions_all o.parts
  unfolding versions versions_in
  row_parts o = fold-roll-Row (List ℕ) (List ℕ) of_shape of_row o

  laid_roll_row : (o : Row-F Shape Row) → laid_in mark left (roll-Row o) ≡ record { key = o.key; item = o.item; parts = laid_all mark left o.parts }
  unfolding laid laid_in
  laid_roll_row o = fold-roll-Row Shape Row (laid_shape mark left) laid_row o

  row_whole : (o : Row-F Shape Row) (y : Row-F KnownShape KnownRow) → bare_row y ≡ o → SameRow (roll-Row o)
  row_whole o y e =
      ap versions_in (laid_roll_row o) ∙ versions_row (record { key = o.key; item = o.item; parts = laid_all mark left o.parts })
      ∙ subst (λ (z : Row-F Shape Row). versions_all (laid_all mark left z.parts) ≡ versions_all z.parts) e (known_shapes y.parts) ∙ sym (row_parts o)

  same_versions : (xs : List Shape) → versions_all (laid_all mark left xs) ≡ versions_all xs
  same_versions [] = refl
  same_versions (x ∷ xs) = ap₂ (λ ns more. ns ++ more) (ind-Shape SameShape SameRow shape_whole row_whole x) (same_versions xs)

pub leaving : LeavingStaysRight
leaving p tags frags v next mark typed shapes h = record {
  right = right_left mark typed p tags frags v shapes h.right;
  below = subst (Each (λ n. n < next)) (sym (same_versions mark typed shapes)) h.below;
}
