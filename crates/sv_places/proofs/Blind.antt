-- Whether shapes fit doesn't look at what users left in elements.
use Rattle.std.proofs.Common.{◌≡◌, ℕ, List, [], ◌∷◌, map, Option, Some, None, option_map, refl, sym, ap, subst, ◌∙◌, zero, suc, unwrap_or}
use Rattle.sv_base.specs.declared.names.Name.{Name}
use Rattle.sv_base.specs.declared.span.Span.{Span}
use Rattle.sv_code.specs.declared.fragments.Frag.{Frag, Frag-F, roll-Frag, map-Frag, fold-roll-Frag, ind-Frag}
use Rattle.sv_code.specs.declared.fragments.FragArm.{FragArm, FragArm-F, roll-FragArm, map-FragArm, fold-FragArm, fold-roll-FragArm}
use Rattle.sv_code.specs.declared.fragments.FragAttr.{FragAttr}
use Rattle.sv_code.specs.declared.parts.Part.{Part}
use Rattle.sv_code.specs.declared.parts.Reading.{Reading}
use Rattle.sv_code.specs.declared.program.Program.{Program}
use Rattle.sv_places.proofs.Typing.{relaid, out-laid}
use Rattle.sv_places.specs.Fits.{Fitter, AllFitter, ArmFitter, fit_each, is_empty, rows_fit, each_fits, layer_fits, arm_step, step, fitter, all_fitter, slotted, fits_all}
use Rattle.sv_plan.specs.Content.{Content, content_at}
use Rattle.sv_plan.specs.Lists.{row_keys}
use Rattle.sv_plan.specs.Plan.{body_at}
use Rattle.sv_shapes.proofs.Laying.{laid-row}
use Rattle.sv_shapes.specs.Typed.{laid, laid_all, laid_rows}
use Rattle.sv_shapes.specs.declared.shape.Row.{Row}
use Rattle.sv_shapes.specs.declared.shape.Shape.{Shape, Shape-F, out-Shape}
use Rattle.sv_tokens.specs.declared.element.Typed.{Typed}

module _ (at : ℕ) (left : Typed) where
  abbrev Blind : Fitter → Type 0
  Blind fit = (x : Shape) → fit (laid at left x) ≡ fit x

  record AllBlind (fit : AllFitter) : Type 0 where
    pub same : (parts : List Shape) → fit (laid_all at left parts) ≡ fit parts

  abbrev EachBlind : List Fitter → Type 0
  EachBlind [] = Unit {0}
  EachBlind (fit ∷ fits) = Blind fit × EachBlind fits

  each-same : (fits : List Fitter) → EachBlind fits → (parts : List Shape) → fit_each fits (laid_all at left parts) ≡ fit_each fits parts
  each-same fits q [] = refl
  each-same [] q (x ∷ parts) = refl
  each-same (fit ∷ fits) q (x ∷ parts) = rw (q.0 x, each-same fits q.1 parts) refl

  each-blind : (fits : List Fitter) → EachBlind fits → AllBlind (fit_each fits)
  each-blind fits q = record { same = each-same fits q }

  -- ---- each blocks

  keys-laid : (rows : List Row) → row_keys (laid_rows at left rows) ≡ row_keys rows
  keys-laid [] = refl
  keys-laid (r ∷ rows) = rw (laid-row at left r, keys-laid rows) refl

  rows-laid : (fit : AllFitter) → AllBlind fit → (rows : List Row) → rows_fit fit (laid_rows at left rows) ≡ rows_fit fit rows
  rows-laid fit q [] = refl
  rows-laid fit q (r ∷ rows) = rw (laid-row at left r, q.same r.parts, rows-laid fit q rows) refl

  empty-rows : (rows : List Row) → is_empty (laid_rows at left rows) ≡ is_empty rows
  empty-rows [] = refl
  empty-rows (r ∷ rows) = refl

  empty-parts : (parts : List Shape) → is_empty (laid_all at left parts) ≡ is_empty parts
  empty-parts [] = refl
  empty-parts (x ∷ parts) = refl

  list-same : (body last : AllFitter) → AllBlind body → AllBlind last → (rows : List Row) (none : List Shape) → each_fits body last (laid_rows at left rows) (laid_all at left none) ≡ each_fits body last rows none
  list-same body last q r rows none = rw (keys-laid rows, rows-laid body q rows, r.same none, empty-rows rows, empty-parts none) refl

  -- ---- branches

  abbrev ArmBlind : ArmFitter → Type 0
  ArmBlind a = EachBlind a.1

  abbrev ArmsBlind : List ArmFitter → Type 0
  ArmsBlind [] = Unit {0}
  ArmsBlind (a ∷ arms) = ArmBlind a × ArmsBlind arms

  body-blind : (arms : List ArmFitter) (last : Option (List Fitter)) → ArmsBlind arms → EachBlind (unwrap_or last []) → (i : ℕ) → EachBlind (body_at arms last i)
  body-blind [] last q r i = r
  body-blind (a ∷ arms) last q r zero = q.0
  body-blind (a ∷ arms) last q r (suc i) = body-blind arms last q.1 r i

  -- ---- slots

  abbrev GivenBlind : Option AllFitter → Type 0
  GivenBlind None = Unit {0}
  GivenBlind (Some fit) = AllBlind fit

  given-blind : (given : Option AllFitter) (own : AllFitter) → GivenBlind given → AllBlind own → AllBlind (unwrap_or given own)
  given-blind None own q r = r
  given-blind (Some fit) own q r = q

  module _ (p : Program) where
    module _ (slot : List ℕ → Option AllFitter) (given : (name : List ℕ) → GivenBlind (slot name)) where
      abbrev LayerBlind : Frag-F Fitter ArmFitter → Type 0
      LayerBlind f = (y : Shape-F Shape Row) → layer_fits p slot f (relaid at left y) ≡ layer_fits p slot f y

      element-blind : (span : Span) (name : List ℕ) (attrs : List FragAttr) (children : List Fitter) → EachBlind children → LayerBlind (Frag-F.Element span name attrs children)
      element-blind span name attrs children q (Shape-F.Element mark typed states parts) = each-same children q parts
      element-blind span name attrs children q _ = refl

      slot-blind : (span : Span) (name : List ℕ) (attrs : List FragAttr) (own : List Fitter) (reads : Reading) → EachBlind own → LayerBlind (Frag-F.Slot span name attrs own reads)
      slot-blind span name attrs own reads q (Shape-F.Slot props parts) = (given-blind (slot name) (fit_each own) (given name) (each-blind own q)).same parts
      slot-blind span name attrs own reads q _ = refl

      if-blind : (arms : List ArmFitter) (last : Option (List Fitter)) → ArmsBlind arms → EachBlind (unwrap_or last []) → LayerBlind (Frag-F.If arms last)
      if-blind arms last q r (Shape-F.If arm parts) = each-same (body_at arms last arm) (body-blind arms last q r arm) parts
      if-blind arms last q r _ = refl

      list-blind : (list : Part) (item : Name) (index : Option Name) (key : Option Part) (body : List Fitter) (last : Option (List Fitter)) → EachBlind body → EachBlind (unwrap_or last []) → LayerBlind (Frag-F.Each list item index key body last)
      list-blind list item index key body last q r (Shape-F.Each number rows none) = list-same (fit_each body) (fit_each (unwrap_or last [])) (each-blind body q) (each-blind (unwrap_or last []) r) rows none
      list-blind list item index key body last q r _ = refl

      key-blind : (part : Part) (body : List Fitter) → EachBlind body → LayerBlind (Frag-F.Key part body)
      key-blind part body q (Shape-F.Key state parts) = each-same body q parts
      key-blind part body q _ = refl

      step-blind : (f : Frag-F Fitter ArmFitter) → LayerBlind f → Blind (step p slot f)
      step-blind f q x = ap (layer_fits p slot f) (out-laid at left x) ∙ q (out-Shape x)

      -- ---- fragments, with what is known of each

      abbrev fit_of : Frag → Fitter
      fit_of = fitter p slot

      abbrev arm_of : FragArm → ArmFitter
      arm_of = fold-FragArm Fitter ArmFitter (step p slot) arm_step

      abbrev FragBlind : Frag → Type 0
      FragBlind f = Blind (fit_of f)

      abbrev BranchBlind : FragArm → Type 0
      BranchBlind a = ArmBlind (arm_of a)

      abbrev KnownFrag : Type 0
      KnownFrag = (f : Frag) × FragBlind f

      abbrev KnownArm : Type 0
      KnownArm = (a : FragArm) × BranchBlind a

      abbrev bare_frag : Frag-F KnownFrag KnownArm → Frag-F Frag FragArm
      bare_frag = map-Frag KnownFrag KnownArm Frag FragArm (λ x. x.0) (λ x. x.0)

      abbrev made_frag : Frag-F Frag FragArm → Frag-F Fitter ArmFitter
      made_frag = map-Frag Frag FragArm Fitter ArmFitter fit_of arm_of

      abbrev bare_arm : FragArm-F KnownFrag KnownArm → FragArm-F Frag FragArm
      bare_arm = map-FragArm KnownFrag KnownArm Frag FragArm (λ x. x.0) (λ x. x.0)

      abbrev made_arm : FragArm-F Frag FragArm → FragArm-F Fitter ArmFitter
      made_arm = map-FragArm Frag FragArm Fitter ArmFitter fit_of arm_of

      frags_blind : (fs : List KnownFrag) → EachBlind (map fit_of (map (λ x. x.0) fs))
      frags_blind [] = tt
      frags_blind (f ∷ fs) = (f.1, frags_blind fs)

      arms_blind : (arms : List KnownArm) → ArmsBlind (map arm_of (map (λ x. x.0) arms))
      arms_blind [] = tt
      arms_blind (a ∷ arms) = (a.1, arms_blind arms)

      layer_blind : (y : Frag-F KnownFrag KnownArm) → LayerBlind (made_frag (bare_frag y))
      layer_blind (Frag-F.Text text) (Shape-F.Literal mark) = refl
      layer_blind (Frag-F.Text text) _ = refl
      layer_blind (Frag-F.Show part) (Shape-F.Text mark text) = refl
      layer_blind (Frag-F.Show part) _ = refl
      layer_blind (Frag-F.Element span name attrs children) x = element-blind span name attrs _ (frags_blind children) x
      layer_blind (Frag-F.Tag tag reads) (Shape-F.Tag place texts) = refl
      layer_blind (Frag-F.Tag tag reads) _ = refl
      layer_blind (Frag-F.Named name lets node) Shape-F.Nothing = refl
      layer_blind (Frag-F.Named name lets node) _ = refl
      layer_blind (Frag-F.Slot span name attrs own reads) x = slot-blind span name attrs _ reads (frags_blind own) x
      layer_blind (Frag-F.If arms None) x = if-blind _ None (arms_blind arms) tt x
      layer_blind (Frag-F.If arms (Some last)) x = if-blind _ (Some (map fit_of (map (λ x. x.0) last))) (arms_blind arms) (frags_blind last) x
      layer_blind (Frag-F.Each list item index key body None) x = list-blind list item index key _ None (frags_blind body) tt x
      layer_blind (Frag-F.Each list item index key body (Some none)) x = list-blind list item index key _ (Some (map fit_of (map (λ x. x.0) none))) (frags_blind body) (frags_blind none) x
      layer_blind (Frag-F.Key part body) x = key-blind part _ (frags_blind body) x

      frag_whole : (x : Frag-F Frag FragArm) (y : Frag-F KnownFrag KnownArm) → bare_frag y ≡ x → FragBlind (roll-Frag x)
      frag_whole x y e = subst Blind (sym (fold-roll-Frag Fitter ArmFitter (step p slot) arm_step x)) (subst (λ z. Blind (step p slot (made_frag z))) e (step-blind (made_frag (bare_frag y)) (layer_blind y)))

      arm_whole : (x : FragArm-F Frag FragArm) (y : FragArm-F KnownFrag KnownArm) → bare_arm y ≡ x → BranchBlind (roll-FragArm x)
      arm_whole x y e = subst ArmBlind (sym (fold-roll-FragArm Fitter ArmFitter (step p slot) arm_step x)) (subst (λ z. ArmBlind (arm_step (made_arm z))) e (frags_blind y.body))

      all_blind : (fs : List Frag) → EachBlind (map fit_of fs)
      all_blind [] = tt
      all_blind (f ∷ fs) = (ind-Frag FragBlind BranchBlind frag_whole arm_whole f, all_blind fs)

      whole-blind : (fs : List Frag) → AllBlind (all_fitter p slot fs)
      whole-blind fs = each-blind (map fit_of fs) (all_blind fs)

    slotted-blind : (tags : List (Option ℕ)) (name : List ℕ) → GivenBlind (slotted p tags name)
    slotted-blind [] name = tt
    slotted-blind (tag ∷ tags) name = by (slotted-blind tags) (content_at p (tag ∷ tags) name)
      where
        by : ((name' : List ℕ) → GivenBlind (slotted p tags name')) → (o : Option Content) → GivenBlind (option_map (λ c. all_fitter p (slotted p tags) c.frags) o)
        by outer None = tt
        by outer (Some c) = whole-blind (slotted p tags) outer c.frags

    pub fits-laid : (tags : List (Option ℕ)) (frags : List Frag) (parts : List Shape) → fits_all p tags frags (laid_all at left parts) ≡ fits_all p tags frags parts
    unfolding fits_all
    fits-laid tags frags parts = (whole-blind (slotted p tags) (slotted-blind tags) frags).same parts
