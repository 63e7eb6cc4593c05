-- What each form of a fragment changes.
use Rattle.std.proofs.Common.{◌≡◌, ℕ, zero, suc, Bool, true, false, List, [], ◌∷◌, map, Option, Some, None, is_some, is_none, Ok, refl, sym, ap, subst, ◌∙◌, arith, slice_get, unwrap_or}
use Rattle.std.proofs.lemmas.Bool.{eqb-true}
use Rattle.sv_base.specs.declared.names.Name.{Name}
use Rattle.sv_base.specs.declared.span.Span.{Span}
use Rattle.sv_code.specs.declared.fragments.Frag.{Frag-F}
use Rattle.sv_code.specs.declared.fragments.FragAttr.{FragAttr}
use Rattle.sv_code.specs.declared.fragments.LetName.{LetName}
use Rattle.sv_code.specs.declared.parts.Part.{Part}
use Rattle.sv_code.specs.declared.parts.Reading.{Reading}
use Rattle.sv_code.specs.declared.program.Program.{Program}
use Rattle.sv_code.specs.declared.tags.Tag.{Tag}
use Rattle.sv_meaning.specs.Components.{component_at}
use Rattle.sv_parts.specs.Elements.{opening_step}
use Rattle.sv_parts.specs.Parts.{marked, literal_step, text_step, show_step}
use Rattle.sv_parts.specs.Sides.{Sides}
use Rattle.sv_parts.specs.Tags.{offers_step, props_given, props_at, texts_of, view_for, create_step, keep_step, tag_by, tag_over, tag_step}
use Rattle.sv_parts.specs.declared.state.State.{State}
use Rattle.sv_places.proofs.Changes.{Load, nowhere, both, Change, Quiet, Ends, ends-then, ends-as, change-on, change-as, quiet-change}
use Rattle.sv_places.proofs.Loads.{loads, load_in, layer, load-nil}
use Rattle.sv_places.proofs.Quiet.{quiet-same, text_step_quiet, offers_quiet, chosen_quiet, settled_quiet, props_quiet}
use Rattle.sv_places.proofs.Rows.{WasList, list-was, list-was-not, each-ends}
use Rattle.sv_places.proofs.Steps.{mark, mark_or, tag_at, marked-ends, opening-ends, create-ends, keep-ends, after-quiet}
use Rattle.sv_places.proofs.Walks.{Follows, Walks, AllPlan, Makes, fits_in, LayerPlans, each-walks, kept-ends}
use Rattle.sv_places.specs.Fits.{Fitter, AllFitter, ArmFitter, fit_each, layer_fits}
use Rattle.sv_plan.specs.Blocks.{chosen, is_arm, settled}
use Rattle.sv_plan.specs.Plan.{Planner, Walker, ArmPlan, Filled, plan_each, kept_step, element_step, if_step, key_step, each_step, content_step, slot_step, body_at, head}
use Rattle.sv_plan.specs.Slots.{props_step, content_sides}
use Rattle.sv_shapes.specs.Shapes.{Opened, element_in, typed_in, states_in, mark_in, text_in, texts_in, place_in, props_in, arm_in, key_in, parts_in}
use Rattle.sv_shapes.specs.declared.shape.Row.{Row}
use Rattle.sv_shapes.specs.declared.shape.Shape.{Shape, Shape-F}
use Rattle.sv_shapes.specs.declared.shape.Shape.TheVariants as shape
use Rattle.sv_shapes.specs.declared.shape.SlotProp.{SlotProp}

-- loads of the same numbers
pub record Same (a b : Load) : Type 0 where
  pub places : a.places ≡ b.places
  pub numbers : a.numbers ≡ b.numbers

module _ (n : ℕ) where
  -- a change from a load that is the same, to one that is the same
  from-same : (a b c d : Load) (s t : State) → Same c a → Same d b → Change n a b s t → Change n c d s t
  from-same a b c d s t p q k = change-as n a b c d s t p.places p.numbers q.places q.numbers k

  -- where there is nothing, no content stands
  no-load : Same nowhere (loads n [])
  no-load = record { places = sym (ap (λ (l : Load). l.places) (load-nil n)); numbers = sym (ap (λ (l : Load). l.numbers) (load-nil n)) }

  abbrev tag_or : Option ℕ → Load
  tag_or None = nowhere
  tag_or (Some place) = tag_at n place

  module _ (p : Program) (slot : List ℕ → Option AllFitter) where
    -- ---- texts

    was-literal : (text : List ℕ) (old : Opened) → fits_in n (layer_fits p slot (Frag-F.Text text)) old ≡ true → Same (load_in n old) (mark_or n (mark_in old))
    was-literal text None e = record { places = refl; numbers = refl }
    was-literal text (Some (Shape-F.Literal at)) e = record { places = refl; numbers = omega arith }
    was-literal text (Some _) e = absurd (cc)

    pub text-makes : (text : List ℕ) → LayerPlans n (layer_fits p slot (Frag-F.Text text)) (λ at old. literal_step (mark_in old))
    text-makes text at old s e =
        ends-then (λ m t. Change n (mark_or n (mark_in old)) (mark n m) s t) (Makes n (layer_fits p slot (Frag-F.Text text)) old s) (marked (mark_in old) s) _ (marked-ends n (mark_in old) s)
        (λ m t c. record {
          over = Shape-F.Literal m;
          out = rw shape.outs-Literal refl;
          fits = refl;
          change = from-same _ _ (load_in n old) (layer n (Shape-F.Literal m)) s t (was-literal text old e) (record { places = refl; numbers = omega arith }) c;
        })

    was-text : (part : Part) (old : Opened) → fits_in n (layer_fits p slot (Frag-F.Show part)) old ≡ true → Same (load_in n old) (mark_or n (mark_in old))
    was-text part None e = record { places = refl; numbers = refl }
    was-text part (Some (Shape-F.Text at text)) e = record { places = refl; numbers = omega arith }
    was-text part (Some _) e = absurd (cc)

    pub show-makes : (part : Part) → LayerPlans n (layer_fits p slot (Frag-F.Show part)) (λ at old. show_step p part at old)
    show-makes part at old s e =
        ends-then (λ _ t. Quiet s t) (Makes n (layer_fits p slot (Frag-F.Show part)) old s) (text_step p part (text_in old) at s) _ ((text_step_quiet p part (text_in old) at).held s)
        (λ text t q. ends-then (λ m u. Change n (mark_or n (mark_in old)) (mark n m) t u) (Makes n (layer_fits p slot (Frag-F.Show part)) old s) (marked (mark_in old) t) _ (marked-ends n (mark_in old) t)
        (λ m u c. record {
          over = Shape-F.Text m text;
          out = rw shape.outs-Text refl;
          fits = refl;
          change = from-same _ _ (load_in n old) (layer n (Shape-F.Text m text)) s u (was-text part old e) (record { places = refl; numbers = omega arith }) (after-quiet n _ _ s t u q c);
        }))

    -- ---- elements

    module _ (span : Span) (name : List ℕ) (attrs : List FragAttr) (children : List Fitter) where
      was-element : (old : Opened) → fits_in n (layer_fits p slot (Frag-F.Element span name attrs children)) old ≡ true → (fit_each children (parts_in old) ≡ true) × Same (load_in n old) (both (mark_or n (element_in old)) (loads n (parts_in old)))
      was-element None e = (refl, record { places = omega (arith, no-load.places); numbers = omega (arith, no-load.numbers) })
      was-element (Some (Shape-F.Element at typed states parts)) e = (e, record { places = omega arith; numbers = omega arith })
      was-element (Some _) e = absurd (cc)

      pub element-makes : (plans : List Planner) → AllPlan n children plans → LayerPlans n (layer_fits p slot (Frag-F.Element span name attrs children)) (element_step p attrs (plan_each plans))
      element-makes plans q at old s e =
          ends-then (λ o t. Change n (mark_or n (element_in old)) (mark n o.mark) s t) (Makes n (layer_fits p slot (Frag-F.Element span name attrs children)) old s) (opening_step p attrs at old s) _ (opening-ends n p attrs (element_in old) (typed_in old) (states_in old) at s)
          (λ o t c. ends-then (Follows n (fit_each children) (parts_in old) t) (Makes n (layer_fits p slot (Frag-F.Element span name attrs children)) old s) (plan_each plans at (parts_in old) t) _ ((each-walks n children plans q).ends at (parts_in old) t (was-element old e).0)
          (λ parts u l. record {
            over = Shape-F.Element o.mark o.typed o.states parts;
            out = rw shape.outs-Element refl;
            fits = l.0;
            change =
                from-same _ _ (load_in n old) (layer n (Shape-F.Element o.mark o.typed o.states parts)) s u (was-element old e).1 (record { places = omega arith; numbers = omega arith })
                (change-on n (mark_or n (element_in old)) (mark n o.mark) (loads n (parts_in old)) (loads n parts) s t u c l.1);
          }))

    -- ---- component tags

    module _ (k : ℕ) (reads : Reading) where
      abbrev tag_fits : Shape-F Shape Row → Bool
      tag_fits = layer_fits p slot (Frag-F.Tag k reads)

      was-tag : (t : Tag) → slice_get p.tags k ≡ Some t → (old : Opened) → fits_in n tag_fits old ≡ true → Same (load_in n old) (tag_or (place_in old))
      was-tag t g None e = record { places = refl; numbers = refl }
      was-tag t g (Some (Shape-F.Tag place texts)) e = record { places = refl; numbers = refl }
      was-tag t g (Some Shape-F.Nothing) e = record { places = refl; numbers = refl }
      was-tag t g (Some _) e = absurd (cc)

      was-no_tag : slice_get p.tags k ≡ None → (old : Opened) → fits_in n tag_fits old ≡ true → Same (load_in n old) nowhere
      was-no_tag g None e = record { places = refl; numbers = refl }
      was-no_tag g (Some (Shape-F.Tag place texts)) e = let f = sym (ap is_some g) ∙ e in absurd (cc)
      was-no_tag g (Some Shape-F.Nothing) e = record { places = refl; numbers = refl }
      was-no_tag g (Some _) e = absurd (cc)

      -- a tag at some place
      record IsTag (from : Load) (s : State) (x : Shape) (t : State) : Type 0 where
        pub place : ℕ
        pub texts : List (List (List ℕ))
        pub is : x ≡ shape.Tag place texts
        pub change : Change n from (tag_at n place) s t

      by-ends : (t : Tag) (place : Option ℕ) (texts : List (List (List ℕ))) (at : Sides) (s : State) → Ends (IsTag (tag_or place) s) (tag_by p k t place texts at s)
      by-ends t None texts at s =
          ends-then (λ _ u. Quiet s u) (IsTag nowhere s) (offers_step p t.attrs [] true at s) _ ((offers_quiet p t.attrs [] true at).held s)
          (λ offers u q. ends-as (λ x w. (x ≡ shape.Tag u.counters.next (texts_of offers)) × Change n nowhere (tag_at n u.counters.next) u w) (IsTag nowhere s) (create_step k (props_given (props_at (component_at p t.file)) offers) (texts_of offers) at u)
          (λ x w c. record { place = u.counters.next; texts = texts_of offers; is = c.0; change = after-quiet n nowhere (tag_at n u.counters.next) s u w q c.1 })
          (create-ends n k (props_given (props_at (component_at p t.file)) offers) (texts_of offers) at u))
      by-ends t (Some place) texts at s =
          ends-then (λ _ u. Quiet s u) (IsTag (tag_at n place) s) (offers_step p t.attrs texts false at s) _ ((offers_quiet p t.attrs texts false at).held s)
          (λ offers u q. ends-then (λ _ w. Change n (tag_at n place) (tag_at n place) u w) (IsTag (tag_at n place) s) (keep_step place (props_given (props_at (component_at p t.file)) offers) (view_for p t at) at u) _
          (keep-ends n place (props_given (props_at (component_at p t.file)) offers) (view_for p t at) at u)
          (λ _ w c. record { place = place; texts = texts_of offers; is = refl; change = after-quiet n (tag_at n place) (tag_at n place) s u w q c }))

      pub tag-makes : LayerPlans n tag_fits (λ at old. tag_step p k (place_in old) (texts_in old) at)
      tag-makes at old s e = by (slice_get p.tags k) refl
        where
          by : (o : Option Tag) → slice_get p.tags k ≡ o → Ends (Makes n tag_fits old s) (tag_over p k o (place_in old) (texts_in old) at s)
          by None g = record {
            over = Shape-F.Nothing;
            out = rw shape.outs-Nothing refl;
            fits = ap is_none g;
            change = from-same nowhere nowhere (load_in n old) nowhere s s (was-no_tag g old e) (record { places = refl; numbers = refl }) (quiet-change n s s (quiet-same s));
          }
          by (Some t) g =
              ends-as (IsTag (tag_or (place_in old)) s) (Makes n tag_fits old s) (tag_by p k t (place_in old) (texts_in old) at s)
              (λ x u c. record {
                over = Shape-F.Tag c.place c.texts;
                out = rw (c.is, shape.outs-Tag) refl;
                fits = ap is_some g;
                change = from-same _ _ (load_in n old) (layer n (Shape-F.Tag c.place c.texts)) s u (was-tag t g old e) (record { places = refl; numbers = refl }) c.change;
              })
              (by-ends t (place_in old) (texts_in old) at s)

    -- ---- fragments of a slot, which show nothing where they stand

    was-nothing : (name : List ℕ) (lets : List LetName) (node : Fitter) (old : Opened) → fits_in n (layer_fits p slot (Frag-F.Named name lets node)) old ≡ true → Same (load_in n old) nowhere
    was-nothing name lets node None e = record { places = refl; numbers = refl }
    was-nothing name lets node (Some Shape-F.Nothing) e = record { places = refl; numbers = refl }
    was-nothing name lets node (Some _) e = absurd (cc)

    pub named-makes : (name : List ℕ) (lets : List LetName) (node : Fitter) → LayerPlans n (layer_fits p slot (Frag-F.Named name lets node)) (λ at old s. Ok (shape.Nothing, s))
    named-makes name lets node at old s e = record {
      over = Shape-F.Nothing;
      out = rw shape.outs-Nothing refl;
      fits = refl;
      change = from-same nowhere nowhere (load_in n old) nowhere s s (was-nothing name lets node old e) (record { places = refl; numbers = refl }) (quiet-change n s s (quiet-same s));
    }

    -- ---- slots

    -- what is given to a slot walks so
    abbrev pub FilledWalks : Option AllFitter → Option Filled → Type 0
    FilledWalks None None = Unit {0}
    FilledWalks None (Some f) = ⊥
    FilledWalks (Some fit) None = ⊥
    FilledWalks (Some fit) (Some f) = Walks n fit f.walk

    content-ends : (given : Option AllFitter) (filled : Option Filled) → FilledWalks given filled → (own : AllFitter) (walk : Walker) → Walks n own walk → (at : Sides) (olds props : List SlotProp) (parts : List Shape) (s : State) → unwrap_or given own parts ≡ true →
        Ends (Follows n (unwrap_or given own) parts s) (content_step filled walk at olds props parts s)
    content-ends None None q own walk k at olds props parts s e = k.ends at parts s e
    content-ends None (Some f) q own walk k at olds props parts s e = elim q [ ]
    content-ends (Some fit) None q own walk k at olds props parts s e = elim q [ ]
    content-ends (Some fit) (Some f) q own walk k at olds props parts s e = q.ends (content_sides f.lets olds props at) parts s e

    given-empty : (given : Option AllFitter) (filled : Option Filled) → FilledWalks given filled → (own : AllFitter) → own [] ≡ true → unwrap_or given own [] ≡ true
    given-empty None filled q own e = e
    given-empty (Some fit) None q own e = elim q [ ]
    given-empty (Some fit) (Some f) q own e = q.empty

    module _ (span : Span) (name : List ℕ) (attrs : List FragAttr) (own : List Fitter) (reads : Reading) where
      abbrev slot_fits : Shape-F Shape Row → Bool
      slot_fits = layer_fits p slot (Frag-F.Slot span name attrs own reads)

      abbrev content_fits : AllFitter
      content_fits = unwrap_or (slot name) (fit_each own)

      was-slot : content_fits [] ≡ true → (old : Opened) → fits_in n slot_fits old ≡ true → (content_fits (parts_in old) ≡ true) × Same (load_in n old) (loads n (parts_in old))
      was-slot z None e = (z, no-load)
      was-slot z (Some (Shape-F.Slot props parts)) e = (e, record { places = refl; numbers = refl })
      was-slot z (Some _) e = absurd (cc)

      pub slot-makes : (filled : Option Filled) → FilledWalks (slot name) filled → (plans : List Planner) → AllPlan n own plans → LayerPlans n slot_fits (slot_step p attrs filled (plan_each plans))
      slot-makes filled q plans r at old s e =
          ends-then (λ _ t. Quiet s t) (Makes n slot_fits old s) (props_step p attrs (props_in old) at s) _ ((props_quiet p attrs (props_in old) at).held s)
          (λ props t k. ends-then (Follows n content_fits (parts_in old) t) (Makes n slot_fits old s) (content_step filled (plan_each plans) at (props_in old) props (parts_in old) t) _
          (content-ends (slot name) filled q (fit_each own) (plan_each plans) (each-walks n own plans r) at (props_in old) props (parts_in old) t was.0)
          (λ parts u l. record {
            over = Shape-F.Slot props parts;
            out = rw shape.outs-Slot refl;
            fits = l.0;
            change = from-same _ _ (load_in n old) (loads n parts) s u was.1 (record { places = refl; numbers = refl }) (after-quiet n _ _ s t u k l.1);
          }))
        where
          was : (content_fits (parts_in old) ≡ true) × Same (load_in n old) (loads n (parts_in old))
          was = was-slot (given-empty (slot name) filled q (fit_each own) refl) old e

    -- ---- if blocks

    -- branches beside their fitters
    abbrev pub ArmsPlan : List ArmFitter → List ArmPlan → Type 0
    ArmsPlan [] [] = Unit {0}
    ArmsPlan [] (a ∷ arms) = ⊥
    ArmsPlan (f ∷ fits) [] = ⊥
    ArmsPlan (f ∷ fits) (a ∷ arms) = AllPlan n f.1 a.1 × ArmsPlan fits arms

    body-plans : (fits : List ArmFitter) (arms : List ArmPlan) → ArmsPlan fits arms → (last_fits : Option (List Fitter)) (last : Option (List Planner)) → AllPlan n (unwrap_or last_fits []) (unwrap_or last []) → (i : ℕ) → AllPlan n (body_at fits last_fits i) (body_at arms last i)
    body-plans [] [] q last_fits last r i = r
    body-plans [] (a ∷ arms) q last_fits last r i = elim q [ ]
    body-plans (f ∷ fits) [] q last_fits last r i = elim q [ ]
    body-plans (f ∷ fits) (a ∷ arms) q last_fits last r zero = q.0
    body-plans (f ∷ fits) (a ∷ arms) q last_fits last r (suc i) = body-plans fits arms q.1 last_fits last r i

    module _ (fits : List ArmFitter) (last_fits : Option (List Fitter)) where
      abbrev if_fits : Shape-F Shape Row → Bool
      if_fits = layer_fits p slot (Frag-F.If fits last_fits)

      was-if : (old : Opened) → fits_in n if_fits old ≡ true → Same (load_in n old) (loads n (parts_in old))
      was-if None e = no-load
      was-if (Some (Shape-F.If arm parts)) e = record { places = refl; numbers = refl }
      was-if (Some _) e = absurd (cc)

      was-arm : (arm : ℕ) (old : Opened) → fits_in n if_fits old ≡ true → is_arm (arm_in old) arm ≡ true → fit_each (body_at fits last_fits arm) (parts_in old) ≡ true
      was-arm arm None e f = absurd (cc)
      was-arm arm (Some (Shape-F.If was parts)) e f = subst (λ i. fit_each (body_at fits last_fits i) parts ≡ true) (eqb-true was arm f) e
      was-arm arm (Some _) e f = absurd (cc)

      pub if-makes : (arms : List ArmPlan) → ArmsPlan fits arms → (last : Option (List Planner)) → AllPlan n (unwrap_or last_fits []) (unwrap_or last []) → LayerPlans n if_fits (if_step p (map (λ a. a.0) arms) (λ i. plan_each (body_at arms last i)))
      if-makes arms q last r at old s e =
          ends-then (λ _ t. Quiet s t) (Makes n if_fits old s) (chosen p (map (λ a. a.0) arms) (arm_in old) at s) _ ((chosen_quiet p (map (λ a. a.0) arms) (arm_in old) at).held s)
          (λ arm t k. ends-then (Follows n (fit_each (body_at fits last_fits arm)) (parts_in old) t) (Makes n if_fits old s) (kept_step (plan_each (body_at arms last arm)) at (is_arm (arm_in old) arm) (parts_in old) t) _
          (kept-ends n (fit_each (body_at fits last_fits arm)) (plan_each (body_at arms last arm)) (each-walks n (body_at fits last_fits arm) (body_at arms last arm) (body-plans fits arms q last_fits last r arm)) at (is_arm (arm_in old) arm) (parts_in old) t (was-arm arm old e))
          (λ parts u l. record {
            over = Shape-F.If arm parts;
            out = rw shape.outs-If refl;
            fits = l.0;
            change = from-same _ _ (load_in n old) (loads n parts) s u (was-if old e) (record { places = refl; numbers = refl }) (after-quiet n _ _ s t u k l.1);
          }))

    -- ---- key blocks

    module _ (part : Part) (body : List Fitter) where
      abbrev key_fits : Shape-F Shape Row → Bool
      key_fits = layer_fits p slot (Frag-F.Key part body)

      was-key : (old : Opened) → fits_in n key_fits old ≡ true → (fit_each body (parts_in old) ≡ true) × Same (load_in n old) (loads n (parts_in old))
      was-key None e = (refl, no-load)
      was-key (Some (Shape-F.Key state parts)) e = (e, record { places = refl; numbers = refl })
      was-key (Some _) e = absurd (cc)

      pub key-makes : (plans : List Planner) → AllPlan n body plans → LayerPlans n key_fits (key_step p part (plan_each plans))
      key-makes plans q at old s e =
          ends-then (λ _ t. Quiet s t) (Makes n key_fits old s) (settled p part (key_in old) at s) _ ((settled_quiet p part (key_in old) at).held s)
          (λ c t k. ends-then (Follows n (fit_each body) (parts_in old) t) (Makes n key_fits old s) (kept_step (plan_each plans) at c.kept (parts_in old) t) _
          (kept-ends n (fit_each body) (plan_each plans) (each-walks n body plans q) at c.kept (parts_in old) t (λ _. (was-key old e).0))
          (λ parts u l. record {
            over = Shape-F.Key c.state parts;
            out = rw shape.outs-Key refl;
            fits = l.0;
            change = from-same _ _ (load_in n old) (loads n parts) s u (was-key old e).1 (record { places = refl; numbers = refl }) (after-quiet n _ _ s t u k l.1);
          }))

    -- ---- each blocks

    module _ (list : Part) (item : Name) (index : Option Name) (key : Option Part) (body : List Fitter) (last : Option (List Fitter)) where
      abbrev each_fits_in : Shape-F Shape Row → Bool
      each_fits_in = layer_fits p slot (Frag-F.Each list item index key body last)

      was-list : (old : Opened) → fits_in n each_fits_in old ≡ true → WasList n (fit_each body) (fit_each (unwrap_or last [])) old
      was-list None e = list-was-not n (fit_each body) (fit_each (unwrap_or last [])) refl
      was-list (Some (Shape-F.Each number rows none)) e = list-was n (fit_each body) (fit_each (unwrap_or last [])) number rows none e
      was-list (Some _) e = absurd (cc)

      pub each-makes : (plans none : List Planner) → AllPlan n body plans → AllPlan n (unwrap_or last []) none → LayerPlans n each_fits_in (each_step p (head list item index key) (plan_each plans) (plan_each none))
      each-makes plans none q r at old s e =
          each-ends n p (head list item index key) each_fits_in (fit_each body) (fit_each (unwrap_or last [])) (λ number rows none. refl) (plan_each plans) (plan_each none) (each-walks n body plans q) (each-walks n (unwrap_or last []) none r) at old s (was-list old e)
