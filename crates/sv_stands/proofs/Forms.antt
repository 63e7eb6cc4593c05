-- What each form of a fragment lends.
use Rattle.std.proofs.Common.{◌≡◌, ℕ, zero, suc, Bool, true, List, [], ◌∷◌, ◌++◌, map, Option, Some, None, Ok, refl, sym, ap, subst, slice_get, unwrap_or}
use Rattle.std.proofs.lemmas.Bool.{eqb-true}
use Rattle.sv_base.specs.declared.names.Name.{Name}
use Rattle.sv_base.specs.declared.span.Span.{Span}
use Rattle.sv_code.specs.declared.fragments.Frag.{Frag-F}
use Rattle.sv_code.specs.declared.fragments.FragAttr.{FragAttr}
use Rattle.sv_code.specs.declared.fragments.LetName.{LetName}
use Rattle.sv_code.specs.declared.parts.Part.{Part}
use Rattle.sv_code.specs.declared.parts.Reading.{Reading}
use Rattle.sv_code.specs.declared.program.Program.{Program}
use Rattle.sv_code.specs.declared.tags.Tag.{Tag}
use Rattle.sv_parts.specs.Elements.{opening_by, opening_step}
use Rattle.sv_parts.specs.Parts.{marked, literal_step, text_step, show_step}
use Rattle.sv_parts.specs.Sides.{Sides}
use Rattle.sv_parts.specs.Tags.{tag_by, tag_over, tag_step}
use Rattle.sv_parts.specs.declared.state.State.{State}
use Rattle.sv_places.proofs.Changes.{Quiet, quiet-on, Ends, ends-then, ends-as}
use Rattle.sv_places.proofs.Quiet.{IsQuiet, then_quiet, ok_quiet, numbered_quiet, attrs_quiet, text_step_quiet, chosen_quiet, settled_quiet, props_quiet}
use Rattle.sv_places.proofs.Walks.{both-true, fits_in}
use Rattle.sv_places.specs.Fits.{Fitter, AllFitter, ArmFitter, fit_each, rows_fit, layer_fits}
use Rattle.sv_plan.specs.Blocks.{chosen, is_arm, settled}
use Rattle.sv_plan.specs.Lists.{list_step}
use Rattle.sv_plan.specs.Plan.{Planner, Walker, ArmPlan, Filled, plan_each, kept_step, element_step, if_step, key_step, rows_step, none_step, each_step, content_step, slot_step, body_at, head}
use Rattle.sv_plan.specs.Slots.{props_step, content_view, content_sides}
use Rattle.sv_shapes.specs.Shapes.{Opened, element_in, typed_in, states_in, mark_in, text_in, texts_in, place_in, props_in, arm_in, list_in, rows_in, key_in, parts_in}
use Rattle.sv_shapes.specs.declared.shape.AttrState.{AttrState}
use Rattle.sv_shapes.specs.declared.shape.Row.{Row}
use Rattle.sv_shapes.specs.declared.shape.Shape.{Shape, Shape-F}
use Rattle.sv_shapes.specs.declared.shape.Shape.TheVariants as shape
use Rattle.sv_shapes.specs.declared.shape.SlotProp.{SlotProp}
use Rattle.sv_stands.proofs.Lending.{lent_on, Silent, quiet_silent, silent_same, lent_none, lent_after}
use Rattle.sv_stands.proofs.Rows.{list_silent, rows_end, none_ends}
use Rattle.sv_stands.proofs.Tags.{IsTag, hold_at, hold_or, tag_ends}
use Rattle.sv_stands.proofs.Walks.{Lending, Walks, AllPlan, LayerHolder, Comes, held_in, LayerPlans, each_walks, kept_ends}
use Rattle.sv_stands.specs.Holds as holds
use Rattle.sv_stands.specs.Holds.{Hold, Holder, AllHolder, ArmHolder, hold_each, rows_hold, slot_holds, layer_holds}
use Rattle.sv_stands.specs.Lent.{PlanLends}
use Rattle.sv_tokens.specs.declared.element.Typed.{Typed}
use Rattle.sv_view.specs.Level.{View}

marked_quiet : (old : Option ℕ) → IsQuiet (marked old)
marked_quiet None = numbered_quiet
marked_quiet (Some mark) = ok_quiet mark

opening_quiet : (p : Program) (attrs : List FragAttr) (mark : Option ℕ) (typed : Option Typed) (states : List AttrState) (at : Sides) → IsQuiet (opening_by p attrs mark typed states at)
opening_quiet p attrs None typed states at = then_quiet numbered_quiet (λ mark. then_quiet (attrs_quiet p attrs [] at) (λ news. ok_quiet _))
opening_quiet p attrs (Some mark) typed states at = then_quiet (attrs_quiet p attrs states at) (λ news. ok_quiet _)

module _ (p : Program) (tags : List (Option ℕ)) (given : List ℕ → Option AllFitter) (shown : List ℕ → Option holds.Filled) where
  -- ---- texts

  pub text_comes : (text : List ℕ) → LayerPlans p (layer_fits p given (Frag-F.Text text)) (layer_holds tags shown (Frag-F.Text text)) (λ at old. literal_step (mark_in old))
  text_comes text at old s e =
      ends-then (λ _ t. Quiet s t) (Comes p (layer_holds tags shown (Frag-F.Text text)) at old s) (marked (mark_in old) s) _ ((marked_quiet (mark_in old)).held s)
      (λ m t q. record { over = Shape-F.Literal m; out = rw shape.outs-Literal refl; lent = lent_none p _ s t (quiet_silent p s t q) })

  pub show_comes : (part : Part) → LayerPlans p (layer_fits p given (Frag-F.Show part)) (layer_holds tags shown (Frag-F.Show part)) (λ at old. show_step p part at old)
  show_comes part at old s e =
      ends-then (λ _ t. Quiet s t) (Comes p (layer_holds tags shown (Frag-F.Show part)) at old s) (text_step p part (text_in old) at s) _ ((text_step_quiet p part (text_in old) at).held s)
      (λ text t q. ends-then (λ _ u. Quiet t u) (Comes p (layer_holds tags shown (Frag-F.Show part)) at old s) (marked (mark_in old) t) _ ((marked_quiet (mark_in old)).held t)
      (λ m u r. record { over = Shape-F.Text m text; out = rw shape.outs-Text refl; lent = lent_none p _ s u (quiet_silent p s u (quiet-on s t u q r)) }))

  -- ---- elements

  module _ (span : Span) (name : List ℕ) (attrs : List FragAttr) (children : List Fitter) (inner : List Holder) where
    abbrev element_holds : LayerHolder
    element_holds = layer_holds tags shown (Frag-F.Element span name attrs inner)

    was_element : (v : View) (old : Opened) → fits_in 0 (layer_fits p given (Frag-F.Element span name attrs children)) old ≡ true → (fit_each children (parts_in old) ≡ true) × (hold_each inner v (parts_in old) ≡ held_in element_holds v old)
    was_element v None e = (refl, refl)
    was_element v (Some (Shape-F.Element at typed states parts)) e = (e, refl)
    was_element v (Some _) e = absurd (cc)

    pub element_comes : (plans : List Planner) → AllPlan p children inner plans → LayerPlans p (layer_fits p given (Frag-F.Element span name attrs children)) element_holds (element_step p attrs (plan_each plans))
    element_comes plans q at old s e =
        ends-then (λ _ t. Quiet s t) (Comes p element_holds at old s) (opening_step p attrs at old s) _ ((opening_quiet p attrs (element_in old) (typed_in old) (states_in old) at).held s)
        (λ o t k. ends-then (Lending p (hold_each inner) at (parts_in old) t) (Comes p element_holds at old s) (plan_each plans at (parts_in old) t) _ ((each_walks p children inner plans q).ends at (parts_in old) t (was_element at.old old e).0)
        (λ parts u l. record {
          over = Shape-F.Element o.mark o.typed o.states parts;
          out = rw shape.outs-Element refl;
          lent = subst (λ hs. PlanLends p hs (hold_each inner at.new parts) s u) (was_element at.old old e).1 (lent_after p _ _ s t u (quiet_silent p s t k) l);
        }))

  -- ---- component tags

  module _ (k : ℕ) (reads : Reading) where
    abbrev tag_fits : Shape-F Shape Row → Bool
    tag_fits = layer_fits p given (Frag-F.Tag k reads)

    abbrev tag_holds : LayerHolder
    tag_holds = layer_holds tags shown (Frag-F.Tag k reads)

    was_tag : (v : View) (old : Opened) → hold_or p tags k (place_in old) v ≡ held_in tag_holds v old
    was_tag v None = refl
    was_tag v (Some (Shape-F.Tag place texts)) = refl
    was_tag v (Some _) = refl

    pub tag_comes : LayerPlans p tag_fits tag_holds (λ at old. tag_step p k (place_in old) (texts_in old) at)
    tag_comes at old s e = by (slice_get p.tags k) refl
      where
        by : (o : Option Tag) → slice_get p.tags k ≡ o → Ends (Comes p tag_holds at old s) (tag_over p k o (place_in old) (texts_in old) at s)
        by None g = record { over = Shape-F.Nothing; out = rw shape.outs-Nothing refl; lent = lent_none p _ s s (silent_same p s) }
        by (Some t) g =
            ends-as (IsTag p tags k at (hold_or p tags k (place_in old) at.old) s) (Comes p tag_holds at old s) (tag_by p k t (place_in old) (texts_in old) at s)
            (λ x u c. record {
              over = Shape-F.Tag c.place c.texts;
              out = rw (c.is, shape.outs-Tag) refl;
              lent = subst (λ hs. PlanLends p hs (hold_at p tags k c.place at.new ∷ []) s u) (was_tag at.old old) c.lent;
            })
            (tag_ends p tags k t g (place_in old) (texts_in old) at s)

  -- ---- fragments of a slot, which show nothing where they stand

  pub named_comes : (name : List ℕ) (lets : List LetName) (node : Fitter) (inner : Holder) → LayerPlans p (layer_fits p given (Frag-F.Named name lets node)) (layer_holds tags shown (Frag-F.Named name lets inner)) (λ at old s. Ok (shape.Nothing, s))
  named_comes name lets node inner at old s e = record { over = Shape-F.Nothing; out = rw shape.outs-Nothing refl; lent = lent_none p _ s s (silent_same p s) }

  -- ---- slots

  -- what is given to a slot walks so
  abbrev pub FilledWalks : Option AllFitter → Option holds.Filled → Option Filled → Type 0
  FilledWalks None None None = Unit {0}
  FilledWalks None None (Some f) = ⊥
  FilledWalks None (Some g) filled = ⊥
  FilledWalks (Some fit) None filled = ⊥
  FilledWalks (Some fit) (Some g) None = ⊥
  FilledWalks (Some fit) (Some g) (Some f) = (g.lets ≡ f.lets) × Walks p fit g.walk f.walk

  content_ends : (fits : Option AllFitter) (held : Option holds.Filled) (filled : Option Filled) → FilledWalks fits held filled → (own : AllFitter) (hold : AllHolder) (walk : Walker) → Walks p own hold walk → (at : Sides) (olds props : List SlotProp) (parts : List Shape) (s : State) →
      unwrap_or fits own parts ≡ true → Ends (λ news t. PlanLends p (slot_holds held hold at.old olds parts) (slot_holds held hold at.new props news) s t) (content_step filled walk at olds props parts s)
  content_ends None None None q own hold walk k at olds props parts s e = k.ends at parts s e
  content_ends None None (Some f) q own hold walk k at olds props parts s e = elim q [ ]
  content_ends None (Some g) filled q own hold walk k at olds props parts s e = elim q [ ]
  content_ends (Some fit) None filled q own hold walk k at olds props parts s e = elim q [ ]
  content_ends (Some fit) (Some g) None q own hold walk k at olds props parts s e = elim q [ ]
  content_ends (Some fit) (Some g) (Some f) q own hold walk k at olds props parts s e =
      subst (λ lets. Ends (λ news t. PlanLends p (g.walk (content_view lets olds at.old) parts) (g.walk (content_view lets props at.new) news) s t) (f.walk (content_sides f.lets olds props at) parts s)) (sym q.0) (q.1.ends (content_sides f.lets olds props at) parts s e)

  -- where there is nothing, nothing is held
  content_none : (fits : Option AllFitter) (held : Option holds.Filled) (filled : Option Filled) → FilledWalks fits held filled → (own : AllFitter) (hold : AllHolder) (walk : Walker) → Walks p own hold walk → (v : View) (props : List SlotProp) →
      (unwrap_or fits own [] ≡ true) × (slot_holds held hold v props [] ≡ [])
  content_none None None filled q own hold walk k v props = (k.empty, k.none v)
  content_none None (Some g) filled q own hold walk k v props = elim q [ ]
  content_none (Some fit) None filled q own hold walk k v props = elim q [ ]
  content_none (Some fit) (Some g) None q own hold walk k v props = elim q [ ]
  content_none (Some fit) (Some g) (Some f) q own hold walk k v props = (q.1.empty, q.1.none (content_view g.lets props v))

  module _ (span : Span) (name : List ℕ) (attrs : List FragAttr) (own : List Fitter) (inner : List Holder) (reads : Reading) where
    abbrev slot_fits : Shape-F Shape Row → Bool
    slot_fits = layer_fits p given (Frag-F.Slot span name attrs own reads)

    abbrev slot_layer : LayerHolder
    slot_layer = layer_holds tags shown (Frag-F.Slot span name attrs inner reads)

    was_slot : (v : View) → unwrap_or (given name) (fit_each own) [] ≡ true → slot_holds (shown name) (hold_each inner) v [] [] ≡ [] → (old : Opened) → fits_in 0 slot_fits old ≡ true →
        (unwrap_or (given name) (fit_each own) (parts_in old) ≡ true) × (slot_holds (shown name) (hold_each inner) v (props_in old) (parts_in old) ≡ held_in slot_layer v old)
    was_slot v z n None e = (z, n)
    was_slot v z n (Some (Shape-F.Slot props parts)) e = (e, refl)
    was_slot v z n (Some _) e = absurd (cc)

    pub slot_comes : (filled : Option Filled) → FilledWalks (given name) (shown name) filled → (plans : List Planner) → AllPlan p own inner plans → LayerPlans p slot_fits slot_layer (slot_step p attrs filled (plan_each plans))
    slot_comes filled q plans r at old s e =
        ends-then (λ _ t. Quiet s t) (Comes p slot_layer at old s) (props_step p attrs (props_in old) at s) _ ((props_quiet p attrs (props_in old) at).held s)
        (λ props t k. ends-then (λ news u. PlanLends p (slot_holds (shown name) (hold_each inner) at.old (props_in old) (parts_in old)) (slot_holds (shown name) (hold_each inner) at.new props news) t u) (Comes p slot_layer at old s)
        (content_step filled (plan_each plans) at (props_in old) props (parts_in old) t) _
        (content_ends (given name) (shown name) filled q (fit_each own) (hold_each inner) (plan_each plans) (each_walks p own inner plans r) at (props_in old) props (parts_in old) t was.0)
        (λ parts u l. record {
          over = Shape-F.Slot props parts;
          out = rw shape.outs-Slot refl;
          lent = subst (λ hs. PlanLends p hs (slot_holds (shown name) (hold_each inner) at.new props parts) s u) was.1 (lent_after p _ _ s t u (quiet_silent p s t k) l);
        }))
      where
        none : (unwrap_or (given name) (fit_each own) [] ≡ true) × (slot_holds (shown name) (hold_each inner) at.old [] [] ≡ [])
        none = content_none (given name) (shown name) filled q (fit_each own) (hold_each inner) (plan_each plans) (each_walks p own inner plans r) at.old []

        was : (unwrap_or (given name) (fit_each own) (parts_in old) ≡ true) × (slot_holds (shown name) (hold_each inner) at.old (props_in old) (parts_in old) ≡ held_in slot_layer at.old old)
        was = was_slot at.old none.0 none.1 old e

  -- ---- if blocks

  -- branches beside their fitters and holders
  abbrev pub ArmsPlan : List ArmFitter → List ArmHolder → List ArmPlan → Type 0
  ArmsPlan [] [] [] = Unit {0}
  ArmsPlan [] [] (a ∷ arms) = ⊥
  ArmsPlan [] (b ∷ inners) arms = ⊥
  ArmsPlan (f ∷ fits) [] arms = ⊥
  ArmsPlan (f ∷ fits) (b ∷ inners) [] = ⊥
  ArmsPlan (f ∷ fits) (b ∷ inners) (a ∷ arms) = AllPlan p f.1 b.1 a.1 × ArmsPlan fits inners arms

  body_plans : (fits : List ArmFitter) (inners : List ArmHolder) (arms : List ArmPlan) → ArmsPlan fits inners arms → (last_fits : Option (List Fitter)) (last_inner : Option (List Holder)) (last : Option (List Planner)) →
      AllPlan p (unwrap_or last_fits []) (unwrap_or last_inner []) (unwrap_or last []) → (i : ℕ) → AllPlan p (body_at fits last_fits i) (body_at inners last_inner i) (body_at arms last i)
  body_plans [] [] [] q last_fits last_inner last r i = r
  body_plans [] [] (a ∷ arms) q last_fits last_inner last r i = elim q [ ]
  body_plans [] (b ∷ inners) arms q last_fits last_inner last r i = elim q [ ]
  body_plans (f ∷ fits) [] arms q last_fits last_inner last r i = elim q [ ]
  body_plans (f ∷ fits) (b ∷ inners) [] q last_fits last_inner last r i = elim q [ ]
  body_plans (f ∷ fits) (b ∷ inners) (a ∷ arms) q last_fits last_inner last r zero = q.0
  body_plans (f ∷ fits) (b ∷ inners) (a ∷ arms) q last_fits last_inner last r (suc i) = body_plans fits inners arms q.1 last_fits last_inner last r i

  module _ (fits : List ArmFitter) (last_fits : Option (List Fitter)) (inners : List ArmHolder) (last_inner : Option (List Holder)) where
    abbrev if_fits : Shape-F Shape Row → Bool
    if_fits = layer_fits p given (Frag-F.If fits last_fits)

    abbrev if_holds : LayerHolder
    if_holds = layer_holds tags shown (Frag-F.If inners last_inner)

    was_arm : (v : View) (arm : ℕ) (old : Opened) → fits_in 0 if_fits old ≡ true → is_arm (arm_in old) arm ≡ true →
        (fit_each (body_at fits last_fits arm) (parts_in old) ≡ true) × (hold_each (body_at inners last_inner arm) v (parts_in old) ≡ held_in if_holds v old)
    was_arm v arm None e f = absurd (cc)
    was_arm v arm (Some (Shape-F.If was parts)) e f = let same = eqb-true was arm f in (subst (λ i. fit_each (body_at fits last_fits i) parts ≡ true) same e, ap (λ i. hold_each (body_at inners last_inner i) v parts) (sym same))
    was_arm v arm (Some _) e f = absurd (cc)

    pub if_comes : (arms : List ArmPlan) → ArmsPlan fits inners arms → (last : Option (List Planner)) → AllPlan p (unwrap_or last_fits []) (unwrap_or last_inner []) (unwrap_or last []) →
        LayerPlans p if_fits if_holds (if_step p (map (λ a. a.0) arms) (λ i. plan_each (body_at arms last i)))
    if_comes arms q last r at old s e =
        ends-then (λ _ t. Quiet s t) (Comes p if_holds at old s) (chosen p (map (λ a. a.0) arms) (arm_in old) at s) _ ((chosen_quiet p (map (λ a. a.0) arms) (arm_in old) at).held s)
        (λ arm t k. ends-then (λ news u. PlanLends p (held_in if_holds at.old old) (hold_each (body_at inners last_inner arm) at.new news) t u) (Comes p if_holds at old s) (kept_step (plan_each (body_at arms last arm)) at (is_arm (arm_in old) arm) (parts_in old) t) _
        (kept_ends p (fit_each (body_at fits last_fits arm)) (hold_each (body_at inners last_inner arm)) (plan_each (body_at arms last arm))
        (each_walks p (body_at fits last_fits arm) (body_at inners last_inner arm) (body_at arms last arm) (body_plans fits inners arms q last_fits last_inner last r arm)) at (held_in if_holds at.old old) (is_arm (arm_in old) arm) (parts_in old) t (was_arm at.old arm old e))
        (λ parts u l. record { over = Shape-F.If arm parts; out = rw shape.outs-If refl; lent = lent_after p _ _ s t u (quiet_silent p s t k) l }))

  -- ---- key blocks

  module _ (part : Part) (body : List Fitter) (inner : List Holder) where
    abbrev key_fits : Shape-F Shape Row → Bool
    key_fits = layer_fits p given (Frag-F.Key part body)

    abbrev key_holds : LayerHolder
    key_holds = layer_holds tags shown (Frag-F.Key part inner)

    was_key : (v : View) (old : Opened) → fits_in 0 key_fits old ≡ true → (fit_each body (parts_in old) ≡ true) × (hold_each inner v (parts_in old) ≡ held_in key_holds v old)
    was_key v None e = (refl, refl)
    was_key v (Some (Shape-F.Key state parts)) e = (e, refl)
    was_key v (Some _) e = absurd (cc)

    pub key_comes : (plans : List Planner) → AllPlan p body inner plans → LayerPlans p key_fits key_holds (key_step p part (plan_each plans))
    key_comes plans q at old s e =
        ends-then (λ _ t. Quiet s t) (Comes p key_holds at old s) (settled p part (key_in old) at s) _ ((settled_quiet p part (key_in old) at).held s)
        (λ c t k. ends-then (λ news u. PlanLends p (held_in key_holds at.old old) (hold_each inner at.new news) t u) (Comes p key_holds at old s) (kept_step (plan_each plans) at c.kept (parts_in old) t) _
        (kept_ends p (fit_each body) (hold_each inner) (plan_each plans) (each_walks p body inner plans q) at (held_in key_holds at.old old) c.kept (parts_in old) t (λ _. was_key at.old old e))
        (λ parts u l. record { over = Shape-F.Key c.state parts; out = rw shape.outs-Key refl; lent = lent_after p _ _ s t u (quiet_silent p s t k) l }))

  -- ---- each blocks

  module _ (list : Part) (item : Name) (index : Option Name) (key : Option Part) (body : List Fitter) (last : Option (List Fitter)) (inner : List Holder) (last_inner : Option (List Holder)) where
    abbrev list_fits : Shape-F Shape Row → Bool
    list_fits = layer_fits p given (Frag-F.Each list item index key body last)

    abbrev list_holds : LayerHolder
    list_holds = layer_holds tags shown (Frag-F.Each list item index key inner last_inner)

    -- the holds in its rows
    abbrev in_rows : ℕ → View → List Row → List Hold
    in_rows number v rows = rows_hold (head list item index key) (hold_each inner) number v 0 rows

    abbrev in_none : View → List Shape → List Hold
    in_none v none = hold_each (unwrap_or last_inner []) v none

    -- what there was of one
    record WasList (v : View) (old : Opened) : Type 0 where
      pub rows : rows_fit (fit_each body) (rows_in old) ≡ true
      pub none : fit_each (unwrap_or last []) (parts_in old) ≡ true
      pub held : in_rows (unwrap_or (list_in old) 0) v (rows_in old) ++ in_none v (parts_in old) ≡ held_in list_holds v old

    was_list : (v : View) (old : Opened) → fits_in 0 list_fits old ≡ true → WasList v old
    was_list v None e = record { rows = refl; none = refl; held = refl }
    was_list v (Some (Shape-F.Each number rows none)) e =
        let a = both-true _ _ e in
        let b = both-true _ _ a.0 in
        let c = both-true _ _ b.0 in
        record { rows = c.1; none = b.1; held = refl }
    was_list v (Some _) e = absurd (cc)

    pub each_comes : (plans none : List Planner) → AllPlan p body inner plans → AllPlan p (unwrap_or last []) (unwrap_or last_inner []) none → LayerPlans p list_fits list_holds (each_step p (head list item index key) (plan_each plans) (plan_each none))
    each_comes plans none q r at old s e =
        ends-then (λ _ t. Silent p s t) (Comes p list_holds at old s) (list_step p (head list item index key) at (list_in old) (rows_in old) (parts_in old) s) _ (list_silent p (head list item index key) at (list_in old) (rows_in old) (parts_in old) s)
        (λ x t g. ends-then (λ rs u. PlanLends p (in_rows (unwrap_or (list_in old) 0) at.old (rows_in old)) (in_rows x.number at.new rs) t u) (Comes p list_holds at old s) (rows_step (head list item index key) (plan_each plans) at (unwrap_or (list_in old) 0) x (rows_in old) t) _
        (rows_end p (head list item index key) (fit_each body) (hold_each inner) (plan_each plans) (each_walks p body inner plans q) at (unwrap_or (list_in old) 0) x.number (rows_in old) was.rows 0 x.entries t)
        (λ rs u l. ends-then (λ none_now w. PlanLends p (in_none at.old (parts_in old)) (in_none at.new none_now) u w) (Comes p list_holds at old s) (none_step (plan_each none) at x.entries (parts_in old) u) _
        (none_ends p (fit_each (unwrap_or last [])) (hold_each (unwrap_or last_inner [])) (plan_each none) (each_walks p (unwrap_or last []) (unwrap_or last_inner []) none r) at x.entries (parts_in old) u was.none)
        (λ none_now w m. record {
          over = Shape-F.Each x.number rs none_now;
          out = rw shape.outs-Each refl;
          lent = subst (λ hs. PlanLends p hs (in_rows x.number at.new rs ++ in_none at.new none_now) s w) was.held (lent_after p _ _ s t w g (lent_on p _ _ _ _ t u w l m));
        })))
      where
        was : WasList at.old old
        was = was_list at.old old e
