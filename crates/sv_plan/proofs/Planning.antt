-- Plans by the form of the fragment.
use Rattle.std.proofs.Common.{◌≡◌, ℕ, suc, zero, ◌+◌, ◌<◌, List, [], ◌∷◌, ◌++◌, length, get_or, map, refl, sym, ap, ◌∙◌, Option, Some, None, option_map, unwrap_or, Result, Ok, Err}
use Rattle.std.specs.List.{slice_get}
use Rattle.sv_base.specs.declared.names.Name.{Name}
use Rattle.sv_base.specs.declared.span.Span.{Span}
use Rattle.sv_code.specs.declared.fragments.Frag.{Frag, out-Frag, fold_out-Frag, map-Frag}
use Rattle.sv_code.specs.declared.fragments.Frag.TheVariants as frag
use Rattle.sv_code.specs.declared.fragments.FragArm.{FragArm, fold-FragArm, fold_out-FragArm}
use Rattle.sv_code.specs.declared.fragments.FragAttr.{FragAttr}
use Rattle.sv_code.specs.declared.fragments.LetName.{LetName}
use Rattle.sv_code.specs.declared.parts.Part.{Part}
use Rattle.sv_code.specs.declared.parts.Reading.{Reading}
use Rattle.sv_code.specs.declared.program.Program.{Program}
use Rattle.sv_keyed.specs.Keys.{place_of}
use Rattle.sv_plan.proofs.Going.{found-at}
use Rattle.sv_parts.proofs.Steps.{Left, left-begins, left-steps, left-stops, one-ok, one-err, along}
use Rattle.sv_plan.specs.Blocks.{tests, chosen, is_arm}
use Rattle.sv_plan.specs.Content.{Content, content_at, outer_tags}
use Rattle.sv_parts.specs.Parts.{literal_step, show_step}
use Rattle.sv_plan.specs.Plan.{Planner, Walker, ArmPlan, Filled, plan_each, plan, plan_all, slotted, step, arm_step, body_at, body_in, head, kept_step, element_step, if_step, key_step, each_step, slot_step, content_step, row_step}
use Rattle.sv_parts.specs.Sides.{Sides}
use Rattle.sv_plan.specs.Lists.{Head, keys_of, row_keys, place_at}
use Rattle.sv_plan.specs.Rows.{OldRow, old_found, old_row}
use Rattle.sv_plan.specs.declared.lists.Entry.{Entry}
use Rattle.sv_shapes.specs.declared.shape.Row.{Row}
use Rattle.sv_plan.specs.Slots.{content_sides, content_view}
use Rattle.sv_parts.specs.State.{Outcome, Run, andThen, Meets, each, one}
use Rattle.sv_parts.specs.Tags.{tag_step}
use Rattle.sv_parts.specs.declared.refusal.PatchError.{PatchError}
use Rattle.sv_parts.specs.declared.state.State.{State}
use Rattle.sv_shapes.specs.Shapes.{opened, mark_in, texts_in, place_in, arm_in, parts_in}
use Rattle.sv_shapes.specs.declared.shape.Shape.{Shape}
use Rattle.sv_shapes.specs.declared.shape.Shape.TheVariants as shape
use Rattle.sv_shapes.specs.declared.shape.SlotProp.{SlotProp}
use Rattle.sv_view.specs.Level.{View}

module _ (p : Program) (tags : List (Option ℕ)) where
  unfoldable arm_plan : FragArm → ArmPlan
  arm_plan = fold-FragArm Planner ArmPlan (step p (slotted p tags)) arm_step

  plan-out : (f : Frag) (at : Sides) (old : Option Shape) (s : State) → plan p tags f at old s ≡ step p (slotted p tags) (map-Frag _ _ _ _ (plan p tags) arm_plan (out-Frag f)) at old s
  unfolding plan arm_plan
  plan-out f at old s = ap (λ (g : Planner). g at old s) (fold_out-Frag Planner ArmPlan (step p (slotted p tags)) arm_step f)

  arm-out : (a : FragArm) → arm_plan a ≡ (a.test, map (plan p tags) a.body)
  unfolding plan arm_plan
  arm-out a = fold_out-FragArm Planner ArmPlan (step p (slotted p tags)) arm_step a

  -- fragments are planned one by one
  pub all-is : (fs : List Frag) → plan_all p tags fs ≡ plan_each (map (plan p tags) fs)
  unfolding plan plan_all
  all-is fs = refl

  tests-are : (arms : List FragArm) → map (λ a. a.0) (map arm_plan arms) ≡ tests arms
  tests-are [] = refl
  tests-are (a ∷ arms) = ap (λ (x : ArmPlan). x.0 ∷ map (λ a. a.0) (map arm_plan arms)) (arm-out a) ∙ ap (λ ts. a.test ∷ ts) (tests-are arms)

  body-is : (arms : List FragArm) (last : Option (List Frag)) (i : ℕ) → body_at (map arm_plan arms) (option_map (map (plan p tags)) last) i ≡ map (plan p tags) (body_in arms (unwrap_or last []) i)
  body-is [] None i = refl
  body-is [] (Some last) i = refl
  body-is (a ∷ arms) last zero = ap (λ (x : ArmPlan). x.1) (arm-out a)
  body-is (a ∷ arms) last (suc i) = body-is arms last i

  frags-are : (fs : Option (List Frag)) → unwrap_or (option_map (map (plan p tags)) fs) [] ≡ map (plan p tags) (unwrap_or fs [])
  frags-are None = refl
  frags-are (Some fs) = refl

  same-if : (o : Outcome ℕ) (w w' : ℕ → Walker) (at : Sides) (old : Option ℕ) (parts : List Shape) → ((i : ℕ) → w i ≡ w' i) →
      andThen o (λ i v. andThen (kept_step (w i) at (is_arm old i) parts v) (λ xs u. Ok (shape.If i xs, u))) ≡ andThen o (λ i v. andThen (kept_step (w' i) at (is_arm old i) parts v) (λ xs u. Ok (shape.If i xs, u)))
  same-if (Ok x) w w' at old parts e = ap (λ (g : Walker). andThen (kept_step g at (is_arm old x.0) parts x.1) (λ xs u. Ok (shape.If x.0 xs, u))) (e x.0)
  same-if (Err r) w w' at old parts e = refl

  -- ---- what a call for a form met, the fragment met

  module _ (f : Frag) (at : Sides) (old : Option Shape) (s v : State) (r : Result Shape PatchError) where
    pub meets-Text : (text : List ℕ) (mark : Option ℕ) → f ≡ frag.Text text → mark ≡ mark_in (opened old) → Meets r v (literal_step mark s) → Meets r v (plan p tags f at old s)
    meets-Text text mark is e m = along r v (literal_step mark s) _ (rw (is, plan-out, frag.outs-Text, e) refl) m

    pub meets-Show : (part : Part) → f ≡ frag.Show part → Meets r v (show_step p part at (opened old) s) → Meets r v (plan p tags f at old s)
    meets-Show part is m = along r v (show_step p part at (opened old) s) _ (rw (is, plan-out, frag.outs-Show) refl) m

    pub meets-Element : (span : Span) (name : List ℕ) (attrs as' : List FragAttr) (children cs : List Frag) → f ≡ frag.Element span name attrs children → as' ≡ attrs → cs ≡ children →
        Meets r v (element_step p as' (plan_all p tags cs) at (opened old) s) → Meets r v (plan p tags f at old s)
    meets-Element span name attrs as' children cs is e k m = along r v (element_step p as' (plan_all p tags cs) at (opened old) s) _ (rw (is, plan-out, frag.outs-Element, all-is, e, k) refl) m

    pub meets-Tag : (tag : ℕ) (reads : Reading) (place : Option ℕ) (texts : List (List (List ℕ))) → f ≡ frag.Tag tag reads → place ≡ place_in (opened old) → texts ≡ texts_in (opened old) →
        Meets r v (tag_step p tag place texts at s) → Meets r v (plan p tags f at old s)
    meets-Tag tag reads place texts is e k m = along r v (tag_step p tag place texts at s) _ (rw (is, plan-out, frag.outs-Tag, e, k) refl) m

    pub meets-Named : (name : List ℕ) (lets : List LetName) (node : Frag) → f ≡ frag.Named name lets node → Meets r v (Ok (shape.Nothing, s)) → Meets r v (plan p tags f at old s)
    meets-Named name lets node is m = along r v (Ok (shape.Nothing, s)) _ (rw (is, plan-out, frag.outs-Named) refl) m

    pub meets-Slot : (span : Span) (name : List ℕ) (attrs as' : List FragAttr) (own os : List Frag) (reads : Reading) → f ≡ frag.Slot span name attrs own reads → as' ≡ attrs → os ≡ own →
        Meets r v (slot_step p as' (slotted p tags name) (plan_all p tags os) at (opened old) s) → Meets r v (plan p tags f at old s)
    meets-Slot span name attrs as' own os reads is e k m = along r v (slot_step p as' (slotted p tags name) (plan_all p tags os) at (opened old) s) _ (rw (is, plan-out, frag.outs-Slot, all-is, e, k) refl) m

    pub meets-If : (arms as' : List FragArm) (last : Option (List Frag)) (ls : List Frag) → f ≡ frag.If arms last → as' ≡ arms → ls ≡ unwrap_or last [] →
        Meets r v (if_step p (tests as') (λ i. plan_all p tags (body_in as' ls i)) at (opened old) s) → Meets r v (plan p tags f at old s)
    meets-If arms as' None ls is e k m =
        along r v (if_step p (tests as') (λ i. plan_all p tags (body_in as' ls i)) at (opened old) s) _
        (rw (is, plan-out, frag.outs-If, e, k) (ap (λ ts. if_step p ts (λ i. plan_each (body_at (map arm_plan arms) None i)) at (opened old) s) (tests-are arms)
        ∙ same-if (chosen p (tests arms) (arm_in (opened old)) at s) (λ i. plan_each (body_at (map arm_plan arms) None i)) (λ i. plan_all p tags (body_in arms [] i)) at (arm_in (opened old)) (parts_in (opened old)) (λ i. ap plan_each (body-is arms None i) ∙ sym (all-is (body_in arms [] i))))) m
    meets-If arms as' (Some last) ls is e k m =
        along r v (if_step p (tests as') (λ i. plan_all p tags (body_in as' ls i)) at (opened old) s) _
        (rw (is, plan-out, frag.outs-If, e, k) (ap (λ ts. if_step p ts (λ i. plan_each (body_at (map arm_plan arms) (Some (map (plan p tags) last)) i)) at (opened old) s) (tests-are arms)
        ∙ same-if (chosen p (tests arms) (arm_in (opened old)) at s) (λ i. plan_each (body_at (map arm_plan arms) (Some (map (plan p tags) last)) i)) (λ i. plan_all p tags (body_in arms last i)) at (arm_in (opened old)) (parts_in (opened old)) (λ i. ap plan_each (body-is arms (Some last) i) ∙ sym (all-is (body_in arms last i))))) m

    pub meets-Each : (list : Part) (item : Name) (index : Option Name) (key : Option Part) (body bs : List Frag) (none : Option (List Frag)) (ns : List Frag) (h : Head) → f ≡ frag.Each list item index key body none →
        h ≡ head list item index key → bs ≡ body → ns ≡ unwrap_or none [] →
        Meets r v (each_step p h (plan_all p tags bs) (plan_all p tags ns) at (opened old) s) → Meets r v (plan p tags f at old s)
    meets-Each list item index key body bs None ns h is e k q m =
        along r v (each_step p h (plan_all p tags bs) (plan_all p tags ns) at (opened old) s) _ (rw (is, plan-out, frag.outs-Each, all-is bs, all-is ns, e, k, q) refl) m
    meets-Each list item index key body bs (Some none) ns h is e k q m =
        along r v (each_step p h (plan_all p tags bs) (plan_all p tags ns) at (opened old) s) _ (rw (is, plan-out, frag.outs-Each, all-is bs, all-is ns, e, k, q) refl) m

    pub meets-Key : (part : Part) (body bs : List Frag) → f ≡ frag.Key part body → bs ≡ body →
        Meets r v (key_step p part (plan_all p tags bs) at (opened old) s) → Meets r v (plan p tags f at old s)
    meets-Key part body bs is e m = along r v (key_step p part (plan_all p tags bs) at (opened old) s) _ (rw (is, plan-out, frag.outs-Key, all-is, e) refl) m

  -- ---- fragments beside one another

  then-same : {B : Type 0} (o : Outcome (List B)) (k k' : State → Outcome (List B)) → ((v : State) → k v ≡ k' v) →
      andThen o (λ ys v. andThen (k v) (λ zs u. Ok (ys ++ zs, u))) ≡ andThen o (λ ys v. andThen (k' v) (λ zs u. Ok (ys ++ zs, u)))
  then-same (Ok x) k k' h = ap (λ y. andThen y (λ zs u. Ok (x.0 ++ zs, u))) (h x.1)
  then-same (Err r) k k' h = refl

  each-map : {A B C : Type 0} (f : B → ℕ → Run (List C)) (g : A → B) (i : ℕ) (xs : List A) (s : State) → each f i (map g xs) s ≡ each (λ x j u. f (g x) j u) i xs s
  each-map f g i [] s = refl
  each-map f g i (x ∷ xs) s = then-same (f (g x) i s) (λ v. each f (suc i) (map g xs) v) (λ v. each (λ y j u. f (g y) j u) (suc i) xs v) (λ v. each-map f g (suc i) xs v)

  -- the loop over them begins
  pub list-begins : (fs : List Frag) (at : Sides) (shapes : List Shape) (s : State) → Left (λ f i u. one (plan p tags f at (slice_get shapes i) u)) (plan_all p tags fs at shapes s) fs 0 [] s
  list-begins fs at shapes s =
      rw (all-is, each-map (λ (g : Planner) (i : ℕ) (u : State). one (g at (slice_get shapes i) u)) (plan p tags) 0 fs s) (left-begins (λ f i u. one (plan p tags f at (slice_get shapes i) u)) fs s)

-- ---- slots

abbrev pub filled : Program → List (Option ℕ) → Content → Filled
filled p tags c = record { lets = c.lets; walk = plan_all p (outer_tags tags) c.frags }

slotted-is : (p : Program) (tags : List (Option ℕ)) (name : List ℕ) → slotted p tags name ≡ option_map (filled p tags) (content_at p tags name)
unfolding plan_all
slotted-is p [] name = refl
slotted-is p (tag ∷ tags) name = refl

module _ (p : Program) (tags : List (Option ℕ)) (name : List ℕ) (own : Walker) (at : Sides) (olds props : List SlotProp) (parts : List Shape) (s v : State) (r : Result (List Shape) PatchError) where
  -- content that is given
  pub meets-given : (c : Content) (o n : View) (name' : List ℕ) (olds' : List SlotProp) (ts : List (Option ℕ)) (ps : List Shape) → name' ≡ name → olds' ≡ olds → ts ≡ outer_tags tags → ps ≡ parts → Some c ≡ content_at p tags name' →
      o ≡ content_view c.lets olds' at.old → n ≡ content_view c.lets props at.new → Meets r v (plan_all p ts c.frags (record { old = o; new = n }) ps s) → Meets r v (content_step (slotted p tags name) own at olds props parts s)
  meets-given c o n name' olds' ts ps e1 e2 e3 e4 is k q m =
      along r v (plan_all p ts c.frags (record { old = o; new = n }) ps s) _
      (ap (λ x. content_step x own at olds props parts s) (slotted-is p tags name ∙ ap (option_map (filled p tags)) (ap (content_at p tags) (sym e1) ∙ sym is))
      ∙ ap (λ x. plan_all p x c.frags (content_sides c.lets olds props at) parts s) (sym e3)
      ∙ ap (λ x. plan_all p ts c.frags (record { old = x; new = content_view c.lets props at.new }) parts s) (sym (k ∙ ap (λ xs. content_view c.lets xs at.old) e2))
      ∙ ap (λ x. plan_all p ts c.frags (record { old = o; new = x }) parts s) (sym q)
      ∙ ap (λ xs. plan_all p ts c.frags (record { old = o; new = n }) xs s) (sym e4)) m

-- ---- rows

module _ (h : Head) (walk : Walker) (at : Sides) (m m' n : ℕ) (rows : List Row) (entries : List Entry) (places : List (Option ℕ)) (all : Outcome (List Row)) (i : ℕ) (so_far : List Row) (e : Entry) (old : Option OldRow) (s v : State)
    (done : Left (λ x j u. one (row_step h walk at m n (old_row rows x.key) j x u)) all entries i so_far s) (lt : i < length entries) (is : e ≡ get_or entries i e) (same : m' ≡ m) (found : places ≡ map (place_of (row_keys rows)) (keys_of entries))
    (here : old ≡ old_found rows (place_at places i)) where
  -- the row that was found is the one that had the key
  old-is : old ≡ old_row rows e.key
  old-is = here ∙ ap (λ x. old_found rows x) (ap (λ ps. place_at ps i) found ∙ found-at (place_of (row_keys rows)) (λ x. x.key) entries i e lt is)

  step-is : row_step h walk at m n (old_row rows e.key) i e s ≡ row_step h walk at m' n old i e s
  step-is = ap (λ k. row_step h walk at k n (old_row rows e.key) i e s) (sym same) ∙ ap (λ o. row_step h walk at m' n o i e s) (sym old-is)

  -- one more row
  pub rows-more : (row : Row) → Meets (Ok row) v (row_step h walk at m' n old i e s) → Left (λ x j u. one (row_step h walk at m n (old_row rows x.key) j x u)) all entries (i + 1) (so_far ++ row ∷ []) v
  rows-more row met = left-steps (λ x j u. one (row_step h walk at m n (old_row rows x.key) j x u)) all entries i so_far (row ∷ []) s v e done lt is (one-ok row v _ (along (Ok row) v _ _ step-is met))

  -- a row that is refused
  pub rows-stop : (error : PatchError) (u : State) → Meets {A = Row} (Err error) v (row_step h walk at m' n old i e s) → Meets {A = List Row} (Err error) u all
  rows-stop error u met = left-stops (λ x j u. one (row_step h walk at m n (old_row rows x.key) j x u)) all entries i so_far s v u e error done lt is (one-err error v v _ (along (Err error) v _ _ step-is met))
