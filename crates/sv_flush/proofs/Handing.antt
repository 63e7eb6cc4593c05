-- The views that a patch hands down are made of the one on which it walks: with other locals, and of the owner's view.
use Rattle.std.proofs.Common.{◌≡◌, ℕ, zero, suc, Bool, true, false, List, [], ◌∷◌, ◌++◌, map, length, Option, Some, None, option_map, Ok, Err, unwrap_or, sym, subst, slice_get, if◌then◌else◌}
use Rattle.sv_base.specs.declared.names.Name.{Name}
use Rattle.sv_code.proofs.Each.{each_append, each_of}
use Rattle.sv_code.specs.Names.{Each}
use Rattle.sv_code.specs.declared.fragments.Frag.{Frag, Frag-F, roll-Frag, map-Frag, fold-roll-Frag, ind-Frag}
use Rattle.sv_code.specs.declared.fragments.FragArm.{FragArm, FragArm-F, roll-FragArm, map-FragArm, fold-FragArm, fold-roll-FragArm}
use Rattle.sv_code.specs.declared.fragments.FragAttr.{FragAttr}
use Rattle.sv_code.specs.declared.fragments.LetName.{LetName}
use Rattle.sv_code.specs.declared.parts.Part.{Part}
use Rattle.sv_code.specs.declared.program.Program.{Program}
use Rattle.sv_code.specs.declared.tags.Tag.{Tag}
use Rattle.sv_parts.specs.Elements.{opening_by, opening_step}
use Rattle.sv_parts.specs.Parts.{marked, literal_step, show_step}
use Rattle.sv_parts.specs.Sides.{Sides, moved}
use Rattle.sv_parts.specs.State.{Outcome, Run, andThen, numbered, spent, emitted, remembered, destroyed, each, one}
use Rattle.sv_parts.specs.Tags.{create_step, view_for, set_step, keep_step, kept_tag, tag_by, tag_over}
use Rattle.sv_parts.specs.declared.refusal.Refusal.{Refusal}
use Rattle.sv_parts.specs.declared.state.Effect.{Effect}
use Rattle.sv_parts.specs.declared.state.Effect.TheVariants as effect
use Rattle.sv_parts.specs.declared.state.Given.{Given}
use Rattle.sv_parts.specs.declared.state.Kept.{Kept}
use Rattle.sv_parts.specs.declared.state.State.{State}
use Rattle.sv_places.proofs.Changes.{Quiet, Ends}
use Rattle.sv_places.proofs.Quiet.{IsQuiet, numbered_quiet, spent_quiet, evaluated_quiet, text_step_quiet, offers_quiet, attrs_quiet, chosen_quiet, settled_quiet, row_key_quiet, items_or_quiet, props_quiet}
use Rattle.sv_plan.specs.Blocks.{is_arm}
use Rattle.sv_plan.specs.Content.{Content, content_at}
use Rattle.sv_plan.specs.Lists.{Head, with_index, entries_step, refuse, once, items_in, listing_of, enumerated, gone, listed_anew, list_step}
use Rattle.sv_plan.specs.Patch.{planned, old_view, old_parts}
use Rattle.sv_plan.specs.Plan.{Planner, Walker, ArmPlan, Filled, plan_each, kept_step, if_step, row_step, none_step, listed_step, each_step, content_step, step, arm_step, body_at, head, planner, walker, slotted, plan_all}
use Rattle.sv_plan.specs.Rows.{OldRow, old_row, row_sides}
use Rattle.sv_plan.specs.Rows as rows
use Rattle.sv_plan.specs.Slots.{prop_named, let_by, with_lets, outer, content_view, content_sides}
use Rattle.sv_plan.specs.declared.lists.Entry.{Entry}
use Rattle.sv_plan.specs.declared.lists.Listing.{Listing}
use Rattle.sv_shapes.specs.Places.{places_all}
use Rattle.sv_shapes.specs.Shapes.{Opened, opened, element_in, typed_in, states_in, mark_in, text_in, texts_in, place_in, props_in, arm_in, list_in, rows_in, key_in, parts_in}
use Rattle.sv_shapes.specs.declared.shape.Row.{Row}
use Rattle.sv_shapes.specs.declared.shape.Shape.{Shape}
use Rattle.sv_shapes.specs.declared.shape.Shape.TheVariants as shape
use Rattle.sv_shapes.specs.declared.shape.SlotProp.{SlotProp}
use Rattle.sv_shapes.specs.declared.shown.Shown.{Shown}
use Rattle.sv_value.specs.Value.{Val}
use Rattle.sv_value.specs.declared.key.Key.{Key}
use Rattle.sv_view.specs.Level.{View}
use Rattle.sv_view.specs.Local.{Local}
use Rattle.sv_view.specs.View.{with_locals}

-- the view that an effect hands down is such a one, if it hands down one
abbrev pub HandsView : (View → Type 0) → Option View → Type 0
HandsView W None = Unit {0}
HandsView W (Some view) = W view

abbrev pub Hands : (View → Type 0) → Effect → Type 0
Hands W (effect.Create place k props view) = W view
Hands W (effect.Set place props view) = HandsView W view
Hands W (effect.Destroy place) = Unit {0}

-- such views stay such with other locals, and so do the views of their owners
pub record Passes (W : View → Type 0) : Type 0 where
  pub locals : (v : View) (locals : List Local) → W v → W (with_locals v locals)
  pub owner : (v : View) → W v → W (outer v)

-- all effects so far hand down such views
abbrev pub Handed : (W : View → Type 0) {A : Type 0} → Outcome A → Type 0
Handed W (Ok x) = Each (Hands W) x.1.effects
Handed W (Err r) = Unit {0}

-- a step hands down no others
pub record HandsOnly (W : View → Type 0) {A : Type 0} (run : Run A) : Type 0 where
  pub held : (s : State) → Each (Hands W) s.effects → Handed W (run s)

module _ (W : View → Type 0) where
  if_handed : {A : Type 0} (b : Bool) (x y : Outcome A) → Handed W x → Handed W y → Handed W (if b then x else y)
  if_handed true x y h k = h
  if_handed false x y h k = k

  destroys_hand : (places : List ℕ) → Each (Hands W) (map effect.Destroy places)
  destroys_hand [] = tt
  destroys_hand (p ∷ places) = (tt, destroys_hand places)

  view_hands : (b : Bool) (v : View) → W v → HandsView W (if b then Some v else None)
  view_hands true v h = h
  view_hands false v h = tt

module _ {W : View → Type 0} where
  then_handed : {A B : Type 0} (o : Outcome A) (go : A → Run B) → Handed W o → ((a : A) (s : State) → Each (Hands W) s.effects → Handed W (go a s)) → Handed W (andThen o go)
  then_handed (Ok x) go h k = k x.0 x.1 h
  then_handed (Err r) go h k = tt

  then_hands : {A B : Type 0} {m : Run A} {go : A → Run B} → HandsOnly W m → ((a : A) → HandsOnly W (go a)) → HandsOnly W (λ s. andThen (m s) go)
  then_hands {m = m} {go = go} k l = record { held = λ s h. then_handed (m s) go (k.held s h) (λ a u g. (l a).held u g) }

  ok_hands : {A : Type 0} (a : A) → HandsOnly W (λ s. Ok (a, s))
  ok_hands a = record { held = λ s h. h }

  err_hands : {A : Type 0} (r : Refusal) → HandsOnly W {A = A} (λ s. Err r)
  err_hands r = record { held = λ s h. tt }

  cond_hands : {A : Type 0} (b : Bool) {m n : Run A} → HandsOnly W m → HandsOnly W n → HandsOnly W (λ s. if b then m s else n s)
  cond_hands true k l = k
  cond_hands false k l = l

  all_hand : {A B : Type 0} {f : A → ℕ → Run (List B)} (Q : A → Type 0) (i : ℕ) (xs : List A) → Each Q xs → ((x : A) (j : ℕ) → Q x → HandsOnly W (f x j)) → HandsOnly W (each f i xs)
  all_hand Q i [] q k = ok_hands []
  all_hand Q i (x ∷ xs) q k = then_hands (k x i q.0) (λ ys. then_hands (all_hand Q (suc i) xs q.1 k) (λ zs. ok_hands (ys ++ zs)))

  each_hands : {A B : Type 0} {f : A → ℕ → Run (List B)} (i : ℕ) (xs : List A) → ((x : A) (j : ℕ) → HandsOnly W (f x j)) → HandsOnly W (each f i xs)
  each_hands i xs k = all_hand (λ x. Unit {0}) i xs (each_of (λ x. Unit {0}) (λ x. tt) xs) (λ x j _. k x j)

  one_hands : {A : Type 0} {m : Run A} → HandsOnly W m → HandsOnly W (λ s. one (m s))
  one_hands k = then_hands k (λ x. ok_hands (x ∷ []))

  -- ---- counters and effects

  -- what adds no effect hands nothing down
  quiet_hands : {A : Type 0} {m : Run A} → IsQuiet m → HandsOnly W m
  quiet_hands {m = m} k = record { held = λ s h. by s (m s) (k.held s) h } where
    by : {A : Type 0} (s : State) (o : Outcome A) → Ends (λ _ t. Quiet s t) o → Each (Hands W) s.effects → Handed W o
    by s (Ok x) q h = subst (Each (Hands W)) (sym q.effects) h
    by s (Err r) q h = tt

  numbered_hands : HandsOnly W numbered
  numbered_hands = quiet_hands numbered_quiet

  spent_hands : (n : ℕ) → HandsOnly W (spent n)
  spent_hands n = quiet_hands (spent_quiet n)

  emitted_hands : (e : Effect) → Hands W e → HandsOnly W (emitted e)
  emitted_hands e d = record { held = λ s h. each_append (Hands W) s.effects (e ∷ []) h (d, tt) }

  remembered_hands : (k : Kept) → HandsOnly W (remembered k)
  remembered_hands k = record { held = λ s h. h }

  destroyed_hands : (parts : List Shape) → HandsOnly W (destroyed parts)
  destroyed_hands parts = record { held = λ s h. each_append (Hands W) s.effects (map effect.Destroy (places_all parts)) h (destroys_hand W (places_all parts)) }

  -- ---- parts

  marked_hands : (old : Option ℕ) → HandsOnly W (marked old)
  marked_hands None = numbered_hands
  marked_hands (Some mark) = ok_hands mark

  literal_hands : (old : Option ℕ) → HandsOnly W (literal_step old)
  literal_hands old = then_hands (marked_hands old) (λ mark. ok_hands (shape.Literal mark))

  show_hands : (p : Program) (part : Part) (at : Sides) (old : Opened) → HandsOnly W (show_step p part at old)
  show_hands p part at old = then_hands (quiet_hands (text_step_quiet p part (text_in old) at)) (λ text. then_hands (marked_hands (mark_in old)) (λ mark. ok_hands (shape.Text mark text)))

  -- ---- tags

  create_hands : (k : ℕ) (props : List Given) (texts : List (List (List ℕ))) (at : Sides) → W at.new → HandsOnly W (create_step k props texts at)
  create_hands k props texts at h = then_hands numbered_hands (λ place. then_hands (emitted_hands (effect.Create place k props at.new) h) (λ _. ok_hands (shape.Tag place texts)))

  set_hands : (place : ℕ) (props : List Given) (view : Option View) → HandsView W view → HandsOnly W (set_step place props view)
  set_hands place [] None h = ok_hands tt
  set_hands place [] (Some view) h = emitted_hands (effect.Set place [] (Some view)) h
  set_hands place (g ∷ props) view h = emitted_hands (effect.Set place (g ∷ props) view) h

  keep_hands : (place : ℕ) (props : List Given) (view : Option View) (at : Sides) → HandsView W view → HandsOnly W (keep_step place props view at)
  keep_hands place props view at h = then_hands (set_hands place props view h) (λ _. remembered_hands (record { place = place; locals = at.new.own.locals }))

  kept_tag_hands : (p : Program) (t : Tag) (place : ℕ) (texts : List (List (List ℕ))) (at : Sides) → W at.new → HandsOnly W (kept_tag p t place texts at)
  kept_tag_hands p t place texts at h = then_hands (quiet_hands (offers_quiet p t.attrs texts false at)) (λ offers. then_hands (keep_hands place _ (view_for p t at) at (view_hands W _ at.new h)) (λ _. ok_hands _))

  tag_by_hands : (p : Program) (k : ℕ) (t : Tag) (old : Option ℕ) (texts : List (List (List ℕ))) (at : Sides) → W at.new → HandsOnly W (tag_by p k t old texts at)
  tag_by_hands p k t None texts at h = then_hands (quiet_hands (offers_quiet p t.attrs [] true at)) (λ offers. create_hands k _ _ at h)
  tag_by_hands p k t (Some place) texts at h = kept_tag_hands p t place texts at h

  tag_over_hands : (p : Program) (k : ℕ) (o : Option Tag) (old : Option ℕ) (texts : List (List (List ℕ))) (at : Sides) → W at.new → HandsOnly W (tag_over p k o old texts at)
  tag_over_hands p k None old texts at h = ok_hands shape.Nothing
  tag_over_hands p k (Some t) old texts at h = tag_by_hands p k t old texts at h

  -- ---- elements

  opening_hands : (p : Program) (attrs : List FragAttr) (at : Sides) (old : Opened) → HandsOnly W (opening_step p attrs at old)
  opening_hands p attrs at old = by (element_in old) where
    by : (mark : Option ℕ) → HandsOnly W (opening_by p attrs mark (typed_in old) (states_in old) at)
    by None = then_hands numbered_hands (λ mark. then_hands (quiet_hands (attrs_quiet p attrs [] at)) (λ states. ok_hands _))
    by (Some mark) = then_hands (quiet_hands (attrs_quiet p attrs (states_in old) at)) (λ states. ok_hands _)

  -- ---- each blocks

  entries_hand : (p : Program) (h : Head) (at : Sides) (n : ℕ) (vs : List Val) → HandsOnly W (entries_step p h at n vs)
  entries_hand p h at n vs = each_hands 0 vs (λ item i. one_hands (then_hands (quiet_hands (row_key_quiet p h h.key at n i item)) (λ key. ok_hands (record { key = key; item = item }))))

  refuse_hands : (part : Part) (o : Option Key) → HandsOnly W (refuse part o)
  refuse_hands part None = ok_hands tt
  refuse_hands part (Some key) = err_hands _

  once_hands : (key : Option Part) (entries : List Entry) → HandsOnly W (once key entries)
  once_hands None entries = ok_hands tt
  once_hands (Some part) entries = refuse_hands part _

  listing_hands : (p : Program) (h : Head) (at : Sides) (vs : List Val) → HandsOnly W (listing_of p h at vs)
  listing_hands p h at vs =
      then_hands (spent_hands (length vs)) (λ _. then_hands numbered_hands (λ n. then_hands (entries_hand p h at n vs) (λ entries. then_hands (once_hands h.key entries) (λ _. ok_hands (record { number = n; entries = entries })))))

  enumerated_hands : (p : Program) (h : Head) (at : Sides) → HandsOnly W (enumerated p h at)
  enumerated_hands p h at = then_hands (quiet_hands (evaluated_quiet p h.list at)) (λ v. then_hands (quiet_hands (items_or_quiet h.list (items_in v))) (listing_hands p h at))

  anew_hands : (p : Program) (h : Head) (at : Sides) (olds : List Row) (none : List Shape) → HandsOnly W (listed_anew p h at olds none)
  anew_hands p h at olds none = then_hands (enumerated_hands p h at) (λ x. then_hands (destroyed_hands (gone x.entries olds none)) (λ _. ok_hands x))

  list_hands : (p : Program) (h : Head) (at : Sides) (old : Option ℕ) (olds : List Row) (none : List Shape) → HandsOnly W (list_step p h at old olds none)
  list_hands p h at None olds none = anew_hands p h at olds none
  list_hands p h at (Some n) olds none = cond_hands (moved h.list.reads at) (anew_hands p h at olds none) (ok_hands _)

module _ (W : View → Type 0) where
  -- ---- walks

  abbrev PlannerHands : Planner → Type 0
  PlannerHands plan = (at : Sides) (old : Option Shape) → W at.new → HandsOnly W (plan at old)

  abbrev WalkerHands : Walker → Type 0
  WalkerHands walk = (at : Sides) (parts : List Shape) → W at.new → HandsOnly W (walk at parts)

  walk_hands : (plans : List Planner) → Each PlannerHands plans → WalkerHands (plan_each plans)
  walk_hands plans q at parts h = all_hand PlannerHands 0 plans q (λ plan i k. one_hands (k at (slice_get parts i) h))

  kept_hands : {walk : Walker} → WalkerHands walk → (at : Sides) (kept : Bool) (parts : List Shape) → W at.new → HandsOnly W (kept_step walk at kept parts)
  kept_hands k at true parts h = k at parts h
  kept_hands k at false parts h = then_hands (destroyed_hands parts) (λ _. k at [] h)

  none_hands : {walk : Walker} → WalkerHands walk → (at : Sides) (entries : List Entry) (parts : List Shape) → W at.new → HandsOnly W (none_step walk at entries parts)
  none_hands k at [] parts h = k at parts h
  none_hands k at (e ∷ entries) parts h = ok_hands []

  -- what a slot may show walks so
  abbrev FilledHands : Option Filled → Type 0
  FilledHands None = Unit {0}
  FilledHands (Some f) = WalkerHands f.walk

  -- the plans of a branch, and of what may be absent
  abbrev ArmHands : ArmPlan → Type 0
  ArmHands a = Each PlannerHands a.1

  abbrev LastHands : Option (List Planner) → Type 0
  LastHands None = Unit {0}
  LastHands (Some plans) = Each PlannerHands plans

  last_hands : (last : Option (List Planner)) → LastHands last → Each PlannerHands (unwrap_or last [])
  last_hands None q = tt
  last_hands (Some plans) q = q

  body_hands : (arms : List ArmPlan) (last : Option (List Planner)) (i : ℕ) → Each ArmHands arms → LastHands last → Each PlannerHands (body_at arms last i)
  body_hands [] last i q r = last_hands last r
  body_hands (a ∷ arms) last zero q r = q.0
  body_hands (a ∷ arms) last (suc i) q r = body_hands arms last i q.1 r

  if_hands : (p : Program) (arms : List ArmPlan) (last : Option (List Planner)) → Each ArmHands arms → LastHands last → (at : Sides) (old : Opened) → W at.new → HandsOnly W (if_step p (map (λ a. a.0) arms) (λ i. plan_each (body_at arms last i)) at old)
  if_hands p arms last q r at old w =
      then_hands (quiet_hands (chosen_quiet p (map (λ a. a.0) arms) (arm_in old) at)) (λ arm. then_hands (kept_hands (walk_hands (body_at arms last arm) (body_hands arms last arm q r)) at (is_arm (arm_in old) arm) (parts_in old) w) (λ parts. ok_hands _))

  module _ (passes : Passes W) where
    row_handed : (index : Option Name) (n i : ℕ) (v : View) → W v → W (with_index index n i v)
    row_handed None n i v w = w
    row_handed (Some name) n i v w = passes.locals v _ w

    row_hands : (h : Head) {walk : Walker} → WalkerHands walk → (at : Sides) (m n : ℕ) (old : Option OldRow) (i : ℕ) (e : Entry) → W at.new → HandsOnly W (row_step h walk at m n old i e)
    row_hands h k at m n old i e w = then_hands (k (row_sides h m n old i e.item at) (rows.old_parts old) (row_handed h.index n i _ (passes.locals at.new _ w))) (λ parts. ok_hands _)

    listed_hands : (h : Head) {walk none_walk : Walker} → WalkerHands walk → WalkerHands none_walk → (at : Sides) (old : Option ℕ) (olds : List Row) (parts : List Shape) (x : Listing) → W at.new → HandsOnly W (listed_step h walk none_walk at old olds parts x)
    listed_hands h k l at old olds parts x w =
        then_hands (each_hands 0 x.entries (λ e i. one_hands (row_hands h k at (unwrap_or old 0) x.number (old_row olds e.key) i e w))) (λ rs. then_hands (none_hands l at x.entries parts w) (λ none. ok_hands _))

    each_block_hands : (p : Program) (h : Head) {walk none_walk : Walker} → WalkerHands walk → WalkerHands none_walk → (at : Sides) (old : Opened) → W at.new → HandsOnly W (each_step p h walk none_walk at old)
    each_block_hands p h k l at old w = then_hands (list_hands p h at (list_in old) (rows_in old) (parts_in old)) (λ x. listed_hands h k l at (list_in old) (rows_in old) (parts_in old) x w)

    let_handed : (name : LetName) (o : Option SlotProp) (v : View) → W v → W (let_by name o v)
    let_handed name None v w = passes.locals v _ w
    let_handed name (Some prop) v w = passes.locals v _ w

    lets_handed : (lets : List LetName) (props : List SlotProp) (v : View) → W v → W (with_lets lets props v)
    lets_handed [] props v w = w
    lets_handed (name ∷ lets) props v w = lets_handed lets props (let_by name (prop_named name.prop props) v) (let_handed name (prop_named name.prop props) v w)

    pub content_handed : (lets : List LetName) (props : List SlotProp) (v : View) → W v → W (content_view lets props v)
    unfolding content_view
    content_handed lets props v w = lets_handed lets props (outer v) (passes.owner v w)

    content_hands : (filled : Option Filled) {own : Walker} → FilledHands filled → WalkerHands own → (at : Sides) (olds props : List SlotProp) (parts : List Shape) → W at.new → HandsOnly W (content_step filled own at olds props parts)
    content_hands None q k at olds props parts w = k at parts w
    content_hands (Some f) q k at olds props parts w = q (content_sides f.lets olds props at) parts (content_handed f.lets props at.new w)

    module _ (p : Program) (slot : List ℕ → Option Filled) (filled : (name : List ℕ) → FilledHands (slot name)) where
      -- ---- fragments, with what is known of each

      abbrev plan_of : Frag → Planner
      plan_of = planner p slot

      abbrev arm_of : FragArm → ArmPlan
      arm_of = fold-FragArm Planner ArmPlan (step p slot) arm_step

      abbrev FragHands : Frag → Type 0
      FragHands f = PlannerHands (plan_of f)

      abbrev BranchHands : FragArm → Type 0
      BranchHands a = ArmHands (arm_of a)

      abbrev KnownFrag : Type 0
      KnownFrag = (f : Frag) × FragHands f

      abbrev KnownArm : Type 0
      KnownArm = (a : FragArm) × BranchHands a

      abbrev bare_frag : Frag-F KnownFrag KnownArm → Frag-F Frag FragArm
      bare_frag = map-Frag KnownFrag KnownArm Frag FragArm (λ x. x.0) (λ x. x.0)

      abbrev made_frag : Frag-F Frag FragArm → Frag-F Planner ArmPlan
      made_frag = map-Frag Frag FragArm Planner ArmPlan plan_of arm_of

      abbrev bare_arm : FragArm-F KnownFrag KnownArm → FragArm-F Frag FragArm
      bare_arm = map-FragArm KnownFrag KnownArm Frag FragArm (λ x. x.0) (λ x. x.0)

      abbrev made_arm : FragArm-F Frag FragArm → FragArm-F Planner ArmPlan
      made_arm = map-FragArm Frag FragArm Planner ArmPlan plan_of arm_of

      frags_hand : (fs : List KnownFrag) → Each PlannerHands (map plan_of (map (λ x. x.0) fs))
      frags_hand [] = tt
      frags_hand (f ∷ fs) = (f.1, frags_hand fs)

      arms_hand : (arms : List KnownArm) → Each ArmHands (map arm_of (map (λ x. x.0) arms))
      arms_hand [] = tt
      arms_hand (a ∷ arms) = (a.1, arms_hand arms)

      frag_hands : (y : Frag-F KnownFrag KnownArm) → PlannerHands (step p slot (made_frag (bare_frag y)))
      frag_hands (Frag-F.Text text) at old w = literal_hands (mark_in (opened old))
      frag_hands (Frag-F.Show part) at old w = show_hands p part at (opened old)
      frag_hands (Frag-F.Element span name attrs children) at old w = then_hands (opening_hands p attrs at (opened old)) (λ o. then_hands (walk_hands _ (frags_hand children) at (parts_in (opened old)) w) (λ parts. ok_hands _))
      frag_hands (Frag-F.Tag tag reads) at old w = tag_over_hands p tag (slice_get p.tags tag) (place_in (opened old)) (texts_in (opened old)) at w
      frag_hands (Frag-F.Named name lets node) at old w = ok_hands shape.Nothing
      frag_hands (Frag-F.Slot span name attrs own reads) at old w =
          then_hands (quiet_hands (props_quiet p attrs (props_in (opened old)) at)) (λ props. then_hands (content_hands (slot name) (filled name) (walk_hands _ (frags_hand own)) at (props_in (opened old)) props (parts_in (opened old)) w) (λ parts. ok_hands _))
      frag_hands (Frag-F.If arms None) at old w = if_hands p _ None (arms_hand arms) tt at (opened old) w
      frag_hands (Frag-F.If arms (Some last)) at old w = if_hands p _ (Some (map plan_of (map (λ x. x.0) last))) (arms_hand arms) (frags_hand last) at (opened old) w
      frag_hands (Frag-F.Each list item index key body None) at old w = each_block_hands p (head list item index key) (walk_hands _ (frags_hand body)) (walk_hands [] tt) at (opened old) w
      frag_hands (Frag-F.Each list item index key body (Some none)) at old w = each_block_hands p (head list item index key) (walk_hands _ (frags_hand body)) (walk_hands _ (frags_hand none)) at (opened old) w
      frag_hands (Frag-F.Key part body) at old w =
          then_hands (quiet_hands (settled_quiet p part (key_in (opened old)) at)) (λ k. then_hands (kept_hands (walk_hands _ (frags_hand body)) at k.kept (parts_in (opened old)) w) (λ parts. ok_hands _))

      frag_whole : (x : Frag-F Frag FragArm) (y : Frag-F KnownFrag KnownArm) → bare_frag y ≡ x → FragHands (roll-Frag x)
      frag_whole x y e = subst PlannerHands (sym (fold-roll-Frag Planner ArmPlan (step p slot) arm_step x)) (subst (λ z. PlannerHands (step p slot (made_frag z))) e (frag_hands y))

      arm_whole : (x : FragArm-F Frag FragArm) (y : FragArm-F KnownFrag KnownArm) → bare_arm y ≡ x → BranchHands (roll-FragArm x)
      arm_whole x y e = subst ArmHands (sym (fold-roll-FragArm Planner ArmPlan (step p slot) arm_step x)) (subst (λ z. ArmHands (arm_step (made_arm z))) e (frags_hand y.body))

      all_frags_hand : (fs : List Frag) → Each PlannerHands (map plan_of fs)
      all_frags_hand [] = tt
      all_frags_hand (f ∷ fs) = (ind-Frag FragHands BranchHands frag_whole arm_whole f, all_frags_hand fs)

      walker_hands : (fs : List Frag) → WalkerHands (walker p slot fs)
      walker_hands fs = walk_hands (map plan_of fs) (all_frags_hand fs)

    slotted_hands : (p : Program) (tags : List (Option ℕ)) (name : List ℕ) → FilledHands (slotted p tags name)
    slotted_hands p [] name = tt
    slotted_hands p (tag ∷ tags) name = by (slotted_hands p tags) (content_at p (tag ∷ tags) name) where
      by : ((name' : List ℕ) → FilledHands (slotted p tags name')) → (o : Option Content) → FilledHands (option_map (λ c. record { lets = c.lets; walk = walker p (slotted p tags) c.frags }) o)
      by outer_hands None = tt
      by outer_hands (Some c) = walker_hands p (slotted p tags) outer_hands c.frags

    -- the patch of an instance hands down no other views
    pub planned-hands : (p : Program) (tags : List (Option ℕ)) (markup : List Frag) (shown : Option Shown) (view : View) → W view → HandsOnly W (planned p tags markup shown view)
    unfolding planned plan_all
    planned-hands p tags markup shown view w = walker_hands p (slotted p tags) (slotted_hands p tags) markup (record { old = old_view shown view; new = view }) (old_parts shown) w
