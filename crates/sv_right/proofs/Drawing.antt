-- What is drawn of what right shapes hold is what is drawn of evaluations: form by form.
use Rattle.std.proofs.Common.{◌≡◌, ℕ, suc, List, [], ◌∷◌, ◌++◌, map, Option, Some, None, option_map, unwrap_or, refl, sym, ap, ap₂, ◌∙◌, subst}
use Rattle.std.specs.List.{flat_map}
use Rattle.std.specs.Option.{option_to_list}
use Rattle.std.specs.Prelude.{slice_get}
use Rattle.sv_attributes.specs.Attributes.{attributes}
use Rattle.sv_attributes.specs.Each as lists
use Rattle.sv_code.proofs.Each.{each_front, each_back}
use Rattle.sv_code.specs.Names.{Each}
use Rattle.sv_code.specs.declared.fragments.FragAttr.{FragAttr}
use Rattle.sv_code.specs.declared.fragments.LetName.{LetName}
use Rattle.sv_code.specs.declared.parts.Part.{Part}
use Rattle.sv_document.specs.declared.tree.Node.{Node}
use Rattle.sv_document.specs.declared.tree.Node.TheVariants as node
use Rattle.sv_fresh.specs.Blocks.{choose, items_in, row_parts}
use Rattle.sv_fresh.specs.Fresh as fresh
use Rattle.sv_fresh.specs.Fresh.{Drawer, Descent, walked, text_node, shown_text, element_of, element_nodes, tag_nodes, slot_nodes, rows_nodes, list_nodes}
use Rattle.sv_fresh.specs.Listeners.{directive_of, listeners}
use Rattle.sv_fresh.specs.Scene.{Page, Tags}
use Rattle.sv_fresh.specs.Slots.{props}
use Rattle.sv_fresh.specs.Sources.{row_items, items_by, plain_props, text_by}
use Rattle.sv_fresh.specs.Values.{value_at}
use Rattle.sv_fresh.specs.declared.source.Source.TheVariants.{Evaluated, Recorded}
use Rattle.sv_plan.specs.Lists.{Head, row_view}
use Rattle.sv_plan.specs.Slots.{content_view}
use Rattle.sv_right.proofs.Alike.{value_alike, text_alike, states_alike, choose_alike, row_alike, content_alike, named_row, named_content, props_alike, props_same}
use Rattle.sv_right.proofs.Forms.{text_layer, element_layer, if_layer, key_layer}
use Rattle.sv_right.proofs.Listing.{listed_items}
use Rattle.sv_right.proofs.Lists.{Along, each_there}
use Rattle.sv_right.proofs.Rows.{each_layer}
use Rattle.sv_right.proofs.Slots.{slot_layer}
use Rattle.sv_right.proofs.Standing.{Layer, along_each}
use Rattle.sv_right.proofs.Tags.{tag_layer}
use Rattle.sv_right.specs.Claims.{Claim, Claimer, Walker, Filled, claim_each, rows_claims, none_claims}
use Rattle.sv_right.specs.Drawing.{AreAllAlike, AreNamed, DrawsAlike, from_source}
use Rattle.sv_right.specs.Right.{IsTrue}
use Rattle.sv_shapes.specs.Shapes.{Opened, mark_in, element_in, typed_in, arm_in, list_in, rows_in, parts_in, props_in, place_in}
use Rattle.sv_shapes.specs.declared.shape.Row.{Row}
use Rattle.sv_shapes.specs.declared.shape.Shape.{Shape}
use Rattle.sv_view.specs.Level.{View}

module _ (page : Page) (evaluates records : Descent) where
  -- the page whose expressions are evaluated
  abbrev pub now_page : Page
  now_page = from_source Evaluated page

  -- the page that is read from what was recorded
  abbrev pub kept_page : Page
  kept_page = from_source Recorded page

  -- a claim that is true, where the child that it may speak of is drawn alike
  abbrev pub Holds : Claim → Type 0
  Holds c = IsTrue page.program c × DrawsAlike page evaluates records c

  -- a fragment is drawn alike of evaluations on a view with the same values, and of what is held of it
  abbrev pub DrawsOne : Claimer → Drawer → Drawer → Type 0
  DrawsOne claim e r = (v now kept : View) (old : Option Shape) → Each Holds (claim v old) → AreAllAlike v now → AreNamed now kept → e now old ≡ r kept old

  -- the same of fragments beside one another
  abbrev pub DrawsAll : Walker → fresh.Walker → fresh.Walker → Type 0
  DrawsAll claims e r = (v now kept : View) (shapes : List Shape) → Each Holds (claims v shapes) → AreAllAlike v now → AreNamed now kept → e now shapes ≡ r kept shapes

  -- the same of one layer
  abbrev pub DrawsLayer : Layer → (View → Opened → List Node) → (View → Opened → List Node) → Type 0
  DrawsLayer layer e r = (v now kept : View) (held : Opened) → Each Holds (layer v held) → AreAllAlike v now → AreNamed now kept → e now held ≡ r kept held

  draws_from : {A : Type 0} (claim : A → Claimer) (e r : A → Drawer) (i : ℕ) (xs : List A) (v now kept : View) (shapes : List Shape) → Each (λ x. DrawsOne (claim x) (e x) (r x)) xs →
      Each Holds (lists.each (λ c j. c v (slice_get shapes j)) i (map claim xs)) → AreAllAlike v now → AreNamed now kept →
      lists.each (λ (d : Drawer) j. d now (slice_get shapes j)) i (map e xs) ≡ lists.each (λ (d : Drawer) j. d kept (slice_get shapes j)) i (map r xs)
  draws_from claim e r i [] v now kept shapes draws h alike named = refl
  draws_from claim e r i (x ∷ xs) v now kept shapes draws h alike named =
      let rest = lists.each (λ c j. c v (slice_get shapes j)) (suc i) (map claim xs) in
      ap₂ (λ (ns : List Node) more. ns ++ more) (draws.0 v now kept (slice_get shapes i) (each_front Holds (claim x v (slice_get shapes i)) rest h) alike named)
      (draws_from claim e r (suc i) xs v now kept shapes draws.1 (each_back Holds (claim x v (slice_get shapes i)) rest h) alike named)

  pub walk_draws : {A : Type 0} (claim : A → Claimer) (e r : A → Drawer) (xs : List A) → Each (λ x. DrawsOne (claim x) (e x) (r x)) xs →
      DrawsAll (claim_each (map claim xs)) (walked (map e xs)) (walked (map r xs))
  walk_draws claim e r xs draws v now kept shapes h alike named = draws_from claim e r 0 xs v now kept shapes draws h.1 alike named

  same_values : (v now : View) → AreAllAlike v now → (part : Part) → value_at page.program v part ≡ value_at page.program now part
  same_values v now alike part = value_alike page.program v now alike.own part

  -- ---- texts and elements

  pub draws_text : (part : Part) →
      DrawsLayer (text_layer part) (λ v held. shown_text (mark_in held) (text_by Evaluated page.program part v held)) (λ v held. shown_text (mark_in held) (text_by Recorded page.program part v held))
  draws_text part v now kept held h alike named =
      ap (shown_text (mark_in held)) (sym (text_alike page.program v now (same_values v now alike) part) ∙ sym h.0.0.1)

  listeners_same : (attrs : List FragAttr) (now kept : View) → AreNamed now kept → listeners page.program now attrs ≡ listeners page.program kept attrs
  listeners_same attrs now kept named =
      ap₂ (λ n ls. flat_map (λ a. option_to_list (option_map (λ d. record { inst = n; at = d; locals = ls }) (directive_of page.program a))) attrs) named.0.0 named.0.1

  pub draws_element : (name : List ℕ) (attrs : List FragAttr) (claims : Walker) (e r : fresh.Walker) → DrawsAll claims e r →
      DrawsLayer (element_layer attrs claims) (λ v held. element_nodes now_page name attrs e v held) (λ v held. element_nodes kept_page name attrs r v held)
  draws_element name attrs claims e r draws v now kept held h alike named =
      ap₂ (λ el ns. node.Element el ns ∷ [])
      (ap₂ (λ sts ls. record { inst = page.inst; mark = unwrap_or (element_in held) 0; name = name; attributes = attributes page.program attrs sts; typed = typed_in held; listeners = ls })
      (sym (states_alike page.program v now (same_values v now alike) attrs) ∙ sym h.0.0.1) (listeners_same attrs now kept named))
      (draws v now kept (parts_in held) h.1 alike named)

  -- ---- component tags

  pub draws_tag : (tags : Tags) (k : ℕ) → DrawsLayer (tag_layer tags k) (λ v held. tag_nodes now_page evaluates tags k v (place_in held)) (λ v held. tag_nodes kept_page records tags k v (place_in held))
  draws_tag tags k v now kept held h alike named = h.0.1 now kept alike named

  -- ---- slots

  -- content for a slot is drawn alike
  abbrev pub DrawsFilled : Option Filled → Option (List LetName × fresh.Walker) → Option (List LetName × fresh.Walker) → Type 0
  DrawsFilled None None None = Unit {0}
  DrawsFilled (Some f) (Some e) (Some r) = ((f.lets ≡ e.0) × (f.lets ≡ r.0)) × DrawsAll f.walk e.1 r.1
  DrawsFilled _ _ _ = ⊥

  pub draws_slot : (attrs : List FragAttr) (filled : Option Filled) (given given' : Option (List LetName × fresh.Walker)) (own : Walker) (e r : fresh.Walker) → DrawsFilled filled given given' → DrawsAll own e r →
      DrawsLayer (slot_layer attrs filled own) (λ v held. slot_nodes now_page given attrs e v held) (λ v held. slot_nodes kept_page given' attrs r v held)
  draws_slot attrs None None None own e r fill draws v now kept held h alike named = draws v now kept (parts_in held) h.1 alike named
  draws_slot attrs None None (Some g') own e r fill draws v now kept held h alike named = absurd fill
  draws_slot attrs None (Some g) None own e r fill draws v now kept held h alike named = absurd fill
  draws_slot attrs None (Some g) (Some g') own e r fill draws v now kept held h alike named = absurd fill
  draws_slot attrs (Some f) None None own e r fill draws v now kept held h alike named = absurd fill
  draws_slot attrs (Some f) None (Some g') own e r fill draws v now kept held h alike named = absurd fill
  draws_slot attrs (Some f) (Some g) None own e r fill draws v now kept held h alike named = absurd fill
  draws_slot attrs (Some f) (Some g) (Some g') own e r fill draws v now kept held h alike named =
      ap (λ lets. g.1 (content_view lets (props page.program now attrs) now) (parts_in held)) (sym fill.0.0)
      ∙ fill.1 (content_view f.lets (props_in held) v) (content_view f.lets (props page.program now attrs) now) (content_view f.lets (plain_props (props_in held)) kept) (parts_in held) h.1
      (content_alike f.lets (props_in held) (props page.program now attrs) v now (props_alike page.program v now attrs (props_in held) (same_values v now alike) h.0.0.1) alike)
      (named_content f.lets (props page.program now attrs) (plain_props (props_in held)) now kept (props_same page.program v now attrs (props_in held) (same_values v now alike) h.0.0.1) named)
      ∙ ap (λ lets. g'.1 (content_view lets (plain_props (props_in held)) kept) (parts_in held)) fill.0.1

  -- ---- if blocks and key blocks

  pub draws_if : (ts : List Part) (claims : ℕ → Walker) (e r : ℕ → fresh.Walker) → ((i : ℕ) → DrawsAll (claims i) (e i) (r i)) →
      DrawsLayer (if_layer ts claims) (λ v held. e (choose page.program v ts 0) v (parts_in held)) (λ v held. r (unwrap_or (arm_in held) 0) v (parts_in held))
  draws_if ts claims e r draws v now kept held h alike named =
      ap (λ i. e i now (parts_in held)) (sym (choose_alike page.program v now (same_values v now alike) ts 0) ∙ sym (ap (λ o. unwrap_or o 0) h.0.0.1))
      ∙ draws (unwrap_or (arm_in held) 0) v now kept (parts_in held) h.1 alike named

  pub draws_key : (part : Part) (claims : Walker) (e r : fresh.Walker) → DrawsAll claims e r → DrawsLayer (key_layer part claims) (λ v held. e v (parts_in held)) (λ v held. r v (parts_in held))
  draws_key part claims e r draws v now kept held h alike named = draws v now kept (parts_in held) h.1 alike named

  -- ---- each blocks

  -- a row beside what is held of it
  row_at : (all : List Row) (i : ℕ) (row : Row) (walk : List Shape → List Node) → slice_get all i ≡ Some row → walk (row_parts (slice_get all i)) ≡ walk row.parts
  row_at all i row walk e = ap (λ o. walk (row_parts o)) e

  draws_rows : (h : Head) (claims : Walker) (e r : fresh.Walker) (n : ℕ) (v now kept : View) (all : List Row) → DrawsAll claims e r → AreAllAlike v now → AreNamed now kept → (i : ℕ) (rows : List Row) →
      Along (λ row j. slice_get all j ≡ Some row) i rows → Along (λ (row : Row) j. Each Holds (claims (row_view h n j row.item v) row.parts)) i rows →
      lists.each (λ x j. e (row_view h 0 j x now) (row_parts (slice_get all j))) i (row_items rows) ≡ lists.each (λ x j. r (row_view h 0 j x kept) (row_parts (slice_get all j))) i (row_items rows)
  draws_rows h claims e r n v now kept all draws alike named i [] there k = refl
  draws_rows h claims e r n v now kept all draws alike named i (row ∷ rows) there k =
      ap₂ (λ (ns : List Node) more. ns ++ more)
      (row_at all i row (e (row_view h 0 i row.item now)) there.0
      ∙ draws (row_view h n i row.item v) (row_view h 0 i row.item now) (row_view h 0 i row.item kept) row.parts k.0 (row_alike h n 0 i row.item v now alike) (named_row h 0 i row.item now kept named)
      ∙ sym (row_at all i row (r (row_view h 0 i row.item kept)) there.0))
      (draws_rows h claims e r n v now kept all draws alike named (suc i) rows there.1 k.1)

  draws_list : (h : Head) (claims none : Walker) (e r e' r' : fresh.Walker) (n : ℕ) (v now kept : View) (held : Opened) → DrawsAll claims e r → DrawsAll none e' r' → AreAllAlike v now → AreNamed now kept →
      (rows : List Row) → rows_in held ≡ rows → Each Holds (rows_claims h claims n v rows) → Each Holds (none_claims none v rows (parts_in held)) →
      list_nodes h e e' now held (row_items rows) ≡ list_nodes h r r' kept held (row_items rows)
  draws_list h claims none e r e' r' n v now kept held draws draws_none alike named [] is k l = draws_none v now kept (parts_in held) l alike named
  draws_list h claims none e r e' r' n v now kept held draws draws_none alike named (row ∷ rows) is k l =
      draws_rows h claims e r n v now kept (rows_in held) draws alike named 0 (row ∷ rows) (subst (λ all. Along (λ x j. slice_get all j ≡ Some x) 0 (row ∷ rows)) (sym is) (each_there (row ∷ rows)))
      (along_each Holds (λ (x : Row) j. claims (row_view h n j x.item v) x.parts) 0 (row ∷ rows) k)

  pub draws_each : (h : Head) (claims none : Walker) (e r e' r' : fresh.Walker) → DrawsAll claims e r → DrawsAll none e' r' →
      DrawsLayer (each_layer h claims none) (λ v held. list_nodes h e e' v held (items_by Evaluated page.program h.list v held)) (λ v held. list_nodes h r r' v held (items_by Recorded page.program h.list v held))
  draws_each h claims none e r e' r' draws draws_none v now kept held k alike named =
      let n = unwrap_or (list_in held) 0 in
      let rows = rows_in held in
      ap (list_nodes h e e' now held) (ap items_in (sym (same_values v now alike h.list)) ∙ listed_items (value_at page.program v h.list) (row_items rows) k.0.0.items)
      ∙ draws_list h claims none e r e' r' n v now kept held draws draws_none alike named rows refl
      (each_front Holds (rows_claims h claims n v rows) (none_claims none v rows (parts_in held)) k.1) (each_back Holds (rows_claims h claims n v rows) (none_claims none v rows (parts_in held)) k.1)
