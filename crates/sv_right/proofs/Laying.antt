-- A state that a user leaves changes nothing that claims speak of: layer by layer.
use Rattle.std.proofs.Common.{◌≡◌, ℕ, zero, suc, nat_eq, List, [], ◌∷◌, ◌++◌, length, Option, Some, None, option_map, unwrap_or, refl, sym, ap, ap₂, ◌∙◌, subst, if◌then◌else◌}
use Rattle.std.specs.Prelude.{slice_get}
use Rattle.sv_code.proofs.Each.{each_front, each_back, each_append}
use Rattle.sv_code.specs.Names.{Each}
use Rattle.sv_code.specs.declared.fragments.FragAttr.{FragAttr}
use Rattle.sv_code.specs.declared.parts.Part.{Part}
use Rattle.sv_code.specs.declared.program.Program.{Program}
use Rattle.sv_code.specs.declared.tags.Tag.{Tag}
use Rattle.sv_fresh.specs.Sources.{row_items}
use Rattle.sv_keyed.specs.Keys.{first_repeat}
use Rattle.sv_plan.specs.Lists.{Head, row_view, row_keys}
use Rattle.sv_plan.specs.Slots.{prop_named, content_view}
use Rattle.sv_right.proofs.Lists.{Along, some_same}
use Rattle.sv_right.proofs.Slots.{slot_layer}
use Rattle.sv_right.proofs.Forms.{literal_layer, text_layer, element_layer, if_layer, key_layer}
use Rattle.sv_right.proofs.Rows.{each_layer}
use Rattle.sv_right.proofs.Standing.{Layer, each_along, along_each}
use Rattle.sv_right.proofs.Tags.{tag_layer}
use Rattle.sv_right.specs.Claims.{Claimer, Walker, Filled, claim_each, rows_claims, none_claims, slot_claims}
use Rattle.sv_right.specs.Right.{IsThere, literal_in, slot_in, IsTagTrue, IsProp, first_passing, key_at, IsNoneIdle, AreRowsTrue, IsTrue}
use Rattle.sv_shapes.proofs.Laying.{laid-out, laid-row}
use Rattle.sv_shapes.specs.Shapes.{opened, text_in, element_in, states_in, texts_in, place_in, props_in, arm_in, list_in, rows_in, key_in, parts_in}
use Rattle.sv_shapes.specs.Typed.{laid, laid_in, laid_all, laid_rows, laid_shape}
use Rattle.sv_shapes.specs.declared.shape.Row.{Row}
use Rattle.sv_shapes.specs.declared.shape.Shape.{Shape, Shape-F, out-Shape, map-Shape}
use Rattle.sv_shapes.specs.declared.shape.Shape.TheVariants as shape
use Rattle.sv_tokens.specs.declared.element.Typed.{Typed}
use Rattle.sv_view.specs.Level.{View}

module _ (mark : ℕ) (left : Typed) where
  -- ---- one layer

  -- one layer, with the state on the element that has the mark
  abbrev with_left : Shape-F Shape Row → Shape-F Shape Row
  with_left (Shape-F.Literal own) = Shape-F.Literal own
  with_left (Shape-F.Text own text) = Shape-F.Text own text
  with_left (Shape-F.Element own typed states parts) = Shape-F.Element own (if nat_eq own mark then Some left else typed) states (laid_all mark left parts)
  with_left (Shape-F.Tag place texts) = Shape-F.Tag place texts
  with_left Shape-F.Nothing = Shape-F.Nothing
  with_left (Shape-F.Slot props parts) = Shape-F.Slot props (laid_all mark left parts)
  with_left (Shape-F.If arm parts) = Shape-F.If arm (laid_all mark left parts)
  with_left (Shape-F.Each number rows none) = Shape-F.Each number (laid_rows mark left rows) (laid_all mark left none)
  with_left (Shape-F.Key state parts) = Shape-F.Key state (laid_all mark left parts)

  layer_out : (o : Shape-F Shape Row) → out-Shape (laid_shape mark left (map-Shape Shape Row Shape Row (laid mark left) (laid_in mark left) o)) ≡ with_left o
  layer_out (Shape-F.Literal own) = shape.outs-Literal own
  layer_out (Shape-F.Text own text) = shape.outs-Text own text
  layer_out (Shape-F.Element own typed states parts) = shape.outs-Element own (if nat_eq own mark then Some left else typed) states (laid_all mark left parts)
  layer_out (Shape-F.Tag place texts) = shape.outs-Tag place texts
  layer_out Shape-F.Nothing = shape.outs-Nothing
  layer_out (Shape-F.Slot props parts) = shape.outs-Slot props (laid_all mark left parts)
  layer_out (Shape-F.If arm parts) = shape.outs-If arm (laid_all mark left parts)
  layer_out (Shape-F.Each number rows none) = shape.outs-Each number (laid_rows mark left rows) (laid_all mark left none)
  layer_out (Shape-F.Key state parts) = shape.outs-Key state (laid_all mark left parts)

  pub out_laid : (x : Shape) → out-Shape (laid mark left x) ≡ with_left (out-Shape x)
  out_laid x = ap out-Shape (laid-out mark left x) ∙ layer_out (out-Shape x)

  -- what claims look at
  record SameLayer (o : Shape-F Shape Row) : Type 0 where
    literals : literal_in (Some (with_left o)) ≡ literal_in (Some o)
    texts : text_in (Some (with_left o)) ≡ text_in (Some o)
    elements : element_in (Some (with_left o)) ≡ element_in (Some o)
    states : states_in (Some (with_left o)) ≡ states_in (Some o)
    places : place_in (Some (with_left o)) ≡ place_in (Some o)
    kept : texts_in (Some (with_left o)) ≡ texts_in (Some o)
    slots : slot_in (Some (with_left o)) ≡ slot_in (Some o)
    props : props_in (Some (with_left o)) ≡ props_in (Some o)
    arms : arm_in (Some (with_left o)) ≡ arm_in (Some o)
    lists : list_in (Some (with_left o)) ≡ list_in (Some o)
    keys : key_in (Some (with_left o)) ≡ key_in (Some o)
    rows : rows_in (Some (with_left o)) ≡ laid_rows mark left (rows_in (Some o))
    parts : parts_in (Some (with_left o)) ≡ laid_all mark left (parts_in (Some o))

  same_layer : (o : Shape-F Shape Row) → SameLayer o
  same_layer (Shape-F.Literal own) =
      record { literals = refl; texts = refl; elements = refl; states = refl; places = refl; kept = refl; slots = refl; props = refl; arms = refl; lists = refl; keys = refl; rows = refl; parts = refl }
  same_layer (Shape-F.Text own text) =
      record { literals = refl; texts = refl; elements = refl; states = refl; places = refl; kept = refl; slots = refl; props = refl; arms = refl; lists = refl; keys = refl; rows = refl; parts = refl }
  same_layer (Shape-F.Element own typed states parts) =
      record { literals = refl; texts = refl; elements = refl; states = refl; places = refl; kept = refl; slots = refl; props = refl; arms = refl; lists = refl; keys = refl; rows = refl; parts = refl }
  same_layer (Shape-F.Tag place texts) =
      record { literals = refl; texts = refl; elements = refl; states = refl; places = refl; kept = refl; slots = refl; props = refl; arms = refl; lists = refl; keys = refl; rows = refl; parts = refl }
  same_layer Shape-F.Nothing =
      record { literals = refl; texts = refl; elements = refl; states = refl; places = refl; kept = refl; slots = refl; props = refl; arms = refl; lists = refl; keys = refl; rows = refl; parts = refl }
  same_layer (Shape-F.Slot props parts) =
      record { literals = refl; texts = refl; elements = refl; states = refl; places = refl; kept = refl; slots = refl; props = refl; arms = refl; lists = refl; keys = refl; rows = refl; parts = refl }
  same_layer (Shape-F.If arm parts) =
      record { literals = refl; texts = refl; elements = refl; states = refl; places = refl; kept = refl; slots = refl; props = refl; arms = refl; lists = refl; keys = refl; rows = refl; parts = refl }
  same_layer (Shape-F.Each number rows none) =
      record { literals = refl; texts = refl; elements = refl; states = refl; places = refl; kept = refl; slots = refl; props = refl; arms = refl; lists = refl; keys = refl; rows = refl; parts = refl }
  same_layer (Shape-F.Key state parts) =
      record { literals = refl; texts = refl; elements = refl; states = refl; places = refl; kept = refl; slots = refl; props = refl; arms = refl; lists = refl; keys = refl; rows = refl; parts = refl }

  -- ---- fragments

  module _ (p : Program) where
    -- what is claimed of a fragment stays true
    abbrev pub LeavesOne : Claimer → Type 0
    LeavesOne claim = (v : View) (old : Option Shape) → Each (IsTrue p) (claim v old) → Each (IsTrue p) (claim v (option_map (laid mark left) old))

    -- what is claimed of fragments beside one another stays true
    abbrev pub LeavesAll : Walker → Type 0
    LeavesAll claims = (v : View) (shapes : List Shape) → Each (IsTrue p) (claims v shapes) → Each (IsTrue p) (claims v (laid_all mark left shapes))

    -- what is claimed of a layer stays true
    abbrev pub LeavesLayer : Layer → Type 0
    LeavesLayer layer = (v : View) (o : Shape-F Shape Row) → Each (IsTrue p) (layer v (Some o)) → Each (IsTrue p) (layer v (Some (with_left o)))

    pub by_layer : (layer : Layer) → LeavesLayer layer → LeavesOne (λ v old. layer v (opened old))
    by_layer layer leaves v None h = h
    by_layer layer leaves v (Some x) h = subst (λ o. Each (IsTrue p) (layer v (Some o))) (sym (out_laid x)) (leaves v (out-Shape x) h)

    laid_get : (shapes : List Shape) (i : ℕ) → slice_get (laid_all mark left shapes) i ≡ option_map (laid mark left) (slice_get shapes i)
    laid_get [] i = refl
    laid_get (x ∷ shapes) zero = refl
    laid_get (x ∷ shapes) (suc i) = laid_get shapes i

    laid_length : (shapes : List Shape) → length (laid_all mark left shapes) ≡ length shapes
    laid_length [] = refl
    laid_length (x ∷ shapes) = ap suc (laid_length shapes)

    leaves_each : (v : View) (shapes : List Shape) (i : ℕ) (claims : List Claimer) → Each LeavesOne claims → Along (λ claim j. Each (IsTrue p) (claim v (slice_get shapes j))) i claims →
        Along (λ claim j. Each (IsTrue p) (claim v (slice_get (laid_all mark left shapes) j))) i claims
    leaves_each v shapes i [] leaves h = tt
    leaves_each v shapes i (claim ∷ claims) leaves h =
        (subst (λ o. Each (IsTrue p) (claim v o)) (sym (laid_get shapes i)) (leaves.0 v (slice_get shapes i) h.0), leaves_each v shapes (suc i) claims leaves.1 h.1)

    pub walk_leaves : (claims : List Claimer) → Each LeavesOne claims → LeavesAll (claim_each claims)
    walk_leaves claims leaves v shapes h = (
      laid_length shapes ∙ h.0,
      each_along (IsTrue p) (λ claim j. claim v (slice_get (laid_all mark left shapes) j)) 0 claims
          (leaves_each v shapes 0 claims leaves (along_each (IsTrue p) (λ claim j. claim v (slice_get shapes j)) 0 claims h.1)),
    )

    -- ---- forms

    pub leaves_literal : LeavesLayer literal_layer
    leaves_literal v o h = (subst IsThere (sym (same_layer o).literals) h.0, tt)

    pub leaves_text : (part : Part) → LeavesLayer (text_layer part)
    leaves_text part v o h = ((subst IsThere (sym (same_layer o).texts) h.0.0, (same_layer o).texts ∙ h.0.1), tt)

    content_left : (claims : Walker) (v : View) (o : Shape-F Shape Row) → LeavesAll claims → Each (IsTrue p) (claims v (parts_in (Some o))) → Each (IsTrue p) (claims v (parts_in (Some (with_left o))))
    content_left claims v o leaves h = subst (λ ps. Each (IsTrue p) (claims v ps)) (sym (same_layer o).parts) (leaves v (parts_in (Some o)) h)

    pub leaves_element : (attrs : List FragAttr) (claims : Walker) → LeavesAll claims → LeavesLayer (element_layer attrs claims)
    leaves_element attrs claims leaves v o h = (((subst IsThere (sym (same_layer o).elements) h.0.0.0, h.0.0.1), (same_layer o).states ∙ h.0.1), content_left claims v o leaves h.1)

    pub leaves_tag : (tags : List (Option ℕ)) (tag : ℕ) → LeavesLayer (tag_layer tags tag)
    leaves_tag tags tag v o h = (by (slice_get p.tags tag) h.0, tt)
      where
        by : (t : Option Tag) → IsTagTrue p v t (Some o) → IsTagTrue p v t (Some (with_left o))
        by None k = (same_layer o).places ∙ k
        by (Some t) k = (subst IsThere (sym (same_layer o).places) k.0, (same_layer o).kept ∙ k.1)

    -- what is claimed of the content for a slot stays true
    abbrev pub LeavesFilled : Option Filled → Type 0
    LeavesFilled None = Unit {0}
    LeavesFilled (Some f) = LeavesAll f.walk

    pub leaves_content : (filled : Option Filled) (own : Walker) (v : View) (o : Shape-F Shape Row) → LeavesFilled filled → LeavesAll own → Each (IsTrue p) (slot_claims filled own v (Some o)) →
        Each (IsTrue p) (slot_claims filled own v (Some (with_left o)))
    leaves_content None own v o fill leaves h = content_left own v o leaves h
    leaves_content (Some f) own v o fill leaves h =
        content_left f.walk (content_view f.lets (props_in (Some (with_left o))) v) o fill
        (subst (λ props. Each (IsTrue p) (f.walk (content_view f.lets props v) (parts_in (Some o)))) (sym (same_layer o).props) h)

    pub leaves_slot : (attrs : List FragAttr) (filled : Option Filled) (own : Walker) → LeavesFilled filled → LeavesAll own → LeavesLayer (slot_layer attrs filled own)
    leaves_slot attrs filled own fill leaves v o h = (
      (
        subst IsThere (sym (same_layer o).slots) h.0.0,
        (λ name. subst (λ props. IsProp p v (first_passing name attrs) (prop_named name props)) (sym (same_layer o).props) (h.0.1 name)),
      ),
      leaves_content filled own v o fill leaves h.1,
    )

    pub leaves_if : (ts : List Part) (claims : ℕ → Walker) → ((i : ℕ) → LeavesAll (claims i)) → LeavesLayer (if_layer ts claims)
    leaves_if ts claims leaves v o h = (
      (h.0.0, (same_layer o).arms ∙ h.0.1),
      content_left (claims (unwrap_or (arm_in (Some (with_left o))) 0)) v o (leaves (unwrap_or (arm_in (Some (with_left o))) 0))
          (subst (λ arm. Each (IsTrue p) (claims (unwrap_or arm 0) v (parts_in (Some o)))) (sym (same_layer o).arms) h.1),
    )

    pub leaves_key : (part : Part) (claims : Walker) → LeavesAll claims → LeavesLayer (key_layer part claims)
    leaves_key part claims leaves v o h =
        ((subst IsThere (sym (same_layer o).keys) h.0.0, ap (option_map (λ k. k.value)) (same_layer o).keys ∙ h.0.1), content_left claims v o leaves h.1)

    -- ---- each blocks

    laid_items : (rows : List Row) → row_items (laid_rows mark left rows) ≡ row_items rows
    laid_items [] = refl
    laid_items (row ∷ rows) = ap₂ (λ x xs. x ∷ xs) (ap (λ r. r.item) (laid-row mark left row)) (laid_items rows)

    laid_keys : (rows : List Row) → row_keys (laid_rows mark left rows) ≡ row_keys rows
    laid_keys [] = refl
    laid_keys (row ∷ rows) = ap₂ (λ x xs. x ∷ xs) (ap (λ r. r.key) (laid-row mark left row)) (laid_keys rows)

    row_get : (rows : List Row) (i : ℕ) → slice_get (laid_rows mark left rows) i ≡ option_map (laid_in mark left) (slice_get rows i)
    row_get [] i = refl
    row_get (row ∷ rows) zero = refl
    row_get (row ∷ rows) (suc i) = row_get rows i

    laid_key : (h : Head) (n : ℕ) (v : View) (i : ℕ) (row row' : Row) → laid_in mark left row ≡ row' → key_at p h n v i row.item ≡ Some row.key → key_at p h n v i row'.item ≡ Some row'.key
    laid_key h n v i row row' e k =
        subst (λ r. key_at p h n v i r.item ≡ Some r.key) (sym (laid-row mark left row) ∙ e) k

    keys_left : (h : Head) (n : ℕ) (v : View) (rows : List Row) → ((i : ℕ) (row : Row) → slice_get rows i ≡ Some row → key_at p h n v i row.item ≡ Some row.key) →
        (i : ℕ) (row : Row) → slice_get (laid_rows mark left rows) i ≡ Some row → key_at p h n v i row.item ≡ Some row.key
    keys_left h n v rows keys i row e = by (slice_get rows i) refl (sym (row_get rows i) ∙ e)
      where
        by : (o : Option Row) → slice_get rows i ≡ o → option_map (laid_in mark left) o ≡ Some row → key_at p h n v i row.item ≡ Some row.key
        by None is q = absurd (cc)
        by (Some r) is q = laid_key h n v i r row (some_same q) (keys i r is)

    idle_left : (rows : List Row) (parts : List Shape) → IsNoneIdle rows parts → IsNoneIdle (laid_rows mark left rows) (laid_all mark left parts)
    idle_left [] parts h = tt
    idle_left (row ∷ rows) parts h = ap (laid_all mark left) h

    -- what is so of a number, of rows and of parts is so of a layer
    in_layer : (Q : Option ℕ → List Row → List Shape → Type 0) (o : Shape-F Shape Row) → Q (list_in (Some o)) (laid_rows mark left (rows_in (Some o))) (laid_all mark left (parts_in (Some o))) →
        Q (list_in (Some (with_left o))) (rows_in (Some (with_left o))) (parts_in (Some (with_left o)))
    in_layer Q o h =
        subst (λ n. Q n (rows_in (Some (with_left o))) (parts_in (Some (with_left o)))) (sym (same_layer o).lists)
        (subst (λ rows. Q (list_in (Some o)) rows (parts_in (Some (with_left o)))) (sym (same_layer o).rows)
        (subst (Q (list_in (Some o)) (laid_rows mark left (rows_in (Some o)))) (sym (same_layer o).parts) h))

    rows_left : (h : Head) (v : View) (o : Shape-F Shape Row) → AreRowsTrue p h v (Some o) → AreRowsTrue p h v (Some (with_left o))
    rows_left h v o k = record {
      is = subst IsThere (sym (same_layer o).lists) k.is;
      items = k.items ∙ ap Some (sym (ap row_items (same_layer o).rows ∙ laid_items (rows_in (Some o))));
      keys = in_layer (λ n rows parts. (i : ℕ) (row : Row) → slice_get rows i ≡ Some row → key_at p h (unwrap_or n 0) v i row.item ≡ Some row.key) o
          (keys_left h (unwrap_or (list_in (Some o)) 0) v (rows_in (Some o)) k.keys);
      once = ap (λ rows. first_repeat (row_keys rows)) (same_layer o).rows ∙ ap first_repeat (laid_keys (rows_in (Some o))) ∙ k.once;
      idle = in_layer (λ n rows parts. IsNoneIdle rows parts) o (idle_left (rows_in (Some o)) (parts_in (Some o)) k.idle);
    }

    body_left : (h : Head) (claims : Walker) (n : ℕ) (v : View) (i : ℕ) (rows : List Row) → LeavesAll claims → Along (λ (row : Row) j. Each (IsTrue p) (claims (row_view h n j row.item v) row.parts)) i rows →
        Along (λ (row : Row) j. Each (IsTrue p) (claims (row_view h n j row.item v) row.parts)) i (laid_rows mark left rows)
    body_left h claims n v i [] leaves k = tt
    body_left h claims n v i (row ∷ rows) leaves k = (
      subst (λ (r : Row). Each (IsTrue p) (claims (row_view h n i r.item v) r.parts)) (sym (laid-row mark left row)) (leaves (row_view h n i row.item v) row.parts k.0),
      body_left h claims n v (suc i) rows leaves k.1,
    )

    none_left : (none : Walker) (v : View) (rows : List Row) (parts : List Shape) → LeavesAll none → Each (IsTrue p) (none_claims none v rows parts) →
        Each (IsTrue p) (none_claims none v (laid_rows mark left rows) (laid_all mark left parts))
    none_left none v [] parts leaves k = leaves v parts k
    none_left none v (row ∷ rows) parts leaves k = tt

    pub leaves_each_block : (h : Head) (claims none : Walker) → LeavesAll claims → LeavesAll none → LeavesLayer (each_layer h claims none)
    leaves_each_block h claims none leaves leaves_none v o k =
        let n = unwrap_or (list_in (Some o)) 0 in
        let rows = rows_in (Some o) in
        let parts = parts_in (Some o) in
        let front = each_front (IsTrue p) (rows_claims h claims n v rows) (none_claims none v rows parts) k.1 in
        let back = each_back (IsTrue p) (rows_claims h claims n v rows) (none_claims none v rows parts) k.1 in (
          rows_left h v o k.0,
          in_layer (λ m rs ps. Each (IsTrue p) (rows_claims h claims (unwrap_or m 0) v rs ++ none_claims none v rs ps)) o
              (each_append (IsTrue p) (rows_claims h claims n v (laid_rows mark left rows)) (none_claims none v (laid_rows mark left rows) (laid_all mark left parts))
              (each_along (IsTrue p) (λ (row : Row) i. claims (row_view h n i row.item v) row.parts) 0 (laid_rows mark left rows)
              (body_left h claims n v 0 rows leaves (along_each (IsTrue p) (λ (row : Row) i. claims (row_view h n i row.item v) row.parts) 0 rows front)))
              (none_left none v rows parts leaves_none back)),
        )
