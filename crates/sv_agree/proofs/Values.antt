-- Where each part has the same value on two views, so has all that is made of values; and the parts of attributes that stay within a scope do.
use Rattle.std.proofs.Common.{◌≡◌, ℕ, suc, Bool, true, false, ◌&&◌, ◌||◌, nat_eq, List, [], ◌∷◌, ◌++◌, map, Option, Some, None, is_some, option_map, unwrap_or, refl, sym, ap, ap₂, ◌∙◌, if◌then◌else◌}
use Rattle.std.specs.Option.{option_and_then}
use Rattle.sv_agree.proofs.Scopes.{IsSeenIn, value_same}
use Rattle.sv_agree.specs.Scopes.{Scope, AgreesAt}
use Rattle.sv_attributes.specs.Attr.{is_boolean, attr_of}
use Rattle.sv_attributes.specs.Values.{alone, is_literal}
use Rattle.sv_base.specs.declared.names.Name.{Name}
use Rattle.sv_code.proofs.Each.{each_front, each_back, each_append}
use Rattle.sv_code.specs.Content as content
use Rattle.sv_code.specs.Names.{Each}
use Rattle.sv_code.specs.Parts as parts
use Rattle.sv_code.specs.Within.{IsWithin}
use Rattle.sv_code.specs.declared.fragments.FragAttr.{FragAttr}
use Rattle.sv_code.specs.declared.fragments.FragAttr.TheVariants as attr
use Rattle.sv_code.specs.declared.fragments.FragValue.{FragValue}
use Rattle.sv_code.specs.declared.fragments.FragValue.TheVariants as value
use Rattle.sv_code.specs.declared.fragments.FragValuePart.{FragValuePart}
use Rattle.sv_code.specs.declared.fragments.FragValuePart.TheVariants as piece
use Rattle.sv_code.specs.declared.parts.Part.{Part}
use Rattle.sv_code.specs.declared.program.Program.{Program}
use Rattle.sv_fresh.specs.Blocks.{choose}
use Rattle.sv_fresh.specs.Slots.{passed_value, prop_with, prop_of}
use Rattle.sv_fresh.specs.States.{parts_state, attr_state, states, shown_at, with_texts}
use Rattle.sv_fresh.specs.Values.{value_at, text_at, holds_at, is_truthy, piece_text, texts_after, value_by}
use Rattle.sv_ops.specs.Texts.{between}
use Rattle.sv_right.specs.Right.{IsProp, joined_texts, kept_texts, passed_at, or_first, first_passing}
use Rattle.sv_parts.specs.Tags.{passed_name}
use Rattle.sv_right.specs.Succeeds.{can_show, parts_succeed, attr_succeeds, Succeeds, tests_succeed}
use Rattle.sv_shapes.specs.declared.shape.AttrState.TheVariants as state
use Rattle.sv_shapes.specs.declared.shape.SlotProp.{SlotProp}
use Rattle.sv_value.specs.Value.{text}
use Rattle.sv_value.specs.Words.{text_of}
use Rattle.sv_view.specs.Level.{View}

module _ (p : Program) (v v' : View) where
  -- a part has the same value on both views
  abbrev pub IsSame : Part → Type 0
  IsSame part = value_at p v part ≡ value_at p v' part

  -- ---- values

  pub text_same : (part : Part) → IsSame part → text_at p v part ≡ text_at p v' part
  text_same part e = ap (option_and_then text_of) e

  holds_same : (part : Part) → IsSame part → holds_at p v part ≡ holds_at p v' part
  holds_same part e = ap is_truthy e

  piece_same : (x : FragValuePart) → Each IsSame (parts.of_value_part x) → piece_text p v x ≡ piece_text p v' x
  piece_same (piece.Text t) h = refl
  piece_same (piece.Show part) h = text_same part h.0

  texts_from : (o : Option (List ℕ)) (k k' : List ℕ → Option (List (List ℕ))) → ((t : List ℕ) → k t ≡ k' t) → option_and_then k o ≡ option_and_then k' o
  texts_from None k k' h = refl
  texts_from (Some t) k k' h = h t

  -- the parts of a value
  abbrev ArePieces : List FragValuePart → Type 0
  ArePieces xs = Each IsSame (parts.of_value (value.Parts xs))

  texts_same : (xs : List FragValuePart) (passed : List (List ℕ)) → ArePieces xs → texts_after p v passed xs ≡ texts_after p v' passed xs
  texts_same [] passed h = refl
  texts_same (x ∷ xs) passed h =
      let more = parts.in_turn (map parts.of_value_part xs) in
      texts_from (piece_text p v x) (λ t. texts_after p v (passed ++ t ∷ []) xs) (λ t. texts_after p v' (passed ++ t ∷ []) xs)
      (λ t. texts_same xs (passed ++ t ∷ []) (each_back IsSame (parts.of_value_part x) more h))
      ∙ ap (option_and_then (λ t. texts_after p v' (passed ++ t ∷ []) xs)) (piece_same x (each_front IsSame (parts.of_value_part x) more h))

  -- one that stands alone
  alone_same : (Q : Option Part → Type 0) (xs : List FragValuePart) → Q None → ((part : Part) → IsSame part → Q (Some part)) → ArePieces xs → Q (alone xs)
  alone_same Q [] none some h = none
  alone_same Q (piece.Text t ∷ xs) none some h = none
  alone_same Q (piece.Show part ∷ []) none some h = some part h.0
  alone_same Q (piece.Show part ∷ (x ∷ xs)) none some h = none

  -- ---- attributes

  passed_same : (x : FragValue) → Each IsSame (parts.of_value x) → passed_value p v x ≡ passed_value p v' x
  passed_same value.Bare h = refl
  passed_same (value.Parts xs) h =
      alone_same (λ o. value_by p v xs o ≡ value_by p v' xs o) xs (ap (option_map (λ texts. text (between [] texts))) (texts_same xs [] h)) (λ part e. e) h

  prop_same : (a : FragAttr) → Each IsSame (parts.of_attr a) → prop_of p v a ≡ prop_of p v' a
  prop_same (attr.Plain span name x) h = ap (option_map (prop_with name)) (passed_same x h)
  prop_same (attr.On handler reads) h = refl
  prop_same (attr.Bind span name part) h = ap (option_map (prop_with name)) h.0
  prop_same (attr.Class span name part) h = refl

  given_same : (a : FragAttr) → Each IsSame (parts.of_attr a) → passed_at p v a ≡ passed_at p v' a
  given_same a h = ap (option_map (λ prop. prop.value)) (prop_same a h)

  kept_same : (a : FragAttr) → Each IsSame (parts.of_attr a) → kept_texts p v a ≡ kept_texts p v' a
  kept_same (attr.Plain span name value.Bare) h = refl
  kept_same (attr.Plain span name (value.Parts xs)) h =
      alone_same (λ o. joined_texts p v xs o ≡ joined_texts p v' xs o) xs (ap (λ o. unwrap_or o []) (texts_same xs [] h)) (λ part e. refl) h
  kept_same (attr.On handler reads) h = refl
  kept_same (attr.Bind span name part) h = refl
  kept_same (attr.Class span name part) h = refl

  shown_same : (name : Name) (part : Part) → IsSame part → shown_at p v name part ≡ shown_at p v' name part
  shown_same name part e = ap (λ o. state.Shows (option_and_then (attr_of (is_boolean p name)) o)) e

  state_same : (a : FragAttr) → Each IsSame (parts.of_attr a) → attr_state p v a ≡ attr_state p v' a
  state_same (attr.Plain span name value.Bare) h = refl
  state_same (attr.Plain span name (value.Parts xs)) h =
      alone_same (λ o. parts_state p v name xs o ≡ parts_state p v' name xs o) xs (ap (λ o. if is_literal xs then state.Written else with_texts o) (texts_same xs [] h))
      (λ part e. shown_same name part e) h
  state_same (attr.On handler reads) h = refl
  state_same (attr.Bind span name part) h = shown_same name part h.0
  state_same (attr.Class span name part) h = ap state.Holds (holds_same part h.0)

  pub states_same : (attrs : List FragAttr) → Each IsSame (parts.of_attrs attrs) → states p v attrs ≡ states p v' attrs
  states_same [] h = refl
  states_same (a ∷ attrs) h =
      ap₂ (λ st sts. st ∷ sts) (state_same a (each_front IsSame (parts.of_attr a) (parts.of_attrs attrs) h)) (states_same attrs (each_back IsSame (parts.of_attr a) (parts.of_attrs attrs) h))

  succeeds_same : (a : FragAttr) → Each IsSame (parts.of_attr a) → attr_succeeds p v a ≡ attr_succeeds p v' a
  succeeds_same (attr.Plain span name value.Bare) h = refl
  succeeds_same (attr.Plain span name (value.Parts xs)) h =
      alone_same (λ o. parts_succeed p v name xs o ≡ parts_succeed p v' name xs o) xs (ap (λ o. is_literal xs || is_some o) (texts_same xs [] h))
      (λ part e. ap (can_show (is_boolean p name)) e) h
  succeeds_same (attr.On handler reads) h = refl
  succeeds_same (attr.Bind span name part) h = ap (can_show (is_boolean p name)) h.0
  succeeds_same (attr.Class span name part) h = ap is_some h.0

  pub succeed_same : (attrs : List FragAttr) → Each IsSame (parts.of_attrs attrs) → Each (Succeeds p v) attrs → Each (Succeeds p v') attrs
  succeed_same [] h k = tt
  succeed_same (a ∷ attrs) h k =
      (sym (succeeds_same a (each_front IsSame (parts.of_attr a) (parts.of_attrs attrs) h)) ∙ k.0, succeed_same attrs (each_back IsSame (parts.of_attr a) (parts.of_attrs attrs) h) k.1)

  pub all_kept : (attrs : List FragAttr) → Each IsSame (parts.of_attrs attrs) → map (kept_texts p v) attrs ≡ map (kept_texts p v') attrs
  all_kept [] h = refl
  all_kept (a ∷ attrs) h =
      ap₂ (λ (t : List (List ℕ)) ts. t ∷ ts) (kept_same a (each_front IsSame (parts.of_attr a) (parts.of_attrs attrs) h)) (all_kept attrs (each_back IsSame (parts.of_attr a) (parts.of_attrs attrs) h))

  -- what holds of each attribute whose parts are the same holds of the first one of a name
  first_same : (name : Name) (attrs : List FragAttr) (Q : Option FragAttr → Type 0) → Q None → ((a : FragAttr) → Each IsSame (parts.of_attr a) → Q (Some a)) → Each IsSame (parts.of_attrs attrs) →
      Q (first_passing name attrs)
  first_same name [] Q none some h = none
  first_same name (a ∷ attrs) Q none some h =
      by (passed_name a) (some a (each_front IsSame (parts.of_attr a) (parts.of_attrs attrs) h)) (first_same name attrs Q none some (each_back IsSame (parts.of_attr a) (parts.of_attrs attrs) h))
    where
      over : (b : Bool) → Q (Some a) → Q (first_passing name attrs) → Q (if b then Some a else first_passing name attrs)
      over true first later = first
      over false first later = later

      by : (o : Option Name) → Q (Some a) → Q (first_passing name attrs) → Q (or_first name a o (first_passing name attrs))
      by None first later = later
      by (Some own) first later = over (nat_eq own.0 name.0) first later

  one_prop : (a : FragAttr) (prop : Option SlotProp) → Each IsSame (parts.of_attr a) → IsProp p v (Some a) prop → IsProp p v' (Some a) prop
  one_prop a None h k = k
  one_prop a (Some prop) h k = (sym (given_same a h) ∙ k.0, k.1 ∙ kept_same a h)

  -- the prop of a name is what an attribute passes on the other view
  pub prop_stays : (name : Name) (attrs : List FragAttr) (prop : Option SlotProp) → Each IsSame (parts.of_attrs attrs) → IsProp p v (first_passing name attrs) prop → IsProp p v' (first_passing name attrs) prop
  prop_stays name attrs prop h = first_same name attrs (λ o. IsProp p v o prop → IsProp p v' o prop) (λ k. k) (λ a same. one_prop a prop same) h

  -- ---- branches

  pub choose_same : (ts : List Part) (i : ℕ) → Each IsSame ts → choose p v ts i ≡ choose p v' ts i
  choose_same [] i h = refl
  choose_same (t ∷ ts) i h = ap₂ (λ b n. if b then i else n) (holds_same t h.0) (choose_same ts (suc i) h.1)

  pub tests_same : (ts : List Part) → Each IsSame ts → tests_succeed p v ts ≡ tests_succeed p v' ts
  tests_same [] h = refl
  tests_same (t ∷ ts) h = ap₂ (λ o b. is_some o && (is_truthy o || b)) h.0 (tests_same ts h.1)

-- ---- attributes within a scope

module _ (p : Program) (scope : Scope) (v v' : View) (agrees : AgreesAt scope v v') where
  abbrev Seen : content.Look → Type 0
  Seen look = IsSeenIn scope.reading look

  pieces_in : (xs : List FragValuePart) → Each (IsWithin p) (parts.of_value (value.Parts xs)) → Each Seen (content.of_value (value.Parts xs) scope.bound) → Each (IsSame p v v') (parts.of_value (value.Parts xs))
  pieces_in [] h k = tt
  pieces_in (piece.Text t ∷ xs) h k = pieces_in xs h k
  pieces_in (piece.Show part ∷ xs) h k = (value_same p scope part v v' h.0 k.0 agrees, pieces_in xs h.1 k.1)

  attr_in : (a : FragAttr) → Each (IsWithin p) (parts.of_attr a) → Each Seen (content.of_attr a scope.bound) → Each (IsSame p v v') (parts.of_attr a)
  attr_in (attr.Plain span name value.Bare) h k = tt
  attr_in (attr.Plain span name (value.Parts xs)) h k = pieces_in xs h k
  attr_in (attr.On handler reads) h k = tt
  attr_in (attr.Bind span name part) h k = (value_same p scope part v v' h.0 k.0 agrees, tt)
  attr_in (attr.Class span name part) h k = (value_same p scope part v v' h.0 k.0 agrees, tt)

  pub attrs_in : (attrs : List FragAttr) → Each (IsWithin p) (parts.of_attrs attrs) → Each Seen (content.of_attrs attrs scope.bound) → Each (IsSame p v v') (parts.of_attrs attrs)
  attrs_in [] h k = tt
  attrs_in (a ∷ attrs) h k =
      each_append (IsSame p v v') (parts.of_attr a) (parts.of_attrs attrs)
      (attr_in a (each_front (IsWithin p) (parts.of_attr a) (parts.of_attrs attrs) h) (each_front Seen (content.of_attr a scope.bound) (content.of_attrs attrs scope.bound) k))
      (attrs_in attrs (each_back (IsWithin p) (parts.of_attr a) (parts.of_attrs attrs) h) (each_back Seen (content.of_attr a scope.bound) (content.of_attrs attrs scope.bound) k))
