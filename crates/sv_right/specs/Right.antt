-- When shapes are right: what they hold is what an evaluation on the view gives, and no part of it faults there.
use Rattle.std.specs.Prelude.{◌≡◌, ℕ, true, nat_eq, pos, List, [], ◌∷◌, Option, Some, None, option_map, unwrap_or, map, length, slice_get, if◌then◌else◌}
use Rattle.std.specs.Option.{option_and_then}
use Rattle.sv_attributes.specs.Values.{alone}
use Rattle.sv_base.specs.declared.names.Name.{Name}
use Rattle.sv_code.specs.Names.{Each}
use Rattle.sv_code.specs.declared.fragments.Frag.{Frag}
use Rattle.sv_code.specs.declared.fragments.FragAttr.{FragAttr}
use Rattle.sv_code.specs.declared.fragments.FragAttr.TheVariants as attr
use Rattle.sv_code.specs.declared.fragments.FragValue.{FragValue}
use Rattle.sv_code.specs.declared.fragments.FragValue.TheVariants as value
use Rattle.sv_code.specs.declared.fragments.FragValuePart.{FragValuePart}
use Rattle.sv_code.specs.declared.parts.Part.{Part}
use Rattle.sv_code.specs.declared.program.Program.{Program}
use Rattle.sv_code.specs.declared.tags.Tag.{Tag}
use Rattle.sv_fresh.specs.Blocks.{choose}
use Rattle.sv_fresh.specs.Slots.{prop_of}
use Rattle.sv_fresh.specs.Sources.{row_items}
use Rattle.sv_fresh.specs.States.{states}
use Rattle.sv_fresh.specs.Values.{value_at, text_at, texts_at}
use Rattle.sv_keyed.specs.Keys.{first_repeat}
use Rattle.sv_parts.specs.Tags.{passed_name}
use Rattle.sv_plan.specs.Lists.{Head, row_view, row_keys, items_in}
use Rattle.sv_plan.specs.Slots.{prop_named}
use Rattle.sv_right.specs.Claims.{Claim, OfCount, OfLiteral, OfText, OfElement, OfTag, OfSlot, OfIf, OfEach, OfKey, claims}
use Rattle.sv_right.specs.Succeeds.{Succeeds, tests_succeed}
use Rattle.sv_shapes.specs.Shapes.{Opened, text_in, element_in, states_in, texts_in, place_in, props_in, arm_in, list_in, rows_in, key_in, parts_in}
use Rattle.sv_shapes.specs.declared.shape.Row.{Row}
use Rattle.sv_shapes.specs.declared.shape.Shape.{Shape, Shape-F}
use Rattle.sv_shapes.specs.declared.shape.SlotProp.{SlotProp}
use Rattle.sv_value.specs.Key.{key_of}
use Rattle.sv_value.specs.Value.{Val}
use Rattle.sv_value.specs.declared.key.Key.{Key}
use Rattle.sv_value.specs.declared.key.Key.TheVariants.{Num}
use Rattle.sv_view.specs.Level.{View}

abbrev pub IsThere : {A : Type 0} → Option A → Type 0
IsThere None = ⊥
IsThere (Some x) = Unit {0}

-- the mark of a text that is written
abbrev pub literal_in : Opened → Option ℕ
literal_in (Some (Shape-F.Literal mark)) = Some mark
literal_in _ = None

-- the props of a slot, where one is shown
abbrev pub slot_in : Opened → Option (List SlotProp)
slot_in (Some (Shape-F.Slot props parts)) = Some props
slot_in _ = None

-- ---- attributes that pass a value

-- the texts that are kept of the parts of a value: where they are joined, and each has one
abbrev pub joined_texts : Program → View → List FragValuePart → Option Part → List (List ℕ)
joined_texts p v parts None = unwrap_or (texts_at p v parts) []
joined_texts p v parts (Some part) = []

abbrev pub value_texts : Program → View → FragValue → List (List ℕ)
value_texts p v value.Bare = []
value_texts p v (value.Parts parts) = joined_texts p v parts (alone parts)

-- those of an attribute
abbrev pub kept_texts : Program → View → FragAttr → List (List ℕ)
kept_texts p v (attr.Plain span name shown) = value_texts p v shown
kept_texts p v (attr.On handler reads) = []
kept_texts p v (attr.Bind span name target) = []
kept_texts p v (attr.Class span name test) = []

-- the value that an attribute passes on a view, if it passes one
abbrev pub passed_at : Program → View → FragAttr → Option Val
passed_at p v a = option_map (λ prop. prop.value) (prop_of p v a)

-- the first attribute that passes a value under a name
abbrev pub or_first : Name → FragAttr → Option Name → Option FragAttr → Option FragAttr
or_first name a None later = later
or_first name a (Some own) later = if nat_eq own.0 name.0 then Some a else later

abbrev pub first_passing : Name → List FragAttr → Option FragAttr
first_passing name [] = None
first_passing name (a ∷ attrs) = or_first name a (passed_name a) (first_passing name attrs)

-- the prop of a name is what the first attribute of that name passes
abbrev pub IsProp : Program → View → Option FragAttr → Option SlotProp → Type 0
IsProp p v None prop = prop ≡ None
IsProp p v (Some a) None = ⊥
IsProp p v (Some a) (Some prop) = (passed_at p v a ≡ Some prop.value) × (prop.texts ≡ kept_texts p v a)

-- ---- each form

-- a tag that is there has a place, and the texts of its attributes
abbrev pub IsTagTrue : Program → View → Option Tag → Opened → Type 0
IsTagTrue p v None held = place_in held ≡ None
IsTagTrue p v (Some t) held = IsThere (place_in held) × (texts_in held ≡ map (kept_texts p v) t.attrs)

-- the key of a row on a view: that of its expression, or else its number
abbrev pub key_by : Program → Head → Option Part → ℕ → View → ℕ → Val → Option Key
key_by p h None n v i item = Some (Num (pos i))
key_by p h (Some part) n v i item = option_and_then key_of (value_at p (row_view h n i item v) part)

abbrev pub key_at : Program → Head → ℕ → View → ℕ → Val → Option Key
key_at p h n v i item = key_by p h h.key n v i item

-- nothing is held of the branch for no rows where there are some
abbrev pub IsNoneIdle : List Row → List Shape → Type 0
IsNoneIdle [] parts = Unit {0}
IsNoneIdle (row ∷ rows) parts = parts ≡ []

-- the value is a list, the rows are those of it, each under its key, and no key stands twice
pub record AreRowsTrue (p : Program) (h : Head) (v : View) (held : Opened) : Type 0 where
  pub is : IsThere (list_in held)
  pub items : option_and_then items_in (value_at p v h.list) ≡ Some (row_items (rows_in held))
  pub keys : (i : ℕ) (row : Row) → slice_get (rows_in held) i ≡ Some row → key_at p h (unwrap_or (list_in held) 0) v i row.item ≡ Some row.key
  pub once : first_repeat (row_keys (rows_in held)) ≡ None
  pub idle : IsNoneIdle (rows_in held) (parts_in held)

abbrev pub IsTrue : Program → Claim → Type 0
IsTrue p (OfCount count shapes) = length shapes ≡ count
IsTrue p (OfLiteral held) = IsThere (literal_in held)
IsTrue p (OfText part v held) = IsThere (text_in held) × (text_in held ≡ text_at p v part)
IsTrue p (OfElement attrs v held) = (IsThere (element_in held) × Each (Succeeds p v) attrs) × (states_in held ≡ states p v attrs)
IsTrue p (OfTag tags tag v held) = IsTagTrue p v (slice_get p.tags tag) held
IsTrue p (OfSlot attrs v held) = IsThere (slot_in held) × ((name : Name) → IsProp p v (first_passing name attrs) (prop_named name (props_in held)))
IsTrue p (OfIf tests v held) = (tests_succeed p v tests ≡ true) × (arm_in held ≡ Some (choose p v tests 0))
IsTrue p (OfEach h v held) = AreRowsTrue p h v held
IsTrue p (OfKey part v held) = IsThere (key_in held) × (option_map (λ k. k.value) (key_in held) ≡ value_at p v part)

-- the shapes of fragments in the markup of an instance are right on a view, by the tags of its levels
abbrev pub AreRight : Program → List (Option ℕ) → List Frag → View → List Shape → Type 0
AreRight p tags frags v shapes = Each (IsTrue p) (claims p tags frags v shapes)
