-- The opening of a tag, behind its name (HTML, 'Start tags').
use Rattle.std.specs.Prelude.{◌≡◌, ℕ, zero, suc, ◌==◌, ◌&&◌, Bool, true, false, not, List, [], ◌∷◌, ◌++◌, slice_index, Option, Some, None, is_some, Result, Ok, Err, codes, if◌then◌else◌}
use Rattle.std.specs.List.{list_any}
use Rattle.std.specs.Str.{bytes_eq}
use Rattle.sv_ast.specs.declared.markup_tree.AttrKind.{AttrKind}
use Rattle.sv_ast.specs.declared.markup_tree.AttrKind.TheVariants as kind
use Rattle.sv_ast.specs.declared.markup_tree.TagAttr.{TagAttr}
use Rattle.sv_ast.specs.declared.refusals.Kind.TheVariants.{Syntax, Unclosed}
use Rattle.sv_ast.specs.declared.refusals.ParseError.{ParseError}
use Rattle.sv_base.specs.declared.names.Name.{Name}
use Rattle.sv_lex.specs.Bytes.{stop, stop_at, place, pass}
use Rattle.sv_lex.specs.Literals.{moved}
use Rattle.sv_lex.specs.Reader.{Input, Outcome, Parser, ◌>>=◌, ◌>>◌, pure, left, Fails}
use Rattle.sv_expr.specs.Limits.{Limits}
use Rattle.sv_tags.specs.declared.classes.Class.TheVariants.{Blank}
use Rattle.sv_tags.specs.declared.directives.Tag.{Tag}
use Rattle.sv_tags.specs.declared.openings.Found.{Found}
use Rattle.sv_tags.specs.declared.openings.Opening.{Opening}
use Rattle.sv_tags.specs.declared.taken.Key.{Key}
use Rattle.sv_tags.specs.declared.taken.Key.TheVariants.{Attribute, Class, Let}
use Rattle.sv_tags.specs.Attributes.{attribute}
use Rattle.sv_tags.specs.Classes.{front_len}
use Rattle.sv_tags.specs.Directives.{name_at, is_element, is_slot}
use Rattle.sv_tags.specs.Taken.{has, with_key}
use Rattle.sv_tags.specs.Values.{literal, value}

-- ---- what stands once

-- by what an attribute stands once in its tag; a listener may stand again
abbrev pub key_of : AttrKind → Name → Option Key
key_of kind.Plain name = Some (Attribute name)
key_of kind.Bind name = Some (Attribute name)
key_of kind.Slot name = Some (Attribute name)
key_of kind.Class name = Some (Class name)
key_of kind.Let name = Some (Let name)
key_of kind.On name = None

-- what was found of a tag so far
abbrev pub nothing : Found
nothing = record { attrs = []; taken = []; slot = None; is_closed = false }

abbrev pub with_attribute : TagAttr → List Key → Found → Found
with_attribute a taken found = record found { attrs = found.attrs ++ a ∷ []; taken = taken }

abbrev pub added_by : Option Key → TagAttr → Found → Option Found
added_by None a found = Some (with_attribute a found.taken found)
added_by (Some key) a found = if has key found.taken then None else Some (with_attribute a (with_key found.taken key) found)

-- what was found with an attribute more, unless it stands again
unfoldable pub added : TagAttr → Found → Option Found
added a found = added_by (key_of a.kind a.name) a found

abbrev pub put_by : Option Found → TagAttr → Parser Found
put_by None a = stop_at Syntax a.span.from
put_by (Some found) a = pure found

-- an attribute that stands again is refused where it begins
unfoldable pub put : TagAttr → Found → Parser Found
put a found = put_by (added a found) a

-- ---- the name of a slot

abbrev pub names_slot : Tag → List ℕ → Bool
names_slot tag z = is_slot tag && bytes_eq (name_at z) (codes "name")

abbrev pub with_slot : List ℕ → Found → Found
with_slot text found = record found { slot = Some text }

abbrev pub slot_named : ℕ → Found → Option (List ℕ) → Parser Found
slot_named from found None = stop_at Syntax from
slot_named from found (Some text) = pure (with_slot text found)

-- ---- the end of the opening

-- `>` or `/>`: how many bytes it takes, or 0 where there is none
abbrev pub end_len : List ℕ → ℕ
end_len z = if slice_index z 0 == 62 then 1 else (if slice_index z 0 == 47 && slice_index z 1 == 62 then 2 else 0)

abbrev pub has_blanks : List ℕ → Bool
has_blanks z = not (front_len Blank z == 0)

abbrev pub past_blanks : Input → Input
past_blanks i = moved (front_len Blank i.text) i

abbrev pub with_end : ℕ → Found → Found
with_end n found = record found { is_closed = n == 2 }

abbrev pub is_let : AttrKind → Bool
is_let kind.Let = true
is_let _ = false

abbrev pub is_slotted : AttrKind → Bool
is_slotted kind.Slot = true
is_slotted _ = false

abbrev pub has_let : List TagAttr → Bool
has_let attrs = list_any (λ (a : TagAttr). is_let a.kind) attrs

abbrev pub has_slot : List TagAttr → Bool
has_slot attrs = list_any (λ (a : TagAttr). is_slotted a.kind) attrs

-- an element that takes names from a slot has to stand in one
abbrev pub lacks_slot : Tag → List TagAttr → Bool
lacks_slot tag attrs = is_element tag && has_let attrs && not (has_slot attrs)

abbrev pub opening : Found → Opening
opening found = record { attrs = found.attrs; slot = found.slot; is_closed = found.is_closed }

unfoldable pub finished : Tag → ℕ → Found → Parser Opening
finished tag from found =
    if lacks_slot tag found.attrs then stop_at Syntax from else pure (opening found)

module _ (limits : Limits) (room : ℕ) where
  -- the name of a slot, which is text
  unfoldable pub slot_name : Found → Parser Found
  slot_name found = λ i. if is_some found.slot then stop Syntax i else (do
    from ← place
    pass 4
    v ← value limits room
    slot_named from found (literal v)) i

  -- one attribute more
  unfoldable pub more : Tag → Bool → Found → Parser Found
  more tag owned found =
      λ i. if names_slot tag i.text then slot_name found i else (attribute limits room tag owned >>= (λ a. put a found)) i

  -- no end comes: an attribute has to, behind white space
  abbrev pub unended : Tag → Bool → ℕ → (Found → Parser Found) → Found → Bool → Parser Found
  unended tag owned from next found is_apart =
      λ i. if left i == 0 then stop_at Unclosed from i else (if is_apart then (more tag owned found >>= next) i else stop Syntax i)

  abbrev pub behind_blanks : Tag → Bool → ℕ → (Found → Parser Found) → Found → Bool → Parser Found
  behind_blanks tag owned from next found is_apart =
      λ i. if end_len i.text == 0 then unended tag owned from next found is_apart i
      else (pass (end_len i.text) >> pure (with_end (end_len i.text) found)) i

  -- attributes, each behind white space, and the end of the opening, behind what was found; the number bounds how many come
  unfoldable pub attributes_from : Tag → Bool → ℕ → ℕ → Found → Parser Found
  attributes_from tag owned from zero found = stop_at Unclosed from
  attributes_from tag owned from (suc n) found =
      λ i. behind_blanks tag owned from (attributes_from tag owned from n) found (has_blanks i.text) (past_blanks i)

  unfoldable pub attributes : Tag → Bool → ℕ → Found → Parser Found
  attributes tag owned from found = λ i. attributes_from tag owned from (left i) found i

  -- the opening of a tag that begins at `from`, behind its name
  unfoldable pub opening_tag : Tag → Bool → ℕ → Parser Opening
  opening_tag tag owned from = attributes tag owned from nothing >>= finished tag from

-- ---- what a function ensures that puts what it reads where something stood

abbrev pub Fills : {A : Type 0} → Outcome A → Result (Unit {0}) ParseError → A → Input → Type 0
Fills outcome (Ok _) found new = outcome ≡ Ok (found, new)
Fills outcome (Err e) found new = Fails outcome e
