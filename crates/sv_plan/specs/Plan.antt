-- The plan of a template: a walk through it in the order of the text, beside what was shown of it before.
use Rattle.std.specs.Prelude.{ℕ, Bool, true, false, List, [], ◌∷◌, map, Option, Some, None, option_map, unwrap_or, Ok, slice_get}
use Rattle.sv_base.specs.declared.names.Name.{Name}
use Rattle.sv_code.specs.declared.fragments.Frag.{Frag, Frag-F, fold-Frag}
use Rattle.sv_code.specs.declared.fragments.FragArm.{FragArm, FragArm-F}
use Rattle.sv_code.specs.declared.fragments.FragAttr.{FragAttr}
use Rattle.sv_code.specs.declared.fragments.LetName.{LetName}
use Rattle.sv_code.specs.declared.parts.Part.{Part}
use Rattle.sv_code.specs.declared.program.Program.{Program}
use Rattle.sv_plan.specs.Blocks.{chosen, is_arm, settled}
use Rattle.sv_plan.specs.Content.{content_at}
use Rattle.sv_parts.specs.Elements.{opening_step}
use Rattle.sv_plan.specs.Lists.{Head, list_step}
use Rattle.sv_parts.specs.Parts.{literal_step, show_step}
use Rattle.sv_plan.specs.Rows.{OldRow, old_row, row_sides, old_parts}
use Rattle.sv_parts.specs.Sides.{Sides}
use Rattle.sv_plan.specs.Slots.{props_step, content_sides}
use Rattle.sv_parts.specs.State.{Run, andThen, destroyed, each, one}
use Rattle.sv_parts.specs.Tags.{tag_step}
use Rattle.sv_plan.specs.declared.lists.Entry.{Entry}
use Rattle.sv_plan.specs.declared.lists.Listing.{Listing}
use Rattle.sv_shapes.specs.Shapes.{Opened, opened, mark_in, texts_in, place_in, props_in, arm_in, list_in, rows_in, key_in, parts_in}
use Rattle.sv_shapes.specs.declared.shape.Row.{Row}
use Rattle.sv_shapes.specs.declared.shape.Shape.{Shape}
use Rattle.sv_shapes.specs.declared.shape.Shape.TheVariants as shape
use Rattle.sv_shapes.specs.declared.shape.SlotProp.{SlotProp}

-- a fragment, beside what was shown of it before
abbrev pub Planner : Type 0
Planner = Sides → Option Shape → Run Shape

-- fragments beside one another
abbrev pub Walker : Type 0
Walker = Sides → List Shape → Run (List Shape)

abbrev pub plan_each : List Planner → Walker
plan_each plans at shapes s = each (λ plan i u. one (plan at (slice_get shapes i) u)) 0 plans s

-- content that stays, or content in the place of what was there
abbrev pub kept_step : Walker → Sides → Bool → List Shape → Run (List Shape)
kept_step walk at true parts s = walk at parts s
kept_step walk at false parts s = andThen (destroyed parts s) (λ _ v. walk at [] v)

-- ---- elements

abbrev pub element_step : Program → List FragAttr → Walker → Sides → Opened → Run Shape
element_step p attrs walk at old s =
    andThen (opening_step p attrs at old s) (λ o v. andThen (walk at (parts_in old) v) (λ parts u. Ok (shape.Element o.mark o.typed o.states parts, u)))

-- ---- if blocks and key blocks

abbrev pub if_step : Program → List Part → (ℕ → Walker) → Sides → Opened → Run Shape
if_step p tests walk at old s =
    andThen (chosen p tests (arm_in old) at s) (λ arm v. andThen (kept_step (walk arm) at (is_arm (arm_in old) arm) (parts_in old) v) (λ parts u. Ok (shape.If arm parts, u)))

abbrev pub key_step : Program → Part → Walker → Sides → Opened → Run Shape
key_step p part walk at old s =
    andThen (settled p part (key_in old) at s) (λ k v. andThen (kept_step walk at k.kept (parts_in old) v) (λ parts u. Ok (shape.Key k.state parts, u)))

-- ---- each blocks

-- a row to come, with the row that had its key
abbrev pub row_step : Head → Walker → Sides → ℕ → ℕ → Option OldRow → ℕ → Entry → Run Row
row_step h walk at m n old i e s =
    andThen (walk (row_sides h m n old i e.item at) (old_parts old) s) (λ parts u. Ok (record { key = e.key; item = e.item; parts = parts }, u))

-- the rows in order, where the list had a number and has one
abbrev pub rows_step : Head → Walker → Sides → ℕ → Listing → List Row → Run (List Row)
rows_step h walk at m x rows s = each (λ e i u. one (row_step h walk at m x.number (old_row rows e.key) i e u)) 0 x.entries s

-- the branch for no rows, where there are none
abbrev pub none_step : Walker → Sides → List Entry → List Shape → Run (List Shape)
none_step walk at [] parts s = walk at parts s
none_step walk at (e ∷ entries) parts s = Ok ([], s)

abbrev pub listed_step : Head → Walker → Walker → Sides → Option ℕ → List Row → List Shape → Listing → Run Shape
listed_step h walk none_walk at old rows parts x s =
    andThen (rows_step h walk at (unwrap_or old 0) x rows s) (λ rs v. andThen (none_step none_walk at x.entries parts v) (λ none u. Ok (shape.Each x.number rs none, u)))

abbrev pub each_step : Program → Head → Walker → Walker → Sides → Opened → Run Shape
each_step p h walk none_walk at old s =
    andThen (list_step p h at (list_in old) (rows_in old) (parts_in old) s) (λ x v. listed_step h walk none_walk at (list_in old) (rows_in old) (parts_in old) x v)

-- ---- slots

-- content for a slot: the names that it has for slot props, and its walk
pub record Filled : Type 0 where
  pub lets : List LetName
  pub walk : Walker

-- the content that is given, on the owner's view, or else the slot's own
abbrev pub content_step : Option Filled → Walker → Sides → List SlotProp → List SlotProp → List Shape → Run (List Shape)
content_step None own at olds props parts s = own at parts s
content_step (Some f) own at olds props parts s = f.walk (content_sides f.lets olds props at) parts s

abbrev pub slot_step : Program → List FragAttr → Option Filled → Walker → Sides → Opened → Run Shape
slot_step p attrs filled own at old s =
    andThen (props_step p attrs (props_in old) at s) (λ props v. andThen (content_step filled own at (props_in old) props (parts_in old) v) (λ parts u. Ok (shape.Slot props parts, u)))

-- ---- each form

-- a branch: its condition and its content
abbrev pub ArmPlan : Type 0
ArmPlan = Part × List Planner

abbrev pub arm_step : FragArm-F Planner ArmPlan → ArmPlan
arm_step a = (a.test, a.body)

-- the content of a branch, or of the last one
abbrev pub body_at : {A : Type 0} → List (Part × List A) → Option (List A) → ℕ → List A
body_at arms last i = unwrap_or (option_map (λ a. a.1) (slice_get arms i)) (unwrap_or last [])

abbrev pub body_in : List FragArm → List Frag → ℕ → List Frag
body_in arms last i = unwrap_or (option_map (λ a. a.body) (slice_get arms i)) last

abbrev pub head : Part → Name → Option Name → Option Part → Head
head list item index key = record { list = list; item = item; index = index; key = key }

-- a fragment, where a slot of some name shows some content
abbrev pub step : Program → (List ℕ → Option Filled) → Frag-F Planner ArmPlan → Planner
step p slot (Frag-F.Text text) at old s = literal_step (mark_in (opened old)) s
step p slot (Frag-F.Show part) at old s = show_step p part at (opened old) s
step p slot (Frag-F.Element span name attrs children) at old s = element_step p attrs (plan_each children) at (opened old) s
step p slot (Frag-F.Tag tag reads) at old s = tag_step p tag (place_in (opened old)) (texts_in (opened old)) at s
step p slot (Frag-F.Named name lets node) at old s = Ok (shape.Nothing, s)
step p slot (Frag-F.Slot span name attrs own reads) at old s = slot_step p attrs (slot name) (plan_each own) at (opened old) s
step p slot (Frag-F.If arms last) at old s = if_step p (map (λ a. a.0) arms) (λ i. plan_each (body_at arms last i)) at (opened old) s
step p slot (Frag-F.Each list item index key body none) at old s = each_step p (head list item index key) (plan_each body) (plan_each (unwrap_or none [])) at (opened old) s
step p slot (Frag-F.Key part body) at old s = key_step p part (plan_each body) at (opened old) s

-- ---- whole templates

abbrev pub planner : Program → (List ℕ → Option Filled) → Frag → Planner
planner p slot = fold-Frag Planner ArmPlan (step p slot) arm_step

abbrev pub walker : Program → (List ℕ → Option Filled) → List Frag → Walker
walker p slot frags = plan_each (map (planner p slot) frags)

-- what the slots of an instance show, by the tags of the levels of its view: content is shown on the owner's view, and its own slots by the owner's tags
abbrev pub slotted : Program → List (Option ℕ) → List ℕ → Option Filled
slotted p [] name = None
slotted p (tag ∷ tags) name = option_map (λ c. record { lets = c.lets; walk = walker p (slotted p tags) c.frags }) (content_at p (tag ∷ tags) name)

-- the plan of a fragment in the markup of an instance
unfoldable pub plan : Program → List (Option ℕ) → Frag → Planner
plan p tags frag = planner p (slotted p tags) frag

-- the plan of fragments beside one another
unfoldable pub plan_all : Program → List (Option ℕ) → List Frag → Walker
plan_all p tags frags = walker p (slotted p tags) frags
