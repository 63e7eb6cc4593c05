-- On which views component tags stand: a walk through markup beside what is shown of it.
use Rattle.std.specs.Prelude.{ℕ, suc, List, [], ◌∷◌, ◌++◌, map, Option, Some, None, option_map, unwrap_or}
use Rattle.sv_code.specs.declared.fragments.Frag.{Frag, Frag-F, fold-Frag}
use Rattle.sv_code.specs.declared.fragments.FragArm.{FragArm-F}
use Rattle.sv_code.specs.declared.fragments.LetName.{LetName}
use Rattle.sv_code.specs.declared.parts.Part.{Part}
use Rattle.sv_code.specs.declared.program.Program.{Program}
use Rattle.sv_plan.specs.Content.{content_at}
use Rattle.sv_plan.specs.Lists.{Head, row_view}
use Rattle.sv_plan.specs.Plan.{body_at, head}
use Rattle.sv_plan.specs.Slots.{content_view}
use Rattle.sv_shapes.specs.declared.shape.Row.{Row}
use Rattle.sv_shapes.specs.declared.shape.Shape.{Shape, Shape-F, out-Shape}
use Rattle.sv_shapes.specs.declared.shape.SlotProp.{SlotProp}
use Rattle.sv_view.specs.Level.{View}

-- a place at which a component's tag stands: the number of the tag, the view on which it stands, and the tags of the levels of that view
pub record Hold : Type 0 where
  pub place : ℕ
  pub tag : ℕ
  pub tags : List (Option ℕ)
  pub view : View

-- the holds in what is shown of a fragment
abbrev pub Holder : Type 0
Holder = View → Shape → List Hold

-- those in what is shown of fragments beside one another
abbrev pub AllHolder : Type 0
AllHolder = View → List Shape → List Hold

abbrev pub hold_each : List Holder → AllHolder
hold_each holders v [] = []
hold_each [] v (x ∷ shapes) = []
hold_each (hold ∷ holders) v (x ∷ shapes) = hold v x ++ hold_each holders v shapes

-- ---- blocks and slots

-- those in the rows of a list with a number, from a row with a number on
abbrev pub rows_hold : Head → AllHolder → ℕ → View → ℕ → List Row → List Hold
rows_hold h body n v i [] = []
rows_hold h body n v i (row ∷ rows) = body (row_view h n i row.item v) row.parts ++ rows_hold h body n v (suc i) rows

-- content for a slot: the names that it has for slot props, and its walk
pub record Filled : Type 0 where
  pub lets : List LetName
  pub walk : AllHolder

-- the content that is given stands on the owner's view; the slot's own content doesn't
abbrev pub slot_holds : Option Filled → AllHolder → View → List SlotProp → List Shape → List Hold
slot_holds None own v props parts = own v parts
slot_holds (Some f) own v props parts = f.walk (content_view f.lets props v) parts

-- ---- each form

-- a branch, as a plan has it: its condition and its content
abbrev pub ArmHolder : Type 0
ArmHolder = Part × List Holder

abbrev pub arm_step : FragArm-F Holder ArmHolder → ArmHolder
arm_step a = (a.test, a.body)

-- one layer of a shape beside one of a fragment in the markup of an instance whose view has some tags, where a slot of some name shows some content
abbrev pub layer_holds : List (Option ℕ) → (List ℕ → Option Filled) → Frag-F Holder ArmHolder → View → Shape-F Shape Row → List Hold
layer_holds tags slot (Frag-F.Element span name attrs children) v (Shape-F.Element mark typed states parts) = hold_each children v parts
layer_holds tags slot (Frag-F.Tag tag reads) v (Shape-F.Tag place texts) = record { place = place; tag = tag; tags = tags; view = v } ∷ []
layer_holds tags slot (Frag-F.Slot span name attrs own reads) v (Shape-F.Slot props parts) = slot_holds (slot name) (hold_each own) v props parts
layer_holds tags slot (Frag-F.If arms last) v (Shape-F.If arm parts) = hold_each (body_at arms last arm) v parts
layer_holds tags slot (Frag-F.Each list item index key body last) v (Shape-F.Each number rows none) =
    rows_hold (head list item index key) (hold_each body) number v 0 rows ++ hold_each (unwrap_or last []) v none
layer_holds tags slot (Frag-F.Key part body) v (Shape-F.Key state parts) = hold_each body v parts
layer_holds tags slot _ v _ = []

abbrev pub step : List (Option ℕ) → (List ℕ → Option Filled) → Frag-F Holder ArmHolder → Holder
step tags slot frag v x = layer_holds tags slot frag v (out-Shape x)

-- ---- whole markup

abbrev pub holder : List (Option ℕ) → (List ℕ → Option Filled) → Frag → Holder
holder tags slot = fold-Frag Holder ArmHolder (step tags slot) arm_step

abbrev pub walker : List (Option ℕ) → (List ℕ → Option Filled) → List Frag → AllHolder
walker tags slot frags = hold_each (map (holder tags slot) frags)

-- what the slots of an instance show, by the tags of the levels of its view
abbrev pub slotted : Program → List (Option ℕ) → List ℕ → Option Filled
slotted p [] name = None
slotted p (tag ∷ tags) name = option_map (λ c. record { lets = c.lets; walk = walker tags (slotted p tags) c.frags }) (content_at p (tag ∷ tags) name)

-- the holds in the shapes of fragments in the markup of an instance, by its view and the tags of the levels of that
unfoldable pub holds : Program → List (Option ℕ) → List Frag → AllHolder
holds p tags frags = walker tags (slotted p tags) frags
