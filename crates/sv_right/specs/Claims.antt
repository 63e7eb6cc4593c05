-- What is claimed of the shapes of some fragments: a walk through markup beside what is held of it, which says on which view each part is to be
-- evaluated.
use Rattle.std.specs.Prelude.{ℕ, List, [], ◌∷◌, ◌++◌, Option, Some, None, option_map, unwrap_or, map, length, slice_get}
use Rattle.sv_attributes.specs.Each.{each}
use Rattle.sv_code.specs.declared.fragments.Frag.{Frag, Frag-F, fold-Frag}
use Rattle.sv_code.specs.declared.fragments.FragArm.{FragArm-F}
use Rattle.sv_code.specs.declared.fragments.FragAttr.{FragAttr}
use Rattle.sv_code.specs.declared.fragments.LetName.{LetName}
use Rattle.sv_code.specs.declared.parts.Part.{Part}
use Rattle.sv_code.specs.declared.program.Program.{Program}
use Rattle.sv_plan.specs.Content.{content_at}
use Rattle.sv_plan.specs.Lists.{Head, row_view}
use Rattle.sv_plan.specs.Plan.{body_at, head}
use Rattle.sv_plan.specs.Slots.{content_view}
use Rattle.sv_shapes.specs.Shapes.{Opened, opened, props_in, arm_in, list_in, rows_in, parts_in}
use Rattle.sv_shapes.specs.declared.shape.Row.{Row}
use Rattle.sv_shapes.specs.declared.shape.Shape.{Shape}
use Rattle.sv_view.specs.Level.{View}

-- that shapes stand beside so many fragments, or that something is held of a fragment whose parts are evaluated on a view; a component's tag
-- stands in the markup of an instance whose view has some tags
pub data Claim : Type 0 where
  OfCount : (count : ℕ) (shapes : List Shape) → Claim
  OfLiteral : (held : Opened) → Claim
  OfText : (part : Part) (view : View) (held : Opened) → Claim
  OfElement : (attrs : List FragAttr) (view : View) (held : Opened) → Claim
  OfTag : (tags : List (Option ℕ)) (tag : ℕ) (view : View) (held : Opened) → Claim
  OfSlot : (attrs : List FragAttr) (view : View) (held : Opened) → Claim
  OfIf : (tests : List Part) (view : View) (held : Opened) → Claim
  OfEach : (head : Head) (view : View) (held : Opened) → Claim
  OfKey : (part : Part) (view : View) (held : Opened) → Claim

-- the claims on a fragment
abbrev pub Claimer : Type 0
Claimer = View → Option Shape → List Claim

-- the claims on fragments beside one another
abbrev pub Walker : Type 0
Walker = View → List Shape → List Claim

abbrev pub claim_each : List Claimer → Walker
claim_each claimers v shapes = OfCount (length claimers) shapes ∷ each (λ claim i. claim v (slice_get shapes i)) 0 claimers

-- ---- blocks and slots

-- the content of each row, in a list with a number
abbrev pub rows_claims : Head → Walker → ℕ → View → List Row → List Claim
rows_claims h body n v rows = each (λ row i. body (row_view h n i row.item v) row.parts) 0 rows

-- the branch for no rows, where there are none
abbrev pub none_claims : Walker → View → List Row → List Shape → List Claim
none_claims walk v [] parts = walk v parts
none_claims walk v (row ∷ rows) parts = []

abbrev pub each_claims : Head → Walker → Walker → View → Opened → List Claim
each_claims h body none v held = rows_claims h body (unwrap_or (list_in held) 0) v (rows_in held) ++ none_claims none v (rows_in held) (parts_in held)

-- content for a slot: the names that it has for slot props, and its walk
pub record Filled : Type 0 where
  pub lets : List LetName
  pub walk : Walker

-- the content that is given, on the owner's view, or else the slot's own
abbrev pub slot_claims : Option Filled → Walker → View → Opened → List Claim
slot_claims None own v held = own v (parts_in held)
slot_claims (Some f) own v held = f.walk (content_view f.lets (props_in held) v) (parts_in held)

-- ---- each form

-- a branch: its condition and its content
abbrev pub ArmClaims : Type 0
ArmClaims = Part × List Claimer

abbrev pub arm_step : FragArm-F Claimer ArmClaims → ArmClaims
arm_step a = (a.test, a.body)

-- a fragment in the markup of an instance whose view has some tags, where a slot of some name shows some content
abbrev pub step : List (Option ℕ) → (List ℕ → Option Filled) → Frag-F Claimer ArmClaims → View → Opened → List Claim
step tags slot (Frag-F.Text text) v held = OfLiteral held ∷ []
step tags slot (Frag-F.Show part) v held = OfText part v held ∷ []
step tags slot (Frag-F.Element span name attrs children) v held = OfElement attrs v held ∷ claim_each children v (parts_in held)
step tags slot (Frag-F.Tag tag reads) v held = OfTag tags tag v held ∷ []
step tags slot (Frag-F.Named name lets node) v held = []
step tags slot (Frag-F.Slot span name attrs own reads) v held = OfSlot attrs v held ∷ slot_claims (slot name) (claim_each own) v held
step tags slot (Frag-F.If arms last) v held = OfIf (map (λ a. a.0) arms) v held ∷ claim_each (body_at arms last (unwrap_or (arm_in held) 0)) v (parts_in held)
step tags slot (Frag-F.Each list item index key body none) v held =
    OfEach (head list item index key) v held ∷ each_claims (head list item index key) (claim_each body) (claim_each (unwrap_or none [])) v held
step tags slot (Frag-F.Key part body) v held = OfKey part v held ∷ claim_each body v (parts_in held)

-- ---- whole markup

abbrev pub claimer : List (Option ℕ) → (List ℕ → Option Filled) → Frag → Claimer
claimer tags slot = fold-Frag Claimer ArmClaims (λ f v shape. step tags slot f v (opened shape)) arm_step

abbrev pub walker : List (Option ℕ) → (List ℕ → Option Filled) → List Frag → Walker
walker tags slot frags = claim_each (map (claimer tags slot) frags)

-- what the slots of an instance show, by the tags of the levels of its view
abbrev pub slotted : Program → List (Option ℕ) → List ℕ → Option Filled
slotted p [] name = None
slotted p (tag ∷ tags) name = option_map (λ c. record { lets = c.lets; walk = walker tags (slotted p tags) c.frags }) (content_at p (tag ∷ tags) name)

-- the claims on the shapes of fragments in the markup of an instance, by the tags of the levels of its view
unfoldable pub claims : Program → List (Option ℕ) → List Frag → Walker
claims p tags frags = walker tags (slotted p tags) frags
