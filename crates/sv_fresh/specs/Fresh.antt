-- The page: a document tree, by a walk through the markup of all instances beside what is recorded as shown. What expressions give is evaluated
-- on present states, and then marks, states that users left and places of children alone are taken from what is recorded; or all of it is.
use Rattle.std.specs.Prelude.{ℕ, zero, suc, List, [], ◌∷◌, Option, Some, None, option_map, unwrap_or, map, slice_get}
use Rattle.std.specs.Option.{option_and_then, option_to_list}
use Rattle.sv_attributes.specs.Each.{each}
use Rattle.sv_code.specs.declared.fragments.Frag.{Frag, Frag-F, fold-Frag}
use Rattle.sv_code.specs.declared.fragments.FragArm.{FragArm-F}
use Rattle.sv_code.specs.declared.fragments.FragAttr.{FragAttr}
use Rattle.sv_code.specs.declared.fragments.LetName.{LetName}
use Rattle.sv_code.specs.declared.parts.Part.{Part}
use Rattle.sv_code.specs.declared.program.Program.{Program}
use Rattle.sv_document.specs.Element.{Element}
use Rattle.sv_document.specs.declared.tree.Node.{Node}
use Rattle.sv_document.specs.declared.tree.Node.TheVariants as node
use Rattle.sv_fresh.specs.Blocks.{row_parts}
use Rattle.sv_fresh.specs.Listeners.{listeners}
use Rattle.sv_fresh.specs.Scene.{Page, Scene, Tags, within, markup_at, parts_at}
use Rattle.sv_fresh.specs.Sources.{text_by, attributes_by, arm_by, items_by, props_by, view_by}
use Rattle.sv_fresh.specs.declared.source.Source.{Source}
use Rattle.sv_fresh.specs.declared.source.Source.TheVariants.{Evaluated, Recorded}
use Rattle.sv_plan.specs.Content.{Content, content_at, outer_tags}
use Rattle.sv_plan.specs.Lists.{Head, row_view}
use Rattle.sv_plan.specs.Plan.{body_at, head}
use Rattle.sv_plan.specs.Slots.{content_view}
use Rattle.sv_shapes.specs.Shapes.{Opened, opened, mark_in, element_in, typed_in, place_in, rows_in, parts_in}
use Rattle.sv_shapes.specs.Showing.{Showing, child_at}
use Rattle.sv_shapes.specs.declared.shape.Row.{Row}
use Rattle.sv_shapes.specs.declared.shape.Shape.{Shape}
use Rattle.sv_states.specs.declared.states.TheConstants.{DEPTH_LIMIT}
use Rattle.sv_value.specs.Value.{Val}
use Rattle.sv_view.specs.Level.{View}
use Rattle.sv_world.specs.declared.world.World.{World}

-- the nodes of a fragment on a view, beside what is recorded of it
abbrev pub Drawer : Type 0
Drawer = View → Option Shape → List Node

-- those of several fragments
abbrev pub Walker : Type 0
Walker = View → List Shape → List Node

-- those of an instance with a number, whose view has these tags and stands before its owner's
abbrev pub Descent : Type 0
Descent = Tags → Option View → ℕ → List Node

-- the nodes of each fragment, beside what is recorded at its place
abbrev pub walked : List Drawer → Walker
walked drawers v parts = each (λ draw i. draw v (slice_get parts i)) 0 drawers

-- ---- texts and elements

-- a text with its mark, or 0
abbrev pub text_node : Option ℕ → List ℕ → Node
text_node mark t = node.Text (unwrap_or mark 0) t

-- the text of an expression, if it has one
abbrev pub shown_text : Option ℕ → Option (List ℕ) → List Node
shown_text mark t = option_to_list (option_map (text_node mark) t)

-- an element without its children
abbrev pub element_of : Page → List ℕ → List FragAttr → View → Opened → Element
element_of page name attrs v old =
    record { inst = page.inst; mark = unwrap_or (element_in old) 0; name = name; attributes = attributes_by page.source page.program attrs v old; typed = typed_in old; listeners = listeners page.program v attrs }

-- an element with its children
abbrev pub element_nodes : Page → List ℕ → List FragAttr → Walker → View → Opened → List Node
element_nodes page name attrs walk v old = node.Element (element_of page name attrs v old) (walk v (parts_in old)) ∷ []

-- ---- component tags and slots

-- the child that stands at a place, by its tag's number
abbrev pub child_nodes : Descent → Tags → ℕ → View → Option ℕ → List Node
child_nodes descend tags k v None = []
child_nodes descend tags k v (Some n) = descend (Some k ∷ tags) (Some v) n

-- the child at the place of a component's tag
abbrev pub tag_nodes : Page → Descent → Tags → ℕ → View → Option ℕ → List Node
tag_nodes page descend tags k v place = child_nodes descend tags k v (option_and_then (child_at page.showing) place)

-- the content that is given to a slot, with the names that it has for slot props, or its own
abbrev pub slot_nodes : Page → Option (List LetName × Walker) → List FragAttr → Walker → View → Opened → List Node
slot_nodes page None attrs own v old = own v (parts_in old)
slot_nodes page (Some given) attrs own v old = given.1 (content_view given.0 (props_by page.source page.program attrs v old) v) (parts_in old)

-- ---- blocks

-- the rows of these items, whose locals have no numbers
abbrev pub rows_nodes : Head → Walker → View → List Row → List Val → List Node
rows_nodes h body v rows xs = each (λ x i. body (row_view h 0 i x v) (row_parts (slice_get rows i))) 0 xs

-- the rows of a list, or the branch for none
abbrev pub list_nodes : Head → Walker → Walker → View → Opened → List Val → List Node
list_nodes h body last v old [] = last v (parts_in old)
list_nodes h body last v old (x ∷ xs) = rows_nodes h body v (rows_in old) (x ∷ xs)

-- ---- each kind of fragment

-- a branch of an if block: its condition and its content
abbrev pub ArmDrawer : Type 0
ArmDrawer = Part × List Drawer

abbrev pub arm_step : FragArm-F Drawer ArmDrawer → ArmDrawer
arm_step a = (a.test, a.body)

-- what is given to the slots of a component, by their names
abbrev pub Given : Type 0
Given = List ℕ → Option (List LetName × Walker)

-- a fragment, with what its parts are
abbrev pub frag_step : Page → Descent → Tags → Given → Frag-F Drawer ArmDrawer → View → Opened → List Node
frag_step page descend tags given (Frag-F.Text t) v old = text_node (mark_in old) t ∷ []
frag_step page descend tags given (Frag-F.Show part) v old = shown_text (mark_in old) (text_by page.source page.program part v old)
frag_step page descend tags given (Frag-F.Element span name attrs children) v old = element_nodes page name attrs (walked children) v old
frag_step page descend tags given (Frag-F.Tag k reads) v old = tag_nodes page descend tags k v (place_in old)
frag_step page descend tags given (Frag-F.Named slot lets inner) v old = []
frag_step page descend tags given (Frag-F.Slot span name attrs own reads) v old = slot_nodes page (given name) attrs (walked own) v old
frag_step page descend tags given (Frag-F.If arms last) v old =
    walked (body_at arms last (arm_by page.source page.program (map (λ a. a.0) arms) v old)) v (parts_in old)
frag_step page descend tags given (Frag-F.Each part item index key body last) v old =
    list_nodes (head part item index key) (walked body) (walked (unwrap_or last [])) v old (items_by page.source page.program part v old)
frag_step page descend tags given (Frag-F.Key part body) v old = walked body v (parts_in old)

-- a whole fragment
abbrev pub drawer : Page → Descent → Tags → Given → Frag → Drawer
drawer page descend tags given = fold-Frag Drawer ArmDrawer (λ f v old. frag_step page descend tags given f v (opened old)) arm_step

-- whole fragments
abbrev pub walker : Page → Descent → Tags → Given → List Frag → Walker
walker page descend tags given frags = walked (map (drawer page descend tags given) frags)

-- what the tag of a view's own instance gives to a slot; its nodes are drawn where the tag is written
abbrev pub slotted : Page → Descent → Tags → Given
slotted page descend [] name = None
slotted page descend (tag ∷ tags) name =
    option_map (λ (c : Content). (c.lets, walker page descend tags (slotted page descend tags) c.frags)) (content_at page.program (tag ∷ tags) name)

-- ---- instances

-- what is drawn on a view, if there is one
abbrev pub viewed : Option View → (View → List Node) → List Node
viewed None draw = []
viewed (Some v) draw = draw v

-- an instance, where so many components may stand in one another
unfoldable pub instance_nodes : Page → ℕ → Descent
instance_nodes page zero tags owner n = []
instance_nodes page (suc room) tags owner n =
    viewed (view_by page.source page.world page.showing owner n)
    (λ v. walker (within page n) (instance_nodes (within page n) room) tags (slotted (within page n) (instance_nodes (within page n) room) tags) (markup_at page n) v (parts_at page n))

-- a fragment of a scene
unfoldable pub frag_drawn : Scene → Frag → Drawer
frag_drawn s f = drawer s.page (instance_nodes s.page s.room) s.tags (slotted s.page (instance_nodes s.page s.room) s.tags) f

-- several of them
unfoldable pub drawn_all : Scene → List Frag → Walker
drawn_all s frags = walker s.page (instance_nodes s.page s.room) s.tags (slotted s.page (instance_nodes s.page s.room) s.tags) frags

-- the child at a place, by its tag's number
abbrev pub child_drawn : Scene → ℕ → View → Option ℕ → List Node
child_drawn s k v place = tag_nodes s.page (instance_nodes s.page s.room) s.tags k v place

-- content that is given to a slot
abbrev pub content_drawn : Scene → Content → List FragAttr → View → Opened → List Node
content_drawn s c attrs v old =
    drawn_all (record s { tags = outer_tags s.tags }) c.frags (content_view c.lets (props_by s.page.source s.page.program attrs v old) v) (parts_in old)

-- ---- the page

-- the nodes of the page: the root has the number 1 and no owner
unfoldable pub page_nodes : Source → Program → World → Showing → List Node
page_nodes source program world showing = instance_nodes (record { source = source; program = program; world = world; showing = showing; inst = 1 }) DEPTH_LIMIT (None ∷ []) None 1

-- the page of the present states
unfoldable pub fresh : Program → World → Showing → List Node
fresh program world showing = page_nodes Evaluated program world showing

-- the page that is recorded; the present states say only which component an instance is of
unfoldable pub drawn : Program → World → Showing → List Node
drawn program world showing = page_nodes Recorded program world showing
