-- The attributes of each element of a page stand by slot.
use Rattle.std.proofs.Common.{◌≡◌, ℕ, zero, suc, List, [], ◌∷◌, map, Option, Some, None, unwrap_or, sym, subst}
use Rattle.std.specs.Prelude.{option_map, slice_get}
use Rattle.std.specs.List.{AllByRecursion}
use Rattle.std.specs.Option.{option_and_then}
use Rattle.sv_attributes.specs.Each.{each}
use Rattle.sv_code.specs.declared.fragments.Frag.{Frag, Frag-F, roll-Frag, map-Frag, fold-roll-Frag, ind-Frag}
use Rattle.sv_code.specs.declared.fragments.FragArm.{FragArm, FragArm-F, roll-FragArm, map-FragArm, fold-FragArm, fold-roll-FragArm}
use Rattle.sv_code.specs.declared.fragments.FragAttr.{FragAttr}
use Rattle.sv_code.specs.declared.fragments.LetName.{LetName}
use Rattle.sv_code.specs.declared.program.Program.{Program}
use Rattle.sv_document.specs.declared.tree.Node.{Node}
use Rattle.sv_follow.specs.Slotted.{AreSlotted}
use Rattle.sv_follow.proofs.Worn.{slotted-nil, slotted-append, slotted-Text, slotted-Element}
use Rattle.sv_fresh.specs.Blocks.{row_parts}
use Rattle.sv_fresh.specs.Fresh.{Drawer, Walker, ArmDrawer, Descent, Given, walked, shown_text, child_nodes, element_of, list_nodes, frag_step, arm_step, drawer, walker, slot_nodes, slotted, viewed, instance_nodes, page_nodes}
use Rattle.sv_fresh.specs.Scene.{Page, Tags, within, markup_at, parts_at}
use Rattle.sv_fresh.specs.Sources.{text_by, arm_by, items_by, props_by, states_by, view_by}
use Rattle.sv_fresh.specs.declared.source.Source.{Source}
use Rattle.sv_plan.specs.Content.{Content, content_at}
use Rattle.sv_plan.specs.Lists.{Head, row_view}
use Rattle.sv_plan.specs.Plan.{body_at, head}
use Rattle.sv_plan.specs.Slots.{content_view}
use Rattle.sv_shapes.specs.Shapes.{Opened, opened, rows_in, parts_in, mark_in, place_in}
use Rattle.sv_shapes.specs.Showing.{Showing, child_at}
use Rattle.sv_shapes.specs.declared.shape.Row.{Row}
use Rattle.sv_shapes.specs.declared.shape.Shape.{Shape}
use Rattle.sv_slotted.proofs.Slots.{attributes-ascend}
use Rattle.sv_states.specs.declared.states.TheConstants.{DEPTH_LIMIT}
use Rattle.sv_value.specs.Value.{Val}
use Rattle.sv_view.specs.Level.{View}
use Rattle.sv_world.specs.declared.world.World.{World}

-- what is drawn stands by slot
abbrev IsDrawn : Drawer → Type 0
IsDrawn draw = (v : View) (old : Option Shape) → AreSlotted (draw v old)

abbrev IsWalked : Walker → Type 0
IsWalked walk = (v : View) (parts : List Shape) → AreSlotted (walk v parts)

abbrev IsLayer : (View → Opened → List Node) → Type 0
IsLayer f = (v : View) (old : Opened) → AreSlotted (f v old)

drawn-from : (draws : List Drawer) → AllByRecursion IsDrawn draws → (v : View) (parts : List Shape) (i : ℕ) → AreSlotted (each (λ draw j. draw v (slice_get parts j)) i draws)
drawn-from [] all v parts i = slotted-nil
drawn-from (draw ∷ draws) all v parts i = slotted-append (draw v (slice_get parts i)) (each (λ d j. d v (slice_get parts j)) (suc i) draws) (all.0 v (slice_get parts i)) (drawn-from draws all.1 v parts (suc i))

walked-slotted : (draws : List Drawer) → AllByRecursion IsDrawn draws → IsWalked (walked draws)
walked-slotted draws all v parts = drawn-from draws all v parts 0

show-slotted : (mark : Option ℕ) (text : Option (List ℕ)) → AreSlotted (shown_text mark text)
show-slotted mark None = slotted-nil
show-slotted mark (Some text) = slotted-Text (unwrap_or mark 0) text

rows-from : (h : Head) (body : Walker) → IsWalked body → (v : View) (rows : List Row) (i : ℕ) (xs : List Val) → AreSlotted (each (λ x j. body (row_view h 0 j x v) (row_parts (slice_get rows j))) i xs)
rows-from h body is v rows i [] = slotted-nil
rows-from h body is v rows i (x ∷ xs) = slotted-append (body (row_view h 0 i x v) (row_parts (slice_get rows i))) (each (λ y j. body (row_view h 0 j y v) (row_parts (slice_get rows j))) (suc i) xs) (is (row_view h 0 i x v) (row_parts (slice_get rows i))) (rows-from h body is v rows (suc i) xs)

list-slotted : (h : Head) (body last : Walker) → IsWalked body → IsWalked last → (v : View) (old : Opened) (xs : List Val) → AreSlotted (list_nodes h body last v old xs)
list-slotted h body last is end v old [] = end v (parts_in old)
list-slotted h body last is end v old (x ∷ xs) = rows-from h body is v (rows_in old) 0 (x ∷ xs)

module _ (page : Page) (descend : Descent) (deep : (tags : Tags) (owner : Option View) (n : ℕ) → AreSlotted (descend tags owner n)) where
  child-slotted : (tags : Tags) (k : ℕ) (v : View) (o : Option ℕ) → AreSlotted (child_nodes descend tags k v o)
  child-slotted tags k v None = slotted-nil
  child-slotted tags k v (Some n) = deep (Some k ∷ tags) (Some v) n

  -- what is given to a slot, if anything is
  abbrev IsFilled : Option (List LetName × Walker) → Type 0
  IsFilled None = Unit {0}
  IsFilled (Some given) = IsWalked given.1

  slot-slotted : (g : Option (List LetName × Walker)) → IsFilled g → (attrs : List FragAttr) (own : Walker) → IsWalked own → IsLayer (λ v old. slot_nodes page g attrs own v old)
  slot-slotted None f attrs own h v old = h v (parts_in old)
  slot-slotted (Some g) f attrs own h v old = f (content_view g.0 (props_by page.source page.program attrs v old) v) (parts_in old)

  module _ (tags : Tags) (given : Given) (filled : (name : List ℕ) → IsFilled (given name)) where
    abbrev draw_step : Frag-F Drawer ArmDrawer → Drawer
    draw_step f v old = frag_step page descend tags given f v (opened old)

    abbrev draw_of : Frag → Drawer
    draw_of = drawer page descend tags given

    abbrev draw_arm : FragArm → ArmDrawer
    draw_arm = fold-FragArm Drawer ArmDrawer draw_step arm_step

    abbrev IsFrag : Frag → Type 0
    IsFrag f = IsDrawn (draw_of f)

    abbrev IsArm : FragArm → Type 0
    IsArm a = AllByRecursion IsDrawn (draw_arm a).1

    abbrev KnownFrag : Type 0
    KnownFrag = (f : Frag) × IsFrag f

    abbrev KnownArm : Type 0
    KnownArm = (a : FragArm) × IsArm a

    abbrev bare_frag : Frag-F KnownFrag KnownArm → Frag-F Frag FragArm
    bare_frag = map-Frag KnownFrag KnownArm Frag FragArm (λ x. x.0) (λ x. x.0)

    abbrev bare_arm : FragArm-F KnownFrag KnownArm → FragArm-F Frag FragArm
    bare_arm = map-FragArm KnownFrag KnownArm Frag FragArm (λ x. x.0) (λ x. x.0)

    abbrev draw_frag : Frag-F Frag FragArm → Frag-F Drawer ArmDrawer
    draw_frag = map-Frag Frag FragArm Drawer ArmDrawer draw_of draw_arm

    abbrev draw_branch : FragArm-F Frag FragArm → ArmDrawer
    draw_branch x = arm_step (map-FragArm Frag FragArm Drawer ArmDrawer draw_of draw_arm x)

    frags-drawn : (fs : List KnownFrag) → AllByRecursion IsDrawn (map draw_of (map (λ x. x.0) fs))
    frags-drawn [] = tt
    frags-drawn (f ∷ fs) = (f.1, frags-drawn fs)

    known-walked : (fs : List KnownFrag) → IsWalked (walked (map draw_of (map (λ x. x.0) fs)))
    known-walked fs = walked-slotted (map draw_of (map (λ x. x.0) fs)) (frags-drawn fs)

    body-drawn : (arms : List KnownArm) (last : Option (List Drawer)) → AllByRecursion IsDrawn (unwrap_or last []) → (i : ℕ) → AllByRecursion IsDrawn (body_at (map draw_arm (map (λ x. x.0) arms)) last i)
    body-drawn [] last h i = h
    body-drawn (a ∷ arms) last h zero = a.1
    body-drawn (a ∷ arms) last h (suc i) = body-drawn arms last h i

    arm-slotted : (arms : List KnownArm) (last : Option (List Drawer)) → AllByRecursion IsDrawn (unwrap_or last []) → (i : View → Opened → ℕ) → IsLayer (λ v old. walked (body_at (map draw_arm (map (λ x. x.0) arms)) last (i v old)) v (parts_in old))
    arm-slotted arms last h i v old = walked-slotted (body_at (map draw_arm (map (λ x. x.0) arms)) last (i v old)) (body-drawn arms last h (i v old)) v (parts_in old)

    -- each kind of fragment
    layers : (y : Frag-F KnownFrag KnownArm) → IsLayer (frag_step page descend tags given (draw_frag (bare_frag y)))
    layers (Frag-F.Text text) v old = slotted-Text (unwrap_or (mark_in old) 0) text
    layers (Frag-F.Show part) v old = show-slotted (mark_in old) (text_by page.source page.program part v old)
    layers (Frag-F.Element span name attrs children) v old =
        slotted-Element (element_of page name attrs v old) (walked (map draw_of (map (λ x. x.0) children)) v (parts_in old)) (attributes-ascend page.program attrs (states_by page.source page.program attrs v old)) (known-walked children v (parts_in old))
    layers (Frag-F.Tag tag reads) v old = child-slotted tags tag v (option_and_then (child_at page.showing) (place_in old))
    layers (Frag-F.Named name lets node) v old = slotted-nil
    layers (Frag-F.Slot span name attrs own reads) v old = slot-slotted (given name) (filled name) attrs (walked (map draw_of (map (λ x. x.0) own))) (known-walked own) v old
    layers (Frag-F.If arms None) v old = arm-slotted arms None tt (λ u o. arm_by page.source page.program (map (λ a. a.0) (map draw_arm (map (λ x. x.0) arms))) u o) v old
    layers (Frag-F.If arms (Some last)) v old =
        arm-slotted arms (Some (map draw_of (map (λ x. x.0) last))) (frags-drawn last) (λ u o. arm_by page.source page.program (map (λ a. a.0) (map draw_arm (map (λ x. x.0) arms))) u o) v old
    layers (Frag-F.Each list item index key body None) v old =
        list-slotted (head list item index key) (walked (map draw_of (map (λ x. x.0) body))) (walked []) (known-walked body) (walked-slotted [] tt) v old (items_by page.source page.program list v old)
    layers (Frag-F.Each list item index key body (Some none)) v old =
        list-slotted (head list item index key) (walked (map draw_of (map (λ x. x.0) body))) (walked (map draw_of (map (λ x. x.0) none))) (known-walked body) (known-walked none) v old (items_by page.source page.program list v old)
    layers (Frag-F.Key part body) v old = known-walked body v (parts_in old)

    frag-whole : (x : Frag-F Frag FragArm) (y : Frag-F KnownFrag KnownArm) → bare_frag y ≡ x → IsFrag (roll-Frag x)
    frag-whole x y e = subst IsDrawn (sym (fold-roll-Frag Drawer ArmDrawer draw_step arm_step x)) (subst (λ z. IsDrawn (draw_step (draw_frag z))) e (λ v o. layers y v (opened o)))

    arm-whole : (x : FragArm-F Frag FragArm) (y : FragArm-F KnownFrag KnownArm) → bare_arm y ≡ x → IsArm (roll-FragArm x)
    arm-whole x y e =
        subst (λ (a : ArmDrawer). AllByRecursion IsDrawn a.1) (sym (fold-roll-FragArm Drawer ArmDrawer draw_step arm_step x)) (subst (λ z. AllByRecursion IsDrawn (draw_branch z).1) e (frags-drawn y.body))

    all-drawn : (fs : List Frag) → AllByRecursion IsDrawn (map draw_of fs)
    all-drawn [] = tt
    all-drawn (f ∷ fs) = (ind-Frag IsFrag IsArm frag-whole arm-whole f, all-drawn fs)

    walker-slotted : (fs : List Frag) → IsWalked (walker page descend tags given fs)
    walker-slotted fs = walked-slotted (map draw_of fs) (all-drawn fs)

  -- what tags give to slots
  filled-slotted : (tags : Tags) (name : List ℕ) → IsFilled (slotted page descend tags name)
  filled-slotted [] name = tt
  filled-slotted (tag ∷ tags) name = by (filled-slotted tags) (content_at page.program (tag ∷ tags) name)
    where
      by : ((other : List ℕ) → IsFilled (slotted page descend tags other)) → (o : Option Content) → IsFilled (option_map (λ (c : Content). (c.lets, walker page descend tags (slotted page descend tags) c.frags)) o)
      by outer None = tt
      by outer (Some c) = walker-slotted tags (slotted page descend tags) outer c.frags

  markup-slotted : (tags : Tags) (fs : List Frag) → IsWalked (walker page descend tags (slotted page descend tags) fs)
  markup-slotted tags fs = walker-slotted tags (slotted page descend tags) (filled-slotted tags) fs

-- ---- instances

viewed-slotted : (o : Option View) (draw : View → List Node) → ((v : View) → AreSlotted (draw v)) → AreSlotted (viewed o draw)
viewed-slotted None draw is = slotted-nil
viewed-slotted (Some v) draw is = is v

instance-slotted : (page : Page) (room : ℕ) (tags : Tags) (owner : Option View) (n : ℕ) → AreSlotted (instance_nodes page room tags owner n)
unfolding instance_nodes
instance-slotted page zero tags owner n = slotted-nil
instance-slotted page (suc room) tags owner n =
    viewed-slotted (view_by page.source page.world page.showing owner n)
    (λ v. walker (within page n) (instance_nodes (within page n) room) tags (slotted (within page n) (instance_nodes (within page n) room) tags) (markup_at page n) v (parts_at page n))
    (λ v. markup-slotted (within page n) (instance_nodes (within page n) room) (instance-slotted (within page n) room) tags (markup_at page n) v (parts_at page n))

pub page-slotted : (source : Source) (p : Program) (w : World) (s : Showing) → AreSlotted (page_nodes source p w s)
unfolding page_nodes
page-slotted source p w s = instance-slotted (record { source = source; program = p; world = w; showing = s; inst = 1 }) DEPTH_LIMIT (None ∷ []) None 1
