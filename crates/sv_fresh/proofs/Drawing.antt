-- Nodes by the kind of a fragment.
use Rattle.std.proofs.Common.{◌≡◌, ℕ, zero, suc, ◌≤◌, List, [], ◌∷◌, ◌++◌, map, refl, ap, Option, Some, None, Result, OnOk, ◌-◌, arith}
use Rattle.std.specs.Option.{SomeIff}
use Rattle.std.specs.Prelude.{unwrap_or, option_map, slice_get}
use Rattle.sv_attributes.specs.Each.{each}
use Rattle.sv_base.specs.declared.memory.NoMemory.{NoMemory}
use Rattle.sv_base.specs.declared.names.Name.{Name}
use Rattle.sv_base.specs.declared.span.Span.{Span}
use Rattle.sv_code.specs.declared.fragments.Frag.{Frag, out-Frag, fold_out-Frag, map-Frag}
use Rattle.sv_code.specs.declared.fragments.Frag.TheVariants as frag
use Rattle.sv_code.specs.declared.fragments.FragArm.{FragArm, fold-FragArm, fold_out-FragArm}
use Rattle.sv_code.specs.declared.fragments.FragAttr.{FragAttr}
use Rattle.sv_code.specs.declared.fragments.LetName.{LetName}
use Rattle.sv_code.specs.declared.parts.Part.{Part}
use Rattle.sv_code.specs.declared.parts.Reading.{Reading}
use Rattle.sv_document.specs.declared.tree.Node.{Node}
use Rattle.sv_document.specs.declared.tree.Node.TheVariants as node
use Rattle.sv_fresh.specs.Sources.{text_by, arm_by, items_by, props_by, view_by}
use Rattle.sv_fresh.specs.Fresh.{Drawer, Descent, walker, ArmDrawer, Walker, walked, frag_step, arm_step, slotted, text_node, shown_text, element_of, child_drawn, content_drawn, list_nodes, rows_nodes, instance_nodes, frag_drawn, drawn_all}
use Rattle.sv_fresh.specs.Scene.{Page, Scene, Tags, within, markup_at, parts_at}
use Rattle.sv_plan.specs.Content.{Content, content_at, outer_tags}
use Rattle.sv_plan.specs.Blocks.{tests}
use Rattle.sv_plan.specs.Lists.{Head}
use Rattle.sv_plan.specs.Plan.{body_at, body_in, head}
use Rattle.sv_plan.specs.Slots.{content_view}
use Rattle.sv_shapes.specs.Shapes.{Opened, opened, mark_in, parts_in, place_in, rows_in}
use Rattle.sv_shapes.specs.declared.shape.Shape.{Shape}
use Rattle.sv_value.specs.Value.{Val}
use Rattle.sv_view.specs.Level.{View}

unfoldable arm_drawn : Scene → FragArm → ArmDrawer
arm_drawn s = fold-FragArm Drawer ArmDrawer (λ f v old. frag_step s.page (instance_nodes s.page s.room) s.tags (slotted s.page (instance_nodes s.page s.room) s.tags) f v (opened old)) arm_step

-- one layer of a fragment
drawn-out : (s : Scene) (f : Frag) (v : View) (old : Option Shape) →
    frag_drawn s f v old ≡ frag_step s.page (instance_nodes s.page s.room) s.tags (slotted s.page (instance_nodes s.page s.room) s.tags) (map-Frag _ _ _ _ (frag_drawn s) (arm_drawn s) (out-Frag f)) v (opened old)
unfolding frag_drawn arm_drawn
drawn-out s f v old =
    ap (λ (g : Drawer). g v old)
    (fold_out-Frag Drawer ArmDrawer (λ f v old. frag_step s.page (instance_nodes s.page s.room) s.tags (slotted s.page (instance_nodes s.page s.room) s.tags) f v (opened old)) arm_step f)

arm-out : (s : Scene) (a : FragArm) → arm_drawn s a ≡ (a.test, map (frag_drawn s) a.body)
unfolding frag_drawn arm_drawn
arm-out s a =
    fold_out-FragArm Drawer ArmDrawer (λ f v old. frag_step s.page (instance_nodes s.page s.room) s.tags (slotted s.page (instance_nodes s.page s.room) s.tags) f v (opened old)) arm_step a

-- fragments are drawn one by one
pub drawn_all-is : (s : Scene) (fs : List Frag) → drawn_all s fs ≡ walked (map (frag_drawn s) fs)
unfolding frag_drawn drawn_all
drawn_all-is s fs = refl

-- ---- what is given to a slot

slotted-none : (page : Page) (descend : Descent) (tags : Tags) (name : List ℕ) → content_at page.program tags name ≡ None → slotted page descend tags name ≡ None
slotted-none page descend [] name e = refl
slotted-none page descend (tag ∷ tags) name e = rw e refl

slotted-some : (page : Page) (descend : Descent) (tags : Tags) (name : List ℕ) (c : Content) → content_at page.program tags name ≡ Some c →
    slotted page descend tags name ≡ Some (c.lets, walker page descend (outer_tags tags) (slotted page descend (outer_tags tags)) c.frags)
slotted-some page descend [] name c e = absurd (cc)
slotted-some page descend (tag ∷ tags) name c e = rw e refl

given-drawn : (s : Scene) (c : Content) (attrs : List FragAttr) (v : View) (old : Opened) →
    walker s.page (instance_nodes s.page s.room) (outer_tags s.tags) (slotted s.page (instance_nodes s.page s.room) (outer_tags s.tags)) c.frags
    (content_view c.lets (props_by s.page.source s.page.program attrs v old) v) (parts_in old) ≡ content_drawn s c attrs v old
unfolding drawn_all
given-drawn s c attrs v old = refl

-- ---- branches

-- the conditions stay
tests-are : (s : Scene) (arms : List FragArm) → map (λ a. a.0) (map (arm_drawn s) arms) ≡ tests arms
tests-are s [] = refl
tests-are s (a ∷ arms) = rw (arm-out s a, tests-are s arms) refl

-- the content of a branch, drawn, is that of the branch that is drawn
body-is : (s : Scene) (arms : List FragArm) (last : Option (List Frag)) (i : ℕ) →
    body_at (map (arm_drawn s) arms) (option_map (map (frag_drawn s)) last) i ≡ map (frag_drawn s) (body_in arms (unwrap_or last []) i)
body-is s [] None i = refl
body-is s [] (Some fs) i = refl
body-is s (a ∷ arms) last zero = rw (arm-out s a) refl
body-is s (a ∷ arms) last (suc i) = body-is s arms last i

branch-is : (s : Scene) (arms : List FragArm) (last : Option (List Frag)) (v : View) (old : Opened) →
    walked (body_at (map (arm_drawn s) arms) (option_map (map (frag_drawn s)) last) (arm_by s.page.source s.page.program (map (λ a. a.0) (map (arm_drawn s) arms)) v old)) v (parts_in old)
    ≡ drawn_all s (body_in arms (unwrap_or last []) (arm_by s.page.source s.page.program (tests arms) v old)) v (parts_in old)
branch-is s arms last v old =
    rw (tests-are s arms, body-is s arms last (arm_by s.page.source s.page.program (tests arms) v old), drawn_all-is) refl

-- ---- each kind

module _ (s : Scene) (f : Frag) (v : View) (old : Option Shape) where
  pub in-Text : (t : List ℕ) → f ≡ frag.Text t → frag_drawn s f v old ≡ text_node (mark_in (opened old)) t ∷ []
  in-Text t is = rw (is, drawn-out, frag.outs-Text) refl

  pub in-Show : (part : Part) → f ≡ frag.Show part → frag_drawn s f v old ≡ shown_text (mark_in (opened old)) (text_by s.page.source s.page.program part v (opened old))
  in-Show part is = rw (is, drawn-out, frag.outs-Show) refl

  pub in-Element : (span : Span) (name : List ℕ) (attrs : List FragAttr) (kids : List Frag) → f ≡ frag.Element span name attrs kids →
      frag_drawn s f v old ≡ node.Element (element_of s.page name attrs v (opened old)) (drawn_all s kids v (parts_in (opened old))) ∷ []
  in-Element span name attrs kids is = rw (is, drawn-out, frag.outs-Element, drawn_all-is) refl

  pub in-Tag : (k : ℕ) (reads : Reading) → f ≡ frag.Tag k reads → frag_drawn s f v old ≡ child_drawn s k v (place_in (opened old))
  in-Tag k reads is = rw (is, drawn-out, frag.outs-Tag) refl

  pub in-Named : (slot : List ℕ) (lets : List LetName) (inner : Frag) → f ≡ frag.Named slot lets inner → frag_drawn s f v old ≡ []
  in-Named slot lets inner is = rw (is, drawn-out, frag.outs-Named) refl

  pub in-Key : (part : Part) (body : List Frag) → f ≡ frag.Key part body → frag_drawn s f v old ≡ drawn_all s body v (parts_in (opened old))
  in-Key part body is = rw (is, drawn-out, frag.outs-Key, drawn_all-is) refl

  pub in-If : (arms : List FragArm) (last : Option (List Frag)) → f ≡ frag.If arms last →
      frag_drawn s f v old
      ≡ drawn_all s (body_in arms (unwrap_or last []) (arm_by s.page.source s.page.program (tests arms) v (opened old))) v (parts_in (opened old))
  in-If arms None is = rw (is, drawn-out, frag.outs-If) (branch-is s arms None v (opened old))
  in-If arms (Some fs) is = rw (is, drawn-out, frag.outs-If) (branch-is s arms (Some fs) v (opened old))

  pub in-Each : (part : Part) (item : Name) (index : Option Name) (key : Option Part) (body : List Frag) (last : Option (List Frag)) → f ≡ frag.Each part item index key body last →
      frag_drawn s f v old
      ≡ list_nodes (head part item index key) (drawn_all s body) (drawn_all s (unwrap_or last [])) v (opened old) (items_by s.page.source s.page.program part v (opened old))
  in-Each part item index key body None is = rw (is, drawn-out, frag.outs-Each, drawn_all-is s body, drawn_all-is s []) refl
  in-Each part item index key body (Some fs) is = rw (is, drawn-out, frag.outs-Each, drawn_all-is s body, drawn_all-is s fs) refl

  module _ (span : Span) (name : List ℕ) (attrs : List FragAttr) (own : List Frag) (reads : Reading) (is : f ≡ frag.Slot span name attrs own reads) where
    pub in-own : content_at s.page.program s.tags name ≡ None → frag_drawn s f v old ≡ drawn_all s own v (parts_in (opened old))
    in-own e = rw (is, drawn-out, frag.outs-Slot, drawn_all-is, slotted-none s.page (instance_nodes s.page s.room) s.tags name e) refl

    pub in-given : (c : Content) → content_at s.page.program s.tags name ≡ Some c → frag_drawn s f v old ≡ content_drawn s c attrs v (opened old)
    in-given c e = rw (is, drawn-out, frag.outs-Slot, slotted-some s.page (instance_nodes s.page s.room) s.tags name c e) (given-drawn s c attrs v (opened old))

-- ---- instances

pub at-bottom : (page : Page) (room : ℕ) (tags : Tags) (owner : Option View) (n : ℕ) → room ≡ 0 → instance_nodes page room tags owner n ≡ []
unfolding instance_nodes
at-bottom page room tags owner n e = rw e refl

pub not-live : (page : Page) (room : ℕ) (tags : Tags) (owner : Option View) (n : ℕ) → view_by page.source page.world page.showing owner n ≡ None → instance_nodes page room tags owner n ≡ []
unfolding instance_nodes
not-live page zero tags owner n e = refl
not-live page (suc room) tags owner n e = rw e refl

pub instance-drawn : (page : Page) (room left : ℕ) (tags : Tags) (owner : Option View) (n : ℕ) (v : View) → room ≡ suc left → view_by page.source page.world page.showing owner n ≡ Some v →
    instance_nodes page room tags owner n ≡ drawn_all (record { page = within page n; room = left; tags = tags }) (markup_at page n) v (parts_at page n)
unfolding instance_nodes drawn_all
instance-drawn page room left tags owner n v e is = rw (e, is) refl

-- ---- what was added

pub draws : (r : Result (Unit {0}) NoMemory) (now before some own : List Node) → OnOk r (now ≡ before ++ some) → own ≡ some → OnOk r (now ≡ before ++ own)
draws r now before some own h e = rw e h

-- ---- lists

each-map : {A B C : Type 0} (step : B → ℕ → List C) (f : A → B) (i : ℕ) (xs : List A) → each step i (map f xs) ≡ each (λ x k. step (f x) k) i xs
each-map step f i [] = refl
each-map step f i (x ∷ xs) = ap (λ ys. step (f x) i ++ ys) (each-map step f (suc i) xs)

pub drawn-each : (s : Scene) (fs : List Frag) (v : View) (shapes : List Shape) → drawn_all s fs v shapes ≡ each (λ f i. frag_drawn s f v (slice_get shapes i)) 0 fs
drawn-each s fs v shapes = rw (drawn_all-is s fs) (each-map (λ (d : Drawer) i. d v (slice_get shapes i)) (frag_drawn s) 0 fs)

-- ---- the room below an instance

pub no-room : (r : Option ℕ) (room : ℕ) → SomeIff r (1 ≤ room) (room - 1) → r ≡ None → room ≡ 0
no-room None room h e = omega arith
no-room (Some left) room h e = absurd (cc)

pub room-left : (r : Option ℕ) (room left : ℕ) → SomeIff r (1 ≤ room) (room - 1) → r ≡ Some left → room ≡ suc left
room-left None room left h e = absurd (cc)
room-left (Some other) room left h e = let q : other ≡ left = cc in omega arith
