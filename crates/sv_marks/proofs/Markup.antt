-- What a walk through whole markup draws beside shapes has a mark no more often than the shapes weigh.
use Rattle.std.proofs.Common.{◌≡◌, ◌≢◌, ℕ, zero, suc, ◌≤◌, Bool, List, [], ◌∷◌, map, Option, Some, None, unwrap_or, refl, sym, arith, subst}
use Rattle.std.specs.Prelude.{option_map}
use Rattle.sv_code.specs.Names.{Each}
use Rattle.sv_code.specs.declared.fragments.Frag.{Frag, Frag-F, roll-Frag, map-Frag, fold-roll-Frag, ind-Frag}
use Rattle.sv_code.specs.declared.fragments.FragArm.{FragArm, FragArm-F, roll-FragArm, map-FragArm, fold-FragArm, fold-roll-FragArm}
use Rattle.sv_code.specs.declared.fragments.FragAttr.{FragAttr}
use Rattle.sv_code.specs.declared.fragments.LetName.{LetName}
use Rattle.sv_code.specs.declared.program.Program.{Program}
use Rattle.sv_fresh.specs.Fresh.{Drawer, Walker, ArmDrawer, Descent, Given, walked, child_nodes, tag_nodes, element_of, frag_step, arm_step, drawer, walker, slot_nodes, slotted}
use Rattle.sv_fresh.specs.Scene.{Page, Tags}
use Rattle.sv_fresh.specs.Sources.{props_by}
use Rattle.sv_fresh.specs.declared.source.Source.TheVariants.{Recorded}
use Rattle.sv_marks.proofs.Forms.{held, IsDrawn, IsWalked, IsLayer, walked_held, literal_held, show_held, element_held, content_held, list_held}
use Rattle.sv_marks.proofs.Weights.{opened_weight}
use Rattle.sv_marks.specs.Lines.{one_of, stands}
use Rattle.sv_plan.specs.Content.{Content, content_at}
use Rattle.sv_plan.specs.Plan.{body_at, head}
use Rattle.sv_plan.specs.Slots.{content_view}
use Rattle.sv_shapes.specs.Shapes.{Opened, opened, arm_in, place_in, parts_in}
use Rattle.sv_shapes.specs.Showing.{Showing, child_at}
use Rattle.sv_shapes.specs.declared.shape.Shape.{Shape-F}
use Rattle.sv_tokens.specs.Counting.{one}
use Rattle.sv_view.specs.Level.{View}
use Rattle.sv_world.specs.declared.world.World.{World}

-- what is recorded, in the shape of an instance
abbrev pub recorded : Program → World → Showing → ℕ → Page
recorded p w s n = record { source = Recorded; program = p; world = w; showing = s; inst = n }

module _ (k : ℕ) (some : k ≢ 0) (p : Program) (w : World) (s : Showing) (inst : ℕ) (descend : Descent) (among : ℕ → Bool)
    (deep : (tags : Tags) (owner : Option View) (n : ℕ) → held k some (stands s among) (descend tags owner n) ≤ one (among n)) where
  abbrev at : ℕ → Bool
  at = stands s among

  abbrev page : Page
  page = recorded p w s inst

  -- ---- component tags

  -- the child at a place gives what is told of it
  child_held : (tags : Tags) (t : ℕ) (v : View) (o : Option ℕ) → held k some at (child_nodes descend tags t v o) ≤ one (one_of among o)
  child_held tags t v None = omega arith
  child_held tags t v (Some n) = deep (Some t ∷ tags) (Some v) n

  tag_held : (tags : Tags) (t : ℕ) → IsLayer k some at (λ v old. tag_nodes page descend tags t v (place_in old))
  tag_held tags t v None = omega arith
  tag_held tags t v (Some (Shape-F.Literal mark)) = omega arith
  tag_held tags t v (Some (Shape-F.Text mark text)) = omega arith
  tag_held tags t v (Some (Shape-F.Element mark typed states parts)) = omega arith
  tag_held tags t v (Some (Shape-F.Tag place texts)) = child_held tags t v (child_at s place)
  tag_held tags t v (Some Shape-F.Nothing) = omega arith
  tag_held tags t v (Some (Shape-F.Slot props parts)) = omega arith
  tag_held tags t v (Some (Shape-F.If arm parts)) = omega arith
  tag_held tags t v (Some (Shape-F.Each number rows none)) = omega arith
  tag_held tags t v (Some (Shape-F.Key state parts)) = omega arith

  -- ---- fragments

  -- what is given to a slot, if anything is, is no heavier than its shapes
  abbrev IsFilled : Option (List LetName × Walker) → Type 0
  IsFilled None = Unit {0}
  IsFilled (Some given) = IsWalked k some at given.1

  module _ (tags : Tags) (given : Given) (filled : (name : List ℕ) → IsFilled (given name)) where
    abbrev draw_step : Frag-F Drawer ArmDrawer → Drawer
    draw_step f v old = frag_step page descend tags given f v (opened old)

    abbrev draw_of : Frag → Drawer
    draw_of = drawer page descend tags given

    abbrev draw_arm : FragArm → ArmDrawer
    draw_arm = fold-FragArm Drawer ArmDrawer draw_step arm_step

    abbrev IsFrag : Frag → Type 0
    IsFrag f = IsDrawn k some at (draw_of f)

    abbrev IsArm : FragArm → Type 0
    IsArm a = Each (IsDrawn k some at) (draw_arm a).1

    abbrev KnownFrag : Type 0
    KnownFrag = (f : Frag) × IsFrag f

    abbrev KnownArm : Type 0
    KnownArm = (a : FragArm) × IsArm a

    abbrev bare_frag : Frag-F KnownFrag KnownArm → Frag-F Frag FragArm
    bare_frag = map-Frag KnownFrag KnownArm Frag FragArm (λ x. x.0) (λ x. x.0)

    abbrev bare_arm : FragArm-F KnownFrag KnownArm → FragArm-F Frag FragArm
    bare_arm = map-FragArm KnownFrag KnownArm Frag FragArm (λ x. x.0) (λ x. x.0)

    abbrev draw_frag : Frag-F Frag FragArm → Frag-F Drawer ArmDrawer
    draw_frag = map-Frag Frag FragArm Drawer ArmDrawer draw_of draw_arm

    abbrev draw_branch : FragArm-F Frag FragArm → ArmDrawer
    draw_branch x = arm_step (map-FragArm Frag FragArm Drawer ArmDrawer draw_of draw_arm x)

    -- fragments of which it is known, beside one another
    frags_drawn : (fs : List KnownFrag) → Each (IsDrawn k some at) (map draw_of (map (λ x. x.0) fs))
    frags_drawn [] = tt
    frags_drawn (f ∷ fs) = (f.1, frags_drawn fs)

    known_held : (fs : List KnownFrag) → IsWalked k some at (walked (map draw_of (map (λ x. x.0) fs)))
    known_held fs = walked_held k some at (map draw_of (map (λ x. x.0) fs)) (frags_drawn fs)

    -- the branch with a number, or the last one
    body_drawn : (arms : List KnownArm) (last : Option (List Drawer)) → Each (IsDrawn k some at) (unwrap_or last []) → (i : ℕ) → Each (IsDrawn k some at) (body_at (map draw_arm (map (λ x. x.0) arms)) last i)
    body_drawn [] last h i = h
    body_drawn (a ∷ arms) last h zero = a.1
    body_drawn (a ∷ arms) last h (suc i) = body_drawn arms last h i

    -- a slot shows what is given to it, or its own content
    slot_held : (g : Option (List LetName × Walker)) → IsFilled g → (attrs : List FragAttr) (own : Walker) → IsWalked k some at own → IsLayer k some at (λ v old. slot_nodes page g attrs own v old)
    slot_held None f attrs own h v old = content_held k some at own h v old
    slot_held (Some g) f attrs own h v old = content_held k some at g.1 f (content_view g.0 (props_by Recorded p attrs v old) v) old

    arm_held : (arms : List KnownArm) (last : Option (List Drawer)) → Each (IsDrawn k some at) (unwrap_or last []) → (i : Opened → ℕ) →
        IsLayer k some at (λ v old. walked (body_at (map draw_arm (map (λ x. x.0) arms)) last (i old)) v (parts_in old))
    arm_held arms last h i v old =
        content_held k some at (walked (body_at (map draw_arm (map (λ x. x.0) arms)) last (i old))) (walked_held k some at (body_at (map draw_arm (map (λ x. x.0) arms)) last (i old)) (body_drawn arms last h (i old))) v old

    -- each kind of fragment
    layers : (y : Frag-F KnownFrag KnownArm) → IsLayer k some at (frag_step page descend tags given (draw_frag (bare_frag y)))
    layers (Frag-F.Text text) = literal_held k some at text
    layers (Frag-F.Show part) = show_held k some at
    layers (Frag-F.Element span name attrs children) = element_held k some at (λ v old. element_of page name attrs v old) (λ v old. refl) (walked (map draw_of (map (λ x. x.0) children))) (known_held children)
    layers (Frag-F.Tag tag reads) = tag_held tags tag
    layers (Frag-F.Named name lets node) = λ v old. omega arith
    layers (Frag-F.Slot span name attrs own reads) = slot_held (given name) (filled name) attrs (walked (map draw_of (map (λ x. x.0) own))) (known_held own)
    layers (Frag-F.If arms None) = arm_held arms None tt (λ old. unwrap_or (arm_in old) 0)
    layers (Frag-F.If arms (Some last)) = arm_held arms (Some (map draw_of (map (λ x. x.0) last))) (frags_drawn last) (λ old. unwrap_or (arm_in old) 0)
    layers (Frag-F.Each list item index key body None) = list_held k some at (head list item index key) (walked (map draw_of (map (λ x. x.0) body))) (walked []) (known_held body) (walked_held k some at [] tt)
    layers (Frag-F.Each list item index key body (Some none)) = list_held k some at (head list item index key) (walked (map draw_of (map (λ x. x.0) body))) (walked (map draw_of (map (λ x. x.0) none))) (known_held body) (known_held none)
    layers (Frag-F.Key part body) = content_held k some at (walked (map draw_of (map (λ x. x.0) body))) (known_held body)

    frag_whole : (x : Frag-F Frag FragArm) (y : Frag-F KnownFrag KnownArm) → bare_frag y ≡ x → IsFrag (roll-Frag x)
    frag_whole x y e =
        subst (IsDrawn k some at) (sym (fold-roll-Frag Drawer ArmDrawer draw_step arm_step x))
        (subst (λ z. IsDrawn k some at (draw_step (draw_frag z))) e (λ v o. let a = layers y v (opened o) in let b = opened_weight k at o in omega (arith, a, b)))

    arm_whole : (x : FragArm-F Frag FragArm) (y : FragArm-F KnownFrag KnownArm) → bare_arm y ≡ x → IsArm (roll-FragArm x)
    arm_whole x y e =
        subst (λ (a : ArmDrawer). Each (IsDrawn k some at) a.1) (sym (fold-roll-FragArm Drawer ArmDrawer draw_step arm_step x))
        (subst (λ z. Each (IsDrawn k some at) (draw_branch z).1) e (frags_drawn y.body))

    all_drawn : (fs : List Frag) → Each (IsDrawn k some at) (map draw_of fs)
    all_drawn [] = tt
    all_drawn (f ∷ fs) = (ind-Frag IsFrag IsArm frag_whole arm_whole f, all_drawn fs)

    walker_held : (fs : List Frag) → IsWalked k some at (walker page descend tags given fs)
    walker_held fs = walked_held k some at (map draw_of fs) (all_drawn fs)

  -- ---- what tags give to slots

  slotted_held : (tags : Tags) (name : List ℕ) → IsFilled (slotted page descend tags name)
  slotted_held [] name = tt
  slotted_held (tag ∷ tags) name = by (slotted_held tags) (content_at p (tag ∷ tags) name)
    where
      by : ((other : List ℕ) → IsFilled (slotted page descend tags other)) → (o : Option Content) → IsFilled (option_map (λ (c : Content). (c.lets, walker page descend tags (slotted page descend tags) c.frags)) o)
      by outer None = tt
      by outer (Some c) = walker_held tags (slotted page descend tags) outer c.frags

  -- whole markup, with what its tags give
  pub markup_held : (tags : Tags) (fs : List Frag) → IsWalked k some at (walker page descend tags (slotted page descend tags) fs)
  markup_held tags fs = walker_held tags (slotted page descend tags) (slotted_held tags) fs
