-- Views that differ in their row locals and slot props alone, and those of owners.
use Rattle.std.proofs.Common.{◌≡◌, ℕ, zero, suc, List, [], ◌∷◌, Option, Some, None, refl, sym, ap, ◌∙◌, subst}
use Rattle.sv_base.specs.declared.names.Name.{Name}
use Rattle.sv_code.proofs.Each.{each_mono}
use Rattle.sv_code.specs.Names.{Each}
use Rattle.sv_code.specs.declared.fragments.Frag.{Frag}
use Rattle.sv_code.specs.declared.fragments.LetName.{LetName}
use Rattle.sv_code.specs.declared.program.Program.{Program}
use Rattle.sv_plan.specs.Lists.{Head, index_value, with_index, row_view}
use Rattle.sv_plan.specs.Slots.{prop_named, let_by, with_lets, outer, content_view}
use Rattle.sv_shapes.specs.declared.shape.SlotProp.{SlotProp}
use Rattle.sv_stands.specs.Holds.{Hold}
use Rattle.sv_stands.specs.Standing.{HasSlot, OwnersFor, content_in, outward, StandsOn}
use Rattle.sv_value.specs.Value.{Val}
use Rattle.sv_view.specs.Level.{Level, View}
use Rattle.sv_view.specs.Local.{Local}
use Rattle.sv_view.specs.View.{with_local, with_locals}

-- a view is another one with other locals
pub record Over (v w : View) : Type 0 where
  pub locals : List Local
  pub is : w ≡ with_locals v locals

over_same : (v : View) → Over v v
over_same v = record { locals = v.own.locals; is = refl }

over_on : (v w x : View) → Over v w → Over w x → Over v x
over_on v w x h k = record { locals = k.locals; is = k.is ∙ ap (λ z. with_locals z k.locals) h.is }

over_local : (v : View) (name : ℕ) (value : Val) (number : ℕ) → Over v (with_local v name value number)
over_local v name value number = record { locals = _; is = refl }

index_over : (name : Option Name) (n i : ℕ) (v : View) → Over v (with_index name n i v)
index_over None n i v = over_same v
index_over (Some name) n i v = over_local v name.0 (index_value i) n

pub row_over : (h : Head) (n i : ℕ) (item : Val) (v : View) → Over v (row_view h n i item v)
row_over h n i item v = over_on v (with_local v h.item.0 item n) (row_view h n i item v) (over_local v h.item.0 item n) (index_over h.index n i (with_local v h.item.0 item n))

let_over : (name : LetName) (prop : Option SlotProp) (v : View) → Over v (let_by name prop v)
let_over name None v = record { locals = _; is = refl }
let_over name (Some prop) v = record { locals = _; is = refl }

pub lets_over : (lets : List LetName) (props : List SlotProp) (v : View) → Over v (with_lets lets props v)
lets_over [] props v = over_same v
lets_over (name ∷ lets) props v =
    over_on v (let_by name (prop_named name.prop props) v) (with_lets (name ∷ lets) props v) (let_over name (prop_named name.prop props) v) (lets_over lets props (let_by name (prop_named name.prop props) v))

-- ---- what stands on such a view

outward_over : (depth : ℕ) (own : Level) (owners : List Level) (modules : List (List (Option Val))) (locals more : List Local) →
    with_locals (outward depth (with_locals (record { own = own; owners = owners; modules = modules }) locals)) more ≡ with_locals (outward depth (record { own = own; owners = owners; modules = modules })) more
outward_over zero own owners modules locals more = refl
outward_over (suc depth) own [] modules locals more = outward_over depth own [] modules locals more
outward_over (suc depth) own (l ∷ owners) modules locals more = refl

pub owners_over : (p : Program) (frags : List Frag) (tags : List (Option ℕ)) (v w : View) → Over v w → OwnersFor p frags tags v.owners → OwnersFor p frags tags w.owners
owners_over p frags tags v w o h = subst (λ (z : View). OwnersFor p frags tags z.owners) (sym o.is) h

stands_locals : (p : Program) (frags : List Frag) (tags : List (Option ℕ)) (v : View) (locals : List Local) (h : Hold) → StandsOn p frags tags (with_locals v locals) h → StandsOn p frags tags v h
stands_locals p frags tags v locals h k = record {
  depth = k.depth;
  tags_are = k.tags_are;
  insts_are = k.insts_are;
  view_is = k.view_is ∙ outward_over k.depth v.own v.owners v.modules locals h.view.own.locals;
  within = k.within;
  owners = k.owners;
}

pub stand_over : (p : Program) (frags : List Frag) (tags : List (Option ℕ)) (v w : View) → Over v w → (hs : List Hold) → Each (StandsOn p frags tags w) hs → Each (StandsOn p frags tags v) hs
stand_over p frags tags v w o hs k = each_mono (StandsOn p frags tags (with_locals v o.locals)) (StandsOn p frags tags v) (λ h q. stands_locals p frags tags v o.locals h q) hs (subst (λ z. Each (StandsOn p frags tags z) hs) o.is k)

-- ---- what stands on the view of an owner

module _ (p : Program) (frags : List Frag) (tag : ℕ) (tags : List (Option ℕ)) (own l : Level) (owners : List Level) (modules : List (List (Option Val))) where
  abbrev inner : View
  inner = record { own = own; owners = l ∷ owners; modules = modules }

  stands_outer : (h : Hold) → StandsOn p (content_in p tag) tags (outer inner) h → StandsOn p frags (Some tag ∷ tags) inner h
  stands_outer h k = record { depth = suc k.depth; tags_are = k.tags_are; insts_are = k.insts_are; view_is = k.view_is; within = k.within; owners = k.owners }

  pub stand_outer : (hs : List Hold) → Each (StandsOn p (content_in p tag) tags (outer inner)) hs → Each (StandsOn p frags (Some tag ∷ tags) inner) hs
  stand_outer hs k = each_mono (StandsOn p (content_in p tag) tags (outer inner)) (StandsOn p frags (Some tag ∷ tags) inner) (λ h q. stands_outer h q) hs k

-- content stands on the owner's view, where a slot shows it
pub content_stands : (p : Program) (frags : List Frag) (k : ℕ) (tags : List (Option ℕ)) (lets : List LetName) (props : List SlotProp) (own : Level) (owners : List Level) (modules : List (List (Option Val))) (hold : View → List Hold) →
    ((w : View) → OwnersFor p (content_in p k) tags w.owners → Each (StandsOn p (content_in p k) tags w) (hold w)) → HasSlot p frags → OwnersFor p frags (Some k ∷ tags) owners →
    Each (StandsOn p frags (Some k ∷ tags) (record { own = own; owners = owners; modules = modules })) (hold (content_view lets props (record { own = own; owners = owners; modules = modules })))
unfolding content_view
content_stands p frags k tags lets props own [] modules hold stand s h = elim (h s) [ ]
content_stands p frags k tags lets props own (l ∷ owners) modules hold stand s h =
    stand_outer p frags k tags own l owners modules _
    (stand_over p (content_in p k) tags (record { own = l; owners = owners; modules = modules }) _ o _ (stand _ (owners_over p (content_in p k) tags (record { own = l; owners = owners; modules = modules }) _ o (h s))))
  where
    o : Over (record { own = l; owners = owners; modules = modules }) (with_lets lets props (record { own = l; owners = owners; modules = modules }))
    o = lets_over lets props (record { own = l; owners = owners; modules = modules })
