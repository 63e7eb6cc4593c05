-- Views that agree, level by level, at what markup and the content in its slots look at.
use Rattle.std.specs.Prelude.{◌≡◌, ℕ, zero, suc, Bool, true, false, ◌||◌, List, [], ◌∷◌, Option, Some, None, unwrap_or, map, slice_get}
use Rattle.sv_agree.specs.Scopes.{Scope, only, AgreesAt, FitsIn}
use Rattle.sv_code.specs.Content.{AreContentsSeen}
use Rattle.sv_code.specs.Within.{ArePartsWithin}
use Rattle.sv_code.specs.declared.fragments.Frag.{Frag, Frag-F, fold-Frag}
use Rattle.sv_code.specs.declared.fragments.FragArm.{FragArm, FragArm-F, fold-FragArm}
use Rattle.sv_code.specs.declared.program.Program.{Program}
use Rattle.sv_code.specs.declared.tags.Tag.{Tag}
use Rattle.sv_plan.specs.Content.{own_tag}
use Rattle.sv_right.specs.Right.{AreRight}
use Rattle.sv_shapes.specs.declared.shape.Shape.{Shape}
use Rattle.sv_view.specs.Level.{View}
use Rattle.sv_view.specs.View.{owner_of}

-- ---- slots

-- one of some is
abbrev pub in_any : List Bool → Bool
in_any [] = false
in_any (b ∷ bs) = b || in_any bs

-- whether a slot in the content of a component's tag counts, by the number of the tag
abbrev pub Counts : Type 0
Counts = ℕ → Bool

abbrev pub frag_slot : Counts → Frag-F Bool Bool → Bool
frag_slot counts (Frag-F.Text text) = false
frag_slot counts (Frag-F.Show shown) = false
frag_slot counts (Frag-F.Element span name attrs children) = in_any children
frag_slot counts (Frag-F.Tag tag reads) = counts tag
frag_slot counts (Frag-F.Named slot lets node) = node
frag_slot counts (Frag-F.Slot span name attrs own reads) = true
frag_slot counts (Frag-F.If arms last) = in_any arms || in_any (unwrap_or last [])
frag_slot counts (Frag-F.Each list item index key body none) = in_any body || in_any (unwrap_or none [])
frag_slot counts (Frag-F.Key shown body) = in_any body

abbrev pub arm_slot : FragArm-F Bool Bool → Bool
arm_slot a = in_any a.body

-- a `<slot>` stands in a fragment, or in the content of a tag in there, where that counts
abbrev pub has_slot : Counts → Frag → Bool
has_slot counts = fold-Frag Bool Bool (frag_slot counts) arm_slot

abbrev pub slot_in_arm : Counts → FragArm → Bool
slot_in_arm counts = fold-FragArm Bool Bool (frag_slot counts) arm_slot

abbrev pub have_slot : Counts → List Frag → Bool
have_slot counts frags = in_any (map (has_slot counts) frags)

abbrev pub slot_in : Counts → Option Tag → Bool
slot_in counts None = false
slot_in counts (Some t) = have_slot counts t.content

-- one stands in the content of the tag with a number, or of a tag in there, and so on, so many tags deep
abbrev pub slot_in_tag : Program → ℕ → Counts
slot_in_tag p zero k = false
slot_in_tag p (suc depth) k = slot_in (slot_in_tag p depth) (slice_get p.tags k)

-- one stands in fragments, or in the content of component tags in there, so many tags deep; at zero, that content isn't looked into
abbrev pub slot_within : Program → ℕ → List Frag → Bool
slot_within p depth frags = have_slot (slot_in_tag p depth) frags

-- ---- levels

-- a fact of the owner's views of two views, if they have any
abbrev pub OfOwners : Type 1
OfOwners = Option View → Option View → Type 0

-- views agree within a scope, and where a slot stands there a fact holds of their owners' views
abbrev pub AgreesWith : Scope → Bool → OfOwners → View → View → Type 0
AgreesWith scope slot owners v v' = AgreesAt scope v v' × (slot ≡ true → owners (owner_of v) (owner_of v'))

-- owners' views agree at what the content of a tag looks at, and so further up where a slot stands in that content
abbrev pub AgreesForTag : Program → ℕ → Option Tag → OfOwners → OfOwners
AgreesForTag p depth None owners o o' = Unit {0}
AgreesForTag p depth (Some t) owners (Some v) (Some v') = AgreesWith (only t.reads) (slot_within p depth t.content) owners v v'
AgreesForTag p depth (Some t) owners _ _ = ⊥

-- by the tags of the levels of two views, their own tag is the same, and the owners' views agree at what its content looks at
abbrev pub AgreesAbove : Program → ℕ → (tags tags' : List (Option ℕ)) → OfOwners
AgreesAbove p depth [] tags' o o' = own_tag tags' ≡ None
AgreesAbove p depth (None ∷ tags) tags' o o' = own_tag tags' ≡ None
AgreesAbove p depth (Some k ∷ tags) [] o o' = ⊥
AgreesAbove p depth (Some k ∷ tags) (tag ∷ tags') o o' = (tag ≡ Some k) × AgreesForTag p depth (slice_get p.tags k) (AgreesAbove p depth tags tags') o o'

-- two views, by the tags of their levels, agree at all that fragments and the content in their slots look at, where slots count that stand so many
-- component tags deep
abbrev pub AgreesFor : Program → ℕ → Scope → (tags tags' : List (Option ℕ)) → List Frag → View → View → Type 0
AgreesFor p depth scope tags tags' frags v v' = AgreesWith scope (slot_within p depth frags) (AgreesAbove p depth tags tags') v v'

-- shapes that are right on a view are right on each that agrees with it at what their fragments look at
abbrev pub RightWhereViewsAgree : Type 0
RightWhereViewsAgree = (p : Program) (depth : ℕ) (scope : Scope) (tags tags' : List (Option ℕ)) (frags : List Frag) (v v' : View) (shapes : List Shape) → ArePartsWithin p → AreContentsSeen p →
    FitsIn p scope frags → AgreesFor p depth scope tags tags' frags v v' → AreRight p tags frags v shapes → AreRight p tags' frags v' shapes
