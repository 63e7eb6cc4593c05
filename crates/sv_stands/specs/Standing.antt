-- Of the instance on whose view a component's tag stands: the one in whose markup the walk began, or an owner further out. Where a `<slot>` stands in
-- some markup, content is shown that stands in the markup of the owner.
use Rattle.std.specs.Prelude.{◌≡◌, ℕ, zero, suc, List, [], ◌∷◌, Option, Some, None, drop, slice_get}
use Rattle.sv_code.specs.Content.{BySlot, ByTag, of_frags}
use Rattle.sv_code.specs.declared.fragments.Frag.{Frag}
use Rattle.sv_code.specs.declared.program.Program.{Program}
use Rattle.sv_code.specs.declared.tags.Tag.{Tag}
use Rattle.sv_plan.specs.Slots.{outer}
use Rattle.sv_stands.specs.Holds.{Hold}
use Rattle.sv_places.specs.Any.{Any}
use Rattle.sv_view.specs.Level.{Level, View}
use Rattle.sv_view.specs.View.{insts, with_locals}

-- ---- the owners that markup needs

-- a `<slot>` stands in some fragments, or in the content of a component's tag in there, or of a tag in that, and so on
pub data HasSlot (p : Program) : List Frag → Type 0 where
  here : (frags : List Frag) → Any (λ look. look.by ≡ BySlot) (of_frags frags []) → HasSlot p frags
  inside : (frags : List Frag) (k : ℕ) (t : Tag) → Any (λ look. look.by ≡ ByTag k) (of_frags frags []) → slice_get p.tags k ≡ Some t → HasSlot p t.content → HasSlot p frags

abbrev pub content_of : Option Tag → List Frag
content_of None = []
content_of (Some t) = t.content

-- the content of the tag with a number
abbrev pub content_in : Program → ℕ → List Frag
content_in p k = content_of (slice_get p.tags k)

-- by the tags of the levels of a view: where a slot stands in its markup, an instance that stands at a tag has an owner, and so has that one for the
-- content of the tag
abbrev pub OwnersFor : Program → List Frag → List (Option ℕ) → List Level → Type 0
OwnersFor p frags [] owners = Unit {0}
OwnersFor p frags (None ∷ tags) owners = Unit {0}
OwnersFor p frags (Some k ∷ tags) [] = HasSlot p frags → ⊥
OwnersFor p frags (Some k ∷ tags) (l ∷ owners) = HasSlot p frags → OwnersFor p (content_in p k) tags owners

-- ---- views of owners

-- so many owners further out
abbrev pub outward : ℕ → View → View
outward zero v = v
outward (suc n) v = outward n (outer v)

-- the markup on the level so many owners further out: the content of the tag at which the instance on the level before it stands
abbrev pub frags_at : Program → List Frag → List (Option ℕ) → ℕ → List Frag
frags_at p frags tags zero = frags
frags_at p frags [] (suc depth) = []
frags_at p frags (None ∷ tags) (suc depth) = []
frags_at p frags (Some k ∷ tags) (suc depth) = frags_at p (content_in p k) tags depth

-- the hold's view is that of the instance, or of an owner so many levels further out, but for its row locals and slot props; so are its instances
-- and its tags; its tag stands in the markup on that level; and there are owners for the content of its tag
pub record StandsOn (p : Program) (frags : List Frag) (tags : List (Option ℕ)) (v : View) (h : Hold) : Type 0 where
  pub depth : ℕ
  pub tags_are : h.tags ≡ drop depth tags
  pub insts_are : insts h.view ≡ drop depth (insts v)
  pub view_is : h.view ≡ with_locals (outward depth v) h.view.own.locals
  pub within : Any (λ look. look.by ≡ ByTag h.tag) (of_frags (frags_at p frags tags depth) [])
  pub owners : OwnersFor p (content_in p h.tag) h.tags h.view.owners
