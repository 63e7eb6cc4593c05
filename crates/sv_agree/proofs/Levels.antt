-- The content of slots on views that agree, level by level, and the law.
use Rattle.std.proofs.Common.{◌≡◌, ℕ, List, [], ◌∷◌, Option, Some, None, option_map, unwrap_or, refl, sym, subst}
use Rattle.std.specs.Option.{option_and_then}
use Rattle.std.specs.Prelude.{slice_get}
use Rattle.sv_agree.proofs.Contents.{Given, in_lets, attrs_within, content_within, content_stays, each_fits, tag_gives}
use Rattle.sv_agree.proofs.Forms.{FilledAgrees, AgreesAll, all_wider}
use Rattle.sv_agree.proofs.Markup.{walker_agrees}
use Rattle.sv_agree.proofs.Pairs.{Follow, all_true}
use Rattle.sv_agree.proofs.Scopes.{lets_with}
use Rattle.sv_agree.specs.Agreeing.{OfOwners, slot_in_tag, slot_within, AgreesForTag, AgreesFor, AgreesAbove, RightWhereViewsAgree}
use Rattle.sv_agree.specs.Scopes.{Scope, only, FitsIn}
use Rattle.sv_code.specs.Content.{AreContentsSeen}
use Rattle.sv_code.specs.Within.{ArePartsWithin}
use Rattle.sv_code.specs.declared.fragments.Frag.{Frag}
use Rattle.sv_code.specs.declared.program.Program.{Program}
use Rattle.sv_code.specs.declared.tags.Tag.{Tag}
use Rattle.sv_plan.specs.Content.{Content, content_of}
use Rattle.sv_plan.specs.Slots.{with_lets, content_view}
use Rattle.sv_right.specs.Claims.{Walker, Filled, walker, slotted, claims}
use Rattle.sv_shapes.specs.declared.shape.Shape.{Shape}
use Rattle.sv_shapes.specs.declared.shape.SlotProp.{SlotProp}
use Rattle.sv_view.specs.Level.{View}
use Rattle.sv_view.specs.View.{owner_of}

module _ (p : Program) (depth : ℕ) (within : ArePartsWithin p) (seen : AreContentsSeen p) where
  -- content that fits in what its tag looks at agrees on the owners' views, with the names that it has for slot props
  given_agrees : (t : Tag) (c : Content) (owners : OfOwners) (first second : Walker) (props : List SlotProp) (shapes : List Shape) (o o' : Option View) (v v' : View) →
      AgreesAll p depth owners (in_lets c.lets t.reads) (slot_within p depth t.content) first second → AgreesForTag p depth (Some t) owners o o' →
      Follow p depth (first (with_lets c.lets props (unwrap_or o v)) shapes) (second (with_lets c.lets props (unwrap_or o' v')) shapes)
  given_agrees t c owners first second props shapes None None v v' agrees a = absurd a
  given_agrees t c owners first second props shapes None (Some w') v v' agrees a = absurd a
  given_agrees t c owners first second props shapes (Some w) None v v' agrees a = absurd a
  given_agrees t c owners first second props shapes (Some w) (Some w') v v' agrees a =
      agrees (with_lets c.lets props w) (with_lets c.lets props w') shapes (lets_with (only t.reads) (slot_within p depth t.content) owners c.lets props w w' a)

  -- what slots show, by the tags of the levels of two views
  abbrev SlotsAgree : List (Option ℕ) → List (Option ℕ) → Type 0
  SlotsAgree tags tags' = (name : List ℕ) (v v' : View) → AgreesAbove p depth tags tags' (owner_of v) (owner_of v') → FilledAgrees p depth (slotted p tags name) (slotted p tags' name) v v'

  abbrev filling : List (Option ℕ) → Content → Filled
  filling tags c = record { lets = c.lets; walk = walker tags (slotted p tags) c.frags }

  content_agrees : (tags tags' : List (Option ℕ)) → SlotsAgree tags tags' → (t : Tag) (c : Content) → Given p (slot_in_tag p depth) t.reads (slot_within p depth t.content) c →
      AgreesAll p depth (AgreesAbove p depth tags tags') (in_lets c.lets t.reads) (slot_within p depth t.content) (filling tags c).walk (filling tags' c).walk
  content_agrees tags tags' slots t c given =
      all_wider p depth (AgreesAbove p depth tags tags') (in_lets c.lets t.reads) (slot_within p depth c.frags) (slot_within p depth t.content) (filling tags c).walk (filling tags' c).walk given.slots
      (walker_agrees p depth tags tags' (slotted p tags) (slotted p tags') slots (attrs_within p within) c.frags (in_lets c.lets t.reads) given.frags)

  level : (tags tags' : List (Option ℕ)) (k : ℕ) (name : List ℕ) (v v' : View) → SlotsAgree tags tags' → AgreesForTag p depth (slice_get p.tags k) (AgreesAbove p depth tags tags') (owner_of v) (owner_of v') →
      FilledAgrees p depth (slotted p (Some k ∷ tags) name) (slotted p (Some k ∷ tags') name) v v'
  unfolding content_view
  level tags tags' k name v v' slots a = by (slice_get p.tags k) refl a
    where
      over : (t : Tag) → slice_get p.tags k ≡ Some t → AgreesForTag p depth (Some t) (AgreesAbove p depth tags tags') (owner_of v) (owner_of v') → (o : Option Content) → content_of name t ≡ o →
          FilledAgrees p depth (option_map (filling tags) o) (option_map (filling tags') o) v v'
      over t is b None e = tt
      over t is b (Some c) e = λ props shapes.
          given_agrees t c (AgreesAbove p depth tags tags') (filling tags c).walk (filling tags' c).walk props shapes (owner_of v) (owner_of v') v v'
          (content_agrees tags tags' slots t c (tag_gives p (slot_in_tag p depth) name t c (content_within p within k t is) (content_stays p seen k t is) e)) b

      by : (o : Option Tag) → slice_get p.tags k ≡ o → AgreesForTag p depth o (AgreesAbove p depth tags tags') (owner_of v) (owner_of v') →
          FilledAgrees p depth (option_map (filling tags) (option_and_then (content_of name) o)) (option_map (filling tags') (option_and_then (content_of name) o)) v v'
      by None is b = tt
      by (Some t) is b = over t is b (content_of name t) refl

  slots_agree : (tags tags' : List (Option ℕ)) → SlotsAgree tags tags'
  slots_agree [] [] name v v' a = tt
  slots_agree [] (None ∷ tags') name v v' a = tt
  slots_agree [] (Some k ∷ tags') name v v' a = absurd (cc)
  slots_agree (None ∷ tags) [] name v v' a = tt
  slots_agree (None ∷ tags) (None ∷ tags') name v v' a = tt
  slots_agree (None ∷ tags) (Some k ∷ tags') name v v' a = absurd (cc)
  slots_agree (Some k ∷ tags) [] name v v' a = absurd a
  slots_agree (Some k ∷ tags) (tag ∷ tags') name v v' a =
      subst (λ z. FilledAgrees p depth (slotted p (Some k ∷ tags) name) (slotted p (z ∷ tags') name) v v') (sym a.0) (level tags tags' k name v v' (slots_agree tags tags') a.1)

  -- what is claimed on views that agree
  pub claims_follow : (scope : Scope) (tags tags' : List (Option ℕ)) (frags : List Frag) (v v' : View) (shapes : List Shape) → FitsIn p scope frags → AgreesFor p depth scope tags tags' frags v v' →
      Follow p depth (claims p tags frags v shapes) (claims p tags' frags v' shapes)
  unfolding claims
  claims_follow scope tags tags' frags v v' shapes fits agrees =
      walker_agrees p depth tags tags' (slotted p tags) (slotted p tags') (slots_agree tags tags') (attrs_within p within) frags scope (each_fits p scope frags fits.within fits.looks) v v' shapes agrees

-- ---- the law

pub agreeing : RightWhereViewsAgree
agreeing p depth scope tags tags' frags v v' shapes within seen fits agrees right =
    all_true p depth (claims p tags frags v shapes) (claims p tags' frags v' shapes) (claims_follow p depth within seen scope tags tags' frags v v' shapes fits agrees) right
