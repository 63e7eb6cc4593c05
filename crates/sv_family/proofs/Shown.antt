-- An instance that is shown on its present view stands there as it should.
use Rattle.std.proofs.Common.{◌≡◌, ◌⊎◌, inl, inr, ℕ, true, List, [], ◌∷◌, map, Option, Some, None, refl, sym, ap, subst, ◌∙◌, is_some}
use Rattle.std.proofs.lemmas.Bool.{true≢false}
use Rattle.std.proofs.lemmas.Option.{none-some}
use Rattle.sv_code.proofs.Each.{each_mono}
use Rattle.sv_code.specs.declared.fragments.Frag.{Frag}
use Rattle.sv_code.specs.declared.program.Component.{Component}
use Rattle.sv_code.specs.declared.program.Program.{Program}
use Rattle.sv_family.specs.Family.{AreParents, AreAround, AreLent, HaveCells, IsShown, component_for, markup_in}
use Rattle.sv_family.specs.Kin.{Kin, Kins, IsBelow, tag_at, tags_in, tags_now, insts_now, takes_view, is_lent, parent_of}
use Rattle.sv_family.specs.Owners.{SlotsAreOwned}
use Rattle.sv_stands.specs.Standing.{HasSlot, OwnersFor, content_in}
use Rattle.sv_meaning.specs.Components.{component_at, markup_of}
use Rattle.sv_numbered.specs.Numbered.{at}
use Rattle.sv_places.specs.Fits.{Fits}
use Rattle.sv_shapes.specs.Showing.{Showing}
use Rattle.sv_shapes.specs.declared.shape.Shape.{Shape}
use Rattle.sv_view.specs.Level.{Level, View}
use Rattle.sv_view.specs.View.{insts, levels_of}

-- ---- owners

-- what owners are needed goes by how many there are
pub owners_as : (p : Program) (frags : List Frag) (tags : List (Option ℕ)) (was is : List Level) → map (λ l. l.inst) is ≡ map (λ l. l.inst) was → OwnersFor p frags tags was → OwnersFor p frags tags is
owners_as p frags [] was is e h = tt
owners_as p frags (None ∷ tags) was is e h = tt
owners_as p frags (Some k ∷ tags) [] [] e h = h
owners_as p frags (Some k ∷ tags) [] (l ∷ is) e h = absurd (cc)
owners_as p frags (Some k ∷ tags) (l ∷ was) [] e h = absurd (cc)
owners_as p frags (Some k ∷ tags) (l ∷ was) (j ∷ is) e h = λ slot. owners_as p (content_in p k) tags was is (cc) (h slot)

-- no slot stands in nothing
no_slot : (p : Program) → HasSlot p [] → ⊥
no_slot p (HasSlot.here frags any) = any
no_slot p (HasSlot.inside frags k t any is more) = any

module _ (p : Program) (owned : SlotsAreOwned p) (ks : Kins) (cells : HaveCells p ks) (n : ℕ) (kin : Kin) (live : at ks n ≡ Some kin) where
  -- where a slot stands in its markup, it has a cell for its owner's view
  slot_lent : HasSlot p (markup_in p ks n) → is_lent p kin ≡ true
  slot_lent slot = by (component_at p kin.place.component) refl (subst (λ o. HasSlot p (markup_of (component_for p o))) live slot)
    where
      by : (o : Option Component) → component_at p kin.place.component ≡ o → HasSlot p (markup_of o) → takes_view (component_at p kin.place.component) kin.cells ≡ true
      by None e h = absurd (no_slot p h)
      by (Some c) e h = subst (λ o. takes_view o kin.cells ≡ true) (sym e) (subst (λ m. takes_view (Some c) m ≡ true) (sym (cells n kin c live e)) (owned kin.place.component c e h))

  module _ (s : Showing) (parents : AreParents ks) (lent : AreLent p None ks s) where
    -- and was lent that, where it stands at a tag
    slot_views : (k : ℕ) → tag_at ks n ≡ Some k → HasSlot p (markup_in p ks n) → is_some kin.lent ≡ true
    slot_views k tag slot = by (lent.there n kin live (sym (ap (λ o. is_some (parent_of o)) live) ∙ parents.tagged n k tag) (slot_lent slot))
      where
        by : (None ≡ Some n) ⊎ (is_some kin.lent ≡ true) → is_some kin.lent ≡ true
        by (inl e) = absurd (none-some n e)
        by (inr h) = h

    -- the owners of a view that has the levels of the one that was lent
    owners_lent : (k : ℕ) (o : Option View) (owners : List Level) → map (λ l. l.inst) owners ≡ map (λ l. l.inst) (levels_of o) → (HasSlot p (markup_in p ks n) → is_some o ≡ true) →
        ((v : View) → o ≡ Some v → OwnersFor p (content_in p k) (tags_in ks v) v.owners) → OwnersFor p (markup_in p ks n) (Some k ∷ map (tag_at ks) (map (λ l. l.inst) (levels_of o))) owners
    owners_lent k None [] e some more = λ slot. true≢false (sym (some slot))
    owners_lent k None (l ∷ owners) e some more = absurd (cc)
    owners_lent k (Some v) [] e some more = absurd (cc)
    owners_lent k (Some v) (l ∷ owners) e some more = λ slot. owners_as p (content_in p k) (tags_in ks v) v.owners owners (cc) (more v refl)

    owners_now : (owners : List Level) → map (λ l. l.inst) owners ≡ map (λ l. l.inst) (levels_of kin.lent) → OwnersFor p (markup_in p ks n) (tags_now ks n kin) owners
    owners_now owners e = by (tag_at ks n) refl
      where
        by : (t : Option ℕ) → tag_at ks n ≡ t → OwnersFor p (markup_in p ks n) (t ∷ map (tag_at ks) (map (λ l. l.inst) (levels_of kin.lent))) owners
        by None is = tt
        by (Some k) is = owners_lent k kin.lent owners e (slot_views k is) (λ v of. lent.owners n k kin v live of is)

    -- itself and those above it
    around_now : AreAround ks n (insts_now n kin)
    around_now = (inl refl, by kin.lent refl)
      where
        by : (o : Option View) → kin.lent ≡ o → AreAround ks n (map (λ l. l.inst) (levels_of o))
        by None e = tt
        by (Some v) e = each_mono (λ o. IsBelow ks o n) (λ o. (o ≡ n) ⊎ IsBelow ks o n) (λ o below. inr below) (insts v) (lent.above n kin v live e)

    -- on a view of its present levels it is shown as it should be
    pub shown_now : (view : View) (parts : List Shape) → insts view ≡ insts_now n kin → Fits p (tags_in ks view) (markup_in p ks n) parts → IsShown p ks n (record { view = view; parts = parts })
    shown_now view parts e fit = record {
      kin = kin;
      live = live;
      around = subst (AreAround ks n) (sym e) around_now;
      owners = subst (λ tags. OwnersFor p (markup_in p ks n) tags view.owners) (sym (ap (map (tag_at ks)) e)) (owners_now view.owners (cc));
      tags = ap (map (tag_at ks)) e;
      fits = fit;
    }
