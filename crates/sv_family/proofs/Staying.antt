-- Instances that stay where they stand, while others are made or are lent views.
use Rattle.std.proofs.Common.{◌≡◌, ◌⊎◌, ⊎_elim, ℕ, true, List, [], ◌∷◌, map, Option, None, Some, is_some, option_map, inl, inr, refl, sym, ap, ◌∙◌}
use Rattle.std.proofs.lemmas.Bool.{cases_eq}
use Rattle.std.proofs.lemmas.Option.{none-some, same_Some}
use Rattle.sv_code.proofs.Each.{each_mono}
use Rattle.sv_code.specs.Names.{Each}
use Rattle.sv_code.specs.declared.program.Program.{Program}
use Rattle.sv_family.specs.Family.{AreParents, AreChildren, AreAround, AreAbove, IsShown, markup_in, holds_in, component_for}
use Rattle.sv_family.specs.Kin.{Kin, Kins, tag_of, tag_at, tags_in, tags_now, parent_of, parent_at, IsBelow, with_lent}
use Rattle.sv_instance.specs.Standing.{Place}
use Rattle.sv_meaning.specs.Components.{component_at, markup_of}
use Rattle.sv_numbered.specs.Numbered.{at, altered}
use Rattle.sv_shapes.specs.Showing.{Showing, child_at}
use Rattle.sv_shapes.specs.declared.shown.Shown.{Shown}
use Rattle.sv_states.proofs.Altering.{option_cases, at-altered_same, at-altered_other}
use Rattle.sv_view.specs.Level.{View}
use Rattle.sv_view.specs.View.{insts}

pub is_there : {A : Type 0} (o : Option A) → is_some o ≡ true → (x : A) × (o ≡ Some x)
is_there None e = absurd (cc)
is_there (Some x) e = (x, refl)

-- an instance still stands where it stood, with as many cells
pub record Still (kin : Kin) (o : Option Kin) : Type 0 where
  pub now : Kin
  pub is : o ≡ Some now
  pub place : now.place ≡ kin.place
  pub cells : now.cells ≡ kin.cells

-- so does each
abbrev pub Stay : Kins → Kins → Type 0
Stay ks later = (n : ℕ) (kin : Kin) → at ks n ≡ Some kin → Still kin (at later n)

-- who is lent a view stands where it stood, and so do the others
pub lending_stays : (view : View) (ks : Kins) (n : ℕ) (kin : Kin) → at ks n ≡ Some kin → Stay ks (altered (with_lent view) ks n)
lending_stays view ks n kin live m k e = ⊎_elim
    (λ same.
    let one : kin ≡ k = same_Some kin k (sym live ∙ (ap (at ks) (sym same) ∙ e)) in
    record {
      now = with_lent view kin;
      is = ap (at (altered (with_lent view) ks n)) same ∙ at-altered_same (with_lent view) ks n kin live;
      place = ap (λ (z : Kin). z.place) one;
      cells = ap (λ (z : Kin). z.cells) one;
    })
    (λ other. record { now = k; is = at-altered_other (with_lent view) ks n m other ∙ e; place = refl; cells = refl })
    (cases_eq m n)

-- ---- what hangs on where an instance stands

pub still_tag : (kin : Kin) (o : Option Kin) → Still kin o → tag_of o ≡ tag_of (Some kin)
still_tag kin o h = ap tag_of h.is ∙ ap (λ (l : Place). option_map (λ s. s.tag) l.standing) h.place

pub still_parent : (kin : Kin) (o : Option Kin) → Still kin o → parent_of o ≡ parent_of (Some kin)
still_parent kin o h = ap parent_of h.is ∙ ap (λ (l : Place). l.parent) h.place

pub still_markup : (p : Program) (kin : Kin) (o : Option Kin) → Still kin o → markup_of (component_for p o) ≡ markup_of (component_for p (Some kin))
still_markup p kin o h = ap (λ z. markup_of (component_for p z)) h.is ∙ ap (λ (l : Place). markup_of (component_at p l.component)) h.place

-- who has a parent is live
pub parent_live : (ks : Kins) (n q : ℕ) → parent_at ks n ≡ Some q → (kin : Kin) × (at ks n ≡ Some kin)
parent_live ks n q e = ⊎_elim (λ none. absurd (none-some q (sym (ap parent_of none) ∙ e))) (λ some. some) (option_cases (at ks n))

-- who stands at a place is live
pub child_live : (leaving : List ℕ) (ks : Kins) (s : Showing) → AreChildren leaving ks s → (place n : ℕ) → child_at s place ≡ Some n → is_some (at ks n) ≡ true
child_live leaving ks s h place n e = let q = is_there (parent_at ks n) (h.parent place n e) in ap is_some (parent_live ks n q.0 q.1).1

-- who is above another one is live
pub above_live : (ks : Kins) → AreParents ks → (o n : ℕ) → IsBelow ks o n → is_some (at ks o) ≡ true
above_live ks h o n (IsBelow.child _ e) = h.live n o e
above_live ks h o n (IsBelow.further _ q e b) = above_live ks h o q b

-- ---- while all stay

module _ (ks later : Kins) (stay : Stay ks later) where
  pub tag_stays : (n : ℕ) → is_some (at ks n) ≡ true → tag_at later n ≡ tag_at ks n
  tag_stays n e = let k = is_there (at ks n) e in still_tag k.0 (at later n) (stay n k.0 k.1) ∙ sym (ap tag_of k.1)

  pub parent_stays : (n : ℕ) → is_some (at ks n) ≡ true → parent_at later n ≡ parent_at ks n
  parent_stays n e = let k = is_there (at ks n) e in still_parent k.0 (at later n) (stay n k.0 k.1) ∙ sym (ap parent_of k.1)

  pub markup_stays : (p : Program) (n : ℕ) → is_some (at ks n) ≡ true → markup_in p later n ≡ markup_in p ks n
  markup_stays p n e = let k = is_there (at ks n) e in still_markup p k.0 (at later n) (stay n k.0 k.1) ∙ sym (ap (λ z. markup_of (component_for p z)) k.1)

  pub live_stays : (n : ℕ) → is_some (at ks n) ≡ true → is_some (at later n) ≡ true
  live_stays n e = let k = is_there (at ks n) e in ap is_some (stay n k.0 k.1).is

  -- one that had a parent has it
  pub child_stays : (n q : ℕ) → parent_at ks n ≡ Some q → parent_at later n ≡ Some q
  child_stays n q e = parent_stays n (ap is_some (parent_live ks n q e).1) ∙ e

  pub below_stays : (o n : ℕ) → IsBelow ks o n → IsBelow later o n
  below_stays o n (IsBelow.child _ e) = IsBelow.child n (child_stays n o e)
  below_stays o n (IsBelow.further _ q e b) = IsBelow.further n q (child_stays n q e) (below_stays o q b)

  pub tags_stay : (list : List ℕ) → Each (λ o. is_some (at ks o) ≡ true) list → map (tag_at later) list ≡ map (tag_at ks) list
  tags_stay [] h = refl
  tags_stay (o ∷ list) h = rw (tag_stays o h.0, tags_stay list h.1) refl

  pub above_stay : (n : ℕ) (list : List ℕ) → AreAbove ks n list → AreAbove later n list
  above_stay n list h = each_mono (λ o. IsBelow ks o n) (λ o. IsBelow later o n) (λ o b. below_stays o n b) list h

  pub around_stay : (n : ℕ) (list : List ℕ) → AreAround ks n list → AreAround later n list
  around_stay n list h = each_mono (λ o. (o ≡ n) ⊎ IsBelow ks o n) (λ o. (o ≡ n) ⊎ IsBelow later o n) (λ o b. ⊎_elim (λ is. inl is) (λ below. inr (below_stays o n below)) b) list h

  module _ (parents : AreParents ks) where
    pub above_are_live : (n : ℕ) (list : List ℕ) → AreAbove ks n list → Each (λ o. is_some (at ks o) ≡ true) list
    above_are_live n list h = each_mono (λ o. IsBelow ks o n) (λ o. is_some (at ks o) ≡ true) (λ o b. above_live ks parents o n b) list h

    pub above_tags : (n : ℕ) (list : List ℕ) → AreAbove ks n list → map (tag_at later) list ≡ map (tag_at ks) list
    above_tags n list h = tags_stay list (above_are_live n list h)

    around_are_live : (n : ℕ) → is_some (at ks n) ≡ true → (list : List ℕ) → AreAround ks n list → Each (λ o. is_some (at ks o) ≡ true) list
    around_are_live n live list h =
        each_mono (λ o. (o ≡ n) ⊎ IsBelow ks o n) (λ o. is_some (at ks o) ≡ true) (λ o b. ⊎_elim (λ is. ap (λ z. is_some (at ks z)) is ∙ live) (λ below. above_live ks parents o n below) b) list h

    -- ---- what is shown

    module _ (p : Program) (n : ℕ) (x : Shown) (h : IsShown p ks n x) where
      pub shown_tags : tags_in later x.view ≡ tags_in ks x.view
      shown_tags = tags_stay (insts x.view) (around_are_live n (ap is_some h.live) (insts x.view) h.around)

      pub shown_markup : markup_in p later n ≡ markup_in p ks n
      shown_markup = markup_stays p n (ap is_some h.live)

      pub shown_holds : holds_in p later n x ≡ holds_in p ks n x
      shown_holds = rw (shown_tags, shown_markup) refl

      -- with the tags that its present view has
      pub shown_stays : (kin : Kin) → at later n ≡ Some kin → tags_now later n kin ≡ tags_now ks n h.kin → IsShown p later n x
      shown_stays kin live tags = record {
        kin = kin;
        live = live;
        around = around_stay n (insts x.view) h.around;
        owners = rw (shown_tags, shown_markup) h.owners;
        tags = shown_tags ∙ (h.tags ∙ sym tags);
        fits = rw (shown_tags, shown_markup) h.fits;
      }
