-- Each tag of a component has its child in what a patch leaves, once its effects have run.
use Rattle.std.proofs.Common.{◌≡◌, ⊎_elim, inl, inr, ℕ, nat_eq, List, [], ◌∷◌, ◌++◌, Option, None, Some, Ok, is_some, if◌then◌else◌, refl, sym, ap, subst, ◌∙◌}
use Rattle.std.specs.Prelude.{slice_get}
use Rattle.std.proofs.lemmas.Bool.{cases_eq, eq-eqb}
use Rattle.std.proofs.lemmas.Option.{same_Some}
use Rattle.sv_code.proofs.Each.{each_mono}
use Rattle.sv_code.specs.Names.{Each}
use Rattle.sv_code.specs.declared.program.Program.{Program}
use Rattle.sv_family.proofs.Going.{pending-none}
use Rattle.sv_family.proofs.Patching.{patch_records}
use Rattle.sv_family.proofs.Showing.{same_tags, fit_before}
use Rattle.sv_family.specs.Family.{Family, IsFilled, AreFilled, markup_in, holds_in}
use Rattle.sv_family.specs.Kin.{Kin, Kins, tags_in, insts_now}
use Rattle.sv_family.specs.Pending.{Pending, AreBefore, pending_of}
use Rattle.sv_numbered.specs.Numbered.{at}
use Rattle.sv_parts.specs.declared.counters.Counters.{Counters}
use Rattle.sv_parts.specs.declared.state.Effect.{Effect}
use Rattle.sv_parts.specs.declared.state.Kept.{Kept}
use Rattle.sv_parts.specs.declared.tally.Tally.{Tally}
use Rattle.sv_places.proofs.Lookups.{found-put, found-put_other}
use Rattle.sv_places.specs.Keeping.{parts_of}
use Rattle.sv_plan.specs.Patch.{After, old_view, old_parts, patched}
use Rattle.sv_shapes.specs.Showing.{Showing, shown_of, child_at, recorded}
use Rattle.sv_shapes.specs.declared.shape.Shape.{Shape}
use Rattle.sv_shapes.specs.declared.shown.Shown.{Shown}
use Rattle.sv_stands.proofs.Patches.{patch_lends, patch_makes}
use Rattle.sv_stands.specs.Holds.{Hold, holds}
use Rattle.sv_places.specs.Any.{Any}
use Rattle.sv_stands.specs.Lent.{Makes, GoesOn, IsLent, IsMade}
use Rattle.sv_view.specs.Level.{View}
use Rattle.sv_view.specs.View.{insts}

-- ---- effects

any_left : {A : Type 0} (Q : A → Type 0) (xs ys : List A) → Any Q xs → Any Q (xs ++ ys)
any_left Q [] ys h = absurd h
any_left Q (x ∷ xs) ys (inl h) = inl h
any_left Q (x ∷ xs) ys (inr h) = inr (any_left Q xs ys h)

any_right : {A : Type 0} (Q : A → Type 0) (xs ys : List A) → Any Q ys → Any Q (xs ++ ys)
any_right Q [] ys h = h
any_right Q (x ∷ xs) ys h = inr (any_right Q xs ys h)

pub any_here : (Q : Effect → Type 0) (pend : Pending) (n : ℕ) (es : List Effect) → Any Q es → Any Q (pending_of ((n, es) ∷ pend) n)
any_here Q pend n es h = subst (λ b. Any Q ((if b then es else []) ++ pending_of pend n)) (sym (eq-eqb n n refl)) (any_left Q es (pending_of pend n) h)

-- ---- holds

module _ (p : Program) (s : Showing) (effects : List Effect) (kept : List Kept) where
  -- a hold that goes on has the child that it had
  goes_filled : (h : Hold) (olds : List Hold) → Any (GoesOn p effects kept h) olds → Each (IsFilled p s []) olds → IsFilled p s effects h
  goes_filled h [] any all = absurd any
  goes_filled h (old ∷ olds) (inl goes) all = λ t c tag comp.
      ⊎_elim (λ there. inl (ap (λ a. is_some (child_at s a)) (sym goes.place) ∙ there)) (λ none. absurd none) (all.0 t c (ap (slice_get p.tags) goes.tag ∙ tag) comp)
  goes_filled h (old ∷ olds) (inr any) all = goes_filled h olds any all.1

  lent_filled : (olds : List Hold) → Each (IsFilled p s []) olds → (h : Hold) → IsLent p effects kept olds h → IsFilled p s effects h
  lent_filled olds all h (inl made) = λ t c tag comp. inr made
  lent_filled olds all h (inr goes) = goes_filled h olds goes all

-- ---- patches

module _ (p : Program) (pend : Pending) (ks : Kins) (n : ℕ) (kin : Kin) (live : at ks n ≡ Some kin) (view : View) (now : insts view ≡ insts_now n kin) (s : Showing) (counters : Counters)
    (before : AreBefore n pend) (h : Family p pend None [] ks s counters.next) (filled : AreFilled p pend [] ks s) where
  abbrev tags : List (Option ℕ)
  tags = tags_in ks view

  -- what was shown of it has its children
  filled_before : (o : Option Shown) → shown_of s n ≡ o → (x : Shown) → o ≡ Some x → Each (IsFilled p s []) (holds p tags (markup_in p ks n) (old_view o view) (old_parts o))
  filled_before None e x is = absurd (cc)
  filled_before (Some y) e x is =
      subst (λ ts. Each (IsFilled p s []) (holds p ts (markup_in p ks n) y.view y.parts)) (same_tags p pend ks n kin live view now s counters h y e)
      (subst (λ es. Each (IsFilled p s es) (holds_in p ks n y)) (pending-none pend n before) (⊎_elim (λ gone. absurd gone) (λ all. all) (filled n y e)))

  module _ (tally : Tally) (after : After) (e : patched p tags n (markup_in p ks n) view s counters tally ≡ Ok after) where
    -- so has what is shown now
    filled_now : (o : Option Shown) → shown_of s n ≡ o → Each (IsFilled p s after.effects) (holds p tags (markup_in p ks n) view (parts_of after.showing n))
    filled_now None is = each_mono (IsMade after.effects) (IsFilled p s after.effects) (λ hold made t c tag comp. inr made) _ (patch_makes p tags n (markup_in p ks n) view s counters tally after is e).made
    filled_now (Some x) is =
        let olds : List Hold = holds p tags (markup_in p ks n) (old_view (shown_of s n) view) (parts_of s n) in
        each_mono (IsLent p after.effects after.kept olds) (IsFilled p s after.effects) (lent_filled p s after.effects after.kept olds (filled_before (shown_of s n) refl x is)) _
        (patch_lends p tags n (markup_in p ks n) view s counters tally after (fit_before p pend ks n kin live view now s counters h (shown_of s n) refl) e).lent

    module _ (parts : List Shape) (all : Each (IsFilled p s after.effects) (holds p tags (markup_in p ks n) view parts)) where
      abbrev shown_on : Shown
      shown_on = record { view = view; parts = parts }

      here : (x : Shown) → shown_of (recorded s n view parts) n ≡ Some x → Each (IsFilled p s (pending_of ((n, after.effects) ∷ pend) n)) (holds_in p ks n x)
      here x is =
          each_mono (IsFilled p s after.effects) (IsFilled p s (pending_of ((n, after.effects) ∷ pend) n))
          (λ hold was t c tag comp. ⊎_elim (λ there. inl there) (λ made. inr (any_here (Makes hold) pend n after.effects made)) (was t c tag comp)) (holds_in p ks n x)
          (subst (λ y. Each (IsFilled p s after.effects) (holds_in p ks n y)) (same_Some shown_on x (sym (found-put s.shown n shown_on) ∙ is)) all)

      elsewhere : (q : ℕ) (x : Shown) → shown_of s q ≡ Some x → Each (IsFilled p s (pending_of ((n, after.effects) ∷ pend) q)) (holds_in p ks q x)
      elsewhere q x is =
          each_mono (IsFilled p s (pending_of pend q)) (IsFilled p s (pending_of ((n, after.effects) ∷ pend) q))
          (λ hold was t c tag comp. ⊎_elim (λ there. inl there) (λ made. inr (any_right (Makes hold) (if nat_eq n q then after.effects else []) (pending_of pend q) made)) (was t c tag comp)) (holds_in p ks q x)
          (⊎_elim (λ gone. absurd gone) (λ all. all) (filled q x is))

      filled_recorded : AreFilled p ((n, after.effects) ∷ pend) [] ks (recorded s n view parts)
      filled_recorded q x is = inr (⊎_elim
          (λ same.
          subst (λ k. Each (IsFilled p s (pending_of ((n, after.effects) ∷ pend) k)) (holds_in p ks k x)) (sym same) (here x (sym (ap (shown_of (recorded s n view parts)) same) ∙ is)))
          (λ other. elsewhere q x (sym (found-put_other s.shown n shown_on q other) ∙ is))
          (cases_eq q n))

    pub filled_shows : AreFilled p ((n, after.effects) ∷ pend) [] ks after.showing
    filled_shows =
        let r = patch_records p tags n (markup_in p ks n) view s counters tally after e in
        let parts_are : parts_of after.showing n ≡ r.parts = ap (λ t. parts_of t n) r.is ∙ ap old_parts (found-put s.shown n (record { view = view; parts = r.parts })) in
        subst (λ t. AreFilled p ((n, after.effects) ∷ pend) [] ks t) (sym r.is)
        (filled_recorded r.parts (subst (λ parts. Each (IsFilled p s after.effects) (holds p tags (markup_in p ks n) view parts)) parts_are (filled_now (shown_of s n) refl)))
