-- Tags for which effects are, while instances stay.
use Rattle.std.proofs.Common.{◌≡◌, ⊎_elim, inl, inr, ℕ, List, [], ◌∷◌, Some, sym, ap, subst, ◌∙◌}
use Rattle.std.proofs.lemmas.Option.{same_Some}
use Rattle.sv_code.proofs.Each.{each_mono}
use Rattle.sv_code.specs.Names.{Each}
use Rattle.sv_code.specs.declared.program.Program.{Program}
use Rattle.sv_family.proofs.Staying.{Stay, is_there, shown_holds}
use Rattle.sv_family.specs.Family.{AreParents, IsShown, HasHold, ArePending, holds_in}
use Rattle.sv_family.specs.Kin.{Kins}
use Rattle.sv_family.specs.Pending.{Pending}
use Rattle.sv_parts.specs.declared.state.Effect.{Effect}
use Rattle.sv_parts.specs.declared.state.Effect.TheVariants.{Create, Set}
use Rattle.sv_parts.specs.declared.state.Given.{Given}
use Rattle.sv_shapes.specs.Showing.{Showing, shown_of}
use Rattle.sv_shapes.specs.declared.shown.Shown.{Shown}
use Rattle.sv_stands.specs.Holds.{Hold}
use Rattle.sv_places.specs.Any.{Any}
use Rattle.sv_stands.specs.Lent.{IsFor, Makes, Lends}
use Rattle.sv_view.specs.Level.{View}

pub any_mono : {A : Type 0} (P Q : A → Type 0) → ((x : A) → P x → Q x) → (xs : List A) → Any P xs → Any Q xs
any_mono P Q f [] h = absurd h
any_mono P Q f (x ∷ xs) (inl h) = inl (f x h)
any_mono P Q f (x ∷ xs) (inr h) = inr (any_mono P Q f xs h)

pub each_both : {A : Type 0} (P Q R : A → Type 0) → ((x : A) → P x → Q x → R x) → (xs : List A) → Each P xs → Each Q xs → Each R xs
each_both P Q R f [] h k = tt
each_both P Q R f (x ∷ xs) h k = (f x h.0 k.0, each_both P Q R f xs h.1 k.1)

-- ---- the first effect

-- an instance whose effects are still to run is shown
pub effects_shown : (p : Program) (pend : Pending) (q : ℕ) (e : Effect) (es : List Effect) (ks : Kins) (s : Showing) → ArePending p ((q, e ∷ es) ∷ pend) ks s → (x : Shown) × (shown_of s q ≡ Some x)
effects_shown p pend q e es ks s h = is_there (shown_of s q) (⊎_elim (λ none. absurd (cc)) (λ some. some) h.shown.0)

module _ (p : Program) (pend : Pending) (q place : ℕ) (props : List Given) (es : List Effect) (ks : Kins) (s : Showing) where
  -- the tag for which a child is made
  pub made_for : (t : ℕ) (view : View) (h : ArePending p ((q, Create place t props view ∷ es) ∷ pend) ks s) → (x : Shown) → shown_of s q ≡ Some x →
      Any (λ (h : Hold). (h.place ≡ place) × ((h.tag ≡ t) × (h.view ≡ view))) (holds_in p ks q x)
  made_for t view h x is = any_mono (λ (h : Hold). Makes h (Create place t props view)) _ (λ h m. (sym m.0, (sym m.1, sym m.2))) (holds_in p ks q x) (h.for.0 x is).0

  pub create_hold : (t : ℕ) (view : View) → ArePending p ((q, Create place t props view ∷ es) ∷ pend) ks s → HasHold p ks s q place view
  create_hold t view h =
      let x = effects_shown p pend q (Create place t props view) es ks s h in
      record { shown = x.0; is = x.1; hold = any_mono (λ (h : Hold). (h.place ≡ place) × ((h.tag ≡ t) × (h.view ≡ view))) _ (λ h m. (m.0, m.1.1)) (holds_in p ks q x.0) (made_for t view h x.0 x.1) }

  pub set_hold : (view : View) → ArePending p ((q, Set place props (Some view) ∷ es) ∷ pend) ks s → HasHold p ks s q place view
  set_hold view h =
      let x = effects_shown p pend q (Set place props (Some view)) es ks s h in
      record { shown = x.0; is = x.1; hold = any_mono (λ (h : Hold). Lends h (Set place props (Some view))) _ (λ h m. (sym m.0, sym (same_Some view h.view m.1))) (holds_in p ks q x.0) (h.for.0 x.0 x.1).0 }

-- ---- while all stay

module _ (ks later : Kins) (stay : Stay ks later) (parents : AreParents ks) (p : Program) (s : Showing) (shown : (n : ℕ) (x : Shown) → shown_of s n ≡ Some x → IsShown p ks n x) where
  pub for_stays : (pend : Pending) → Each (λ e. (x : Shown) → shown_of s e.0 ≡ Some x → Each (IsFor (holds_in p ks e.0 x)) e.1) pend → Each (λ e. (x : Shown) → shown_of s e.0 ≡ Some x → Each (IsFor (holds_in p later e.0 x)) e.1) pend
  for_stays pend h = each_mono _ _ (λ e f x is. subst (λ z. Each (IsFor z) e.1) (sym (shown_holds ks later stay parents p e.0 x (shown e.0 x is))) (f x is)) pend h

  pub hold_stays : (t : Showing) → t.shown ≡ s.shown → (q place : ℕ) (view : View) → HasHold p ks s q place view → HasHold p later t q place view
  hold_stays t same q place view h = record {
    shown = h.shown;
    is = ap (λ z. shown_of (record s { shown = z }) q) same ∙ h.is;
    hold = subst (λ z. Any (λ (h : Hold). (h.place ≡ place) × (h.view ≡ view)) z) (sym (shown_holds ks later stay parents p q h.shown (shown q h.shown h.is))) h.hold;
  }
