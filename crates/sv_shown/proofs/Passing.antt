-- Effects that change no child, and those that are done: what is true stays.
use Rattle.std.proofs.Common.{◌≡◌, ◌⊎◌, ⊎_elim, inl, inr, ℕ, false, List, [], ◌∷◌, Option, None, Some, sym, ap, subst, ◌∙◌}
use Rattle.std.proofs.lemmas.Bool.{true≢false}
use Rattle.std.proofs.lemmas.Option.{none-some, same_Some}
use Rattle.sv_code.proofs.Each.{each_mono, each_of}
use Rattle.sv_code.specs.Names.{Each}
use Rattle.sv_code.specs.declared.program.Program.{Program}
use Rattle.sv_family.proofs.Filling.{any_next}
use Rattle.sv_family.proofs.Holding.{each_both}
use Rattle.sv_family.proofs.Passing.{pending-done}
use Rattle.sv_family.specs.Family.{holds_in}
use Rattle.sv_family.specs.Kin.{Kin, Kins, is_lent}
use Rattle.sv_family.specs.Pending.{Pending, pending_of}
use Rattle.sv_numbered.specs.Numbered.{at}
use Rattle.sv_parts.specs.declared.state.Effect.{Effect}
use Rattle.sv_parts.specs.declared.state.Effect.TheVariants.{Set}
use Rattle.sv_parts.specs.declared.state.Given.{Given}
use Rattle.sv_places.specs.Any.{Any}
use Rattle.sv_shapes.specs.Showing.{Showing, shown_of, child_at}
use Rattle.sv_shapes.specs.declared.shown.Shown.{Shown}
use Rattle.sv_shown.specs.True.{Modules, Agrees, ChildIsHeld, AreTrue}
use Rattle.sv_stands.specs.Holds.{Hold}
use Rattle.sv_stands.specs.Lent.{Lends}
use Rattle.sv_view.specs.Level.{View}

module _ (p : Program) (ks : Kins) (s : Showing) where
  -- of each view that the child at a hold's place was lent
  abbrev OfLent : Hold → (View → Type 0) → Type 0
  OfLent h P = (n : ℕ) (kin : Kin) (view : View) → child_at s h.place ≡ Some n → at ks n ≡ Some kin → kin.lent ≡ Some view → P view

  -- an effect that lends to the hold's child may be done: the views agree
  abbrev pub MayPass : Effect → Hold → Type 0
  MayPass e h = Lends h e → OfLent h (Agrees p ks h)

  -- so it is with all that are done
  abbrev MayAllPass : List Effect → List Effect → Hold → Type 0
  MayAllPass es less h = Any (Lends h) es → OfLent h (λ view. Any (Lends h) less ⊎ Agrees p ks h view)

  module _ (ms : Modules) (next : ℕ) where
    -- it goes on with other effects
    true_pending : (pend less : Pending) → ((q : ℕ) (x : Shown) → shown_of s q ≡ Some x → Each (MayAllPass (pending_of pend q) (pending_of less q)) (holds_in p ks q x)) → AreTrue p ms pend ks s next →
        AreTrue p ms less ks s next
    true_pending pend less pass h = record {
      standing = h.standing;
      right = h.right;
      behind = h.behind;
      lent = h.lent;
      held = λ q x is.
          each_both (MayAllPass (pending_of pend q) (pending_of less q)) (ChildIsHeld p pend ks s q) (ChildIsHeld p less ks s q) (one_held q) (holds_in p ks q x) (pass q x is) (h.held q x is);
    }
      where
        one_held : (q : ℕ) (hold : Hold) → MayAllPass (pending_of pend q) (pending_of less q) hold → ChildIsHeld p pend ks s q hold → ChildIsHeld p less ks s q hold
        one_held q hold may was n kin there live = let k = was n kin there live in record {
          owner = k.owner;
          followed = λ view is.
              let f = k.followed view is in
              record { later = f.later; agrees = ⊎_elim (λ lends. may lends n kin view there live is) (λ a. inr a) f.agrees };
        }

    -- the first effect is done
    pub true_next : (pend : Pending) (q : ℕ) (e : Effect) (es : List Effect) → ((r : ℕ) (x : Shown) → shown_of s r ≡ Some x → Each (MayPass e) (holds_in p ks r x)) → AreTrue p ms ((q, e ∷ es) ∷ pend) ks s next →
        AreTrue p ms ((q, es) ∷ pend) ks s next
    true_next pend q e es pass h = true_pending ((q, e ∷ es) ∷ pend) ((q, es) ∷ pend)
        (λ r x is. each_mono (MayPass e) (MayAllPass (pending_of ((q, e ∷ es) ∷ pend) r) (pending_of ((q, es) ∷ pend) r))
        (λ hold may lends n kin view there live l. ⊎_elim (λ first. inr (may first n kin view there live l)) (λ rest. inl rest) (any_next (Lends hold) pend q e es r lends)) (holds_in p ks r x) (pass r x is)) h

    -- an effect that lends nothing is done
    pub true_done : (pend : Pending) (q : ℕ) (e : Effect) (es : List Effect) → ((h : Hold) → MayPass e h) → AreTrue p ms ((q, e ∷ es) ∷ pend) ks s next → AreTrue p ms ((q, es) ∷ pend) ks s next
    true_done pend q e es pass h = true_next pend q e es (λ r x is. each_of (MayPass e) pass (holds_in p ks r x)) h

    -- the effects of an instance are done
    pub true_ends : (pend : Pending) (q : ℕ) → AreTrue p ms ((q, []) ∷ pend) ks s next → AreTrue p ms pend ks s next
    true_ends pend q h = true_pending ((q, []) ∷ pend) pend
        (λ r x is. each_of (MayAllPass (pending_of ((q, []) ∷ pend) r) (pending_of pend r)) (λ hold lends n kin view there live l. inl (subst (Any (Lends hold)) (pending-done pend q r) lends)) (holds_in p ks r x)) h

  -- ---- children that get what moved

  module _ (place : ℕ) (props : List Given) where
    -- nothing is lent where no view is handed on
    pub passes_no_view : (h : Hold) → MayPass (Set place props None) h
    passes_no_view h lends n kin view there live is = absurd (none-some h.view lends.1)

    -- or nobody stands at the place
    pub passes_nobody : (view : Option View) → child_at s place ≡ None → (h : Hold) → MayPass (Set place props view) h
    passes_nobody view none h lends n kin v there live is = absurd (none-some n (sym none ∙ (ap (child_at s) lends.0 ∙ there)))

    -- or who stands there isn't live
    pub passes_dead : (view : Option View) (m : ℕ) → child_at s place ≡ Some m → at ks m ≡ None → (h : Hold) → MayPass (Set place props view) h
    passes_dead view m stands none h lends n kin v there live is =
        let same = same_Some m n (sym stands ∙ (ap (child_at s) lends.0 ∙ there)) in absurd (none-some kin (sym none ∙ (ap (at ks) same ∙ live)))

    -- or has no cell for a view, so that it was lent none
    pub passes_spared : (ms : Modules) (pend : Pending) (next : ℕ) (view : Option View) (m : ℕ) (one : Kin) → child_at s place ≡ Some m → at ks m ≡ Some one → is_lent p one ≡ false → AreTrue p ms pend ks s next → (h : Hold) →
        MayPass (Set place props view) h
    passes_spared ms pend next view m one stands is_one spared f h lends n kin v there live is =
        let same = same_Some m n (sym stands ∙ (ap (child_at s) lends.0 ∙ there)) in
        let kin_is = same_Some kin one (sym live ∙ (ap (at ks) (sym same) ∙ is_one)) in
        absurd (true≢false (sym (f.lent n kin v live is).takes ∙ (ap (is_lent p) kin_is ∙ spared)))
