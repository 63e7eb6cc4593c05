-- A state that a user leaves in an element changes nothing of what is true.
use Rattle.std.proofs.Common.{◌≡◌, ℕ, [], Option, Some, None, refl, sym, ap, subst, ◌∙◌, ⊎_elim}
use Rattle.std.proofs.lemmas.Bool.{cases_eq}
use Rattle.std.proofs.lemmas.Option.{same_Some}
use Rattle.sv_code.specs.Names.{Each}
use Rattle.sv_code.specs.declared.program.Program.{Program}
use Rattle.sv_family.specs.Family.{holds_in, markup_in}
use Rattle.sv_family.specs.Kin.{Kin, Kins, tags_in}
use Rattle.sv_numbered.specs.Numbered.{at}
use Rattle.sv_places.proofs.Lookups.{found-put, found-put_other}
use Rattle.sv_right.proofs.Leaving.{leaving}
use Rattle.sv_shapes.specs.Showing.{Showing, shown_of, recorded, laid_in, laid_on}
use Rattle.sv_shapes.specs.Typed.{laid_all}
use Rattle.sv_shapes.specs.declared.shown.Shown.{Shown}
use Rattle.sv_shown.specs.True.{Modules, IsRight, IsBehind, ChildIsHeld, AreTrue}
use Rattle.sv_stands.proofs.Markup.{all_stands}
use Rattle.sv_tokens.specs.declared.element.Typed.{Typed}

module _ (p : Program) (ms : Modules) (ks : Kins) (s : Showing) (next n mark : ℕ) (typed : Typed) (x : Shown) (is : shown_of s n ≡ Some x) (h : AreTrue p ms [] ks s next) where
  abbrev laid : Shown
  laid = record { view = x.view; parts = laid_all mark typed x.parts }

  abbrev after : Showing
  after = recorded s n x.view (laid_all mark typed x.parts)

  -- what is so of each that is shown, and of this one with the state too, is so afterwards
  stays : (Q : ℕ → Shown → Type 0) → ((q : ℕ) (y : Shown) → shown_of s q ≡ Some y → Q q y) → (Q n x → Q n laid) → (q : ℕ) (y : Shown) → shown_of after q ≡ Some y → Q q y
  stays Q all here q y e = ⊎_elim
      (λ same. subst (λ k. Q k y) (sym same) (subst (Q n) (same_Some laid y (sym (found-put s.shown n laid) ∙ (sym (ap (shown_of after) same) ∙ e))) (here (all n x is))))
      (λ other. all q y (sym (found-put_other s.shown n laid q other) ∙ e))
      (cases_eq q n)

  right_laid : IsRight p ms ks next n x → IsRight p ms ks next n laid
  right_laid k = record { stands = leaving p (tags_in ks x.view) (markup_in p ks n) x.view next mark typed x.parts k.stands; inst = k.inst; locals = k.locals; modules = k.modules; chain = k.chain }

  held_laid : holds_in p ks n laid ≡ holds_in p ks n x
  held_laid = (all_stands p (tags_in ks x.view) (markup_in p ks n)).same mark typed x.view x.parts

  true_laid : AreTrue p ms [] ks after next
  true_laid = record {
    standing = h.standing;
    right = stays (IsRight p ms ks next) h.right right_laid;
    behind = λ q kin y live e. stays (λ r z. (k : Kin) → at ks r ≡ Some k → IsBehind p ks ms k z) (λ r z f k there. h.behind r k z there f) (λ k. k) q y e kin live;
    lent = h.lent;
    held = stays (λ q y. Each (ChildIsHeld p [] ks s q) (holds_in p ks q y)) h.held (λ k. subst (λ hs. Each (ChildIsHeld p [] ks s n) hs) (sym held_laid) k);
  }

pub true_lays : (p : Program) (ms : Modules) (ks : Kins) (s : Showing) (next n mark : ℕ) (typed : Typed) → AreTrue p ms [] ks s next → AreTrue p ms [] ks (laid_on s n mark typed) next
true_lays p ms ks s next n mark typed h = by (shown_of s n) refl where
  by : (o : Option Shown) → shown_of s n ≡ o → AreTrue p ms [] ks (laid_in s n mark typed o) next
  by None e = h
  by (Some x) e = true_laid p ms ks s next n mark typed x e h
