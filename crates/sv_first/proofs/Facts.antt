-- What is so of a page on which instances are made, and nothing else is done: on which views they are shown, and which ones they were lent.
use Rattle.std.proofs.Common.{◌≡◌, ◌≢◌, ⊎_elim, ℕ, ◌≤◌, [], length, Option, None, Some, is_some, refl, sym, ap, subst, ◌∙◌, arith}
use Rattle.std.proofs.lemmas.Bool.{cases_eq}
use Rattle.std.proofs.lemmas.List.{length-set, length_push}
use Rattle.std.proofs.lemmas.Option.{none-some, same_Some}
use Rattle.sv_code.proofs.Each.{each_mono}
use Rattle.sv_code.specs.Names.{Each}
use Rattle.sv_code.specs.declared.program.Program.{Program}
use Rattle.sv_family.proofs.Born.{at_same, at_other, live_other, which, not_lent, born_stay}
use Rattle.sv_family.proofs.Course.{Fact, born_kin, with_born}
use Rattle.sv_family.proofs.Held.{held_alone}
use Rattle.sv_family.proofs.Holding.{any_mono, each_both}
use Rattle.sv_family.proofs.Staying.{Stay, shown_holds}
use Rattle.sv_family.proofs.Whole.{Whole}
use Rattle.sv_family.specs.Family.{Family, AreParents, IsShown, HasHold, holds_in}
use Rattle.sv_family.specs.Kin.{Kin, Kins, with_lent}
use Rattle.sv_family.specs.Pending.{Pending}
use Rattle.sv_instance.specs.Standing.{Place}
use Rattle.sv_numbered.specs.Numbered.{at, altered}
use Rattle.sv_shapes.specs.Showing.{Showing, shown_of, child_at}
use Rattle.sv_shapes.specs.declared.shown.Shown.{Shown}
use Rattle.sv_stands.specs.Holds.{Hold}
use Rattle.sv_states.proofs.Altering.{altered-some, at-altered_same, at-altered_other}
use Rattle.sv_view.specs.Level.{View}
use Rattle.sv_view.specs.View.{levels_of}

-- an instance is shown on a view of its own, without row locals, before the levels of the view that it was lent
pub record IsOn (ks : Kins) (n : ℕ) (x : Shown) : Type 0 where
  pub kin : Kin
  pub live : at ks n ≡ Some kin
  pub inst : x.view.own.inst ≡ n
  pub locals : x.view.own.locals ≡ []
  pub owners : x.view.owners ≡ levels_of kin.lent

-- the view that the child at a place was lent is the one on which its tag stands
abbrev pub HoldIsLent : Kins → Showing → Hold → Type 0
HoldIsLent ks s h = (n : ℕ) (kin : Kin) (v : View) → child_at s h.place ≡ Some n → at ks n ≡ Some kin → kin.lent ≡ Some v → v ≡ h.view

-- so it is of all that are shown; and nobody has the number 0
pub record AreOn (p : Program) (ks : Kins) (s : Showing) : Type 0 where
  pub some : 1 ≤ length ks
  pub nobody : at ks 0 ≡ None
  pub on : (n : ℕ) (x : Shown) → shown_of s n ≡ Some x → IsOn ks n x
  pub lent : (n : ℕ) (x : Shown) → shown_of s n ≡ Some x → Each (HoldIsLent ks s) (holds_in p ks n x)

-- and instances stand as they should
abbrev pub First : Program → Fact
First p pend new leaving ks s next = Whole p pend new leaving ks s next × AreOn p ks s

-- ---- an instance is made

module _ (p : Program) (ks : Kins) (place : Place) (cells : ℕ) (s t : Showing) (parents : AreParents ks) (shown : (n : ℕ) (x : Shown) → shown_of s n ≡ Some x → IsShown p ks n x)
    (old : (a n : ℕ) → child_at t a ≡ Some n → n ≢ length ks → child_at s a ≡ Some n) (same : (n : ℕ) → shown_of t n ≡ shown_of s n) (h : AreOn p ks s) where
  abbrev grown : Kins
  grown = with_born ks place cells

  born_hold : (g : Hold) → HoldIsLent ks s g → HoldIsLent grown t g
  born_hold g k n kin v there live lent = ⊎_elim
      (λ was. k n kin v (old g.place n there (live_other ks place cells n (ap is_some was))) was lent)
      (λ new. absurd (not_lent ks place cells kin v new.1 lent))
      (which ks place cells n kin live)

  born_on : (n : ℕ) (x : Shown) → shown_of s n ≡ Some x → IsOn grown n x
  born_on n x is = let k = h.on n x is in record { kin = k.kin; live = at_same ks place cells n k.kin k.live; inst = k.inst; locals = k.locals; owners = k.owners }

  pub all_born : AreOn p grown t
  all_born = record {
    some = let e = length_push ks (Some (born_kin place cells)) in let k = h.some in omega (arith, e, k);
    nobody = at_other ks place cells 0 (λ z. let k = h.some in omega (arith, k, z)) ∙ h.nobody;
    on = λ n x is. born_on n x (sym (same n) ∙ is);
    lent = λ n x is. subst (λ hs. Each (HoldIsLent grown t) hs) (sym (shown_holds ks grown (born_stay ks place cells) parents p n x (shown n x (sym (same n) ∙ is))))
        (each_mono (HoldIsLent ks s) (HoldIsLent grown t) born_hold (holds_in p ks n x) (h.lent n x (sym (same n) ∙ is)));
  }

-- ---- a view is lent

module _ (p : Program) (pend : Pending) (new : Option ℕ) (q place n : ℕ) (kin : Kin) (view : View) (ks : Kins) (s : Showing) (next : ℕ)
    (has : HasHold p ks s q place view) (is : child_at s place ≡ Some n) (live : at ks n ≡ Some kin) (f : Family p pend new [] ks s next) (unseen : shown_of s n ≡ None) (h : AreOn p ks s) where
  abbrev later : Kins
  later = altered (with_lent view) ks n

  at_lent : at later n ≡ Some (with_lent view kin)
  at_lent = at-altered_same (with_lent view) ks n kin live

  at_else : (m : ℕ) → m ≢ n → at later m ≡ at ks m
  at_else m other = at-altered_other (with_lent view) ks n m other

  lent_stay : Stay ks later
  lent_stay m k e = ⊎_elim
      (λ same.
      let one : kin ≡ k = same_Some kin k (sym live ∙ (ap (at ks) (sym same) ∙ e)) in
      record { now = with_lent view kin; is = ap (at later) same ∙ at_lent; place = ap (λ (z : Kin). z.place) one; cells = ap (λ (z : Kin). z.cells) one })
      (λ other. record { now = k; is = at_else m other ∙ e; place = refl; cells = refl })
      (cases_eq m n)

  -- each hold at its place stands on the view
  only : (r : ℕ) (y : Shown) → shown_of s r ≡ Some y → Each (λ g. g.place ≡ place → view ≡ g.view) (holds_in p ks r y)
  only r y there =
      held_alone pend ks s next f.places p f.shown (λ g. view ≡ g.view) place q has.shown has.is
      (any_mono (λ g. (g.place ≡ place) × (g.view ≡ view)) (λ g. (g.place ≡ place) × (view ≡ g.view)) (λ g k. (k.0, sym k.1)) (holds_in p ks q has.shown) has.hold) r y there

  lent_hold : (g : Hold) → HoldIsLent ks s g → (g.place ≡ place → view ≡ g.view) → HoldIsLent later s g
  lent_hold g k one m kin' v there live' lent = ⊎_elim
      (λ own.
      let it : kin' ≡ with_lent view kin = same_Some kin' (with_lent view kin) (sym live' ∙ (ap (at later) own ∙ at_lent)) in
      same_Some v view (sym lent ∙ ap (λ (z : Kin). z.lent) it) ∙ one (f.children.once g.place place n (there ∙ ap Some own) is))
      (λ other. k m kin' v there (sym (at_else m other) ∙ live') lent)
      (cases_eq m n)

  -- who is shown isn't the one
  shown_other : (m : ℕ) (x : Shown) → shown_of s m ≡ Some x → m ≢ n
  shown_other m x e same = none-some x (sym unseen ∙ (ap (shown_of s) (sym same) ∙ e))

  pub all_lent : AreOn p later s
  all_lent = record {
    some = let e = ap length (altered-some (with_lent view) ks n kin live) ∙ length-set ks n (Some (with_lent view kin)) in let k = h.some in omega (arith, e, k);
    nobody = at_else 0 (λ z. none-some kin (sym h.nobody ∙ (ap (at ks) z ∙ live))) ∙ h.nobody;
    on = λ m x e. let k = h.on m x e in record { kin = k.kin; live = at_else m (shown_other m x e) ∙ k.live; inst = k.inst; locals = k.locals; owners = k.owners };
    lent = λ m x e. subst (λ hs. Each (HoldIsLent later s) hs) (sym (shown_holds ks later lent_stay f.parents p m x (f.shown m x e)))
        (each_both (HoldIsLent ks s) (λ g. g.place ≡ place → view ≡ g.view) (HoldIsLent later s) lent_hold (holds_in p ks m x) (h.lent m x e) (only m x e));
  }
