-- What is so of lines: one child of an instance at most is in a line, and with a child its parent is.
use Rattle.std.proofs.Common.{◌≡◌, ℕ, zero, suc, ◌<◌, ◌≤◌, Bool, true, false, nat_eq, ◌||◌, Option, Some, None, refl, sym, ap, ◌∙◌, arith}
use Rattle.std.proofs.lemmas.Bool.{eqb-true, eq-eqb}
use Rattle.std.proofs.lemmas.Option.{same_Some}
use Rattle.sv_family.specs.Family.{AreParents}
use Rattle.sv_family.specs.Kin.{Kins, parent_at}
use Rattle.sv_marks.specs.Lines.{one_of, is_up}

later_true : (a b : Bool) → b ≡ true → (a || b) ≡ true
later_true true b e = refl
later_true false b e = e

-- each is in its own line
itself : (ks : Kins) (n steps : ℕ) → 1 ≤ steps → is_up ks n steps n ≡ true
itself ks n zero h = absurd (omega (arith, h))
itself ks n (suc steps) h = by (nat_eq n n) (eq-eqb n n refl)
  where
    by : (b : Bool) → b ≡ true → (b || one_of (is_up ks n steps) (parent_at ks n)) ≡ true
    by true e = refl
    by false e = absurd (cc)

module _ (ks : Kins) (h : AreParents ks) where
  -- those in a line were made no later
  pub line_below : (n steps d : ℕ) → is_up ks n steps d ≡ true → n ≤ d
  line_below n zero d e = absurd (cc)
  line_below n (suc steps) d e = by (line_below n steps) (nat_eq n d) refl (parent_at ks d) refl e
    where
      by : ((q : ℕ) → is_up ks n steps q ≡ true → n ≤ q) → (b : Bool) → nat_eq n d ≡ b → (o : Option ℕ) → parent_at ks d ≡ o → (b || one_of (is_up ks n steps) o) ≡ true → n ≤ d
      by more true is o parent e = let same = eqb-true n d is in omega (arith, same)
      by more false is None parent e = absurd (cc)
      by more false is (Some q) parent e = let lt = h.earlier d q parent in let le = more q e in omega (arith, lt, le)

  -- no child of an instance is in the line of that instance, which is the parent of this one
  never_below : {A : Type 0} (c n q steps d : ℕ) → parent_at ks c ≡ Some n → parent_at ks d ≡ Some n → parent_at ks d ≡ Some q → is_up ks c steps q ≡ true → A
  never_below c n q steps d child parent here e =
      let same = same_Some q n (sym here ∙ parent) in let le = line_below c steps q e in let lt = h.earlier c n child in absurd (omega (arith, same, le, lt))

  -- one child of an instance at most is in a line
  pub line_once : (a b n steps d : ℕ) → parent_at ks a ≡ Some n → parent_at ks b ≡ Some n → is_up ks a steps d ≡ true → is_up ks b steps d ≡ true → a ≡ b
  line_once a b n zero d of_a of_b e f = absurd (cc)
  line_once a b n (suc steps) d of_a of_b e f = by (λ q. line_once a b n steps q of_a of_b) (nat_eq a d) refl (nat_eq b d) refl (parent_at ks d) refl e f
    where
      by : ((q : ℕ) → is_up ks a steps q ≡ true → is_up ks b steps q ≡ true → a ≡ b) → (x : Bool) → nat_eq a d ≡ x → (y : Bool) → nat_eq b d ≡ y → (o : Option ℕ) → parent_at ks d ≡ o →
          (x || one_of (is_up ks a steps) o) ≡ true → (y || one_of (is_up ks b steps) o) ≡ true → a ≡ b
      by more true is true at o parent e f = eqb-true a d is ∙ sym (eqb-true b d at)
      by more true is false at None parent e f = absurd (cc)
      by more true is false at (Some q) parent e f = never_below b n q steps d of_b (ap (parent_at ks) (sym (eqb-true a d is)) ∙ of_a) parent f
      by more false is true at None parent e f = absurd (cc)
      by more false is true at (Some q) parent e f = never_below a n q steps d of_a (ap (parent_at ks) (sym (eqb-true b d at)) ∙ of_b) parent e
      by more false is false at None parent e f = absurd (cc)
      by more false is false at (Some q) parent e f = more q e f

  -- with a child its parent is in a line
  pub line_further : (c n steps d : ℕ) → d < steps → parent_at ks c ≡ Some n → is_up ks c steps d ≡ true → is_up ks n steps d ≡ true
  line_further c n zero d lt child e = absurd (cc)
  line_further c n (suc steps) d lt child e = by (λ q less. line_further c n steps q less child) (nat_eq c d) refl (parent_at ks d) refl e
    where
      by : ((q : ℕ) → q < steps → is_up ks c steps q ≡ true → is_up ks n steps q ≡ true) → (b : Bool) → nat_eq c d ≡ b → (o : Option ℕ) → parent_at ks d ≡ o → (b || one_of (is_up ks c steps) o) ≡ true →
          (nat_eq n d || one_of (is_up ks n steps) o) ≡ true
      by more true is o parent e =
          let here : o ≡ Some n = sym parent ∙ (ap (parent_at ks) (sym (eqb-true c d is)) ∙ child) in
          let less = h.earlier c n child in
          let same = eqb-true c d is in
          later_true (nat_eq n d) (one_of (is_up ks n steps) o) (ap (one_of (is_up ks n steps)) here ∙ itself ks n steps (omega (arith, lt, less, same)))
      by more false is None parent e = absurd (cc)
      by more false is (Some q) parent e = later_true (nat_eq n d) (is_up ks n steps q) (more q (let less = h.earlier d q parent in omega (arith, less, lt)) e)
