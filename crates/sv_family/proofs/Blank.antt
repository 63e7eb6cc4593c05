-- Where nobody is live and nothing is shown, nobody stands anywhere.
use Rattle.std.proofs.Common.{◌≡◌, ℕ, zero, suc, ◌≤◌, ◌+◌, [], ◌∷◌, Some, None, refl, sym, ap, ◌∙◌, arith}
use Rattle.std.proofs.lemmas.Option.{none-some}
use Rattle.sv_code.specs.declared.program.Program.{Program}
use Rattle.sv_family.specs.Family.{Family, AreFilled, load}
use Rattle.sv_family.specs.Kin.{Kin, Kins, tag_of, tag_at, parent_of, parent_at, depth_of, depth_at}
use Rattle.sv_numbered.specs.Numbered.{at}
use Rattle.sv_places.specs.Numbers.{count, given}
use Rattle.sv_shapes.proofs.Tagging.{all-nil}
use Rattle.sv_shapes.specs.Showing.{nothing}

-- nobody is there
abbrev nobody : Kins
nobody = None ∷ []

none_at : (n : ℕ) → at nobody n ≡ None
none_at zero = refl
none_at (suc n) = refl

none_there : {A : Type 0} (n : ℕ) (kin : Kin) → at nobody n ≡ Some kin → A
none_there n kin e = absurd (none-some kin (sym (none_at n) ∙ e))

no_parent : {A : Type 0} (n q : ℕ) → parent_at nobody n ≡ Some q → A
no_parent n q e = absurd (none-some q (sym (ap parent_of (none_at n)) ∙ e))

no_tag : {A : Type 0} (n k : ℕ) → tag_at nobody n ≡ Some k → A
no_tag n k e = absurd (none-some k (sym (ap tag_of (none_at n)) ∙ e))

no_depth : (n : ℕ) → depth_at nobody n ≡ 0
no_depth n = ap depth_of (none_at n)

no_load : (q place : ℕ) → load [] nothing q place ≡ 0
no_load q place = ap (λ ps. count place ps + 0) all-nil

below : (l g : ℕ) → l ≡ 0 → l ≤ g
below l g e = omega (arith, e)

pub family_blank : (p : Program) (next : ℕ) → Family p [] None [] (None ∷ []) nothing next
family_blank p next = record {
  parents = record {
    earlier = λ n q e. no_parent n q e;
    live = λ n q e. no_parent n q e;
    deeper = λ n q e. no_parent n q e;
    shallow = λ n. below (depth_at nobody n) _ (no_depth n);
    tagged = λ n k e. no_tag n k e;
  };
  cells = λ n kin c e f. none_there n kin e;
  lent = record {
    above = λ n kin v e f. none_there n kin e;
    owners = λ n k kin v e f g. none_there n kin e;
    there = λ n kin e f g. none_there n kin e;
    unseen = λ n e. refl;
  };
  sorted = tt;
  shown = λ n x e. absurd (none-some x e);
  places = record {
    once = λ q place. below (load [] nothing q place) (given 0 next place) (no_load q place);
    apart = λ q r place ne. let a = no_load q place in let b = no_load r place in omega (arith, a, b);
    kids = λ q place. omega arith;
    due = λ q place. omega arith;
  };
  children = record {
    sorted = tt;
    parent = λ place n e. absurd (none-some n e);
    once = λ a b n e f. absurd (none-some n e);
    left = λ place n l e. none-some n e;
    stand = λ n q e. no_parent n q e;
  };
  kept = λ n x e. absurd (none-some x e);
  pending = record { ascend = tt; made = tt; for = tt; shown = tt };
}

-- nor is there a tag
pub filled_blank : (p : Program) → AreFilled p [] [] (None ∷ []) nothing
filled_blank p q x e = absurd (none-some x e)
