-- Instances leave their places, and go: what is true of the others stays.
use Rattle.std.proofs.Common.{◌≡◌, inl, ℕ, List, None, Some, ◌∙◌}
use Rattle.std.specs.Prelude.{slice_set}
use Rattle.sv_code.proofs.Each.{each_mono, each_of}
use Rattle.sv_code.specs.declared.program.Program.{Program}
use Rattle.sv_family.proofs.Going.{below-other, below-stays}
use Rattle.sv_family.proofs.Leaving.{stood}
use Rattle.sv_family.proofs.Removal.{at-other, at-differs, at-before, found-before, found-other}
use Rattle.sv_family.specs.Family.{Family, AreSorted, holds_in}
use Rattle.sv_family.specs.Kin.{Kin, Kins, parent_at}
use Rattle.sv_family.specs.Pending.{Pending}
use Rattle.sv_shapes.specs.Showing.{Showing, child_at, without_child, removed}
use Rattle.sv_shown.proofs.Staying.{AllRemain, AreNew, remains_same, true_remain}
use Rattle.sv_shown.specs.True.{Modules, IsHeld, ChildIsHeld, AreTrue}

-- the child at a place leaves
pub true_taken : (p : Program) (ms : Modules) (pend : Pending) (ks : Kins) (s : Showing) (next place : ℕ) → AreSorted s.children → AreTrue p ms pend ks s next → AreTrue p ms pend ks (without_child s place) next
true_taken p ms pend ks s next place sorted h = record {
  standing = h.standing;
  right = h.right;
  behind = h.behind;
  lent = h.lent;
  held = λ q x is.
      each_mono (ChildIsHeld p pend ks s q) (ChildIsHeld p pend ks (without_child s place) q) (λ hold was n kin there live. was n kin (stood s place sorted hold.place n there) live) (holds_in p ks q x) (h.held q x is);
}

-- who has no children goes
module _ (p : Program) (pend : Pending) (leaving : List ℕ) (n : ℕ) (ks : Kins) (s : Showing) (next : ℕ) (alone : (d : ℕ) → parent_at ks d ≡ Some n → ⊥) (f : Family p pend None leaving ks s next) where
  abbrev others : Kins
  others = slice_set ks n None

  others_remain : AllRemain p ks others s (removed s n)
  others_remain = record {
    shown = λ m x is. found-before n m s.shown x f.sorted is;
    live = λ m x is. let k = f.shown m x (found-before n m s.shown x f.sorted is) in (k.kin, at-other ks n m (found-other n m s.shown x f.sorted is) ∙ k.live);
    here = λ m kin live was. remains_same p ks others m (at-other ks n m (at-differs ks n m kin live));
    above = λ o m kin live below. (below-stays ks n alone o m (at-differs ks n m kin live) below, remains_same p ks others o (at-other ks n o (below-other ks n alone o m below)));
  }

  none_new : (ms : Modules) → AreNew p ms pend ks others s (removed s n) next (λ m kin. ⊥)
  none_new ms = record {
    which = λ m kin live. inl (at-before ks n m kin live);
    stood = λ place m kin there live. there;
    standing = λ m kin st now is. absurd now;
    behind = λ m kin x now is. absurd now;
    lent = λ m kin view now is. absurd now;
    held = λ q x is. each_of (λ hold. (m : ℕ) (kin : Kin) → child_at (removed s n) hold.place ≡ Some m → ⊥ → IsHeld p pend others q hold m kin) (λ hold m kin there now. absurd now) (holds_in p ks q x);
  }

  pub true_gone : (ms : Modules) → AreTrue p ms pend ks s next → AreTrue p ms pend others (removed s n) next
  true_gone ms h = true_remain p ms pend ks others s (removed s n) next others_remain f.shown f.lent.above (λ m kin. ⊥) (none_new ms) h
