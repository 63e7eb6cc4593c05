-- Levels that agree, as snapshots are taken and as instances and levels come and go.
use Rattle.std.proofs.Common.{◌≡◌, ℕ, ◌<◌, List, [], ◌∷◌, ◌++◌, length, Option, Some, None, sym, ap, subst, ◌∙◌, ⊎_elim, ◌⊎◌, slice_get}
use Rattle.std.specs.Prelude.{slice_set}
use Rattle.std.proofs.lemmas.Bool.{cases_eq}
use Rattle.std.proofs.lemmas.List.{get_or_append_left, get_or-set_same, get_or-set_other, length-set}
use Rattle.sv_flush.proofs.Past.{same_back}
use Rattle.sv_flush.proofs.Recording.{longer}
use Rattle.sv_flush.specs.Lent.{ArePast, SameByCount, LevelsAgree}
use Rattle.sv_frame.specs.Snapshots.{Snapshot}
use Rattle.sv_numbered.specs.Numbered.{at}
use Rattle.sv_view.specs.Cell.{Cell}

pub agree-fewer : (saw : List (Option Snapshot)) (S T : ℕ → List Cell → Type 0) → ((n : ℕ) (cells : List Cell) → T n cells → S n cells) → LevelsAgree saw S → LevelsAgree saw T
agree-fewer saw S T k h = record {
  made = λ n cells t. h.made n cells (k n cells t);
  past = λ n cells s t there. h.past n cells s (k n cells t) there;
  same = λ n a b t u. h.same n a b (k n a t) (k n b u);
}

-- one more level, of an instance with a number
module _ (saw : List (Option Snapshot)) (S T : ℕ → List Cell → Type 0) (k : ℕ) (own : List Cell) (below : k < length saw) (past : (s : Snapshot) → at saw k ≡ Some s → ArePast s own)
    (same : (b : List Cell) → S k b → SameByCount b own) (split : (n : ℕ) (cells : List Cell) → T n cells → S n cells ⊎ ((k ≡ n) × (own ≡ cells))) (h : LevelsAgree saw S) where
  same_own : (n : ℕ) (a b : List Cell) → S n a → k ≡ n → own ≡ b → SameByCount a b
  same_own n a b x at_k is = subst (SameByCount a) is (same a (subst (λ j. S j a) (sym at_k) x))

  both : (n : ℕ) (a b : List Cell) → S n a ⊎ ((k ≡ n) × (own ≡ a)) → S n b ⊎ ((k ≡ n) × (own ≡ b)) → SameByCount a b
  both n a b p q = ⊎_elim
      (λ x. ⊎_elim (λ y. h.same n a b x y) (λ f. same_own n a b x f.0 f.1) q)
      (λ e. ⊎_elim (λ y. same_back b a (same_own n b a y e.0 e.1)) (λ f. λ c _. ap (λ (cells : List Cell). slice_get cells c) (sym e.1 ∙ f.1)) q)
      p

  pub agree-more : LevelsAgree saw T
  agree-more = record {
    made = λ n cells t. ⊎_elim (λ x. h.made n cells x) (λ e. subst (λ j. j < length saw) e.0 below) (split n cells t);
    past = λ n cells s t there. ⊎_elim (λ x. h.past n cells s x there) (λ e. subst (ArePast s) e.1 (past s (ap (at saw) e.0 ∙ there))) (split n cells t);
    same = λ n a b t u. both n a b (split n a t) (split n b u);
  }

-- one instance saw something else, or is gone
pub agree-set : (saw : List (Option Snapshot)) (n : ℕ) (y : Option Snapshot) (S : ℕ → List Cell → Type 0) → ((s : Snapshot) (cells : List Cell) → y ≡ Some s → S n cells → ArePast s cells) → LevelsAgree saw S
    → LevelsAgree (slice_set saw n y) S
agree-set saw n y S new h = record {
  made = λ k cells x. subst (λ l. k < l) (sym (length-set saw n y)) (h.made k cells x);
  past = λ k cells s x there. ⊎_elim
      (λ is.
      let here : S n cells = subst (λ j. S j cells) is x in
      new s cells (sym (get_or-set_same saw n y None (h.made n cells here)) ∙ (sym (ap (at (slice_set saw n y)) is) ∙ there)) here)
      (λ other. h.past k cells s x (sym (get_or-set_other saw n k y None other) ∙ there))
      (cases_eq k n);
  same = h.same;
}

-- one more instance
pub agree-added : (saw : List (Option Snapshot)) (y : Option Snapshot) (S : ℕ → List Cell → Type 0) → LevelsAgree saw S → LevelsAgree (saw ++ y ∷ []) S
agree-added saw y S h = record {
  made = λ n cells x. longer saw y n (h.made n cells x);
  past = λ n cells s x there. h.past n cells s x (sym (get_or_append_left saw (y ∷ []) None n (h.made n cells x)) ∙ there);
  same = h.same;
}
