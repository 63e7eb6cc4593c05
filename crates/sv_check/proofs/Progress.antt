-- Files are looked at one after the other.
use Rattle.std.proofs.Common.{◌≡◌, ℕ, zero, suc, ◌<◌, ◌+◌, List, Option, [], ◌∷◌, ◌++◌, Some, length, refl, sym, ap, ◌∙◌, subst, inl, inr, arith}
use Rattle.std.specs.Prelude.{slice_get, unwrap_or}
use Rattle.std.proofs.lemmas.Bool.{cases_lt}
use Rattle.std.proofs.lemmas.List.{length_push}
use Rattle.std.proofs.lemmas.Option.{none-some, slice_get_within}
use Rattle.sv_ast.specs.declared.files.Bundle.{Bundle}
use Rattle.sv_ast.specs.declared.files.SourceFile.{SourceFile}
use Rattle.sv_resolve.specs.declared.refusals.CheckError.{CheckError}
use Rattle.sv_resolve.specs.declared.refusals.CheckError.TheVariants.{Refused, NoMemory}
use Rattle.sv_check.specs.declared.checked.CheckedComponent.{CheckedComponent}
use Rattle.sv_check.specs.declared.found.Found.{Found}
use Rattle.sv_check.specs.Checked.{IsCause, IsCauseIn, IsChecked, AreChecked}
use Rattle.sv_check.specs.Found.{AreFound}
use Rattle.sv_check.specs.Mistakes.{AreMistakes}

-- the first files have no mistakes, and this is told of them
pub record CheckedTo (bundle : Bundle) (found : Found) (count : ℕ) (components : List CheckedComponent) : Type 0 where
  pub clean : (n : ℕ) → n < count → AreMistakes bundle found.cycles found.pure n []
  pub size : length components ≡ count
  pub each : (n : ℕ) (source : SourceFile) (c : CheckedComponent) → slice_get bundle.files n ≡ Some source → slice_get components n ≡ Some c → IsChecked source c

some_same : {A : Type 0} (o : Option A) (a b : A) → o ≡ Some a → o ≡ Some b → a ≡ b
some_same o a b one other = ap (λ x. unwrap_or x a) (sym one ∙ other)

before_push : (xs : List CheckedComponent) (x : CheckedComponent) (n : ℕ) → n < length xs → slice_get (xs ++ x ∷ []) n ≡ slice_get xs n
before_push [] x n h = absurd (omega arith)
before_push (y ∷ xs) x zero h = refl
before_push (y ∷ xs) x (suc n) h = before_push xs x n (omega arith)

at_push : (xs : List CheckedComponent) (x : CheckedComponent) → slice_get (xs ++ x ∷ []) (length xs) ≡ Some x
at_push [] x = refl
at_push (y ∷ xs) x = at_push xs x

pub begun : (bundle : Bundle) (found : Found) → CheckedTo bundle found 0 []
begun bundle found = record {
  clean = λ n h. absurd (omega arith);
  size = refl;
  each = λ n source c there told. absurd (none-some c told);
}

-- one more file
pub further : (bundle : Bundle) (found : Found) (n : ℕ) (components all : List CheckedComponent) (source : SourceFile) (checked : CheckedComponent) → CheckedTo bundle found n components
    → slice_get bundle.files n ≡ Some source → AreMistakes bundle found.cycles found.pure n [] → IsChecked source checked → all ≡ components ++ checked ∷ [] → CheckedTo bundle found (n + 1) all
further bundle found n components all source checked so_far there clean is pushed = record {
  clean = λ m h. elim (cases_lt m n) [
    | inl low ↦ so_far.clean m low
    | inr high ↦ let same : n ≡ m = omega arith in subst (λ k. AreMistakes bundle found.cycles found.pure k []) same clean
  ];
  size = ap length pushed ∙ length_push components checked ∙ ap (λ k. k + 1) so_far.size;
  each = λ m other c file told.
      let told' : slice_get (components ++ checked ∷ []) m ≡ Some c = ap (λ l. slice_get l m) (sym pushed) ∙ told in
      let within = slice_get_within (components ++ checked ∷ []) m c told' in
      let long = length_push components checked in
      let size = so_far.size in
      elim (cases_lt m n) [
        | inl low ↦ so_far.each m other c file (sym (before_push components checked m (omega arith)) ∙ told')
        | inr high ↦
            let same : length components ≡ m = omega arith in
            let last : m ≡ n = omega arith in
            let own : checked ≡ c = some_same (slice_get (components ++ checked ∷ []) m) checked c (ap (λ k. slice_get (components ++ checked ∷ []) k) (sym same) ∙ at_push components checked) told' in
            let its : source ≡ other = some_same (slice_get bundle.files m) source other (ap (λ k. slice_get bundle.files k) last ∙ there) file in
            subst (λ s. IsChecked s c) its (subst (IsChecked source) own is)
      ];
}

-- all files
pub whole : (bundle : Bundle) (found : Found) (n : ℕ) (components : List CheckedComponent) → CheckedTo bundle found n components → n ≡ length bundle.files → AreChecked bundle components
whole bundle found n components so_far all = record { size = so_far.size ∙ all; each = so_far.each }

-- the first file with a mistake
pub refused_at : (bundle : Bundle) (found : Found) (n : ℕ) (components : List CheckedComponent) (error : CheckError) → CheckedTo bundle found n components → AreFound bundle found
    → IsCauseIn bundle found.cycles found.pure n error → IsCause bundle error
refused_at bundle found n components (Refused refusal) so_far are is = record {
  cycles = found.cycles;
  are_cycles = are.are_cycles;
  pure = found.pure;
  are_pure = are.are_pure;
  file = n;
  clean_before = so_far.clean;
  is_first = is;
}
refused_at bundle found n components NoMemory so_far are is = tt
