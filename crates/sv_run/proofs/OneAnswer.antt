-- No words and files call for two answers.
use Rattle.std.proofs.Common.{◌≡◌, ◌<◌, ◌≤◌, ℕ, List, [], ◌∷◌, drop, get_or, length, Option, refl, ap, sym, subst, ◌∙◌, arith}
use Rattle.std.specs.Prelude.{Some, None, Result, Ok, Err, slice_get}
use Rattle.sv_ast.specs.declared.files.Bundle.{Bundle}
use Rattle.sv_check.specs.Checked.{IsClean, AreChecked, IsOneMistake, IsMistakeOrClean}
use Rattle.sv_code.specs.declared.program.Program.{Program}
use Rattle.sv_compile.specs.Compile.{program}
use Rattle.sv_compile.specs.Laws.{IsOneProgram, IsOneOrder}
use Rattle.sv_io.specs.Files.{Files}
use Rattle.sv_listing.specs.Listing.{listing}
use Rattle.sv_load.specs.Laws.{IsOneOutcome}
use Rattle.sv_load.specs.Loads.{Reads, nothing as no_files}
use Rattle.sv_load.specs.declared.refusals.LoadError.{LoadError}
use Rattle.sv_run.specs.Answer.{Answer, sums, listed, rendered}
use Rattle.sv_run.specs.Beside.{events_in, deeds_in}
use Rattle.sv_run.specs.Causes.{load_answer, mistake_answer, IsMistaken, IsUnfit, not_loaded, mistaken, Accepts, IsOver, unfit, fit, Compiles, IsAccepted, IsListed, IsOf, IsRendered, IsSummed, IsUnder, untold, under, of_events, IsPlayed, of_deeds, IsTested, Calls, IsAnswer, no_form, called}
use Rattle.sv_run.specs.Generated.{generated, root_name, clicks}
use Rattle.sv_words.specs.Words.{Form, Runs, Checks, Prints, Renders, Gens, Tests, IsOneForm}

none-some : {T P : Type 0} (o : Option T) (x : T) → o ≡ None → o ≡ Some x → P
none-some o x none some = cc

some-same : {T : Type 0} (o : Option T) (x y : T) → o ≡ Some x → o ≡ Some y → x ≡ y
some-same o x y one other = cc

ok-err : {A E P : Type 0} (x : A) (e : E) (r : Result A E) → r ≡ Ok x → r ≡ Err e → P
ok-err x e r ok err = cc

ok-same : {A E : Type 0} (x y : A) (r : Result A E) → r ≡ Ok x → r ≡ Ok y → x ≡ y
ok-same x y r one other = cc

err-same : {A E : Type 0} (x y : E) (r : Result A E) → r ≡ Err x → r ≡ Err y → x ≡ y
err-same x y r one other = cc

-- ---- a root component

-- what holds of the crates below
pub record Laws : Type 0 where
  pub outcomes : IsOneOutcome
  pub mistakes : IsOneMistake
  pub cleans : IsMistakeOrClean
  pub programs : IsOneProgram
  pub orders : IsOneOrder
  pub forms : IsOneForm

-- the answer to what came of loading, where there is no program
abbrev unloaded : Result Bundle LoadError → Option Answer
unloaded (Ok bundle) = None
unloaded (Err error) = load_answer error

abbrev bundle_or : Bundle → Result Bundle LoadError → Bundle
bundle_or other (Ok bundle) = bundle
bundle_or other (Err error) = other

loaded_or_not : {P : Type 0} (bundle : Bundle) (error : LoadError) (answer : Answer) → Err error ≡ Ok bundle → load_answer error ≡ Some answer → P
loaded_or_not bundle error answer same is = none-some (unloaded (Ok bundle)) answer refl (sym (ap unloaded same) ∙ is)

-- the answers for two mistakes of one bundle
one_mistaken : (laws : Laws) (bundle : Bundle) (a b : Answer) → IsMistaken bundle a → IsMistaken bundle b → a ≡ b
one_mistaken laws bundle a b one other =
    let m = one.mistake in
    let n = other.mistake in
    let same : m ≡ n = laws.mistakes bundle m n one.first other.first in
    let files = some-same (slice_get bundle.files n.at.file) one.file other.file (sym (ap (λ x. slice_get bundle.files x.at.file) same) ∙ one.there) other.there in
    one.told ∙ ap (mistake_answer one.file) same ∙ ap (λ x. mistake_answer x n) files ∙ sym other.told

-- two programs that are loaded are one
one_bundle : (laws : Laws) (files : Files) (root : List ℕ) (a b : Bundle) → Reads files root no_files (Ok a) → Reads files root no_files (Ok b) → a ≡ b
one_bundle laws files root a b r r' = ap (bundle_or a) (laws.outcomes files root (Ok a) (Ok b) r r')

IsUnfit-unique : (laws : Laws) (files : Files) (root : List ℕ) (a b : Answer) → IsUnfit files root a → IsUnfit files root b → a ≡ b
IsUnfit-unique laws files root _ _ (not_loaded e a r s) (not_loaded f b r' s') =
    some-same (load_answer f) a b (sym (ap unloaded (laws.outcomes files root (Err e) (Err f) r r')) ∙ s) s'
IsUnfit-unique laws files root _ _ (not_loaded e a r s) (mistaken bundle b r' is) = loaded_or_not bundle e a (laws.outcomes files root (Err e) (Ok bundle) r r') s
IsUnfit-unique laws files root _ _ (mistaken bundle a r is) (not_loaded e b r' s) = loaded_or_not bundle e b (laws.outcomes files root (Err e) (Ok bundle) r' r) s
IsUnfit-unique laws files root _ _ (mistaken bundle a r is) (mistaken other b r' is') =
    one_mistaken laws bundle a b is (subst (λ z. IsMistaken z b) (one_bundle laws files root other bundle r' r) is')

-- a program that is refused has a mistake
unfit-or-clean : {P : Type 0} (laws : Laws) (files : Files) (root : List ℕ) (a : Answer) (bundle : Bundle) → IsUnfit files root a → Accepts files root bundle → P
unfit-or-clean laws files root _ bundle (not_loaded e a r s) is = loaded_or_not bundle e a (laws.outcomes files root (Err e) (Ok bundle) r is.loaded) s
unfit-or-clean laws files root _ bundle (mistaken other a r m) is =
    let same : bundle ≡ other = one_bundle laws files root bundle other is.loaded r in
    absurd (laws.cleans other m.mistake (subst IsClean same is.is_clean) m.first)

-- where one thing is answered of each program without a mistake, one thing is answered over each root
IsOver-unique : (laws : Laws) (files : Files) (root : List ℕ) (IsFor : Bundle → Answer → Type 0) → ((bundle : Bundle) → IsClean bundle → (a b : Answer) → IsFor bundle a → IsFor bundle b → a ≡ b)
    → (a b : Answer) → IsOver files root IsFor a → IsOver files root IsFor b → a ≡ b
IsOver-unique laws files root IsFor one _ _ (unfit a is) (unfit b is') = IsUnfit-unique laws files root a b is is'
IsOver-unique laws files root IsFor one _ _ (unfit a is) (fit bundle b c for_it) = unfit-or-clean laws files root a bundle is c
IsOver-unique laws files root IsFor one _ _ (fit bundle a c for_it) (unfit b is) = unfit-or-clean laws files root b bundle is c
IsOver-unique laws files root IsFor one _ _ (fit bundle a c for_it) (fit other b c' for_other) =
    one bundle c.is_clean a b for_it (subst (λ z. IsFor z b) (one_bundle laws files root other bundle c'.loaded c.loaded) for_other)

-- ---- a program without a mistake

IsAccepted-unique : (bundle : Bundle) → IsClean bundle → (a b : Answer) → IsAccepted bundle a → IsAccepted bundle b → a ≡ b
IsAccepted-unique bundle is a b one other = one ∙ sym other

IsListed-unique : (laws : Laws) (bundle : Bundle) → IsClean bundle → (a b : Answer) → IsListed bundle a → IsListed bundle b → a ≡ b
IsListed-unique laws bundle is a b one other = one.is ∙ ap (λ p. listed (listing p)) (laws.programs bundle one.told other.told one.are_checked other.are_checked []) ∙ sym other.is

-- it is compiled to one program
compiles_same : (laws : Laws) (bundle : Bundle) (a b : Program) → IsClean bundle → Compiles bundle a → Compiles bundle b → a ≡ b
compiles_same laws bundle a b is one other =
    one.is ∙ laws.programs bundle one.told other.told one.are_checked other.are_checked one.modules
    ∙ ap (program bundle other.told) (laws.orders bundle one.modules other.modules is one.are_modules other.are_modules) ∙ sym other.is

IsOf-unique : (laws : Laws) (answers : Program → Answer) (bundle : Bundle) → IsClean bundle → (a b : Answer) → IsOf answers bundle a → IsOf answers bundle b → a ≡ b
IsOf-unique laws answers bundle is a b one other = one.is ∙ ap answers (compiles_same laws bundle one.compiled other.compiled is one.compiles other.compiles) ∙ sym other.is

module _ {A : Type 0} (laws : Laws) (told : Option (Result A Answer)) (answers : A → Program → Answer) (bundle : Bundle) (clean : IsClean bundle) where
  IsUnder-unique : (a b : Answer) → IsUnder A told answers bundle a → IsUnder A told answers bundle b → a ≡ b
  IsUnder-unique _ _ (untold a is) (untold b is') = err-same a b (Err a) refl (some-same told (Err a) (Err b) is is')
  IsUnder-unique _ _ (untold a is) (under all b is' of_it) = ok-err all a (Err a) (some-same told (Err a) (Ok all) is is') refl
  IsUnder-unique _ _ (under all a is of_it) (untold b is') = ok-err all b (Ok all) refl (some-same told (Ok all) (Err b) is is')
  IsUnder-unique _ _ (under all a is of_it) (under all' b is' of_it') =
      let same : all ≡ all' = ok-same all all' (Ok all) refl (some-same told (Ok all) (Ok all') is is') in
      IsOf-unique laws (answers all) bundle clean a b of_it (subst (λ z. IsOf (answers z) bundle b) (sym same) of_it')

-- ---- all words

Calls-unique : (laws : Laws) (files : Files) (form : Form) (a b : Answer) → Calls files form a → Calls files form b → a ≡ b
Calls-unique laws files (Runs root file flags) =
    IsOver-unique laws files root (IsPlayed files file flags) (λ bundle. IsUnder-unique laws (events_in files file) (of_events flags) bundle)
Calls-unique laws files (Checks root) = IsOver-unique laws files root IsAccepted IsAccepted-unique
Calls-unique laws files (Prints root) = IsOver-unique laws files root IsListed (IsListed-unique laws)
Calls-unique laws files (Renders root) = IsOver-unique laws files root IsRendered (IsOf-unique laws rendered)
Calls-unique laws files (Gens count) = IsOver-unique laws (generated count) root_name (IsSummed count) (IsOf-unique laws (λ p. sums p (clicks count)))
Calls-unique laws files (Tests root file) = IsOver-unique laws files root (IsTested files file) (λ bundle. IsUnder-unique laws (deeds_in files file) of_deeds bundle)

pub IsAnswer-unique : (laws : Laws) (words : List (List ℕ)) (files : Files) (a b : Answer) → IsAnswer words files a → IsAnswer words files b → a ≡ b
IsAnswer-unique laws words files _ _ (no_form n) (no_form n') = refl
IsAnswer-unique laws words files _ _ (no_form n) (called form b is calls) = absurd (n form is)
IsAnswer-unique laws words files _ _ (called form a is calls) (no_form n) = absurd (n form is)
IsAnswer-unique laws words files _ _ (called form a is calls) (called other b is' calls') =
    Calls-unique laws files form a b calls (subst (λ z. Calls files z b) (laws.forms words other form is' is) calls')
