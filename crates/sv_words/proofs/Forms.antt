-- Words and their forms.
use Rattle.std.proofs.Common.{◌≡◌, ◌+◌, ◌∙◌, ℕ, List, ◌∷◌, [], Option, drop, get_or, codes, arith, ap, sym}
use Rattle.std.specs.Prelude.{Some}
use Rattle.std.proofs.lemmas.Fmt.{decimal_injective}
use Rattle.sv_play.specs.declared.flags.Flags.{Flags}
use Rattle.sv_words.specs.Words.{flags_of, IsRun, IsOfRoot, IsGen, IsTest, Runs, Checks, Prints, Renders, Gens, Tests, IsNoRun, IsNoneOfRoot, IsNoGen, IsNoTest, IsNoForm, IsOneForm}

-- words that are none of the forms
pub no_form : (words : List (List ℕ)) → IsNoRun words → IsNoneOfRoot (codes "check") words → IsNoneOfRoot (codes "print") words → IsNoneOfRoot (codes "render") words
    → IsNoTest words → IsNoGen words → IsNoForm words
no_form words run check print render test gen (Runs root events flags) is = run root events flags is
no_form words run check print render test gen (Checks root) is = check root is
no_form words run check print render test gen (Prints root) is = print root is
no_form words run check print render test gen (Renders root) is = render root is
no_form words run check print render test gen (Gens count) is = gen count is
no_form words run check print render test gen (Tests root events) is = test root events is

-- ---- no words are of two forms

some-same : {T : Type 0} (o : Option T) (x y : T) → o ≡ Some x → o ≡ Some y → x ≡ y
some-same o x y one other = cc

runs_same : (words : List (List ℕ)) (r f : List ℕ) (l : Flags) (r' f' : List ℕ) (l' : Flags) → IsRun words r f l → IsRun words r' f' l' → Runs r f l ≡ Runs r' f' l'
runs_same words r f l r' f' l' one other =
    let forms = sym one.form ∙ other.form in
    let marks : one.marks ≡ other.marks = ap (λ w. drop 3 w) forms in
    let flags : l ≡ l' = some-same (flags_of one.marks) l l' one.asked (ap flags_of marks ∙ other.asked) in
    ap (λ x. Runs x f l) (ap (λ w. get_or w 1 []) forms) ∙ ap (λ x. Runs r' x l) (ap (λ w. get_or w 2 []) forms) ∙ ap (Runs r' f') flags

root_same : (command : List ℕ) (words : List (List ℕ)) (r r' : List ℕ) → IsOfRoot command words r → IsOfRoot command words r' → r ≡ r'
root_same command words r r' one other = ap (λ w. get_or w 1 []) (sym one.form ∙ other.form)

count_same : (words : List (List ℕ)) (m n : ℕ) → IsGen words m → IsGen words n → m ≡ n
count_same words m n one other =
    decimal_injective m n (omega (arith, one.most)) (omega (arith, other.most)) (ap (λ w. get_or w 1 []) (sym one.form ∙ other.form))

tests_same : (words : List (List ℕ)) (r f r' f' : List ℕ) → IsTest words r f → IsTest words r' f' → Tests r f ≡ Tests r' f'
tests_same words r f r' f' one other =
    let forms = sym one.form ∙ other.form in
    ap (λ x. Tests x f) (ap (λ w. get_or w 1 []) forms) ∙ ap (Tests r') (ap (λ w. get_or w 2 []) forms)

-- the first two bytes of a command, added up, tell which it is
abbrev mark : List ℕ → ℕ
mark word = get_or word 0 0 + get_or word 1 0

abbrev marks : List (List ℕ) → ℕ
marks words = mark (get_or words 0 [])

-- words that begin with two commands
two_commands : {P : Type 0} (words : List (List ℕ)) (a b : List ℕ) (x y : List (List ℕ)) → (mark a ≡ mark b → P) → words ≡ a ∷ x → words ≡ b ∷ y → P
two_commands words a b x y apart one other = apart (ap marks (sym one ∙ other))

pub one_form : IsOneForm
one_form words (Runs r f l) (Runs r' f' l') a b = runs_same words r f l r' f' l' a b
one_form words (Runs r f l) (Checks r') a b = two_commands words _ _ _ _ (λ e. absurd (omega (arith, e))) a.form b.form
one_form words (Runs r f l) (Prints r') a b = two_commands words _ _ _ _ (λ e. absurd (omega (arith, e))) a.form b.form
one_form words (Runs r f l) (Renders r') a b = two_commands words _ _ _ _ (λ e. absurd (omega (arith, e))) a.form b.form
one_form words (Runs r f l) (Gens n) a b = two_commands words _ _ _ _ (λ e. absurd (omega (arith, e))) a.form b.form
one_form words (Runs r f l) (Tests r' f') a b = two_commands words _ _ _ _ (λ e. absurd (omega (arith, e))) a.form b.form
one_form words (Checks r) (Runs r' f l) a b = two_commands words _ _ _ _ (λ e. absurd (omega (arith, e))) a.form b.form
one_form words (Checks r) (Checks r') a b = ap Checks (root_same _ words r r' a b)
one_form words (Checks r) (Prints r') a b = two_commands words _ _ _ _ (λ e. absurd (omega (arith, e))) a.form b.form
one_form words (Checks r) (Renders r') a b = two_commands words _ _ _ _ (λ e. absurd (omega (arith, e))) a.form b.form
one_form words (Checks r) (Gens n) a b = two_commands words _ _ _ _ (λ e. absurd (omega (arith, e))) a.form b.form
one_form words (Checks r) (Tests r' f) a b = two_commands words _ _ _ _ (λ e. absurd (omega (arith, e))) a.form b.form
one_form words (Prints r) (Runs r' f l) a b = two_commands words _ _ _ _ (λ e. absurd (omega (arith, e))) a.form b.form
one_form words (Prints r) (Checks r') a b = two_commands words _ _ _ _ (λ e. absurd (omega (arith, e))) a.form b.form
one_form words (Prints r) (Prints r') a b = ap Prints (root_same _ words r r' a b)
one_form words (Prints r) (Renders r') a b = two_commands words _ _ _ _ (λ e. absurd (omega (arith, e))) a.form b.form
one_form words (Prints r) (Gens n) a b = two_commands words _ _ _ _ (λ e. absurd (omega (arith, e))) a.form b.form
one_form words (Prints r) (Tests r' f) a b = two_commands words _ _ _ _ (λ e. absurd (omega (arith, e))) a.form b.form
one_form words (Renders r) (Runs r' f l) a b = two_commands words _ _ _ _ (λ e. absurd (omega (arith, e))) a.form b.form
one_form words (Renders r) (Checks r') a b = two_commands words _ _ _ _ (λ e. absurd (omega (arith, e))) a.form b.form
one_form words (Renders r) (Prints r') a b = two_commands words _ _ _ _ (λ e. absurd (omega (arith, e))) a.form b.form
one_form words (Renders r) (Renders r') a b = ap Renders (root_same _ words r r' a b)
one_form words (Renders r) (Gens n) a b = two_commands words _ _ _ _ (λ e. absurd (omega (arith, e))) a.form b.form
one_form words (Renders r) (Tests r' f) a b = two_commands words _ _ _ _ (λ e. absurd (omega (arith, e))) a.form b.form
one_form words (Gens n) (Runs r f l) a b = two_commands words _ _ _ _ (λ e. absurd (omega (arith, e))) a.form b.form
one_form words (Gens n) (Checks r) a b = two_commands words _ _ _ _ (λ e. absurd (omega (arith, e))) a.form b.form
one_form words (Gens n) (Prints r) a b = two_commands words _ _ _ _ (λ e. absurd (omega (arith, e))) a.form b.form
one_form words (Gens n) (Renders r) a b = two_commands words _ _ _ _ (λ e. absurd (omega (arith, e))) a.form b.form
one_form words (Gens n) (Gens n') a b = ap Gens (count_same words n n' a b)
one_form words (Gens n) (Tests r f) a b = two_commands words _ _ _ _ (λ e. absurd (omega (arith, e))) a.form b.form
one_form words (Tests r f) (Runs r' f' l) a b = two_commands words _ _ _ _ (λ e. absurd (omega (arith, e))) a.form b.form
one_form words (Tests r f) (Checks r') a b = two_commands words _ _ _ _ (λ e. absurd (omega (arith, e))) a.form b.form
one_form words (Tests r f) (Prints r') a b = two_commands words _ _ _ _ (λ e. absurd (omega (arith, e))) a.form b.form
one_form words (Tests r f) (Renders r') a b = two_commands words _ _ _ _ (λ e. absurd (omega (arith, e))) a.form b.form
one_form words (Tests r f) (Gens n) a b = two_commands words _ _ _ _ (λ e. absurd (omega (arith, e))) a.form b.form
one_form words (Tests r f) (Tests r' f') a b = tests_same words r f r' f' a b
