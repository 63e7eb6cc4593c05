-- What holds of each answer that a chain of steps gives: for laws that what is read is in the grammar.
use Rattle.std.proofs.Common.{◌≡◌, ◌≢◌, Bool, true, false, cond, refl}
use Rattle.std.specs.Prelude.{Ok, Err}
use Rattle.sv_ast.specs.declared.names.Named.{Named}
use Rattle.sv_lex.specs.declared.lexeme.Lexeme.{Lexeme}
use Rattle.sv_lex.specs.declared.lexeme.Lexeme.TheVariants.{Name}
use Rattle.sv_lex.specs.Reader.{Input, Outcome, Parser, and_then, expect, sees, sees_one, after, next, name, word}
use Rattle.sv_lex.proofs.Sees.{seen, unseen}

-- a fact on the answer, where there is one
abbrev pub Holds : {A : Type 0} → (A → Input → Type 0) → Outcome A → Type 0
Holds P (Ok p) = P p.0 p.1
Holds P (Err e) = Unit {0}

pub holds_then : {A B : Type 0} (P : A → Input → Type 0) (Q : B → Input → Type 0) (r : Outcome A) (f : A → Parser B)
    → Holds P r → ((a : A) (j : Input) → P a j → Holds Q (f a j)) → Holds Q (and_then r f)
holds_then P Q (Ok p) f h g = g p.0 p.1 h
holds_then P Q (Err e) f h g = tt

pub holds_then_then : {A B C : Type 0} (P : A → Input → Type 0) (Q : C → Input → Type 0) (r : Outcome A) (f : A → Parser B) (g : B → Parser C)
    → Holds P r → ((a : A) (j : Input) → P a j → Holds Q (and_then (f a j) g)) → Holds Q (and_then (and_then r f) g)
holds_then_then P Q (Ok p) f g h next = next p.0 p.1 h
holds_then_then P Q (Err e) f g h next = tt

pub holds_weaker : {A : Type 0} (P Q : A → Input → Type 0) (r : Outcome A) → ((a : A) (j : Input) → P a j → Q a j) → Holds P r → Holds Q r
holds_weaker P Q (Ok p) g h = g p.0 p.1 h
holds_weaker P Q (Err e) g h = tt

-- at a test
pub holds_if : {B : Type 0} (Q : B → Input → Type 0) (b : Bool) (x y : Outcome B) → (b ≡ true → Holds Q x) → (b ≡ false → Holds Q y) → Holds Q (cond b x y)
holds_if Q true x y g h = g refl
holds_if Q false x y g h = h refl

pub holds_test : {A B : Type 0} (Q : B → Input → Type 0) (b : Bool) (x y : Outcome A) (f : A → Parser B)
    → (b ≡ true → Holds Q (and_then x f)) → (b ≡ false → Holds Q (and_then y f)) → Holds Q (and_then (cond b x y) f)
holds_test Q true x y f g h = g refl
holds_test Q false x y f g h = h refl

-- at a choice between parsers
pub holds_choice : {B : Type 0} (Q : B → Input → Type 0) (b : Bool) (p q : Parser B) (i : Input) → (b ≡ true → Holds Q (p i)) → (b ≡ false → Holds Q (q i)) → Holds Q (cond b p q i)
holds_choice Q true p q i g h = g refl
holds_choice Q false p q i g h = h refl

pub holds_choice_then : {A B : Type 0} (Q : B → Input → Type 0) (b : Bool) (p q : Parser A) (i : Input) (f : A → Parser B)
    → (b ≡ true → Holds Q (and_then (p i) f)) → (b ≡ false → Holds Q (and_then (q i) f)) → Holds Q (and_then (cond b p q i) f)
holds_choice_then Q true p q i f g h = g refl
holds_choice_then Q false p q i f g h = h refl

-- at a token
pub holds_expect : {B : Type 0} (Q : B → Input → Type 0) (k : Lexeme) (i : Input) (f : Unit {0} → Parser B)
    → (sees i ≡ k → Holds Q (f tt (next i))) → Holds Q (and_then (expect k i) f)
unfolding expect
holds_expect Q k i f g = holds_test Q (sees_one k i) _ _ f (λ e. g (seen k i e)) (λ e. tt)

pub holds_eat : {B : Type 0} (Q : B → Input → Type 0) (k : Lexeme) (i : Input) (f : Bool → Parser B)
    → (sees i ≡ k → Holds Q (f true (next i))) → (sees i ≢ k → Holds Q (f false i)) → Holds Q (f (sees_one k i) (after k i))
unfolding after
holds_eat Q k i f g h = by (sees_one k i) (λ e. g (seen k i e)) (λ e. h (unseen k i e))
  where
    by : (b : Bool) → (b ≡ true → Holds Q (f true (next i))) → (b ≡ false → Holds Q (f false i)) → Holds Q (f b (cond b (next i) i))
    by true g h = g refl
    by false g h = h refl

pub holds_name : {B : Type 0} (Q : B → Input → Type 0) (i : Input) (f : Named → Parser B)
    → (sees i ≡ Name → Holds Q (and_then (word i) f)) → Holds Q (and_then (name i) f)
unfolding name
holds_name Q i f g = holds_test Q (sees_one Name i) (word i) _ f (λ e. g (seen Name i e)) (λ e. tt)
