-- A reader that gives an answer, or refuses with a property of the refusal: for laws that what is in the grammar is read.
use Rattle.std.proofs.Common.{◌≡◌, ◌⊎◌, inl, inr, refl, ap, ◌∙◌}
use Rattle.std.specs.Prelude.{Ok, Err}
use Rattle.sv_ast.specs.declared.refusals.Refused.{Refused}
use Rattle.sv_lex.specs.declared.lexeme.Lexeme.{Lexeme}
use Rattle.sv_lex.specs.declared.lexeme.Lexeme.TheVariants.{Name}
use Rattle.sv_lex.specs.Reader.{Input, Outcome, Parser, and_then, expect, sees, next, name, word}
use Rattle.sv_lex.proofs.Sees.{sees_yes}

-- refuses with this property
abbrev pub Refuses : {A : Type 0} → (Refused → Type 0) → Outcome A → Type 0
Refuses P r = (e : Refused) × (r ≡ Err e) × P e

-- gives this answer, or refuses with this property
abbrev pub Ends : {A : Type 0} → (Refused → Type 0) → Outcome A → A × Input → Type 0
Ends P r z = (r ≡ Ok z) ⊎ Refuses P r

pub ends_then : {A B : Type 0} (P : Refused → Type 0) {a : A} {j : Input} {z : B × Input} (r : Outcome A) (f : A → Parser B)
    → Ends P r (a, j) → Ends P (f a j) z → Ends P (and_then r f) z
ends_then P r f (inl h) (inl e) = inl (ap (λ r. and_then r f) h ∙ e)
ends_then P r f (inl h) (inr e) = inr (e.0, ap (λ r. and_then r f) h ∙ e.1, e.2)
ends_then P r f (inr h) e = inr (h.0, ap (λ r. and_then r f) h.1, h.2)

pub ends_at : {A : Type 0} (P : Refused → Type 0) {r q : Outcome A} {z : A × Input} → r ≡ q → Ends P q z → Ends P r z
ends_at P e (inl h) = inl (e ∙ h)
ends_at P e (inr h) = inr (h.0, e ∙ h.1, h.2)

pub ends_weaker : {A : Type 0} (P Q : Refused → Type 0) {r : Outcome A} {z : A × Input} → ((e : Refused) → P e → Q e) → Ends P r z → Ends Q r z
ends_weaker P Q g (inl h) = inl h
ends_weaker P Q g (inr h) = inr (h.0, h.1, g h.0 h.2)

-- one that never refuses so gives the answer
pub ends_well : {A : Type 0} {r : Outcome A} {z : A × Input} → Ends (λ e. ⊥) r z → r ≡ Ok z
ends_well (inl h) = h
ends_well (inr h) = absurd h.2

pub then_ok : {A B : Type 0} {r : Outcome A} {a : A} {j : Input} {z : Outcome B} (f : A → Parser B) → r ≡ Ok (a, j) → f a j ≡ z → and_then r f ≡ z
then_ok f h e = ap (λ r. and_then r f) h ∙ e

-- tokens that come
pub expect_yes : (k : Lexeme) (i : Input) → sees i ≡ k → expect k i ≡ Ok (tt, next i)
unfolding expect
expect_yes k i h = rw (sees_yes k i h) refl

pub name_yes : (i : Input) → sees i ≡ Name → name i ≡ word i
unfolding name
name_yes i h = rw (sees_yes Name i h) refl
