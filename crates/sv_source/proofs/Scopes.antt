-- Code that gives the same where some names are open, and leaves the same names open: in a scope, and behind names that are looked up late.
use Rattle.std.proofs.Common.{◌≡◌, ℕ, List, ◌++◌, length, take, refl, sym, ap, subst, ◌∙◌}
use Rattle.sv_local.proofs.Names.{Fits}
use Rattle.sv_local.proofs.Outcomes.{Alike, Same}
use Rattle.sv_meaning.specs.Env.{Env, look, given_value}
use Rattle.sv_meaning.specs.Outcome.{Outcome, Done, Failed, Meaning, and_then}
use Rattle.sv_meaning.specs.Statements.{scoped}
use Rattle.sv_world.specs.declared.world.World.{World}
use Rattle.sv_source.specs.Open.{heads}
use Rattle.sv_source.proofs.Names.{heads_append, heads_front, stays}

-- the same names with the same values, which are some names
abbrev pub In : List ℕ → Env → Env → Type 0
In xs env env' = (env' ≡ env) × (heads env ≡ xs)

pub fits_in : (xs : List ℕ) (x : ℕ) → Fits (In xs) x
fits_in xs x = record {
  looks = λ env env' e. ap (look x) (sym e.0);
  sets = λ env env' v old e h. (ap (given_value x v) e.0, stays x v env ∙ e.1);
}

-- what is told by the names that are open then
pub late : {A : Type 0} (xs : List ℕ) (m : Meaning A) (m' : Env → Meaning A) → ((env : Env) → heads env ≡ xs → Alike (In xs) m (m' env)) → Alike (In xs) m (λ env w. m' env env w)
late xs m m' h = record { both = λ env env' w e. (h env' (ap heads e.0 ∙ e.1)).both env env' w e }

in_is : {A : Type 0} (xs : List ℕ) (o o' : Outcome A) → Same (In xs) o o' → o ≡ o'
in_is xs (Done a env w) o' h = ap (λ e. Done a e w) (sym h.1.0) ∙ sym h.2
in_is xs (Failed k s w) o' h = sym h

pub same_at : {A : Type 0} (xs : List ℕ) (m m' : Meaning A) → Alike (In xs) m m' → (env : Env) (w : World) → heads env ≡ xs → m env w ≡ m' env w
same_at xs m m' h env w o = in_is xs (m env w) (m' env w) (h.both env env w (refl, o))

closed : {A : Type 0} (env : Env) (xs ys : List ℕ) (o o' : Outcome A) → heads env ≡ xs → Same (In (xs ++ ys)) o o' → Same (In xs) (and_then o (λ a e. Done a (take (length env) e))) (and_then o' (λ a e. Done a (take (length env) e)))
closed env xs ys (Done a e w) o' h k =
    (take (length env) e, (refl, heads_front env xs ys e h k.1.1), subst (λ z. and_then z (λ a e. Done a (take (length env) e)) ≡ Done a (take (length env) e) w) (sym (k.2 ∙ ap (λ e. Done a e w) k.1.0)) refl)
closed env xs ys (Failed f s w) o' h k = ap (λ z. and_then z (λ a e. Done a (take (length env) e))) k

-- names that are open inside alone
pub scoped_alike : {A : Type 0} (xs ys : List ℕ) (names : Env) (m m' : Meaning A) → heads names ≡ ys → Alike (In (xs ++ ys)) m m' → Alike (In xs) (scoped names m) (scoped names m')
scoped_alike xs ys names m m' same h = record {
  both = λ env env' w e. subst (λ z. Same (In xs) (scoped names m env w) (scoped names m' z w)) (sym e.0)
      (closed env xs ys (m (env ++ names) w) (m' (env ++ names) w) e.1 (h.both (env ++ names) (env ++ names) w (refl, heads_append env names ∙ ap (λ z. z ++ heads names) e.1 ∙ ap (λ z. xs ++ z) same)));
}
