-- A declaration gives the local its value, whatever it stands for: where no scope around has the name open, nothing is given.
use Rattle.std.proofs.Common.{◌≡◌, ℕ, Bool, true, false, true≢false, List, [], ◌∷◌, Option, None, Some, refl, sym, ap, ◌∙◌, nat_eq, eqb-true, eq-eqb, if◌then◌else◌}
use Rattle.std.specs.Prelude.{◌||◌}
use Rattle.sv_ast.specs.declared.names.Ref.{Ref}
use Rattle.sv_ast.specs.declared.names.Ref.TheVariants.{Plain}
use Rattle.sv_base.specs.declared.names.Name.{Name}
use Rattle.sv_code.specs.declared.known.Known.{Known}
use Rattle.sv_code.specs.declared.known.Known.TheVariants as known
use Rattle.sv_local.proofs.Outcomes.{Alike}
use Rattle.sv_lower.specs.Tops.{Tops, known_in, known_or, known_at}
use Rattle.sv_meaning.specs.Env.{Env, place, place_in, given_at, given_value}
use Rattle.sv_meaning.specs.Outcome.{Done, Next}
use Rattle.sv_meaning.specs.Statements.{name_given}
use Rattle.sv_names.specs.Distinct.{has}
use Rattle.sv_value.specs.Value.{Val}
use Rattle.sv_source.specs.Open.{heads, is_among, AreOfTop}
use Rattle.sv_source.proofs.Loops.{given_alike}
use Rattle.sv_source.proofs.Names.{Stands}
use Rattle.sv_source.proofs.Scopes.{In}

or_first : (a b : Bool) → (a || b) ≡ false → a ≡ false
or_first true b e = absurd (true≢false e)
or_first false b e = refl

or_rest : (a b : Bool) → (a || b) ≡ false → b ≡ false
or_rest true b e = absurd (true≢false e)
or_rest false b e = e

nowhere_in : (e x : ℕ) (o : Option ℕ) (b : Bool) → nat_eq e x ≡ b → nat_eq x e ≡ false → o ≡ None → place_in o b ≡ None
nowhere_in e x o true q f n = absurd (true≢false (sym (eq-eqb x e (sym (eqb-true e x q))) ∙ f))
nowhere_in e x o false q f n = ap (λ z. place_in z false) n

nowhere : (x : ℕ) (env : Env) → is_among (heads env) (Plain (record { 0 = x })) ≡ false → place x env ≡ None
nowhere x [] h = refl
nowhere x (e ∷ env) h =
    nowhere_in e.0 x (place x env) (nat_eq e.0 x) refl (or_first (nat_eq x e.0) (is_among (heads env) (Plain (record { 0 = x }))) h) (nowhere x env (or_rest (nat_eq x e.0) (is_among (heads env) (Plain (record { 0 = x }))) h))

-- a name that isn't open gets no value
none_given : (xs : List ℕ) (x : ℕ) (v : Val) → is_among xs (Plain (record { 0 = x })) ≡ false → Alike (In xs) (λ env. Done Next env) (λ env. Done Next (given_value x v env))
none_given xs x v h = record { both = λ env env' w e. (given_value x v env', (ap (λ o. given_at o x v env') (nowhere x env' (ap (λ z. is_among z (Plain (record { 0 = x }))) (ap heads e.0 ∙ e.1) ∙ h)) ∙ e.0, e.1), refl) }

-- what stands at the top of a file is no local
abbrev NoLocal : Option Known → Type 0
NoLocal (Some (known.Local x)) = ⊥
NoLocal _ = Unit {0}

no_local : (o : Option Known) → ((x : Name) → o ≡ Some (known.Local x) → ⊥) → NoLocal o
no_local (Some (known.Local x)) h = h x refl
no_local _ h = tt

module _ (xs : List ℕ) (x : Name) (v : Val) where
  top_gives : (o : Option Known) → NoLocal o → is_among xs (Plain x) ≡ false → Alike (In xs) (λ env. Done Next (name_given (known_or o (Plain x)) v env)) (λ env. Done Next (given_value x.0 v env))
  top_gives None h n = given_alike xs x.0 v
  top_gives (Some (known.Local y)) h n = absurd h
  top_gives (Some (known.Cell c)) h n = none_given xs x.0 v n
  top_gives (Some (known.Constant c)) h n = none_given xs x.0 v n
  top_gives (Some (known.Export file c)) h n = none_given xs x.0 v n
  top_gives (Some (known.Life l)) h n = none_given xs x.0 v n
  top_gives (Some known.Writable) h n = none_given xs x.0 v n
  top_gives (Some known.Derived) h n = none_given xs x.0 v n
  top_gives (Some (known.BuiltIn b)) h n = none_given xs x.0 v n

  not_open : (locals scope : List Ref) → Stands xs locals scope → has (Plain x) locals ≡ false → (b : Bool) → is_among xs (Plain x) ≡ b → is_among xs (Plain x) ≡ false
  not_open locals scope h e true q = absurd (true≢false (sym (h.only (Plain x) q) ∙ e))
  not_open locals scope h e false q = q

  pub decl_gives : (tops : Tops) (locals scope : List Ref) → AreOfTop tops → Stands xs locals scope → Alike (In xs) (λ env. Done Next (name_given (known_at tops locals (Plain x)) v env)) (λ env. Done Next (given_value x.0 v env))
  decl_gives tops locals scope t h = by (has (Plain x) locals) refl
    where
      by : (b : Bool) → has (Plain x) locals ≡ b → Alike (In xs) (λ env. Done Next (name_given (if b then known.Local x else known_or (known_in tops.known (Plain x)) (Plain x)) v env)) (λ env. Done Next (given_value x.0 v env))
      by true e = given_alike xs x.0 v
      by false e = top_gives (known_in tops.known (Plain x)) (no_local (known_in tops.known (Plain x)) (t (Plain x))) (not_open locals scope h e (is_among xs (Plain x)) refl)
