-- The names that are open, and those that the scopes around declare.
use Rattle.std.proofs.Common.{◌≡◌, ℕ, Bool, true, false, true≢false, List, [], ◌∷◌, ◌++◌, length, map, take, refl, sym, ap, ap₂, subst, ◌∙◌, eqb-true, nat_eq, if◌then◌else◌, Option, Some, None}
use Rattle.std.specs.Prelude.{filter, ◌||◌, ◌&&◌}
use Rattle.std.proofs.lemmas.List.Folds.{list_any-append}
use Rattle.sv_ast.specs.declared.names.Named.{Named}
use Rattle.sv_ast.specs.declared.names.Ref.{Ref}
use Rattle.sv_ast.specs.declared.names.Ref.TheVariants.{Plain, Store}
use Rattle.sv_base.specs.declared.names.Name.{Name}
use Rattle.sv_code.proofs.Each.{each_append, each_mono}
use Rattle.sv_code.specs.Names.{Each}
use Rattle.sv_meaning.specs.Env.{Env, bound, opened, params, numbers, place, place_in, given_at, given_value}
use Rattle.sv_names.proofs.Same.{same_ref-true, same_ref-self, has-append, has-with_names}
use Rattle.sv_names.specs.Distinct.{same_ref, has, with_name, with_names, firsts}
use Rattle.sv_names.specs.Locals.{name_of, locals_among}
use Rattle.sv_names.specs.Uses.{Parts, named, used, scope_of, free_in}
use Rattle.sv_names.specs.declared.uses.Use.{Use}
use Rattle.sv_value.specs.Value.{Val}
use Rattle.sv_source.specs.Open.{heads, is_among, IsPlain}

-- ---- open names

pub heads_append : (env more : Env) → heads (env ++ more) ≡ heads env ++ heads more
heads_append [] more = refl
heads_append (e ∷ env) more = ap (λ z. e.0 ∷ z) (heads_append env more)

abbrev tail_of : List ℕ → List ℕ
tail_of [] = []
tail_of (x ∷ xs) = xs

abbrev head_of : List ℕ → ℕ
head_of [] = 0
head_of (x ∷ xs) = x

abbrev is_some_list : List ℕ → Bool
is_some_list [] = false
is_some_list (x ∷ xs) = true

front_heads : (env e : Env) (ys : List ℕ) → heads e ≡ heads env ++ ys → heads (take (length env) e) ≡ heads env
front_heads [] e ys q = refl
front_heads (a ∷ env) [] ys q = absurd (true≢false (sym (ap is_some_list q)))
front_heads (a ∷ env) (b ∷ e) ys q = ap (λ z. z ∷ heads (take (length env) e)) (ap head_of q) ∙ ap (λ z. a.0 ∷ z) (front_heads env e ys (ap tail_of q))

-- what is left of the names that were open before
pub heads_front : (env : Env) (xs ys : List ℕ) (e : Env) → heads env ≡ xs → heads e ≡ xs ++ ys → heads (take (length env) e) ≡ xs
heads_front env xs ys e h k = front_heads env e ys (k ∙ ap (λ z. z ++ ys) (sym h)) ∙ h

heads_bound : (xs : List ℕ) (vs : List Val) → heads (bound xs vs) ≡ xs
heads_bound [] vs = refl
heads_bound (x ∷ xs) [] = ap (λ z. x ∷ z) (heads_bound xs [])
heads_bound (x ∷ xs) (v ∷ vs) = ap (λ z. x ∷ z) (heads_bound xs vs)

pub heads_opened : (names : List Name) → heads (opened names) ≡ numbers names
heads_opened [] = refl
heads_opened (x ∷ names) = ap (λ z. x.0 ∷ z) (heads_opened names)

-- those of the body of a function: what it took along, its parameters, and what it declares
pub heads_body : (taken : List ℕ) (names : List ℕ) (declares : List Name) (held args : List Val) → heads (bound taken held ++ (bound names args ++ opened declares)) ≡ taken ++ (names ++ numbers declares)
heads_body taken names declares held args =
    heads_append (bound taken held) (bound names args ++ opened declares)
    ∙ ap₂ (λ a b. a ++ b) (heads_bound taken held) (heads_append (bound names args) (opened declares) ∙ ap₂ (λ a b. a ++ b) (heads_bound names args) (heads_opened declares))

-- a name that gets a value stays where it was, and so do the others
stays_in : (x : ℕ) (v : Val) (e : ℕ × Option Val) (env : Env) → heads (given_value x v env) ≡ heads env → (i : Option ℕ) → place x env ≡ i → (b : Bool) → nat_eq e.0 x ≡ b → heads (given_at (place_in i b) x v (e ∷ env)) ≡ heads (e ∷ env)
stays_in x v e env ih (Some i) p b q = ap (λ z. e.0 ∷ z) (ap (λ z. heads (given_at z x v env)) (sym p) ∙ ih)
stays_in x v e env ih None p true q = ap (λ z. z ∷ heads env) (sym (eqb-true e.0 x q))
stays_in x v e env ih None p false q = refl

pub stays : (x : ℕ) (v : Val) (env : Env) → heads (given_value x v env) ≡ heads env
stays x v [] = refl
stays x v (e ∷ env) = stays_in x v e env (stays x v env) (place x env) refl (nat_eq e.0 x) refl

-- ---- names among others

or_false : (b : Bool) → (b || false) ≡ b
or_false true = refl
or_false false = refl

or_swap : (a b : Bool) → (a || b) ≡ (b || a)
or_swap true true = refl
or_swap true false = refl
or_swap false true = refl
or_swap false false = refl

or_group : (a b c : Bool) → (a || (b || c)) ≡ ((a || b) || c)
or_group true b c = refl
or_group false b c = refl

or_true : (a b : Bool) → b ≡ true → (a || b) ≡ true
or_true true b e = refl
or_true false b e = e

or_both_false : (a b : Bool) → a ≡ false → b ≡ false → (a || b) ≡ false
or_both_false a b e f = ap₂ (λ x y. x || y) e f

pub among_append : (xs ys : List ℕ) (n : Ref) → is_among (xs ++ ys) n ≡ (is_among xs n || is_among ys n)
among_append xs ys (Plain x) = list_any-append (nat_eq x.0) xs ys
among_append xs ys (Store x) = refl

-- the numbers of names without `$` are among those of all
pub among_names : (names : List Ref) → Each IsPlain names → (n : Ref) → is_among (numbers (map name_of names)) n ≡ has n names
among_names [] h (Plain x) = refl
among_names [] h (Store x) = refl
among_names (Plain y ∷ names) h (Plain x) = ap (λ b. nat_eq x.0 y.0 || b) (among_names names h.1 (Plain x))
among_names (Plain y ∷ names) h (Store x) = among_names names h.1 (Store x)
among_names (Store y ∷ names) h n = absurd h.0

pub among_params : (ps : List Named) (n : Ref) → is_among (params ps) n ≡ has n (map named ps)
among_params [] (Plain x) = refl
among_params [] (Store x) = refl
among_params (p ∷ ps) (Plain x) = ap (λ b. nat_eq x.0 p.name.0 || b) (among_params ps (Plain x))
among_params (p ∷ ps) (Store x) = among_params ps (Store x)

-- what is put behind others
each_with : (Q : Ref → Type 0) (names : List Ref) (name : Ref) → Each Q names → Q name → Each Q (with_name names name)
each_with Q names name h k = by (has name names)
  where
    by : (b : Bool) → Each Q (if b then names else names ++ name ∷ [])
    by true = h
    by false = each_append Q names (name ∷ []) h (k, tt)

pub each_with_names : (Q : Ref → Type 0) (names more : List Ref) → Each Q names → Each Q more → Each Q (with_names names more)
each_with_names Q names [] h k = h
each_with_names Q names (name ∷ more) h k = each_with_names Q (with_name names name) more (each_with Q names name h k.0) k.1

pub has_firsts : (n : Ref) (names : List Ref) → has n (firsts names) ≡ has n names
has_firsts n names = has-with_names n [] names

-- each of some names is among them, behind others
each_among : (before names : List Ref) → Each (λ n. has n (before ++ names) ≡ true) names
each_among before [] = tt
each_among before (n ∷ names) = (
  has-append n before (n ∷ names) ∙ or_true (has n before) (has n (n ∷ names)) (ap (λ b. b || has n names) (same_ref-self n)),
  each_mono (λ m. has m ((before ++ n ∷ []) ++ names) ≡ true) (λ m. has m (before ++ n ∷ names) ≡ true) (λ m h. over m h) names (each_among (before ++ n ∷ []) names),
)
  where
    over : (m : Ref) → has m ((before ++ n ∷ []) ++ names) ≡ true → has m (before ++ n ∷ names) ≡ true
    over m h =
        has-append m before (n ∷ names) ∙ or_group (has m before) (same_ref m n) (has m names)
        ∙ ap (λ b. (has m before || b) || has m names) (sym (or_false (same_ref m n))) ∙ ap (λ b. b || has m names) (sym (has-append m before (n ∷ []))) ∙ sym (has-append m (before ++ n ∷ []) names) ∙ h

pub each_has : (names : List Ref) → Each (λ n. has n names ≡ true) names
each_has names = each_among [] names

-- the same of what is named by uses
pub each_used : (Q : Ref → Type 0) (us : List Use) → Each Q (map (λ u. u.name) us) → Each (λ u. Q u.name) us
each_used Q [] h = tt
each_used Q (u ∷ us) h = (h.0, each_used Q us h.1)

-- a name that is one of some has what each has
each_member : (Q : Ref → Type 0) (names : List Ref) (n : Ref) → Each Q names → has n names ≡ true → Q n
each_member Q [] n h e = absurd (true≢false (sym e))
each_member Q (m ∷ names) n h e = by (each_member Q names n h.1) (same_ref n m) refl
  where
    by : (has n names ≡ true → Q n) → (b : Bool) → same_ref n m ≡ b → Q n
    by rest true f = subst Q (sym (same_ref-true n m f)) h.0
    by rest false f = rest (sym (ap (λ b. b || has n names) f) ∙ e)

-- what is kept of names
pub has_filter : (keeps : Ref → Bool) (names : List Ref) (n : Ref) → has n (filter keeps names) ≡ (has n names && keeps n)
has_filter keeps [] n = refl
has_filter keeps (m ∷ names) n = by (has_filter keeps names n) (same_ref n m) refl (keeps m) refl
  where
    and_false : (a : Bool) → (a && false) ≡ false
    and_false true = refl
    and_false false = refl

    by : has n (filter keeps names) ≡ (has n names && keeps n) → (b : Bool) → same_ref n m ≡ b → (k : Bool) → keeps m ≡ k → has n (if k then m ∷ filter keeps names else filter keeps names) ≡ ((b || has n names) && keeps n)
    by rest true e true f = ap (λ b. b || has n (filter keeps names)) e ∙ sym (ap keeps (same_ref-true n m e) ∙ f)
    by rest true e false f = rest ∙ ap (λ b. has n names && b) (ap keeps (same_ref-true n m e) ∙ f) ∙ and_false (has n names) ∙ sym (ap keeps (same_ref-true n m e) ∙ f)
    by rest false e true f = ap (λ b. b || has n (filter keeps names)) e ∙ rest
    by rest false e false f = rest

-- what is taken along of some names is what the scopes around declare
plain_kept : (locals names : List Ref) → ((x : Name) → has (Store x) locals ≡ false) → Each IsPlain (filter (λ m. has m locals) names)
plain_kept locals [] h = tt
plain_kept locals (Plain x ∷ names) h = by (plain_kept locals names h) (has (Plain x) locals)
  where
    by : Each IsPlain (filter (λ m. has m locals) names) → (b : Bool) → Each IsPlain (if b then Plain x ∷ filter (λ m. has m locals) names else filter (λ m. has m locals) names)
    by rest true = (tt, rest)
    by rest false = rest
plain_kept locals (Store x ∷ names) h =
    subst (λ b. Each IsPlain (if b then Store x ∷ filter (λ m. has m locals) names else filter (λ m. has m locals) names)) (sym (h x)) (plain_kept locals names h)

among_kept : (locals names : List Ref) → ((x : Name) → has (Store x) locals ≡ false) → (n : Ref) → is_among (numbers (locals_among locals names)) n ≡ (has n names && has n locals)
among_kept locals names h n = among_names (filter (λ m. has m locals) names) (plain_kept locals names h) n ∙ has_filter (λ m. has m locals) names n

and_back : (a b : Bool) → (a && b) ≡ true → b ≡ true
and_back true b e = e
and_back false b e = absurd (true≢false (sym e))

pub among_taken : (locals names : List Ref) → ((x : Name) → has (Store x) locals ≡ false) → (n : Ref) → has n names ≡ true → is_among (numbers (locals_among locals names)) n ≡ has n locals
among_taken locals names h n k = among_kept locals names h n ∙ ap (λ b. b && has n locals) k

-- ---- scopes

-- of some names those that are open are those that the scopes around declare
abbrev pub Tells : List ℕ → List Ref → List Ref → Type 0
Tells xs locals names = Each (λ n. is_among xs n ≡ has n locals) names

abbrev pub UsesTell : List ℕ → List Ref → List Use → Type 0
UsesTell xs locals us = Each (λ u. is_among xs u.name ≡ has u.name locals) us

-- of the names of a scope; what is open is declared; and no scope declares a store name
pub record Stands (xs : List ℕ) (locals scope : List Ref) : Type 0 where
  pub plain : (x : Name) → has (Store x) locals ≡ false
  pub only : (n : Ref) → is_among xs n ≡ true → has n locals ≡ true
  pub tells : Tells xs locals scope

widened : (xs ys : List ℕ) (locals new : List Ref) → ((n : Ref) → is_among ys n ≡ has n new) → (n : Ref) → is_among xs n ≡ has n locals → is_among (xs ++ ys) n ≡ has n (new ++ locals)
widened xs ys locals new among n h = among_append xs ys n ∙ ap₂ (λ a b. a || b) h (among n) ∙ or_swap (has n locals) (has n new) ∙ sym (has-append n new locals)

owned : (xs ys : List ℕ) (locals new : List Ref) → ((n : Ref) → is_among ys n ≡ has n new) → (n : Ref) → has n new ≡ true → is_among (xs ++ ys) n ≡ has n (new ++ locals)
owned xs ys locals new among n h =
    among_append xs ys n ∙ or_true (is_among xs n) (is_among ys n) (among n ∙ h) ∙ sym (ap (λ b. b || has n locals) h) ∙ sym (has-append n new locals)

or_either : (a b c d : Bool) → (a ≡ true → c ≡ true) → (b ≡ true → d ≡ true) → (a || b) ≡ true → (d || c) ≡ true
or_either true b c d h k e = or_true d c (h refl)
or_either false b c d h k e = ap (λ z. z || c) (k e)

-- inside a scope with new names
pub record Inner (xs ys : List ℕ) (locals scope declares new : List Ref) (uses : List Use) : Type 0 where
  pub stands : Stands (xs ++ ys) (new ++ locals) (with_names scope declares)
  pub used : UsesTell (xs ++ ys) (new ++ locals) uses

pub inner : (xs ys : List ℕ) (locals scope declares new : List Ref) (uses : List Use) → ((n : Ref) → is_among ys n ≡ has n new) → ((n : Ref) → has n new ≡ has n declares) → Stands xs locals scope → UsesTell xs locals uses → Inner xs ys locals scope declares new uses
inner xs ys locals scope declares new uses among same h k =
    let own : Tells (xs ++ ys) (new ++ locals) declares = each_mono (λ n. has n declares ≡ true) (λ n. is_among (xs ++ ys) n ≡ has n (new ++ locals)) (λ n e. owned xs ys locals new among n (same n ∙ e)) declares (each_has declares) in
    record {
      stands = record {
        plain = λ x. has-append (Store x) new locals ∙ or_both_false (has (Store x) new) (has (Store x) locals) (sym (among (Store x))) (h.plain x);
        only = λ n e. has-append n new locals ∙ or_either (is_among xs n) (is_among ys n) (has n locals) (has n new) (h.only n) (λ z. sym (among n) ∙ z) (sym (among_append xs ys n) ∙ e);
        tells = each_with_names (λ n. is_among (xs ++ ys) n ≡ has n (new ++ locals)) scope declares (each_mono (λ n. is_among xs n ≡ has n locals) (λ n. is_among (xs ++ ys) n ≡ has n (new ++ locals)) (widened xs ys locals new among) scope h.tells) own;
      };
      used = each_mono (λ u. is_among xs u.name ≡ has u.name locals) (λ u. is_among (xs ++ ys) u.name ≡ has u.name (new ++ locals)) (λ u. widened xs ys locals new among u.name) uses k;
    }

-- the names of a block are what it declares
pub block_among : (parts : Parts) → Each IsPlain parts.declares → (n : Ref) → is_among (numbers (map name_of (firsts parts.declares))) n ≡ has n (firsts parts.declares)
block_among parts h n = among_names (firsts parts.declares) (each_with_names IsPlain [] parts.declares tt h) n

-- ---- the body of a function

-- the names that are open in it
abbrev pub body_names : List Named → Parts → List Ref → List ℕ
body_names ps parts locals = numbers (locals_among locals (free_in ps parts)) ++ (params ps ++ numbers (map name_of (scope_of [] parts)))

own_among : (ps : List Named) (parts : Parts) → Each IsPlain parts.declares → (n : Ref) → is_among (params ps ++ numbers (map name_of (scope_of [] parts))) n ≡ has n (scope_of ps parts)
own_among ps parts h n =
    among_append (params ps) (numbers (map name_of (scope_of [] parts))) n
    ∙ ap₂ (λ a b. a || b) (among_params ps n) (block_among parts h n ∙ has_firsts n parts.declares)
    ∙ sym (has-append n (map named ps) parts.declares) ∙ sym (has_firsts n (map named ps ++ parts.declares))

pub record InBody (ps : List Named) (parts : Parts) (locals : List Ref) : Type 0 where
  pub stands : Stands (body_names ps parts locals) (scope_of ps parts ++ locals) (scope_of ps parts)
  pub used : UsesTell (body_names ps parts locals) (scope_of ps parts ++ locals) (parts.uses (scope_of ps parts))

pub in_body : (ps : List Named) (parts : Parts) (locals : List Ref) → Each IsPlain parts.declares → ((x : Name) → has (Store x) locals ≡ false) → InBody ps parts locals
in_body ps parts locals h k =
    let taken : List ℕ = numbers (locals_among locals (free_in ps parts)) in
    let own : List ℕ = params ps ++ numbers (map name_of (scope_of [] parts)) in
    let new : List Ref = scope_of ps parts in
    let inside : (n : Ref) → has n new ≡ true → is_among (taken ++ own) n ≡ has n (new ++ locals) = owned taken own locals new (own_among ps parts h) in
    let used : List Use = parts.uses new in
    let free : (n : Ref) → has n (map (λ u. u.name) used) ≡ true → is_among (taken ++ own) n ≡ has n (new ++ locals) =
    λ n e. widened taken own locals new (own_among ps parts h) n (among_taken locals (free_in ps parts) k n (has_firsts n (map (λ u. u.name) used) ∙ e)) in
    record {
      stands = record {
        plain = λ x. has-append (Store x) new locals ∙ or_both_false (has (Store x) new) (has (Store x) locals) (sym (own_among ps parts h (Store x)) ∙ none ps parts x) (k x);
        only = λ n e. has-append n new locals
            ∙ or_either (is_among taken n) (is_among own n) (has n locals) (has n new) (λ z. taken_only n (sym (among_kept locals (free_in ps parts) k n) ∙ z)) (λ z. sym (own_among ps parts h n) ∙ z) (sym (among_append taken own n) ∙ e);
        tells = each_mono (λ n. has n new ≡ true) (λ n. is_among (taken ++ own) n ≡ has n (new ++ locals)) inside new (each_has new);
      };
      used = each_used (λ n. is_among (taken ++ own) n ≡ has n (new ++ locals)) used (each_mono (λ n. has n (map (λ u. u.name) used) ≡ true) (λ n. is_among (taken ++ own) n ≡ has n (new ++ locals)) free (map (λ u. u.name) used) (each_has (map (λ u. u.name) used)));
    }
  where
    taken_only : (n : Ref) → (has n (free_in ps parts) && has n locals) ≡ true → has n locals ≡ true
    taken_only n e = and_back (has n (free_in ps parts)) (has n locals) e

    none : (ps : List Named) (parts : Parts) (x : Name) → is_among (params ps ++ numbers (map name_of (scope_of [] parts))) (Store x) ≡ false
    none ps parts x = refl

-- ---- uses

-- a name that is used, or declared by a scope around, is what it seems
pub used_tells : (xs : List ℕ) (locals scope : List Ref) (u : Use) → Stands xs locals scope → UsesTell xs locals (used u scope) → is_among xs u.name ≡ has u.name locals
used_tells xs locals scope u h k = by (has u.name scope) refl k
  where
    by : (b : Bool) → has u.name scope ≡ b → UsesTell xs locals (if b then [] else u ∷ []) → is_among xs u.name ≡ has u.name locals
    by true e z = each_member (λ n. is_among xs n ≡ has n locals) scope u.name h.tells e
    by false e z = z.0

-- nothing is open, and no scope is around
pub at_top : Stands [] [] []
at_top = record { plain = λ x. refl; only = λ n e. absurd (true≢false (sym e ∙ none n)); tells = tt }
  where
    none : (n : Ref) → is_among [] n ≡ false
    none (Plain x) = refl
    none (Store x) = refl
