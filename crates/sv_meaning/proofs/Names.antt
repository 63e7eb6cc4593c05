-- The entry of a name that a scan from the end finds.
use Rattle.std.proofs.Common.{◌≡◌, ℕ, zero, suc, ◌<◌, List, [], ◌∷◌, ◌++◌, drop-cons, append_assoc, slice_get, map, length, Option, option_map, Some, None, refl, sym, ap, ◌∙◌, arith, get_or, drop, true, false, nat_eq}
use Rattle.sv_value.specs.Value.{Val, undefined}
use Rattle.sv_value.specs.View.{view_of}
use Rattle.sv_ops.specs.Members.{or_undefined}
use Rattle.sv_value.specs.declared.value.Value.{Value}
use Rattle.sv_view.specs.Local.{Local}
use Rattle.std.proofs.lemmas.List.{map-set}
use Rattle.std.specs.Prelude.{slice_set}
use Rattle.sv_base.specs.declared.names.Name.{Name}
use Rattle.sv_meaning.specs.Env.{Env, place, bound, shown, given_at, given_value}
use Rattle.sv_meaning.specs.declared.locals.Entry.{Entry}

abbrev pub show : Entry → ℕ × Option Val
show e = (e.name.0, option_map view_of e.value)

pub place_found : (xs : List Entry) (i : ℕ) (e : Entry) (x : ℕ) → i < length xs → e ≡ get_or xs i e → nat_eq e.name.0 x ≡ true → place x (map show (drop (suc i) xs)) ≡ None → Some i ≡ place x (map show xs)
place_found [] i e x h g n d = absurd (omega arith)
place_found (y ∷ xs) zero e x h g n d =
    let m : nat_eq y.name.0 x ≡ true = ap (λ z. nat_eq z.name.0 x) (sym g) ∙ n in
    rw (d, m) refl
place_found (y ∷ xs) (suc i) e x h g n d = rw (← place_found xs i e x (omega arith) g n d) refl

pub place_passed : (xs : List Entry) (i : ℕ) (e : Entry) (x : ℕ) → i < length xs → e ≡ get_or xs i e → nat_eq e.name.0 x ≡ false → place x (map show (drop (suc i) xs)) ≡ None → place x (map show (drop i xs)) ≡ None
place_passed [] i e x h g n d = absurd (omega arith)
place_passed (y ∷ xs) zero e x h g n d =
    let m : nat_eq y.name.0 x ≡ false = ap (λ z. nat_eq z.name.0 x) (sym g) ∙ n in
    rw (d, m) refl
place_passed (y ∷ xs) (suc i) e x h g n d = place_passed xs i e x (omega arith) g n d

-- the next name of some, with the next value or undefined
pub bound_rest : {N : Type 0} (f : N → ℕ) (xs : List N) (i : ℕ) (x : N) → i < length xs → bound (map f (drop i xs)) [] ≡ (f (get_or xs i x), Some undefined) ∷ bound (map f (drop (suc i) xs)) []
bound_rest f [] i x h = absurd (omega arith)
bound_rest f (y ∷ xs) zero x h = refl
bound_rest f (y ∷ xs) (suc i) x h = bound_rest f xs i x (omega arith)

pub bound_next : {N : Type 0} (f : N → ℕ) (xs : List N) (vs : List Value) (i : ℕ) (x : N) → i < length xs → bound (map f (drop i xs)) (map view_of (drop i vs)) ≡ (f (get_or xs i x), Some (or_undefined (slice_get (map view_of vs) i))) ∷ bound (map f (drop (suc i) xs)) (map view_of (drop (suc i) vs))
bound_next f [] vs i x h = absurd (omega arith)
bound_next f (y ∷ xs) [] zero x h = refl
bound_next f (y ∷ xs) (v ∷ vs) zero x h = refl
bound_next f (y ∷ xs) [] (suc i) x h = bound_rest f xs i x (omega arith)
bound_next f (y ∷ xs) (v ∷ vs) (suc i) x h = bound_next f xs vs i x (omega arith)

-- the entry at a place has another value
pub value_put : (xs ys : List Entry) (env : Env) (i : ℕ) (x : Name) (v : Value) → map show xs ≡ env → Some i ≡ place x.0 env → ys ≡ slice_set xs i (record { name = x; value = Some v }) → map show ys ≡ given_value x.0 (view_of v) env
value_put xs ys env i x v e p g =
    ap (map show) g ∙ map-set show xs i (record { name = x; value = Some v }) ∙ ap (λ z. given_at (Some i) x.0 (view_of v) z) e ∙ ap (λ q. given_at q x.0 (view_of v) env) p

-- the next local in front, which stands behind the others
pub shown_next : (locals : List Local) (i : ℕ) (d : Local) → i < length locals → shown (drop i locals) ≡ shown (drop (suc i) locals) ++ ((get_or locals i d).name, Some (get_or locals i d).value) ∷ []
shown_next locals i d h = ap shown (drop-cons locals i d h)

pub bound_pushed : (env env' rest all : Env) (x : ℕ) (v w : Val) → env' ≡ env ++ (x, Some v) ∷ [] → v ≡ w → all ≡ (x, Some w) ∷ rest → env ++ all ≡ env' ++ rest
bound_pushed env env' rest all x v w e g h = rw (h, ← g, e, append_assoc) refl
