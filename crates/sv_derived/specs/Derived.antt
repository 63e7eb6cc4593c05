-- The derived stores, in the order in which they were made (`derived` of `svelte/store`).
use Rattle.std.specs.Prelude.{ℕ, Bool, false, not, ◌&&◌, ◌||◌, nat_eq, if◌then◌else◌, List, [], ◌∷◌, ◌++◌, map, Option, Some, None, refl}
use Rattle.std.specs.List.{list_any}
use Rattle.std.specs.Coded.{Coded, code_by, coded×, coded_ℕ, coded_bool, coded_list}
use Rattle.sv_base.specs.declared.span.Span.{Span}
use Rattle.sv_value.specs.Value.{Val}
use Rattle.sv_value.specs.Stored.{val_code}

-- how a derived store is computed: from which stores, whether its function takes the list of their values or the value of the only one, the
-- function, and where that is written
pub record Recipe : Type 0 where
  pub inputs : List ℕ
  pub takes_list : Bool
  pub function : Val
  pub span : Span

-- a derived store: its number, the instance that made it (0 for a module file), its recipe, whether an input changed since it was computed, and
-- whether its instance is gone
pub record Derived : Type 0 where
  pub id : ℕ
  pub owner : ℕ
  pub recipe : Recipe
  pub is_pending : Bool
  pub is_frozen : Bool

abbrev pub span_code : Coded Span
span_code = code_by (ℕ × (ℕ × ℕ)) (coded× coded_ℕ (coded× coded_ℕ coded_ℕ)) (λ s. (s.file, (s.from, s.to))) (λ p. record { file = p.0; from = p.1.0; to = p.1.1 }) (λ _. refl)

abbrev pub recipe_code : Coded Recipe
recipe_code =
    code_by (List ℕ × (Bool × (Val × Span))) (coded× (coded_list coded_ℕ) (coded× coded_bool (coded× val_code span_code)))
    (λ r. (r.inputs, (r.takes_list, (r.function, r.span)))) (λ p. record { inputs = p.0; takes_list = p.1.0; function = p.1.1.0; span = p.1.1.1 }) (λ _. refl)

abbrev pub derived_code : Coded Derived
derived_code =
    code_by (ℕ × (ℕ × (Recipe × (Bool × Bool)))) (coded× coded_ℕ (coded× coded_ℕ (coded× recipe_code (coded× coded_bool coded_bool))))
    (λ d. (d.id, (d.owner, (d.recipe, (d.is_pending, d.is_frozen)))))
    (λ p. record { id = p.0; owner = p.1.0; recipe = p.1.1.0; is_pending = p.1.1.1.0; is_frozen = p.1.1.1.1 })
    (λ _. refl)

-- one more, which is computed
abbrev pub with_one : List Derived → ℕ → ℕ → Recipe → List Derived
with_one all id owner recipe = all ++ record { id = id; owner = owner; recipe = recipe; is_pending = false; is_frozen = false } ∷ []

abbrev pub found : List Derived → ℕ → Option Derived
found [] id = None
found (d ∷ all) id = if nat_eq d.id id then Some d else found all id

-- what a derived store is computed from; nothing where it is no derived one
abbrev pub inputs_of : Option Derived → List ℕ
inputs_of None = []
inputs_of (Some d) = d.recipe.inputs

abbrev pub is_input : ℕ → Derived → Bool
is_input id d = list_any (nat_eq id) d.recipe.inputs

-- an input changed
abbrev pub marked_by : ℕ → Derived → Derived
marked_by id d = record d { is_pending = d.is_pending || (not d.is_frozen && is_input id d) }

-- a store changed, so that each with this input is pending, but a frozen one
abbrev pub marked : List Derived → ℕ → List Derived
marked all id = map (marked_by id) all

-- the pending one that was made first
abbrev pub next : List Derived → Option ℕ
next [] = None
next (d ∷ all) = if d.is_pending then Some d.id else next all

abbrev pub done_by : ℕ → Derived → Derived
done_by id d = record d { is_pending = d.is_pending && not (nat_eq d.id id) }

-- one was computed
abbrev pub done : List Derived → ℕ → List Derived
done all id = map (done_by id) all

abbrev pub frozen_by : ℕ → Derived → Derived
frozen_by owner d = record d { is_frozen = d.is_frozen || nat_eq d.owner owner; is_pending = d.is_pending && not (nat_eq d.owner owner) }

-- an instance is gone, and what it made keeps its value
abbrev pub frozen : List Derived → ℕ → List Derived
frozen all owner = map (frozen_by owner) all
