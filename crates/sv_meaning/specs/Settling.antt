-- Settling: derived stores take what their functions give on their inputs' present values.
use Rattle.std.specs.Prelude.{ℕ, zero, suc, Bool, true, false, is_some, if◌then◌else◌, List, [], ◌∷◌, ◌++◌, length, Option, Some, None, option_map, option_and_then}
use Rattle.sv_base.specs.declared.span.Span.{Span}
use Rattle.sv_derived.specs.Derived.{Recipe, Derived, found, next}
use Rattle.sv_states.specs.Assignment.{computed}
use Rattle.sv_store.specs.Stores.{Store, value_at}
use Rattle.sv_value.specs.Value.{Val, list, store, items}
use Rattle.sv_meaning.specs.Outcome.{Ends, Deed, then_do}

-- the value of a derived store of an owner, by its recipe
abbrev pub Derives : Type 0
Derives = (owner : ℕ) → Recipe → Deed Val

-- a derived store is computed
abbrev pub compute : Derives → ℕ → Option Derived → Deed (Unit {0})
compute derives id None w = Ends tt w
compute derives id (Some d) w = then_do (derives d.owner d.recipe w) (λ v w'. Ends tt (record w' { states = computed w'.states id v }))

abbrev pub first_settled : Option ℕ → Derives → Deed (Unit {0}) → Deed (Unit {0})
first_settled None derives rest w = Ends tt w
first_settled (Some id) derives rest w = then_do (compute derives id (found w.states.derived id) w) (λ u. rest)

-- while one is pending, the one that was made first is computed; so many at most
abbrev pub settled_within : ℕ → Derives → Deed (Unit {0})
settled_within zero derives w = Ends tt w
settled_within (suc room) derives w = first_settled (next w.states.derived) derives (settled_within room derives) w

-- each derived store is computed once at most, since what it is derived of was made before it
abbrev pub settled : Derives → Deed (Unit {0})
settled derives w = settled_within (length w.states.derived) derives w

-- ---- recipes

-- the number of a store that was made
abbrev pub input_in : List Store → Val → Option ℕ
input_in stores (store id) = if is_some (value_at stores id) then Some id else None
input_in stores _ = None

-- the numbers of stores, behind some, where each value is one
abbrev pub inputs_after : List ℕ → List Store → List Val → Option (List ℕ)
inputs_after ids stores [] = Some ids
inputs_after ids stores (v ∷ vs) = option_and_then (λ id. inputs_after (ids ++ id ∷ []) stores vs) (input_in stores v)

-- what a store is derived of: one store, or those of a list
pub record Inputs : Type 0 where
  pub stores : List ℕ
  pub is_list : Bool

abbrev pub inputs_in : List Store → Val → Option Inputs
inputs_in stores (list vs) = option_map (λ ids. record { stores = ids; is_list = true }) (inputs_after [] stores (items vs))
inputs_in stores v = option_map (λ id. record { stores = id ∷ []; is_list = false }) (input_in stores v)

abbrev pub recipe : Inputs → Val → Span → Recipe
recipe i f s = record { inputs = i.stores; takes_list = i.is_list; function = f; span = s }
