-- Keyed steps and what they do to a list of keys: how the rows of an `{#each}` block with keys (Svelte 4 docs, 'Keyed each
-- blocks') come from their old order into the new one.
use Rattle.std.specs.Prelude.{◌≡◌, ℕ, ◌<◌, List, [], ◌∷◌, ◌++◌, Option, Some, None, if◌then◌else◌, slice_get}
use Rattle.std.specs.Option.{option_and_then}
use Rattle.sv_value.specs.declared.key.Key.{Key}
use Rattle.sv_keyed.specs.Keys.{same_key, times}
use Rattle.sv_keyed.specs.declared.step.KeyStep.{KeyStep}
use Rattle.sv_keyed.specs.declared.step.KeyStep.TheVariants.{Drop, Make, Shift}

-- the list without the first such key
abbrev pub without : Key → List Key → List Key
without k [] = []
without k (x ∷ xs) = if same_key k x then xs else x ∷ without k xs

-- the list with a key put before another, or at the end
abbrev pub put : Key → Option Key → List Key → List Key
put k None xs = xs ++ k ∷ []
put k (Some b) [] = k ∷ []
put k (Some b) (x ∷ xs) = if same_key b x then k ∷ x ∷ xs else x ∷ put k (Some b) xs

-- the key at a place of a list, where there is a place
abbrev pub key_at : List Key → Option ℕ → Option Key
key_at keys place = option_and_then (slice_get keys) place

-- what a step does with the key that it names; where it names none, nothing
abbrev pub drop_key : Option Key → List Key → List Key
drop_key None xs = xs
drop_key (Some k) xs = without k xs

abbrev pub make_key : Option Key → Option Key → List Key → List Key
make_key None before xs = xs
make_key (Some k) before xs = put k before xs

abbrev pub shift_key : Option Key → Option Key → List Key → List Key
shift_key None before xs = xs
shift_key (Some k) before xs = put k before (without k xs)

-- one step on the present keys
abbrev pub apply : List Key → List Key → KeyStep → List Key → List Key
apply old new (Drop at) xs = drop_key (slice_get old at) xs
apply old new (Make at before) xs = make_key (slice_get new at) (key_at new before) xs
apply old new (Shift at before) xs = shift_key (slice_get new at) (key_at new before) xs

-- all steps in order
abbrev pub apply_all : List Key → List Key → List KeyStep → List Key → List Key
apply_all old new [] xs = xs
apply_all old new (s ∷ steps) xs = apply_all old new steps (apply old new s xs)

-- the step names a key of its list that is not in the other one, or, to shift it, in both
abbrev pub Names : List Key → ℕ → (Key → Type 0) → Type 0
Names keys at P = (k : Key) × (slice_get keys at ≡ Some k) × P k

-- a key that stands in both lists is neither dropped nor made, and only such a key is shifted
abbrev pub IsFair : List Key → List Key → KeyStep → Type 0
IsFair old new (Drop at) = Names old at (λ k. times k new ≡ 0)
IsFair old new (Make at before) = Names new at (λ k. times k old ≡ 0)
IsFair old new (Shift at before) = Names new at (λ k. 0 < times k old)

abbrev pub AreFair : List Key → List Key → List KeyStep → Type 0
AreFair old new [] = Unit {0}
AreFair old new (s ∷ steps) = IsFair old new s × AreFair old new steps

-- a row is put at the end of a list, or before a row whose key stands there
abbrev pub IsSpot : List Key → List Key → Option ℕ → Type 0
IsSpot new xs None = Unit {0}
IsSpot new xs (Some at) = Names new at (λ k. 0 < times k xs)

-- the same of the row that a step puts somewhere: a row that is moved is put before another one
abbrev pub HasSpot : List Key → List Key → KeyStep → Type 0
HasSpot new xs (Drop at) = Unit {0}
HasSpot new xs (Make at before) = IsSpot new xs before
HasSpot new xs (Shift at before) = IsSpot new (drop_key (slice_get new at) xs) before

-- the same of steps in order, each on the keys that those before it leave
abbrev pub HaveSpots : List Key → List Key → List KeyStep → List Key → Type 0
HaveSpots old new [] xs = Unit {0}
HaveSpots old new (s ∷ steps) xs = HasSpot new xs s × HaveSpots old new steps (apply old new s xs)

-- the steps lead from the old keys to the new ones
pub record Leads (old new : List Key) (steps : List KeyStep) : Type 0 where
  pub keys : apply_all old new steps old ≡ new
  pub fair : AreFair old new steps
