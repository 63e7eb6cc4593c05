-- Stores as contracts see them (`writable` of `svelte/store`).
use Rattle.std.specs.Prelude.{ℕ, zero, suc, ◌≤◌, Bool, false, not, ◌&&◌, nat_eq, if◌then◌else◌, List, [], ◌∷◌, ◌++◌, length, map, sum_by, count_by, Option, option_map, slice_get, refl}
use Rattle.std.specs.List.{filter, list_any}
use Rattle.std.specs.Coded.{Coded, code_by, coded×, coded_ℕ, coded_list}
use Rattle.sv_value.specs.Value.{Val}
use Rattle.sv_value.specs.Change.{differs}
use Rattle.sv_value.specs.Stored.{val_code}

-- a cell of an instance
pub record Subscriber : Type 0 where
  pub inst : ℕ
  pub cell : ℕ

-- a store's value, and who is subscribed to it, in the order of subscription
pub record Store : Type 0 where
  pub value : Val
  pub subscribers : List Subscriber

abbrev pub subscriber_code : Coded Subscriber
subscriber_code = code_by (ℕ × ℕ) (coded× coded_ℕ coded_ℕ) (λ s. (s.inst, s.cell)) (λ p. record { inst = p.0; cell = p.1 }) (λ _. refl)

abbrev pub store_code : Coded Store
store_code =
    code_by (Val × List Subscriber) (coded× val_code (coded_list subscriber_code)) (λ s. (s.value, s.subscribers)) (λ p. record { value = p.0; subscribers = p.1 }) (λ _. refl)

-- the list with the item at a place changed, where there is one
abbrev pub changed_at : {A : Type 0} → (A → A) → List A → ℕ → List A
changed_at f [] n = []
changed_at f (x ∷ xs) zero = f x ∷ xs
changed_at f (x ∷ xs) (suc n) = x ∷ changed_at f xs n

-- the value of a store
abbrev pub value_at : List Store → ℕ → Option Val
value_at stores id = option_map (λ s. s.value) (slice_get stores id)

-- the subscribers of a store
abbrev pub subscribers_at : List Store → ℕ → List Subscriber
subscribers_at [] id = []
subscribers_at (s ∷ stores) zero = s.subscribers
subscribers_at (s ∷ stores) (suc id) = subscribers_at stores id

-- one more store
abbrev pub made : List Store → Val → List Store
made stores v = stores ++ record { value = v; subscribers = [] } ∷ []

-- whether setting a store to a value counts as a change
abbrev pub differs_at : List Store → ℕ → Val → Bool
differs_at [] id v = false
differs_at (s ∷ stores) zero v = differs s.value v
differs_at (s ∷ stores) (suc id) v = differs_at stores id v

-- a store takes the value where that counts as a change
abbrev pub set_to : Val → Store → Store
set_to v s = record s { value = if differs s.value v then v else s.value }

abbrev pub with_value : List Store → ℕ → Val → List Store
with_value stores id v = changed_at (set_to v) stores id

abbrev pub same_subscriber : Subscriber → Subscriber → Bool
same_subscriber a b = nat_eq a.inst b.inst && nat_eq a.cell b.cell

-- how often a cell is subscribed
abbrev pub times : Subscriber → List Store → ℕ
times sub stores = sum_by (λ s. count_by (same_subscriber sub) s.subscribers) stores

-- whether a cell is subscribed to a store
abbrev pub is_subscribed : List Store → Subscriber → Bool
is_subscribed stores sub = list_any (λ s. list_any (same_subscriber sub) s.subscribers) stores

-- a store with one more subscriber
abbrev pub with_subscriber : Subscriber → Store → Store
with_subscriber sub s = record s { subscribers = s.subscribers ++ sub ∷ [] }

-- a cell is subscribed to a store, behind its other subscribers
abbrev pub subscribed : List Store → ℕ → Subscriber → List Store
subscribed stores id sub = changed_at (with_subscriber sub) stores id

-- a store without a subscriber
abbrev pub without_subscriber : Subscriber → Store → Store
without_subscriber sub s = record s { subscribers = filter (λ other. not (same_subscriber sub other)) s.subscribers }

-- a cell is no longer subscribed to a store
abbrev pub unsubscribed : List Store → ℕ → Subscriber → List Store
unsubscribed stores id sub = changed_at (without_subscriber sub) stores id

-- whether a subscriber is of another instance
abbrev pub is_other : ℕ → Subscriber → Bool
is_other n sub = not (nat_eq sub.inst n)

-- a store without the subscriptions of an instance
abbrev pub without : ℕ → Store → Store
without n s = record s { subscribers = filter (is_other n) s.subscribers }

abbrev pub dropped : List Store → ℕ → List Store
dropped stores n = map (without n) stores

abbrev pub subscription_count : List Store → ℕ
subscription_count stores = sum_by (λ s. length s.subscribers) stores

-- each cell is subscribed to one store at most, once
abbrev pub IsOnce : List Store → Type 0
IsOnce stores = (sub : Subscriber) → times sub stores ≤ 1
