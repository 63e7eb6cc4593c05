-- The `$` names of an instance, and the stores whose values they have.
use Rattle.std.specs.Prelude.{ℕ, nat_eq, Bool, false, if◌then◌else◌, List, [], ◌∷◌, map, Option, Some, None}
use Rattle.sv_instance.specs.declared.subscriptions.Subscription.{Subscription}

-- the subscription of a `$` name
abbrev pub subscription_at : List Subscription → ℕ → Option Subscription
subscription_at [] cell = None
subscription_at (s ∷ subscriptions) cell = if nat_eq s.cell cell then Some s else subscription_at subscriptions cell

abbrev pub is_cell : Option ℕ → ℕ → Bool
is_cell None cell = false
is_cell (Some source) cell = nat_eq source cell

-- the `$` name of a variable
abbrev pub follower_of : List Subscription → ℕ → Option ℕ
follower_of [] cell = None
follower_of (s ∷ subscriptions) cell = if is_cell s.source cell then Some s.cell else follower_of subscriptions cell

-- the cell has the value of a store from now on, or of none
abbrev pub placed : ℕ → Option ℕ → Subscription → Subscription
placed cell store s = if nat_eq s.cell cell then record s { store = store } else s

-- a `$` name has the value of a store from now on, or of none
abbrev pub moved_to : List Subscription → ℕ → Option ℕ → List Subscription
moved_to subscriptions cell store = map (placed cell store) subscriptions
