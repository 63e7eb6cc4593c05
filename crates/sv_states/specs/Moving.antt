-- Where `$` names look: at the stores that their names hold, or at none.
use Rattle.std.specs.Prelude.{ℕ, ◌<◌, Bool, true, false, List, Option, Some, None}
use Rattle.sv_value.specs.Value.{Val, undefined, null, store}
use Rattle.sv_store.specs.Stores.{Store, Subscriber, value_at, with_value, subscribed, unsubscribed}
use Rattle.sv_instance.specs.Subscriptions.{subscription_at, follower_of}
use Rattle.sv_instance.specs.declared.instance.Instance.{Instance}
use Rattle.sv_instance.specs.declared.subscriptions.Subscription.{Subscription}

-- whether a variable with a `$` name may have a value: a store, or nothing
abbrev pub may_hold : Val → Bool
may_hold undefined = true
may_hold null = true
may_hold (store id) = true
may_hold _ = false

-- the store that a `$` name looks at, and the value that it has then
pub record Goal : Type 0 where
  pub store : Option ℕ
  pub value : Val

-- it looks at nothing
abbrev pub no_goal : Goal
no_goal = record { store = None; value = undefined }

abbrev pub goal_at : ℕ → Option Val → Goal
goal_at id None = no_goal
goal_at id (Some v) = record { store = Some id; value = v }

-- where the `$` name of a variable with a value looks
abbrev pub goal_of : List Store → Val → Goal
goal_of stores (store id) = goal_at id (value_at stores id)
goal_of stores _ = no_goal

-- a store, if it is one, is among so many
abbrev pub IsThere : ℕ → Option ℕ → Type 0
IsThere count None = Unit {0}
IsThere count (Some id) = id < count

-- the stores once one of them, if any, is set to a value
abbrev pub stores_after : Option ℕ → Val → List Store → List Store
stores_after None v stores = stores
stores_after (Some id) v stores = with_value stores id v

-- a subscriber leaves a store, or comes to one behind the others, where there is one
abbrev pub leaves : Option ℕ → Subscriber → List Store → List Store
leaves None p stores = stores
leaves (Some id) p stores = unsubscribed stores id p

abbrev pub comes : Option ℕ → Subscriber → List Store → List Store
comes None p stores = stores
comes (Some id) p stores = subscribed stores id p

abbrev pub store_in : Option Subscription → Option ℕ
store_in None = None
store_in (Some x) = x.store

-- the subscription of a `$` name of an instance
abbrev pub name_in : Option Instance → ℕ → Option Subscription
name_in None c = None
name_in (Some i) c = subscription_at i.subscriptions c

-- the `$` name of a variable of an instance
abbrev pub follower_in : Option Instance → ℕ → Option ℕ
follower_in None c = None
follower_in (Some i) c = follower_of i.subscriptions c
