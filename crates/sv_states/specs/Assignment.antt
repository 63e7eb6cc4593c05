-- Assignments, with all that they hand up and all that they tell the subscribers of stores.
use Rattle.std.specs.Prelude.{ℕ, zero, suc, Bool, true, false, if◌then◌else◌, List, [], ◌∷◌, Option, Some, None}
use Rattle.sv_derived.specs.Derived.{marked, done}
use Rattle.sv_value.specs.Value.{Val}
use Rattle.sv_store.specs.Stores.{Subscriber, with_value, differs_at, subscribers_at}
use Rattle.sv_instance.specs.Cells as cells
use Rattle.sv_instance.specs.Bound.{Bound, bound_at}
use Rattle.sv_instance.specs.Subscriptions.{subscription_at, moved_to}
use Rattle.sv_instance.specs.declared.instance.Instance.{Instance}
use Rattle.sv_instance.specs.declared.subscriptions.Subscription.{Subscription}
use Rattle.sv_states.specs.States.{States, live, with_instance, depth_of, value_in}
use Rattle.sv_states.specs.Waiting.{enqueued}
use Rattle.sv_states.specs.Moving.{Goal, goal_of, stores_after, leaves, comes, store_in, name_in, follower_in}

-- the cells that take a value one after the other, and the store at the end, if there is one
pub record Way : Type 0 where
  pub cells : List Subscriber
  pub store : Option ℕ

abbrev pub nowhere : Way
nowhere = record { cells = []; store = None }

abbrev pub onward : Subscriber → Way → Way
onward p w = record { cells = p ∷ w.cells; store = w.store }

-- on from a cell: what comes at the owner's variable that it is bound to, or this where it is bound to none
abbrev pub up : {A : Type 0} → A → Option Bound → (ℕ → ℕ → A) → A
up end None next = end
up end (Some b) next = next b.owner b.target

-- from a cell: to the store that a `$` name looks at; else into the cell, where that counts as a change, and on
abbrev pub into : Option Subscription → Bool → Option Bound → Subscriber → (ℕ → ℕ → Way) → Way
into (Some x) changes b p next = record { cells = []; store = x.store }
into None true b p next = onward p (up nowhere b next)
into None false b p next = nowhere

abbrev pub way_step : Val → Option Instance → Subscriber → (ℕ → ℕ → Way) → Way
way_step v None p next = nowhere
way_step v (Some i) p next = into (subscription_at i.subscriptions p.cell) (cells.changes i.cells p.cell v) (bound_at i.setup.bounds p.cell) p next

-- the way of a value from a cell, through so many levels at most
abbrev pub way : ℕ → States → Val → ℕ → ℕ → Way
way zero s v n c = nowhere
way (suc room) s v n c = way_step v (live s n) (record { inst = n; cell = c }) (way room s v)

-- through as many levels as stand above the instance, and its own
abbrev pub way_of : States → ℕ → ℕ → Val → Way
way_of s n c v = way (depth_of (live s n)) s v n c

-- whether assigning a cell counts as a change
abbrev pub changes_in : Option Instance → ℕ → Val → Bool
changes_in None c v = false
changes_in (Some i) c v = cells.changes i.cells c v

-- the cell alone takes the value
abbrev pub cell_stored : States → Subscriber → Val → States
cell_stored s p v = with_instance (λ i. record i { cells = cells.assigned i.cells p.cell v }) s p.inst

-- a cell takes the value, where that counts as a change; then comes what follows from it, and then its instance is queued
abbrev pub handing : Subscriber → Val → (States → States) → States → States
handing p v next s = if changes_in (live s p.inst) p.cell v then enqueued (next (cell_stored s p v)) p.inst else s

-- a cell takes the value, and nothing follows
abbrev pub taken : States → Subscriber → Val → States
taken s p v = handing p v (λ t. t) s

-- the subscribers take the value in order
abbrev pub told : List Subscriber → Val → States → States
told [] v s = s
told (p ∷ ps) v s = told ps v (taken s p v)

-- a store takes the value, where that counts as a change; what is derived of it is pending, and its subscribers take it
abbrev pub store_set : States → ℕ → Val → States
store_set s id v = if differs_at s.stores id v then told (subscribers_at s.stores id) v (record s { stores = with_value s.stores id v; derived = marked s.derived id }) else s

-- a derived store was computed: it is no longer pending, and takes the value
abbrev pub computed : States → ℕ → Val → States
computed s id v = store_set (record s { derived = done s.derived id }) id v

abbrev pub end_set : Option ℕ → Val → States → States
end_set None v s = s
end_set (Some id) v s = store_set s id v

-- the cells of a way take the value as far as each changes, and the store at the end
abbrev pub written : List Subscriber → Option ℕ → Val → States → States
written [] store v s = end_set store v s
written (p ∷ ps) store v s = handing p v (written ps store v) s

-- the `$` name of a cell looks at a store or at none
abbrev pub placed_at : ℕ → Option ℕ → Instance → Instance
placed_at c id i = record i { subscriptions = moved_to i.subscriptions c id }

-- and takes a value
abbrev pub looked : Subscriber → Option ℕ → Val → States → States
looked p id v s = taken (with_instance (placed_at p.cell id) s p.inst) p v

-- a `$` name leaves the store that it looks at and looks elsewhere, behind the other subscribers
abbrev pub moved : States → Subscriber → Goal → States
moved s p g = looked p g.store g.value (record s { stores = comes g.store p (leaves (store_in (name_in (live s p.inst) p.cell)) p s.stores) })

abbrev pub moved_if : Option ℕ → ℕ → Goal → States → States
moved_if None n g s = s
moved_if (Some c) n g s = moved s (record { inst = n; cell = c }) g

-- the `$` name of a variable moves, where it has one
abbrev pub followed : Subscriber → Goal → States → States
followed p g s = moved_if (follower_in (live s p.inst) p.cell) p.inst g s

-- those of the cells of a way, from its end
abbrev pub all_followed : List Subscriber → Goal → States → States
all_followed [] g s = s
all_followed (p ∷ ps) g s = followed p g (all_followed ps g s)

-- a value goes its way, and then the `$` names of the variables that took it move
abbrev pub sent : Way → Val → States → States
sent w v s = all_followed w.cells (goal_of (stores_after w.store v s.stores) v) (written w.cells w.store v s)

-- an assignment
abbrev pub assigned : States → ℕ → ℕ → Val → States
assigned s n c v = sent (way_of s n c v) v s

-- into a cell, where that counts as a change, and no further
abbrev pub way_into : States → Subscriber → Val → Way
way_into s p v = if changes_in (live s p.inst) p.cell v then onward p nowhere else nowhere

-- what an owner hands down: a prop takes it, and nothing is handed up
abbrev pub handed_down : States → Subscriber → Val → States
handed_down s p v = sent (way_into s p v) v s

-- a prop is bound to a variable of the owner
abbrev pub with_bound : Bound → Instance → Instance
with_bound b i = record i { setup = record i.setup { bounds = b ∷ i.setup.bounds } }

abbrev pub bound_over : Option Val → Bound → States → States → States
bound_over None b old s = s
bound_over (Some v) b old s = sent (way_of old b.owner b.target v) v s

-- the prop is bound from now on, and its value goes the way of the owner's variable
abbrev pub bound_up : States → ℕ → Bound → States
bound_up s n b = bound_over (value_in (live s n) b.cell) b s (with_instance (with_bound b) s n)
