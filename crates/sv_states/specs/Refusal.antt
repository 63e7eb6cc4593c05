-- What speaks against an assignment.
use Rattle.std.specs.Prelude.{◌≡◌, ℕ, zero, suc, Bool, true, false, if◌then◌else◌, Option, Some, None, Result, Ok, Err}
use Rattle.sv_value.specs.Value.{Val}
use Rattle.sv_store.specs.Stores.{Subscriber}
use Rattle.sv_instance.specs.Cells as cells
use Rattle.sv_instance.specs.Bound.{Bound, bound_at}
use Rattle.sv_instance.specs.Subscriptions.{subscription_at, follower_of}
use Rattle.sv_instance.specs.declared.instance.Instance.{Instance}
use Rattle.sv_instance.specs.declared.subscriptions.Subscription.{Subscription}
use Rattle.sv_states.specs.States.{States, live, depth_of, value_in, is_derived}
use Rattle.sv_states.specs.Assignment.{up}
use Rattle.sv_states.specs.Moving.{may_hold}
use Rattle.sv_states.specs.declared.error.AssignError.{AssignError}
use Rattle.sv_states.specs.declared.error.AssignError.TheVariants.{ReadOnly, NotAStore, NoMemory}

-- a derived store isn't set
abbrev pub store_refusal : States → ℕ → Option AssignError
store_refusal s id = if is_derived s id then Some ReadOnly else None

-- a `$` name is assigned where its name holds a store
abbrev pub name_refusal : States → Option ℕ → Option AssignError
name_refusal s None = Some NotAStore
name_refusal s (Some id) = store_refusal s id

-- a variable with a `$` name takes a store or nothing
abbrev pub held_refusal : Option ℕ → Val → Option AssignError
held_refusal None v = None
held_refusal (Some c) v = if may_hold v then None else Some NotAStore

abbrev pub first_of : Option AssignError → Option AssignError → Option AssignError
first_of None e = e
first_of (Some e) _ = Some e

abbrev pub into_refusal : States → Val → Option Subscription → Bool → Option ℕ → Option Bound → (ℕ → ℕ → Option AssignError) → Option AssignError
into_refusal s v (Some x) changes follower b next = name_refusal s x.store
into_refusal s v None true follower b next = first_of (up None b next) (held_refusal follower v)
into_refusal s v None false follower b next = None

abbrev pub refusal_step : States → Val → Option Instance → ℕ → (ℕ → ℕ → Option AssignError) → Option AssignError
refusal_step s v None c next = None
refusal_step s v (Some i) c next = into_refusal s v (subscription_at i.subscriptions c) (cells.changes i.cells c v) (follower_of i.subscriptions c) (bound_at i.setup.bounds c) next

-- on the way of a value from a cell, through so many levels at most
abbrev pub refusal : ℕ → States → Val → ℕ → ℕ → Option AssignError
refusal zero s v n c = None
refusal (suc room) s v n c = refusal_step s v (live s n) c (refusal room s v)

-- what speaks against assigning a cell
abbrev pub assign_refusal : States → ℕ → ℕ → Val → Option AssignError
assign_refusal s n c v = refusal (depth_of (live s n)) s v n c

abbrev pub taken_refusal : Option Instance → ℕ → Val → Option AssignError
taken_refusal None c v = None
taken_refusal (Some i) c v = if cells.changes i.cells c v then held_refusal (follower_of i.subscriptions c) v else None

-- what speaks against handing a value down to a prop
abbrev pub hand_refusal : States → Subscriber → Val → Option AssignError
hand_refusal s p v = taken_refusal (live s p.inst) p.cell v

abbrev pub sent_refusal : Option Val → States → ℕ → ℕ → Option AssignError
sent_refusal None s n c = None
sent_refusal (Some v) s n c = assign_refusal s n c v

-- what speaks against binding a prop to a variable of the owner
abbrev pub bind_refusal : States → ℕ → Bound → Option AssignError
bind_refusal s n b = sent_refusal (value_in (live s n) b.cell) s b.owner b.target

-- the answer of what may be refused: it is done, or memory was wanting, where nothing speaks against it; else it says what does
abbrev pub IsAnswer : {A : Type 0} → Option AssignError → Result A AssignError → Type 0
IsAnswer refusal (Ok x) = refusal ≡ None
IsAnswer refusal (Err ReadOnly) = refusal ≡ Some ReadOnly
IsAnswer refusal (Err NotAStore) = refusal ≡ Some NotAStore
IsAnswer refusal (Err NoMemory) = refusal ≡ None
