-- Ways as they are kept.
use Rattle.std.specs.Prelude.{ℕ, suc, List, ◌++◌, length, map, Option, Some, None}
use Rattle.sv_store.specs.Kept.{subscriber_of}
use Rattle.sv_store.specs.Stores.{Store, Subscriber, subscribers_at}
use Rattle.sv_instance.specs.Bound.{Bound}
use Rattle.sv_states.specs.Assignment as seen
use Rattle.sv_states.specs.declared.way.Way.{Way}

abbrev pub way_seen : Way → seen.Way
way_seen w = record { cells = map subscriber_of w.cells.items; store = w.store }

-- how many copies of a value a store and its subscribers take
abbrev pub store_needs : List Store → Option ℕ → ℕ
store_needs stores None = 0
store_needs stores (Some id) = suc (length (subscribers_at stores id))

-- a way that goes on
abbrev pub behind : seen.Way → seen.Way → seen.Way
behind v w = record { cells = v.cells ++ w.cells; store = w.store }

-- the variable that the value goes on to
abbrev pub above : Option Bound → Option Subscriber
above None = None
above (Some b) = Some (record { inst = b.owner; cell = b.target })
