-- How stores are kept in memory.
use Rattle.std.specs.Prelude.{List, map}
use Rattle.sv_value.specs.View.{view_of}
use Rattle.sv_store.specs.Stores.{Subscriber, Store}
use Rattle.sv_store.specs.declared.stores.Sub.{Sub}
use Rattle.sv_store.specs.declared.stores.Entry.{Entry}

abbrev pub subscriber_of : Sub → Subscriber
subscriber_of s = record { inst = s.inst.number; cell = s.cell }

abbrev pub store_of : Entry → Store
store_of e = record { value = view_of e.value; subscribers = map subscriber_of e.subscribers.items }

abbrev pub stores_of : List Entry → List Store
stores_of entries = map store_of entries
