-- Contexts: what an instance or the closest one above it gave under a key.
use Rattle.std.specs.Prelude.{ℕ, zero, suc, Option, Some, None}
use Rattle.sv_value.specs.Value.{Val}
use Rattle.sv_value.specs.declared.key.Key.{Key}
use Rattle.sv_instance.specs.Contexts.{context_at}
use Rattle.sv_instance.specs.declared.instance.Instance.{Instance}
use Rattle.sv_states.specs.States.{States, live, depth_of}

-- an instance's own, else what its parent has
abbrev pub own_or : Option Val → Option ℕ → (ℕ → Option Val) → Option Val
own_or (Some v) parent next = Some v
own_or None None next = None
own_or None (Some p) next = next p

abbrev pub context_step : Option Instance → Key → (ℕ → Option Val) → Option Val
context_step None k next = None
context_step (Some i) k next = own_or (context_at i.setup.contexts k) i.place.parent next

-- through so many levels at most
abbrev pub context : ℕ → States → Key → ℕ → Option Val
context zero s k n = None
context (suc room) s k n = context_step (live s n) k (context room s k)

abbrev pub context_of : States → ℕ → Key → Option Val
context_of s n k = context (depth_of (live s n)) s k n
