-- Where a node stands in a page, and what its changes make of the page's tokens.
use Rattle.std.specs.Prelude.{ℕ, zero, suc, nat_lt, List, length, map, Option, Some, None, if◌then◌else◌}
use Rattle.std.specs.List.{position_or_len}
use Rattle.sv_tokens.specs.Seen.{Seen, starts}
use Rattle.sv_tokens.specs.Replay.{at_node, without, moved}

-- where the node with that serial number begins, if it is on the page; the page itself is not
abbrev pub place_of : ℕ → List Seen → Option ℕ
place_of zero ts = None
place_of (suc n) ts = if nat_lt (position_or_len (starts (suc n)) ts) (length ts) then Some (position_or_len (starts (suc n)) ts) else None

-- the node's first token is rewritten
abbrev pub rewritten : ℕ → (Seen → Seen) → List Seen → List Seen
rewritten zero f ts = ts
rewritten (suc n) f ts = map (at_node (suc n) f) ts

-- the node is gone, with all below it
abbrev pub removed : ℕ → List Seen → List Seen
removed zero ts = ts
removed (suc n) ts = without (suc n) ts

-- the node is before that sibling, or at its parent's end
abbrev pub shifted : ℕ → (before : ℕ) → List Seen → List Seen
shifted zero before ts = ts
shifted (suc n) before ts = moved (suc n) before ts
