-- What the shelf and the sink in memory hold, and which of their calls fail.
use Rattle.std.specs.Prelude.{ℕ, zero, suc, ◌+◌, ◌-◌, ◌^◌, ◌==◌, min, List, map, Bool, String, string_bytes, Vec, if◌then◌else◌}
use Rattle.std.specs.List.{list_any}
use Rattle.std.specs.declared.alloc.Global.{Global}
use Rattle.sv_io.specs.Files.{Files}

-- the name and the bytes of a file
abbrev pub file_of : String Global × Vec ℕ Global → List ℕ × List ℕ
file_of file = (string_bytes file.0, file.1.items)

abbrev pub files_of : List (String Global × Vec ℕ Global) → Files
files_of files = map file_of files

-- a shelf: its files, the calls that fail, and the number of calls so far
pub record ShelfState : Type 0 where
  pub files : Files
  pub fail : List ℕ
  pub calls : ℕ

-- a sink: what was written, how much one write takes, the calls that fail, and the number of calls so far
pub record SinkState : Type 0 where
  pub written : List ℕ
  pub take : ℕ
  pub fail : List ℕ
  pub calls : ℕ

-- the number of the next call; it stays at 2^64 - 1
abbrev pub next_call : ℕ → ℕ
next_call calls = min (calls + 1) (2 ^ 64 - 1)

-- whether the list has that call
abbrev pub is_listed : List ℕ → ℕ → Bool
is_listed fail call = list_any (λ listed. listed == call) fail

-- how many of the first so many calls the list has
abbrev pub listed_up_to : List ℕ → ℕ → ℕ
listed_up_to fail zero = 0
listed_up_to fail (suc calls) = listed_up_to fail calls + (if is_listed fail (suc calls) then 1 else 0)
