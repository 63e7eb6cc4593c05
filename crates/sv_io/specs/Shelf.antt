-- What a shelf answers.
use Rattle.std.specs.Prelude.{◌≡◌, ℕ, ◌<◌, ◌≤◌, List, length, Some, None, ⊤}
use Rattle.sv_io.specs.Files.{Files, find_file}
use Rattle.sv_io.specs.declared.shelf.Got.{Got}
use Rattle.sv_io.specs.declared.shelf.Got.TheVariants.{Bytes, Missing, TooLong}

-- a file was found, it is not there, or it is longer than the limit
abbrev pub IsGot : Files → List ℕ → ℕ → Got → Type 0
IsGot files name limit (Bytes bytes) = find_file files name ≡ Some bytes.items
IsGot files name limit Missing = find_file files name ≡ None
IsGot files name limit TooLong = (bytes : List ℕ) × (find_file files name ≡ Some bytes) × (limit < length bytes)

-- no more bytes came than were asked for
abbrev pub IsWithin : ℕ → Got → Type 0
IsWithin limit (Bytes bytes) = length bytes.items ≤ limit
IsWithin limit Missing = ⊤
IsWithin limit TooLong = ⊤
