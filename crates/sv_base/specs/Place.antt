-- Lines and columns of a text. A line ends with LF, and a column counts bytes.
use Rattle.std.specs.Prelude.{ℕ, ◌+◌, ◌==◌, Bool, List, length, take, count_by}
use Rattle.std.specs.List.{after_last}

-- LF, which alone ends a line
abbrev pub is_line_feed : ℕ → Bool
is_line_feed b = b == 10

-- the last line of a text: what stands behind its last line feed, or all
abbrev pub last_line : List ℕ → List ℕ
last_line text = after_last is_line_feed text

-- the line of a place, from 1: one more than the line feeds before it
abbrev pub line_of : List ℕ → ℕ → ℕ
line_of bytes at = count_by is_line_feed (take at bytes) + 1

-- the column of a place, from 1: one more than the bytes since the last line feed before it
abbrev pub column_of : List ℕ → ℕ → ℕ
column_of bytes at = length (last_line (take at bytes)) + 1
