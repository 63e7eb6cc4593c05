-- Where the lines of a text begin.
use Rattle.std.specs.Prelude.{◌≡◌, ℕ, suc, ◌+◌, ◌-◌, Bool, true, ◌&&◌, List, [], ◌∷◌, All, filter, length, nat_le, nat_lt, if◌then◌else◌}
use Rattle.sv_ast.specs.declared.files.SourceFile.{SourceFile}
use Rattle.sv_base.specs.Place.{is_line_feed, line_of, column_of}

-- the places behind the line feeds of a text that begins at a place
abbrev pub behind_feeds : ℕ → List ℕ → List ℕ
behind_feeds at [] = []
behind_feeds at (b ∷ bytes) = if is_line_feed b then suc at ∷ behind_feeds (suc at) bytes else behind_feeds (suc at) bytes

-- the first place of a text, and those behind its line feeds
abbrev pub line_starts : List ℕ → List ℕ
line_starts bytes = 0 ∷ behind_feeds 0 bytes

-- whether each line begins behind the one before
abbrev pub ascends : List ℕ → Bool
ascends [] = true
ascends (start ∷ []) = true
ascends (start ∷ next ∷ more) = nat_lt start next && ascends (next ∷ more)

-- the lines of each of these files ascend
abbrev pub LinesAscend : List SourceFile → Type 0
LinesAscend files = All (λ file. ascends file.lines ≡ true) files

-- ---- places, by the lines of a file

-- the lines that begin at a place or before it
abbrev pub begun : List ℕ → ℕ → List ℕ
begun starts at = filter (λ start. nat_le start at) starts

-- the last of some places, or the first place of all where there is none
abbrev pub last_start : List ℕ → ℕ
last_start [] = 0
last_start (start ∷ []) = start
last_start (start ∷ next ∷ more) = last_start (next ∷ more)

-- the line of a place, from 1: how many lines have begun
abbrev pub line_in : List ℕ → ℕ → ℕ
line_in starts at = length (begun starts at)

-- its column, from 1: one more than the bytes since the line began
abbrev pub column_in : List ℕ → ℕ → ℕ
column_in starts at = at - last_start (begun starts at) + 1

-- the line and the column of a place in a text
pub record IsPlace (bytes : List ℕ) (at : ℕ) (place : ℕ × ℕ) : Type 0 where
  pub line : place.0 ≡ line_of bytes at
  pub column : place.1 ≡ column_of bytes at
