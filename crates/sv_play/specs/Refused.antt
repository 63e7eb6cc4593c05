-- The line of a refused turn.
use Rattle.std.specs.Prelude.{ℕ, List, [], ◌++◌, Option, Some, None, All, ◌≡◌, true, codes, decimal, slice_get, if◌then◌else◌}
use Rattle.std.specs.Fmt.{signed_decimal}
use Rattle.sv_base.specs.declared.span.Span.{Span}
use Rattle.sv_code.specs.declared.program.Program.{Program}
use Rattle.sv_code.specs.declared.program.ProgramFile.{ProgramFile}
use Rattle.sv_lines.specs.Lines.{line_in, column_in, ascends}
use Rattle.sv_parts.specs.declared.refusal.Refusal.{Refusal}
use Rattle.sv_parts.specs.declared.refusal.Refusal.TheVariants.{Fault, Duplicate, Budget}
use Rattle.sv_value.specs.declared.key.Key.{Key}
use Rattle.sv_value.specs.declared.key.Key.TheVariants as key
use Rattle.sv_play.specs.Words.{fault_word}

-- the lines of each file of the program ascend
abbrev pub LinesAscend : Program → Type 0
LinesAscend p = All (λ file. ascends file.lines ≡ true) p.files

-- a place in a file: its name, the line and the column; a file that isn't there has no place
unfoldable pub place_in : Option ProgramFile → ℕ → List ℕ
place_in None at = []
place_in (Some file) at = file.name ++ (codes ":" ++ (decimal (line_in file.lines at) ++ (codes ":" ++ decimal (column_in file.lines at))))

-- where a span begins
abbrev pub place : Program → Span → List ℕ
place p span = place_in (slice_get p.files span.file) span.from

-- a key: a number or a truth value as it is written, a text between double quotes
unfoldable pub key_text : Key → List ℕ
key_text (key.Num n) = signed_decimal n
key_text (key.Text t) = codes "\"" ++ (t ++ codes "\"")
key_text (key.Bool b) = if b then codes "true" else codes "false"

-- the end of a line that tells a place
abbrev pub at_place : Program → Span → List ℕ
at_place p span = codes " at " ++ (place p span ++ codes "\n")

-- a key that stands twice in one list
abbrev pub duplicate_line : Program → Span → Key → List ℕ
duplicate_line p span k = codes "refused: duplicate key " ++ (key_text k ++ at_place p span)

-- the line that stands in place of the page
unfoldable pub refused_line : Program → Refusal → List ℕ
refused_line p (Fault f) = codes "refused: fault " ++ (fault_word f.kind ++ at_place p f.span)
refused_line p (Duplicate span k) = duplicate_line p span k
refused_line p Budget = codes "refused: budget\n"
