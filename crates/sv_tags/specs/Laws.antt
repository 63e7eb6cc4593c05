-- The reader and the grammar, by how many constructs may enclose one another within which limits.
use Rattle.std.specs.Prelude.{◌≡◌, ℕ, Bool}
use Rattle.sv_lex.specs.Reader.{Input, Parser}
use Rattle.sv_expr.specs.Limits.{Limits}
use Rattle.sv_tags.specs.declared.directives.Tag.{Tag}
use Rattle.sv_tags.specs.declared.holes.Filling.{Filling}
use Rattle.sv_tags.specs.declared.holes.Hole.{Hole}
use Rattle.sv_tags.specs.declared.openings.Opening.{Opening}
use Rattle.sv_tags.specs.Classes.{first}
use Rattle.sv_tags.specs.Grammar.{BracesAt, OpeningAt}
use Rattle.sv_tags.specs.Holes.{braces}
use Rattle.sv_tags.specs.Openings.{opening_tag}

-- braces with what they hold
abbrev pub read_braces : Filling → Limits × ℕ → Parser Hole
read_braces filling within = braces within.0 filling within.1

abbrev pub IsBraces : Filling → Limits × ℕ → Input → Hole → Input → Type 0
IsBraces filling within = BracesAt within.0 filling within.1

-- the same, where a brace comes next
abbrev pub IsBracesThere : Filling → Limits × ℕ → Input → Hole → Input → Type 0
IsBracesThere filling within i h o = first i.text ≡ 123 → IsBraces filling within i h o

-- openings of a tag that begins at a place
abbrev pub read_opening : Tag → Bool → ℕ → Limits × ℕ → Parser Opening
read_opening tag owned from within = opening_tag within.0 within.1 tag owned from

abbrev pub IsOpening : Tag → Bool → Limits × ℕ → Input → Opening → Input → Type 0
IsOpening tag owned within = OpeningAt within.0 tag owned within.1
