-- What is written at the place of a refusal, by its kind.
use Rattle.std.specs.Prelude.{◌≡◌, ◌≤◌, ◌||◌, ◌&&◌, ◌==◌, ℕ, Bool, true, List, length, take, drop, slice_index, codes}
use Rattle.std.specs.Str.{IsUtf8}
use Rattle.sv_ast.specs.declared.refusals.Kind.{Kind}
use Rattle.sv_ast.specs.declared.refusals.Kind.TheVariants.{NotUtf8, Syntax, Unclosed, TooDeep, NumberTooWide, OutOfScope}
use Rattle.sv_ast.specs.declared.refusals.Refused.{Refused}
use Rattle.sv_expr.specs.Limits.{real}
use Rattle.sv_tags.specs.Classes.{is_letter, first, begins}
use Rattle.sv_blame.specs.LeftOut.{BeginsLeftOut}
use Rattle.sv_blame.specs.Signs.{signs}
use Rattle.sv_blame.specs.Stands.{IsWider}

-- `<` directly before a letter, or `{#`
abbrev pub begins_open : List ℕ → Bool
begins_open z = (first z == 60 && is_letter (slice_index z 1)) || begins (codes "{#") z

-- what stands from the place on: anything for `Syntax`, what has no end for `Unclosed`, the digits of a numeral that is too wide, and the beginning of a form that is left out; before a place that is too deep stand at least 16 signs
abbrev pub IsWritten : Kind → (bytes : List ℕ) → (place : ℕ) → Type 0
IsWritten NotUtf8 bytes p = IsUtf8 bytes → ⊥
IsWritten Syntax bytes p = Unit {0}
IsWritten Unclosed bytes p = begins_open (drop p bytes) ≡ true
IsWritten OutOfScope bytes p = BeginsLeftOut (drop p bytes)
IsWritten NumberTooWide bytes p = IsWider real.number (drop p bytes)
IsWritten TooDeep bytes p = 16 ≤ signs (take p bytes)

-- the place of a refusal lies in the bytes of the file with this number, and what its kind says is written there
pub record Placed (bytes : List ℕ) (number : ℕ) (cause : Refused) : Type 0 where
  pub file : cause.at.file ≡ number
  pub order : cause.at.from ≤ cause.at.to
  pub within : cause.at.to ≤ length bytes
  pub written : IsWritten cause.kind bytes cause.at.from
