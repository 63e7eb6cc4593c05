-- The limits within which a text is read.
use Rattle.std.specs.Prelude.{ℕ}
use Rattle.sv_base.specs.declared.limits.TheConstants.{NEST_LIMIT, LINK_LIMIT}

-- how many constructs may enclose one another, how many links a chain may have, and the greatest number
pub record Limits : Type 0 where
  pub nest : ℕ
  pub links : ℕ
  pub number : ℕ

-- those of the language
abbrev pub real : Limits
real = record { nest = NEST_LIMIT; links = LINK_LIMIT; number = 9007199254740991 }
