-- Where a text stands in a file, and what stands at a place of it.
use Rattle.std.specs.Prelude.{◌≡◌, ◌≤◌, ◌<◌, ◌+◌, ℕ, List, ◌++◌, length, drop}
use Rattle.sv_lex.specs.declared.digits.Base.TheVariants.{Ten}
use Rattle.sv_lex.specs.Digits.{digits_len, number}
use Rattle.sv_lex.specs.Reader.{Input}

-- the text is a part of the bytes of the file with this number, from its place on, and this is behind it
pub record Stands (bytes beyond : List ℕ) (number : ℕ) (i : Input) : Type 0 where
  pub text : i.text ++ beyond ≡ drop i.at bytes
  pub size : i.at + length i.text ≤ length bytes
  pub file : i.file ≡ number

-- a text begins with digits that write a number above this one
pub record IsWider (most : ℕ) (z : List ℕ) : Type 0 where
  pub digits : List ℕ
  pub rest : List ℕ
  pub is : z ≡ digits ++ rest
  pub all : digits_len Ten digits ≡ length digits
  pub wider : most < number Ten digits
