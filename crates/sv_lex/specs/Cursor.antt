-- What a cursor shows, and what it keeps ready.
use Rattle.std.specs.Prelude.{◌≡◌, ◌<◌, ◌≤◌, ◌+◌, ◌++◌, length}
use Rattle.sv_base.specs.Names.{IsTable}
use Rattle.sv_base.specs.declared.limits.TheConstants.{TEXT_LIMIT}
use Rattle.sv_lex.specs.declared.cursor.Tokens.TheInside.{Inside}
use Rattle.sv_lex.specs.Look.{skip}
use Rattle.sv_lex.specs.Reader.{Input}
use Rattle.sv_lex.specs.Token.{token}

abbrev pub input_of : Inside → Input
input_of t = record { text = t.text.now; at = t.at; file = t.file; known = t.known.now; added = t.added }

-- the text from the next token on, that token, places that fit, and names that are a table
pub record IsReady (t : Inside) : Type 0 where
  pub ahead : t.ahead.now ≡ skip t.text.now
  pub token : t.token ≡ token t.ahead.now
  pub token_within : t.token.1 ≤ length t.ahead.now
  pub ahead_within : length t.ahead.now ≤ length t.text.now
  pub places : t.at + length t.text.now < TEXT_LIMIT
  pub names : IsTable (t.known.now ++ t.added)
