-- How a mirror keeps a token.
use Rattle.sv_tokens.specs.Seen.{Seen, Start, Words, End}
use Rattle.sv_nodes.specs.Cells.{element_of}
use Rattle.sv_watch.specs.declared.piece.Form.{Form}
use Rattle.sv_watch.specs.declared.piece.Form.TheVariants as form

-- the token that is kept so
abbrev pub seen_of : Form → Seen
seen_of (form.Start serial parent element) = Start serial parent (element_of element)
seen_of (form.Words serial parent text) = Words serial parent text
seen_of (form.End serial name) = End serial name
