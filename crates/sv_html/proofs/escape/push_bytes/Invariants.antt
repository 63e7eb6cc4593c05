use Rattle.std.proofs.Common.{◌≡◌, ◌++◌, drop}
use Rattle.sv_html.specs.Html.{text_html}
use Rattle.sv_html.proofs.escape.push_bytes.Given as goal

abbrev pub invariant-loop-byte : goal.invariant-loop-byte
invariant-loop-byte l = l.out.items ++ text_html (drop l.byte-index l.text) ≡ l.fn.out.items ++ text_html l.text
