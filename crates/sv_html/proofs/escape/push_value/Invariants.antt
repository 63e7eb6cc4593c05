use Rattle.std.proofs.Common.{◌≡◌, ◌++◌, drop}
use Rattle.sv_html.specs.Html.{bytes_html}
use Rattle.sv_html.proofs.escape.push_value.Given as goal

abbrev pub invariant-loop-byte : goal.invariant-loop-byte
invariant-loop-byte l = l.out.items ++ bytes_html (drop l.byte-index l.text) ≡ l.fn.out.items ++ bytes_html l.text
