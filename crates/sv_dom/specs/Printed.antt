-- What stands before a node's children in the text of a page, and what behind them.
use Rattle.std.specs.Prelude.{◌==◌, Bool, ℕ, List, [], Option, if◌then◌else◌}
use Rattle.sv_html.specs.Html.{start_html, end_html, numbered_text_html, asked}
use Rattle.sv_nodes.specs.Nodes.{Kind, element, text, anchor}

-- what stands before the children of a node with that serial number and that printed number
abbrev pub before_html : Bool → (serial : ℕ) (number : Option ℕ) → Kind → List ℕ
before_html numbers serial number (element e) = if serial == 0 then [] else start_html (asked numbers number) e
before_html numbers serial number (text bytes) = numbered_text_html (asked numbers number) bytes
before_html numbers serial number anchor = []

-- what stands behind them
abbrev pub after_html : (serial : ℕ) → Kind → List ℕ
after_html serial (element e) = if serial == 0 then [] else end_html e.name
after_html serial (text bytes) = []
after_html serial anchor = []
