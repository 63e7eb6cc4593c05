-- The page that a mirror shows, and its text.
use Rattle.std.specs.Prelude.{ℕ, ◌==◌, List, [], ◌∷◌, ◌++◌, Option, Some, None, if◌then◌else◌}
use Rattle.sv_tokens.specs.Seen.{Seen, Start, Words, End, View}
use Rattle.sv_tokens.specs.Replay.{bare, replay_all}
use Rattle.sv_tokens.specs.declared.change.Change.{Change}
use Rattle.sv_html.specs.Html.{start_html, end_html, numbered_text_html}

-- the element that the token begins
abbrev pub element_in : Seen → Option ℕ
element_in (Start serial parent element) = Some serial
element_in (Words serial parent bytes) = None
element_in (End serial name) = None

-- the page with nothing on it
abbrev pub blank : View
blank = record { tokens = Start 0 0 (bare []) ∷ End 0 [] ∷ []; next = 1 }

-- what the changes make of the page with nothing on it
abbrev pub mirrored : List Change → View
mirrored changes = replay_all changes blank

-- the page itself shows nothing of its own
abbrev pub piece_html : Seen → List ℕ
piece_html (Start serial parent element) = if serial == 0 then [] else start_html None element
piece_html (Words serial parent bytes) = numbered_text_html None bytes
piece_html (End serial name) = if serial == 0 then [] else end_html name

-- the text of a page
abbrev pub page_html : List Seen → List ℕ
page_html [] = []
page_html (t ∷ ts) = piece_html t ++ page_html ts

-- what a mirror reports of what it heard
abbrev pub mirror_html : List Change → List ℕ
mirror_html changes = page_html (mirrored changes).tokens
