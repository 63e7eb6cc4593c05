-- What begins at the front of markup (Svelte 4, 'Basic markup', 'Logic blocks' and 'Special tags').
use Rattle.std.specs.Prelude.{ℕ, Bool, true, false, ◌&&◌, ◌==◌, nat_le, List, [], ◌∷◌, length, drop, slice_index, codes, if◌then◌else◌}
use Rattle.std.specs.List.{list_any}
use Rattle.std.specs.Str.{bytes_eq}
use Rattle.sv_lex.specs.Reader.{name_text}
use Rattle.sv_tags.specs.declared.classes.Class.TheVariants.{Blank, TagRest}
use Rattle.sv_tags.specs.Classes.{front_len, front_of, first, begins}
use Rattle.sv_markup.specs.declared.pieces.Form.{Form}
use Rattle.sv_markup.specs.declared.pieces.Form.TheVariants as form
use Rattle.sv_markup.specs.declared.pieces.Piece.{Piece}
use Rattle.sv_markup.specs.declared.pieces.Piece.TheVariants.{End, Comment, Script, Style, Node, LeftOut, Unread}

-- ASCII letters of either case
abbrev pub is_small : ℕ → Bool
is_small b = nat_le 97 b && nat_le b 122

abbrev pub is_capital : ℕ → Bool
is_capital b = nat_le 65 b && nat_le b 90

-- the name of the tag at the front: the letters, digits and `-` behind its `<`
abbrev pub tag_name : List ℕ → List ℕ
tag_name z = front_of TagRest (drop 1 z)

-- that of a component's tag: the name of scripts behind its `<`
abbrev pub component_name : List ℕ → List ℕ
component_name z = name_text (drop 1 z)

-- by the whole name of a tag that is no component's
abbrev pub by_name : List ℕ → Piece
by_name w =
    if bytes_eq w (codes "script") then Script else (if bytes_eq w (codes "style") then Style else (if bytes_eq w (codes "slot") then Node form.Slot
    else (if bytes_eq w (codes "textarea") then LeftOut else Node form.Element)))

-- behind `<`
abbrev pub tag : List ℕ → Piece
tag z =
    if begins (codes "<!--") z then Comment else (if begins (codes "</") z then End else (if begins (codes "<svelte:") z then LeftOut
    else (if is_small (slice_index z 1) then by_name (tag_name z) else (if is_capital (slice_index z 1) then Node form.Component else Unread))))

-- the text goes on with a word and white space
unfoldable pub begins_word : List ℕ → List ℕ → Bool
begins_word w z = begins w z && nat_le 1 (front_len Blank (drop (length w) z))

-- behind `{#`
abbrev pub block : List ℕ → Piece
block z =
    if begins_word (codes "{#if") z then Node form.If else (if begins_word (codes "{#each") z then Node form.Each
    else (if begins_word (codes "{#key") z then Node form.Key else (if begins (codes "{#await") z then LeftOut else Unread)))

-- behind `{@`
abbrev pub special : List ℕ → Piece
special z = if list_any (λ w. begins w z) (codes "{@html" ∷ codes "{@debug" ∷ codes "{@const" ∷ []) then LeftOut else Unread

-- behind `{`. An end is `{:`, or `{/` and a letter; another `{/` is an expression that begins with a comment.
abbrev pub brace : List ℕ → Piece
brace z =
    if begins (codes "{#") z then block z else (if begins (codes "{@") z then special z
    else (if begins (codes "{:") z then End else (if begins (codes "{/") z && is_small (slice_index z 2) then End else Node form.Hole)))

-- what begins at the front; the end of the text is an end
unfoldable pub piece_at : List ℕ → Piece
piece_at z =
    if length z == 0 then End else (if first z == 60 then tag z else (if first z == 123 then brace z else (if first z == 125 then Unread else Node form.Text)))

abbrev pub is_end : Piece → Bool
is_end End = true
is_end _ = false

-- how many bytes stand there at least
abbrev pub least_of : Form → ℕ
least_of form.If = 4
least_of form.Each = 6
least_of form.Key = 5
least_of form.Slot = 5
least_of _ = 1

abbrev pub least_len : Piece → ℕ
least_len Comment = 4
least_len Script = 7
least_len Style = 6
least_len (Node f) = least_of f
least_len _ = 0
