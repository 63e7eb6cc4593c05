-- White space and comments: `//` to the end of the line, and `/*` to the next `*/`. LF alone ends a line.
use Rattle.std.specs.Prelude.{ℕ, ◌+◌, not, ◌&&◌, ◌==◌, List, [], ◌∷◌, drop, slice_index, if◌then◌else◌}
use Rattle.std.specs.List.{prefix_len}
use Rattle.sv_lex.specs.declared.characters.Class.TheVariants.{Space}
use Rattle.sv_lex.specs.Characters.{char_len}

-- how many bytes there are before the first line feed
abbrev pub line_len : List ℕ → ℕ
line_len z = prefix_len (λ b. not (b == 10)) z

-- one more, but of nothing
abbrev pub one_more : ℕ → ℕ
one_more n = if n == 0 then 0 else n + 1

-- how many bytes there are up to the first `*/` and with it, or 0 where there is none
unfoldable pub close_len : List ℕ → ℕ
close_len [] = 0
close_len (b ∷ z) = if b == 42 && slice_index z 0 == 47 then 2 else one_more (close_len z)

-- two more, but of nothing
abbrev pub two_more : ℕ → ℕ
two_more n = if n == 0 then 0 else 2 + n

-- how many bytes the comment at the front takes; 0 where there is none or it has no end
abbrev pub comment_len : List ℕ → ℕ
comment_len z =
    if slice_index z 1 == 47 then 2 + line_len (drop 2 z) else (if slice_index z 1 == 42 then two_more (close_len (drop 2 z)) else 0)

-- how many bytes the white space character or the comment at the front takes, or 0
unfoldable pub blank_len : List ℕ → ℕ
blank_len z = if slice_index z 0 == 47 then comment_len z else char_len Space z
