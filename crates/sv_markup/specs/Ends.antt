-- How elements and branches end (HTML, 'End tags'; Svelte 4, 'Logic blocks').
use Rattle.std.specs.Prelude.{ℕ, ◌+◌, ◌&&◌, ◌==◌, nat_le, List, length, drop, slice_index, codes, if◌then◌else◌}
use Rattle.sv_tags.specs.declared.classes.Class.TheVariants.{Blank}
use Rattle.sv_tags.specs.Classes.{front_len, begins}
use Rattle.sv_markup.specs.Pieces.{begins_word}

-- behind so many bytes: with white space or none, and `>`
abbrev pub closed_len : ℕ → ℕ → List ℕ → ℕ
closed_len n blanks z = if slice_index z (n + blanks) == 62 then n + blanks + 1 else 0

-- how many bytes the end tag of this name takes, or 0 where none stands at the front: `</`, the name, white space or none, and `>`
unfoldable pub end_tag_len : List ℕ → List ℕ → ℕ
end_tag_len name z =
    if begins (codes "</") z && begins name (drop 2 z) then closed_len (2 + length name) (front_len Blank (drop (2 + length name) z)) z else 0

-- behind `{:else` and so many bytes of white space
abbrev pub condition_len : ℕ → List ℕ → ℕ
condition_len blanks z = if nat_le 1 blanks && begins_word (codes "if") (drop (6 + blanks) z) then 8 + blanks else 0

-- how many bytes stand before the condition of a branch that begins at the front, or 0 where none does: `{:else`, white space, and the word `if`
unfoldable pub else_if_len : List ℕ → ℕ
else_if_len z = if begins (codes "{:else") z then condition_len (front_len Blank (drop 6 z)) z else 0
