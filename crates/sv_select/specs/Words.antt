-- The words of a selector.
use Rattle.std.specs.Prelude.{ℕ, ◌==◌, ◌||◌, ◌&&◌, Bool, false, List, [], ◌∷◌}
use Rattle.std.specs.Char.{is_ascii_alphanumeric, is_ascii_lowercase}
use Rattle.std.specs.List.{list_all}

-- a letter or digit of ASCII, `-` or `_`
abbrev pub is_word_byte : ℕ → Bool
is_word_byte b = is_ascii_alphanumeric b || b == 45 || b == 95

-- a word: such bytes, and one at least
abbrev pub is_word : List ℕ → Bool
is_word [] = false
is_word (b ∷ z) = is_word_byte b && list_all is_word_byte z

-- a letter or digit of ASCII, or `-`
abbrev pub is_tag_byte : ℕ → Bool
is_tag_byte b = is_ascii_alphanumeric b || b == 45

-- the name of a tag: a small letter, and then such bytes (HTML, 'Start tags')
abbrev pub is_tag : List ℕ → Bool
is_tag [] = false
is_tag (b ∷ z) = is_ascii_lowercase b && list_all is_tag_byte z
