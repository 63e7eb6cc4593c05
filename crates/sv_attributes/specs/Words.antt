-- The words of a class (the HTML standard, 'Space-separated tokens').
use Rattle.std.specs.Prelude.{ℕ, Bool, true, false, not, List, [], ◌∷◌, ◌++◌, codes, filter, if◌then◌else◌}
use Rattle.std.specs.Char.{is_ascii_whitespace}
use Rattle.std.specs.List.{list_any}
use Rattle.std.specs.Str.{bytes_eq}
use Rattle.sv_ops.specs.Texts.{between}

-- a word, if anything of it was passed
abbrev pub ended : List ℕ → List (List ℕ)
ended [] = []
ended (c ∷ word) = (c ∷ word) ∷ []

-- the words of a text, with what was passed of the present one
abbrev pub words_from : List ℕ → List ℕ → List (List ℕ)
words_from word [] = ended word
words_from word (c ∷ t) = if is_ascii_whitespace c then ended word ++ words_from [] t else words_from (word ++ c ∷ []) t

-- the words of a text, between which white space stands
abbrev pub words : List ℕ → List (List ℕ)
words t = words_from [] t

-- a word is put last, where it isn't among the others, or each such word is taken out
abbrev pub with_word : List ℕ → Bool → List (List ℕ) → List (List ℕ)
with_word w true ws = if list_any (λ x. bytes_eq x w) ws then ws else ws ++ w ∷ []
with_word w false ws = filter (λ x. not (bytes_eq x w)) ws

-- words with a space between them
abbrev pub spaced : List (List ℕ) → List ℕ
spaced ws = between (codes " ") ws
