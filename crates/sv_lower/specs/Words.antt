-- The words that mean something behind a point besides the name of a field.
use Rattle.std.specs.Prelude.{ℕ, List, [], ◌∷◌, ◌++◌, map, length, nat_lt, if◌then◌else◌}
use Rattle.sv_base.specs.BuiltIn.{list_calls, value_calls, math_functions}
use Rattle.sv_base.specs.Names.{Table, number_of}
use Rattle.sv_code.specs.declared.known.Method.{Method}
use Rattle.sv_lower.specs.declared.members.TheConstants.{LIST_METHODS, VALUE_METHODS, MATH_METHODS, OTHER_WORDS, OTHER_METHODS}
use Rattle.sv_lower.specs.declared.members.Word.{Word}

-- a text with what it means, where some name of a table has it
abbrev pub word : Table → List ℕ → Method → List Word
word table text method = let n = number_of text table in if nat_lt n (length table) then record { name = record { 0 = n }; method = method } ∷ [] else []

-- texts with what they mean, one by one
abbrev pub words_in : Table → List (List ℕ) → List Method → List Word
words_in table (text ∷ texts) (method ∷ methods) = word table text method ++ words_in table texts methods
words_in table _ _ = []

-- the words of a program whose names have these texts
abbrev pub words : Table → List Word
words table = words_in table list_calls LIST_METHODS ++ (words_in table value_calls VALUE_METHODS
    ++ (words_in table math_functions MATH_METHODS ++ words_in table (map (λ text. text.now) OTHER_WORDS) OTHER_METHODS))
