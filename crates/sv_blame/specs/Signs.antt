-- The bytes with which constructs are opened and chains go on.
use Rattle.std.specs.Prelude.{ℕ, ◌+◌, Bool, ◌||◌, ◌==◌, List, [], ◌∷◌, if◌then◌else◌}

-- `<` `>` `{` `(` `[` `!` `-` `+` `*` `%` `=` `?` `&` `|` `.`
abbrev pub is_sign : ℕ → Bool
is_sign b =
    b == 60 || b == 62 || b == 123 || b == 40 || b == 91 || b == 33 || b == 45 || b == 43 || b == 42 || b == 37 || b == 61 || b == 63 || b == 38 || b == 124 || b == 46

-- how many of them a text has
unfoldable pub signs : List ℕ → ℕ
signs [] = 0
signs (b ∷ z) = (if is_sign b then 1 else 0) + signs z
