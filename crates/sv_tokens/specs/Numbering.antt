-- Printed numbers: each element and each text that has none takes the next one.
use Rattle.std.specs.Prelude.{ℕ, suc, List, [], ◌∷◌, Some, if◌then◌else◌}
use Rattle.sv_tokens.specs.Token.{Token, Open, Text, Anchor, Close, lacks_number}

-- the token with that printed number
abbrev pub with_number : ℕ → Token → Token
with_number number (Open node parent was element) = Open node parent (Some number) element
with_number number (Text node parent was bytes) = Text node parent (Some number) bytes
with_number number (Anchor key parent) = Anchor key parent
with_number number (Close node name) = Close node name

-- the tokens with a printed number at each that lacks one: the first takes that number, each later one the next
abbrev pub numbered : (number : ℕ) → List Token → List Token
numbered number [] = []
numbered number (t ∷ ts) = if lacks_number t then with_number number t ∷ numbered (suc number) ts else t ∷ numbered number ts
