-- Texts, and the calls on them (ECMA-262, section 22.1.3). A text is its bytes in UTF-8.
use Rattle.std.specs.Prelude.{ℕ, zero, suc, ◌+◌, ◌-◌, nat_lt, nat_eq, Bool, true, false, ◌&&◌, ◌||◌, List, [], ◌∷◌, ◌++◌, length, map, Option, None, Some, option_and_then, if◌then◌else◌, codes}
use Rattle.std.specs.List.{starts_with, ends_with, sum_by}
use Rattle.sv_value.specs.Value.{Val, boolean, text, list, vals}
use Rattle.sv_value.specs.Words.{text_of}
use Rattle.sv_ops.specs.declared.faults.FaultKind.TheVariants.{NotText, Range}
use Rattle.sv_ops.specs.Answer.{Answer, Gives, Refuses, made, spelled}
use Rattle.sv_ops.specs.White.{trimmed}

-- the UTF-16 code units that begin at a byte: one for a character, two for one of four bytes, none inside a character
abbrev pub units_at : ℕ → ℕ
units_at b = if nat_lt b 0x80 then 1 else (if nat_lt b 0xC0 then 0 else (if nat_lt b 0xF0 then 1 else 2))

-- the UTF-16 code units of a text
abbrev pub units : List ℕ → ℕ
units [] = 0
units (b ∷ t) = units_at b + units t

-- whether a text stands at the front of another
abbrev pub is_front : List ℕ → List ℕ → Bool
is_front [] s = true
is_front (c ∷ t) [] = false
is_front (c ∷ t) (d ∷ s) = nat_eq c d && is_front t s

-- whether a text stands anywhere in another
abbrev pub has_text : List ℕ → List ℕ → Bool
has_text t [] = is_front t []
has_text t (c ∷ s) = is_front t (c ∷ s) || has_text t s

-- the pieces of a text between the places of another that isn't empty, with what was passed of the present piece and of such a place
abbrev pub pieces_from : List ℕ → (passed : List ℕ) → (skip : ℕ) → List ℕ → List (List ℕ)
pieces_from t passed skip [] = passed ∷ []
pieces_from t passed (suc skip) (c ∷ s) = pieces_from t passed skip s
pieces_from t passed zero (c ∷ s) = if is_front t (c ∷ s) then passed ∷ pieces_from t [] (length t - 1) s else pieces_from t (passed ++ c ∷ []) zero s

abbrev pub pieces : List ℕ → List ℕ → List (List ℕ)
pieces t s = pieces_from t [] 0 s

abbrev pub bytes : List (List ℕ) → ℕ
bytes texts = sum_by length texts

-- the pieces as a list: walking costs the text's bytes, each piece its own, and each item one
abbrev pub split_at : List ℕ → List ℕ → Answer
split_at [] s = Refuses Range
split_at (c ∷ t) s = made (length s + (bytes (pieces (c ∷ t) s) + length (pieces (c ∷ t) s))) (list (vals (map text (pieces (c ∷ t) s))))

-- a call on a text whose argument is a text
abbrev pub with_argument : Val → (List ℕ → Answer) → Answer
with_argument (text t) go = go t
with_argument _ go = Refuses NotText

abbrev pub includes : List ℕ → Val → Answer
includes s v = with_argument v (λ t. Gives (length s) (boolean (has_text t s)))

abbrev pub starts : List ℕ → Val → Answer
starts s v = with_argument v (λ t. Gives (length s) (boolean (starts_with nat_eq s t)))

abbrev pub ends : List ℕ → Val → Answer
ends s v = with_argument v (λ t. Gives (length s) (boolean (ends_with nat_eq s t)))

abbrev pub split : List ℕ → Val → Answer
split s v = with_argument v (λ t. split_at t s)

abbrev pub trim : List ℕ → Answer
trim s = spelled (length s) (trimmed s)

-- ---- texts of several values

-- the texts of values behind some, where each has one
abbrev pub texts_after : List (List ℕ) → List Val → Option (List (List ℕ))
texts_after texts [] = Some texts
texts_after texts (v ∷ vs) = option_and_then (λ t. texts_after (texts ++ t ∷ []) vs) (text_of v)

abbrev pub texts_of : List Val → Option (List (List ℕ))
texts_of vs = texts_after [] vs

-- texts, each behind another
abbrev pub behind : List ℕ → List (List ℕ) → List ℕ
behind t [] = []
behind t (s ∷ texts) = t ++ (s ++ behind t texts)

-- texts with another between them
abbrev pub between : List ℕ → List (List ℕ) → List ℕ
between t [] = []
between t (s ∷ texts) = s ++ behind t texts

abbrev pub with_texts : Option (List (List ℕ)) → (List (List ℕ) → Answer) → Answer
with_texts None go = Refuses NotText
with_texts (Some texts) go = go texts

-- a line of the log: the texts of some values with a space between. It is no value, and costs its bytes
abbrev pub line_of : List (List ℕ) → List ℕ
line_of texts = between (codes " ") texts
