-- Bytes of markup by their classes, and where a text goes on in some way (HTML, 'ASCII whitespace' and 'Attributes').
use Rattle.std.specs.Prelude.{ℕ, ◌+◌, Bool, ◌||◌, ◌&&◌, ◌==◌, nat_eq, nat_le, List, [], ◌∷◌, take, slice_index, Option, Some, None, if◌then◌else◌}
use Rattle.std.specs.List.{prefix_len, starts_with}
use Rattle.sv_tags.specs.declared.classes.Class.{Class}
use Rattle.sv_tags.specs.declared.classes.Class.TheVariants.{Blank, TagRest, AttributeName, Reference}

-- ASCII letters and digits
abbrev pub is_letter : ℕ → Bool
is_letter b = (nat_le 97 b && nat_le b 122) || (nat_le 65 b && nat_le b 90)

abbrev pub is_digit : ℕ → Bool
is_digit b = nat_le 48 b && nat_le b 57

-- white space is SPACE, TAB, LF, FF and CR
abbrev pub is_blank : ℕ → Bool
is_blank b = b == 32 || b == 9 || b == 10 || b == 12 || b == 13

-- names of tags go on with letters, digits and `-`, those of attributes with `_` and `:` too, and references with letters, digits and `#`
abbrev pub is_in : Class → ℕ → Bool
is_in Blank b = is_blank b
is_in TagRest b = is_letter b || is_digit b || b == 45
is_in AttributeName b = is_letter b || is_digit b || b == 45 || b == 95 || b == 58
is_in Reference b = is_letter b || is_digit b || b == 35

-- how many bytes at the front are of the class
unfoldable pub front_len : Class → List ℕ → ℕ
front_len class z = prefix_len (is_in class) z

-- those bytes
abbrev pub front_of : Class → List ℕ → List ℕ
front_of class z = take (front_len class z) z

-- the byte at the front, or 0 where there is none
abbrev pub first : List ℕ → ℕ
first z = slice_index z 0

-- the text begins so
abbrev pub begins : List ℕ → List ℕ → Bool
begins w z = starts_with nat_eq z w

abbrev pub one_more : Option ℕ → Option ℕ
one_more None = None
one_more (Some n) = Some (n + 1)

-- how many bytes stand before the first place where the text goes on so, if it does
unfoldable pub before : List ℕ → List ℕ → Option ℕ
before w [] = None
before w (b ∷ z) = if begins w (b ∷ z) then Some 0 else one_more (before w z)
