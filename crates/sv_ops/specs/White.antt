-- White space at the ends of a text (ECMA-262, section 22.1.3.32).
use Rattle.std.specs.Prelude.{ℕ, nat_le, nat_eq, Bool, ◌&&◌, ◌||◌, List, [], ◌∷◌, reverse, if◌then◌else◌}
use Rattle.std.specs.Str.{chars, encode_utf8_all}

-- TAB, VT, FF, LF, CR, the line and paragraph separators, the byte order mark, and the spaces of Unicode
abbrev pub is_white : ℕ → Bool
is_white c = (nat_le 9 c && nat_le c 13) || (nat_eq c 0x20 || (nat_eq c 0xA0 || (nat_eq c 0x1680 || ((nat_le 0x2000 c && nat_le c 0x200A)
    || (nat_eq c 0x2028 || (nat_eq c 0x2029 || (nat_eq c 0x202F || (nat_eq c 0x205F || (nat_eq c 0x3000 || nat_eq c 0xFEFF)))))))))

-- characters without the white ones in front
abbrev pub without_front : List ℕ → List ℕ
without_front [] = []
without_front (c ∷ cs) = if is_white c then without_front cs else c ∷ cs

-- and without those at the end
abbrev pub without_ends : List ℕ → List ℕ
without_ends cs = reverse (without_front (reverse (without_front cs)))

-- a text without white space at its ends
abbrev pub trimmed : List ℕ → List ℕ
trimmed t = encode_utf8_all (without_ends (chars t))
