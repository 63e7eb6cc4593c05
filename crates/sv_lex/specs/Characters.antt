-- The classes of characters in a script, by code points. The text is UTF-8.
use Rattle.std.specs.Prelude.{ℕ, Bool, ◌||◌, ◌&&◌, ◌==◌, nat_le, List, Option, Some, None, if◌then◌else◌}
use Rattle.unicode_ident.specs.Ident.{is_xid_start, is_xid_continue}
use Rattle.bstr.specs.Utf8.{decoded}
use Rattle.sv_lex.specs.declared.characters.Class.{Class}
use Rattle.sv_lex.specs.declared.characters.Class.TheVariants.{Space, NameStart, NameRest}

-- SPACE, TAB to CR (9 to 13: TAB, LF, VT, FF, CR), U+00A0 and U+FEFF
abbrev pub is_space : ℕ → Bool
is_space c = c == 32 || (nat_le 9 c && nat_le c 13) || c == 160 || c == 65279

-- a name begins with a character that Unicode lets an identifier begin with, or `_`, and goes on with those that may
-- continue one, of which `_` is one
abbrev pub is_in : Class → ℕ → Bool
is_in Space c = is_space c
is_in NameStart c = is_xid_start c || c == 95
is_in NameRest c = is_xid_continue c

-- how many bytes a character takes where it is of the class
abbrev pub len_in : Class → Option ℕ → ℕ → ℕ
len_in class None size = 0
len_in class (Some c) size = if is_in class c then size else 0

-- how many bytes the character at the front takes, where it is of the class, and else 0
unfoldable pub char_len : Class → List ℕ → ℕ
char_len class z = len_in class (decoded z).char (decoded z).size
