-- Text between tags and in attributes, with its references (HTML, 'Text' and 'Character references').
use Rattle.std.specs.Prelude.{ℕ, zero, suc, ◌+◌, ◌-◌, Bool, ◌||◌, ◌&&◌, ◌==◌, nat_le, List, [], ◌∷◌, length, drop, slice_index, Option, Some, None, Ok, codes, encode_utf8_all, if◌then◌else◌}
use Rattle.bstr.specs.Utf8.{decoded}
use Rattle.sv_ast.specs.declared.refusals.Kind.TheVariants.{Syntax, OutOfScope}
use Rattle.sv_lex.specs.Bytes.{stop}
use Rattle.sv_lex.specs.Literals.{moved}
use Rattle.sv_lex.specs.Reader.{Parser}
use Rattle.sv_lex.specs.Strings.{itself}
use Rattle.sv_tags.specs.declared.classes.Class.TheVariants.{Reference}
use Rattle.sv_tags.specs.declared.texts.Quote.{Quote}
use Rattle.sv_tags.specs.declared.texts.Quote.TheVariants.{Double, Single}
use Rattle.sv_tags.specs.declared.texts.Setting.{Setting}
use Rattle.sv_tags.specs.declared.texts.Setting.TheVariants.{Body, Quoted, Unquoted}
use Rattle.sv_tags.specs.Classes.{is_blank, front_len, first, begins}

abbrev pub is_brace : ℕ → Bool
is_brace b = b == 123 || b == 125

abbrev pub closing : Quote → ℕ
closing Double = 34
closing Single = 39

-- a text between tags ends at `<` or a brace, one in quotes at its quote or a brace, and one without quotes at white space, `"` `'` `=` `<` `>` `/`, a back quote or a brace
abbrev pub ends_at : Setting → ℕ → Bool
ends_at Body b = b == 60 || is_brace b
ends_at (Quoted quote) b = b == closing quote || is_brace b
ends_at Unquoted b = is_blank b || b == 34 || b == 39 || b == 61 || b == 60 || b == 62 || b == 47 || b == 96 || is_brace b

-- ---- references

-- a reference whose name has so many bytes, with its `&` and its `;`, or 0 for none
abbrev pub closed_len : ℕ → List ℕ → ℕ
closed_len n z = if nat_le 1 n && slice_index z (n + 1) == 59 then n + 2 else 0

-- how many bytes the reference at the front takes, or 0 where there is none: `&`, letters, digits or `#`, and directly `;`
unfoldable pub reference_len : List ℕ → ℕ
reference_len z = if first z == 38 then closed_len (front_len Reference (drop 1 z)) z else 0

-- the character that the reference at the front stands for; the others are left out
abbrev pub meaning : List ℕ → Option ℕ
meaning z =
    if begins (codes "&amp;") z then Some 38 else (if begins (codes "&lt;") z then Some 60 else (if begins (codes "&gt;") z then Some 62
    else (if begins (codes "&quot;") z then Some 34 else (if begins (codes "&nbsp;") z then Some 160 else None))))

-- ---- characters

abbrev pub written_by : Setting → ℕ → List ℕ → Option (ℕ × ℕ)
written_by setting n z =
    if n == 0 then (if ends_at setting (first z) then None else itself (decoded z).char (decoded z).size) else itself (meaning z) n

-- the character at the front, and with how many bytes it is written: by a reference, or by itself
unfoldable pub written : Setting → List ℕ → Option (ℕ × ℕ)
written setting z = written_by setting (reference_len z) z

abbrev pub with_char : ℕ → List ℕ × List ℕ → List ℕ × List ℕ
with_char c r = (c ∷ r.0, r.1)

abbrev pub then_more : Option (ℕ × ℕ) → List ℕ → (ℕ → List ℕ × List ℕ) → List ℕ × List ℕ
then_more None z more = ([], z)
then_more (Some p) z more = with_char p.0 (more (p.1 - 1))

-- the characters one behind the other as far as they go, and the text behind them; the number counts what is left of the present one
unfoldable pub read_by : Setting → ℕ → List ℕ → List ℕ × List ℕ
read_by setting left [] = ([], [])
read_by setting (suc left) (b ∷ z) = read_by setting left z
read_by setting zero (b ∷ z) = then_more (written setting (b ∷ z)) (b ∷ z) (λ left. read_by setting left z)

-- what is written at the front, as text
unfoldable pub content : Setting → List ℕ → List ℕ
content setting z = encode_utf8_all (read_by setting 0 z).0

-- and with how many bytes
unfoldable pub content_len : Setting → List ℕ → ℕ
content_len setting z = length z - length (read_by setting 0 z).1

-- ---- the rule

abbrev pub ended : List ℕ → ℕ → Parser (List ℕ)
ended found n i = if reference_len i.text == 0 then (if n == 0 then stop Syntax i else Ok (found, i)) else stop OutOfScope i

-- a text that isn't empty, as far as it goes; a reference that is left out is refused
unfoldable pub text : Setting → Parser (List ℕ)
text setting = λ i. ended (content setting i.text) (content_len setting i.text) (moved (content_len setting i.text) i)
