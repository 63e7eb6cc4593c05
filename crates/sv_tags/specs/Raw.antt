-- Comments, scripts and styles (HTML, 'Comments' and 'Raw text elements').
use Rattle.std.specs.Prelude.{ℕ, ◌+◌, ◌||◌, ◌&&◌, ◌==◌, nat_le, Bool, List, take, drop, slice_index, Option, Some, None, Ok, codes, if◌then◌else◌}
use Rattle.sv_ast.specs.declared.refusals.Kind.TheVariants.{Syntax, Unclosed, OutOfScope}
use Rattle.sv_ast.specs.declared.script_tree.Stmt.{Stmt}
use Rattle.sv_lex.specs.Bytes.{stop, stop_at, pass, standing_at}
use Rattle.sv_lex.specs.Literals.{moved}
use Rattle.sv_lex.specs.Reader.{Input, Parser, and_then, ◌>>◌}
use Rattle.sv_expr.specs.Limits.{Limits}
use Rattle.sv_script.specs.Script.{component}
use Rattle.sv_tags.specs.declared.classes.Class.TheVariants.{Blank, AttributeName}
use Rattle.sv_tags.specs.Classes.{is_in, front_len, first, before}

-- ---- comments

abbrev pub commented : Option ℕ → Parser (Unit {0})
commented None = stop Syntax
commented (Some n) = pass (n + 7)

-- `<!--`, which is there, to the next `-->`
unfoldable pub comment : Parser (Unit {0})
comment = λ i. commented (before (codes "-->") (drop 4 i.text)) i

-- ---- scripts and styles

abbrev pub greater : Parser (Unit {0})
greater i = if first i.text == 62 then Ok (tt, moved 1 i) else stop Syntax i

-- white space or none, and `>`
unfoldable pub tag_end : Parser (Unit {0})
tag_end = λ i. greater (moved (front_len Blank i.text) i)

-- white space and an attribute come
abbrev pub begins_attribute : ℕ → Bool
begins_attribute b = b == 123 || is_in AttributeName b

abbrev pub has_attribute : List ℕ → Bool
has_attribute z = nat_le 1 (front_len Blank z) && begins_attribute (slice_index z (front_len Blank z))

-- the first bytes of a text
abbrev pub cut : ℕ → Input → Input
cut n i = record i { text = take n i.text }

-- behind so many bytes of a text, with the names that another place has
abbrev pub behind : ℕ → Input → Input → Input
behind n i o = standing_at (drop n i.text) (i.at + n) o

abbrev pub script_before : Limits → ℕ → Option ℕ → Parser (List Stmt)
script_before limits from None i = stop_at Unclosed from i
script_before limits from (Some n) i = and_then (component limits (cut n i)) (λ found o. Ok (found, behind (n + 9) i o))

-- the statements of a script up to `</script>`
unfoldable pub script_inside : Limits → ℕ → Parser (List Stmt)
script_inside limits from = λ i. script_before limits from (before (codes "</script>") i.text) i

-- `<script`, which is there, without attributes, and what it holds
unfoldable pub script : Limits → Parser (List Stmt)
script limits = λ i. if has_attribute (drop 7 i.text) then stop OutOfScope i else (pass 7 >> tag_end >> script_inside limits i.at) i

abbrev pub style_before : ℕ → Option ℕ → Parser (Unit {0})
style_before from None = stop_at Unclosed from
style_before from (Some n) = pass (n + 8)

unfoldable pub style_inside : ℕ → Parser (Unit {0})
style_inside from = λ i. style_before from (before (codes "</style>") i.text) i

-- `<style`, which is there, without attributes, up to `</style>`; what it holds isn't read
unfoldable pub style : Parser (Unit {0})
style = λ i. (pass 6 >> tag_end >> style_inside i.at) i
