-- Whether an arrow comes, seen from a text: parameters, and `=>`.
use Rattle.std.specs.Prelude.{ℕ, zero, suc, Bool, false, ◌&&◌, List, length, if◌then◌else◌}
use Rattle.sv_lex.specs.declared.lexeme.Lexeme.{Lexeme}
use Rattle.sv_lex.specs.declared.lexeme.Lexeme.TheVariants as k
use Rattle.sv_lex.specs.Look.{same_lexeme, first, past}

-- the text begins with this token
unfoldable pub leads : Lexeme → List ℕ → Bool
leads kind z = same_lexeme (first z) kind

-- `)` and `=>`
unfoldable pub closes : List ℕ → Bool
closes z = leads k.RParen z && leads k.Arrow (past z)

-- names with `,` between, a last `,` allowed, and `) =>`; the number bounds how many are looked at
unfoldable pub scan : ℕ → List ℕ → Bool
scan zero z = false
scan (suc n) z =
    if leads k.Name z then (if leads k.Comma (past z) then scan n (past (past z)) else closes (past z)) else closes z

unfoldable pub begins_arrow : List ℕ → Bool
begins_arrow z = if leads k.LParen z then scan (length z) (past z) else (leads k.Name z && leads k.Arrow (past z))
