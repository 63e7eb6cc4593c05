-- Items with `,` between, a last `,` allowed, up to a closing token.
use Rattle.std.specs.Prelude.{ℕ, zero, suc, List, [], ◌∷◌, ◌++◌, if◌then◌else◌}
use Rattle.sv_ast.specs.declared.names.Named.{Named}
use Rattle.sv_ast.specs.declared.refusals.Kind.TheVariants.{Syntax}
use Rattle.sv_lex.specs.declared.lexeme.Lexeme.{Lexeme}
use Rattle.sv_lex.specs.declared.lexeme.Lexeme.TheVariants as k
use Rattle.sv_lex.specs.Reader.{Parser, ◌>>=◌, ◌>>◌, pure, refuse, eat, expect, left, name}

-- the rest of them behind those that were found; the number bounds how many come
unfoldable pub listed_from : {A : Type 0} → Parser A → Lexeme → ℕ → List A → Parser (List A)
listed_from item close zero found = refuse Syntax
listed_from item close (suc n) found = do
  is_end ← eat close
  if is_end then pure found else (do
    x ← item
    is_more ← eat k.Comma
    if is_more then listed_from item close n (found ++ x ∷ []) else (do expect close; pure (found ++ x ∷ [])))

unfoldable pub listed : {A : Type 0} → Parser A → Lexeme → Parser (List A)
listed item close = λ i. listed_from item close (left i) [] i

-- one name, or names in brackets
unfoldable pub parameters : Parser (List Named)
parameters = do
  is_list ← eat k.LParen
  if is_list then listed name k.RParen else (do found ← name; pure (found ∷ []))
