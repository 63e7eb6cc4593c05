-- Items one behind another.
use Rattle.std.specs.Prelude.{ℕ, zero, suc, List, [], ◌∷◌, ◌++◌, Ok, if◌then◌else◌}
use Rattle.sv_ast.specs.declared.refusals.Kind.TheVariants.{Syntax}
use Rattle.sv_lex.specs.declared.lexeme.Lexeme.{Lexeme}
use Rattle.sv_lex.specs.declared.lexeme.Lexeme.TheVariants as k
use Rattle.sv_lex.specs.Reader.{Parser, ◌>>=◌, pure, refuse, eat, left, sees_one}

-- items with `,` between, behind those that were found; the number bounds how many come
unfoldable pub separated_from : {A : Type 0} → Parser A → ℕ → List A → Parser (List A)
separated_from item zero found = refuse Syntax
separated_from item (suc n) found = do
  x ← item
  is_more ← eat k.Comma
  if is_more then separated_from item n (found ++ x ∷ []) else pure (found ++ x ∷ [])

-- one item or more with `,` between
unfoldable pub separated : {A : Type 0} → Parser A → Parser (List A)
separated item = λ i. separated_from item (left i) [] i

-- items up to a token, which stays, behind those that were found
unfoldable pub upto_from : {A : Type 0} → Parser A → Lexeme → ℕ → List A → Parser (List A)
upto_from item last zero found = λ i. if sees_one last i then Ok (found, i) else refuse Syntax i
upto_from item last (suc n) found = λ i. if sees_one last i then Ok (found, i) else (item >>= (λ x. upto_from item last n (found ++ x ∷ []))) i

unfoldable pub upto : {A : Type 0} → Parser A → Lexeme → Parser (List A)
upto item last = λ i. upto_from item last (left i) [] i
