-- The values of attributes (HTML, 'Attributes'; Svelte 4, 'Attributes and props').
use Rattle.std.specs.Prelude.{ℕ, zero, suc, ◌==◌, Bool, List, [], ◌∷◌, ◌++◌, Option, Some, None, Ok, is_some, if◌then◌else◌}
use Rattle.sv_ast.specs.declared.markup_tree.AttrPart.{AttrPart}
use Rattle.sv_ast.specs.declared.markup_tree.AttrPart.TheVariants.{Text, Show}
use Rattle.sv_ast.specs.declared.markup_tree.AttrValue.{AttrValue}
use Rattle.sv_ast.specs.declared.markup_tree.AttrValue.TheVariants.{Bare, Parts}
use Rattle.sv_ast.specs.declared.refusals.Kind.TheVariants.{Syntax}
use Rattle.sv_lex.specs.Bytes.{stop, pass}
use Rattle.sv_lex.specs.Reader.{Parser, ◌>>=◌, ◌>>◌, pure, left}
use Rattle.sv_expr.specs.Limits.{Limits}
use Rattle.sv_tags.specs.declared.holes.Filling.{Filling}
use Rattle.sv_tags.specs.declared.holes.Filling.TheVariants.{Value}
use Rattle.sv_tags.specs.declared.holes.Hole.{Hole}
use Rattle.sv_tags.specs.declared.texts.Quote.{Quote}
use Rattle.sv_tags.specs.declared.texts.Quote.TheVariants.{Double, Single}
use Rattle.sv_tags.specs.declared.texts.Setting.TheVariants.{Quoted, Unquoted}
use Rattle.sv_tags.specs.Classes.{first}
use Rattle.sv_tags.specs.Holes.{braces}
use Rattle.sv_tags.specs.Texts.{closing, text}

abbrev pub shown : Hole → AttrPart
shown h = Show h.span h.value

-- the text that a value is, where it has no expression
abbrev pub literal_parts : List AttrPart → Option (List ℕ)
literal_parts [] = Some []
literal_parts (Text t ∷ []) = Some t
literal_parts _ = None

abbrev pub literal : AttrValue → Option (List ℕ)
literal Bare = None
literal (Parts parts) = literal_parts parts

abbrev pub is_literal : AttrValue → Bool
is_literal v = is_some (literal v)

-- the quote that a byte is
abbrev pub quote_of : ℕ → Option Quote
quote_of b = if b == 34 then Some Double else (if b == 39 then Some Single else None)

-- a text without quotes, as the one part of a value
unfoldable pub unquoted : Parser AttrValue
unquoted = do
  t ← text Unquoted
  pure (Parts (Text t ∷ []))

module _ (limits : Limits) (room : ℕ) where
  -- braces with something in them, as the one part of a value
  unfoldable pub in_braces : Filling → Parser AttrValue
  in_braces filling = do
    h ← braces limits filling room
    pure (Parts (shown h ∷ []))

  -- a part in quotes: an expression in braces, or text as far as it goes
  unfoldable pub part : Quote → Parser AttrPart
  part quote = λ i. if first i.text == 123 then (braces limits Value room >>= (λ h. pure (shown h))) i else (text (Quoted quote) >>= (λ t. pure (Text t))) i

  -- the parts up to the closing quote, behind those that were found; the number bounds how many come
  unfoldable pub parts_from : Quote → ℕ → List AttrPart → Parser (List AttrPart)
  parts_from quote zero found = stop Syntax
  parts_from quote (suc n) found =
      λ i. if first i.text == closing quote then (pass 1 >> pure found) i else (part quote >>= (λ x. parts_from quote n (found ++ x ∷ []))) i

  unfoldable pub parts : Quote → Parser (List AttrPart)
  parts quote = λ i. parts_from quote (left i) [] i

  unfoldable pub in_quotes : Quote → Parser AttrValue
  in_quotes quote = do
    pass 1
    found ← parts quote
    pure (Parts found)

  abbrev pub unbraced : Option Quote → Parser AttrValue
  unbraced None = unquoted
  unbraced (Some quote) = in_quotes quote

  -- what stands behind the `=`
  unfoldable pub assigned : Parser AttrValue
  assigned = λ i. if first i.text == 123 then in_braces Value i else unbraced (quote_of (first i.text)) i

  -- what stands behind the name of an attribute
  unfoldable pub value : Parser AttrValue
  value = λ i. if first i.text == 61 then (pass 1 >> assigned) i else Ok (Bare, i)

  -- the only form behind the `=` of a directive
  unfoldable pub only_braces : Filling → Parser AttrValue
  only_braces filling = λ i. if first i.text == 123 then in_braces filling i else stop Syntax i

  -- what stands behind the name of a directive
  unfoldable pub directive_value : Filling → Parser AttrValue
  directive_value filling = λ i. if first i.text == 61 then (pass 1 >> only_braces filling) i else Ok (Bare, i)
