-- What a parser reads from, and the steps that its rules are made of. A parser is a function on lists: it gives a tree and
-- what is left, or the refusal. Want of memory is nowhere in it.
use Rattle.std.specs.Prelude.{◌≡◌, ℕ, ◌+◌, ◌-◌, Bool, false, if◌then◌else◌, ◌==◌, List, ◌++◌, length, take, drop, slice_get, Option, Some, None, Result, Ok, Err, refl}
use Rattle.std.specs.Str.{bytes_eq}
use Rattle.std.specs.Coded.{Coded, code_by, coded×, coded_ℕ, coded_list}
use Rattle.sv_base.specs.declared.span.Span.{Span}
use Rattle.sv_base.specs.declared.names.Name.{Name as NameNumber}
use Rattle.sv_base.specs.Names.{number_of, with_text}
use Rattle.sv_ast.specs.declared.names.Named.{Named}
use Rattle.sv_ast.specs.declared.refusals.Kind.{Kind}
use Rattle.sv_ast.specs.declared.refusals.Kind.TheVariants.{Syntax}
use Rattle.sv_ast.specs.declared.refusals.Refused.{Refused}
use Rattle.sv_ast.specs.declared.refusals.ParseError.{ParseError}
use Rattle.sv_ast.specs.declared.refusals.ParseError.TheVariants as errors
use Rattle.sv_lex.specs.declared.lexeme.Lexeme.{Lexeme}
use Rattle.sv_lex.specs.declared.lexeme.Lexeme.TheVariants.{End, Name, Semi, RBrace}
use Rattle.sv_lex.specs.Look.{same_lexeme, skip, first, first_len, past, has_line_end}
use Rattle.sv_lex.specs.Token.{name_len}

-- the text behind the last token that was read, the place where it begins, the number of the file, the table of names that
-- was lent, and the names that were added to it
pub record Input : Type 0 where
  pub text : List ℕ
  pub at : ℕ
  pub file : ℕ
  pub known : List (List ℕ)
  pub added : List (List ℕ)

abbrev Fields : Type 0
Fields = (List ℕ × ℕ) × (ℕ × (List (List ℕ) × List (List ℕ)))

abbrev fields_code : Coded Fields
fields_code =
    coded× (coded× (coded_list coded_ℕ) coded_ℕ) (coded× coded_ℕ (coded× (coded_list (coded_list coded_ℕ)) (coded_list (coded_list coded_ℕ))))

abbrev pub input_code : Coded Input
input_code =
    code_by Fields fields_code (λ i. ((i.text, i.at), (i.file, (i.known, i.added))))
    (λ p. record { text = p.0.0; at = p.0.1; file = p.1.0; known = p.1.1.0; added = p.1.1.1 }) (λ _. refl)

-- ---- the next token

-- its kind
unfoldable pub sees : Input → Lexeme
sees i = first i.text

-- how many bytes it takes
unfoldable pub len : Input → ℕ
len i = first_len i.text

-- the place where it begins
unfoldable pub start : Input → ℕ
start i = i.at + (length i.text - length (skip i.text))

-- how it is written
unfoldable pub spelling : Input → List ℕ
spelling i = take (len i) (skip i.text)

-- what is left behind it
unfoldable pub next : Input → Input
next i = record i { text = past i.text; at = start i + len i }

-- whether it stands on a later line than the token before
unfoldable pub is_later : Input → Bool
is_later i = has_line_end (take (length i.text - length (skip i.text)) i.text)

-- how many bytes there are behind the last token
unfoldable pub left : Input → ℕ
left i = length i.text

-- whether it is of this kind
unfoldable pub sees_one : Lexeme → Input → Bool
sees_one k i = same_lexeme (sees i) k

-- what is left behind it, if it is of this kind
unfoldable pub after : Lexeme → Input → Input
after k i = if sees_one k i then next i else i

-- its bytes in the file
abbrev pub token_span : Input → Span
token_span i = record { file = i.file; from = start i; to = start i + len i }

-- the bytes of a form that begins at `from` and ends with the last token
abbrev pub span_from : ℕ → Input → Span
span_from from i = record { file = i.file; from = from; to = i.at }

-- ---- parsers

abbrev pub Outcome : Type 0 → Type 0
Outcome A = Result (A × Input) Refused

abbrev pub Parser : Type 0 → Type 0
Parser A = Input → Outcome A

abbrev pub and_then : {A B : Type 0} → Outcome A → (A → Parser B) → Outcome B
and_then (Ok p) f = f p.0 p.1
and_then (Err e) f = Err e

infixl 10 ◌>>=◌
abbrev pub ◌>>=◌ : {A B : Type 0} → Parser A → (A → Parser B) → Parser B
p >>= f = λ i. and_then (p i) f

infixl 10 ◌>>◌
abbrev pub ◌>>◌ : {A B : Type 0} → Parser A → Parser B → Parser B
p >> q = p >>= (λ _. q)

abbrev pub pure : {A : Type 0} → A → Parser A
pure a = λ i. Ok (a, i)

-- a refusal at the next token
unfoldable pub refusal : Kind → Input → Refused
refusal kind i = record { kind = kind; at = token_span i }

abbrev pub refuse : {A : Type 0} → Kind → Parser A
refuse kind = λ i. Err (refusal kind i)

abbrev pub peek : Parser Lexeme
peek = λ i. Ok (sees i, i)

abbrev pub here : Parser ℕ
here = λ i. Ok (start i, i)

abbrev pub take_token : Parser (List ℕ)
take_token = λ i. Ok (spelling i, next i)

-- takes a token of this kind, or refuses it
unfoldable pub expect : Lexeme → Parser (Unit {0})
expect k = λ i. if sees_one k i then Ok (tt, next i) else refuse Syntax i

-- takes a token of this kind, if it comes next
abbrev pub eat : Lexeme → Parser Bool
eat k = λ i. Ok (sees_one k i, after k i)

-- the end of a statement: `;`, also on a later line, or nothing before `}`, the end of the text, or a later line
abbrev pub end_by : Lexeme → Parser (Unit {0})
end_by Semi = λ i. Ok (tt, next i)
end_by RBrace = pure tt
end_by End = pure tt
end_by _ = λ i. if is_later i then Ok (tt, i) else refuse Syntax i

unfoldable pub ending : Parser (Unit {0})
ending = λ i. end_by (sees i) i

-- ---- names

-- all names
abbrev pub names : Input → List (List ℕ)
names i = i.known ++ i.added

-- the name of a text: its number in the table, or the next one
abbrev pub name_of : List ℕ → Input → NameNumber
name_of text i = record { 0 = number_of text (names i) }

-- the added names with a text, which the lent table lacks or has
abbrev pub added_with : List ℕ → List (List ℕ) → List (List ℕ) → List (List ℕ)
added_with text known added = if number_of text known == length known then with_text text added else added

-- the names with a text
abbrev pub knowing : List ℕ → Input → Input
knowing text i = record i { added = added_with text i.known i.added }

-- takes the next token as this name or word, which is empty where there is none
abbrev pub named_here : List ℕ → Parser Named
named_here text i = Ok (record { name = name_of text i; span = token_span i }, knowing text (next i))

unfoldable pub word_of : List ℕ → Parser Named
word_of text = λ i. if length text == 0 then refuse Syntax i else named_here text i

-- the name or word at the front of a text
abbrev pub name_text : List ℕ → List ℕ
name_text z = take (name_len z) z

-- the word or name that comes next
unfoldable pub word : Parser Named
word = λ i. word_of (name_text (skip i.text)) i

-- the text of the word or name that comes next, which stays
unfoldable pub word_text : Parser (List ℕ)
word_text = λ i. if length (name_text (skip i.text)) == 0 then refuse Syntax i else Ok (name_text (skip i.text), i)

-- the name that comes next
unfoldable pub name : Parser Named
name = λ i. if sees_one Name i then word i else refuse Syntax i

-- the name behind the `$` that comes next
unfoldable pub store_name : Parser Named
store_name = λ i. word_of (name_text (drop 1 (skip i.text))) i

abbrev pub is_same_text : List ℕ → Option (List ℕ) → Bool
is_same_text text None = false
is_same_text text (Some found) = bytes_eq found text

-- whether the name is that of a text
unfoldable pub is_named : List ℕ → NameNumber → Input → Bool
is_named text number i = is_same_text text (slice_get (names i) number.0)

-- ---- what a function that parses ensures: the parser's outcome, unless memory fails

abbrev pub Fails : {A : Type 0} → Outcome A → ParseError → Type 0
Fails outcome errors.NoMemory = Unit {0}
Fails outcome (errors.Refused r) = outcome ≡ Err r

abbrev pub Reads : {A : Type 0} → Outcome A → Result A ParseError → Input → Type 0
Reads outcome (Ok a) new = outcome ≡ Ok (a, new)
Reads outcome (Err e) new = Fails outcome e
