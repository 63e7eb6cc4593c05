-- The text of a page, token by token (the serialisation of fragments in the HTML standard, for the markup that a component may hold).
use Rattle.std.specs.Prelude.{◌==◌, ◌||◌, Bool, ℕ, List, [], ◌∷◌, ◌++◌, codes, decimal, Option, Some, None, if◌then◌else◌}
use Rattle.std.specs.Str.{bytes_eq}
use Rattle.sv_tokens.specs.Token.{Element, Token, Open, Text, Anchor, Close}
use Rattle.sv_tokens.specs.declared.element.Attr.{Attr}
use Rattle.sv_tokens.specs.declared.element.Attr.TheVariants as attr
use Rattle.sv_tokens.specs.declared.element.Attribute.{Attribute}
use Rattle.sv_tokens.specs.declared.element.Typed.{Typed}
use Rattle.sv_tokens.specs.declared.element.Typed.TheVariants as typed

-- a byte of a text
abbrev pub text_byte : ℕ → List ℕ
text_byte c = if c == 38 then codes "&amp;" else (if c == 60 then codes "&lt;" else (if c == 62 then codes "&gt;" else c ∷ []))

abbrev pub text_html : List ℕ → List ℕ
text_html [] = []
text_html (c ∷ cs) = text_byte c ++ text_html cs

-- a byte of an attribute's text
abbrev pub value_byte : ℕ → List ℕ
value_byte c = if c == 38 then codes "&amp;" else (if c == 34 then codes "&quot;" else c ∷ [])

abbrev pub bytes_html : List ℕ → List ℕ
bytes_html [] = []
bytes_html (c ∷ cs) = value_byte c ++ bytes_html cs

-- what stands behind an attribute's name
abbrev pub value_html : Attr → List ℕ
value_html attr.Flag = []
value_html (attr.Text bytes) = 61 ∷ 34 ∷ bytes_html bytes ++ 34 ∷ []

-- an attribute with the space before it
abbrev pub attribute_html : List ℕ → Attr → List ℕ
attribute_html name value = 32 ∷ name ++ value_html value

abbrev pub attributes_html : List Attribute → List ℕ
attributes_html [] = []
attributes_html (a ∷ rest) = attribute_html a.name a.value ++ attributes_html rest

-- the attributes with this value at the first of that name, or last where none has it
abbrev pub lay : List ℕ → Attr → List Attribute → List Attribute
lay name value [] = record { slot = 0; name = name; value = value } ∷ []
lay name value (a ∷ rest) = if bytes_eq a.name name then record a { value = value } ∷ rest else a ∷ lay name value rest

-- the attributes without the first of that name
abbrev pub strip : List ℕ → List Attribute → List Attribute
strip name [] = []
strip name (a ∷ rest) = if bytes_eq a.name name then rest else a ∷ strip name rest

-- the attributes with what was typed laid over them: a text is the attribute `value`, a checked box the flag `checked`
abbrev pub laid : Option Typed → List Attribute → List Attribute
laid None attributes = attributes
laid (Some (typed.Text text)) attributes = lay (codes "value") (attr.Text text) attributes
laid (Some (typed.Checked checked)) attributes = if checked then lay (codes "checked") attr.Flag attributes else strip (codes "checked") attributes

-- a printed number between two texts, where there is one
abbrev pub number_html : (before after : List ℕ) → Option ℕ → List ℕ
number_html before after None = []
number_html before after (Some number) = before ++ decimal number ++ after

-- the void elements, which have no children and no end tag
abbrev pub is_void_to_command : List ℕ → Bool
is_void_to_command name = bytes_eq name (codes "area") || bytes_eq name (codes "base") || bytes_eq name (codes "br") || bytes_eq name (codes "col") || bytes_eq name (codes "command")

abbrev pub is_void_to_input : List ℕ → Bool
is_void_to_input name = bytes_eq name (codes "embed") || bytes_eq name (codes "hr") || bytes_eq name (codes "img") || bytes_eq name (codes "input")

abbrev pub is_void_to_param : List ℕ → Bool
is_void_to_param name = bytes_eq name (codes "keygen") || bytes_eq name (codes "link") || bytes_eq name (codes "meta") || bytes_eq name (codes "param")

abbrev pub is_void_to_wbr : List ℕ → Bool
is_void_to_wbr name = bytes_eq name (codes "source") || bytes_eq name (codes "track") || bytes_eq name (codes "wbr")

abbrev pub is_void : List ℕ → Bool
is_void name = is_void_to_command name || is_void_to_input name || is_void_to_param name || is_void_to_wbr name

-- the tag that begins an element, with its printed number
abbrev pub start_html : Option ℕ → Element → List ℕ
start_html number e = 60 ∷ e.name ++ number_html (codes " sv=\"") (codes "\"") number ++ attributes_html (laid e.typed e.attributes) ++ 62 ∷ []

-- the tag that ends an element
abbrev pub end_html : List ℕ → List ℕ
end_html name = if is_void name then [] else codes "</" ++ name ++ 62 ∷ []

-- a text, with its printed number in a comment before it
abbrev pub numbered_text_html : Option ℕ → List ℕ → List ℕ
numbered_text_html number bytes = number_html (codes "<!--") (codes "-->") number ++ text_html bytes

-- a number where numbers are asked for
abbrev pub asked : (numbers : Bool) → Option ℕ → Option ℕ
asked numbers number = if numbers then number else None

-- the page itself shows nothing of its own, and an anchor nothing
abbrev pub token_html : Bool → Token → List ℕ
token_html numbers (Open node parent number e) = if node.serial == 0 then [] else start_html (asked numbers number) e
token_html numbers (Text node parent number bytes) = numbered_text_html (asked numbers number) bytes
token_html numbers (Anchor key parent) = []
token_html numbers (Close node name) = if node.serial == 0 then [] else end_html name

-- the text of the page; with numbers, each node's printed number is shown
abbrev pub html : (numbers : Bool) → List Token → List ℕ
html numbers [] = []
html numbers (t ∷ ts) = token_html numbers t ++ html numbers ts
