-- Edits of a page: a node's own token is rewritten, or its tokens come, go, or go elsewhere, and all around them stays.
use Rattle.std.specs.Prelude.{◌≡◌, ◌==◌, Bool, true, ℕ, List, [], ◌∷◌, ◌++◌, Option, Some, None, if◌then◌else◌, nat_lt}
use Rattle.sv_tokens.specs.Counting.{leads}
use Rattle.sv_tokens.specs.Token.{Element, Token, Open, Text, Anchor, Close, begins, closes, IsSpan}
use Rattle.sv_tokens.specs.declared.element.Attribute.{Attribute}
use Rattle.sv_tokens.specs.declared.element.Typed.{Typed}

-- the attributes with this one at its slot
abbrev pub put : Attribute → List Attribute → List Attribute
put attribute [] = attribute ∷ []
put attribute (first ∷ rest) =
    if attribute.slot == first.slot then attribute ∷ rest else (if nat_lt attribute.slot first.slot then attribute ∷ first ∷ rest else first ∷ put attribute rest)

-- the attributes with none at that slot
abbrev pub drop_slot : ℕ → List Attribute → List Attribute
drop_slot slot [] = []
drop_slot slot (first ∷ rest) = if slot == first.slot then rest else first ∷ drop_slot slot rest

-- the element with this attribute at its slot
abbrev pub with_attribute : Attribute → Element → Element
with_attribute attribute element = record element { attributes = put attribute element.attributes }

-- the element with no attribute at that slot
abbrev pub without_slot : ℕ → Element → Element
without_slot slot element = record element { attributes = drop_slot slot element.attributes }

-- the element with this typed state, or with none
abbrev pub with_typed : Option Typed → Element → Element
with_typed typed element = record element { typed = typed }

-- the first token of an element, where the element is another
abbrev pub with_element : (Element → Element) → Token → Token
with_element f (Open node parent number element) = Open node parent number (f element)
with_element f (Text node parent number bytes) = Text node parent number bytes
with_element f (Anchor key parent) = Anchor key parent
with_element f (Close node name) = Close node name

-- the token of a text, where the text is another
abbrev pub with_text : List ℕ → Token → Token
with_text bytes (Open node parent number element) = Open node parent number element
with_text bytes (Text node parent number was) = Text node parent number bytes
with_text bytes (Anchor key parent) = Anchor key parent
with_text bytes (Close node name) = Close node name

-- the first token of one node was rewritten, wherever the old tokens are split round it
pub record Rewritten (old new : List Token) (key : ℕ) (f : Token → Token) : Type 0 where
  pub pre : List Token
  pub token : Token
  pub post : List Token
  pub begin : begins key token ≡ true
  pub was : old ≡ pre ++ (token ∷ post)
  pub is : new ≡ pre ++ (f token ∷ post)
  pub only : (a b : List Token) (t : Token) → begins key t ≡ true → old ≡ a ++ (t ∷ b) → new ≡ a ++ (f t ∷ b)

-- the token that follows a place: the first of a child, or the parent's end
abbrev pub spot : (parent : ℕ) (before : Option ℕ) → Token → Bool
spot parent None = closes parent
spot parent (Some key) = begins key

-- the tokens were put at the place, of which there is one, wherever the old tokens are split there
pub record Inserted (old new : List Token) (parent : ℕ) (before : Option ℕ) (own : List Token) : Type 0 where
  pub pre : List Token
  pub post : List Token
  pub here : leads (spot parent before) post ≡ true
  pub was : old ≡ pre ++ post
  pub is : new ≡ pre ++ (own ++ post)
  pub only : (a b : List Token) → leads (spot parent before) b ≡ true → old ≡ a ++ b → new ≡ a ++ (own ++ b)

-- the tokens of a node and of all below it are gone, wherever the old tokens are split round them
pub record Removed (old new : List Token) (key : ℕ) : Type 0 where
  pub pre : List Token
  pub own : List Token
  pub post : List Token
  pub span : IsSpan key own
  pub was : old ≡ pre ++ (own ++ post)
  pub is : new ≡ pre ++ post
  pub only : (a whole b : List Token) → IsSpan key whole → old ≡ a ++ (whole ++ b) → new ≡ a ++ b

-- the tokens of a node and of all below it stand at the place now, wherever the old tokens are split round them and the others at the place
pub record Moved (old new : List Token) (key parent : ℕ) (before : Option ℕ) : Type 0 where
  pub pre : List Token
  pub own : List Token
  pub post : List Token
  pub front : List Token
  pub back : List Token
  pub span : IsSpan key own
  pub here : leads (spot parent before) back ≡ true
  pub was : old ≡ pre ++ (own ++ post)
  pub others : pre ++ post ≡ front ++ back
  pub is : new ≡ front ++ (own ++ back)
  pub only : (a whole b c d : List Token) → IsSpan key whole → leads (spot parent before) d ≡ true → old ≡ a ++ (whole ++ b) → a ++ b ≡ c ++ d → new ≡ c ++ (whole ++ d)
