-- The reader: markup, read from left to right. Each rule is a line of the grammar.
use Rattle.std.specs.Prelude.{ℕ, zero, suc, ◌+◌, ◌-◌, ◌||◌, ◌==◌, nat_le, Bool, true, false, List, [], ◌∷◌, ◌++◌, length, Option, Some, None, Ok, codes, if◌then◌else◌}
use Rattle.sv_ast.specs.declared.markup_tree.Branch.{Branch}
use Rattle.sv_ast.specs.declared.markup_tree.Markup.{Markup}
use Rattle.sv_ast.specs.declared.markup_tree.Markup.TheVariants as m
use Rattle.sv_ast.specs.declared.names.Named.{Named}
use Rattle.sv_ast.specs.declared.refusals.Kind.TheVariants.{Syntax, Unclosed, TooDeep, OutOfScope}
use Rattle.sv_ast.specs.declared.script_tree.Expr.{Expr}
use Rattle.sv_lex.specs.declared.lexeme.Lexeme.TheVariants as k
use Rattle.sv_lex.specs.Bytes.{stop, stop_at, place, pass, numbered}
use Rattle.sv_lex.specs.Reader.{Parser, ◌>>=◌, ◌>>◌, pure, refuse, take_token, eat, expect, sees_one, left, span_from, name}
use Rattle.sv_expr.specs.Limits.{Limits}
use Rattle.sv_script.specs.Rules.{word_as}
use Rattle.sv_tags.specs.declared.directives.Tag.TheVariants as tag
use Rattle.sv_tags.specs.declared.holes.Filling.TheVariants.{Value}
use Rattle.sv_tags.specs.declared.texts.Setting.TheVariants.{Body}
use Rattle.sv_tags.specs.Classes.{begins}
use Rattle.sv_tags.specs.Directives.{tag_of}
use Rattle.sv_script.specs.Script.{expression}
use Rattle.sv_tags.specs.Holes.{opened, braces}
use Rattle.sv_tags.specs.Openings.{opening_tag}
use Rattle.sv_tags.specs.Raw.{comment}
use Rattle.sv_tags.specs.Texts.{text}
use Rattle.sv_markup.specs.declared.heads.Head.{Head}
use Rattle.sv_markup.specs.declared.heads.Row.{Row}
use Rattle.sv_markup.specs.declared.pieces.Form.{Form}
use Rattle.sv_markup.specs.declared.pieces.Form.TheVariants as form
use Rattle.sv_markup.specs.declared.pieces.Piece.{Piece}
use Rattle.sv_markup.specs.declared.pieces.Piece.TheVariants as p
use Rattle.sv_markup.specs.Ends.{end_tag_len, else_if_len}
use Rattle.sv_markup.specs.Nodes.{branch, row, head, with_node}
use Rattle.sv_markup.specs.Pieces.{piece_at, is_end, tag_name, component_name}
use Rattle.sv_markup.specs.Void.{is_void}

-- ---- what encloses no nodes

-- text between tags, as far as it goes
unfoldable pub words : Parser Markup
words = do
  from ← place
  t ← text Body
  λ i. Ok (m.Text (span_from from i) t, i)

-- the end tag of the element that begins at `from`
unfoldable pub end_tag : ℕ → List ℕ → Parser (Unit {0})
end_tag from name = λ i. if end_tag_len name i.text == 0 then stop_at Unclosed from i else pass (end_tag_len name i.text) i

-- the end of the block that begins at `from`, which is written so
unfoldable pub block_end : ℕ → List ℕ → Parser (Unit {0})
block_end from w = λ i. if begins w i.text then pass (length w) i else stop_at Unclosed from i

-- the name of the index of a row, behind a comma
unfoldable pub index : Parser (Option Named)
index = do
  is_there ← eat k.Comma
  if is_there then (name >>= (λ found. pure (Some found))) else pure None

-- the name of a slot, which is empty where none is given
abbrev pub slot_name : Option (List ℕ) → List ℕ
slot_name None = []
slot_name (Some given) = given

-- ---- what stands in braces. `room` says how many constructs may be opened.

module _ (limits : Limits) (room : ℕ) where
  -- `{` expression `}`
  unfoldable pub show : Parser Markup
  show = do
    h ← braces limits Value room
    pure (m.Show h.span h.value)

  -- ---- heads of blocks, whose braces are a construct in the block

  -- a block and its head may be opened
  unfoldable pub begun : Parser (Unit {0})
  begun = λ i. if nat_le 2 room then Ok (tt, i) else stop TooDeep i

  -- so many bytes, an expression and `}`
  unfoldable pub headed : ℕ → Parser Expr
  headed len = do
    pass len
    x ← expression limits (room - 2)
    expect k.RBrace
    pure x

  -- `(` expression `)`, whose brackets are one construct more
  unfoldable pub key : Parser (Option Expr)
  key = λ i. if sees_one k.LParen i then (if nat_le 3 room then (do
    take_token
    x ← expression limits (room - 3)
    expect k.RParen
    pure (Some x)) i else refuse TooDeep i) else Ok (None, i)

  -- the names of a row and its key, behind the list
  unfoldable pub each_row : Parser Row
  each_row = do
    word_as (codes "as")
    item ← name
    at ← index
    by ← key
    pure (row item at by)

  unfoldable pub each_head : Parser Head
  each_head = do
    pass 6
    list ← expression limits (room - 2)
    found ← each_row
    expect k.RBrace
    pure (head list found)

-- ---- nodes. A construct encloses what `below` reads, which is told whether a component owns it.

module _ (limits : Limits) (room : ℕ) (below : Bool → Parser (List Markup)) where
  -- ---- tags

  -- the nodes of an element that begins at `from`, and its end tag; one that stands alone has neither
  unfoldable pub contents : ℕ → List ℕ → Bool → Bool → Parser (List Markup)
  contents from name owned is_alone = if is_alone then pure [] else (do
    children ← below owned
    end_tag from name
    pure children)

  -- an element of a name that is no component's and not `slot`
  unfoldable pub element_of : List ℕ → Bool → ℕ → Parser Markup
  element_of name owned from = do
    opened room
    pass (1 + length name)
    found ← opening_tag limits (room - 1) (tag_of name) owned from
    children ← contents from name false (found.is_closed || is_void name)
    λ i. Ok (m.Element (span_from from i) name found.attrs children, i)

  unfoldable pub element : Bool → Parser Markup
  element owned = λ i. element_of (tag_name i.text) owned i.at i

  -- a component, whose nodes it owns
  unfoldable pub component_of : List ℕ → Bool → ℕ → Parser Markup
  component_of name owned from = do
    opened room
    number ← numbered name
    pass (1 + length name)
    found ← opening_tag limits (room - 1) tag.Component owned from
    children ← contents from name true found.is_closed
    λ i. Ok (m.Comp (span_from from i) number found.attrs children, i)

  unfoldable pub component : Bool → Parser Markup
  component owned = λ i. component_of (component_name i.text) owned i.at i

  unfoldable pub slot : Bool → Parser Markup
  slot owned = do
    from ← place
    opened room
    pass 5
    found ← opening_tag limits (room - 1) tag.Slot owned from
    children ← contents from (codes "slot") false found.is_closed
    λ i. Ok (m.Slot (span_from from i) (slot_name found.slot) found.attrs children, i)

  -- ---- blocks

  -- a condition, before which so many bytes stand, and its nodes
  unfoldable pub branch_of : ℕ → Parser Branch
  branch_of len = do
    test ← headed limits room len
    body ← below false
    pure (branch test body)

  -- the branches with conditions, behind those that were found; the number says how many there may still be
  unfoldable pub branches : ℕ → ℕ → List Branch → Parser (List Branch)
  branches zero len found = stop TooDeep
  branches (suc n) len found = do
    one ← branch_of len
    λ i. if else_if_len i.text == 0 then Ok (found ++ one ∷ [], i) else branches n (else_if_len i.text) (found ++ one ∷ []) i

  -- `{:else}` and its nodes
  unfoldable pub otherwise : Parser (Option (List Markup))
  otherwise = λ i. if begins (codes "{:else}") i.text then (do
    pass 7
    body ← below false
    pure (Some body)) i else Ok (None, i)

  unfoldable pub if_block : Parser Markup
  if_block = do
    from ← place
    begun limits room
    arms ← branches limits.links 4 []
    last ← otherwise
    block_end from (codes "{/if}")
    λ i. Ok (m.If (span_from from i) arms last, i)

  unfoldable pub each_block : Parser Markup
  each_block = do
    from ← place
    begun limits room
    found ← each_head limits room
    body ← below false
    none ← otherwise
    block_end from (codes "{/each}")
    λ i. Ok (m.Each (span_from from i) found.list found.row.item found.row.index found.row.key body none, i)

  unfoldable pub key_block : Parser Markup
  key_block = do
    from ← place
    begun limits room
    value ← headed limits room 5
    body ← below false
    block_end from (codes "{/key}")
    λ i. Ok (m.Key (span_from from i) value body, i)

  -- ---- nodes

  abbrev pub node_by : Bool → Form → Parser Markup
  node_by owned form.Text = words
  node_by owned form.Hole = show limits room
  node_by owned form.Element = element owned
  node_by owned form.Component = component owned
  node_by owned form.Slot = slot owned
  node_by owned form.If = if_block
  node_by owned form.Each = each_block
  node_by owned form.Key = key_block

  -- a node of this form
  unfoldable pub node : Bool → Form → Parser Markup
  node owned f = node_by owned f

  abbrev pub piece_by : Bool → Piece → Parser (Option Markup)
  piece_by owned p.Comment = comment >> pure None
  piece_by owned (p.Node f) = node owned f >>= (λ x. pure (Some x))
  piece_by owned p.Script = stop OutOfScope
  piece_by owned p.Style = stop OutOfScope
  piece_by owned p.LeftOut = stop OutOfScope
  piece_by owned p.End = stop Syntax
  piece_by owned p.Unread = stop Syntax

  -- what begins so: a node, or a comment, which is none
  unfoldable pub piece : Bool → Piece → Parser (Option Markup)
  piece owned at = piece_by owned at

  -- the nodes up to an end, behind those that were found; the number bounds how many pieces come
  unfoldable pub nodes_from : Bool → ℕ → List Markup → Parser (List Markup)
  nodes_from owned zero found = λ i. if is_end (piece_at i.text) then Ok (found, i) else stop Syntax i
  nodes_from owned (suc n) found =
      λ i. if is_end (piece_at i.text) then Ok (found, i) else (piece owned (piece_at i.text) >>= (λ x. nodes_from owned n (with_node x found))) i

  unfoldable pub nodes : Bool → Parser (List Markup)
  nodes owned = λ i. nodes_from owned (left i) [] i

-- the nodes in a construct, where so many may be opened, that one included
unfoldable pub inside : Limits → ℕ → Bool → Parser (List Markup)
inside limits zero owned = stop TooDeep
inside limits (suc d) owned = nodes limits d (inside limits d) owned
