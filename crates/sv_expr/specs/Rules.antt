-- The reader: expressions, read from left to right. Each rule is a line of the grammar.
use Rattle.std.specs.Prelude.{ℕ, zero, suc, Bool, true, false, nat_le, List, [], ◌∷◌, ◌++◌, Option, Some, None, Ok, Err, if◌then◌else◌}
use Rattle.sv_ast.specs.declared.names.Ref.{Ref}
use Rattle.sv_ast.specs.declared.names.Ref.TheVariants.{Plain, Store}
use Rattle.sv_ast.specs.declared.operators.AssignOp.{AssignOp}
use Rattle.sv_ast.specs.declared.operators.Op.{Op}
use Rattle.sv_ast.specs.declared.refusals.Kind.TheVariants.{Syntax, TooDeep}
use Rattle.sv_ast.specs.declared.script_tree.Body.{Body}
use Rattle.sv_ast.specs.declared.script_tree.Body.TheVariants.{Value, Block}
use Rattle.sv_ast.specs.declared.script_tree.Entry.{Entry}
use Rattle.sv_ast.specs.declared.script_tree.Expr.{Expr}
use Rattle.sv_ast.specs.declared.script_tree.ExprKind.{ExprKind}
use Rattle.sv_ast.specs.declared.script_tree.ExprKind.TheVariants as e
use Rattle.sv_ast.specs.declared.script_tree.Field.{Field}
use Rattle.sv_ast.specs.declared.script_tree.Field.TheVariants.{Pair, Spread}
use Rattle.sv_ast.specs.declared.script_tree.Link.{Link}
use Rattle.sv_ast.specs.declared.script_tree.Stmt.{Stmt}
use Rattle.sv_lex.specs.declared.lexeme.Lexeme.{Lexeme}
use Rattle.sv_lex.specs.declared.lexeme.Lexeme.TheVariants as k
use Rattle.sv_lex.specs.Look.{same_lexeme}
use Rattle.sv_lex.specs.Literals.{numeral, string, run}
use Rattle.sv_lex.specs.Reader.{Input, Parser, ◌>>=◌, ◌>>◌, pure, refuse, peek, here, take_token, eat, expect, sees_one, next, left, span_from, name, store_name, word, word_text}
use Rattle.sv_expr.specs.declared.form.Form.{Form}
use Rattle.sv_expr.specs.declared.form.Form.TheVariants.{Operand, Whole, Bracketed}
use Rattle.sv_expr.specs.declared.quotients.Left.{Left}
use Rattle.sv_expr.specs.Ahead.{begins_arrow}
use Rattle.sv_expr.specs.Limits.{Limits}
use Rattle.sv_expr.specs.Lists.{listed, parameters}
use Rattle.sv_expr.specs.Nodes.{node, link, chain, entry_of, with_run}
use Rattle.sv_expr.specs.Operators.{operator_in, bump_behind, literal, begins_suffix, assigns}
use Rattle.sv_expr.specs.Quotients.{is_quotient, left_of, left_by, fits, rounds, argument, is_single}

-- ---- what encloses nothing

abbrev pub target_by : Lexeme → Parser Ref
target_by k.Store = do
  found ← store_name
  pure (Store found.name)
target_by _ = do
  found ← name
  pure (Plain found.name)

-- a name or a store name
unfoldable pub target : Parser Ref
target = peek >>= target_by

unfoldable pub number : Limits → Parser Expr
number limits = do
  from ← here
  value ← numeral limits.number
  λ i. Ok (node (span_from from i) (e.Num value), i)

unfoldable pub quoted : Parser Expr
quoted = do
  from ← here
  text ← string
  λ i. Ok (node (span_from from i) (e.Text text), i)

abbrev pub constant_by : Option ExprKind → Parser Expr
constant_by None = refuse Syntax
constant_by (Some kind) = do
  from ← here
  take_token
  λ i. Ok (node (span_from from i) kind, i)

-- a word that is a value
unfoldable pub constant : Parser Expr
constant = peek >>= (λ kind. constant_by (literal kind))

-- a field that is a name alone, which is read
unfoldable pub shorthand : Parser Field
shorthand = do
  from ← here
  key ← word_text
  found ← name
  λ i. Ok (Pair key (node (span_from from i) (e.Read (Plain found.name))), i)

-- an expression that is no quotient; one is refused as a whole
abbrev pub undivided : Expr → Parser Expr
undivided x = if is_quotient x then (λ i. Err (record { kind = Syntax; at = x.span })) else pure x

-- ---- the operators of one group. The number says how many links the chain may still get.

abbrev pub no_link : List Link → Option Op → Parser (List Link)
no_link found None = pure found
no_link found (Some op) = refuse TooDeep

-- an operator that doesn't fit its sides is refused at its token
abbrev pub joined : (Left → List Link → Parser (List Link)) → Left → List Link → Op → Input → Expr → Parser (List Link)
joined more left found op at right = if fits left op right then more (left_by op) (found ++ link op right ∷ []) else (λ i. refuse Syntax at)

abbrev pub links_by : Parser Expr → (Left → List Link → Parser (List Link)) → Left → List Link → Option Op → Parser (List Link)
links_by operand more left found None = pure found
links_by operand more left found (Some op) = λ at. (take_token >> (operand >>= joined more left found op at)) at

unfoldable pub links : Parser Expr → ℕ → ℕ → Left → List Link → Parser (List Link)
links operand group zero left found = peek >>= (λ kind. no_link found (operator_in group kind))
links operand group (suc n) left found = peek >>= (λ kind. links_by operand (links operand group n) left found (operator_in group kind))

abbrev pub unmixed_by : Expr → Option Op → Parser Expr
unmixed_by x None = pure x
unmixed_by x (Some op) = refuse Syntax

-- no operator of the group comes
unfoldable pub unmixed : ℕ → Expr → Parser Expr
unmixed group x = peek >>= (λ kind. unmixed_by x (operator_in group kind))

-- ---- the rules. A construct encloses what `below` reads, and `room` says how many constructs that may still be.

-- what stands in a construct: an expression in one of its forms, or the statements of a block
pub record Readers : Type 0 where
  pub inside : Form → Parser Expr
  pub block : Parser (List Stmt)

module _ (limits : Limits) (room : ℕ) (below : Readers) where
  -- a construct may be opened, also one with nothing in it
  unfoldable pub opened : Parser (Unit {0})
  opened = if nat_le 1 room then pure tt else refuse TooDeep

  unfoldable pub bracketed : Parser Expr
  bracketed = do
    take_token
    x ← below.inside Bracketed
    expect k.RParen
    pure x

  unfoldable pub entry : Parser Entry
  entry = do
    is_spread ← eat k.Dots
    x ← below.inside Whole
    pure (entry_of is_spread x)

  unfoldable pub list : Parser Expr
  list = do
    from ← here
    opened
    take_token
    found ← listed entry k.RBracket
    λ i. Ok (node (span_from from i) (e.List found), i)

  unfoldable pub spread : Parser Field
  spread = do
    take_token
    x ← below.inside Whole
    pure (Spread x)

  -- what stands behind a key
  unfoldable pub pair : List ℕ → Parser Field
  pair key = do
    expect k.Colon
    x ← below.inside Whole
    pure (Pair key x)

  unfoldable pub quoted_field : Parser Field
  quoted_field = string >>= pair

  unfoldable pub worded_field : Parser Field
  worded_field = do
    key ← word_text
    take_token
    pair key

  unfoldable pub named_field : Parser Field
  named_field = λ i. if sees_one k.Colon (next i) then worded_field i else shorthand i

  abbrev pub field_by : Lexeme → Parser Field
  field_by k.Dots = spread
  field_by k.Quoted = quoted_field
  field_by k.Name = named_field
  field_by _ = worded_field

  unfoldable pub field : Parser Field
  field = peek >>= field_by

  unfoldable pub object : Parser Expr
  object = do
    from ← here
    opened
    take_token
    found ← listed field k.RBrace
    λ i. Ok (node (span_from from i) (e.Obj found), i)

  -- the rest of a template behind the parts that were found; the number bounds how many runs come
  unfoldable pub parts_from : ℕ → List Expr → Parser (List Expr)
  parts_from zero found = refuse Syntax
  parts_from (suc n) found = do
    piece ← run
    if piece.1 then (do
      x ← below.inside Whole
      expect k.RBrace
      parts_from n (with_run piece.0 found ++ x ∷ [])) else pure (with_run piece.0 found)

  unfoldable pub parts : Parser (List Expr)
  parts = λ i. parts_from (left i) [] i

  unfoldable pub template : Parser Expr
  template = do
    from ← here
    take_token
    found ← parts
    λ i. Ok (node (span_from from i) (e.Template found), i)

  abbrev pub primary_by : Lexeme → Parser Expr
  primary_by k.Numeral = number limits
  primary_by k.Quoted = quoted
  primary_by k.Backquote = template
  primary_by k.LParen = bracketed
  primary_by k.LBracket = list
  primary_by k.LBrace = object
  primary_by _ = constant

  unfoldable pub primary : Parser Expr
  primary = peek >>= primary_by

  -- ---- suffixes

  unfoldable pub member : ℕ → Expr → Parser Expr
  member from of = do
    take_token
    found ← word
    λ i. Ok (node (span_from from i) (e.Member of found.name), i)

  unfoldable pub index : ℕ → Expr → Parser Expr
  index from of = do
    take_token
    x ← below.inside Whole
    expect k.RBracket
    λ i. Ok (node (span_from from i) (e.Index of x), i)

  -- arguments in brackets; a quotient that is not the only one is refused at the opening bracket
  unfoldable pub call : ℕ → Expr → Parser Expr
  call from of = λ at. (do
    opened
    take_token
    args ← listed (below.inside (argument (rounds of at))) k.RParen
    λ i. if is_single args then Ok (node (span_from from i) (e.Call of args), i) else refuse Syntax at) at

  abbrev pub suffix_by : ℕ → Expr → Lexeme → Parser Expr
  suffix_by from of k.Dot = member from of
  suffix_by from of k.LBracket = index from of
  suffix_by from of _ = call from of

  unfoldable pub suffix : ℕ → Expr → Parser Expr
  suffix from of = if is_quotient of then refuse Syntax else (peek >>= suffix_by from of)

  -- the number says how many links the chain may still get
  unfoldable pub suffixes : ℕ → ℕ → Expr → Parser Expr
  suffixes from zero of = do
    kind ← peek
    if begins_suffix kind then refuse TooDeep else pure of
  suffixes from (suc n) of = do
    kind ← peek
    if begins_suffix kind then (do longer ← suffix from of; suffixes from n longer) else pure of

  abbrev pub named_by : ℕ → Ref → Option Bool → Parser Expr
  named_by from ref None = λ i. suffixes from limits.links (node (span_from from i) (e.Read ref)) i
  named_by from ref (Some up) = do
    take_token
    λ i. Ok (node (span_from from i) (e.Bump ref up false), i)

  -- a target, with `++` or `--` behind it or with suffixes
  unfoldable pub targeted : Parser Expr
  targeted = do
    from ← here
    ref ← target
    λ i. named_by from ref (bump_behind i) i

  unfoldable pub suffixed : Parser Expr
  suffixed = do
    from ← here
    first ← primary
    suffixes from limits.links first

  -- ---- operators

  unfoldable pub negation : Parser Expr
  negation = do
    from ← here
    take_token
    x ← below.inside Operand
    λ i. Ok (node (span_from from i) (e.Not x), i)

  unfoldable pub minus : Parser Expr
  minus = do
    from ← here
    take_token
    x ← below.inside Operand
    λ i. Ok (node (span_from from i) (e.Minus x), i)

  -- `++` or `--` before its target
  unfoldable pub bumped : Bool → Parser Expr
  bumped up = do
    from ← here
    take_token
    opened
    ref ← target
    λ i. Ok (node (span_from from i) (e.Bump ref up true), i)

  abbrev pub prefix_by : Lexeme → Parser Expr
  prefix_by k.Bang = negation
  prefix_by k.Minus = minus
  prefix_by k.PlusPlus = bumped true
  prefix_by k.MinusMinus = bumped false
  prefix_by k.Name = targeted
  prefix_by k.Store = targeted
  prefix_by _ = suffixed

  unfoldable pub prefix : Parser Expr
  prefix = peek >>= prefix_by

  -- the operators of a group behind the first operand
  unfoldable pub extended : Parser Expr → ℕ → ℕ → Expr → Parser Expr
  extended operand group from first = do
    found ← links operand group limits.links (left_of first) []
    λ i. Ok (chain (span_from from i) first found, i)

  -- the operators of the groups up to this one, and 0 for an operand
  unfoldable pub binary : ℕ → Parser Expr
  binary zero = prefix
  binary (suc n) = do
    from ← here
    first ← binary n
    extended (binary n) (suc n) from first

  -- `??`, behind its first operand, without `&&` or `||`
  unfoldable pub nullish : ℕ → Expr → Parser Expr
  nullish from first = do
    x ← extended (binary 4) 7 from first
    one ← unmixed 5 x
    unmixed 6 one

  -- `&&` and `||`, behind their first operand, without `??`
  unfoldable pub either : ℕ → Expr → Parser Expr
  either from first = do
    one ← extended (binary 4) 5 from first
    x ← extended (binary 5) 6 from one
    unmixed 7 x

  unfoldable pub logical : Parser Expr
  logical = do
    from ← here
    first ← binary 4
    kind ← peek
    if same_lexeme kind k.Nullish then nullish from first else either from first

  -- a condition that is a quotient is refused at the `?`
  unfoldable pub choice : ℕ → Expr → Parser Expr
  choice from test = if is_quotient test then refuse Syntax else (do
    take_token
    x ← below.inside Whole
    expect k.Colon
    y ← below.inside Whole
    λ i. Ok (node (span_from from i) (e.Choose test x y), i))

  unfoldable pub condition : Parser Expr
  condition = do
    from ← here
    test ← logical
    kind ← peek
    if same_lexeme kind k.Question then choice from test else pure test

  unfoldable pub assignment : AssignOp → Parser Expr
  assignment op = do
    from ← here
    to ← target
    take_token
    x ← below.inside Whole
    λ i. Ok (node (span_from from i) (e.Assign to op x), i)

  abbrev pub body_by : Lexeme → Parser Body
  body_by k.LBrace = do
    found ← below.block
    pure (Block found)
  body_by _ = do
    x ← below.inside Whole
    pure (Value x)

  unfoldable pub body : Parser Body
  body = peek >>= body_by

  unfoldable pub arrow : Parser Expr
  arrow = do
    from ← here
    params ← parameters
    expect k.Arrow
    found ← body
    λ i. Ok (node (span_from from i) (e.Arrow params found), i)

  abbrev pub whole_by : Option AssignOp → Parser Expr
  whole_by None = condition
  whole_by (Some op) = assignment op

  -- an expression, which may be a quotient
  unfoldable pub whole : Parser Expr
  whole = λ i. if begins_arrow i.text then arrow i else whole_by (assigns i) i

  -- an expression in one of its forms
  abbrev pub level_by : Form → Parser Expr
  level_by Operand = prefix >>= undivided
  level_by Whole = whole >>= undivided
  level_by Bracketed = whole

  unfoldable pub level : Form → Parser Expr
  level form = level_by form
