-- The reader: statements, read from left to right. Each rule is a line of the grammar.
use Rattle.std.specs.Prelude.{ℕ, zero, suc, Bool, true, false, ◌&&◌, List, [], ◌∷◌, ◌++◌, Option, Some, None, Ok, codes, if◌then◌else◌}
use Rattle.std.specs.Str.{bytes_eq}
use Rattle.sv_base.specs.declared.span.Span.{Span}
use Rattle.sv_ast.specs.declared.names.Named.{Named}
use Rattle.sv_ast.specs.declared.refusals.Kind.TheVariants.{Syntax, TooDeep}
use Rattle.sv_ast.specs.declared.script_tree.Arm.{Arm}
use Rattle.sv_ast.specs.declared.script_tree.Decl.{Decl}
use Rattle.sv_ast.specs.declared.script_tree.Expr.{Expr}
use Rattle.sv_ast.specs.declared.script_tree.Stmt.{Stmt}
use Rattle.sv_ast.specs.declared.script_tree.StmtKind.TheVariants as s
use Rattle.sv_lex.specs.declared.lexeme.Lexeme.{Lexeme}
use Rattle.sv_lex.specs.declared.lexeme.Lexeme.TheVariants as k
use Rattle.sv_lex.specs.Reader.{Input, Parser, ◌>>=◌, ◌>>◌, pure, refuse, peek, here, take_token, eat, expect, sees, sees_one, next, spelling, is_later, ending, start, span_from, name}
use Rattle.sv_expr.specs.declared.form.Form.TheVariants.{Whole}
use Rattle.sv_expr.specs.Limits.{Limits}
use Rattle.sv_expr.specs.Lists.{parameters}
use Rattle.sv_expr.specs.Rules.{Readers, level}
use Rattle.sv_script.specs.declared.place.Place.{Place}
use Rattle.sv_script.specs.Lists.{separated, upto}
use Rattle.sv_script.specs.Nodes.{stmt, decl, arm}
use Rattle.sv_script.specs.Places.{in_function, looped}

-- ---- what encloses nothing

-- the name that is written so
unfoldable pub word_as : List ℕ → Parser (Unit {0})
word_as text = λ i. if bytes_eq (spelling i) text then Ok (tt, next i) else refuse Syntax i

-- a statement that is one token, with its end, where it may stand
unfoldable pub single : Bool → Parser Span
single may_stand = if may_stand then (do
  from ← here
  take_token
  ending
  λ i. Ok (span_from from i, i)) else refuse Syntax

unfoldable pub empty : Parser Stmt
empty = do
  from ← here
  take_token
  λ i. Ok (stmt (span_from from i) s.Empty, i)

unfoldable pub break_statement : Place → Parser Stmt
break_statement place = do
  span ← single place.in_loop
  pure (stmt span s.Break)

unfoldable pub continue_statement : Place → Parser Stmt
continue_statement place = do
  span ← single place.in_loop
  pure (stmt span s.Continue)

-- no expression comes on the line of a `return`
abbrev pub stops_by : Lexeme → Input → Bool
stops_by k.Semi i = true
stops_by k.RBrace i = true
stops_by k.End i = true
stops_by _ i = is_later i

unfoldable pub stops : Input → Bool
stops i = stops_by (sees i) i

-- a branch with a condition comes
unfoldable pub begins_arm : Input → Bool
begins_arm i = sees_one k.Else i && sees_one k.If (next i)

-- behind the bracket of a `for`, the head of one over a list comes: `const`, or `let` and two names
unfoldable pub begins_each : Input → Bool
begins_each i = if sees_one k.Let i then sees_one k.Name (next (next i)) else sees_one k.Const i

-- ---- the rules. A construct encloses what `below` reads, and `room` says how many constructs that may still be.

-- what stands in a construct: expressions and the statements of arrows, a block, and the body of `if`, `else` or a loop
pub record Bodies : Type 0 where
  pub exprs : Readers
  pub block : Place → Parser (List Stmt)
  pub body : Place → Parser Stmt

module _ (limits : Limits) (room : ℕ) (below : Bodies) where
  -- an expression, in the brackets of a head or not
  unfoldable pub value : Bool → Parser Expr
  value is_head = if is_head then below.exprs.inside Whole else level limits room below.exprs Whole

  -- ---- declarations

  unfoldable pub declared_as : Bool → Named → Parser Decl
  declared_as is_head found = do
    is_set ← eat k.Equal
    if is_set then (do x ← value is_head; pure (decl found (Some x))) else pure (decl found None)

  -- a name, with a first value or without
  unfoldable pub declared : Bool → Parser Decl
  declared is_head = do
    found ← name
    declared_as is_head found

  -- a name with its value
  unfoldable pub fixed : Parser Decl
  fixed = do
    found ← name
    expect k.Equal
    x ← value false
    pure (decl found (Some x))

  -- `let` and its names
  unfoldable pub variables : Bool → Parser (List Decl)
  variables is_head = do
    take_token
    separated (declared is_head)

  unfoldable pub let_statement : Parser Stmt
  let_statement = do
    from ← here
    found ← variables false
    ending
    λ i. Ok (stmt (span_from from i) (s.Let found), i)

  -- `const` and its names, behind `export` or not
  unfoldable pub const_statement : ℕ → Bool → Parser Stmt
  const_statement from exported = do
    take_token
    found ← separated fixed
    ending
    λ i. Ok (stmt (span_from from i) (s.Const found exported), i)

  -- ---- branches

  -- an expression in round brackets
  unfoldable pub bracketed : Parser Expr
  bracketed = do
    expect k.LParen
    x ← below.exprs.inside Whole
    expect k.RParen
    pure x

  unfoldable pub arm_of : Place → Parser Arm
  arm_of place = do
    take_token
    x ← bracketed
    chosen ← below.body place
    pure (arm x chosen)

  -- the branches that `else if` joins, behind those that were found; the number says how many there may still be
  unfoldable pub arms : Place → ℕ → List Arm → Parser (List Arm)
  arms place zero found = refuse TooDeep
  arms place (suc n) found = do
    one ← arm_of place
    λ i. if begins_arm i then (take_token >> arms place n (found ++ one ∷ [])) i else Ok (found ++ one ∷ [], i)

  unfoldable pub otherwise : Place → Parser (Option Stmt)
  otherwise place = do
    is_there ← eat k.Else
    if is_there then (do x ← below.body place; pure (Some x)) else pure None

  unfoldable pub if_statement : Place → Parser Stmt
  if_statement place = do
    from ← here
    found ← arms place limits.links []
    last ← otherwise place
    λ i. Ok (stmt (span_from from i) (s.If found last), i)

  -- ---- loops

  unfoldable pub while_statement : Place → Parser Stmt
  while_statement place = do
    from ← here
    take_token
    x ← bracketed
    turn ← below.body (looped place)
    λ i. Ok (stmt (span_from from i) (s.While x turn), i)

  -- `of` and the list, up to the closing bracket
  unfoldable pub list_behind : Parser Expr
  list_behind = do
    word_as (codes "of")
    x ← below.exprs.inside Whole
    expect k.RParen
    pure x

  -- a loop over a list, behind its opening bracket
  unfoldable pub each : Place → ℕ → Parser Stmt
  each place from = λ at. (do
    take_token
    found ← name
    x ← list_behind
    turn ← below.body (looped place)
    λ i. Ok (stmt (span_from from i) (s.Each found (sees_one k.Const at) x turn), i)) at

  unfoldable pub head_let : Parser Stmt
  head_let = do
    from ← here
    found ← variables true
    λ i. Ok (stmt (span_from from i) (s.Let found), i)

  unfoldable pub head_value : Parser Stmt
  head_value = do
    from ← here
    x ← below.exprs.inside Whole
    λ i. Ok (stmt (span_from from i) (s.Eval x), i)

  unfoldable pub head_statement : Parser Stmt
  head_statement = λ i. if sees_one k.Let i then head_let i else head_value i

  -- what a loop begins with, up to its `;`
  unfoldable pub head_first : Parser (Option Stmt)
  head_first = do
    is_none ← eat k.Semi
    if is_none then pure None else (do
      x ← head_statement
      expect k.Semi
      pure (Some x))

  -- an expression or none, up to a token
  unfoldable pub head_value_upto : Lexeme → Parser (Option Expr)
  head_value_upto close = do
    is_none ← eat close
    if is_none then pure None else (do
      x ← below.exprs.inside Whole
      expect close
      pure (Some x))

  -- a loop by steps, behind its opening bracket
  unfoldable pub steps : Place → ℕ → Parser Stmt
  steps place from = do
    start ← head_first
    condition ← head_value_upto k.Semi
    step ← head_value_upto k.RParen
    turn ← below.body (looped place)
    λ i. Ok (stmt (span_from from i) (s.For start condition step turn), i)

  unfoldable pub for_statement : Place → Parser Stmt
  for_statement place = do
    from ← here
    take_token
    expect k.LParen
    λ i. if begins_each i then each place from i else steps place from i

  -- ---- other statements

  unfoldable pub nested : Place → Parser Stmt
  nested place = do
    from ← here
    found ← below.block place
    λ i. Ok (stmt (span_from from i) (s.Block found), i)

  -- the expression on the line of a `return`
  unfoldable pub answer : Parser (Option Expr)
  answer = λ i. if stops i then Ok (None, i) else (value false >>= (λ x. pure (Some x))) i

  unfoldable pub return_statement : Place → Parser Stmt
  return_statement place = if place.in_function then (do
    from ← here
    take_token
    x ← answer
    ending
    λ i. Ok (stmt (span_from from i) (s.Return x), i)) else refuse Syntax

  unfoldable pub evaluated : Parser Stmt
  evaluated = do
    from ← here
    x ← value false
    ending
    λ i. Ok (stmt (span_from from i) (s.Eval x), i)

  abbrev pub statement_by : Place → Lexeme → Parser Stmt
  statement_by place k.Semi = empty
  statement_by place k.LBrace = nested place
  statement_by place k.If = if_statement place
  statement_by place k.While = while_statement place
  statement_by place k.For = for_statement place
  statement_by place k.Break = break_statement place
  statement_by place k.Continue = continue_statement place
  statement_by place k.Return = return_statement place
  statement_by place _ = evaluated

  -- a statement that may be the body of another
  unfoldable pub statement : Place → Parser Stmt
  statement place = peek >>= statement_by place

  abbrev pub item_by : Place → Lexeme → Parser Stmt
  item_by place k.Let = let_statement
  item_by place k.Const = λ i. const_statement (start i) false i
  item_by place _ = statement place

  -- a statement directly in a block
  unfoldable pub item : Place → Parser Stmt
  item place = peek >>= item_by place

  -- statements in braces
  unfoldable pub braced : Place → Parser (List Stmt)
  braced place = do
    expect k.LBrace
    found ← upto (item place) k.RBrace
    take_token
    pure found

  -- ---- functions

  unfoldable pub params : Parser (List Named)
  params = λ i. if sees_one k.LParen i then parameters i else refuse Syntax i

  -- a function, behind `export` or not
  unfoldable pub func : ℕ → Bool → Parser Stmt
  func from exported = do
    take_token
    found ← name
    given ← params
    body ← below.block in_function
    λ i. Ok (stmt (span_from from i) (s.Func found exported given body), i)
