-- The reader: whole files. Each rule is a line of the grammar.
use Rattle.std.specs.Prelude.{ℕ, zero, suc, Bool, true, false, List, [], Some, None, Ok, codes, if◌then◌else◌}
use Rattle.std.specs.Str.{bytes_eq}
use Rattle.sv_ast.specs.declared.names.Named.{Named}
use Rattle.sv_ast.specs.declared.refusals.Kind.TheVariants.{Syntax, TooDeep}
use Rattle.sv_ast.specs.declared.script_tree.Expr.{Expr}
use Rattle.sv_ast.specs.declared.script_tree.ImportName.{ImportName}
use Rattle.sv_ast.specs.declared.script_tree.Stmt.{Stmt}
use Rattle.sv_ast.specs.declared.script_tree.StmtKind.TheVariants as s
use Rattle.sv_lex.specs.declared.lexeme.Lexeme.{Lexeme}
use Rattle.sv_lex.specs.declared.lexeme.Lexeme.TheVariants as k
use Rattle.sv_lex.specs.Literals.{string}
use Rattle.sv_lex.specs.Reader.{Parser, ◌>>=◌, ◌>>◌, pure, refuse, peek, here, take_token, sees_one, spelling, ending, start, span_from, name}
use Rattle.sv_expr.specs.declared.form.Form.TheVariants.{Whole}
use Rattle.sv_expr.specs.Limits.{Limits}
use Rattle.sv_expr.specs.Lists.{listed}
use Rattle.sv_expr.specs.Rules.{level}
use Rattle.sv_script.specs.Files.{is_source}
use Rattle.sv_script.specs.Lists.{upto}
use Rattle.sv_script.specs.Nodes.{stmt, known_by}
use Rattle.sv_script.specs.Places.{top, in_function}
use Rattle.sv_script.specs.Rules.{Bodies, word_as, statement, item, braced, variables, const_statement, func}

-- ---- imports

-- the name by which the file knows what is given, behind that name
unfoldable pub known_as : Named → Parser ImportName
known_as given = λ i. if bytes_eq (spelling i) (codes "as")
    then (take_token >> (name >>= (λ local. pure (known_by given local)))) i else Ok (known_by given given, i)

unfoldable pub import_name : Parser ImportName
import_name = name >>= known_as

-- the file that is named, or a part of the language; another string is refused as a whole
unfoldable pub source : Bool → Parser (List ℕ)
source is_whole = λ at. if sees_one k.Quoted at
    then (string >>= (λ text. if is_source is_whole text then pure text else (λ i. refuse Syntax at))) at else refuse Syntax at

-- `from`, what is named and the end
unfoldable pub origin : Bool → Parser (List ℕ)
origin is_whole = do
  word_as (codes "from")
  text ← source is_whole
  ending
  pure text

unfoldable pub import_whole : ℕ → Parser Stmt
import_whole from = do
  found ← name
  text ← origin true
  λ i. Ok (stmt (span_from from i) (s.Import (record { from = text; whole = Some found; names = [] })), i)

unfoldable pub import_names : ℕ → Parser Stmt
import_names from = do
  take_token
  found ← listed import_name k.RBrace
  text ← origin false
  λ i. Ok (stmt (span_from from i) (s.Import (record { from = text; whole = None; names = found })), i)

unfoldable pub import_statement : Parser Stmt
import_statement = do
  from ← here
  take_token
  λ i. if sees_one k.LBrace i then import_names from i else import_whole from i

-- ---- what stands at the top of a file

module _ (limits : Limits) (room : ℕ) (below : Bodies) where
  -- `export let`
  unfoldable pub export_let : Parser Stmt
  export_let = do
    from ← here
    take_token
    λ i. if sees_one k.Let i then (variables limits room below false >>= (λ found. ending >>
        (λ o. Ok (stmt (span_from from o) (s.Export found), o)))) i else refuse Syntax i

  unfoldable pub reaction : Parser Stmt
  reaction = do
    from ← here
    take_token
    x ← statement limits room below top
    λ i. Ok (stmt (span_from from i) (s.React x), i)

  abbrev pub component_item_by : Lexeme → Parser Stmt
  component_item_by k.Import = import_statement
  component_item_by k.Export = export_let
  component_item_by k.React = reaction
  component_item_by k.Function = λ i. func limits room below (start i) false i
  component_item_by _ = item limits room below top

  -- an item of a component's script
  unfoldable pub component_item : Parser Stmt
  component_item = peek >>= component_item_by

  abbrev pub exported_by : ℕ → Lexeme → Parser Stmt
  exported_by from k.Const = const_statement limits room below from true
  exported_by from k.Function = func limits room below from true
  exported_by from _ = refuse Syntax

  unfoldable pub exported : Parser Stmt
  exported = do
    from ← here
    take_token
    kind ← peek
    exported_by from kind

  abbrev pub module_item_by : Lexeme → Parser Stmt
  module_item_by k.Import = import_statement
  module_item_by k.Export = exported
  module_item_by k.Const = λ i. const_statement limits room below (start i) false i
  module_item_by k.Function = λ i. func limits room below (start i) false i
  module_item_by _ = refuse Syntax

  -- an item of a module
  unfoldable pub module_item : Parser Stmt
  module_item = peek >>= module_item_by

-- The number says how many constructs may still be opened, this one included.
unfoldable pub bodies : Limits → ℕ → Bodies
bodies limits zero =
    record { exprs = record { inside = λ form. refuse TooDeep; block = refuse TooDeep }; block = λ place. refuse TooDeep; body = λ place. refuse TooDeep }
bodies limits (suc d) =
    record {
      exprs = record { inside = level limits d (bodies limits d).exprs; block = braced limits d (bodies limits d) in_function };
      block = braced limits d (bodies limits d);
      body = statement limits d (bodies limits d);
    }

-- the statements of a component's script, up to the end of the text
unfoldable pub component : Limits → Parser (List Stmt)
component limits = upto (component_item limits limits.nest (bodies limits limits.nest)) k.End

-- those of a module
unfoldable pub file_module : Limits → Parser (List Stmt)
file_module limits = upto (module_item limits limits.nest (bodies limits limits.nest)) k.End

-- an expression, where so many constructs may enclose one another
abbrev pub expression : Limits → ℕ → Parser Expr
expression limits room = level limits room (bodies limits room).exprs Whole
