-- The names that code reads or assigns. An arrow that is made reads the local names that it takes along; what its body reads, it reads when it
-- is called.
use Rattle.std.specs.Prelude.{ℕ, List, [], ◌∷◌, ◌++◌, map, Option, None, Some, option_map, slice_get}
use Rattle.sv_code.specs.declared.code.Code.{Code, Code-F, fold-Code}
use Rattle.sv_code.specs.declared.code.CodeField.{CodeField, CodeField-F, fold-CodeField}
use Rattle.sv_code.specs.declared.code.CodeItem.{CodeItem, CodeItem-F, fold-CodeItem}
use Rattle.sv_code.specs.declared.code.CodeKind.{CodeKind, CodeKind-F, fold-CodeKind}
use Rattle.sv_code.specs.declared.code.CodeLink.{CodeLink, CodeLink-F, fold-CodeLink}
use Rattle.sv_code.specs.declared.functions.CodeArm.{CodeArm, CodeArm-F, fold-CodeArm}
use Rattle.sv_code.specs.declared.functions.CodeDecl.{CodeDecl}
use Rattle.sv_code.specs.declared.functions.CodeStmt.{CodeStmt, CodeStmt-F, fold-CodeStmt}
use Rattle.sv_code.specs.declared.functions.CodeStmtKind.{CodeStmtKind, CodeStmtKind-F, fold-CodeStmtKind}
use Rattle.sv_code.specs.declared.functions.Function.{Function}
use Rattle.sv_code.specs.declared.functions.FunctionBody.{FunctionBody}
use Rattle.sv_code.specs.declared.functions.FunctionBody.TheVariants as body
use Rattle.sv_code.specs.declared.known.Known.{Known}
use Rattle.sv_code.specs.declared.known.Known.TheVariants as known

-- a fact of each of some things
abbrev pub Each : {A : Type 0} → (A → Type 0) → List A → Type 0
Each Q [] = Unit {0}
Each Q (x ∷ xs) = Q x × Each Q xs

-- those of some parts in turn
abbrev pub joined : List (List Known) → List Known
joined [] = []
joined (xs ∷ more) = xs ++ joined more

-- those of a part that may be absent
abbrev pub given : Option (List Known) → List Known
given None = []
given (Some xs) = xs

-- what the arrow with a number takes along
abbrev pub taken_in : Option Function → List Known
taken_in None = []
taken_in (Some f) = map known.Local f.captured

module _ (functions : List Function) where
  abbrev pub taken : ℕ → List Known
  taken n = taken_in (slice_get functions n)

  -- ---- expressions

  abbrev pub kind_names : CodeKind-F (List Known) (List Known) (List Known) (List Known) (List Known) → List Known
  kind_names CodeKind-F.Undefined = []
  kind_names CodeKind-F.Null = []
  kind_names (CodeKind-F.Bool b) = []
  kind_names (CodeKind-F.Num n) = []
  kind_names (CodeKind-F.Text t) = []
  kind_names (CodeKind-F.Read x) = x ∷ []
  kind_names (CodeKind-F.List ps) = joined ps
  kind_names (CodeKind-F.Object ps) = joined ps
  kind_names (CodeKind-F.Template es) = joined es
  kind_names (CodeKind-F.Arrow n) = taken n
  kind_names (CodeKind-F.Assign x at op e) = x ∷ e
  kind_names (CodeKind-F.Bump x at up prefix) = x ∷ []
  kind_names (CodeKind-F.Chain e ls) = e ++ joined ls
  kind_names (CodeKind-F.Not e) = e
  kind_names (CodeKind-F.Minus e) = e
  kind_names (CodeKind-F.Choose test first second) = test ++ (first ++ second)
  kind_names (CodeKind-F.Member e p) = e
  kind_names (CodeKind-F.Index e at) = e ++ at
  kind_names (CodeKind-F.Call e args) = e ++ joined args
  kind_names (CodeKind-F.Dispatcher n at args) = joined args

  abbrev pub code_names : Code-F (List Known) (List Known) (List Known) (List Known) (List Known) → List Known
  code_names c = c.kind

  abbrev pub link_names : CodeLink-F (List Known) (List Known) (List Known) (List Known) (List Known) → List Known
  link_names l = l.right

  abbrev pub item_names : CodeItem-F (List Known) (List Known) (List Known) (List Known) (List Known) → List Known
  item_names (CodeItem-F.One e) = e
  item_names (CodeItem-F.«CodeItem::Spread» e) = e

  abbrev pub field_names : CodeField-F (List Known) (List Known) (List Known) (List Known) (List Known) → List Known
  field_names (CodeField-F.Pair key e) = e
  field_names (CodeField-F.«CodeField::Spread» e) = e

  -- those of an expression
  abbrev pub of_code : Code → List Known
  of_code = fold-Code (List Known) (List Known) (List Known) (List Known) (List Known) field_names item_names kind_names code_names link_names

  abbrev pub of_kind : CodeKind → List Known
  of_kind = fold-CodeKind (List Known) (List Known) (List Known) (List Known) (List Known) field_names item_names kind_names code_names link_names

  abbrev pub of_item : CodeItem → List Known
  of_item = fold-CodeItem (List Known) (List Known) (List Known) (List Known) (List Known) field_names item_names kind_names code_names link_names

  abbrev pub of_field : CodeField → List Known
  of_field = fold-CodeField (List Known) (List Known) (List Known) (List Known) (List Known) field_names item_names kind_names code_names link_names

  abbrev pub of_link : CodeLink → List Known
  of_link = fold-CodeLink (List Known) (List Known) (List Known) (List Known) (List Known) field_names item_names kind_names code_names link_names

  -- ---- statements: a declaration gives its name a value, and reads what its first value reads

  abbrev pub of_maybe : Option Code → List Known
  of_maybe e = given (option_map of_code e)

  abbrev pub of_decl : CodeDecl → List Known
  of_decl d = of_maybe d.first

  abbrev pub of_decls : List CodeDecl → List Known
  of_decls ds = joined (map of_decl ds)

  abbrev pub stmt_kind_names : CodeStmtKind-F (List Known) (List Known) (List Known) → List Known
  stmt_kind_names CodeStmtKind-F.Empty = []
  stmt_kind_names (CodeStmtKind-F.Block names ms) = joined ms
  stmt_kind_names (CodeStmtKind-F.Let ds) = of_decls ds
  stmt_kind_names (CodeStmtKind-F.Const ds exported) = of_decls ds
  stmt_kind_names (CodeStmtKind-F.If arms last) = joined arms ++ given last
  stmt_kind_names (CodeStmtKind-F.While test turn) = of_code test ++ turn
  stmt_kind_names (CodeStmtKind-F.For names first test next turn) = given first ++ (of_maybe test ++ (of_maybe next ++ turn))
  stmt_kind_names (CodeStmtKind-F.Each x fixed e turn) = of_code e ++ turn
  stmt_kind_names CodeStmtKind-F.Break = []
  stmt_kind_names CodeStmtKind-F.Continue = []
  stmt_kind_names (CodeStmtKind-F.Return e) = of_maybe e
  stmt_kind_names (CodeStmtKind-F.Eval e) = of_code e
  stmt_kind_names (CodeStmtKind-F.Import i) = []
  stmt_kind_names (CodeStmtKind-F.Export ds) = of_decls ds
  stmt_kind_names (CodeStmtKind-F.React m) = []
  stmt_kind_names (CodeStmtKind-F.Function x exported target n) = []

  abbrev pub arm_names : CodeArm-F (List Known) (List Known) (List Known) → List Known
  arm_names a = of_code a.test ++ a.body

  abbrev pub stmt_names : CodeStmt-F (List Known) (List Known) (List Known) → List Known
  stmt_names s = s.kind

  -- those of a statement
  abbrev pub of_stmt : CodeStmt → List Known
  of_stmt = fold-CodeStmt (List Known) (List Known) (List Known) stmt_kind_names arm_names stmt_names

  abbrev pub of_stmt_kind : CodeStmtKind → List Known
  of_stmt_kind = fold-CodeStmtKind (List Known) (List Known) (List Known) stmt_kind_names arm_names stmt_names

  abbrev pub of_arm : CodeArm → List Known
  of_arm = fold-CodeArm (List Known) (List Known) (List Known) stmt_kind_names arm_names stmt_names

  -- ---- functions

  -- those of the body of a function
  abbrev pub of_body : FunctionBody → List Known
  of_body (body.Value e) = of_code e
  of_body (body.Block stmts) = joined (map of_stmt stmts)
  of_body body.Dispatch = []
  of_body body.Writable = []
