-- What is found in expressions and statements. A scope is a function or an arrow with its parameters and body, another block,
-- or a `for` with its head.
use Rattle.std.specs.Prelude.{Bool, false, List, [], ◌∷◌, ◌++◌, Option, map, option_map, if◌then◌else◌}
use Rattle.std.specs.Option.{option_to_list}
use Rattle.sv_ast.specs.declared.names.Named.{Named}
use Rattle.sv_ast.specs.declared.names.Ref.{Ref}
use Rattle.sv_ast.specs.declared.script_tree.Arm.{Arm, Arm-F, fold-Arm}
use Rattle.sv_ast.specs.declared.script_tree.Body.{Body, Body-F, fold-Body}
use Rattle.sv_ast.specs.declared.script_tree.Decl.{Decl, Decl-F, fold-Decl}
use Rattle.sv_ast.specs.declared.script_tree.Entry.{Entry, Entry-F, fold-Entry}
use Rattle.sv_ast.specs.declared.script_tree.Expr.{Expr, Expr-F, fold-Expr}
use Rattle.sv_ast.specs.declared.script_tree.ExprKind.{ExprKind, ExprKind-F, fold-ExprKind}
use Rattle.sv_ast.specs.declared.script_tree.Field.{Field, Field-F, fold-Field}
use Rattle.sv_ast.specs.declared.script_tree.Link.{Link, Link-F, fold-Link}
use Rattle.sv_ast.specs.declared.script_tree.Stmt.{Stmt, Stmt-F, fold-Stmt}
use Rattle.sv_ast.specs.declared.script_tree.StmtKind.{StmtKind, StmtKind-F, fold-StmtKind}
use Rattle.sv_ast.specs.declared.script_tree.Import.{Import}
use Rattle.sv_base.specs.declared.names.Name.{Name}
use Rattle.sv_base.specs.declared.span.Span.{Span}
use Rattle.sv_scopes.specs.declared.scope.Binding.{Binding}
use Rattle.sv_scopes.specs.declared.scope.Binding.TheVariants as by
use Rattle.sv_scopes.specs.declared.scope.Declared.{Declared}
use Rattle.sv_scopes.specs.declared.scope.Form.{Form}
use Rattle.sv_scopes.specs.declared.scope.Form.TheVariants as form
use Rattle.sv_scopes.specs.declared.scope.Role.{Role}
use Rattle.sv_scopes.specs.declared.scope.Role.TheVariants as role
use Rattle.sv_scopes.specs.declared.scope.Use.{Use}
use Rattle.sv_scopes.specs.Parts.{Parts, nothing, followed, in_turn, optional, using_name, declaring, scope, arrow}

-- what is found in an expression, by the role that it stands in
abbrev pub InRole : Type 0
InRole = Role → Parts

-- what is found in the form of an expression, by its place too
abbrev pub AtPlace : Type 0
AtPlace = Span → Role → Parts

-- what is found where a name is declared, by how it is declared
abbrev pub ByBinding : Type 0
ByBinding = Binding → Parts

abbrev pub alone : InRole → Parts
alone e = e role.Alone

abbrev pub use_of : Ref → Form → Span → Role → Use
use_of name done span role = record { name = name; span = span; form = done; in_arrow = false; role = role }

abbrev pub declared : Binding → Named → Declared
declared by n = record { name = n.name; span = n.span; by = by }

abbrev pub locals : List Named → Parts
locals names = declaring (map (declared by.Local) names)

-- `++` and `--`
abbrev pub bump_form : Bool → Form
bump_form prefix = if prefix then form.BumpedBefore else form.BumpedBehind

-- the role of an operand of `.`, by the role of the whole
abbrev pub member_role : Name → Role → Role
member_role word role.Called = role.CalledMember word
member_role word _ = role.Alone

-- ---- each form, with what is found in its parts

abbrev pub expr_kind : ExprKind-F Parts Parts AtPlace Parts Parts Parts ByBinding InRole Parts Parts → AtPlace
expr_kind (ExprKind-F.Read name) span as_what = using_name (use_of name form.Read span as_what)
expr_kind (ExprKind-F.List items) span as_what = in_turn items
expr_kind (ExprKind-F.Obj fields) span as_what = in_turn fields
expr_kind (ExprKind-F.Template parts) span as_what = in_turn (map alone parts)
expr_kind (ExprKind-F.Arrow params body) span as_what = arrow (followed (locals params) body)
expr_kind (ExprKind-F.Assign target op value) span as_what = followed (using_name (use_of target form.Assigned span role.Alone)) (alone value)
expr_kind (ExprKind-F.Bump target up prefix) span as_what = using_name (use_of target (bump_form prefix) span role.Alone)
expr_kind (ExprKind-F.Chain first rest) span as_what = followed (alone first) (in_turn rest)
expr_kind (ExprKind-F.Not of) span as_what = alone of
expr_kind (ExprKind-F.Minus of) span as_what = alone of
expr_kind (ExprKind-F.Choose test first second) span as_what = followed (followed (alone test) (alone first)) (alone second)
expr_kind (ExprKind-F.Member of word) span as_what = of (member_role word as_what)
expr_kind (ExprKind-F.Index of at) span as_what = followed (alone of) (alone at)
expr_kind (ExprKind-F.Call of args) span as_what = followed (of role.Called) (in_turn (map alone args))
expr_kind _ span as_what = nothing

abbrev pub expr : Expr-F Parts Parts AtPlace Parts Parts Parts ByBinding InRole Parts Parts → InRole
expr e = e.kind e.span

abbrev pub body : Body-F Parts Parts AtPlace Parts Parts Parts ByBinding InRole Parts Parts → Parts
body (Body-F.Value value) = alone value
body (Body-F.«Body::Block» stmts) = in_turn stmts

abbrev pub entry : Entry-F Parts Parts AtPlace Parts Parts Parts ByBinding InRole Parts Parts → Parts
entry (Entry-F.One value) = alone value
entry (Entry-F.«Entry::Spread» value) = alone value

abbrev pub field : Field-F Parts Parts AtPlace Parts Parts Parts ByBinding InRole Parts Parts → Parts
field (Field-F.Pair key value) = alone value
field (Field-F.«Field::Spread» value) = alone value

abbrev pub link : Link-F Parts Parts AtPlace Parts Parts Parts ByBinding InRole Parts Parts → Parts
link l = alone l.right

abbrev pub arm : Arm-F Parts Parts AtPlace Parts Parts Parts ByBinding InRole Parts Parts → Parts
arm a = followed (alone a.test) a.body

abbrev pub given : Option InRole → Parts
given e = optional (option_map alone e)

abbrev pub decl : Decl-F Parts Parts AtPlace Parts Parts Parts ByBinding InRole Parts Parts → ByBinding
decl d how = followed (declaring (declared how d.name ∷ [])) (given d.first)

abbrev pub decls : Binding → List ByBinding → Parts
decls how list = in_turn (map (λ d. d how) list)

abbrev pub imported : Import → List Declared
imported i = option_to_list (option_map (declared by.Component) i.whole) ++ map (λ spec. declared by.Import spec.local) i.names

abbrev pub for_binding : Bool → Binding
for_binding fixed = if fixed then by.Const else by.Let

-- the head of a `for` and its body, in the order of the text
unfoldable pub for_head : Parts → Parts → Parts → Parts → Parts
for_head first test next body = scope (followed (followed (followed first test) next) body)

unfoldable pub for_each : Declared → Parts → Parts → Parts
for_each name list body = scope (followed (followed (declaring (name ∷ [])) list) body)

-- a function, or a block, which has no parameters
unfoldable pub block : List Named → List Parts → Parts
block params stmts = scope (followed (locals params) (in_turn stmts))

abbrev pub stmt_kind : StmtKind-F Parts Parts AtPlace Parts Parts Parts ByBinding InRole Parts Parts → Parts
stmt_kind (StmtKind-F.«StmtKind::Block» stmts) = block [] stmts
stmt_kind (StmtKind-F.Let list) = decls by.Let list
stmt_kind (StmtKind-F.Const list exported) = decls by.Const list
stmt_kind (StmtKind-F.If arms last) = followed (in_turn arms) (optional last)
stmt_kind (StmtKind-F.While test body) = followed (alone test) body
stmt_kind (StmtKind-F.For first test next body) = for_head (optional first) (given test) (given next) body
stmt_kind (StmtKind-F.Each name fixed list body) = for_each (declared (for_binding fixed) name) (alone list) body
stmt_kind (StmtKind-F.Return value) = given value
stmt_kind (StmtKind-F.Eval value) = alone value
stmt_kind (StmtKind-F.Import i) = declaring (imported i)
stmt_kind (StmtKind-F.Export list) = decls by.Export list
stmt_kind (StmtKind-F.React of) = of
stmt_kind (StmtKind-F.Func name exported params body) = followed (declaring (declared by.Function name ∷ [])) (block params body)
stmt_kind _ = nothing

abbrev pub stmt : Stmt-F Parts Parts AtPlace Parts Parts Parts ByBinding InRole Parts Parts → Parts
stmt s = s.kind

-- the form of an expression or a statement, one layer of it
abbrev pub Layer : Type 0
Layer = ExprKind-F Body Entry ExprKind Field StmtKind Arm Decl Expr Link Stmt

abbrev pub StmtLayer : Type 0
StmtLayer = StmtKind-F Body Entry ExprKind Field StmtKind Arm Decl Expr Link Stmt

-- ---- whole trees

abbrev pub kind_parts : ExprKind → AtPlace
kind_parts = fold-ExprKind Parts Parts AtPlace Parts Parts Parts ByBinding InRole Parts Parts body entry expr_kind field stmt_kind arm decl expr link stmt

-- what is found in an expression
abbrev pub expr_parts : Expr → InRole
expr_parts = fold-Expr Parts Parts AtPlace Parts Parts Parts ByBinding InRole Parts Parts body entry expr_kind field stmt_kind arm decl expr link stmt

abbrev pub body_parts : Body → Parts
body_parts = fold-Body Parts Parts AtPlace Parts Parts Parts ByBinding InRole Parts Parts body entry expr_kind field stmt_kind arm decl expr link stmt

abbrev pub entry_parts : Entry → Parts
entry_parts = fold-Entry Parts Parts AtPlace Parts Parts Parts ByBinding InRole Parts Parts body entry expr_kind field stmt_kind arm decl expr link stmt

abbrev pub field_parts : Field → Parts
field_parts = fold-Field Parts Parts AtPlace Parts Parts Parts ByBinding InRole Parts Parts body entry expr_kind field stmt_kind arm decl expr link stmt

abbrev pub link_parts : Link → Parts
link_parts = fold-Link Parts Parts AtPlace Parts Parts Parts ByBinding InRole Parts Parts body entry expr_kind field stmt_kind arm decl expr link stmt

abbrev pub arm_parts : Arm → Parts
arm_parts = fold-Arm Parts Parts AtPlace Parts Parts Parts ByBinding InRole Parts Parts body entry expr_kind field stmt_kind arm decl expr link stmt

abbrev pub decl_parts : Decl → ByBinding
decl_parts = fold-Decl Parts Parts AtPlace Parts Parts Parts ByBinding InRole Parts Parts body entry expr_kind field stmt_kind arm decl expr link stmt

abbrev pub stmt_kind_parts : StmtKind → Parts
stmt_kind_parts = fold-StmtKind Parts Parts AtPlace Parts Parts Parts ByBinding InRole Parts Parts body entry expr_kind field stmt_kind arm decl expr link stmt

-- what is found in a statement
abbrev pub stmt_parts : Stmt → Parts
stmt_parts = fold-Stmt Parts Parts AtPlace Parts Parts Parts ByBinding InRole Parts Parts body entry expr_kind field stmt_kind arm decl expr link stmt
