-- The code of scripts: each form of a tree becomes the same form of code, but that a name becomes what it stands for, and that a function
-- or an arrow becomes its number. Functions are numbered in the order in which their bodies end, so that those inside another come before
-- it; and a call of `createEventDispatcher` becomes the number of a function too, behind those in what it is handed.
use Rattle.std.specs.Prelude.{ℕ, Bool, true, false, List, [], ◌∷◌, ◌++◌, Option, None, Some, length, map, option_map, if◌then◌else◌}
use Rattle.sv_ast.specs.declared.names.Named.{Named}
use Rattle.sv_ast.specs.declared.names.Ref.{Ref}
use Rattle.sv_ast.specs.declared.names.Ref.TheVariants.{Plain, Store}
use Rattle.sv_ast.specs.declared.script_tree.Arm.{Arm, Arm-F, roll-Arm, map-Arm, fold-Arm}
use Rattle.sv_ast.specs.declared.script_tree.Body.{Body, Body-F, roll-Body, map-Body, fold-Body}
use Rattle.sv_ast.specs.declared.script_tree.Decl.{Decl, Decl-F, roll-Decl, map-Decl, fold-Decl}
use Rattle.sv_ast.specs.declared.script_tree.Entry.{Entry, Entry-F, roll-Entry, map-Entry, fold-Entry}
use Rattle.sv_ast.specs.declared.script_tree.Expr.{Expr, Expr-F, roll-Expr, map-Expr, fold-Expr}
use Rattle.sv_ast.specs.declared.script_tree.ExprKind.{ExprKind, ExprKind-F, roll-ExprKind, map-ExprKind, fold-ExprKind}
use Rattle.sv_ast.specs.declared.script_tree.Field.{Field, Field-F, roll-Field, map-Field, fold-Field}
use Rattle.sv_ast.specs.declared.script_tree.Link.{Link, Link-F, roll-Link, map-Link, fold-Link}
use Rattle.sv_ast.specs.declared.script_tree.Stmt.{Stmt, Stmt-F, roll-Stmt, map-Stmt, fold-Stmt}
use Rattle.sv_ast.specs.declared.script_tree.StmtKind.{StmtKind, StmtKind-F, roll-StmtKind, map-StmtKind, fold-StmtKind}
use Rattle.sv_base.specs.declared.names.Name.{Name}
use Rattle.sv_base.specs.declared.span.Span.{Span}
use Rattle.sv_code.specs.declared.code.Code.{Code}
use Rattle.sv_code.specs.declared.code.CodeField.{CodeField}
use Rattle.sv_code.specs.declared.code.CodeField.TheVariants as field_code
use Rattle.sv_code.specs.declared.code.CodeItem.{CodeItem}
use Rattle.sv_code.specs.declared.code.CodeItem.TheVariants as item_code
use Rattle.sv_code.specs.declared.code.CodeKind.{CodeKind, CodeKind-F, out-CodeKind}
use Rattle.sv_code.specs.declared.code.CodeKind.TheVariants as code
use Rattle.sv_code.specs.declared.code.CodeLink.{CodeLink}
use Rattle.sv_code.specs.declared.functions.CodeArm.{CodeArm}
use Rattle.sv_code.specs.declared.functions.CodeDecl.{CodeDecl}
use Rattle.sv_code.specs.declared.functions.CodeStmt.{CodeStmt}
use Rattle.sv_code.specs.declared.functions.CodeStmtKind.{CodeStmtKind}
use Rattle.sv_code.specs.declared.functions.CodeStmtKind.TheVariants as stmt_code
use Rattle.sv_code.specs.declared.functions.Function.{Function}
use Rattle.sv_code.specs.declared.functions.FunctionBody.{FunctionBody}
use Rattle.sv_code.specs.declared.functions.FunctionBody.TheVariants as body_code
use Rattle.sv_code.specs.declared.known.Known.{Known}
use Rattle.sv_code.specs.declared.known.Known.TheVariants.{Cell, Constant, Life}
use Rattle.sv_code.specs.declared.known.Life.{Life as AnyLife}
use Rattle.sv_code.specs.declared.known.Life.TheVariants.{CreateEventDispatcher}
use Rattle.sv_code.specs.declared.known.Property.{Property}
use Rattle.sv_lower.specs.Does.{Does, just, of_one, of_two, of_three, of_four, each, given, followed, within}
use Rattle.sv_lower.specs.Places.{width, place}
use Rattle.sv_lower.specs.Tops.{Tops, known_at, property}
use Rattle.sv_names.specs.Locals.{name_of, locals_among}
use Rattle.sv_names.specs.Uses.{Parts, named, together, scope_of, head_of, free_in, body_parts, stmt_parts}

-- what becomes of a part of a script, where functions stand behind those before it
abbrev pub Lowers : Type 0 → Type 0
Lowers = Does Tops (List Function)

-- a tree, with what is made of it
pub record Made (T M : Type 0) : Type 0 where
  pub tree : T
  pub makes : M

abbrev pub trees : {T M : Type 0} → List (Made T M) → List T
trees parts = map (λ p. p.tree) parts

abbrev pub all : {T M : Type 0} → List (Made T M) → List M
all parts = map (λ p. p.makes) parts

abbrev pub perhaps : {T M : Type 0} → Option (Made T M) → Option M
perhaps part = option_map (λ p. p.makes) part

abbrev pub BodyMade : Type 0
BodyMade = Made Body (Lowers FunctionBody)

abbrev pub EntryMade : Type 0
EntryMade = Made Entry (Lowers CodeItem)

abbrev pub KindMade : Type 0
KindMade = Made ExprKind (Span → Lowers CodeKind)

abbrev pub FieldMade : Type 0
FieldMade = Made Field (Lowers CodeField)

abbrev pub StmtKindMade : Type 0
StmtKindMade = Made StmtKind (Span → Lowers CodeStmtKind)

abbrev pub ArmMade : Type 0
ArmMade = Made Arm (Lowers CodeArm)

abbrev pub DeclMade : Type 0
DeclMade = Made Decl (Lowers CodeDecl)

abbrev pub ExprMade : Type 0
ExprMade = Made Expr (Lowers Code)

abbrev pub LinkMade : Type 0
LinkMade = Made Link (Lowers CodeLink)

abbrev pub StmtMade : Type 0
StmtMade = Made Stmt (Lowers CodeStmt)

-- ---- names

-- what a name stands for
abbrev pub known : Ref → Lowers Known
known name tops locals before = (known_at tops locals name, before)

-- the place of a name that an expression assigns: its front, or its end behind `++` and `--`
abbrev pub placed : Bool → Ref → Span → Lowers Span
placed at_end name span tops locals before = (place at_end (width tops.names name) span, before)

-- what a word behind a point means
abbrev pub worded : Name → Lowers Property
worded word tops locals before = (property tops word, before)

-- the cell of a store, where a cell or a constant at the top holds it
abbrev pub store_of : Known → Known → Option ℕ
store_of (Cell n) (Cell cell) = Some cell
store_of (Constant n) (Cell cell) = Some cell
store_of _ _ = None

-- ---- functions

-- a function, behind those before it: its number
abbrev pub put : Function → List Function → ℕ × List Function
put f before = (length before, before ++ f ∷ [])

-- a function with some parameters, inside scopes of some locals: those that stand free in it are taken along
abbrev pub function : Span → List Named → Parts → List Ref → FunctionBody → Function
function span params parts locals body = record {
  span = span;
  params = params;
  captured = locals_among locals (free_in params parts);
  declares = map name_of (scope_of [] parts);
  body = body;
}

-- its number, behind the functions in its body
abbrev pub numbered : Span → List Named → Parts → Lowers FunctionBody → Lowers ℕ
numbered span params parts body tops locals = followed (within (scope_of params parts) body) (λ made. put (function span params parts locals made)) tops locals

-- ---- calls

abbrev pub makes_dispatcher : AnyLife → Bool
makes_dispatcher CreateEventDispatcher = true
makes_dispatcher _ = false

abbrev pub dispatches : Known → Bool
dispatches (Life life) = makes_dispatcher life
dispatches _ = false

abbrev pub reads_dispatcher : {A B C D E : Type 0} → CodeKind-F A B C D E → Bool
reads_dispatcher (CodeKind-F.Read name) = dispatches name
reads_dispatcher _ = false

-- a dispatcher that a call at some place makes
abbrev pub dispatcher : Span → Function
dispatcher span = record { span = span; params = []; captured = []; declares = []; body = body_code.Dispatch }

-- a call: one of `createEventDispatcher` makes a dispatcher
abbrev pub called : Span → Code × List Code → List Function → CodeKind × List Function
called span c before =
    if reads_dispatcher (out-CodeKind c.0.kind) then (code.Dispatcher (length before) c.0.span c.1, before ++ dispatcher span ∷ []) else (code.Call c.0 c.1, before)

abbrev pub call : Span → Lowers Code → Lowers (List Code) → Lowers CodeKind
call span of args = followed (of_two (λ c list. (c, list)) of args) (called span)

-- ---- each form, with what is made of its parts

abbrev pub BodyLayer : Type 0
BodyLayer = Body-F BodyMade EntryMade KindMade FieldMade StmtKindMade ArmMade DeclMade ExprMade LinkMade StmtMade

abbrev pub EntryLayer : Type 0
EntryLayer = Entry-F BodyMade EntryMade KindMade FieldMade StmtKindMade ArmMade DeclMade ExprMade LinkMade StmtMade

abbrev pub ExprKindLayer : Type 0
ExprKindLayer = ExprKind-F BodyMade EntryMade KindMade FieldMade StmtKindMade ArmMade DeclMade ExprMade LinkMade StmtMade

abbrev pub FieldLayer : Type 0
FieldLayer = Field-F BodyMade EntryMade KindMade FieldMade StmtKindMade ArmMade DeclMade ExprMade LinkMade StmtMade

abbrev pub StmtKindLayer : Type 0
StmtKindLayer = StmtKind-F BodyMade EntryMade KindMade FieldMade StmtKindMade ArmMade DeclMade ExprMade LinkMade StmtMade

abbrev pub ArmLayer : Type 0
ArmLayer = Arm-F BodyMade EntryMade KindMade FieldMade StmtKindMade ArmMade DeclMade ExprMade LinkMade StmtMade

abbrev pub DeclLayer : Type 0
DeclLayer = Decl-F BodyMade EntryMade KindMade FieldMade StmtKindMade ArmMade DeclMade ExprMade LinkMade StmtMade

abbrev pub ExprLayer : Type 0
ExprLayer = Expr-F BodyMade EntryMade KindMade FieldMade StmtKindMade ArmMade DeclMade ExprMade LinkMade StmtMade

abbrev pub LinkLayer : Type 0
LinkLayer = Link-F BodyMade EntryMade KindMade FieldMade StmtKindMade ArmMade DeclMade ExprMade LinkMade StmtMade

abbrev pub StmtLayer : Type 0
StmtLayer = Stmt-F BodyMade EntryMade KindMade FieldMade StmtKindMade ArmMade DeclMade ExprMade LinkMade StmtMade

abbrev pub kind_code : ExprKindLayer → Span → Lowers CodeKind
kind_code ExprKind-F.Undefined span = just code.Undefined
kind_code ExprKind-F.Null span = just code.Null
kind_code (ExprKind-F.Bool value) span = just (code.Bool value)
kind_code (ExprKind-F.Num value) span = just (code.Num value)
kind_code (ExprKind-F.Text value) span = just (code.Text value)
kind_code (ExprKind-F.Read name) span = of_one code.Read (known name)
kind_code (ExprKind-F.List items) span = of_one code.List (each (all items))
kind_code (ExprKind-F.Obj fields) span = of_one code.Object (each (all fields))
kind_code (ExprKind-F.Template parts) span = of_one code.Template (each (all parts))
kind_code (ExprKind-F.Arrow params body) span = of_one code.Arrow (numbered span params (body_parts body.tree) body.makes)
kind_code (ExprKind-F.Assign target op value) span = of_three (λ k at x. code.Assign k at op x) (known target) (placed false target span) value.makes
kind_code (ExprKind-F.Bump target up prefix) span = of_two (λ k at. code.Bump k at up prefix) (known target) (placed prefix target span)
kind_code (ExprKind-F.Chain first rest) span = of_two code.Chain first.makes (each (all rest))
kind_code (ExprKind-F.Not of) span = of_one code.Not of.makes
kind_code (ExprKind-F.Minus of) span = of_one code.Minus of.makes
kind_code (ExprKind-F.Choose test first second) span = of_three code.Choose test.makes first.makes second.makes
kind_code (ExprKind-F.Member of word) span = of_two (λ p x. code.Member x p) (worded word) of.makes
kind_code (ExprKind-F.Index of index) span = of_two code.Index of.makes index.makes
kind_code (ExprKind-F.Call of args) span = call span of.makes (each (all args))

abbrev pub entry_code : EntryLayer → Lowers CodeItem
entry_code (Entry-F.One value) = of_one item_code.One value.makes
entry_code (Entry-F.«Entry::Spread» value) = of_one item_code.Spread value.makes

abbrev pub field_code_of : FieldLayer → Lowers CodeField
field_code_of (Field-F.Pair key value) = of_one (field_code.Pair key) value.makes
field_code_of (Field-F.«Field::Spread» value) = of_one field_code.Spread value.makes

abbrev pub link_code : LinkLayer → Lowers CodeLink
link_code l = of_one (λ right. record { op = l.op; right = right }) l.right.makes

abbrev pub expr_code : ExprLayer → Lowers Code
expr_code e = of_one (λ kind. record { span = e.span; kind = kind }) (e.kind.makes e.span)

abbrev pub function_body : BodyLayer → Lowers FunctionBody
function_body (Body-F.Value value) = of_one body_code.Value value.makes
function_body (Body-F.«Body::Block» stmts) = of_one body_code.Block (each (all stmts))

-- a declared name, with what it stands for
abbrev pub decl_code : DeclLayer → Lowers CodeDecl
decl_code d tops locals =
    let target = known_at tops locals (Plain d.name.name) in
    let store = store_of target (known_at tops locals (Store d.name.name)) in
    of_one (λ first. record { name = d.name; target = target; store = store; first = first }) (given (perhaps d.first)) tops locals

abbrev pub arm_code : ArmLayer → Lowers CodeArm
arm_code a = of_two (λ test turn. record { test = test; body = turn }) a.test.makes a.body.makes

-- a block, where statements declare some names
abbrev pub block : Parts → Lowers (List CodeStmt) → Lowers CodeStmtKind
block parts stmts = of_one (stmt_code.Block (map name_of (scope_of [] parts))) (within (scope_of [] parts) stmts)

-- a `for`, whose head declares some names
abbrev pub for_code : List Ref → Lowers (Option CodeStmt) → Lowers (Option Code) → Lowers (Option Code) → Lowers CodeStmt → Lowers CodeStmtKind
for_code names first test next turn = within names (of_four (stmt_code.For (map name_of names)) first test next turn)

abbrev pub stmt_kind_code : StmtKindLayer → Span → Lowers CodeStmtKind
stmt_kind_code StmtKind-F.Empty span = just stmt_code.Empty
stmt_kind_code (StmtKind-F.«StmtKind::Block» stmts) span = block (together (map stmt_parts (trees stmts))) (each (all stmts))
stmt_kind_code (StmtKind-F.Let decls) span = of_one stmt_code.Let (each (all decls))
stmt_kind_code (StmtKind-F.Const decls exported) span = of_one (λ list. stmt_code.Const list exported) (each (all decls))
stmt_kind_code (StmtKind-F.If arms last) span = of_two stmt_code.If (each (all arms)) (given (perhaps last))
stmt_kind_code (StmtKind-F.While test turn) span = of_two stmt_code.While test.makes turn.makes
stmt_kind_code (StmtKind-F.For first test next turn) span =
    for_code (head_of (option_map (λ p. p.tree) first)) (given (perhaps first)) (given (perhaps test)) (given (perhaps next)) turn.makes
stmt_kind_code (StmtKind-F.Each name fixed list turn) span = within (named name ∷ []) (of_two (stmt_code.Each name fixed) list.makes turn.makes)
stmt_kind_code StmtKind-F.Break span = just stmt_code.Break
stmt_kind_code StmtKind-F.Continue span = just stmt_code.Continue
stmt_kind_code (StmtKind-F.Return value) span = of_one stmt_code.Return (given (perhaps value))
stmt_kind_code (StmtKind-F.Eval value) span = of_one stmt_code.Eval value.makes
stmt_kind_code (StmtKind-F.Import i) span = just (stmt_code.Import i)
stmt_kind_code (StmtKind-F.Export decls) span = of_one stmt_code.Export (each (all decls))
stmt_kind_code (StmtKind-F.React of) span = of_one stmt_code.React of.makes
stmt_kind_code (StmtKind-F.Func name exported params stmts) span =
    of_two (stmt_code.Function name exported) (known (named name)) (numbered span params (together (map stmt_parts (trees stmts))) (of_one body_code.Block (each (all stmts))))

abbrev pub stmt_code_of : StmtLayer → Lowers CodeStmt
stmt_code_of s = of_one (λ kind. record { span = s.span; kind = kind }) (s.kind.makes s.span)

-- ---- each form with its code

abbrev pub body : BodyLayer → BodyMade
body x = record { tree = roll-Body (map-Body BodyMade EntryMade KindMade FieldMade StmtKindMade ArmMade DeclMade ExprMade LinkMade StmtMade Body Entry ExprKind Field StmtKind Arm Decl Expr Link Stmt (λ p. p.tree) (λ p. p.tree) (λ p. p.tree) (λ p. p.tree) (λ p. p.tree) (λ p. p.tree) (λ p. p.tree) (λ p. p.tree) (λ p. p.tree) (λ p. p.tree) x); makes = function_body x }

abbrev pub entry : EntryLayer → EntryMade
entry x = record { tree = roll-Entry (map-Entry BodyMade EntryMade KindMade FieldMade StmtKindMade ArmMade DeclMade ExprMade LinkMade StmtMade Body Entry ExprKind Field StmtKind Arm Decl Expr Link Stmt (λ p. p.tree) (λ p. p.tree) (λ p. p.tree) (λ p. p.tree) (λ p. p.tree) (λ p. p.tree) (λ p. p.tree) (λ p. p.tree) (λ p. p.tree) (λ p. p.tree) x); makes = entry_code x }

abbrev pub expr_kind : ExprKindLayer → KindMade
expr_kind x = record { tree = roll-ExprKind (map-ExprKind BodyMade EntryMade KindMade FieldMade StmtKindMade ArmMade DeclMade ExprMade LinkMade StmtMade Body Entry ExprKind Field StmtKind Arm Decl Expr Link Stmt (λ p. p.tree) (λ p. p.tree) (λ p. p.tree) (λ p. p.tree) (λ p. p.tree) (λ p. p.tree) (λ p. p.tree) (λ p. p.tree) (λ p. p.tree) (λ p. p.tree) x); makes = kind_code x }

abbrev pub field : FieldLayer → FieldMade
field x = record { tree = roll-Field (map-Field BodyMade EntryMade KindMade FieldMade StmtKindMade ArmMade DeclMade ExprMade LinkMade StmtMade Body Entry ExprKind Field StmtKind Arm Decl Expr Link Stmt (λ p. p.tree) (λ p. p.tree) (λ p. p.tree) (λ p. p.tree) (λ p. p.tree) (λ p. p.tree) (λ p. p.tree) (λ p. p.tree) (λ p. p.tree) (λ p. p.tree) x); makes = field_code_of x }

abbrev pub stmt_kind : StmtKindLayer → StmtKindMade
stmt_kind x = record { tree = roll-StmtKind (map-StmtKind BodyMade EntryMade KindMade FieldMade StmtKindMade ArmMade DeclMade ExprMade LinkMade StmtMade Body Entry ExprKind Field StmtKind Arm Decl Expr Link Stmt (λ p. p.tree) (λ p. p.tree) (λ p. p.tree) (λ p. p.tree) (λ p. p.tree) (λ p. p.tree) (λ p. p.tree) (λ p. p.tree) (λ p. p.tree) (λ p. p.tree) x); makes = stmt_kind_code x }

abbrev pub arm : ArmLayer → ArmMade
arm x = record { tree = roll-Arm (map-Arm BodyMade EntryMade KindMade FieldMade StmtKindMade ArmMade DeclMade ExprMade LinkMade StmtMade Body Entry ExprKind Field StmtKind Arm Decl Expr Link Stmt (λ p. p.tree) (λ p. p.tree) (λ p. p.tree) (λ p. p.tree) (λ p. p.tree) (λ p. p.tree) (λ p. p.tree) (λ p. p.tree) (λ p. p.tree) (λ p. p.tree) x); makes = arm_code x }

abbrev pub decl : DeclLayer → DeclMade
decl x = record { tree = roll-Decl (map-Decl BodyMade EntryMade KindMade FieldMade StmtKindMade ArmMade DeclMade ExprMade LinkMade StmtMade Body Entry ExprKind Field StmtKind Arm Decl Expr Link Stmt (λ p. p.tree) (λ p. p.tree) (λ p. p.tree) (λ p. p.tree) (λ p. p.tree) (λ p. p.tree) (λ p. p.tree) (λ p. p.tree) (λ p. p.tree) (λ p. p.tree) x); makes = decl_code x }

abbrev pub expr : ExprLayer → ExprMade
expr x = record { tree = roll-Expr (map-Expr BodyMade EntryMade KindMade FieldMade StmtKindMade ArmMade DeclMade ExprMade LinkMade StmtMade Body Entry ExprKind Field StmtKind Arm Decl Expr Link Stmt (λ p. p.tree) (λ p. p.tree) (λ p. p.tree) (λ p. p.tree) (λ p. p.tree) (λ p. p.tree) (λ p. p.tree) (λ p. p.tree) (λ p. p.tree) (λ p. p.tree) x); makes = expr_code x }

abbrev pub link : LinkLayer → LinkMade
link x = record { tree = roll-Link (map-Link BodyMade EntryMade KindMade FieldMade StmtKindMade ArmMade DeclMade ExprMade LinkMade StmtMade Body Entry ExprKind Field StmtKind Arm Decl Expr Link Stmt (λ p. p.tree) (λ p. p.tree) (λ p. p.tree) (λ p. p.tree) (λ p. p.tree) (λ p. p.tree) (λ p. p.tree) (λ p. p.tree) (λ p. p.tree) (λ p. p.tree) x); makes = link_code x }

abbrev pub stmt : StmtLayer → StmtMade
stmt x = record { tree = roll-Stmt (map-Stmt BodyMade EntryMade KindMade FieldMade StmtKindMade ArmMade DeclMade ExprMade LinkMade StmtMade Body Entry ExprKind Field StmtKind Arm Decl Expr Link Stmt (λ p. p.tree) (λ p. p.tree) (λ p. p.tree) (λ p. p.tree) (λ p. p.tree) (λ p. p.tree) (λ p. p.tree) (λ p. p.tree) (λ p. p.tree) (λ p. p.tree) x); makes = stmt_code_of x }

-- ---- whole trees

abbrev pub body_made : Body → BodyMade
body_made = fold-Body BodyMade EntryMade KindMade FieldMade StmtKindMade ArmMade DeclMade ExprMade LinkMade StmtMade body entry expr_kind field stmt_kind arm decl expr link stmt

abbrev pub entry_made : Entry → EntryMade
entry_made = fold-Entry BodyMade EntryMade KindMade FieldMade StmtKindMade ArmMade DeclMade ExprMade LinkMade StmtMade body entry expr_kind field stmt_kind arm decl expr link stmt

abbrev pub kind_made : ExprKind → KindMade
kind_made = fold-ExprKind BodyMade EntryMade KindMade FieldMade StmtKindMade ArmMade DeclMade ExprMade LinkMade StmtMade body entry expr_kind field stmt_kind arm decl expr link stmt

abbrev pub field_made : Field → FieldMade
field_made = fold-Field BodyMade EntryMade KindMade FieldMade StmtKindMade ArmMade DeclMade ExprMade LinkMade StmtMade body entry expr_kind field stmt_kind arm decl expr link stmt

abbrev pub stmt_kind_made : StmtKind → StmtKindMade
stmt_kind_made = fold-StmtKind BodyMade EntryMade KindMade FieldMade StmtKindMade ArmMade DeclMade ExprMade LinkMade StmtMade body entry expr_kind field stmt_kind arm decl expr link stmt

abbrev pub arm_made : Arm → ArmMade
arm_made = fold-Arm BodyMade EntryMade KindMade FieldMade StmtKindMade ArmMade DeclMade ExprMade LinkMade StmtMade body entry expr_kind field stmt_kind arm decl expr link stmt

abbrev pub decl_made : Decl → DeclMade
decl_made = fold-Decl BodyMade EntryMade KindMade FieldMade StmtKindMade ArmMade DeclMade ExprMade LinkMade StmtMade body entry expr_kind field stmt_kind arm decl expr link stmt

abbrev pub expr_made : Expr → ExprMade
expr_made = fold-Expr BodyMade EntryMade KindMade FieldMade StmtKindMade ArmMade DeclMade ExprMade LinkMade StmtMade body entry expr_kind field stmt_kind arm decl expr link stmt

abbrev pub link_made : Link → LinkMade
link_made = fold-Link BodyMade EntryMade KindMade FieldMade StmtKindMade ArmMade DeclMade ExprMade LinkMade StmtMade body entry expr_kind field stmt_kind arm decl expr link stmt

abbrev pub stmt_made : Stmt → StmtMade
stmt_made = fold-Stmt BodyMade EntryMade KindMade FieldMade StmtKindMade ArmMade DeclMade ExprMade LinkMade StmtMade body entry expr_kind field stmt_kind arm decl expr link stmt

-- the code of an expression
abbrev pub of_expr : Expr → Lowers Code
of_expr e = (expr_made e).makes

-- the code of a statement
abbrev pub of_stmt : Stmt → Lowers CodeStmt
of_stmt s = (stmt_made s).makes

-- the code of statements in turn
abbrev pub of_stmts : List Stmt → Lowers (List CodeStmt)
of_stmts stmts = each (all (map stmt_made stmts))
