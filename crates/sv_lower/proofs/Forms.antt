-- What is made of each form of a tree.
use Rattle.std.proofs.Common.{◌≡◌, ℕ, Bool, List, [], ◌∷◌, ◌++◌, Option, None, Some, option_map, map, sym, ap, ◌∙◌}
use Rattle.sv_ast.specs.declared.names.Named.{Named}
use Rattle.sv_ast.specs.declared.names.Ref.{Ref}
use Rattle.sv_ast.specs.declared.script_tree.Arm.{Arm}
use Rattle.sv_ast.specs.declared.script_tree.Body
use Rattle.sv_ast.specs.declared.script_tree.Body.{Body as AnyBody, Body-F, fold-roll-Body}
use Rattle.sv_ast.specs.declared.script_tree.Decl.{Decl}
use Rattle.sv_ast.specs.declared.script_tree.Entry.{Entry as AnyEntry}
use Rattle.sv_ast.specs.declared.script_tree.Expr.{Expr}
use Rattle.sv_ast.specs.declared.script_tree.ExprKind
use Rattle.sv_ast.specs.declared.script_tree.ExprKind.{ExprKind as AnyKind, ExprKind-F, fold-roll-ExprKind}
use Rattle.sv_ast.specs.declared.script_tree.Field.{Field as AnyField}
use Rattle.sv_ast.specs.declared.script_tree.Link.{Link}
use Rattle.sv_ast.specs.declared.script_tree.Stmt.{Stmt}
use Rattle.sv_ast.specs.declared.script_tree.StmtKind
use Rattle.sv_ast.specs.declared.script_tree.StmtKind.{StmtKind as AnyStmt, StmtKind-F, fold-roll-StmtKind}
use Rattle.sv_base.specs.declared.names.Name.{Name}
use Rattle.sv_base.specs.declared.span.Span.{Span}
use Rattle.sv_code.specs.declared.code.Code.{Code}
use Rattle.sv_code.specs.declared.code.CodeKind.{CodeKind}
use Rattle.sv_code.specs.declared.code.CodeKind.TheVariants as code
use Rattle.sv_code.specs.declared.functions.CodeStmt.{CodeStmt}
use Rattle.sv_code.specs.declared.functions.CodeStmtKind.{CodeStmtKind}
use Rattle.sv_code.specs.declared.functions.CodeStmtKind.TheVariants as stmt_code
use Rattle.sv_code.specs.declared.functions.Function.{Function}
use Rattle.sv_code.specs.declared.functions.FunctionBody.TheVariants as body_code
use Rattle.sv_code.specs.declared.known.Known.{Known}
use Rattle.sv_lower.specs.Does.{of_one, of_two, of_four, each, given, within}
use Rattle.sv_lower.specs.Lower.{Lowers, all, perhaps, known, numbered, call, called, block, for_code, BodyMade, EntryMade, KindMade, FieldMade, StmtKindMade, ArmMade, DeclMade, ExprMade, LinkMade, StmtMade, body, entry, expr_kind, field, stmt_kind, arm, decl, expr, link, stmt, body_made, entry_made, kind_made, field_made, stmt_kind_made, arm_made, decl_made, expr_made, link_made, stmt_made, of_expr, of_stmt, of_stmts}
use Rattle.sv_lower.specs.Inside.{made_in}
use Rattle.sv_lower.specs.declared.inside.Inside.{Inside}
use Rattle.sv_lower.specs.Tops.{Tops, known_at}
use Rattle.sv_lower.proofs.Steps.{two_is, four_is}
use Rattle.sv_lower.proofs.Trees.{body_is, stmts_are, stmt_perhaps}
use Rattle.sv_names.specs.Locals.{name_of}
use Rattle.sv_names.specs.Uses.{named, together, head_of, body_parts, stmt_parts}

pub kind_List : (items : List AnyEntry) (span : Span) → (kind_made (ExprKind.List items)).makes span ≡ of_one code.List (each (all (map entry_made items)))
unfolding ExprKind.roll-ExprKind denote.Hole.Carrier.roll
kind_List items span = ap (λ m. m.makes span) (fold-roll-ExprKind BodyMade EntryMade KindMade FieldMade StmtKindMade ArmMade DeclMade ExprMade LinkMade StmtMade body entry expr_kind field stmt_kind arm decl expr link stmt (ExprKind-F.List items))

pub kind_Obj : (fields : List AnyField) (span : Span) → (kind_made (ExprKind.Obj fields)).makes span ≡ of_one code.Object (each (all (map field_made fields)))
unfolding ExprKind.roll-ExprKind denote.Hole.Carrier.roll
kind_Obj fields span = ap (λ m. m.makes span) (fold-roll-ExprKind BodyMade EntryMade KindMade FieldMade StmtKindMade ArmMade DeclMade ExprMade LinkMade StmtMade body entry expr_kind field stmt_kind arm decl expr link stmt (ExprKind-F.Obj fields))

pub kind_Template : (parts : List Expr) (span : Span) → (kind_made (ExprKind.Template parts)).makes span ≡ of_one code.Template (each (all (map expr_made parts)))
unfolding ExprKind.roll-ExprKind denote.Hole.Carrier.roll
kind_Template parts span = ap (λ m. m.makes span) (fold-roll-ExprKind BodyMade EntryMade KindMade FieldMade StmtKindMade ArmMade DeclMade ExprMade LinkMade StmtMade body entry expr_kind field stmt_kind arm decl expr link stmt (ExprKind-F.Template parts))

pub kind_Chain : (first : Expr) (rest : List Link) (span : Span) → (kind_made (ExprKind.Chain first rest)).makes span ≡ of_two code.Chain (of_expr first) (each (all (map link_made rest)))
unfolding ExprKind.roll-ExprKind denote.Hole.Carrier.roll
kind_Chain first rest span = ap (λ m. m.makes span) (fold-roll-ExprKind BodyMade EntryMade KindMade FieldMade StmtKindMade ArmMade DeclMade ExprMade LinkMade StmtMade body entry expr_kind field stmt_kind arm decl expr link stmt (ExprKind-F.Chain first rest))

pub kind_Call : (of : Expr) (args : List Expr) (span : Span) → (kind_made (ExprKind.Call of args)).makes span ≡ call span (of_expr of) (each (all (map expr_made args)))
unfolding ExprKind.roll-ExprKind denote.Hole.Carrier.roll
kind_Call of args span = ap (λ m. m.makes span) (fold-roll-ExprKind BodyMade EntryMade KindMade FieldMade StmtKindMade ArmMade DeclMade ExprMade LinkMade StmtMade body entry expr_kind field stmt_kind arm decl expr link stmt (ExprKind-F.Call of args))

pub kind_Arrow : (params : List Named) (body : AnyBody) (span : Span) → (kind_made (ExprKind.Arrow params body)).makes span ≡ of_one code.Arrow (numbered span params (body_parts body) (body_made body).makes)
unfolding ExprKind.roll-ExprKind denote.Hole.Carrier.roll
kind_Arrow params b span = ap (λ m. m.makes span) (fold-roll-ExprKind BodyMade EntryMade KindMade FieldMade StmtKindMade ArmMade DeclMade ExprMade LinkMade StmtMade body entry expr_kind field stmt_kind arm decl expr link stmt (ExprKind-F.Arrow params b)) ∙ ap (λ t. of_one code.Arrow (numbered span params (body_parts t) (body_made b).makes)) (body_is b)

pub body_Block : (stmts : List Stmt) → (body_made (Body.Block stmts)).makes ≡ of_one body_code.Block (of_stmts stmts)
unfolding Body.roll-Body denote.Hole.Carrier.roll
body_Block stmts = ap (λ m. m.makes) (fold-roll-Body BodyMade EntryMade KindMade FieldMade StmtKindMade ArmMade DeclMade ExprMade LinkMade StmtMade body entry expr_kind field stmt_kind arm decl expr link stmt (Body-F.«Body::Block» stmts))

pub stmt_Let : (decls : List Decl) (span : Span) → (stmt_kind_made (StmtKind.Let decls)).makes span ≡ of_one stmt_code.Let (each (all (map decl_made decls)))
unfolding StmtKind.roll-StmtKind denote.Hole.Carrier.roll
stmt_Let decls span = ap (λ m. m.makes span) (fold-roll-StmtKind BodyMade EntryMade KindMade FieldMade StmtKindMade ArmMade DeclMade ExprMade LinkMade StmtMade body entry expr_kind field stmt_kind arm decl expr link stmt (StmtKind-F.Let decls))

pub stmt_Const : (decls : List Decl) (exported : Bool) (span : Span) → (stmt_kind_made (StmtKind.Const decls exported)).makes span ≡ of_one (λ list. stmt_code.Const list exported) (each (all (map decl_made decls)))
unfolding StmtKind.roll-StmtKind denote.Hole.Carrier.roll
stmt_Const decls exported span = ap (λ m. m.makes span) (fold-roll-StmtKind BodyMade EntryMade KindMade FieldMade StmtKindMade ArmMade DeclMade ExprMade LinkMade StmtMade body entry expr_kind field stmt_kind arm decl expr link stmt (StmtKind-F.Const decls exported))

pub stmt_Export : (decls : List Decl) (span : Span) → (stmt_kind_made (StmtKind.Export decls)).makes span ≡ of_one stmt_code.Export (each (all (map decl_made decls)))
unfolding StmtKind.roll-StmtKind denote.Hole.Carrier.roll
stmt_Export decls span = ap (λ m. m.makes span) (fold-roll-StmtKind BodyMade EntryMade KindMade FieldMade StmtKindMade ArmMade DeclMade ExprMade LinkMade StmtMade body entry expr_kind field stmt_kind arm decl expr link stmt (StmtKind-F.Export decls))

pub stmt_Block : (stmts : List Stmt) (span : Span) → (stmt_kind_made (StmtKind.Block stmts)).makes span ≡ block (together (map stmt_parts stmts)) (of_stmts stmts)
unfolding StmtKind.roll-StmtKind denote.Hole.Carrier.roll
stmt_Block stmts span = ap (λ m. m.makes span) (fold-roll-StmtKind BodyMade EntryMade KindMade FieldMade StmtKindMade ArmMade DeclMade ExprMade LinkMade StmtMade body entry expr_kind field stmt_kind arm decl expr link stmt (StmtKind-F.«StmtKind::Block» stmts)) ∙ ap (λ t. block (together (map stmt_parts t)) (of_stmts stmts)) (stmts_are stmts)

pub stmt_Each : (name : Named) (fixed : Bool) (list : Expr) (turn : Stmt) (span : Span) → (stmt_kind_made (StmtKind.Each name fixed list turn)).makes span ≡ within (named name ∷ []) (of_two (stmt_code.Each name fixed) (of_expr list) (of_stmt turn))
unfolding StmtKind.roll-StmtKind denote.Hole.Carrier.roll
stmt_Each name fixed list turn span = ap (λ m. m.makes span) (fold-roll-StmtKind BodyMade EntryMade KindMade FieldMade StmtKindMade ArmMade DeclMade ExprMade LinkMade StmtMade body entry expr_kind field stmt_kind arm decl expr link stmt (StmtKind-F.Each name fixed list turn))

pub stmt_Func : (name : Named) (exported : Bool) (params : List Named) (stmts : List Stmt) (span : Span) → (stmt_kind_made (StmtKind.Func name exported params stmts)).makes span ≡ of_two (stmt_code.Function name exported) (known (named name)) (numbered span params (together (map stmt_parts stmts)) (of_one body_code.Block (of_stmts stmts)))
unfolding StmtKind.roll-StmtKind denote.Hole.Carrier.roll
stmt_Func name exported params stmts span = ap (λ m. m.makes span) (fold-roll-StmtKind BodyMade EntryMade KindMade FieldMade StmtKindMade ArmMade DeclMade ExprMade LinkMade StmtMade body entry expr_kind field stmt_kind arm decl expr link stmt (StmtKind-F.Func name exported params stmts)) ∙ ap (λ t. of_two (stmt_code.Function name exported) (known (named name)) (numbered span params (together (map stmt_parts t)) (of_one body_code.Block (of_stmts stmts)))) (stmts_are stmts)

pub stmt_If : (arms : List Arm) (last : Option Stmt) (span : Span) → (stmt_kind_made (StmtKind.If arms last)).makes span ≡ of_two stmt_code.If (each (all (map arm_made arms))) (given (perhaps (option_map stmt_made last)))
unfolding StmtKind.roll-StmtKind denote.Hole.Carrier.roll
stmt_If arms None span = ap (λ m. m.makes span) (fold-roll-StmtKind BodyMade EntryMade KindMade FieldMade StmtKindMade ArmMade DeclMade ExprMade LinkMade StmtMade body entry expr_kind field stmt_kind arm decl expr link stmt (StmtKind-F.If arms None))
stmt_If arms (Some last) span = ap (λ m. m.makes span) (fold-roll-StmtKind BodyMade EntryMade KindMade FieldMade StmtKindMade ArmMade DeclMade ExprMade LinkMade StmtMade body entry expr_kind field stmt_kind arm decl expr link stmt (StmtKind-F.If arms (Some last)))

for_form : (first : Option Stmt) (test next : Option Expr) (turn : Stmt) (span : Span) → (stmt_kind_made (StmtKind.For first test next turn)).makes span
    ≡ for_code (head_of (option_map (λ p. p.tree) (option_map stmt_made first))) (given (perhaps (option_map stmt_made first))) (given (perhaps (option_map expr_made test))) (given (perhaps (option_map expr_made next))) (of_stmt turn)
unfolding StmtKind.roll-StmtKind denote.Hole.Carrier.roll
for_form None None None turn span = ap (λ m. m.makes span) (fold-roll-StmtKind BodyMade EntryMade KindMade FieldMade StmtKindMade ArmMade DeclMade ExprMade LinkMade StmtMade body entry expr_kind field stmt_kind arm decl expr link stmt (StmtKind-F.For None None None turn))
for_form None None (Some n) turn span = ap (λ m. m.makes span) (fold-roll-StmtKind BodyMade EntryMade KindMade FieldMade StmtKindMade ArmMade DeclMade ExprMade LinkMade StmtMade body entry expr_kind field stmt_kind arm decl expr link stmt (StmtKind-F.For None None (Some n) turn))
for_form None (Some t) None turn span = ap (λ m. m.makes span) (fold-roll-StmtKind BodyMade EntryMade KindMade FieldMade StmtKindMade ArmMade DeclMade ExprMade LinkMade StmtMade body entry expr_kind field stmt_kind arm decl expr link stmt (StmtKind-F.For None (Some t) None turn))
for_form None (Some t) (Some n) turn span = ap (λ m. m.makes span) (fold-roll-StmtKind BodyMade EntryMade KindMade FieldMade StmtKindMade ArmMade DeclMade ExprMade LinkMade StmtMade body entry expr_kind field stmt_kind arm decl expr link stmt (StmtKind-F.For None (Some t) (Some n) turn))
for_form (Some f) None None turn span = ap (λ m. m.makes span) (fold-roll-StmtKind BodyMade EntryMade KindMade FieldMade StmtKindMade ArmMade DeclMade ExprMade LinkMade StmtMade body entry expr_kind field stmt_kind arm decl expr link stmt (StmtKind-F.For (Some f) None None turn))
for_form (Some f) None (Some n) turn span = ap (λ m. m.makes span) (fold-roll-StmtKind BodyMade EntryMade KindMade FieldMade StmtKindMade ArmMade DeclMade ExprMade LinkMade StmtMade body entry expr_kind field stmt_kind arm decl expr link stmt (StmtKind-F.For (Some f) None (Some n) turn))
for_form (Some f) (Some t) None turn span = ap (λ m. m.makes span) (fold-roll-StmtKind BodyMade EntryMade KindMade FieldMade StmtKindMade ArmMade DeclMade ExprMade LinkMade StmtMade body entry expr_kind field stmt_kind arm decl expr link stmt (StmtKind-F.For (Some f) (Some t) None turn))
for_form (Some f) (Some t) (Some n) turn span = ap (λ m. m.makes span) (fold-roll-StmtKind BodyMade EntryMade KindMade FieldMade StmtKindMade ArmMade DeclMade ExprMade LinkMade StmtMade body entry expr_kind field stmt_kind arm decl expr link stmt (StmtKind-F.For (Some f) (Some t) (Some n) turn))

pub stmt_For : (first : Option Stmt) (test next : Option Expr) (turn : Stmt) (span : Span) → (stmt_kind_made (StmtKind.For first test next turn)).makes span
    ≡ for_code (head_of first) (given (perhaps (option_map stmt_made first))) (given (perhaps (option_map expr_made test))) (given (perhaps (option_map expr_made next))) (of_stmt turn)
stmt_For first test next turn span = for_form first test next turn span
    ∙ ap (λ t. for_code (head_of t) (given (perhaps (option_map stmt_made first))) (given (perhaps (option_map expr_made test))) (given (perhaps (option_map expr_made next))) (of_stmt turn)) (stmt_perhaps first)

-- ---- an arm of a match over forms

pub kind_arm : {w : CodeKind × List Function} (inside : Inside) (kind form : AnyKind) (span : Span) (made : Lowers CodeKind) (before : List Function)
    → kind ≡ form → (kind_made form).makes span ≡ made → made_in inside made before ≡ w → made_in inside ((kind_made kind).makes span) before ≡ w
kind_arm inside kind form span made before is form_is makes = ap (λ k. made_in inside ((kind_made k).makes span) before) is ∙ ap (λ m. made_in inside m before) form_is ∙ makes

pub stmt_arm : {w : CodeStmtKind × List Function} (inside : Inside) (kind form : AnyStmt) (span : Span) (made : Lowers CodeStmtKind) (before : List Function)
    → kind ≡ form → (stmt_kind_made form).makes span ≡ made → made_in inside made before ≡ w → made_in inside ((stmt_kind_made kind).makes span) before ≡ w
stmt_arm inside kind form span made before is form_is makes = ap (λ k. made_in inside ((stmt_kind_made k).makes span) before) is ∙ ap (λ m. made_in inside m before) form_is ∙ makes

-- a `for`, from what is made inside the scope of its head
pub for_arm : (tops : Tops) (locals inner names : List Ref) (declares : List Name) (first : Lowers (Option CodeStmt)) (test next : Lowers (Option Code)) (turn : Lowers CodeStmt)
    (f0 f1 f2 f3 f4 : List Function) (a : Option CodeStmt) (b c : Option Code) (d : CodeStmt)
    → inner ≡ names ++ locals → declares ≡ map name_of names
    → first tops inner f0 ≡ (a, f1) → test tops inner f1 ≡ (b, f2) → next tops inner f2 ≡ (c, f3) → turn tops inner f3 ≡ (d, f4)
    → for_code names first test next turn tops locals f0 ≡ (stmt_code.For declares a b c d, f4)
for_arm tops locals inner names declares first test next turn f0 f1 f2 f3 f4 a b c d is own e f g h =
    ap (λ l. of_four (stmt_code.For (map name_of names)) first test next turn tops l f0) (sym is)
    ∙ ap (λ n. of_four (stmt_code.For n) first test next turn tops inner f0) (sym own)
    ∙ four_is (stmt_code.For declares) first test next turn tops inner f0 f1 f2 f3 f4 a b c d e f g h

-- a `for .. of`, from what is made inside the scope of its name
pub row_arm : (tops : Tops) (locals inner names : List Ref) (name : Named) (fixed : Bool) (list : Lowers Code) (turn : Lowers CodeStmt) (f0 f1 f2 : List Function) (a : Code) (b : CodeStmt)
    → inner ≡ names ++ locals → names ≡ named name ∷ []
    → list tops inner f0 ≡ (a, f1) → turn tops inner f1 ≡ (b, f2)
    → within (named name ∷ []) (of_two (stmt_code.Each name fixed) list turn) tops locals f0 ≡ (stmt_code.Each name fixed a b, f2)
row_arm tops locals inner names name fixed list turn f0 f1 f2 a b is own e f =
    ap (λ l. of_two (stmt_code.Each name fixed) list turn tops l f0) (sym (is ∙ ap (λ n. n ++ locals) own))
    ∙ two_is (stmt_code.Each name fixed) list turn tops inner f0 f1 f2 a b e f

-- a function that a statement declares, from what it stands for and its number
pub func_arm : (tops : Tops) (locals : List Ref) (name : Named) (exported : Bool) (number : Lowers ℕ) (f0 f1 : List Function) (target : Known) (n : ℕ)
    → target ≡ known_at tops locals (named name) → number tops locals f0 ≡ (n, f1)
    → of_two (stmt_code.Function name exported) (known (named name)) number tops locals f0 ≡ (stmt_code.Function name exported target n, f1)
func_arm tops locals name exported number f0 f1 target n is e =
    ap (λ p. (stmt_code.Function name exported (known_at tops locals (named name)) p.0, p.1)) e ∙ ap (λ t. (stmt_code.Function name exported t n, f1)) (sym is)

-- a call, from what it calls and what it is handed
pub call_is : (span : Span) (of : Lowers Code) (args : Lowers (List Code)) (tops : Tops) (locals : List Ref) (f0 f1 f2 : List Function) (a : Code) (b : List Code)
    → of tops locals f0 ≡ (a, f1) → args tops locals f1 ≡ (b, f2) → call span of args tops locals f0 ≡ called span (a, b) f2
call_is span of args tops locals f0 f1 f2 a b e f = ap (λ p. called span p.0 p.1) (two_is (λ c l. (c, l)) of args tops locals f0 f1 f2 a b e f)
