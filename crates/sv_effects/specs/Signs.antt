-- What the body of a function does that may keep the function from being pure: the names that it reads and assigns, what it calls, and
-- the calls that nothing makes pure. The bodies of arrows and functions that it only makes count as its own. Names that a scope in
-- it declares are its own and no signs (ECMA-262, 9.1 and 14.2: a declaration is bound in its block).
use Rattle.std.specs.Prelude.{Bool, true, false, ◌&&◌, List, [], ◌∷◌, ◌++◌, Option, None, Some, map, if◌then◌else◌}
use Rattle.sv_base.specs.BuiltIn.{list_calls, value_calls, math_functions}
use Rattle.sv_base.specs.Names.{Table, is_text, is_one_of}
use Rattle.sv_base.specs.declared.built_in.TheConstants.{MATH}
use Rattle.sv_base.specs.declared.names.Name.{Name}
use Rattle.sv_ast.specs.declared.names.Ref.{Ref}
use Rattle.sv_ast.specs.declared.names.Ref.TheVariants.{Plain}
use Rattle.sv_ast.specs.declared.script_tree.Arm.{Arm, Arm-F, fold-Arm}
use Rattle.sv_ast.specs.declared.script_tree.Body.{Body, Body-F, fold-Body}
use Rattle.sv_ast.specs.declared.script_tree.Decl.{Decl, Decl-F, fold-Decl}
use Rattle.sv_ast.specs.declared.script_tree.Entry.{Entry, Entry-F, fold-Entry}
use Rattle.sv_ast.specs.declared.script_tree.Expr.{Expr, Expr-F, fold-Expr}
use Rattle.sv_ast.specs.declared.script_tree.ExprKind.{ExprKind, ExprKind-F, fold-ExprKind}
use Rattle.sv_ast.specs.declared.script_tree.Field.{Field, Field-F, fold-Field}
use Rattle.sv_ast.specs.declared.script_tree.Link.{Link, Link-F, fold-Link}
use Rattle.sv_ast.specs.declared.script_tree.Stmt.{Stmt, Stmt-F, fold-Stmt}
use Rattle.sv_ast.specs.declared.script_tree.StmtKind.{StmtKind, StmtKind-F, fold-StmtKind}
use Rattle.sv_names.specs.Distinct.{has, with_names}
use Rattle.sv_names.specs.Uses.{named, imported}
use Rattle.sv_effects.specs.declared.notes.Sign.{Sign}
use Rattle.sv_effects.specs.declared.notes.Sign.TheVariants.{Reads, Sets, Calls, Hands, Breaks}

-- where a part of a body stands: the table of names with which it was read, whether it is evaluated in the body of an arrow that a
-- call on a list takes, and the names that the scopes round it in the body declare
pub record Place : Type 0 where
  pub table : Table
  pub handed : Bool
  pub locals : List Ref

abbrev pub place : Table → Bool → List Ref → Place
place table handed locals = record { table = table; handed = handed; locals = locals }

-- the signs of a part, in the order of the text
abbrev pub Found : Type 0
Found = Place → List Sign

-- the form of an expression, as far as a call asks: a name, a member of something, an arrow with what is found in it
pub data Form : Type 0 where
  Named : Ref → Form
  MemberOf : Form → Name → Form
  Function : Found → Form
  Other : Form

-- what is asked of an expression: its form, and its signs
pub record Asked : Type 0 where
  pub form : Form
  pub signs : Found

-- what is asked of a statement: the names that it declares in the scope round it, and its signs
pub record Part : Type 0 where
  pub declares : List Ref
  pub signs : Found

-- ---- signs of more than one part

abbrev pub nothing : Found
nothing at = []

abbrev pub followed : Found → Found → Found
followed first second at = first at ++ second at

abbrev pub in_turn : List Found → Found
in_turn [] = nothing
in_turn (found ∷ more) = followed found (in_turn more)

-- an expression that may be absent
abbrev pub given : Option Asked → Found
given None = nothing
given (Some value) = value.signs

-- a scope with some names and what stands in it
abbrev pub inside : List Ref → Part → Found
inside names part at = part.signs (record at { locals = with_names at.locals (names ++ part.declares) })

-- a body that a call on a list takes, or one that is only made
abbrev pub as_handed : Bool → Found → Found
as_handed handed found at = found (record at { handed = handed })

-- ---- names

-- a sign of a name, unless the name is the body's own
abbrev pub unless_local : Sign → Ref → List Ref → List Sign
unless_local sign name locals = if has name locals then [] else sign ∷ []

-- a sign that a call gives for a name, which breaks where the name is the body's own
abbrev pub by_name : Sign → Ref → List Ref → List Sign
by_name sign name locals = (if has name locals then Breaks else sign) ∷ []

-- an assignment; a call on a list takes no arrow that assigns
abbrev pub set_signs : Bool → Ref → List Ref → List Sign
set_signs handed name locals = if handed then Breaks ∷ [] else unless_local (Sets name) name locals

abbrev pub reads : Ref → Found
reads name at = unless_local (Reads name) name at.locals

abbrev pub sets : Ref → Found
sets name at = set_signs at.handed name at.locals

-- ---- calls

-- the name `Math`
abbrev pub is_math : Form → Table → Bool
is_math (Named (Plain name)) table = is_text table MATH.now name
is_math _ table = false

-- what is handed to a call on a list as its function; the body of an arrow counts as the rest does
abbrev pub hands : Form → List Ref → List Sign
hands (Named name) locals = by_name (Hands name) name locals
hands (Function found) locals = []
hands _ locals = Breaks ∷ []

abbrev pub hands_first : List Form → List Ref → List Sign
hands_first [] locals = Breaks ∷ []
hands_first (first ∷ more) locals = hands first locals

-- the call of a member is one on a list or a text, or one of `Math`
abbrev pub calls_member : Form → Name → List Form → Table → List Ref → List Sign
calls_member of word args table locals =
    if is_one_of table value_calls word then []
    else if is_one_of table list_calls word then hands_first args locals
    else if is_math of table && is_one_of table math_functions word then []
    else Breaks ∷ []

-- a call itself, beside what is found in its parts
abbrev pub own_signs : Form → List Form → Table → List Ref → List Sign
own_signs (Named name) args table locals = by_name (Calls name) name locals
own_signs (MemberOf of word) args table locals = calls_member of word args table locals
own_signs _ args table locals = Breaks ∷ []

abbrev pub itself : Form → List Form → Found
itself of args at = own_signs of args at.table at.locals

-- whether what has this form takes an arrow that it calls
abbrev pub takes_function : Form → Table → Bool
takes_function (MemberOf of word) table = is_one_of table list_calls word
takes_function _ table = false

-- the first argument of a call on a list: the body of an arrow is evaluated
abbrev pub taken : Form → Found → Found
taken (Function found) signs = as_handed true found
taken _ signs = signs

abbrev pub first_taken : List Asked → Found
first_taken [] = nothing
first_taken (first ∷ more) = followed (taken first.form first.signs) (in_turn (map (λ arg. arg.signs) more))

abbrev pub arguments : Form → List Asked → Found
arguments of args at = if takes_function of at.table then first_taken args at else in_turn (map (λ arg. arg.signs) args) at

abbrev pub call : Asked → List Asked → Found
call of args = followed (itself of.form (map (λ arg. arg.form) args)) (followed of.signs (arguments of.form args))

-- ---- each form, with what is asked of its parts

-- an expression of no form that a call asks for
abbrev pub other : Found → Asked
other signs = record { form = Other; signs = signs }

abbrev pub expr_kind : ExprKind-F Part Found Asked Found Part Found Part Asked Found Part → Asked
expr_kind (ExprKind-F.Read name) = record { form = Named name; signs = reads name }
expr_kind (ExprKind-F.List items) = other (in_turn items)
expr_kind (ExprKind-F.Obj fields) = other (in_turn fields)
expr_kind (ExprKind-F.Template parts) = other (in_turn (map (λ part. part.signs) parts))
expr_kind (ExprKind-F.Arrow params body) = record { form = Function (inside (map named params) body); signs = as_handed false (inside (map named params) body) }
expr_kind (ExprKind-F.Assign target op value) = other (followed (sets target) value.signs)
expr_kind (ExprKind-F.Bump target up prefix) = other (sets target)
expr_kind (ExprKind-F.Chain first rest) = other (followed first.signs (in_turn rest))
expr_kind (ExprKind-F.Not of) = other of.signs
expr_kind (ExprKind-F.Minus of) = other of.signs
expr_kind (ExprKind-F.Choose test first second) = other (followed test.signs (followed first.signs second.signs))
expr_kind (ExprKind-F.Member of word) = record { form = MemberOf of.form word; signs = of.signs }
expr_kind (ExprKind-F.Index of index) = other (followed of.signs index.signs)
expr_kind (ExprKind-F.Call of args) = other (call of args)
expr_kind _ = other nothing

abbrev pub expr : Expr-F Part Found Asked Found Part Found Part Asked Found Part → Asked
expr e = e.kind

-- what declares nothing
abbrev pub plain : Found → Part
plain signs = record { declares = []; signs = signs }

abbrev pub together : List Part → Part
together [] = plain nothing
together (p ∷ ps) = record { declares = p.declares ++ (together ps).declares; signs = followed p.signs (together ps).signs }

-- a part that may be absent
abbrev pub optional : Option Part → Part
optional None = plain nothing
optional (Some p) = p

abbrev pub body : Body-F Part Found Asked Found Part Found Part Asked Found Part → Part
body (Body-F.Value value) = plain value.signs
body (Body-F.«Body::Block» stmts) = together stmts

abbrev pub entry : Entry-F Part Found Asked Found Part Found Part Asked Found Part → Found
entry (Entry-F.One value) = value.signs
entry (Entry-F.«Entry::Spread» value) = value.signs

abbrev pub field : Field-F Part Found Asked Found Part Found Part Asked Found Part → Found
field (Field-F.Pair key value) = value.signs
field (Field-F.«Field::Spread» value) = value.signs

abbrev pub link : Link-F Part Found Asked Found Part Found Part Asked Found Part → Found
link l = l.right.signs

abbrev pub arm : Arm-F Part Found Asked Found Part Found Part Asked Found Part → Found
arm a = followed a.test.signs a.body.signs

abbrev pub decl : Decl-F Part Found Asked Found Part Found Part Asked Found Part → Part
decl d = record { declares = named d.name ∷ []; signs = given d.first }

-- the head of a `for` and its body, in the order of the text
abbrev pub for_head : Part → Found → Found → Found → Found
for_head first test next body = inside [] (record { declares = first.declares; signs = followed first.signs (followed test (followed next body)) })

abbrev pub for_each : Ref → Found → Found → Found
for_each name list body = inside (name ∷ []) (plain (followed list body))

abbrev pub stmt_kind : StmtKind-F Part Found Asked Found Part Found Part Asked Found Part → Part
stmt_kind (StmtKind-F.«StmtKind::Block» stmts) = plain (inside [] (together stmts))
stmt_kind (StmtKind-F.Let decls) = together decls
stmt_kind (StmtKind-F.Const decls exported) = together decls
stmt_kind (StmtKind-F.If arms last) = plain (followed (in_turn arms) (optional last).signs)
stmt_kind (StmtKind-F.While test body) = plain (followed test.signs body.signs)
stmt_kind (StmtKind-F.For first test next body) = plain (for_head (optional first) (given test) (given next) body.signs)
stmt_kind (StmtKind-F.Each name fixed list body) = plain (for_each (named name) list.signs body.signs)
stmt_kind (StmtKind-F.Return value) = plain (given value)
stmt_kind (StmtKind-F.Eval value) = plain value.signs
stmt_kind (StmtKind-F.Import i) = record { declares = imported i; signs = nothing }
stmt_kind (StmtKind-F.Export decls) = together decls
stmt_kind (StmtKind-F.React of) = plain of.signs
stmt_kind (StmtKind-F.Func name exported params body) = record { declares = named name ∷ []; signs = as_handed false (inside (map named params) (together body)) }
stmt_kind _ = plain nothing

abbrev pub stmt : Stmt-F Part Found Asked Found Part Found Part Asked Found Part → Part
stmt s = s.kind

-- ---- whole trees

-- what is asked of an expression
abbrev pub asked : Expr → Asked
asked = fold-Expr Part Found Asked Found Part Found Part Asked Found Part body entry expr_kind field stmt_kind arm decl expr link stmt

abbrev pub kind_asked : ExprKind → Asked
kind_asked = fold-ExprKind Part Found Asked Found Part Found Part Asked Found Part body entry expr_kind field stmt_kind arm decl expr link stmt

abbrev pub body_part : Body → Part
body_part = fold-Body Part Found Asked Found Part Found Part Asked Found Part body entry expr_kind field stmt_kind arm decl expr link stmt

abbrev pub entry_signs : Entry → Found
entry_signs = fold-Entry Part Found Asked Found Part Found Part Asked Found Part body entry expr_kind field stmt_kind arm decl expr link stmt

abbrev pub field_signs : Field → Found
field_signs = fold-Field Part Found Asked Found Part Found Part Asked Found Part body entry expr_kind field stmt_kind arm decl expr link stmt

abbrev pub link_signs : Link → Found
link_signs = fold-Link Part Found Asked Found Part Found Part Asked Found Part body entry expr_kind field stmt_kind arm decl expr link stmt

abbrev pub arm_signs : Arm → Found
arm_signs = fold-Arm Part Found Asked Found Part Found Part Asked Found Part body entry expr_kind field stmt_kind arm decl expr link stmt

abbrev pub decl_part : Decl → Part
decl_part = fold-Decl Part Found Asked Found Part Found Part Asked Found Part body entry expr_kind field stmt_kind arm decl expr link stmt

abbrev pub stmt_kind_part : StmtKind → Part
stmt_kind_part = fold-StmtKind Part Found Asked Found Part Found Part Asked Found Part body entry expr_kind field stmt_kind arm decl expr link stmt

-- what is asked of a statement
abbrev pub stmt_part : Stmt → Part
stmt_part = fold-Stmt Part Found Asked Found Part Found Part Asked Found Part body entry expr_kind field stmt_kind arm decl expr link stmt

-- ---- functions

-- the signs of a function that a statement declares, and of one that is the value of an expression
abbrev pub function_signs : Table → Stmt → List Sign
function_signs table s = (stmt_part s).signs (place table false [])

abbrev pub arrow_signs : Table → Expr → List Sign
arrow_signs table e = (asked e).signs (place table false [])
