-- Expressions that may stand in markup: their evaluation assigns nothing, and calls nothing but what reads no variable of its own.
-- Others have places where they aren't pure: the assignments, and the calls that may not be made. The bodies of arrows that an
-- expression only makes are not evaluated with it, and have none. Scopes are those of names (ECMA-262, 9.1 and 14.2):
-- a name that a scope declares is its own in the whole of it, and hides what is known by that name.
use Rattle.std.specs.Prelude.{Bool, true, false, not, ◌&&◌, ◌||◌, List, [], ◌∷◌, ◌++◌, Option, None, Some, map, filter}
use Rattle.std.specs.Option.{option_to_list}
use Rattle.sv_base.specs.BuiltIn.{list_calls, value_calls, math_functions}
use Rattle.sv_base.specs.Names.{Table, is_text, is_one_of}
use Rattle.sv_base.specs.declared.built_in.TheConstants.{MATH}
use Rattle.sv_base.specs.declared.names.Name.{Name}
use Rattle.sv_base.specs.declared.span.Span.{Span}
use Rattle.sv_ast.specs.declared.names.Ref.{Ref}
use Rattle.sv_ast.specs.declared.names.Ref.TheVariants.{Plain}
use Rattle.sv_ast.specs.declared.script_tree.Arm.{Arm, Arm-F, fold-Arm}
use Rattle.sv_ast.specs.declared.script_tree.Body.{Body, Body-F, fold-Body}
use Rattle.sv_ast.specs.declared.script_tree.Decl.{Decl, Decl-F, fold-Decl}
use Rattle.sv_ast.specs.declared.script_tree.Entry.{Entry, Entry-F, fold-Entry}
use Rattle.sv_ast.specs.declared.script_tree.Expr.{Expr, Expr-F, fold-Expr}
use Rattle.sv_ast.specs.declared.script_tree.ExprKind.{ExprKind, ExprKind-F, fold-ExprKind}
use Rattle.sv_ast.specs.declared.script_tree.Field.{Field, Field-F, fold-Field}
use Rattle.sv_ast.specs.declared.script_tree.Link.{Link, Link-F, fold-Link}
use Rattle.sv_ast.specs.declared.script_tree.Stmt.{Stmt, Stmt-F, fold-Stmt}
use Rattle.sv_ast.specs.declared.script_tree.StmtKind.{StmtKind, StmtKind-F, fold-StmtKind}
use Rattle.sv_names.specs.Distinct.{has}
use Rattle.sv_names.specs.Uses.{named, imported}
use Rattle.sv_purity.specs.declared.scope.Known.{Known}
use Rattle.sv_purity.specs.First.{is_empty}

-- the places of a part of a tree that aren't pure, in the order of the text, where the part was read with a table of names, and
-- some names are known
abbrev pub Places : Type 0
Places = Table → Known → List Span

-- a question about a part of a tree
abbrev pub Test : Type 0
Test = Table → Known → Bool

-- the form of an expression, as far as a call asks: a name, a member of something, an arrow with the places of its body
pub data Form : Type 0 where
  Named : Ref → Form
  MemberOf : Form → Name → Form
  Function : Places → Form
  Other : Form

-- what is asked of an expression: its form, and the places of its evaluation
pub record Asked : Type 0 where
  pub form : Form
  pub places : Places

-- what is asked of a form of expression, where the expression stands at a span
abbrev pub Placed : Type 0
Placed = Span → Asked

-- what is asked of a statement: the names that it declares in the scope round it, and the places of what it does
pub record Part : Type 0 where
  pub declares : List Ref
  pub places : Places

-- ---- places of more than one part

abbrev pub nowhere : Places
nowhere table known = []

abbrev pub here : Span → Places
here at table known = at ∷ []

abbrev pub both : Places → Places → Places
both first second table known = first table known ++ second table known

abbrev pub each : List Places → Places
each [] = nowhere
each (places ∷ more) = both places (each more)

-- an expression that may be absent
abbrev pub given : Option Asked → Places
given None = nowhere
given (Some value) = value.places

-- some names without others
abbrev pub without : List Ref → List Ref → List Ref
without names all = filter (λ name. not (has name names)) all

-- what is known where a scope declares some names, which hide it
abbrev pub hiding : List Ref → Known → Known
hiding names known = record { functions = without names known.functions; conversions = without names known.conversions }

-- a scope with some names and what stands in it
abbrev pub inside : List Ref → Part → Places
inside names part table known = part.places table (hiding (names ++ part.declares) known)

-- ---- calls

-- the name `Math`
abbrev pub is_math : Form → Table → Bool
is_math (Named (Plain name)) table = is_text table MATH.now name
is_math _ table = false

-- what may be handed to a call on a list as its function: the name of a pure function, or an arrow whose body is pure
abbrev pub is_function : Form → Test
is_function (Named name) table known = has name known.functions
is_function (Function body) table known = is_empty (body table known)
is_function _ table known = false

-- the first of some arguments is a pure function
abbrev pub begins_with_function : List Form → Test
begins_with_function [] table known = false
begins_with_function (first ∷ _) table known = is_function first table known

-- the call of a member is one on a list or a text, or one of `Math`
abbrev pub may_call_member : Form → Name → List Form → Test
may_call_member of word args table known =
    is_one_of table value_calls word || (is_one_of table list_calls word && begins_with_function args table known) || (is_math of table && is_one_of table math_functions word)

-- a name may be called: that of a pure function, or one that may be called alone
abbrev pub is_callable : Known → Ref → Bool
is_callable known name = has name known.functions || has name known.conversions

-- what has this form may be called with arguments of these forms
abbrev pub may_call : Form → List Form → Test
may_call (Named name) args table known = is_callable known name
may_call (MemberOf of word) args table known = may_call_member of word args table known
may_call _ args table known = false

-- what a call has of its own: nothing where it may be made
abbrev pub own_place : Bool → Span → List Span
own_place true at = []
own_place false at = at ∷ []

abbrev pub unless : Test → Span → Places
unless test at table known = own_place (test table known) at

-- a call: its own place, and those of its parts
abbrev pub call : Span → Asked → List Asked → Places
call at of args = both (unless (may_call of.form (map (λ arg. arg.form) args)) at) (both of.places (each (map (λ arg. arg.places) args)))

-- ---- each form, with what is asked of its parts

-- an expression of no form that a call asks for
abbrev pub other : Places → Asked
other places = record { form = Other; places = places }

abbrev pub expr_kind : ExprKind-F Part Places Placed Places Part Places Part Asked Places Part → Placed
expr_kind (ExprKind-F.Read name) at = record { form = Named name; places = nowhere }
expr_kind (ExprKind-F.List items) at = other (each items)
expr_kind (ExprKind-F.Obj fields) at = other (each fields)
expr_kind (ExprKind-F.Template parts) at = other (each (map (λ part. part.places) parts))
expr_kind (ExprKind-F.Arrow params body) at = record { form = Function (inside (map named params) body); places = nowhere }
expr_kind (ExprKind-F.Assign target op value) at = other (both (here at) value.places)
expr_kind (ExprKind-F.Bump target up prefix) at = other (here at)
expr_kind (ExprKind-F.Chain first rest) at = other (both first.places (each rest))
expr_kind (ExprKind-F.Not of) at = other of.places
expr_kind (ExprKind-F.Minus of) at = other of.places
expr_kind (ExprKind-F.Choose test first second) at = other (both test.places (both first.places second.places))
expr_kind (ExprKind-F.Member of word) at = record { form = MemberOf of.form word; places = of.places }
expr_kind (ExprKind-F.Index of index) at = other (both of.places index.places)
expr_kind (ExprKind-F.Call of args) at = other (call at of args)
expr_kind _ at = other nowhere

abbrev pub expr : Expr-F Part Places Placed Places Part Places Part Asked Places Part → Asked
expr e = e.kind e.span

-- what declares nothing
abbrev pub plain : Places → Part
plain places = record { declares = []; places = places }

abbrev pub together : List Part → Part
together [] = plain nowhere
together (p ∷ ps) = record { declares = p.declares ++ (together ps).declares; places = both p.places (together ps).places }

abbrev pub body : Body-F Part Places Placed Places Part Places Part Asked Places Part → Part
body (Body-F.Value value) = plain value.places
body (Body-F.«Body::Block» stmts) = together stmts

abbrev pub entry : Entry-F Part Places Placed Places Part Places Part Asked Places Part → Places
entry (Entry-F.One value) = value.places
entry (Entry-F.«Entry::Spread» value) = value.places

abbrev pub field : Field-F Part Places Placed Places Part Places Part Asked Places Part → Places
field (Field-F.Pair key value) = value.places
field (Field-F.«Field::Spread» value) = value.places

abbrev pub link : Link-F Part Places Placed Places Part Places Part Asked Places Part → Places
link l = l.right.places

abbrev pub arm : Arm-F Part Places Placed Places Part Places Part Asked Places Part → Places
arm a = both a.test.places a.body.places

abbrev pub decl : Decl-F Part Places Placed Places Part Places Part Asked Places Part → Part
decl d = record { declares = named d.name ∷ []; places = given d.first }

-- the head of a `for` and its body
abbrev pub for_head : Part → Places → Places → Places → Places
for_head first test next body = inside [] (record { declares = first.declares; places = both first.places (both test (both next body)) })

-- a statement; a function that one declares is only made
abbrev pub stmt_kind : StmtKind-F Part Places Placed Places Part Places Part Asked Places Part → Part
stmt_kind (StmtKind-F.«StmtKind::Block» stmts) = plain (inside [] (together stmts))
stmt_kind (StmtKind-F.Let decls) = together decls
stmt_kind (StmtKind-F.Const decls exported) = together decls
stmt_kind (StmtKind-F.If arms last) = plain (both (each arms) (together (option_to_list last)).places)
stmt_kind (StmtKind-F.While test body) = plain (both test.places body.places)
stmt_kind (StmtKind-F.For first test next body) = plain (for_head (together (option_to_list first)) (given test) (given next) body.places)
stmt_kind (StmtKind-F.Each name fixed list body) = plain (inside (named name ∷ []) (plain (both list.places body.places)))
stmt_kind (StmtKind-F.Return value) = plain (given value)
stmt_kind (StmtKind-F.Eval value) = plain value.places
stmt_kind (StmtKind-F.Import i) = record { declares = imported i; places = nowhere }
stmt_kind (StmtKind-F.Export decls) = together decls
stmt_kind (StmtKind-F.React of) = plain of.places
stmt_kind (StmtKind-F.Func name exported params body) = record { declares = named name ∷ []; places = nowhere }
stmt_kind _ = plain nowhere

abbrev pub stmt : Stmt-F Part Places Placed Places Part Places Part Asked Places Part → Part
stmt s = s.kind

-- ---- whole trees

-- what is asked of an expression
abbrev pub asked : Expr → Asked
asked = fold-Expr Part Places Placed Places Part Places Part Asked Places Part body entry expr_kind field stmt_kind arm decl expr link stmt

abbrev pub kind_asked : ExprKind → Placed
kind_asked = fold-ExprKind Part Places Placed Places Part Places Part Asked Places Part body entry expr_kind field stmt_kind arm decl expr link stmt

abbrev pub body_part : Body → Part
body_part = fold-Body Part Places Placed Places Part Places Part Asked Places Part body entry expr_kind field stmt_kind arm decl expr link stmt

abbrev pub entry_places : Entry → Places
entry_places = fold-Entry Part Places Placed Places Part Places Part Asked Places Part body entry expr_kind field stmt_kind arm decl expr link stmt

abbrev pub field_places : Field → Places
field_places = fold-Field Part Places Placed Places Part Places Part Asked Places Part body entry expr_kind field stmt_kind arm decl expr link stmt

abbrev pub link_places : Link → Places
link_places = fold-Link Part Places Placed Places Part Places Part Asked Places Part body entry expr_kind field stmt_kind arm decl expr link stmt

abbrev pub arm_places : Arm → Places
arm_places = fold-Arm Part Places Placed Places Part Places Part Asked Places Part body entry expr_kind field stmt_kind arm decl expr link stmt

abbrev pub decl_part : Decl → Part
decl_part = fold-Decl Part Places Placed Places Part Places Part Asked Places Part body entry expr_kind field stmt_kind arm decl expr link stmt

abbrev pub stmt_kind_part : StmtKind → Part
stmt_kind_part = fold-StmtKind Part Places Placed Places Part Places Part Asked Places Part body entry expr_kind field stmt_kind arm decl expr link stmt

-- what is asked of a statement
abbrev pub stmt_part : Stmt → Part
stmt_part = fold-Stmt Part Places Placed Places Part Places Part Asked Places Part body entry expr_kind field stmt_kind arm decl expr link stmt

-- the places of an expression that aren't pure, where it was read with a table of names, and some names are known
abbrev pub impurities : Table → Expr → Known → List Span
impurities table e known = (asked e).places table known

-- an expression is pure
abbrev pub is_pure : Table → Expr → Known → Bool
is_pure table e known = is_empty (impurities table e known)
