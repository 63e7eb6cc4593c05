-- What scripts do, by cases on their trees (ECMA-262, sections 13 and 14, in the subset that docs/language.md gives): each form does what the same
-- form of code does, and a name is looked up where it is read, assigned or declared. Functions are found on the way, each behind those in it.
use Rattle.std.specs.Prelude.{ℕ, Bool, false, List, [], ◌∷◌, ◌++◌, length, map, Option, Some, None, option_map, if◌then◌else◌}
use Rattle.sv_ast.specs.declared.names.Named.{Named}
use Rattle.sv_ast.specs.declared.names.Ref.{Ref}
use Rattle.sv_ast.specs.declared.names.Ref.TheVariants.{Plain, Store}
use Rattle.sv_ast.specs.declared.script_tree.Arm.{Arm as AnyArm, Arm-F, map-Arm, fold-Arm}
use Rattle.sv_ast.specs.declared.script_tree.Body.{Body as AnyBody, Body-F, map-Body, fold-Body}
use Rattle.sv_ast.specs.declared.script_tree.Decl.{Decl, Decl-F, map-Decl, fold-Decl}
use Rattle.sv_ast.specs.declared.script_tree.Entry.{Entry, Entry-F, map-Entry, fold-Entry}
use Rattle.sv_ast.specs.declared.script_tree.Expr.{Expr as Tree, Expr-F, map-Expr, fold-Expr}
use Rattle.sv_ast.specs.declared.script_tree.ExprKind.{ExprKind, ExprKind-F, map-ExprKind, fold-ExprKind}
use Rattle.sv_ast.specs.declared.script_tree.Field.{Field, Field-F, map-Field, fold-Field}
use Rattle.sv_ast.specs.declared.script_tree.Link.{Link as AnyLink, Link-F, map-Link, fold-Link}
use Rattle.sv_ast.specs.declared.script_tree.Stmt.{Stmt, Stmt-F, map-Stmt, fold-Stmt}
use Rattle.sv_ast.specs.declared.script_tree.StmtKind.{StmtKind, StmtKind-F, map-StmtKind, fold-StmtKind}
use Rattle.sv_base.specs.declared.names.Name.{Name}
use Rattle.sv_base.specs.declared.span.Span.{Span}
use Rattle.sv_code.specs.declared.code.CodeField.{CodeField-F}
use Rattle.sv_code.specs.declared.code.CodeItem.{CodeItem-F}
use Rattle.sv_code.specs.declared.code.CodeKind.{CodeKind-F}
use Rattle.sv_code.specs.declared.known.Known.{Known}
use Rattle.sv_code.specs.declared.known.Property.{Property}
use Rattle.sv_lower.specs.Does.{just, of_one, of_two, of_three, of_four, each, given, within, followed}
use Rattle.sv_lower.specs.Lower.{dispatches, store_of}
use Rattle.sv_lower.specs.Places.{width, place}
use Rattle.sv_lower.specs.Tops.{known_in, known_or, known_at, property}
use Rattle.sv_meaning.specs.Env.{Env, opened, given_value}
use Rattle.sv_meaning.specs.Outcome.{Meaning, Flow, Next, Broken, Continued, Returned, Done, and_then, kept, answered, counted}
use Rattle.sv_meaning.specs.Statements.{Doing, Silent, Counts, done, Arm, first_of, in_order, scoped, loop, each_step, for_step, value_or}
use Rattle.sv_meaning.specs.Values.{Puts, Link, Expr, plain, captured_after, holding, item_step, field_step, kind_step}
use Rattle.sv_names.specs.Locals.{name_of}
use Rattle.sv_names.specs.Uses.{Found, Parts, named, together, optional, scope_of}
use Rattle.sv_names.specs.Distinct.{firsts}
use Rattle.sv_names.specs.Uses as uses
use Rattle.sv_value.specs.Value.{Val}
use Rattle.sv_source.specs.Functions.{Acts, Body, Gives, Runs, Fun, Finds, teller, numbered}
use Rattle.sv_source.specs.Open.{stands}

-- ---- what is made of the parts of a script

-- an expression, as the names that are open tell
abbrev pub Sees : Type 0
Sees = Env → Expr

-- what it does: its names are looked up as it is evaluated
abbrev pub does : Sees → Meaning Val
does e env w = (e env).means env w

-- the expression where some names are open, as a part of another
abbrev pub at : Env → Sees → Expr
at env e = record (e env) { means = does e }

-- an expression of a script, and whether it is the name `createEventDispatcher`, a call of which makes a function
pub record Seen : Type 0 where
  pub sees : Acts Sees
  pub is_teller : Bool

-- a name that is declared: what it is at the top of the file, and the store cell that goes with it there; and its first value
pub record Declared : Type 0 where
  pub name : Named
  pub target : Known
  pub store : Option ℕ
  pub first : Option (Meaning Val)

-- a form of a statement: what it does where it stands; or what it declares; or what the name of a function is at the top of the file, and its
-- number; or the statement behind the mark of a reactive one
pub data Form : Type 0 where
  Acting : Doing → Form
  Declaring : List Declared → Form
  Naming : Known → ℕ → Form
  Reacting : Meaning Flow → Form

-- a declaration in a block or a function gives the local its value
abbrev pub declares : Declared → Meaning Flow
declares d env w = and_then (value_or d.first env w) (λ v env'. Done Next (given_value d.name.name.0 v env'))

-- a function, and a reactive statement, do nothing where they stand
abbrev pub doing : Form → Doing
doing (Acting d) = d
doing (Declaring ds) = Counts (λ s. in_order (map declares ds))
doing (Naming target n) = Silent
doing (Reacting m) = Silent

-- a statement with its place
pub record Line : Type 0 where
  pub span : Span
  pub form : Form

abbrev pub runs : Line → Meaning Flow
runs l = done (doing l.form) l.span

-- what is found in a tree, and what is made of it
pub record Told (P M : Type 0) : Type 0 where
  pub found : P
  pub means : M

abbrev pub all : {P M : Type 0} → List (Told P M) → List M
all parts = map (λ p. p.means) parts

abbrev pub all_found : {P M : Type 0} → List (Told P M) → List P
all_found parts = map (λ p. p.found) parts

abbrev pub perhaps : {P M : Type 0} → Option (Told P M) → Option M
perhaps part = option_map (λ p. p.means) part

abbrev pub perhaps_found : {P M : Type 0} → Option (Told P M) → Option P
perhaps_found part = option_map (λ p. p.found) part

abbrev pub BodyTold : Type 0
BodyTold = Told Parts (Finds Body)

abbrev pub EntryTold : Type 0
EntryTold = Told Found (Finds (Acts (Puts Val)))

abbrev pub KindTold : Type 0
KindTold = Told Found (Span → Finds Seen)

abbrev pub FieldTold : Type 0
FieldTold = Told Found (Finds (Acts (Puts (List ℕ × Val))))

abbrev pub StmtKindTold : Type 0
StmtKindTold = Told Parts (Finds (Acts Form))

abbrev pub ArmTold : Type 0
ArmTold = Told Found (Finds (Acts Arm))

abbrev pub DeclTold : Type 0
DeclTold = Told Parts (Finds (Acts Declared))

abbrev pub ExprTold : Type 0
ExprTold = Told Found (Finds Seen)

abbrev pub LinkTold : Type 0
LinkTold = Told Found (Finds (Acts Link))

abbrev pub StmtTold : Type 0
StmtTold = Told Parts (Finds (Acts Line))

-- ---- names

-- a name, as the names that are open tell
abbrev pub meant : Ref → Finds (Env → Known)
meant name tops locals before = ((λ env. stands tops env name), before)

-- what a name is at the top of the file
abbrev pub at_top : Ref → Finds Known
at_top name tops locals before = (known_or (known_in tops.known name) name, before)

-- the place of a name that an expression assigns: its front, or its end behind `++` and `--`
abbrev pub placed : Bool → Ref → Span → Finds Span
placed at_end name span tops locals before = (place at_end (width tops.names name) span, before)

-- what a word behind a point means
abbrev pub worded : Name → Finds Property
worded word tops locals before = (property tops word, before)

-- whether a name is `createEventDispatcher`, which functions are numbered by
abbrev pub tells : Ref → Finds Bool
tells name tops locals before = (dispatches (known_at tops locals name), before)

-- ---- expressions

abbrev pub Layer : Type 0
Layer = CodeKind-F (Puts (List ℕ × Val)) (Puts Val) (Span → Expr) Expr Link

-- a form of code at a place, where some names are open
abbrev pub form_at : Span → Acts (Env → Layer) → Acts Sees
form_at s layer g call owner env = kind_step g call owner (layer g call owner env) s

abbrev pub form : Span → Acts (Env → Layer) → Seen
form s layer = record { sees = form_at s layer; is_teller = false }

-- an arrow makes a function, which takes along the values that names have then
abbrev pub arrow_form : Span → ℕ × Fun → Seen
arrow_form s f = record { sees = λ g call owner env. plain s (λ env' w. kept env' (answered s (holding f.0 owner (captured_after [] f.1.takes env')) w)); is_teller = false }

-- a call of `createEventDispatcher` makes a function that dispatches events
abbrev pub dispatcher_form : Span → ℕ → Seen → List Seen → Seen
dispatcher_form s n of args = form s (λ g call owner env. CodeKind-F.Dispatcher n (at env (of.sees g call owner)).span (map (λ a. at env (a.sees g call owner)) args))

abbrev pub call_form : Span → Seen → List Seen → Seen
call_form s of args = form s (λ g call owner env. CodeKind-F.Call (at env (of.sees g call owner)) (map (λ a. at env (a.sees g call owner)) args))

abbrev pub called : Span → Seen × List Seen → List Fun → Seen × List Fun
called s c before = if c.0.is_teller then (dispatcher_form s (length before) c.0 c.1, before ++ teller ∷ []) else (call_form s c.0 c.1, before)

abbrev pub KindLayer : Type 0
KindLayer = ExprKind-F BodyTold EntryTold KindTold FieldTold StmtKindTold ArmTold DeclTold ExprTold LinkTold StmtTold

abbrev pub kind_means : KindLayer → Span → Finds Seen
kind_means ExprKind-F.Undefined s = just (form s (λ g call owner env. CodeKind-F.Undefined))
kind_means ExprKind-F.Null s = just (form s (λ g call owner env. CodeKind-F.Null))
kind_means (ExprKind-F.Bool b) s = just (form s (λ g call owner env. CodeKind-F.Bool b))
kind_means (ExprKind-F.Num n) s = just (form s (λ g call owner env. CodeKind-F.Num n))
kind_means (ExprKind-F.Text t) s = just (form s (λ g call owner env. CodeKind-F.Text t))
kind_means (ExprKind-F.Read name) s = of_two (λ k b. record { sees = form_at s (λ g call owner env. CodeKind-F.Read (k env)); is_teller = b }) (meant name) (tells name)
kind_means (ExprKind-F.List parts) s = of_one (λ ps. form s (λ g call owner env. CodeKind-F.List (map (λ p. p g call owner) ps))) (each (all parts))
kind_means (ExprKind-F.Obj fields) s = of_one (λ ps. form s (λ g call owner env. CodeKind-F.Object (map (λ p. p g call owner) ps))) (each (all fields))
kind_means (ExprKind-F.Template parts) s = of_one (λ es. form s (λ g call owner env. CodeKind-F.Template (map (λ e. at env (e.sees g call owner)) es))) (each (all parts))
kind_means (ExprKind-F.Arrow params body) s = of_one (arrow_form s) (numbered params body.found body.means)
kind_means (ExprKind-F.Assign name op e) s = of_three (λ k p x. form s (λ g call owner env. CodeKind-F.Assign (k env) p op (at env (x.sees g call owner)))) (meant name) (placed false name s) e.means
kind_means (ExprKind-F.Bump name up prefix) s = of_two (λ k p. form s (λ g call owner env. CodeKind-F.Bump (k env) p up prefix)) (meant name) (placed prefix name s)
kind_means (ExprKind-F.Chain e links) s = of_two (λ x ls. form s (λ g call owner env. CodeKind-F.Chain (at env (x.sees g call owner)) (map (λ l. l g call owner) ls))) e.means (each (all links))
kind_means (ExprKind-F.Not e) s = of_one (λ x. form s (λ g call owner env. CodeKind-F.Not (at env (x.sees g call owner)))) e.means
kind_means (ExprKind-F.Minus e) s = of_one (λ x. form s (λ g call owner env. CodeKind-F.Minus (at env (x.sees g call owner)))) e.means
kind_means (ExprKind-F.Choose test one two) s =
    of_three (λ x y z. form s (λ g call owner env. CodeKind-F.Choose (at env (x.sees g call owner)) (at env (y.sees g call owner)) (at env (z.sees g call owner)))) test.means one.means two.means
kind_means (ExprKind-F.Member e word) s = of_two (λ p x. form s (λ g call owner env. CodeKind-F.Member (at env (x.sees g call owner)) p)) (worded word) e.means
kind_means (ExprKind-F.Index e n) s = of_two (λ x y. form s (λ g call owner env. CodeKind-F.Index (at env (x.sees g call owner)) (at env (y.sees g call owner)))) e.means n.means
kind_means (ExprKind-F.Call e args) s = followed (of_two (λ x xs. (x, xs)) e.means (each (all args))) (called s)

abbrev pub entry_means : Entry-F BodyTold EntryTold KindTold FieldTold StmtKindTold ArmTold DeclTold ExprTold LinkTold StmtTold → Finds (Acts (Puts Val))
entry_means (Entry-F.One e) = of_one (λ x g call owner s made env w. item_step {E = Unit {0}} (CodeItem-F.One (at env (x.sees g call owner))) s made env w) e.means
entry_means (Entry-F.«Entry::Spread» e) = of_one (λ x g call owner s made env w. item_step {E = Unit {0}} (CodeItem-F.«CodeItem::Spread» (at env (x.sees g call owner))) s made env w) e.means

abbrev pub field_means : Field-F BodyTold EntryTold KindTold FieldTold StmtKindTold ArmTold DeclTold ExprTold LinkTold StmtTold → Finds (Acts (Puts (List ℕ × Val)))
field_means (Field-F.Pair key e) = of_one (λ x g call owner s made env w. field_step {E = Unit {0}} (CodeField-F.Pair key (at env (x.sees g call owner))) s made env w) e.means
field_means (Field-F.«Field::Spread» e) = of_one (λ x g call owner s made env w. field_step {E = Unit {0}} (CodeField-F.«CodeField::Spread» (at env (x.sees g call owner))) s made env w) e.means

abbrev pub link_means : Link-F BodyTold EntryTold KindTold FieldTold StmtKindTold ArmTold DeclTold ExprTold LinkTold StmtTold → Finds (Acts Link)
link_means l = of_one (λ x g call owner. record { op = l.op; right = does (x.sees g call owner) }) l.right.means

-- an expression takes a step before its parts
abbrev pub step_at : Span → Sees → Sees
step_at s e env = record (e env) { span = s; means = counted s (e env).means }

abbrev pub stepped : Span → Seen → Seen
stepped s x = record x { sees = λ g call owner. step_at s (x.sees g call owner) }

abbrev pub expr_means : Expr-F BodyTold EntryTold KindTold FieldTold StmtKindTold ArmTold DeclTold ExprTold LinkTold StmtTold → Finds Seen
expr_means e = of_one (stepped e.span) (e.kind.means e.span)

-- ---- statements

-- statements in turn
abbrev pub in_turn : List (Acts Line) → Acts (Meaning Flow)
in_turn ls g call owner = in_order (map (λ l. runs (l g call owner)) ls)

abbrev pub value_if : Option Seen → Acts (Option (Meaning Val))
value_if e g call owner = option_map (λ x. does (x.sees g call owner)) e

abbrev pub line_if : Option (Acts Line) → Acts (Option (Meaning Flow))
line_if l g call owner = option_map (λ x. runs (x g call owner)) l

abbrev pub body_means : Body-F BodyTold EntryTold KindTold FieldTold StmtKindTold ArmTold DeclTold ExprTold LinkTold StmtTold → Finds Body
body_means (Body-F.Value e) = of_one (λ x. Gives (λ g call owner. does (x.sees g call owner))) e.means
body_means (Body-F.«Body::Block» stmts) = of_one (λ ls. Runs (in_turn ls)) (each (all stmts))

abbrev pub decl_means : Decl-F BodyTold EntryTold KindTold FieldTold StmtKindTold ArmTold DeclTold ExprTold LinkTold StmtTold → Finds (Acts Declared)
decl_means d = of_three (λ k k' x g call owner. record { name = d.name; target = k; store = store_of k k'; first = value_if x g call owner })
    (at_top (Plain d.name.name)) (at_top (Store d.name.name)) (given (perhaps d.first))

abbrev pub arm_means : Arm-F BodyTold EntryTold KindTold FieldTold StmtKindTold ArmTold DeclTold ExprTold LinkTold StmtTold → Finds (Acts Arm)
arm_means a = of_two (λ x l g call owner. record { test = does (x.sees g call owner); body = runs (l g call owner) }) a.test.means a.body.means

abbrev pub acting : (Acts (Span → Meaning Flow)) → Acts Form
acting does_at g call owner = Acting (Counts (does_at g call owner))

abbrev pub declaring : List (Acts Declared) → Acts Form
declaring ds g call owner = Declaring (map (λ d. d g call owner) ds)

-- a block, where statements declare some names
abbrev pub block : List Ref → Finds (List (Acts Line)) → Finds (Acts Form)
block names stmts = of_one (λ ls. acting (λ g call owner s. scoped (opened (map name_of names)) (in_turn ls g call owner))) (within names stmts)

-- a `for`, whose head declares some names
abbrev pub for_means : List Ref → Finds (Option (Acts Line)) → Finds (Option Seen) → Finds (Option Seen) → Finds (Acts Line) → Finds (Acts Form)
for_means names first test next turn =
    within names (of_four (λ a b c l. acting (λ g call owner s. for_step s (opened (map name_of names)) (line_if a g call owner) (value_if b g call owner) (value_if c g call owner) (runs (l g call owner)))) first test next turn)

abbrev pub stmt_kind_means : StmtKind-F BodyTold EntryTold KindTold FieldTold StmtKindTold ArmTold DeclTold ExprTold LinkTold StmtTold → Finds (Acts Form)
stmt_kind_means StmtKind-F.Empty = just (acting (λ g call owner s. Done Next))
stmt_kind_means (StmtKind-F.«StmtKind::Block» stmts) = block (scope_of [] (together (all_found stmts))) (each (all stmts))
stmt_kind_means (StmtKind-F.Let decls) = of_one declaring (each (all decls))
stmt_kind_means (StmtKind-F.Const decls exported) = of_one declaring (each (all decls))
stmt_kind_means (StmtKind-F.If arms last) = of_two (λ bs l. acting (λ g call owner s. first_of (map (λ b. b g call owner) bs) (line_if l g call owner))) (each (all arms)) (given (perhaps last))
stmt_kind_means (StmtKind-F.While test turn) = of_two (λ x l. acting (λ g call owner s. loop s (Some (does (x.sees g call owner))) None (runs (l g call owner)))) test.means turn.means
stmt_kind_means (StmtKind-F.For first test next turn) =
    for_means (firsts (optional (perhaps_found first)).declares) (given (perhaps first)) (given (perhaps test)) (given (perhaps next)) turn.means
stmt_kind_means (StmtKind-F.Each x fixed list turn) = within (named x ∷ []) (of_two (λ e l. acting (λ g call owner s. each_step s x.name (does (e.sees g call owner)) (runs (l g call owner)))) list.means turn.means)
stmt_kind_means StmtKind-F.Break = just (acting (λ g call owner s. Done Broken))
stmt_kind_means StmtKind-F.Continue = just (acting (λ g call owner s. Done Continued))
stmt_kind_means (StmtKind-F.Return e) = of_one (λ x. acting (λ g call owner s env w. and_then (value_or (value_if x g call owner) env w) (λ v. Done (Returned v)))) (given (perhaps e))
stmt_kind_means (StmtKind-F.Eval e) = of_one (λ x. acting (λ g call owner s env w. and_then (does (x.sees g call owner) env w) (λ v. Done Next))) e.means
stmt_kind_means (StmtKind-F.Import i) = just (λ g call owner. Acting Silent)
stmt_kind_means (StmtKind-F.Export decls) = of_one declaring (each (all decls))
stmt_kind_means (StmtKind-F.React of) = of_one (λ l g call owner. Reacting (runs (l g call owner))) of.means
stmt_kind_means (StmtKind-F.Func name exported params stmts) =
    of_two (λ k f g call owner. Naming k f.0) (at_top (named name)) (numbered params (together (all_found stmts)) (of_one (λ ls. Runs (in_turn ls)) (each (all stmts))))

abbrev pub stmt_means : Stmt-F BodyTold EntryTold KindTold FieldTold StmtKindTold ArmTold DeclTold ExprTold LinkTold StmtTold → Finds (Acts Line)
stmt_means t = of_one (λ f g call owner. record { span = t.span; form = f g call owner }) t.kind.means

-- ---- each form, with what is found in it

abbrev pub body : Body-F BodyTold EntryTold KindTold FieldTold StmtKindTold ArmTold DeclTold ExprTold LinkTold StmtTold → BodyTold
body x = record { found = uses.body (map-Body BodyTold EntryTold KindTold FieldTold StmtKindTold ArmTold DeclTold ExprTold LinkTold StmtTold Parts Found Found Found Parts Found Parts Found Found Parts (λ p. p.found) (λ p. p.found) (λ p. p.found) (λ p. p.found) (λ p. p.found) (λ p. p.found) (λ p. p.found) (λ p. p.found) (λ p. p.found) (λ p. p.found) x); means = body_means x }

abbrev pub entry : Entry-F BodyTold EntryTold KindTold FieldTold StmtKindTold ArmTold DeclTold ExprTold LinkTold StmtTold → EntryTold
entry x = record { found = uses.entry (map-Entry BodyTold EntryTold KindTold FieldTold StmtKindTold ArmTold DeclTold ExprTold LinkTold StmtTold Parts Found Found Found Parts Found Parts Found Found Parts (λ p. p.found) (λ p. p.found) (λ p. p.found) (λ p. p.found) (λ p. p.found) (λ p. p.found) (λ p. p.found) (λ p. p.found) (λ p. p.found) (λ p. p.found) x); means = entry_means x }

abbrev pub expr_kind : ExprKind-F BodyTold EntryTold KindTold FieldTold StmtKindTold ArmTold DeclTold ExprTold LinkTold StmtTold → KindTold
expr_kind x = record { found = uses.expr_kind (map-ExprKind BodyTold EntryTold KindTold FieldTold StmtKindTold ArmTold DeclTold ExprTold LinkTold StmtTold Parts Found Found Found Parts Found Parts Found Found Parts (λ p. p.found) (λ p. p.found) (λ p. p.found) (λ p. p.found) (λ p. p.found) (λ p. p.found) (λ p. p.found) (λ p. p.found) (λ p. p.found) (λ p. p.found) x); means = kind_means x }

abbrev pub field : Field-F BodyTold EntryTold KindTold FieldTold StmtKindTold ArmTold DeclTold ExprTold LinkTold StmtTold → FieldTold
field x = record { found = uses.field (map-Field BodyTold EntryTold KindTold FieldTold StmtKindTold ArmTold DeclTold ExprTold LinkTold StmtTold Parts Found Found Found Parts Found Parts Found Found Parts (λ p. p.found) (λ p. p.found) (λ p. p.found) (λ p. p.found) (λ p. p.found) (λ p. p.found) (λ p. p.found) (λ p. p.found) (λ p. p.found) (λ p. p.found) x); means = field_means x }

abbrev pub stmt_kind : StmtKind-F BodyTold EntryTold KindTold FieldTold StmtKindTold ArmTold DeclTold ExprTold LinkTold StmtTold → StmtKindTold
stmt_kind x = record { found = uses.stmt_kind (map-StmtKind BodyTold EntryTold KindTold FieldTold StmtKindTold ArmTold DeclTold ExprTold LinkTold StmtTold Parts Found Found Found Parts Found Parts Found Found Parts (λ p. p.found) (λ p. p.found) (λ p. p.found) (λ p. p.found) (λ p. p.found) (λ p. p.found) (λ p. p.found) (λ p. p.found) (λ p. p.found) (λ p. p.found) x); means = stmt_kind_means x }

abbrev pub arm : Arm-F BodyTold EntryTold KindTold FieldTold StmtKindTold ArmTold DeclTold ExprTold LinkTold StmtTold → ArmTold
arm x = record { found = uses.arm (map-Arm BodyTold EntryTold KindTold FieldTold StmtKindTold ArmTold DeclTold ExprTold LinkTold StmtTold Parts Found Found Found Parts Found Parts Found Found Parts (λ p. p.found) (λ p. p.found) (λ p. p.found) (λ p. p.found) (λ p. p.found) (λ p. p.found) (λ p. p.found) (λ p. p.found) (λ p. p.found) (λ p. p.found) x); means = arm_means x }

abbrev pub decl : Decl-F BodyTold EntryTold KindTold FieldTold StmtKindTold ArmTold DeclTold ExprTold LinkTold StmtTold → DeclTold
decl x = record { found = uses.decl (map-Decl BodyTold EntryTold KindTold FieldTold StmtKindTold ArmTold DeclTold ExprTold LinkTold StmtTold Parts Found Found Found Parts Found Parts Found Found Parts (λ p. p.found) (λ p. p.found) (λ p. p.found) (λ p. p.found) (λ p. p.found) (λ p. p.found) (λ p. p.found) (λ p. p.found) (λ p. p.found) (λ p. p.found) x); means = decl_means x }

abbrev pub expr : Expr-F BodyTold EntryTold KindTold FieldTold StmtKindTold ArmTold DeclTold ExprTold LinkTold StmtTold → ExprTold
expr x = record { found = uses.expr (map-Expr BodyTold EntryTold KindTold FieldTold StmtKindTold ArmTold DeclTold ExprTold LinkTold StmtTold Parts Found Found Found Parts Found Parts Found Found Parts (λ p. p.found) (λ p. p.found) (λ p. p.found) (λ p. p.found) (λ p. p.found) (λ p. p.found) (λ p. p.found) (λ p. p.found) (λ p. p.found) (λ p. p.found) x); means = expr_means x }

abbrev pub link : Link-F BodyTold EntryTold KindTold FieldTold StmtKindTold ArmTold DeclTold ExprTold LinkTold StmtTold → LinkTold
link x = record { found = uses.link (map-Link BodyTold EntryTold KindTold FieldTold StmtKindTold ArmTold DeclTold ExprTold LinkTold StmtTold Parts Found Found Found Parts Found Parts Found Found Parts (λ p. p.found) (λ p. p.found) (λ p. p.found) (λ p. p.found) (λ p. p.found) (λ p. p.found) (λ p. p.found) (λ p. p.found) (λ p. p.found) (λ p. p.found) x); means = link_means x }

abbrev pub stmt : Stmt-F BodyTold EntryTold KindTold FieldTold StmtKindTold ArmTold DeclTold ExprTold LinkTold StmtTold → StmtTold
stmt x = record { found = uses.stmt (map-Stmt BodyTold EntryTold KindTold FieldTold StmtKindTold ArmTold DeclTold ExprTold LinkTold StmtTold Parts Found Found Found Parts Found Parts Found Found Parts (λ p. p.found) (λ p. p.found) (λ p. p.found) (λ p. p.found) (λ p. p.found) (λ p. p.found) (λ p. p.found) (λ p. p.found) (λ p. p.found) (λ p. p.found) x); means = stmt_means x }

-- ---- whole trees

abbrev pub body_told : AnyBody → BodyTold
body_told = fold-Body BodyTold EntryTold KindTold FieldTold StmtKindTold ArmTold DeclTold ExprTold LinkTold StmtTold body entry expr_kind field stmt_kind arm decl expr link stmt

abbrev pub entry_told : Entry → EntryTold
entry_told = fold-Entry BodyTold EntryTold KindTold FieldTold StmtKindTold ArmTold DeclTold ExprTold LinkTold StmtTold body entry expr_kind field stmt_kind arm decl expr link stmt

abbrev pub kind_told : ExprKind → KindTold
kind_told = fold-ExprKind BodyTold EntryTold KindTold FieldTold StmtKindTold ArmTold DeclTold ExprTold LinkTold StmtTold body entry expr_kind field stmt_kind arm decl expr link stmt

abbrev pub field_told : Field → FieldTold
field_told = fold-Field BodyTold EntryTold KindTold FieldTold StmtKindTold ArmTold DeclTold ExprTold LinkTold StmtTold body entry expr_kind field stmt_kind arm decl expr link stmt

abbrev pub stmt_kind_told : StmtKind → StmtKindTold
stmt_kind_told = fold-StmtKind BodyTold EntryTold KindTold FieldTold StmtKindTold ArmTold DeclTold ExprTold LinkTold StmtTold body entry expr_kind field stmt_kind arm decl expr link stmt

abbrev pub arm_told : AnyArm → ArmTold
arm_told = fold-Arm BodyTold EntryTold KindTold FieldTold StmtKindTold ArmTold DeclTold ExprTold LinkTold StmtTold body entry expr_kind field stmt_kind arm decl expr link stmt

abbrev pub decl_told : Decl → DeclTold
decl_told = fold-Decl BodyTold EntryTold KindTold FieldTold StmtKindTold ArmTold DeclTold ExprTold LinkTold StmtTold body entry expr_kind field stmt_kind arm decl expr link stmt

abbrev pub expr_told : Tree → ExprTold
expr_told = fold-Expr BodyTold EntryTold KindTold FieldTold StmtKindTold ArmTold DeclTold ExprTold LinkTold StmtTold body entry expr_kind field stmt_kind arm decl expr link stmt

abbrev pub link_told : AnyLink → LinkTold
link_told = fold-Link BodyTold EntryTold KindTold FieldTold StmtKindTold ArmTold DeclTold ExprTold LinkTold StmtTold body entry expr_kind field stmt_kind arm decl expr link stmt

abbrev pub stmt_told : Stmt → StmtTold
stmt_told = fold-Stmt BodyTold EntryTold KindTold FieldTold StmtKindTold ArmTold DeclTold ExprTold LinkTold StmtTold body entry expr_kind field stmt_kind arm decl expr link stmt

-- what an expression does, and the functions in it
abbrev pub of_tree : Tree → Finds Seen
of_tree e = (expr_told e).means

-- what a statement does, and the functions in it
abbrev pub of_line : Stmt → Finds (Acts Line)
of_line s = (stmt_told s).means

-- what statements do in turn, and the functions in them
abbrev pub of_lines : List Stmt → Finds (List (Acts Line))
of_lines stmts = each (all (map stmt_told stmts))
