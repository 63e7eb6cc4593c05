-- What stands free in expressions and statements: the names that are written there and that no scope inside declares. A scope is a
-- function or an arrow with its parameters and body, another block, or a `for` with its head, and a name that it declares is its own
-- in the whole of it (ECMA-262, 9.1 and 14.2: a declaration is bound in its block).
use Rattle.std.specs.Prelude.{Bool, true, false, not, List, [], ◌∷◌, ◌++◌, Option, None, Some, map, filter, option_map, if◌then◌else◌}
use Rattle.std.specs.Option.{option_to_list}
use Rattle.sv_ast.specs.declared.names.Named.{Named}
use Rattle.sv_ast.specs.declared.names.Ref.{Ref}
use Rattle.sv_ast.specs.declared.names.Ref.TheVariants.{Plain}
use Rattle.sv_ast.specs.declared.operators.AssignOp.{AssignOp}
use Rattle.sv_ast.specs.declared.operators.AssignOp.TheVariants as op
use Rattle.sv_ast.specs.declared.script_tree.Arm.{Arm, Arm-F, fold-Arm}
use Rattle.sv_ast.specs.declared.script_tree.Body.{Body, Body-F, fold-Body}
use Rattle.sv_ast.specs.declared.script_tree.Decl.{Decl, Decl-F, fold-Decl}
use Rattle.sv_ast.specs.declared.script_tree.Entry.{Entry, Entry-F, fold-Entry}
use Rattle.sv_ast.specs.declared.script_tree.Expr.{Expr, Expr-F, fold-Expr}
use Rattle.sv_ast.specs.declared.script_tree.ExprKind.{ExprKind, ExprKind-F, fold-ExprKind}
use Rattle.sv_ast.specs.declared.script_tree.Field.{Field, Field-F, fold-Field}
use Rattle.sv_ast.specs.declared.script_tree.Link.{Link, Link-F, fold-Link}
use Rattle.sv_ast.specs.declared.script_tree.Stmt.{Stmt, Stmt-F, fold-Stmt}
use Rattle.sv_ast.specs.declared.script_tree.StmtKind.{StmtKind, StmtKind-F, fold-StmtKind}
use Rattle.sv_ast.specs.declared.script_tree.Import.{Import}
use Rattle.sv_names.specs.Distinct.{has, with_names, firsts}
use Rattle.sv_names.specs.declared.uses.Use.{Use}

-- what is found in a tree: the free uses of names in it, where the scopes around have some names
abbrev pub Found : Type 0
Found = List Ref → List Use

-- what a part of a tree declares in the scope round it, and what is found in it
pub record Parts : Type 0 where
  pub declares : List Ref
  pub uses : Found

abbrev pub nothing : Found
nothing scope = []

-- a use, where no scope around declares its name
abbrev pub used : Use → Found
used u scope = if has u.name scope then [] else u ∷ []

-- one behind the other
abbrev pub followed : Found → Found → Found
followed first second scope = first scope ++ second scope

abbrev pub in_turn : List Found → Found
in_turn [] = nothing
in_turn (found ∷ more) = followed found (in_turn more)

abbrev pub given : Option Found → Found
given None = nothing
given (Some found) = found

-- parts that declare nothing
abbrev pub plain : Found → Parts
plain found = record { declares = []; uses = found }

abbrev pub together : List Parts → Parts
together [] = plain nothing
together (p ∷ ps) = record { declares = p.declares ++ (together ps).declares; uses = followed p.uses (together ps).uses }

-- parts that may be absent
abbrev pub optional : Option Parts → Parts
optional None = plain nothing
optional (Some p) = p

-- a scope with some names and what stands in it
abbrev pub inside : List Ref → Parts → Found
inside names parts scope = parts.uses (with_names scope (names ++ parts.declares))

abbrev pub named : Named → Ref
named n = Plain n.name

-- ---- uses

abbrev pub read : Ref → Use
read name = record { name = name; is_read = true; is_set = false }

abbrev pub sets_alone : AssignOp → Bool
sets_alone op.Set = true
sets_alone _ = false

-- an assignment, which reads its name too where it is not by `=`
abbrev pub assigned : Ref → AssignOp → Use
assigned name op = record { name = name; is_read = not (sets_alone op); is_set = true }

abbrev pub bumped : Ref → Use
bumped name = record { name = name; is_read = true; is_set = true }

-- ---- each form, with what is found in its parts

abbrev pub expr_kind : ExprKind-F Parts Found Found Found Parts Found Parts Found Found Parts → Found
expr_kind (ExprKind-F.Read name) = used (read name)
expr_kind (ExprKind-F.List items) = in_turn items
expr_kind (ExprKind-F.Obj fields) = in_turn fields
expr_kind (ExprKind-F.Template parts) = in_turn parts
expr_kind (ExprKind-F.Arrow params body) = inside (map named params) body
expr_kind (ExprKind-F.Assign target op value) = followed (used (assigned target op)) value
expr_kind (ExprKind-F.Bump target up prefix) = used (bumped target)
expr_kind (ExprKind-F.Chain first rest) = followed first (in_turn rest)
expr_kind (ExprKind-F.Not of) = of
expr_kind (ExprKind-F.Minus of) = of
expr_kind (ExprKind-F.Choose test first second) = followed (followed test first) second
expr_kind (ExprKind-F.Member of word) = of
expr_kind (ExprKind-F.Index of at) = followed of at
expr_kind (ExprKind-F.Call of args) = followed of (in_turn args)
expr_kind _ = nothing

abbrev pub expr : Expr-F Parts Found Found Found Parts Found Parts Found Found Parts → Found
expr e = e.kind

abbrev pub body : Body-F Parts Found Found Found Parts Found Parts Found Found Parts → Parts
body (Body-F.Value value) = plain value
body (Body-F.«Body::Block» stmts) = together stmts

abbrev pub entry : Entry-F Parts Found Found Found Parts Found Parts Found Found Parts → Found
entry (Entry-F.One value) = value
entry (Entry-F.«Entry::Spread» value) = value

abbrev pub field : Field-F Parts Found Found Found Parts Found Parts Found Found Parts → Found
field (Field-F.Pair key value) = value
field (Field-F.«Field::Spread» value) = value

abbrev pub link : Link-F Parts Found Found Found Parts Found Parts Found Found Parts → Found
link l = l.right

abbrev pub arm : Arm-F Parts Found Found Found Parts Found Parts Found Found Parts → Found
arm a = followed a.test a.body.uses

abbrev pub decl : Decl-F Parts Found Found Found Parts Found Parts Found Found Parts → Parts
decl d = record { declares = named d.name ∷ []; uses = given d.first }

abbrev pub imported : Import → List Ref
imported i = option_to_list (option_map named i.whole) ++ map (λ spec. named spec.local) i.names

-- the head of a `for` and its body, in the order of the text
abbrev pub turns : Found → Found → Found → Found → Found
turns first test next body = followed (followed (followed first test) next) body

abbrev pub for_head : Parts → Found → Found → Found → Found
for_head first test next body = inside [] (record { declares = first.declares; uses = turns first.uses test next body })

abbrev pub for_each : Ref → Found → Found → Found
for_each name list body = inside (name ∷ []) (plain (followed list body))

abbrev pub stmt_kind : StmtKind-F Parts Found Found Found Parts Found Parts Found Found Parts → Parts
stmt_kind (StmtKind-F.«StmtKind::Block» stmts) = plain (inside [] (together stmts))
stmt_kind (StmtKind-F.Let decls) = together decls
stmt_kind (StmtKind-F.Const decls exported) = together decls
stmt_kind (StmtKind-F.If arms last) = plain (followed (in_turn arms) (optional last).uses)
stmt_kind (StmtKind-F.While test body) = plain (followed test body.uses)
stmt_kind (StmtKind-F.For first test next body) = plain (for_head (optional first) (given test) (given next) body.uses)
stmt_kind (StmtKind-F.Each name fixed list body) = plain (for_each (named name) list body.uses)
stmt_kind (StmtKind-F.Return value) = plain (given value)
stmt_kind (StmtKind-F.Eval value) = plain value
stmt_kind (StmtKind-F.Import i) = record { declares = imported i; uses = nothing }
stmt_kind (StmtKind-F.Export decls) = together decls
stmt_kind (StmtKind-F.React of) = plain of.uses
stmt_kind (StmtKind-F.Func name exported params body) =
    record { declares = named name ∷ []; uses = inside (map named params) (together body) }
stmt_kind _ = plain nothing

abbrev pub stmt : Stmt-F Parts Found Found Found Parts Found Parts Found Found Parts → Parts
stmt s = s.kind

-- ---- whole trees

abbrev pub kind_uses : ExprKind → Found
kind_uses = fold-ExprKind Parts Found Found Found Parts Found Parts Found Found Parts body entry expr_kind field stmt_kind arm decl expr link stmt

-- what is found in an expression
abbrev pub expr_uses : Expr → Found
expr_uses = fold-Expr Parts Found Found Found Parts Found Parts Found Found Parts body entry expr_kind field stmt_kind arm decl expr link stmt

abbrev pub body_parts : Body → Parts
body_parts = fold-Body Parts Found Found Found Parts Found Parts Found Found Parts body entry expr_kind field stmt_kind arm decl expr link stmt

abbrev pub entry_uses : Entry → Found
entry_uses = fold-Entry Parts Found Found Found Parts Found Parts Found Found Parts body entry expr_kind field stmt_kind arm decl expr link stmt

abbrev pub field_uses : Field → Found
field_uses = fold-Field Parts Found Found Found Parts Found Parts Found Found Parts body entry expr_kind field stmt_kind arm decl expr link stmt

abbrev pub link_uses : Link → Found
link_uses = fold-Link Parts Found Found Found Parts Found Parts Found Found Parts body entry expr_kind field stmt_kind arm decl expr link stmt

abbrev pub arm_uses : Arm → Found
arm_uses = fold-Arm Parts Found Found Found Parts Found Parts Found Found Parts body entry expr_kind field stmt_kind arm decl expr link stmt

abbrev pub decl_parts : Decl → Parts
decl_parts = fold-Decl Parts Found Found Found Parts Found Parts Found Found Parts body entry expr_kind field stmt_kind arm decl expr link stmt

abbrev pub stmt_kind_parts : StmtKind → Parts
stmt_kind_parts = fold-StmtKind Parts Found Found Found Parts Found Parts Found Found Parts body entry expr_kind field stmt_kind arm decl expr link stmt

-- what a statement declares in the scope round it, and what is found in it
abbrev pub stmt_parts : Stmt → Parts
stmt_parts = fold-Stmt Parts Found Found Found Parts Found Parts Found Found Parts body entry expr_kind field stmt_kind arm decl expr link stmt

-- ---- scopes

-- the names of a function or an arrow with some parameters, or of a block, which has none: each once
abbrev pub scope_of : List Named → Parts → List Ref
scope_of params parts = firsts (map named params ++ parts.declares)

-- the names of the head of a `for`, each once
abbrev pub head_of : Option Stmt → List Ref
head_of first = firsts (optional (option_map stmt_parts first)).declares

-- ---- names by first appearance

-- the names that stand free in a function or an arrow with some parameters
abbrev pub free_in : List Named → Parts → List Ref
free_in params parts = firsts (map (λ u. u.name) (inside (map named params) parts []))

-- the names that stand free in an expression
abbrev pub free_names : Expr → List Ref
free_names e = firsts (map (λ u. u.name) (expr_uses e []))

-- the names that a statement reads
abbrev pub read_names : Stmt → List Ref
read_names s = firsts (map (λ u. u.name) (filter (λ u. u.is_read) ((stmt_parts s).uses [])))

-- the names that a statement assigns
abbrev pub assigned_names : Stmt → List Ref
assigned_names s = firsts (map (λ u. u.name) (filter (λ u. u.is_set) ((stmt_parts s).uses [])))
