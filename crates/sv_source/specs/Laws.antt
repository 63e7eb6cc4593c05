-- The laws: in a program whose functions are those of some pieces, code does what is told of its tree.
use Rattle.std.specs.Prelude.{◌≡◌, ℕ, List, [], ◌∷◌, ◌++◌, map}
use Rattle.sv_ast.specs.declared.names.Ref.{Ref}
use Rattle.sv_ast.specs.declared.script_tree.Expr.{Expr}
use Rattle.sv_ast.specs.declared.script_tree.Stmt.{Stmt}
use Rattle.sv_code.specs.Names.{Each}
use Rattle.sv_code.specs.declared.code.Code.{Code}
use Rattle.sv_code.specs.declared.functions.CodeStmt.{CodeStmt}
use Rattle.sv_code.specs.declared.parts.Part.{Part as AnyPart}
use Rattle.sv_code.specs.declared.program.Program.{Program}
use Rattle.sv_lower.specs.Lower.{of_expr, of_stmts}
use Rattle.sv_lower.specs.Tops.{Tops}
use Rattle.sv_meaning.specs.Calls.{Caller}
use Rattle.sv_meaning.specs.Env.{Env, shown}
use Rattle.sv_meaning.specs.Functions.{Mode}
use Rattle.sv_meaning.specs.Functions as code
use Rattle.sv_meaning.specs.Parts.{part_value}
use Rattle.sv_meaning.specs.Runs.{functions_set}
use Rattle.sv_meaning.specs.Runs as code_runs
use Rattle.sv_meaning.specs.Sight.{Ground}
use Rattle.sv_meaning.specs.Statements.{run_all}
use Rattle.sv_meaning.specs.Values.{value}
use Rattle.sv_value.specs.Value.{Val}
use Rattle.sv_view.specs.Level.{View}
use Rattle.sv_world.specs.declared.world.World.{World}
use Rattle.sv_source.specs.Functions.{Acts, caller}
use Rattle.sv_source.specs.Programs.{Piece, Script, Part, IsProper, codes, functions, Opens}
use Rattle.sv_source.specs.Script.{Seen, Line, does, in_turn, of_tree, of_lines}
use Rattle.sv_source.specs.Tops.{forms_set, script, reacts, code_reacts, lines, part_means}

-- the code of an expression, and what is told of it
abbrev pub part_code : List Piece → Tops → List Ref → Expr → Code
part_code before tops locals e = (of_expr e tops locals (codes before)).0

abbrev pub part_told : List Piece → Tops → List Ref → Expr → Seen
part_told before tops locals e = (of_tree e tops locals (functions before)).0

-- the same of a script
abbrev pub script_code : List Piece → Tops → List Stmt → List CodeStmt
script_code before tops stmts = (of_stmts stmts tops [] (codes before)).0

abbrev pub script_told : List Piece → Tops → List Stmt → List (Acts Line)
script_told before tops stmts = (of_lines stmts tops [] (functions before)).0

-- wherever its names are open, an expression's code does what its tree does
abbrev pub SameExpressions : Type 0
SameExpressions = (before after : List Piece) (tops : Tops) (locals : List Ref) (e : Expr) → Each IsProper (before ++ Part tops locals e ∷ after) → (g : Ground) (call : Caller) (owner : ℕ) → g.program.functions ≡ codes (before ++ Part tops locals e ∷ after)
    → (env : Env) (w : World) → Opens env locals → value g call owner (part_code before tops locals e) env w ≡ does ((part_told before tops locals e).sees g call owner) env w

-- so does the code of statements in turn
abbrev pub SameStatements : Type 0
SameStatements = (before after : List Piece) (tops : Tops) (stmts : List Stmt) → Each IsProper (before ++ Script tops stmts ∷ after) → (g : Ground) (call : Caller) (owner : ℕ) → g.program.functions ≡ codes (before ++ Script tops stmts ∷ after)
    → (w : World) → run_all g call owner (script_code before tops stmts) [] w ≡ in_turn (script_told before tops stmts) g call owner [] w

-- a function value, called, does what the function of its number does that is written there
abbrev pub SameCalls : Type 0
SameCalls = (pieces : List Piece) → Each IsProper pieces → (mode : Mode) (g : Ground) → g.program.functions ≡ codes pieces → (room : ℕ) → code.caller mode g room ≡ caller (functions pieces) mode g room

-- a script at the top of a file does the same, sets the same functions, and each of its statements does the same behind the mark of a reactive one
pub record SameScript (before : List Piece) (p : Program) (pieces : List Piece) (tops : Tops) (stmts : List Stmt) (owner : ℕ) : Type 0 where
  pub ends : (props : List (ℕ × Val)) (w : World) → code_runs.script p owner props (script_code before tops stmts) w ≡ script owner props (lines (functions pieces) p owner (script_told before tops stmts)) w
  pub sets : (w : World) → functions_set owner (script_code before tops stmts) w ≡ forms_set owner (lines (functions pieces) p owner (script_told before tops stmts)) w
  pub behind : map (code_reacts p owner) (script_code before tops stmts) ≡ map reacts (lines (functions pieces) p owner (script_told before tops stmts))

abbrev pub SameScripts : Type 0
SameScripts = (before after : List Piece) (tops : Tops) (stmts : List Stmt) → Each IsProper (before ++ Script tops stmts ∷ after) → (p : Program) → p.functions ≡ codes (before ++ Script tops stmts ∷ after)
    → (owner : ℕ) → SameScript before p (before ++ Script tops stmts ∷ after) tops stmts owner

-- the value of a part of markup, such as a handler, is that of its tree, on each view that has the locals of the scopes around
abbrev pub SameParts : Type 0
SameParts = (before after : List Piece) (tops : Tops) (locals : List Ref) (e : Expr) → Each IsProper (before ++ Part tops locals e ∷ after) → (p : Program) → p.functions ≡ codes (before ++ Part tops locals e ∷ after)
    → (v : View) (part : AnyPart) → part.code ≡ part_code before tops locals e → Opens (shown v.own.locals) locals → part_value p v part ≡ part_means (functions (before ++ Part tops locals e ∷ after)) p v part.arrows (part_told before tops locals e)
