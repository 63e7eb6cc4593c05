-- Scripts and parts of markup in a program whose functions are those of some pieces.
use Rattle.std.proofs.Common.{◌≡◌, ℕ, List, [], ◌∷◌, ◌++◌, map, ap, ◌∙◌}
use Rattle.sv_ast.specs.declared.names.Ref.{Ref}
use Rattle.sv_ast.specs.declared.script_tree.Expr.{Expr}
use Rattle.sv_ast.specs.declared.script_tree.Stmt.{Stmt}
use Rattle.sv_code.specs.Names.{Each}
use Rattle.sv_code.specs.declared.code.Code.{Code}
use Rattle.sv_code.specs.declared.functions.CodeStmt.{CodeStmt}
use Rattle.sv_code.specs.declared.parts.Part.{Part as AnyPart}
use Rattle.sv_code.specs.declared.program.Program.{Program}
use Rattle.sv_lower.specs.Tops.{Tops}
use Rattle.sv_meaning.specs.Calls.{Caller}
use Rattle.sv_meaning.specs.Derived.{running}
use Rattle.sv_meaning.specs.Env.{shown}
use Rattle.sv_meaning.specs.Functions.{silent}
use Rattle.sv_meaning.specs.Functions as code
use Rattle.sv_meaning.specs.Parts.{ground, part_value, part_world, result_of}
use Rattle.sv_meaning.specs.Runs.{functions_set, inner, world_ground}
use Rattle.sv_meaning.specs.Runs as code_runs
use Rattle.sv_meaning.specs.Sight.{Ground}
use Rattle.sv_meaning.specs.Values.{value}
use Rattle.sv_meaning.specs.declared.limits.TheConstants.{CALL_LIMIT}
use Rattle.sv_view.specs.Level.{View}
use Rattle.sv_source.specs.Functions.{Acts, caller}
use Rattle.sv_source.specs.Laws.{part_code, part_told, script_code, script_told, SameScript}
use Rattle.sv_source.specs.Programs.{Piece, Script, Part, IsProper, codes, functions, Opens}
use Rattle.sv_source.specs.Script.{Line, Seen, does}
use Rattle.sv_source.specs.Tops.{forms_set, reacts, calls, lines, part_means}
use Rattle.sv_source.specs.Tops as script
use Rattle.sv_source.proofs.Alike.{LineAlike}
use Rattle.sv_source.proofs.Programs.{calls_same, lines_alike, tree_same}
use Rattle.sv_source.proofs.Tables.{Beside}
use Rattle.sv_source.proofs.Tops.{told_lines, script_same, sets_same, behind_all_same}

pub scripts_same : (before after : List Piece) (tops : Tops) (stmts : List Stmt) → Each IsProper (before ++ Script tops stmts ∷ after) → (p : Program) → p.functions ≡ codes (before ++ Script tops stmts ∷ after)
    → (owner : ℕ) → SameScript before p (before ++ Script tops stmts ∷ after) tops stmts owner
scripts_same before after tops stmts h p is owner =
    let pieces : List Piece = before ++ Script tops stmts ∷ after in
    let code : List CodeStmt = script_code before tops stmts in
    let told : List (Acts Line) = script_told before tops stmts in
    let alike : Beside (LineAlike (codes pieces) [] []) code told = lines_alike before after tops stmts h in
    let same : code_runs.calls p ≡ calls (functions pieces) p = calls_same pieces h (running p) (world_ground p) is CALL_LIMIT in
    record {
      ends = λ props w. script_same (codes pieces) p owner is props code told alike w ∙ ap (λ (c : Caller). script.script owner props (told_lines (codes pieces) p owner is c told) w) same;
      sets = λ w. sets_same (codes pieces) p owner is code told alike w ∙ ap (λ (c : Caller). forms_set owner (told_lines (codes pieces) p owner is c told) w) same;
      behind = behind_all_same (codes pieces) p owner is code told alike ∙ ap (λ (c : Caller). map reacts (told_lines (codes pieces) p owner is c told)) same;
    }

pub parts_same : (before after : List Piece) (tops : Tops) (locals : List Ref) (e : Expr) → Each IsProper (before ++ Part tops locals e ∷ after) → (p : Program) → p.functions ≡ codes (before ++ Part tops locals e ∷ after)
    → (v : View) (part : AnyPart) → part.code ≡ part_code before tops locals e → Opens (shown v.own.locals) locals → part_value p v part ≡ part_means (functions (before ++ Part tops locals e ∷ after)) p v part.arrows (part_told before tops locals e)
parts_same before after tops locals e h p is v part of o =
    let pieces : List Piece = before ++ Part tops locals e ∷ after in
    let g : Ground = ground p v part.arrows in
    let told : Seen = part_told before tops locals e in
    let same : code.caller silent g CALL_LIMIT ≡ caller (functions pieces) silent g CALL_LIMIT = calls_same pieces h silent g is CALL_LIMIT in
    ap (λ (c : Code). result_of (value g (code.caller silent g CALL_LIMIT) v.own.inst c (shown v.own.locals) part_world)) of
    ∙ ap result_of (tree_same before after tops locals e h g (code.caller silent g CALL_LIMIT) v.own.inst is (shown v.own.locals) part_world o)
    ∙ ap (λ (c : Caller). result_of (does (told.sees g c v.own.inst) (shown v.own.locals) part_world)) same
