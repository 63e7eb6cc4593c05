-- The reactive statements of a compiled script.
use Rattle.std.proofs.Common.{◌≡◌, ℕ, zero, suc, ◌+◌, Bool, true, false, List, [], ◌∷◌, Option, None, Some, length, option_map, refl, sym, ap, subst, arith}
use Rattle.std.specs.List.{All}
use Rattle.std.specs.Option.{option_to_list}
use Rattle.std.specs.Prelude.{slice_get, if◌then◌else◌}
use Rattle.std.proofs.lemmas.List.Elements.{All-nil, All-cons, All-append, All-head, All-tail}
use Rattle.std.proofs.lemmas.Option.{none-some, same_Some}
use Rattle.sv_ast.specs.declared.names.Ref.{Ref}
use Rattle.sv_ast.specs.declared.script_tree.Body.{Body}
use Rattle.sv_ast.specs.declared.script_tree.Entry.{Entry}
use Rattle.sv_ast.specs.declared.script_tree.ExprKind.{ExprKind}
use Rattle.sv_ast.specs.declared.script_tree.Field.{Field}
use Rattle.sv_ast.specs.declared.script_tree.Arm.{Arm}
use Rattle.sv_ast.specs.declared.script_tree.Decl.{Decl}
use Rattle.sv_ast.specs.declared.script_tree.Expr.{Expr}
use Rattle.sv_ast.specs.declared.script_tree.Link.{Link}
use Rattle.sv_ast.specs.declared.script_tree.Stmt.{Stmt, fold_out-Stmt}
use Rattle.sv_ast.specs.declared.script_tree.StmtKind.{StmtKind, StmtKind-F, out-StmtKind, map-StmtKind, fold_out-StmtKind}
use Rattle.sv_base.specs.declared.span.Span.{Span}
use Rattle.sv_code.specs.Compiled.{is_react, is_reactive as is_reactive_code, IsRun}
use Rattle.sv_code.specs.declared.functions.CodeStmt.{CodeStmt}
use Rattle.sv_code.specs.declared.functions.CodeStmtKind.TheVariants as stmt_code
use Rattle.sv_code.specs.declared.functions.CodeStmtKind
use Rattle.sv_code.specs.declared.functions.CodeStmtKind.{out-CodeStmtKind}
use Rattle.sv_code.specs.declared.functions.Function.{Function}
use Rattle.sv_check.specs.Waiting.{is_reactive, is_reactive_layer}
use Rattle.sv_fragments.proofs.Looking.{numbers_within}
use Rattle.sv_lower.specs.Lower.{BodyMade, EntryMade, KindMade, FieldMade, StmtKindMade, ArmMade, DeclMade, ExprMade, LinkMade, StmtMade, body, entry, expr_kind, field, stmt_kind, arm, decl, expr, link, stmt, body_made, entry_made, kind_made, field_made, stmt_kind_made, arm_made, decl_made, expr_made, link_made, stmt_made, stmt_kind_code, of_stmt, of_stmts}
use Rattle.sv_lower.specs.Tops.{Tops}
use Rattle.sv_names.specs.Uses.{read_names, assigned_names}
use Rattle.sv_imports.specs.Imports.{StmtLayer}
use Rattle.sv_compile.specs.Runs.{reactives_from, reactives, run, run_at, runs}

-- ---- statements stay in their places

pub record CodeAt (stmts : List Stmt) (tops : Tops) (locals : List Ref) (before : List Function) (n : ℕ) (s : Stmt) : Type 0 where
  pub functions : List Function
  pub is : slice_get (of_stmts stmts tops locals before).0 n ≡ Some (of_stmt s tops locals functions).0

pub code_at : (stmts : List Stmt) (tops : Tops) (locals : List Ref) (before : List Function) (n : ℕ) (s : Stmt) → slice_get stmts n ≡ Some s → CodeAt stmts tops locals before n s
code_at [] tops locals before n s is = absurd (none-some s is)
code_at (x ∷ stmts) tops locals before zero s is = record { functions = before; is = ap (λ (z : Stmt). Some (of_stmt z tops locals before).0) (same_Some x s is) }
code_at (x ∷ stmts) tops locals before (suc n) s is = let later = code_at stmts tops locals (of_stmt x tops locals before).1 n s is in record { functions = later.functions; is = later.is }

-- a reactive statement stays one
reacts : (x : CodeStmt) → is_react (out-CodeStmtKind (stmt_code.React x)) ≡ true
unfolding CodeStmtKind.roll-CodeStmtKind denote.Hole.Carrier.roll out-CodeStmtKind denote.Hole.Carrier.out
reacts x = refl

layer_reacts : (layer : StmtLayer) (span : Span) (tops : Tops) (locals : List Ref) (fs : List Function) → is_reactive_layer layer ≡ true
    → is_react (out-CodeStmtKind (stmt_kind_code (map-StmtKind Body Entry ExprKind Field StmtKind Arm Decl Expr Link Stmt BodyMade EntryMade KindMade FieldMade StmtKindMade ArmMade DeclMade ExprMade LinkMade StmtMade body_made entry_made kind_made field_made stmt_kind_made arm_made decl_made expr_made link_made stmt_made layer) span tops locals fs).0) ≡ true
layer_reacts (StmtKind-F.React of) span tops locals fs e = reacts (of_stmt of tops locals fs).0
layer_reacts _ span tops locals fs e = absurd (cc)

kind_reacts : (k : StmtKind) (span : Span) (tops : Tops) (locals : List Ref) (fs : List Function) → is_reactive_layer (out-StmtKind k) ≡ true → is_react (out-CodeStmtKind ((stmt_kind_made k).makes span tops locals fs).0) ≡ true
kind_reacts k span tops locals fs e = subst (λ (m : StmtKindMade). is_react (out-CodeStmtKind (m.makes span tops locals fs).0) ≡ true) (sym (fold_out-StmtKind BodyMade EntryMade KindMade FieldMade StmtKindMade ArmMade DeclMade ExprMade LinkMade StmtMade body entry expr_kind field stmt_kind arm decl expr link stmt k)) (layer_reacts (out-StmtKind k) span tops locals fs e)

react_stays : (s : Stmt) (tops : Tops) (locals : List Ref) (fs : List Function) → is_reactive s ≡ true → is_reactive_code (of_stmt s tops locals fs).0 ≡ true
react_stays s tops locals fs e = subst (λ (m : StmtMade). is_reactive_code (m.makes tops locals fs).0 ≡ true) (sym (fold_out-Stmt BodyMade EntryMade KindMade FieldMade StmtKindMade ArmMade DeclMade ExprMade LinkMade StmtMade body entry expr_kind field stmt_kind arm decl expr link stmt s)) (kind_reacts s.kind s.span tops locals fs e)

-- ---- reactive statements are told from the others

-- a statement of a script, by its place, that is reactive
pub record IsPlaced (stmts : List Stmt) (p : ℕ × Stmt) : Type 0 where
  pub stands : slice_get stmts p.0 ≡ Some p.1
  pub reacts : is_reactive p.1 ≡ true

chosen : (whole : List Stmt) (b : Bool) (p : ℕ × Stmt) (more : List (ℕ × Stmt)) → is_reactive p.1 ≡ b → slice_get whole p.0 ≡ Some p.1 → All (IsPlaced whole) more → All (IsPlaced whole) (if b then p ∷ more else more)
chosen whole true p more e is h = All-cons (IsPlaced whole) p more (record { stands = is; reacts = e }) h
chosen whole false p more e is h = h

placed_from : (whole : List Stmt) (n : ℕ) (stmts : List Stmt) → ((k : ℕ) (s : Stmt) → slice_get stmts k ≡ Some s → slice_get whole (n + k) ≡ Some s) → All (IsPlaced whole) (reactives_from n stmts)
placed_from whole n [] h = All-nil (IsPlaced whole)
placed_from whole n (s ∷ stmts) h =
    let here : slice_get whole n ≡ Some s = subst (λ m. slice_get whole m ≡ Some s) (omega arith) (h zero s refl) in
    let later = placed_from whole (n + 1) stmts (λ k x is. subst (λ m. slice_get whole m ≡ Some x) (omega arith) (h (suc k) x is)) in
    chosen whole (is_reactive s) (n, s) (reactives_from (n + 1) stmts) refl here later

reactives_placed : (stmts : List Stmt) → All (IsPlaced stmts) (reactives stmts)
reactives_placed stmts = placed_from stmts zero stmts (λ k s is. subst (λ m. slice_get stmts m ≡ Some s) (omega arith) is)

-- ---- what is run

all_at : {X : Type 0} (P : X → Type 0) (xs : List X) (n : ℕ) (x : X) → All P xs → slice_get xs n ≡ Some x → P x
all_at P [] n x h is = absurd (none-some x is)
all_at P (y ∷ xs) zero x h is = subst P (same_Some y x is) (All-head P y xs h)
all_at P (y ∷ xs) (suc n) x h is = all_at P xs n x (All-tail P y xs h) is

run_is : (cells : List Ref) (stmts : List Stmt) (tops : Tops) (locals : List Ref) (before : List Function) (number : ℕ) (p : ℕ × Stmt) → IsPlaced stmts p → IsRun (length cells) (of_stmts stmts tops locals before).0 (run cells number p)
run_is cells stmts tops locals before number p is =
    let code = code_at stmts tops locals before p.0 p.1 is.stands in
    record {
      stmt = (of_stmt p.1 tops locals code.functions).0;
      stands = code.is;
      reactive = react_stays p.1 tops locals code.functions is.reacts;
      reads = numbers_within cells (read_names p.1);
      sets = numbers_within cells (assigned_names p.1);
    }

run_found : (cells : List Ref) (stmts : List Stmt) (tops : Tops) (locals : List Ref) (before : List Function) (number : ℕ) (o : Option (ℕ × Stmt)) → slice_get (reactives stmts) number ≡ o
    → All (IsRun (length cells) (of_stmts stmts tops locals before).0) (option_to_list (option_map (run cells number) o))
run_found cells stmts tops locals before number None e = All-nil (IsRun (length cells) (of_stmts stmts tops locals before).0)
run_found cells stmts tops locals before number (Some p) e =
    All-cons (IsRun (length cells) (of_stmts stmts tops locals before).0) (run cells number p) [] (run_is cells stmts tops locals before number p (all_at (IsPlaced stmts) (reactives stmts) number p (reactives_placed stmts) e)) (All-nil (IsRun (length cells) (of_stmts stmts tops locals before).0))

-- each of them is a reactive statement of its script, and names cells that are there
pub runs_are : (cells : List Ref) (stmts : List Stmt) (tops : Tops) (locals : List Ref) (before : List Function) (order : List ℕ) → All (IsRun (length cells) (of_stmts stmts tops locals before).0) (runs cells (reactives stmts) order)
runs_are cells stmts tops locals before [] = All-nil (IsRun (length cells) (of_stmts stmts tops locals before).0)
runs_are cells stmts tops locals before (number ∷ order) =
    All-append (IsRun (length cells) (of_stmts stmts tops locals before).0) (run_at cells (reactives stmts) number) (runs cells (reactives stmts) order)
    (run_found cells stmts tops locals before number (slice_get (reactives stmts) number) refl) (runs_are cells stmts tops locals before order)
