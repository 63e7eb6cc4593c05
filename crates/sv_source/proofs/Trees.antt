-- The code of a tree does what is told of the tree: an induction over trees, a line a form.
use Rattle.std.specs.Prelude.{not}
use Rattle.std.proofs.Common.{◌≡◌, ℕ, Bool, true, false, List, [], ◌∷◌, ◌++◌, Option, None, Some, map, option_map, refl, sym, ap, subst, subst₂, ◌∙◌, if◌then◌else◌}
use Rattle.sv_ast.specs.declared.names.Named.{Named}
use Rattle.sv_ast.specs.declared.names.Ref.{Ref}
use Rattle.sv_ast.specs.declared.names.Ref.TheVariants.{Plain, Store}
use Rattle.sv_ast.specs.declared.script_tree.Body.{Body as AnyBody, Body-F, roll-Body, map-Body, fold-roll-Body}
use Rattle.sv_ast.specs.declared.script_tree.Entry.{Entry, Entry-F, roll-Entry, map-Entry, fold-roll-Entry}
use Rattle.sv_ast.specs.declared.script_tree.ExprKind.{ExprKind, ExprKind-F, roll-ExprKind, map-ExprKind, fold-roll-ExprKind}
use Rattle.sv_ast.specs.declared.script_tree.Field.{Field, Field-F, roll-Field, map-Field, fold-roll-Field}
use Rattle.sv_ast.specs.declared.script_tree.StmtKind.{StmtKind, StmtKind-F, roll-StmtKind, map-StmtKind, fold-roll-StmtKind}
use Rattle.sv_ast.specs.declared.script_tree.Arm.{Arm as AnyArm, Arm-F, roll-Arm, map-Arm, fold-roll-Arm}
use Rattle.sv_ast.specs.declared.script_tree.Decl.{Decl, Decl-F, roll-Decl, map-Decl, fold-roll-Decl}
use Rattle.sv_ast.specs.declared.script_tree.Expr.{Expr as Tree, Expr-F, roll-Expr, map-Expr, fold-roll-Expr, ind-Expr}
use Rattle.sv_ast.specs.declared.script_tree.Link.{Link as AnyLink, Link-F, roll-Link, map-Link, fold-roll-Link}
use Rattle.sv_ast.specs.declared.script_tree.Stmt.{Stmt, Stmt-F, roll-Stmt, map-Stmt, fold-roll-Stmt, ind-Stmt}
use Rattle.sv_base.specs.declared.span.Span.{Span}
use Rattle.sv_code.proofs.Each.{each_front, each_back}
use Rattle.sv_code.specs.Names.{Each}
use Rattle.sv_code.specs.declared.code.Code.{Code}
use Rattle.sv_code.specs.declared.code.CodeField.{CodeField-F}
use Rattle.sv_code.specs.declared.code.CodeField.TheVariants as field_code
use Rattle.sv_code.specs.declared.code.CodeItem.{CodeItem-F}
use Rattle.sv_code.specs.declared.code.CodeItem.TheVariants as item_code
use Rattle.sv_code.specs.declared.code.CodeKind.{CodeKind-F}
use Rattle.sv_code.specs.declared.code.CodeKind.TheVariants as code
use Rattle.sv_code.specs.declared.functions.CodeDecl.{CodeDecl}
use Rattle.sv_code.specs.declared.functions.CodeStmt.{CodeStmt}
use Rattle.sv_code.specs.declared.functions.CodeStmtKind.TheVariants as stmt_code
use Rattle.sv_code.specs.declared.functions.Function.{Function}
use Rattle.sv_code.specs.declared.functions.FunctionBody.TheVariants as body_code
use Rattle.sv_code.specs.declared.known.Known.TheVariants as known
use Rattle.sv_lower.proofs.Trees.{body_is, stmt_is, stmts_are}
use Rattle.sv_lower.specs.Does.{of_one, each, given}
use Rattle.sv_lower.specs.Lower.{Made, Lowers, trees, BodyMade, EntryMade, KindMade, FieldMade, StmtKindMade, ArmMade, DeclMade, ExprMade, LinkMade, StmtMade, body_made, entry_made, kind_made, field_made, stmt_kind_made, arm_made, decl_made, expr_made, link_made, stmt_made, function, dispatcher, reads_dispatcher, store_of}
use Rattle.sv_lower.specs.Lower as lower
use Rattle.sv_lower.specs.Places.{width, place}
use Rattle.sv_lower.specs.Tops.{Tops, known_in, known_or, known_at, property}
use Rattle.sv_meaning.specs.Env.{Env, opened}
use Rattle.sv_meaning.specs.Outcome.{Done, Next, Returned, and_then}
use Rattle.sv_meaning.specs.Statements.{first_of, loop, scoped, each_step, for_step, value_or}
use Rattle.sv_meaning.specs.Values.{item_step, field_step}
use Rattle.sv_names.specs.Distinct.{has, with_names, firsts}
use Rattle.sv_names.specs.Locals.{name_of}
use Rattle.sv_names.specs.Uses.{Found, Parts, named, together, optional, scope_of, head_of, body_parts, stmt_parts, read, assigned, bumped}
use Rattle.sv_names.specs.Uses as uses
use Rattle.sv_source.specs.Functions.{Acts, Gives, Runs, Finds}
use Rattle.sv_source.specs.Open.{heads, is_among, stands, IsPlain, AreOfTop}
use Rattle.sv_source.specs.Script.{Told, Seen, Declared, Form, Reacting, Naming, Line, does, at, runs, value_if, line_if, acting, declaring, step_at, all_found, perhaps_found, BodyTold, EntryTold, KindTold, FieldTold, StmtKindTold, ArmTold, DeclTold, ExprTold, LinkTold, StmtTold, body_told, entry_told, kind_told, field_told, stmt_kind_told, arm_told, decl_told, expr_told, link_told, stmt_told, arrow_form, dispatcher_form, call_form, in_turn}
use Rattle.sv_source.specs.Script as script
use Rattle.sv_source.proofs.Alike.{BodyAlike, AreAlike, IsFront, Agrees, KindAlike, SeenAlike, ItemAlike, FieldAlike, OperatorAlike, BranchAlike, FormAlike, LineAlike, DeclaredAlike}
use Rattle.sv_source.proofs.Forms as form
use Rattle.sv_source.proofs.Found.{body_found, body_plain, stmts_found, all_plain, stmt_found, stmt_plain}
use Rattle.sv_source.proofs.Lines as line
use Rattle.sv_source.proofs.Declaring.{decl_gives}
use Rattle.sv_source.proofs.Names.{Stands, UsesTell, inner, block_among, has_firsts, among_params, used_tells}
use Rattle.sv_source.proofs.Tables.{Perhaps, three_agree, four_agree}
use Rattle.sv_source.proofs.Making.{linked, links, coded, branch_code, branch_told, line_coded, line_told, Good, by_just, by_one, by_two, list_good, parts_good, maybe_good, part_good, function_good, call_good}

-- what lowering finds in the body of a function is what is told of it
body_same : (b : AnyBody) → body_parts (body_made b).tree ≡ (body_told b).found
body_same b = ap body_parts (body_is b) ∙ sym (body_found b)

stmts_same : (stmts : List Stmt) → together (map stmt_parts (trees (map stmt_made stmts))) ≡ together (all_found (map stmt_told stmts))
stmts_same stmts = ap (λ ss. together (map stmt_parts ss)) (stmts_are stmts) ∙ ap together (sym (stmts_found stmts))

first_same : (first : Option Stmt) → head_of (option_map (λ p. p.tree) (option_map stmt_made first)) ≡ firsts (optional (perhaps_found (option_map stmt_told first))).declares
first_same None = refl
first_same (Some s) = ap (λ p. firsts p.declares) (ap stmt_parts (stmt_is s) ∙ sym (stmt_found s))

first_plain : (first : Option Stmt) → Each IsPlain (optional (perhaps_found (option_map stmt_told first))).declares
first_plain None = tt
first_plain (Some s) = stmt_plain s

module _ (all : List Function) (tops : Tops) (own : AreOfTop tops) where
  abbrev ExprR : List ℕ → List Ref → Code → Seen → Type 0
  ExprR xs locals = SeenAlike all xs

  abbrev LineR : List ℕ → List Ref → CodeStmt → Acts Line → Type 0
  LineR xs locals = LineAlike all xs locals

  abbrev BodyGood : BodyMade → BodyTold → Type 0
  BodyGood m v = Good all tops (λ xs locals. BodyAlike all xs) m.makes v.means v.found.uses

  abbrev EntryGood : EntryMade → EntryTold → Type 0
  EntryGood m v = Good all tops (λ xs locals. ItemAlike all xs) m.makes v.means v.found

  abbrev KindGood : KindMade → KindTold → Type 0
  KindGood m v = (s : Span) → Good all tops (λ xs locals. KindAlike all xs s) (m.makes s) (v.means s) v.found

  abbrev FieldGood : FieldMade → FieldTold → Type 0
  FieldGood m v = Good all tops (λ xs locals. FieldAlike all xs) m.makes v.means v.found

  abbrev StmtKindGood : StmtKindMade → StmtKindTold → Type 0
  StmtKindGood m v = (s : Span) → Good all tops (λ xs locals. FormAlike all xs locals) (m.makes s) v.means v.found.uses

  abbrev ArmGood : ArmMade → ArmTold → Type 0
  ArmGood m v = Good all tops (λ xs locals. BranchAlike all xs) m.makes v.means v.found

  abbrev DeclGood : DeclMade → DeclTold → Type 0
  DeclGood m v = Good all tops (λ xs locals. DeclaredAlike all xs locals) m.makes v.means v.found.uses

  abbrev ExprGood : ExprMade → ExprTold → Type 0
  ExprGood m v = Good all tops ExprR m.makes v.means v.found

  abbrev LinkGood : LinkMade → LinkTold → Type 0
  LinkGood m v = Good all tops (λ xs locals. OperatorAlike all xs) m.makes v.means v.found

  abbrev StmtGood : StmtMade → StmtTold → Type 0
  StmtGood m v = Good all tops LineR m.makes v.means v.found.uses

  -- ---- trees, with what is claimed of each

  abbrev ClaimBody : AnyBody → Type 0
  ClaimBody x = BodyGood (body_made x) (body_told x)

  abbrev KBody : Type 0
  KBody = (x : AnyBody) × ClaimBody x

  abbrev ClaimEntry : Entry → Type 0
  ClaimEntry x = EntryGood (entry_made x) (entry_told x)

  abbrev KEntry : Type 0
  KEntry = (x : Entry) × ClaimEntry x

  abbrev ClaimKind : ExprKind → Type 0
  ClaimKind x = KindGood (kind_made x) (kind_told x)

  abbrev KKind : Type 0
  KKind = (x : ExprKind) × ClaimKind x

  abbrev ClaimField : Field → Type 0
  ClaimField x = FieldGood (field_made x) (field_told x)

  abbrev KField : Type 0
  KField = (x : Field) × ClaimField x

  abbrev ClaimStmtKind : StmtKind → Type 0
  ClaimStmtKind x = StmtKindGood (stmt_kind_made x) (stmt_kind_told x)

  abbrev KStmtKind : Type 0
  KStmtKind = (x : StmtKind) × ClaimStmtKind x

  abbrev ClaimArm : AnyArm → Type 0
  ClaimArm x = ArmGood (arm_made x) (arm_told x)

  abbrev KArm : Type 0
  KArm = (x : AnyArm) × ClaimArm x

  abbrev ClaimDecl : Decl → Type 0
  ClaimDecl x = DeclGood (decl_made x) (decl_told x)

  abbrev KDecl : Type 0
  KDecl = (x : Decl) × ClaimDecl x

  abbrev ClaimExpr : Tree → Type 0
  ClaimExpr x = ExprGood (expr_made x) (expr_told x)

  abbrev KExpr : Type 0
  KExpr = (x : Tree) × ClaimExpr x

  abbrev ClaimLink : AnyLink → Type 0
  ClaimLink x = LinkGood (link_made x) (link_told x)

  abbrev KLink : Type 0
  KLink = (x : AnyLink) × ClaimLink x

  abbrev ClaimStmt : Stmt → Type 0
  ClaimStmt x = StmtGood (stmt_made x) (stmt_told x)

  abbrev KStmt : Type 0
  KStmt = (x : Stmt) × ClaimStmt x

  -- ---- a layer of a tree

  abbrev bare_body : Body-F KBody KEntry KKind KField KStmtKind KArm KDecl KExpr KLink KStmt → Body-F AnyBody Entry ExprKind Field StmtKind AnyArm Decl Tree AnyLink Stmt
  bare_body = map-Body KBody KEntry KKind KField KStmtKind KArm KDecl KExpr KLink KStmt AnyBody Entry ExprKind Field StmtKind AnyArm Decl Tree AnyLink Stmt (λ p. p.0) (λ p. p.0) (λ p. p.0) (λ p. p.0) (λ p. p.0) (λ p. p.0) (λ p. p.0) (λ p. p.0) (λ p. p.0) (λ p. p.0)

  abbrev done_body : Body-F AnyBody Entry ExprKind Field StmtKind AnyArm Decl Tree AnyLink Stmt → Body-F BodyMade EntryMade KindMade FieldMade StmtKindMade ArmMade DeclMade ExprMade LinkMade StmtMade
  done_body = map-Body AnyBody Entry ExprKind Field StmtKind AnyArm Decl Tree AnyLink Stmt BodyMade EntryMade KindMade FieldMade StmtKindMade ArmMade DeclMade ExprMade LinkMade StmtMade body_made entry_made kind_made field_made stmt_kind_made arm_made decl_made expr_made link_made stmt_made

  abbrev seen_body : Body-F AnyBody Entry ExprKind Field StmtKind AnyArm Decl Tree AnyLink Stmt → Body-F BodyTold EntryTold KindTold FieldTold StmtKindTold ArmTold DeclTold ExprTold LinkTold StmtTold
  seen_body = map-Body AnyBody Entry ExprKind Field StmtKind AnyArm Decl Tree AnyLink Stmt BodyTold EntryTold KindTold FieldTold StmtKindTold ArmTold DeclTold ExprTold LinkTold StmtTold body_told entry_told kind_told field_told stmt_kind_told arm_told decl_told expr_told link_told stmt_told

  abbrev bare_entry : Entry-F KBody KEntry KKind KField KStmtKind KArm KDecl KExpr KLink KStmt → Entry-F AnyBody Entry ExprKind Field StmtKind AnyArm Decl Tree AnyLink Stmt
  bare_entry = map-Entry KBody KEntry KKind KField KStmtKind KArm KDecl KExpr KLink KStmt AnyBody Entry ExprKind Field StmtKind AnyArm Decl Tree AnyLink Stmt (λ p. p.0) (λ p. p.0) (λ p. p.0) (λ p. p.0) (λ p. p.0) (λ p. p.0) (λ p. p.0) (λ p. p.0) (λ p. p.0) (λ p. p.0)

  abbrev done_entry : Entry-F AnyBody Entry ExprKind Field StmtKind AnyArm Decl Tree AnyLink Stmt → Entry-F BodyMade EntryMade KindMade FieldMade StmtKindMade ArmMade DeclMade ExprMade LinkMade StmtMade
  done_entry = map-Entry AnyBody Entry ExprKind Field StmtKind AnyArm Decl Tree AnyLink Stmt BodyMade EntryMade KindMade FieldMade StmtKindMade ArmMade DeclMade ExprMade LinkMade StmtMade body_made entry_made kind_made field_made stmt_kind_made arm_made decl_made expr_made link_made stmt_made

  abbrev seen_entry : Entry-F AnyBody Entry ExprKind Field StmtKind AnyArm Decl Tree AnyLink Stmt → Entry-F BodyTold EntryTold KindTold FieldTold StmtKindTold ArmTold DeclTold ExprTold LinkTold StmtTold
  seen_entry = map-Entry AnyBody Entry ExprKind Field StmtKind AnyArm Decl Tree AnyLink Stmt BodyTold EntryTold KindTold FieldTold StmtKindTold ArmTold DeclTold ExprTold LinkTold StmtTold body_told entry_told kind_told field_told stmt_kind_told arm_told decl_told expr_told link_told stmt_told

  abbrev bare_kind : ExprKind-F KBody KEntry KKind KField KStmtKind KArm KDecl KExpr KLink KStmt → ExprKind-F AnyBody Entry ExprKind Field StmtKind AnyArm Decl Tree AnyLink Stmt
  bare_kind = map-ExprKind KBody KEntry KKind KField KStmtKind KArm KDecl KExpr KLink KStmt AnyBody Entry ExprKind Field StmtKind AnyArm Decl Tree AnyLink Stmt (λ p. p.0) (λ p. p.0) (λ p. p.0) (λ p. p.0) (λ p. p.0) (λ p. p.0) (λ p. p.0) (λ p. p.0) (λ p. p.0) (λ p. p.0)

  abbrev done_kind : ExprKind-F AnyBody Entry ExprKind Field StmtKind AnyArm Decl Tree AnyLink Stmt → ExprKind-F BodyMade EntryMade KindMade FieldMade StmtKindMade ArmMade DeclMade ExprMade LinkMade StmtMade
  done_kind = map-ExprKind AnyBody Entry ExprKind Field StmtKind AnyArm Decl Tree AnyLink Stmt BodyMade EntryMade KindMade FieldMade StmtKindMade ArmMade DeclMade ExprMade LinkMade StmtMade body_made entry_made kind_made field_made stmt_kind_made arm_made decl_made expr_made link_made stmt_made

  abbrev seen_kind : ExprKind-F AnyBody Entry ExprKind Field StmtKind AnyArm Decl Tree AnyLink Stmt → ExprKind-F BodyTold EntryTold KindTold FieldTold StmtKindTold ArmTold DeclTold ExprTold LinkTold StmtTold
  seen_kind = map-ExprKind AnyBody Entry ExprKind Field StmtKind AnyArm Decl Tree AnyLink Stmt BodyTold EntryTold KindTold FieldTold StmtKindTold ArmTold DeclTold ExprTold LinkTold StmtTold body_told entry_told kind_told field_told stmt_kind_told arm_told decl_told expr_told link_told stmt_told

  abbrev bare_field : Field-F KBody KEntry KKind KField KStmtKind KArm KDecl KExpr KLink KStmt → Field-F AnyBody Entry ExprKind Field StmtKind AnyArm Decl Tree AnyLink Stmt
  bare_field = map-Field KBody KEntry KKind KField KStmtKind KArm KDecl KExpr KLink KStmt AnyBody Entry ExprKind Field StmtKind AnyArm Decl Tree AnyLink Stmt (λ p. p.0) (λ p. p.0) (λ p. p.0) (λ p. p.0) (λ p. p.0) (λ p. p.0) (λ p. p.0) (λ p. p.0) (λ p. p.0) (λ p. p.0)

  abbrev done_field : Field-F AnyBody Entry ExprKind Field StmtKind AnyArm Decl Tree AnyLink Stmt → Field-F BodyMade EntryMade KindMade FieldMade StmtKindMade ArmMade DeclMade ExprMade LinkMade StmtMade
  done_field = map-Field AnyBody Entry ExprKind Field StmtKind AnyArm Decl Tree AnyLink Stmt BodyMade EntryMade KindMade FieldMade StmtKindMade ArmMade DeclMade ExprMade LinkMade StmtMade body_made entry_made kind_made field_made stmt_kind_made arm_made decl_made expr_made link_made stmt_made

  abbrev seen_field : Field-F AnyBody Entry ExprKind Field StmtKind AnyArm Decl Tree AnyLink Stmt → Field-F BodyTold EntryTold KindTold FieldTold StmtKindTold ArmTold DeclTold ExprTold LinkTold StmtTold
  seen_field = map-Field AnyBody Entry ExprKind Field StmtKind AnyArm Decl Tree AnyLink Stmt BodyTold EntryTold KindTold FieldTold StmtKindTold ArmTold DeclTold ExprTold LinkTold StmtTold body_told entry_told kind_told field_told stmt_kind_told arm_told decl_told expr_told link_told stmt_told

  abbrev bare_stmt_kind : StmtKind-F KBody KEntry KKind KField KStmtKind KArm KDecl KExpr KLink KStmt → StmtKind-F AnyBody Entry ExprKind Field StmtKind AnyArm Decl Tree AnyLink Stmt
  bare_stmt_kind = map-StmtKind KBody KEntry KKind KField KStmtKind KArm KDecl KExpr KLink KStmt AnyBody Entry ExprKind Field StmtKind AnyArm Decl Tree AnyLink Stmt (λ p. p.0) (λ p. p.0) (λ p. p.0) (λ p. p.0) (λ p. p.0) (λ p. p.0) (λ p. p.0) (λ p. p.0) (λ p. p.0) (λ p. p.0)

  abbrev done_stmt_kind : StmtKind-F AnyBody Entry ExprKind Field StmtKind AnyArm Decl Tree AnyLink Stmt → StmtKind-F BodyMade EntryMade KindMade FieldMade StmtKindMade ArmMade DeclMade ExprMade LinkMade StmtMade
  done_stmt_kind = map-StmtKind AnyBody Entry ExprKind Field StmtKind AnyArm Decl Tree AnyLink Stmt BodyMade EntryMade KindMade FieldMade StmtKindMade ArmMade DeclMade ExprMade LinkMade StmtMade body_made entry_made kind_made field_made stmt_kind_made arm_made decl_made expr_made link_made stmt_made

  abbrev seen_stmt_kind : StmtKind-F AnyBody Entry ExprKind Field StmtKind AnyArm Decl Tree AnyLink Stmt → StmtKind-F BodyTold EntryTold KindTold FieldTold StmtKindTold ArmTold DeclTold ExprTold LinkTold StmtTold
  seen_stmt_kind = map-StmtKind AnyBody Entry ExprKind Field StmtKind AnyArm Decl Tree AnyLink Stmt BodyTold EntryTold KindTold FieldTold StmtKindTold ArmTold DeclTold ExprTold LinkTold StmtTold body_told entry_told kind_told field_told stmt_kind_told arm_told decl_told expr_told link_told stmt_told

  abbrev bare_arm : Arm-F KBody KEntry KKind KField KStmtKind KArm KDecl KExpr KLink KStmt → Arm-F AnyBody Entry ExprKind Field StmtKind AnyArm Decl Tree AnyLink Stmt
  bare_arm = map-Arm KBody KEntry KKind KField KStmtKind KArm KDecl KExpr KLink KStmt AnyBody Entry ExprKind Field StmtKind AnyArm Decl Tree AnyLink Stmt (λ p. p.0) (λ p. p.0) (λ p. p.0) (λ p. p.0) (λ p. p.0) (λ p. p.0) (λ p. p.0) (λ p. p.0) (λ p. p.0) (λ p. p.0)

  abbrev done_arm : Arm-F AnyBody Entry ExprKind Field StmtKind AnyArm Decl Tree AnyLink Stmt → Arm-F BodyMade EntryMade KindMade FieldMade StmtKindMade ArmMade DeclMade ExprMade LinkMade StmtMade
  done_arm = map-Arm AnyBody Entry ExprKind Field StmtKind AnyArm Decl Tree AnyLink Stmt BodyMade EntryMade KindMade FieldMade StmtKindMade ArmMade DeclMade ExprMade LinkMade StmtMade body_made entry_made kind_made field_made stmt_kind_made arm_made decl_made expr_made link_made stmt_made

  abbrev seen_arm : Arm-F AnyBody Entry ExprKind Field StmtKind AnyArm Decl Tree AnyLink Stmt → Arm-F BodyTold EntryTold KindTold FieldTold StmtKindTold ArmTold DeclTold ExprTold LinkTold StmtTold
  seen_arm = map-Arm AnyBody Entry ExprKind Field StmtKind AnyArm Decl Tree AnyLink Stmt BodyTold EntryTold KindTold FieldTold StmtKindTold ArmTold DeclTold ExprTold LinkTold StmtTold body_told entry_told kind_told field_told stmt_kind_told arm_told decl_told expr_told link_told stmt_told

  abbrev bare_decl : Decl-F KBody KEntry KKind KField KStmtKind KArm KDecl KExpr KLink KStmt → Decl-F AnyBody Entry ExprKind Field StmtKind AnyArm Decl Tree AnyLink Stmt
  bare_decl = map-Decl KBody KEntry KKind KField KStmtKind KArm KDecl KExpr KLink KStmt AnyBody Entry ExprKind Field StmtKind AnyArm Decl Tree AnyLink Stmt (λ p. p.0) (λ p. p.0) (λ p. p.0) (λ p. p.0) (λ p. p.0) (λ p. p.0) (λ p. p.0) (λ p. p.0) (λ p. p.0) (λ p. p.0)

  abbrev done_decl : Decl-F AnyBody Entry ExprKind Field StmtKind AnyArm Decl Tree AnyLink Stmt → Decl-F BodyMade EntryMade KindMade FieldMade StmtKindMade ArmMade DeclMade ExprMade LinkMade StmtMade
  done_decl = map-Decl AnyBody Entry ExprKind Field StmtKind AnyArm Decl Tree AnyLink Stmt BodyMade EntryMade KindMade FieldMade StmtKindMade ArmMade DeclMade ExprMade LinkMade StmtMade body_made entry_made kind_made field_made stmt_kind_made arm_made decl_made expr_made link_made stmt_made

  abbrev seen_decl : Decl-F AnyBody Entry ExprKind Field StmtKind AnyArm Decl Tree AnyLink Stmt → Decl-F BodyTold EntryTold KindTold FieldTold StmtKindTold ArmTold DeclTold ExprTold LinkTold StmtTold
  seen_decl = map-Decl AnyBody Entry ExprKind Field StmtKind AnyArm Decl Tree AnyLink Stmt BodyTold EntryTold KindTold FieldTold StmtKindTold ArmTold DeclTold ExprTold LinkTold StmtTold body_told entry_told kind_told field_told stmt_kind_told arm_told decl_told expr_told link_told stmt_told

  abbrev bare_expr : Expr-F KBody KEntry KKind KField KStmtKind KArm KDecl KExpr KLink KStmt → Expr-F AnyBody Entry ExprKind Field StmtKind AnyArm Decl Tree AnyLink Stmt
  bare_expr = map-Expr KBody KEntry KKind KField KStmtKind KArm KDecl KExpr KLink KStmt AnyBody Entry ExprKind Field StmtKind AnyArm Decl Tree AnyLink Stmt (λ p. p.0) (λ p. p.0) (λ p. p.0) (λ p. p.0) (λ p. p.0) (λ p. p.0) (λ p. p.0) (λ p. p.0) (λ p. p.0) (λ p. p.0)

  abbrev done_expr : Expr-F AnyBody Entry ExprKind Field StmtKind AnyArm Decl Tree AnyLink Stmt → Expr-F BodyMade EntryMade KindMade FieldMade StmtKindMade ArmMade DeclMade ExprMade LinkMade StmtMade
  done_expr = map-Expr AnyBody Entry ExprKind Field StmtKind AnyArm Decl Tree AnyLink Stmt BodyMade EntryMade KindMade FieldMade StmtKindMade ArmMade DeclMade ExprMade LinkMade StmtMade body_made entry_made kind_made field_made stmt_kind_made arm_made decl_made expr_made link_made stmt_made

  abbrev seen_expr : Expr-F AnyBody Entry ExprKind Field StmtKind AnyArm Decl Tree AnyLink Stmt → Expr-F BodyTold EntryTold KindTold FieldTold StmtKindTold ArmTold DeclTold ExprTold LinkTold StmtTold
  seen_expr = map-Expr AnyBody Entry ExprKind Field StmtKind AnyArm Decl Tree AnyLink Stmt BodyTold EntryTold KindTold FieldTold StmtKindTold ArmTold DeclTold ExprTold LinkTold StmtTold body_told entry_told kind_told field_told stmt_kind_told arm_told decl_told expr_told link_told stmt_told

  abbrev bare_link : Link-F KBody KEntry KKind KField KStmtKind KArm KDecl KExpr KLink KStmt → Link-F AnyBody Entry ExprKind Field StmtKind AnyArm Decl Tree AnyLink Stmt
  bare_link = map-Link KBody KEntry KKind KField KStmtKind KArm KDecl KExpr KLink KStmt AnyBody Entry ExprKind Field StmtKind AnyArm Decl Tree AnyLink Stmt (λ p. p.0) (λ p. p.0) (λ p. p.0) (λ p. p.0) (λ p. p.0) (λ p. p.0) (λ p. p.0) (λ p. p.0) (λ p. p.0) (λ p. p.0)

  abbrev done_link : Link-F AnyBody Entry ExprKind Field StmtKind AnyArm Decl Tree AnyLink Stmt → Link-F BodyMade EntryMade KindMade FieldMade StmtKindMade ArmMade DeclMade ExprMade LinkMade StmtMade
  done_link = map-Link AnyBody Entry ExprKind Field StmtKind AnyArm Decl Tree AnyLink Stmt BodyMade EntryMade KindMade FieldMade StmtKindMade ArmMade DeclMade ExprMade LinkMade StmtMade body_made entry_made kind_made field_made stmt_kind_made arm_made decl_made expr_made link_made stmt_made

  abbrev seen_link : Link-F AnyBody Entry ExprKind Field StmtKind AnyArm Decl Tree AnyLink Stmt → Link-F BodyTold EntryTold KindTold FieldTold StmtKindTold ArmTold DeclTold ExprTold LinkTold StmtTold
  seen_link = map-Link AnyBody Entry ExprKind Field StmtKind AnyArm Decl Tree AnyLink Stmt BodyTold EntryTold KindTold FieldTold StmtKindTold ArmTold DeclTold ExprTold LinkTold StmtTold body_told entry_told kind_told field_told stmt_kind_told arm_told decl_told expr_told link_told stmt_told

  abbrev bare_stmt : Stmt-F KBody KEntry KKind KField KStmtKind KArm KDecl KExpr KLink KStmt → Stmt-F AnyBody Entry ExprKind Field StmtKind AnyArm Decl Tree AnyLink Stmt
  bare_stmt = map-Stmt KBody KEntry KKind KField KStmtKind KArm KDecl KExpr KLink KStmt AnyBody Entry ExprKind Field StmtKind AnyArm Decl Tree AnyLink Stmt (λ p. p.0) (λ p. p.0) (λ p. p.0) (λ p. p.0) (λ p. p.0) (λ p. p.0) (λ p. p.0) (λ p. p.0) (λ p. p.0) (λ p. p.0)

  abbrev done_stmt : Stmt-F AnyBody Entry ExprKind Field StmtKind AnyArm Decl Tree AnyLink Stmt → Stmt-F BodyMade EntryMade KindMade FieldMade StmtKindMade ArmMade DeclMade ExprMade LinkMade StmtMade
  done_stmt = map-Stmt AnyBody Entry ExprKind Field StmtKind AnyArm Decl Tree AnyLink Stmt BodyMade EntryMade KindMade FieldMade StmtKindMade ArmMade DeclMade ExprMade LinkMade StmtMade body_made entry_made kind_made field_made stmt_kind_made arm_made decl_made expr_made link_made stmt_made

  abbrev seen_stmt : Stmt-F AnyBody Entry ExprKind Field StmtKind AnyArm Decl Tree AnyLink Stmt → Stmt-F BodyTold EntryTold KindTold FieldTold StmtKindTold ArmTold DeclTold ExprTold LinkTold StmtTold
  seen_stmt = map-Stmt AnyBody Entry ExprKind Field StmtKind AnyArm Decl Tree AnyLink Stmt BodyTold EntryTold KindTold FieldTold StmtKindTold ArmTold DeclTold ExprTold LinkTold StmtTold body_told entry_told kind_told field_told stmt_kind_told arm_told decl_told expr_told link_told stmt_told

  -- the uses of two parts in turn
  one_of : (xs : List ℕ) (locals scope : List Ref) (a b : Found) → UsesTell xs locals (uses.followed a b scope) → UsesTell xs locals (a scope)
  one_of xs locals scope a b u = each_front (λ u. is_among xs u.name ≡ has u.name locals) (a scope) (b scope) u

  two_of : (xs : List ℕ) (locals scope : List Ref) (a b : Found) → UsesTell xs locals (uses.followed a b scope) → UsesTell xs locals (b scope)
  two_of xs locals scope a b u = each_back (λ u. is_among xs u.name ≡ has u.name locals) (a scope) (b scope) u

  name_same : (xs : List ℕ) (locals scope : List Ref) (name : Ref) (b b' : Bool) → Stands xs locals scope → UsesTell xs locals (uses.used (record { name = name; is_read = b; is_set = b' }) scope) → (env : Env) → heads env ≡ xs → known_at tops locals name ≡ stands tops env name
  name_same xs locals scope name b b' h u = form.stands_same tops locals xs name (used_tells xs locals scope (record { name = name; is_read = b; is_set = b' }) h u)

  kind_good : (y : ExprKind-F KBody KEntry KKind KField KStmtKind KArm KDecl KExpr KLink KStmt) → KindGood (lower.expr_kind (done_kind (bare_kind y))) (script.expr_kind (seen_kind (bare_kind y)))
  kind_good ExprKind-F.Undefined s xs locals scope h u = by_just all tops (KindAlike all xs s) _ _ (form.undefined_alike all xs s)
  kind_good ExprKind-F.Null s xs locals scope h u = by_just all tops (KindAlike all xs s) _ _ (form.null_alike all xs s)
  kind_good (ExprKind-F.Bool b) s xs locals scope h u = by_just all tops (KindAlike all xs s) _ _ (form.bool_alike all xs s b)
  kind_good (ExprKind-F.Num n) s xs locals scope h u = by_just all tops (KindAlike all xs s) _ _ (form.num_alike all xs s n)
  kind_good (ExprKind-F.Text t) s xs locals scope h u = by_just all tops (KindAlike all xs s) _ _ (form.text_alike all xs s t)
  kind_good (ExprKind-F.Read name) s xs locals scope h u =
      by_just all tops (KindAlike all xs s) _ _ (form.name_alike all xs s (known_at tops locals name) (λ env. stands tops env name) (name_same xs locals scope name true false h u))
  kind_good (ExprKind-F.List items) s xs locals scope h u = by_one all tops (KindAlike all xs s) code.List (λ ps. script.form s (λ g call owner env. CodeKind-F.List (map (λ p. p g call owner) ps))) (form.list_alike all xs s) (list_good all tops (λ xs locals. ItemAlike all xs) entry_made entry_told items xs locals scope h u)
  kind_good (ExprKind-F.Obj fields) s xs locals scope h u = by_one all tops (KindAlike all xs s) code.Object (λ ps. script.form s (λ g call owner env. CodeKind-F.Object (map (λ p. p g call owner) ps))) (form.object_alike all xs s) (list_good all tops (λ xs locals. FieldAlike all xs) field_made field_told fields xs locals scope h u)
  kind_good (ExprKind-F.Template parts) s xs locals scope h u = by_one all tops (KindAlike all xs s) code.Template (λ es. script.form s (λ g call owner env. CodeKind-F.Template (map (λ e. at env (e.sees g call owner)) es))) (form.texts_alike all xs s) (list_good all tops ExprR expr_made expr_told parts xs locals scope h u)
  kind_good (ExprKind-F.Arrow ps b) s xs locals scope h u =
      by_one all tops (KindAlike all xs s) code.Arrow (arrow_form s) (form.arrow_alike all xs s) (function_good all tops s ps (body_parts (body_made b.0).tree) (body_told b.0).found (body_same b.0) (body_plain b.0) (body_made b.0).makes (body_told b.0).means b.1 xs locals scope h)
  kind_good (ExprKind-F.Assign name op e) s xs locals scope h u =
      let mark : Found = uses.used (assigned name op) in
      by_one all tops (KindAlike all xs s) (code.Assign (known_at tops locals name) (place false (width tops.names name) s) op) (λ x. script.form s (λ g call owner env. CodeKind-F.Assign (stands tops env name) (place false (width tops.names name) s) op (at env (x.sees g call owner))))
      (form.set_alike all xs s (known_at tops locals name) (λ env. stands tops env name) (place false (width tops.names name) s) op (name_same xs locals scope name (not (uses.sets_alone op)) true h (one_of xs locals scope mark (expr_told e.0).found u)))
      (e.1 xs locals scope h (two_of xs locals scope mark (expr_told e.0).found u))
  kind_good (ExprKind-F.Bump name up prefix) s xs locals scope h u =
      by_just all tops (KindAlike all xs s) _ _ (form.bumped_alike all xs s (known_at tops locals name) (λ env. stands tops env name) (place prefix (width tops.names name) s) up prefix (name_same xs locals scope name true true h u))
  kind_good (ExprKind-F.Chain e links) s xs locals scope h u =
      let rest : Found = uses.in_turn (all_found (map link_told (map (λ p. p.0) links))) in
      by_two all tops (KindAlike all xs s) code.Chain (λ x ls. script.form s (λ g call owner env. CodeKind-F.Chain (at env (x.sees g call owner)) (map (λ l. l g call owner) ls))) (λ a b c d r r'. form.chained_alike all xs s a b c d r r') (e.1 xs locals scope h (one_of xs locals scope (expr_told e.0).found rest u))
      (list_good all tops (λ xs locals. OperatorAlike all xs) link_made link_told links xs locals scope h (two_of xs locals scope (expr_told e.0).found rest u))
  kind_good (ExprKind-F.Not e) s xs locals scope h u = by_one all tops (KindAlike all xs s) code.Not (λ x. script.form s (λ g call owner env. CodeKind-F.Not (at env (x.sees g call owner)))) (form.not_alike all xs s) (e.1 xs locals scope h u)
  kind_good (ExprKind-F.Minus e) s xs locals scope h u = by_one all tops (KindAlike all xs s) code.Minus (λ x. script.form s (λ g call owner env. CodeKind-F.Minus (at env (x.sees g call owner)))) (form.minus_alike all xs s) (e.1 xs locals scope h u)
  kind_good (ExprKind-F.Choose a b c) s xs locals scope h u =
      let front : Found = uses.followed (expr_told a.0).found (expr_told b.0).found in
      let v : UsesTell xs locals (front scope) = one_of xs locals scope front (expr_told c.0).found u in
      three_agree (IsFront all) (AreAlike all) (SeenAlike all xs) (SeenAlike all xs) (SeenAlike all xs) (KindAlike all xs s) code.Choose (λ x y z. script.form s (λ g call owner env. CodeKind-F.Choose (at env (x.sees g call owner)) (at env (y.sees g call owner)) (at env (z.sees g call owner)))) _ _ _ _ _ _ (form.choose_alike all xs s)
      (a.1 xs locals scope h (one_of xs locals scope (expr_told a.0).found (expr_told b.0).found v)) (b.1 xs locals scope h (two_of xs locals scope (expr_told a.0).found (expr_told b.0).found v)) (c.1 xs locals scope h (two_of xs locals scope front (expr_told c.0).found u))
  kind_good (ExprKind-F.Member e word) s xs locals scope h u = by_one all tops (KindAlike all xs s) (λ x. code.Member x (property tops word)) (λ x. script.form s (λ g call owner env. CodeKind-F.Member (at env (x.sees g call owner)) (property tops word))) (form.member_alike all xs s (property tops word)) (e.1 xs locals scope h u)
  kind_good (ExprKind-F.Index a b) s xs locals scope h u =
      by_two all tops (KindAlike all xs s) code.Index (λ x y. script.form s (λ g call owner env. CodeKind-F.Index (at env (x.sees g call owner)) (at env (y.sees g call owner)))) (form.indexed_alike all xs s) (a.1 xs locals scope h (one_of xs locals scope (expr_told a.0).found (expr_told b.0).found u)) (b.1 xs locals scope h (two_of xs locals scope (expr_told a.0).found (expr_told b.0).found u))
  kind_good (ExprKind-F.Call e args) s xs locals scope h u =
      let rest : Found = uses.in_turn (all_found (map expr_told (map (λ p. p.0) args))) in
      call_good all tops xs s _ _ _ _ (e.1 xs locals scope h (one_of xs locals scope (expr_told e.0).found rest u)) (list_good all tops ExprR expr_made expr_told args xs locals scope h (two_of xs locals scope (expr_told e.0).found rest u))

  entry_good : (y : Entry-F KBody KEntry KKind KField KStmtKind KArm KDecl KExpr KLink KStmt) → EntryGood (lower.entry (done_entry (bare_entry y))) (script.entry (seen_entry (bare_entry y)))
  entry_good (Entry-F.One e) xs locals scope h u = by_one all tops (ItemAlike all xs) item_code.One (λ x g call owner s made env w. item_step {E = Unit {0}} (CodeItem-F.One (at env (x.sees g call owner))) s made env w) (form.item_alike all xs) (e.1 xs locals scope h u)
  entry_good (Entry-F.«Entry::Spread» e) xs locals scope h u = by_one all tops (ItemAlike all xs) item_code.Spread (λ x g call owner s made env w. item_step {E = Unit {0}} (CodeItem-F.«CodeItem::Spread» (at env (x.sees g call owner))) s made env w) (form.items_alike all xs) (e.1 xs locals scope h u)

  field_good : (y : Field-F KBody KEntry KKind KField KStmtKind KArm KDecl KExpr KLink KStmt) → FieldGood (lower.field (done_field (bare_field y))) (script.field (seen_field (bare_field y)))
  field_good (Field-F.Pair key e) xs locals scope h u = by_one all tops (FieldAlike all xs) (field_code.Pair key) (λ x g call owner s made env w. field_step {E = Unit {0}} (CodeField-F.Pair key (at env (x.sees g call owner))) s made env w) (form.field_alike all xs key) (e.1 xs locals scope h u)
  field_good (Field-F.«Field::Spread» e) xs locals scope h u = by_one all tops (FieldAlike all xs) field_code.Spread (λ x g call owner s made env w. field_step {E = Unit {0}} (CodeField-F.«CodeField::Spread» (at env (x.sees g call owner))) s made env w) (form.fields_alike all xs) (e.1 xs locals scope h u)

  link_good : (y : Link-F KBody KEntry KKind KField KStmtKind KArm KDecl KExpr KLink KStmt) → LinkGood (lower.link (done_link (bare_link y))) (script.link (seen_link (bare_link y)))
  link_good y xs locals scope h u = by_one all tops (OperatorAlike all xs) (linked y.op) (links y.op) (form.operator_alike all xs y.op) (y.right.1 xs locals scope h u)

  expr_good : (y : Expr-F KBody KEntry KKind KField KStmtKind KArm KDecl KExpr KLink KStmt) → ExprGood (lower.expr (done_expr (bare_expr y))) (script.expr (seen_expr (bare_expr y)))
  expr_good y xs locals scope h u = by_one all tops (SeenAlike all xs) (coded y.span) (script.stepped y.span) (form.stepped all xs y.span) (y.kind.1 y.span xs locals scope h u)

  body_good : (y : Body-F KBody KEntry KKind KField KStmtKind KArm KDecl KExpr KLink KStmt) → BodyGood (lower.body (done_body (bare_body y))) (script.body (seen_body (bare_body y)))
  body_good (Body-F.Value e) xs locals scope h u = by_one all tops (BodyAlike all xs) body_code.Value (λ x. Gives (λ g call owner. does (x.sees g call owner))) (line.gives_alike all xs locals) (e.1 xs locals scope h u)
  body_good (Body-F.«Body::Block» stmts) xs locals scope h u = by_one all tops (BodyAlike all xs) body_code.Block (λ ls. Runs (in_turn ls)) (line.runs_alike all xs locals) (parts_good all tops LineR stmt_made stmt_told stmts xs locals scope h u)

  arm_good : (y : Arm-F KBody KEntry KKind KField KStmtKind KArm KDecl KExpr KLink KStmt) → ArmGood (lower.arm (done_arm (bare_arm y))) (script.arm (seen_arm (bare_arm y)))
  arm_good y xs locals scope h u =
      by_two all tops (BranchAlike all xs) branch_code branch_told (line.branch_alike all xs locals) (y.test.1 xs locals scope h (one_of xs locals scope (expr_told y.test.0).found (stmt_told y.body.0).found.uses u)) (y.body.1 xs locals scope h (two_of xs locals scope (expr_told y.test.0).found (stmt_told y.body.0).found.uses u))

  abbrev decl_coded : List Ref → Named → Option Code → CodeDecl
  decl_coded locals name c = record { name = name; target = known_at tops locals (Plain name.name); store = store_of (known_at tops locals (Plain name.name)) (known_at tops locals (Store name.name)); first = c }

  abbrev decl_seen : Named → Option Seen → Acts Declared
  decl_seen name x g call owner = record {
    name = name;
    target = known_or (known_in tops.known (Plain name.name)) (Plain name.name);
    store = store_of (known_or (known_in tops.known (Plain name.name)) (Plain name.name)) (known_or (known_in tops.known (Store name.name)) (Store name.name));
    first = value_if x g call owner;
  }

  top_same : (locals : List Ref) (name : Ref) → has name locals ≡ false → known_at tops locals name ≡ known_or (known_in tops.known name) name
  top_same locals name e = ap (λ b. if b then known.Local (name_of name) else known_or (known_in tops.known name) name) e

  decl_with : (name : Named) (m : Lowers (Option Code)) (v : Finds (Option Seen)) (xs : List ℕ) (locals scope : List Ref) → Stands xs locals scope → Agrees all (Perhaps (SeenAlike all xs)) (m tops locals) (v tops locals)
      → Agrees all (DeclaredAlike all xs locals) (λ s. (decl_coded locals name (m tops locals s).0, (m tops locals s).1)) (λ t. (decl_seen name (v tops locals t).0, (v tops locals t).1))
  decl_with name m v xs locals scope h r =
      by_one all tops (DeclaredAlike all xs locals) (decl_coded locals name) (decl_seen name)
      (line.declared_alike all xs locals name (known_at tops locals (Plain name.name)) (known_at tops locals (Store name.name)) (known_or (known_in tops.known (Plain name.name)) (Plain name.name)) (known_or (known_in tops.known (Store name.name)) (Store name.name))
      (λ v. decl_gives xs name.name v tops locals scope own h) (top_same locals (Plain name.name)) (top_same locals (Store name.name) (h.plain name.name))) r

  first_good : (name : Named) (first : Option KExpr) → DeclGood (lower.decl (done_decl (bare_decl (record { name = name; first = first })))) (script.decl (seen_decl (bare_decl (record { name = name; first = first }))))
  first_good name None xs locals scope h u = decl_with name (given None) (given None) xs locals scope h (by_just all tops (Perhaps (SeenAlike all xs)) None None tt)
  first_good name (Some e) xs locals scope h u =
      decl_with name (given (Some (expr_made e.0).makes)) (given (Some (expr_told e.0).means)) xs locals scope h (by_one all tops (Perhaps (SeenAlike all xs)) Some Some (λ a b r. r) (e.1 xs locals scope h u))

  decl_good : (y : Decl-F KBody KEntry KKind KField KStmtKind KArm KDecl KExpr KLink KStmt) → DeclGood (lower.decl (done_decl (bare_decl y))) (script.decl (seen_decl (bare_decl y)))
  decl_good y = first_good y.name y.first

  -- ---- statements

  block_good : (stmts : List KStmt) → (parts : Parts) → parts ≡ together (all_found (map stmt_told (map (λ p. p.0) stmts))) → Each IsPlain (together (all_found (map stmt_told (map (λ p. p.0) stmts)))).declares → (xs : List ℕ) (locals scope : List Ref) → Stands xs locals scope
      → UsesTell xs locals (uses.inside [] (together (all_found (map stmt_told (map (λ p. p.0) stmts)))) scope)
      → Agrees all (FormAlike all xs locals) (lower.block parts (each (lower.all (map stmt_made (map (λ p. p.0) stmts)))) tops locals)
      (script.block (scope_of [] (together (all_found (map stmt_told (map (λ p. p.0) stmts))))) (each (script.all (map stmt_told (map (λ p. p.0) stmts)))) tops locals)
  block_good stmts parts same plain xs locals scope h u =
      let own_parts : Parts = together (all_found (map stmt_told (map (λ p. p.0) stmts))) in
      let new : List Ref = firsts own_parts.declares in
      let i = inner xs _ locals scope own_parts.declares new (own_parts.uses (with_names scope own_parts.declares)) (block_among own_parts plain) (λ n. has_firsts n own_parts.declares) h u in
      subst (λ z. Agrees all (FormAlike all xs locals) (lower.block z (each (lower.all (map stmt_made (map (λ p. p.0) stmts)))) tops locals) (script.block (scope_of [] own_parts) (each (script.all (map stmt_told (map (λ p. p.0) stmts)))) tops locals)) (sym same)
      (by_one all tops (FormAlike all xs locals) (stmt_code.Block (map name_of new)) (λ ls. acting (λ g call owner s. scoped (opened (map name_of new)) (in_turn ls g call owner))) (line.block_alike all xs locals new) (parts_good all tops LineR stmt_made stmt_told stmts _ (new ++ locals) (with_names scope own_parts.declares) i.stands i.used))

  for_good : (first : Option KStmt) (test next : Option KExpr) (turn : KStmt) (names : List Ref) → names ≡ firsts (optional (perhaps_found (option_map stmt_told (option_map (λ p. p.0) first)))).declares → (xs : List ℕ) (locals scope : List Ref) → Stands xs locals scope
      → UsesTell xs locals (uses.for_head (optional (perhaps_found (option_map stmt_told (option_map (λ p. p.0) first)))) (uses.given (perhaps_found (option_map expr_told (option_map (λ p. p.0) test)))) (uses.given (perhaps_found (option_map expr_told (option_map (λ p. p.0) next)))) (stmt_told turn.0).found.uses scope)
      → Agrees all (FormAlike all xs locals)
      (lower.for_code names (given (lower.perhaps (option_map stmt_made (option_map (λ p. p.0) first)))) (given (lower.perhaps (option_map expr_made (option_map (λ p. p.0) test)))) (given (lower.perhaps (option_map expr_made (option_map (λ p. p.0) next)))) (stmt_made turn.0).makes tops locals)
      (script.for_means (firsts (optional (perhaps_found (option_map stmt_told (option_map (λ p. p.0) first)))).declares) (given (script.perhaps (option_map stmt_told (option_map (λ p. p.0) first)))) (given (script.perhaps (option_map expr_told (option_map (λ p. p.0) test)))) (given (script.perhaps (option_map expr_told (option_map (λ p. p.0) next)))) (stmt_told turn.0).means tops locals)
  for_good first test next turn names same xs locals scope h u =
      let head : Parts = optional (perhaps_found (option_map stmt_told (option_map (λ p. p.0) first))) in
      let a : Found = uses.given (perhaps_found (option_map expr_told (option_map (λ p. p.0) test))) in
      let b : Found = uses.given (perhaps_found (option_map expr_told (option_map (λ p. p.0) next))) in
      let c : Found = (stmt_told turn.0).found.uses in
      let new : List Ref = firsts head.declares in
      let more : List Ref = with_names scope head.declares in
      let parts : Parts = record { declares = head.declares; uses = uses.turns head.uses a b c } in
      let i = inner xs _ locals scope head.declares new (uses.turns head.uses a b c more) (block_among parts (first_plain (option_map (λ p. p.0) first))) (λ n. has_firsts n head.declares) h u in
      let u1 = one_of _ (new ++ locals) more (uses.followed (uses.followed head.uses a) b) c i.used in
      let u2 = one_of _ (new ++ locals) more (uses.followed head.uses a) b u1 in
      subst (λ z. Agrees all (FormAlike all xs locals)
      (lower.for_code z (given (lower.perhaps (option_map stmt_made (option_map (λ p. p.0) first)))) (given (lower.perhaps (option_map expr_made (option_map (λ p. p.0) test)))) (given (lower.perhaps (option_map expr_made (option_map (λ p. p.0) next)))) (stmt_made turn.0).makes tops locals)
      (script.for_means new (given (script.perhaps (option_map stmt_told (option_map (λ p. p.0) first)))) (given (script.perhaps (option_map expr_told (option_map (λ p. p.0) test)))) (given (script.perhaps (option_map expr_told (option_map (λ p. p.0) next)))) (stmt_told turn.0).means tops locals)) (sym same)
      (four_agree (IsFront all) (AreAlike all) _ _ _ _ (FormAlike all xs locals) (stmt_code.For (map name_of new)) (λ a b c l. acting (λ g call owner s. for_step s (opened (map name_of new)) (line_if a g call owner) (value_if b g call owner) (value_if c g call owner) (runs (l g call owner)))) _ _ _ _ _ _ _ _ (line.for_turns_alike all xs locals new)
      (part_good all tops LineR stmt_made stmt_told first _ (new ++ locals) more i.stands (one_of _ (new ++ locals) more head.uses a u2)) (maybe_good all tops ExprR expr_made expr_told test _ (new ++ locals) more i.stands (two_of _ (new ++ locals) more head.uses a u2))
      (maybe_good all tops ExprR expr_made expr_told next _ (new ++ locals) more i.stands (two_of _ (new ++ locals) more (uses.followed head.uses a) b u1)) (turn.1 _ (new ++ locals) more i.stands (two_of _ (new ++ locals) more (uses.followed (uses.followed head.uses a) b) c i.used)))

  stmt_kind_good : (y : StmtKind-F KBody KEntry KKind KField KStmtKind KArm KDecl KExpr KLink KStmt) → StmtKindGood (lower.stmt_kind (done_stmt_kind (bare_stmt_kind y))) (script.stmt_kind (seen_stmt_kind (bare_stmt_kind y)))
  stmt_kind_good StmtKind-F.Empty s xs locals scope h u = by_just all tops (FormAlike all xs locals) _ _ (line.empty_alike all xs locals)
  stmt_kind_good (StmtKind-F.«StmtKind::Block» stmts) s xs locals scope h u = block_good stmts _ (stmts_same (map (λ p. p.0) stmts)) (all_plain (map (λ p. p.0) stmts)) xs locals scope h u
  stmt_kind_good (StmtKind-F.Let decls) s xs locals scope h u = by_one all tops (FormAlike all xs locals) stmt_code.Let declaring (line.let_alike all xs locals) (parts_good all tops (λ xs locals. DeclaredAlike all xs locals) decl_made decl_told decls xs locals scope h u)
  stmt_kind_good (StmtKind-F.Const decls exported) s xs locals scope h u =
      by_one all tops (FormAlike all xs locals) (λ ds. stmt_code.Const ds exported) declaring (line.const_alike all xs locals exported) (parts_good all tops (λ xs locals. DeclaredAlike all xs locals) decl_made decl_told decls xs locals scope h u)
  stmt_kind_good (StmtKind-F.If arms None) s xs locals scope h u =
      let none : Option KStmt = None in
      let rest : Parts = optional (perhaps_found (option_map stmt_told (option_map (λ p. p.0) none))) in
      let front : Found = uses.in_turn (all_found (map arm_told (map (λ p. p.0) arms))) in
      by_two all tops (FormAlike all xs locals) stmt_code.If (λ bs l. acting (λ g call owner s. first_of (map (λ b. b g call owner) bs) (line_if l g call owner))) (line.if_alike all xs locals) (list_good all tops (λ xs locals. BranchAlike all xs) arm_made arm_told arms xs locals scope h (one_of xs locals scope front rest.uses u))
      (part_good all tops LineR stmt_made stmt_told none xs locals scope h (two_of xs locals scope front rest.uses u))
  stmt_kind_good (StmtKind-F.If arms (Some last)) s xs locals scope h u =
      let some : Option KStmt = Some last in
      let rest : Parts = optional (perhaps_found (option_map stmt_told (option_map (λ p. p.0) some))) in
      let front : Found = uses.in_turn (all_found (map arm_told (map (λ p. p.0) arms))) in
      by_two all tops (FormAlike all xs locals) stmt_code.If (λ bs l. acting (λ g call owner s. first_of (map (λ b. b g call owner) bs) (line_if l g call owner))) (line.if_alike all xs locals) (list_good all tops (λ xs locals. BranchAlike all xs) arm_made arm_told arms xs locals scope h (one_of xs locals scope front rest.uses u))
      (part_good all tops LineR stmt_made stmt_told some xs locals scope h (two_of xs locals scope front rest.uses u))
  stmt_kind_good (StmtKind-F.While test turn) s xs locals scope h u =
      by_two all tops (FormAlike all xs locals) stmt_code.While (λ x l. acting (λ g call owner s. loop s (Some (does (x.sees g call owner))) None (runs (l g call owner)))) (line.while_alike all xs locals) (test.1 xs locals scope h (one_of xs locals scope (expr_told test.0).found (stmt_told turn.0).found.uses u)) (turn.1 xs locals scope h (two_of xs locals scope (expr_told test.0).found (stmt_told turn.0).found.uses u))
  stmt_kind_good (StmtKind-F.For None None None turn) s xs locals scope h u = for_good None None None turn _ (first_same None) xs locals scope h u
  stmt_kind_good (StmtKind-F.For None None (Some next) turn) s xs locals scope h u = for_good None None (Some next) turn _ (first_same None) xs locals scope h u
  stmt_kind_good (StmtKind-F.For None (Some test) None turn) s xs locals scope h u = for_good None (Some test) None turn _ (first_same None) xs locals scope h u
  stmt_kind_good (StmtKind-F.For None (Some test) (Some next) turn) s xs locals scope h u = for_good None (Some test) (Some next) turn _ (first_same None) xs locals scope h u
  stmt_kind_good (StmtKind-F.For (Some first) None None turn) s xs locals scope h u = for_good (Some first) None None turn _ (first_same (Some first.0)) xs locals scope h u
  stmt_kind_good (StmtKind-F.For (Some first) None (Some next) turn) s xs locals scope h u = for_good (Some first) None (Some next) turn _ (first_same (Some first.0)) xs locals scope h u
  stmt_kind_good (StmtKind-F.For (Some first) (Some test) None turn) s xs locals scope h u = for_good (Some first) (Some test) None turn _ (first_same (Some first.0)) xs locals scope h u
  stmt_kind_good (StmtKind-F.For (Some first) (Some test) (Some next) turn) s xs locals scope h u = for_good (Some first) (Some test) (Some next) turn _ (first_same (Some first.0)) xs locals scope h u
  stmt_kind_good (StmtKind-F.Each x fixed list turn) s xs locals scope h u =
      let more : List Ref = with_names scope (named x ∷ []) in
      let i = inner xs (x.name.0 ∷ []) locals scope (named x ∷ []) (named x ∷ []) (uses.followed (expr_told list.0).found (stmt_told turn.0).found.uses more) (among_params (x ∷ [])) (λ n. refl) h u in
      by_two all tops (FormAlike all xs locals) (stmt_code.Each x fixed) (λ e l. acting (λ g call owner s. each_step s x.name (does (e.sees g call owner)) (runs (l g call owner)))) (line.each_turns_alike all xs locals x fixed) (list.1 _ (named x ∷ locals) more i.stands (one_of _ (named x ∷ locals) more (expr_told list.0).found (stmt_told turn.0).found.uses i.used))
      (turn.1 _ (named x ∷ locals) more i.stands (two_of _ (named x ∷ locals) more (expr_told list.0).found (stmt_told turn.0).found.uses i.used))
  stmt_kind_good StmtKind-F.Break s xs locals scope h u = by_just all tops (FormAlike all xs locals) _ _ (line.break_alike all xs locals)
  stmt_kind_good StmtKind-F.Continue s xs locals scope h u = by_just all tops (FormAlike all xs locals) _ _ (line.continue_alike all xs locals)
  stmt_kind_good (StmtKind-F.Return None) s xs locals scope h u = by_one all tops (FormAlike all xs locals) stmt_code.Return (λ x. acting (λ g call owner s env w. and_then (value_or (value_if x g call owner) env w) (λ v. Done (Returned v)))) (line.return_alike all xs locals) (maybe_good all tops ExprR expr_made expr_told None xs locals scope h u)
  stmt_kind_good (StmtKind-F.Return (Some e)) s xs locals scope h u = by_one all tops (FormAlike all xs locals) stmt_code.Return (λ x. acting (λ g call owner s env w. and_then (value_or (value_if x g call owner) env w) (λ v. Done (Returned v)))) (line.return_alike all xs locals) (maybe_good all tops ExprR expr_made expr_told (Some e) xs locals scope h u)
  stmt_kind_good (StmtKind-F.Eval e) s xs locals scope h u = by_one all tops (FormAlike all xs locals) stmt_code.Eval (λ x. acting (λ g call owner s env w. and_then (does (x.sees g call owner) env w) (λ v. Done Next))) (line.eval_alike all xs locals) (e.1 xs locals scope h u)
  stmt_kind_good (StmtKind-F.Import i) s xs locals scope h u = by_just all tops (FormAlike all xs locals) _ _ (line.import_alike all xs locals i)
  stmt_kind_good (StmtKind-F.Export decls) s xs locals scope h u = by_one all tops (FormAlike all xs locals) stmt_code.Export declaring (line.export_alike all xs locals) (parts_good all tops (λ xs locals. DeclaredAlike all xs locals) decl_made decl_told decls xs locals scope h u)
  stmt_kind_good (StmtKind-F.React of) s xs locals scope h u = by_one all tops (FormAlike all xs locals) stmt_code.React (λ l g call owner. Reacting (runs (l g call owner))) (line.react_alike all xs locals) (of.1 xs locals scope h u)
  stmt_kind_good (StmtKind-F.Func name exported ps stmts) s xs locals scope h u =
      by_one all tops (FormAlike all xs locals) (stmt_code.Function name exported (known_at tops locals (named name))) (λ f g call owner. Naming (known_or (known_in tops.known (named name)) (named name)) f.0) (line.function_alike all xs locals name exported (known_at tops locals (named name)) (known_or (known_in tops.known (named name)) (named name)) (top_same locals (named name)))
      (function_good all tops s ps _ (together (all_found (map stmt_told (map (λ p. p.0) stmts)))) (stmts_same (map (λ p. p.0) stmts)) (all_plain (map (λ p. p.0) stmts)) (of_one body_code.Block (each (lower.all (map stmt_made (map (λ p. p.0) stmts))))) (of_one (λ ls. Runs (in_turn ls)) (each (script.all (map stmt_told (map (λ p. p.0) stmts)))))
      (λ xs locals scope h u. by_one all tops (BodyAlike all xs) body_code.Block (λ ls. Runs (in_turn ls)) (line.runs_alike all xs locals) (parts_good all tops LineR stmt_made stmt_told stmts xs locals scope h u)) xs locals scope h)

  stmt_good : (y : Stmt-F KBody KEntry KKind KField KStmtKind KArm KDecl KExpr KLink KStmt) → StmtGood (lower.stmt (done_stmt (bare_stmt y))) (script.stmt (seen_stmt (bare_stmt y)))
  stmt_good y xs locals scope h u = by_one all tops (LineAlike all xs locals) (line_coded y.span) (line_told y.span) (line.line_alike all xs locals y.span) (y.kind.1 y.span xs locals scope h u)

  -- ---- whole trees

  body_whole : (x : Body-F AnyBody Entry ExprKind Field StmtKind AnyArm Decl Tree AnyLink Stmt) (y : Body-F KBody KEntry KKind KField KStmtKind KArm KDecl KExpr KLink KStmt) → bare_body y ≡ x → ClaimBody (roll-Body x)
  body_whole x y e = subst₂ BodyGood (sym (fold-roll-Body BodyMade EntryMade KindMade FieldMade StmtKindMade ArmMade DeclMade ExprMade LinkMade StmtMade lower.body lower.entry lower.expr_kind lower.field lower.stmt_kind lower.arm lower.decl lower.expr lower.link lower.stmt x)) (sym (fold-roll-Body BodyTold EntryTold KindTold FieldTold StmtKindTold ArmTold DeclTold ExprTold LinkTold StmtTold script.body script.entry script.expr_kind script.field script.stmt_kind script.arm script.decl script.expr script.link script.stmt x)) (subst (λ z. BodyGood (lower.body (done_body z)) (script.body (seen_body z))) e (body_good y))

  entry_whole : (x : Entry-F AnyBody Entry ExprKind Field StmtKind AnyArm Decl Tree AnyLink Stmt) (y : Entry-F KBody KEntry KKind KField KStmtKind KArm KDecl KExpr KLink KStmt) → bare_entry y ≡ x → ClaimEntry (roll-Entry x)
  entry_whole x y e = subst₂ EntryGood (sym (fold-roll-Entry BodyMade EntryMade KindMade FieldMade StmtKindMade ArmMade DeclMade ExprMade LinkMade StmtMade lower.body lower.entry lower.expr_kind lower.field lower.stmt_kind lower.arm lower.decl lower.expr lower.link lower.stmt x)) (sym (fold-roll-Entry BodyTold EntryTold KindTold FieldTold StmtKindTold ArmTold DeclTold ExprTold LinkTold StmtTold script.body script.entry script.expr_kind script.field script.stmt_kind script.arm script.decl script.expr script.link script.stmt x)) (subst (λ z. EntryGood (lower.entry (done_entry z)) (script.entry (seen_entry z))) e (entry_good y))

  kind_whole : (x : ExprKind-F AnyBody Entry ExprKind Field StmtKind AnyArm Decl Tree AnyLink Stmt) (y : ExprKind-F KBody KEntry KKind KField KStmtKind KArm KDecl KExpr KLink KStmt) → bare_kind y ≡ x → ClaimKind (roll-ExprKind x)
  kind_whole x y e = subst₂ KindGood (sym (fold-roll-ExprKind BodyMade EntryMade KindMade FieldMade StmtKindMade ArmMade DeclMade ExprMade LinkMade StmtMade lower.body lower.entry lower.expr_kind lower.field lower.stmt_kind lower.arm lower.decl lower.expr lower.link lower.stmt x)) (sym (fold-roll-ExprKind BodyTold EntryTold KindTold FieldTold StmtKindTold ArmTold DeclTold ExprTold LinkTold StmtTold script.body script.entry script.expr_kind script.field script.stmt_kind script.arm script.decl script.expr script.link script.stmt x)) (subst (λ z. KindGood (lower.expr_kind (done_kind z)) (script.expr_kind (seen_kind z))) e (kind_good y))

  field_whole : (x : Field-F AnyBody Entry ExprKind Field StmtKind AnyArm Decl Tree AnyLink Stmt) (y : Field-F KBody KEntry KKind KField KStmtKind KArm KDecl KExpr KLink KStmt) → bare_field y ≡ x → ClaimField (roll-Field x)
  field_whole x y e = subst₂ FieldGood (sym (fold-roll-Field BodyMade EntryMade KindMade FieldMade StmtKindMade ArmMade DeclMade ExprMade LinkMade StmtMade lower.body lower.entry lower.expr_kind lower.field lower.stmt_kind lower.arm lower.decl lower.expr lower.link lower.stmt x)) (sym (fold-roll-Field BodyTold EntryTold KindTold FieldTold StmtKindTold ArmTold DeclTold ExprTold LinkTold StmtTold script.body script.entry script.expr_kind script.field script.stmt_kind script.arm script.decl script.expr script.link script.stmt x)) (subst (λ z. FieldGood (lower.field (done_field z)) (script.field (seen_field z))) e (field_good y))

  stmt_kind_whole : (x : StmtKind-F AnyBody Entry ExprKind Field StmtKind AnyArm Decl Tree AnyLink Stmt) (y : StmtKind-F KBody KEntry KKind KField KStmtKind KArm KDecl KExpr KLink KStmt) → bare_stmt_kind y ≡ x → ClaimStmtKind (roll-StmtKind x)
  stmt_kind_whole x y e = subst₂ StmtKindGood (sym (fold-roll-StmtKind BodyMade EntryMade KindMade FieldMade StmtKindMade ArmMade DeclMade ExprMade LinkMade StmtMade lower.body lower.entry lower.expr_kind lower.field lower.stmt_kind lower.arm lower.decl lower.expr lower.link lower.stmt x)) (sym (fold-roll-StmtKind BodyTold EntryTold KindTold FieldTold StmtKindTold ArmTold DeclTold ExprTold LinkTold StmtTold script.body script.entry script.expr_kind script.field script.stmt_kind script.arm script.decl script.expr script.link script.stmt x)) (subst (λ z. StmtKindGood (lower.stmt_kind (done_stmt_kind z)) (script.stmt_kind (seen_stmt_kind z))) e (stmt_kind_good y))

  arm_whole : (x : Arm-F AnyBody Entry ExprKind Field StmtKind AnyArm Decl Tree AnyLink Stmt) (y : Arm-F KBody KEntry KKind KField KStmtKind KArm KDecl KExpr KLink KStmt) → bare_arm y ≡ x → ClaimArm (roll-Arm x)
  arm_whole x y e = subst₂ ArmGood (sym (fold-roll-Arm BodyMade EntryMade KindMade FieldMade StmtKindMade ArmMade DeclMade ExprMade LinkMade StmtMade lower.body lower.entry lower.expr_kind lower.field lower.stmt_kind lower.arm lower.decl lower.expr lower.link lower.stmt x)) (sym (fold-roll-Arm BodyTold EntryTold KindTold FieldTold StmtKindTold ArmTold DeclTold ExprTold LinkTold StmtTold script.body script.entry script.expr_kind script.field script.stmt_kind script.arm script.decl script.expr script.link script.stmt x)) (subst (λ z. ArmGood (lower.arm (done_arm z)) (script.arm (seen_arm z))) e (arm_good y))

  decl_whole : (x : Decl-F AnyBody Entry ExprKind Field StmtKind AnyArm Decl Tree AnyLink Stmt) (y : Decl-F KBody KEntry KKind KField KStmtKind KArm KDecl KExpr KLink KStmt) → bare_decl y ≡ x → ClaimDecl (roll-Decl x)
  decl_whole x y e = subst₂ DeclGood (sym (fold-roll-Decl BodyMade EntryMade KindMade FieldMade StmtKindMade ArmMade DeclMade ExprMade LinkMade StmtMade lower.body lower.entry lower.expr_kind lower.field lower.stmt_kind lower.arm lower.decl lower.expr lower.link lower.stmt x)) (sym (fold-roll-Decl BodyTold EntryTold KindTold FieldTold StmtKindTold ArmTold DeclTold ExprTold LinkTold StmtTold script.body script.entry script.expr_kind script.field script.stmt_kind script.arm script.decl script.expr script.link script.stmt x)) (subst (λ z. DeclGood (lower.decl (done_decl z)) (script.decl (seen_decl z))) e (decl_good y))

  expr_whole : (x : Expr-F AnyBody Entry ExprKind Field StmtKind AnyArm Decl Tree AnyLink Stmt) (y : Expr-F KBody KEntry KKind KField KStmtKind KArm KDecl KExpr KLink KStmt) → bare_expr y ≡ x → ClaimExpr (roll-Expr x)
  expr_whole x y e = subst₂ ExprGood (sym (fold-roll-Expr BodyMade EntryMade KindMade FieldMade StmtKindMade ArmMade DeclMade ExprMade LinkMade StmtMade lower.body lower.entry lower.expr_kind lower.field lower.stmt_kind lower.arm lower.decl lower.expr lower.link lower.stmt x)) (sym (fold-roll-Expr BodyTold EntryTold KindTold FieldTold StmtKindTold ArmTold DeclTold ExprTold LinkTold StmtTold script.body script.entry script.expr_kind script.field script.stmt_kind script.arm script.decl script.expr script.link script.stmt x)) (subst (λ z. ExprGood (lower.expr (done_expr z)) (script.expr (seen_expr z))) e (expr_good y))

  link_whole : (x : Link-F AnyBody Entry ExprKind Field StmtKind AnyArm Decl Tree AnyLink Stmt) (y : Link-F KBody KEntry KKind KField KStmtKind KArm KDecl KExpr KLink KStmt) → bare_link y ≡ x → ClaimLink (roll-Link x)
  link_whole x y e = subst₂ LinkGood (sym (fold-roll-Link BodyMade EntryMade KindMade FieldMade StmtKindMade ArmMade DeclMade ExprMade LinkMade StmtMade lower.body lower.entry lower.expr_kind lower.field lower.stmt_kind lower.arm lower.decl lower.expr lower.link lower.stmt x)) (sym (fold-roll-Link BodyTold EntryTold KindTold FieldTold StmtKindTold ArmTold DeclTold ExprTold LinkTold StmtTold script.body script.entry script.expr_kind script.field script.stmt_kind script.arm script.decl script.expr script.link script.stmt x)) (subst (λ z. LinkGood (lower.link (done_link z)) (script.link (seen_link z))) e (link_good y))

  stmt_whole : (x : Stmt-F AnyBody Entry ExprKind Field StmtKind AnyArm Decl Tree AnyLink Stmt) (y : Stmt-F KBody KEntry KKind KField KStmtKind KArm KDecl KExpr KLink KStmt) → bare_stmt y ≡ x → ClaimStmt (roll-Stmt x)
  stmt_whole x y e = subst₂ StmtGood (sym (fold-roll-Stmt BodyMade EntryMade KindMade FieldMade StmtKindMade ArmMade DeclMade ExprMade LinkMade StmtMade lower.body lower.entry lower.expr_kind lower.field lower.stmt_kind lower.arm lower.decl lower.expr lower.link lower.stmt x)) (sym (fold-roll-Stmt BodyTold EntryTold KindTold FieldTold StmtKindTold ArmTold DeclTold ExprTold LinkTold StmtTold script.body script.entry script.expr_kind script.field script.stmt_kind script.arm script.decl script.expr script.link script.stmt x)) (subst (λ z. StmtGood (lower.stmt (done_stmt z)) (script.stmt (seen_stmt z))) e (stmt_good y))

  pub expr_means : (x : Tree) → ExprGood (expr_made x) (expr_told x)
  expr_means = ind-Expr ClaimBody ClaimEntry ClaimKind ClaimField ClaimStmtKind ClaimArm ClaimDecl ClaimExpr ClaimLink ClaimStmt body_whole entry_whole kind_whole field_whole stmt_kind_whole arm_whole decl_whole expr_whole link_whole stmt_whole

  pub stmt_means : (x : Stmt) → StmtGood (stmt_made x) (stmt_told x)
  stmt_means = ind-Stmt ClaimBody ClaimEntry ClaimKind ClaimField ClaimStmtKind ClaimArm ClaimDecl ClaimExpr ClaimLink ClaimStmt body_whole entry_whole kind_whole field_whole stmt_kind_whole arm_whole decl_whole expr_whole link_whole stmt_whole
