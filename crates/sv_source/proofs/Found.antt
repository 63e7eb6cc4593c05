-- What is told of a tree goes with what is found in it: an induction over trees, a line a form. And no scope of a script declares a store name.
use Rattle.std.proofs.Common.{◌≡◌, List, [], ◌∷◌, Option, None, Some, map, option_map, refl, sym, ap, ap₂, ◌∙◌, subst}
use Rattle.std.specs.Option.{option_to_list}
use Rattle.sv_ast.specs.declared.script_tree.ImportName.{ImportName}
use Rattle.sv_ast.specs.declared.names.Named.{Named}
use Rattle.sv_ast.specs.declared.script_tree.Body.{Body as AnyBody, Body-F, roll-Body, map-Body, fold-roll-Body, ind-Body}
use Rattle.sv_ast.specs.declared.script_tree.Entry.{Entry, Entry-F, roll-Entry, map-Entry, fold-roll-Entry}
use Rattle.sv_ast.specs.declared.script_tree.ExprKind.{ExprKind, ExprKind-F, roll-ExprKind, map-ExprKind, fold-roll-ExprKind}
use Rattle.sv_ast.specs.declared.script_tree.Field.{Field, Field-F, roll-Field, map-Field, fold-roll-Field}
use Rattle.sv_ast.specs.declared.script_tree.StmtKind.{StmtKind, StmtKind-F, roll-StmtKind, map-StmtKind, fold-roll-StmtKind}
use Rattle.sv_ast.specs.declared.script_tree.Arm.{Arm as AnyArm, Arm-F, roll-Arm, map-Arm, fold-roll-Arm}
use Rattle.sv_ast.specs.declared.script_tree.Decl.{Decl, Decl-F, roll-Decl, map-Decl, fold-roll-Decl}
use Rattle.sv_ast.specs.declared.script_tree.Expr.{Expr as Tree, Expr-F, roll-Expr, map-Expr, fold-roll-Expr, ind-Expr}
use Rattle.sv_ast.specs.declared.script_tree.Link.{Link as AnyLink, Link-F, roll-Link, map-Link, fold-roll-Link}
use Rattle.sv_ast.specs.declared.script_tree.Stmt.{Stmt, Stmt-F, roll-Stmt, map-Stmt, fold-roll-Stmt, ind-Stmt}
use Rattle.sv_code.proofs.Each.{each_append}
use Rattle.sv_code.specs.Names.{Each}
use Rattle.sv_names.specs.Uses.{Found, Parts, named, together, inside, followed, in_turn, given, optional, plain, turns, for_head, for_each, used, assigned, imported, body_parts, entry_uses, kind_uses, field_uses, stmt_kind_parts, arm_uses, decl_parts, expr_uses, link_uses, stmt_parts}
use Rattle.sv_names.specs.Uses as uses
use Rattle.sv_source.specs.Script.{Told, all_found, perhaps_found, BodyTold, EntryTold, KindTold, FieldTold, StmtKindTold, ArmTold, DeclTold, ExprTold, LinkTold, StmtTold, body_told, entry_told, kind_told, field_told, stmt_kind_told, arm_told, decl_told, expr_told, link_told, stmt_told}
use Rattle.sv_source.specs.Script as script
use Rattle.sv_source.specs.Open.{IsPlain}

three : {A B C D : Type 0} (f : A → B → C → D) {a a' : A} {b b' : B} {c c' : C} → a ≡ a' → b ≡ b' → c ≡ c' → f a b c ≡ f a' b' c'
three f {a = a} {b' = b'} {c' = c'} e g h = ap₂ (f a) g h ∙ ap (λ x. f x b' c') e

four : {A B C D E : Type 0} (f : A → B → C → D → E) {a a' : A} {b b' : B} {c c' : C} {d d' : D} → a ≡ a' → b ≡ b' → c ≡ c' → d ≡ d' → f a b c d ≡ f a' b' c' d'
four f {a = a} {b' = b'} {c' = c'} {d' = d'} e g h i = three (f a) g h i ∙ ap (λ x. f x b' c' d') e

-- ---- trees, with what is known of each

record ClaimBody (x : AnyBody) : Type 0 where
  same : (body_told x).found ≡ body_parts x
  bare : Each IsPlain (body_told x).found.declares

abbrev KBody : Type 0
KBody = (x : AnyBody) × ClaimBody x

abbrev ClaimEntry : Entry → Type 0
ClaimEntry x = (entry_told x).found ≡ entry_uses x

abbrev KEntry : Type 0
KEntry = (x : Entry) × ClaimEntry x

abbrev ClaimKind : ExprKind → Type 0
ClaimKind x = (kind_told x).found ≡ kind_uses x

abbrev KKind : Type 0
KKind = (x : ExprKind) × ClaimKind x

abbrev ClaimField : Field → Type 0
ClaimField x = (field_told x).found ≡ field_uses x

abbrev KField : Type 0
KField = (x : Field) × ClaimField x

record ClaimStmtKind (x : StmtKind) : Type 0 where
  same : (stmt_kind_told x).found ≡ stmt_kind_parts x
  bare : Each IsPlain (stmt_kind_told x).found.declares

abbrev KStmtKind : Type 0
KStmtKind = (x : StmtKind) × ClaimStmtKind x

abbrev ClaimArm : AnyArm → Type 0
ClaimArm x = (arm_told x).found ≡ arm_uses x

abbrev KArm : Type 0
KArm = (x : AnyArm) × ClaimArm x

record ClaimDecl (x : Decl) : Type 0 where
  same : (decl_told x).found ≡ decl_parts x
  bare : Each IsPlain (decl_told x).found.declares

abbrev KDecl : Type 0
KDecl = (x : Decl) × ClaimDecl x

abbrev ClaimExpr : Tree → Type 0
ClaimExpr x = (expr_told x).found ≡ expr_uses x

abbrev KExpr : Type 0
KExpr = (x : Tree) × ClaimExpr x

abbrev ClaimLink : AnyLink → Type 0
ClaimLink x = (link_told x).found ≡ link_uses x

abbrev KLink : Type 0
KLink = (x : AnyLink) × ClaimLink x

record ClaimStmt (x : Stmt) : Type 0 where
  same : (stmt_told x).found ≡ stmt_parts x
  bare : Each IsPlain (stmt_told x).found.declares

abbrev KStmt : Type 0
KStmt = (x : Stmt) × ClaimStmt x

-- ---- lists, and what may be absent

each_same : {T M : Type 0} (made : T → Told Found M) (of : T → Found) (xs : List ((x : T) × ((made x).found ≡ of x))) → all_found (map made (map (λ p. p.0) xs)) ≡ map of (map (λ p. p.0) xs)
each_same made of [] = refl
each_same made of (x ∷ xs) = ap₂ (λ y ys. y ∷ ys) x.1 (each_same made of xs)

decls_same : (xs : List KDecl) → all_found (map decl_told (map (λ p. p.0) xs)) ≡ map decl_parts (map (λ p. p.0) xs)
decls_same [] = refl
decls_same (x ∷ xs) = ap₂ (λ y ys. y ∷ ys) x.1.same (decls_same xs)

decls_plain : (xs : List KDecl) → Each IsPlain (together (all_found (map decl_told (map (λ p. p.0) xs)))).declares
decls_plain [] = tt
decls_plain (x ∷ xs) = each_append IsPlain (decl_told x.0).found.declares (together (all_found (map decl_told (map (λ p. p.0) xs)))).declares x.1.bare (decls_plain xs)

stmts_same : (xs : List KStmt) → all_found (map stmt_told (map (λ p. p.0) xs)) ≡ map stmt_parts (map (λ p. p.0) xs)
stmts_same [] = refl
stmts_same (x ∷ xs) = ap₂ (λ y ys. y ∷ ys) x.1.same (stmts_same xs)

stmts_plain : (xs : List KStmt) → Each IsPlain (together (all_found (map stmt_told (map (λ p. p.0) xs)))).declares
stmts_plain [] = tt
stmts_plain (x ∷ xs) = each_append IsPlain (stmt_told x.0).found.declares (together (all_found (map stmt_told (map (λ p. p.0) xs)))).declares x.1.bare (stmts_plain xs)

specs_plain : (specs : List ImportName) → Each IsPlain (map (λ spec. named spec.local) specs)
specs_plain [] = tt
specs_plain (x ∷ specs) = (tt, specs_plain specs)

whole_plain : (whole : Option Named) → Each IsPlain (option_to_list (option_map named whole))
whole_plain None = tt
whole_plain (Some x) = (tt, tt)

abbrev declared : Named → Option Found → Parts
declared name first = record { declares = named name ∷ []; uses = given first }

-- ---- a layer of a tree

abbrev bare_body : Body-F KBody KEntry KKind KField KStmtKind KArm KDecl KExpr KLink KStmt → Body-F AnyBody Entry ExprKind Field StmtKind AnyArm Decl Tree AnyLink Stmt
bare_body = map-Body KBody KEntry KKind KField KStmtKind KArm KDecl KExpr KLink KStmt AnyBody Entry ExprKind Field StmtKind AnyArm Decl Tree AnyLink Stmt (λ p. p.0) (λ p. p.0) (λ p. p.0) (λ p. p.0) (λ p. p.0) (λ p. p.0) (λ p. p.0) (λ p. p.0) (λ p. p.0) (λ p. p.0)

abbrev found_body : Body-F AnyBody Entry ExprKind Field StmtKind AnyArm Decl Tree AnyLink Stmt → Body-F Parts Found Found Found Parts Found Parts Found Found Parts
found_body x = map-Body BodyTold EntryTold KindTold FieldTold StmtKindTold ArmTold DeclTold ExprTold LinkTold StmtTold Parts Found Found Found Parts Found Parts Found Found Parts (λ p. p.found) (λ p. p.found) (λ p. p.found) (λ p. p.found) (λ p. p.found) (λ p. p.found) (λ p. p.found) (λ p. p.found) (λ p. p.found) (λ p. p.found) (map-Body AnyBody Entry ExprKind Field StmtKind AnyArm Decl Tree AnyLink Stmt BodyTold EntryTold KindTold FieldTold StmtKindTold ArmTold DeclTold ExprTold LinkTold StmtTold body_told entry_told kind_told field_told stmt_kind_told arm_told decl_told expr_told link_told stmt_told x)

abbrev uses_body : Body-F AnyBody Entry ExprKind Field StmtKind AnyArm Decl Tree AnyLink Stmt → Body-F Parts Found Found Found Parts Found Parts Found Found Parts
uses_body = map-Body AnyBody Entry ExprKind Field StmtKind AnyArm Decl Tree AnyLink Stmt Parts Found Found Found Parts Found Parts Found Found Parts body_parts entry_uses kind_uses field_uses stmt_kind_parts arm_uses decl_parts expr_uses link_uses stmt_parts

abbrev bare_entry : Entry-F KBody KEntry KKind KField KStmtKind KArm KDecl KExpr KLink KStmt → Entry-F AnyBody Entry ExprKind Field StmtKind AnyArm Decl Tree AnyLink Stmt
bare_entry = map-Entry KBody KEntry KKind KField KStmtKind KArm KDecl KExpr KLink KStmt AnyBody Entry ExprKind Field StmtKind AnyArm Decl Tree AnyLink Stmt (λ p. p.0) (λ p. p.0) (λ p. p.0) (λ p. p.0) (λ p. p.0) (λ p. p.0) (λ p. p.0) (λ p. p.0) (λ p. p.0) (λ p. p.0)

abbrev found_entry : Entry-F AnyBody Entry ExprKind Field StmtKind AnyArm Decl Tree AnyLink Stmt → Entry-F Parts Found Found Found Parts Found Parts Found Found Parts
found_entry x = map-Entry BodyTold EntryTold KindTold FieldTold StmtKindTold ArmTold DeclTold ExprTold LinkTold StmtTold Parts Found Found Found Parts Found Parts Found Found Parts (λ p. p.found) (λ p. p.found) (λ p. p.found) (λ p. p.found) (λ p. p.found) (λ p. p.found) (λ p. p.found) (λ p. p.found) (λ p. p.found) (λ p. p.found) (map-Entry AnyBody Entry ExprKind Field StmtKind AnyArm Decl Tree AnyLink Stmt BodyTold EntryTold KindTold FieldTold StmtKindTold ArmTold DeclTold ExprTold LinkTold StmtTold body_told entry_told kind_told field_told stmt_kind_told arm_told decl_told expr_told link_told stmt_told x)

abbrev uses_entry : Entry-F AnyBody Entry ExprKind Field StmtKind AnyArm Decl Tree AnyLink Stmt → Entry-F Parts Found Found Found Parts Found Parts Found Found Parts
uses_entry = map-Entry AnyBody Entry ExprKind Field StmtKind AnyArm Decl Tree AnyLink Stmt Parts Found Found Found Parts Found Parts Found Found Parts body_parts entry_uses kind_uses field_uses stmt_kind_parts arm_uses decl_parts expr_uses link_uses stmt_parts

abbrev bare_kind : ExprKind-F KBody KEntry KKind KField KStmtKind KArm KDecl KExpr KLink KStmt → ExprKind-F AnyBody Entry ExprKind Field StmtKind AnyArm Decl Tree AnyLink Stmt
bare_kind = map-ExprKind KBody KEntry KKind KField KStmtKind KArm KDecl KExpr KLink KStmt AnyBody Entry ExprKind Field StmtKind AnyArm Decl Tree AnyLink Stmt (λ p. p.0) (λ p. p.0) (λ p. p.0) (λ p. p.0) (λ p. p.0) (λ p. p.0) (λ p. p.0) (λ p. p.0) (λ p. p.0) (λ p. p.0)

abbrev found_kind : ExprKind-F AnyBody Entry ExprKind Field StmtKind AnyArm Decl Tree AnyLink Stmt → ExprKind-F Parts Found Found Found Parts Found Parts Found Found Parts
found_kind x = map-ExprKind BodyTold EntryTold KindTold FieldTold StmtKindTold ArmTold DeclTold ExprTold LinkTold StmtTold Parts Found Found Found Parts Found Parts Found Found Parts (λ p. p.found) (λ p. p.found) (λ p. p.found) (λ p. p.found) (λ p. p.found) (λ p. p.found) (λ p. p.found) (λ p. p.found) (λ p. p.found) (λ p. p.found) (map-ExprKind AnyBody Entry ExprKind Field StmtKind AnyArm Decl Tree AnyLink Stmt BodyTold EntryTold KindTold FieldTold StmtKindTold ArmTold DeclTold ExprTold LinkTold StmtTold body_told entry_told kind_told field_told stmt_kind_told arm_told decl_told expr_told link_told stmt_told x)

abbrev uses_kind : ExprKind-F AnyBody Entry ExprKind Field StmtKind AnyArm Decl Tree AnyLink Stmt → ExprKind-F Parts Found Found Found Parts Found Parts Found Found Parts
uses_kind = map-ExprKind AnyBody Entry ExprKind Field StmtKind AnyArm Decl Tree AnyLink Stmt Parts Found Found Found Parts Found Parts Found Found Parts body_parts entry_uses kind_uses field_uses stmt_kind_parts arm_uses decl_parts expr_uses link_uses stmt_parts

abbrev bare_field : Field-F KBody KEntry KKind KField KStmtKind KArm KDecl KExpr KLink KStmt → Field-F AnyBody Entry ExprKind Field StmtKind AnyArm Decl Tree AnyLink Stmt
bare_field = map-Field KBody KEntry KKind KField KStmtKind KArm KDecl KExpr KLink KStmt AnyBody Entry ExprKind Field StmtKind AnyArm Decl Tree AnyLink Stmt (λ p. p.0) (λ p. p.0) (λ p. p.0) (λ p. p.0) (λ p. p.0) (λ p. p.0) (λ p. p.0) (λ p. p.0) (λ p. p.0) (λ p. p.0)

abbrev found_field : Field-F AnyBody Entry ExprKind Field StmtKind AnyArm Decl Tree AnyLink Stmt → Field-F Parts Found Found Found Parts Found Parts Found Found Parts
found_field x = map-Field BodyTold EntryTold KindTold FieldTold StmtKindTold ArmTold DeclTold ExprTold LinkTold StmtTold Parts Found Found Found Parts Found Parts Found Found Parts (λ p. p.found) (λ p. p.found) (λ p. p.found) (λ p. p.found) (λ p. p.found) (λ p. p.found) (λ p. p.found) (λ p. p.found) (λ p. p.found) (λ p. p.found) (map-Field AnyBody Entry ExprKind Field StmtKind AnyArm Decl Tree AnyLink Stmt BodyTold EntryTold KindTold FieldTold StmtKindTold ArmTold DeclTold ExprTold LinkTold StmtTold body_told entry_told kind_told field_told stmt_kind_told arm_told decl_told expr_told link_told stmt_told x)

abbrev uses_field : Field-F AnyBody Entry ExprKind Field StmtKind AnyArm Decl Tree AnyLink Stmt → Field-F Parts Found Found Found Parts Found Parts Found Found Parts
uses_field = map-Field AnyBody Entry ExprKind Field StmtKind AnyArm Decl Tree AnyLink Stmt Parts Found Found Found Parts Found Parts Found Found Parts body_parts entry_uses kind_uses field_uses stmt_kind_parts arm_uses decl_parts expr_uses link_uses stmt_parts

abbrev bare_stmt_kind : StmtKind-F KBody KEntry KKind KField KStmtKind KArm KDecl KExpr KLink KStmt → StmtKind-F AnyBody Entry ExprKind Field StmtKind AnyArm Decl Tree AnyLink Stmt
bare_stmt_kind = map-StmtKind KBody KEntry KKind KField KStmtKind KArm KDecl KExpr KLink KStmt AnyBody Entry ExprKind Field StmtKind AnyArm Decl Tree AnyLink Stmt (λ p. p.0) (λ p. p.0) (λ p. p.0) (λ p. p.0) (λ p. p.0) (λ p. p.0) (λ p. p.0) (λ p. p.0) (λ p. p.0) (λ p. p.0)

abbrev found_stmt_kind : StmtKind-F AnyBody Entry ExprKind Field StmtKind AnyArm Decl Tree AnyLink Stmt → StmtKind-F Parts Found Found Found Parts Found Parts Found Found Parts
found_stmt_kind x = map-StmtKind BodyTold EntryTold KindTold FieldTold StmtKindTold ArmTold DeclTold ExprTold LinkTold StmtTold Parts Found Found Found Parts Found Parts Found Found Parts (λ p. p.found) (λ p. p.found) (λ p. p.found) (λ p. p.found) (λ p. p.found) (λ p. p.found) (λ p. p.found) (λ p. p.found) (λ p. p.found) (λ p. p.found) (map-StmtKind AnyBody Entry ExprKind Field StmtKind AnyArm Decl Tree AnyLink Stmt BodyTold EntryTold KindTold FieldTold StmtKindTold ArmTold DeclTold ExprTold LinkTold StmtTold body_told entry_told kind_told field_told stmt_kind_told arm_told decl_told expr_told link_told stmt_told x)

abbrev uses_stmt_kind : StmtKind-F AnyBody Entry ExprKind Field StmtKind AnyArm Decl Tree AnyLink Stmt → StmtKind-F Parts Found Found Found Parts Found Parts Found Found Parts
uses_stmt_kind = map-StmtKind AnyBody Entry ExprKind Field StmtKind AnyArm Decl Tree AnyLink Stmt Parts Found Found Found Parts Found Parts Found Found Parts body_parts entry_uses kind_uses field_uses stmt_kind_parts arm_uses decl_parts expr_uses link_uses stmt_parts

abbrev bare_arm : Arm-F KBody KEntry KKind KField KStmtKind KArm KDecl KExpr KLink KStmt → Arm-F AnyBody Entry ExprKind Field StmtKind AnyArm Decl Tree AnyLink Stmt
bare_arm = map-Arm KBody KEntry KKind KField KStmtKind KArm KDecl KExpr KLink KStmt AnyBody Entry ExprKind Field StmtKind AnyArm Decl Tree AnyLink Stmt (λ p. p.0) (λ p. p.0) (λ p. p.0) (λ p. p.0) (λ p. p.0) (λ p. p.0) (λ p. p.0) (λ p. p.0) (λ p. p.0) (λ p. p.0)

abbrev found_arm : Arm-F AnyBody Entry ExprKind Field StmtKind AnyArm Decl Tree AnyLink Stmt → Arm-F Parts Found Found Found Parts Found Parts Found Found Parts
found_arm x = map-Arm BodyTold EntryTold KindTold FieldTold StmtKindTold ArmTold DeclTold ExprTold LinkTold StmtTold Parts Found Found Found Parts Found Parts Found Found Parts (λ p. p.found) (λ p. p.found) (λ p. p.found) (λ p. p.found) (λ p. p.found) (λ p. p.found) (λ p. p.found) (λ p. p.found) (λ p. p.found) (λ p. p.found) (map-Arm AnyBody Entry ExprKind Field StmtKind AnyArm Decl Tree AnyLink Stmt BodyTold EntryTold KindTold FieldTold StmtKindTold ArmTold DeclTold ExprTold LinkTold StmtTold body_told entry_told kind_told field_told stmt_kind_told arm_told decl_told expr_told link_told stmt_told x)

abbrev uses_arm : Arm-F AnyBody Entry ExprKind Field StmtKind AnyArm Decl Tree AnyLink Stmt → Arm-F Parts Found Found Found Parts Found Parts Found Found Parts
uses_arm = map-Arm AnyBody Entry ExprKind Field StmtKind AnyArm Decl Tree AnyLink Stmt Parts Found Found Found Parts Found Parts Found Found Parts body_parts entry_uses kind_uses field_uses stmt_kind_parts arm_uses decl_parts expr_uses link_uses stmt_parts

abbrev bare_decl : Decl-F KBody KEntry KKind KField KStmtKind KArm KDecl KExpr KLink KStmt → Decl-F AnyBody Entry ExprKind Field StmtKind AnyArm Decl Tree AnyLink Stmt
bare_decl = map-Decl KBody KEntry KKind KField KStmtKind KArm KDecl KExpr KLink KStmt AnyBody Entry ExprKind Field StmtKind AnyArm Decl Tree AnyLink Stmt (λ p. p.0) (λ p. p.0) (λ p. p.0) (λ p. p.0) (λ p. p.0) (λ p. p.0) (λ p. p.0) (λ p. p.0) (λ p. p.0) (λ p. p.0)

abbrev found_decl : Decl-F AnyBody Entry ExprKind Field StmtKind AnyArm Decl Tree AnyLink Stmt → Decl-F Parts Found Found Found Parts Found Parts Found Found Parts
found_decl x = map-Decl BodyTold EntryTold KindTold FieldTold StmtKindTold ArmTold DeclTold ExprTold LinkTold StmtTold Parts Found Found Found Parts Found Parts Found Found Parts (λ p. p.found) (λ p. p.found) (λ p. p.found) (λ p. p.found) (λ p. p.found) (λ p. p.found) (λ p. p.found) (λ p. p.found) (λ p. p.found) (λ p. p.found) (map-Decl AnyBody Entry ExprKind Field StmtKind AnyArm Decl Tree AnyLink Stmt BodyTold EntryTold KindTold FieldTold StmtKindTold ArmTold DeclTold ExprTold LinkTold StmtTold body_told entry_told kind_told field_told stmt_kind_told arm_told decl_told expr_told link_told stmt_told x)

abbrev uses_decl : Decl-F AnyBody Entry ExprKind Field StmtKind AnyArm Decl Tree AnyLink Stmt → Decl-F Parts Found Found Found Parts Found Parts Found Found Parts
uses_decl = map-Decl AnyBody Entry ExprKind Field StmtKind AnyArm Decl Tree AnyLink Stmt Parts Found Found Found Parts Found Parts Found Found Parts body_parts entry_uses kind_uses field_uses stmt_kind_parts arm_uses decl_parts expr_uses link_uses stmt_parts

abbrev bare_expr : Expr-F KBody KEntry KKind KField KStmtKind KArm KDecl KExpr KLink KStmt → Expr-F AnyBody Entry ExprKind Field StmtKind AnyArm Decl Tree AnyLink Stmt
bare_expr = map-Expr KBody KEntry KKind KField KStmtKind KArm KDecl KExpr KLink KStmt AnyBody Entry ExprKind Field StmtKind AnyArm Decl Tree AnyLink Stmt (λ p. p.0) (λ p. p.0) (λ p. p.0) (λ p. p.0) (λ p. p.0) (λ p. p.0) (λ p. p.0) (λ p. p.0) (λ p. p.0) (λ p. p.0)

abbrev found_expr : Expr-F AnyBody Entry ExprKind Field StmtKind AnyArm Decl Tree AnyLink Stmt → Expr-F Parts Found Found Found Parts Found Parts Found Found Parts
found_expr x = map-Expr BodyTold EntryTold KindTold FieldTold StmtKindTold ArmTold DeclTold ExprTold LinkTold StmtTold Parts Found Found Found Parts Found Parts Found Found Parts (λ p. p.found) (λ p. p.found) (λ p. p.found) (λ p. p.found) (λ p. p.found) (λ p. p.found) (λ p. p.found) (λ p. p.found) (λ p. p.found) (λ p. p.found) (map-Expr AnyBody Entry ExprKind Field StmtKind AnyArm Decl Tree AnyLink Stmt BodyTold EntryTold KindTold FieldTold StmtKindTold ArmTold DeclTold ExprTold LinkTold StmtTold body_told entry_told kind_told field_told stmt_kind_told arm_told decl_told expr_told link_told stmt_told x)

abbrev uses_expr : Expr-F AnyBody Entry ExprKind Field StmtKind AnyArm Decl Tree AnyLink Stmt → Expr-F Parts Found Found Found Parts Found Parts Found Found Parts
uses_expr = map-Expr AnyBody Entry ExprKind Field StmtKind AnyArm Decl Tree AnyLink Stmt Parts Found Found Found Parts Found Parts Found Found Parts body_parts entry_uses kind_uses field_uses stmt_kind_parts arm_uses decl_parts expr_uses link_uses stmt_parts

abbrev bare_link : Link-F KBody KEntry KKind KField KStmtKind KArm KDecl KExpr KLink KStmt → Link-F AnyBody Entry ExprKind Field StmtKind AnyArm Decl Tree AnyLink Stmt
bare_link = map-Link KBody KEntry KKind KField KStmtKind KArm KDecl KExpr KLink KStmt AnyBody Entry ExprKind Field StmtKind AnyArm Decl Tree AnyLink Stmt (λ p. p.0) (λ p. p.0) (λ p. p.0) (λ p. p.0) (λ p. p.0) (λ p. p.0) (λ p. p.0) (λ p. p.0) (λ p. p.0) (λ p. p.0)

abbrev found_link : Link-F AnyBody Entry ExprKind Field StmtKind AnyArm Decl Tree AnyLink Stmt → Link-F Parts Found Found Found Parts Found Parts Found Found Parts
found_link x = map-Link BodyTold EntryTold KindTold FieldTold StmtKindTold ArmTold DeclTold ExprTold LinkTold StmtTold Parts Found Found Found Parts Found Parts Found Found Parts (λ p. p.found) (λ p. p.found) (λ p. p.found) (λ p. p.found) (λ p. p.found) (λ p. p.found) (λ p. p.found) (λ p. p.found) (λ p. p.found) (λ p. p.found) (map-Link AnyBody Entry ExprKind Field StmtKind AnyArm Decl Tree AnyLink Stmt BodyTold EntryTold KindTold FieldTold StmtKindTold ArmTold DeclTold ExprTold LinkTold StmtTold body_told entry_told kind_told field_told stmt_kind_told arm_told decl_told expr_told link_told stmt_told x)

abbrev uses_link : Link-F AnyBody Entry ExprKind Field StmtKind AnyArm Decl Tree AnyLink Stmt → Link-F Parts Found Found Found Parts Found Parts Found Found Parts
uses_link = map-Link AnyBody Entry ExprKind Field StmtKind AnyArm Decl Tree AnyLink Stmt Parts Found Found Found Parts Found Parts Found Found Parts body_parts entry_uses kind_uses field_uses stmt_kind_parts arm_uses decl_parts expr_uses link_uses stmt_parts

abbrev bare_stmt : Stmt-F KBody KEntry KKind KField KStmtKind KArm KDecl KExpr KLink KStmt → Stmt-F AnyBody Entry ExprKind Field StmtKind AnyArm Decl Tree AnyLink Stmt
bare_stmt = map-Stmt KBody KEntry KKind KField KStmtKind KArm KDecl KExpr KLink KStmt AnyBody Entry ExprKind Field StmtKind AnyArm Decl Tree AnyLink Stmt (λ p. p.0) (λ p. p.0) (λ p. p.0) (λ p. p.0) (λ p. p.0) (λ p. p.0) (λ p. p.0) (λ p. p.0) (λ p. p.0) (λ p. p.0)

abbrev found_stmt : Stmt-F AnyBody Entry ExprKind Field StmtKind AnyArm Decl Tree AnyLink Stmt → Stmt-F Parts Found Found Found Parts Found Parts Found Found Parts
found_stmt x = map-Stmt BodyTold EntryTold KindTold FieldTold StmtKindTold ArmTold DeclTold ExprTold LinkTold StmtTold Parts Found Found Found Parts Found Parts Found Found Parts (λ p. p.found) (λ p. p.found) (λ p. p.found) (λ p. p.found) (λ p. p.found) (λ p. p.found) (λ p. p.found) (λ p. p.found) (λ p. p.found) (λ p. p.found) (map-Stmt AnyBody Entry ExprKind Field StmtKind AnyArm Decl Tree AnyLink Stmt BodyTold EntryTold KindTold FieldTold StmtKindTold ArmTold DeclTold ExprTold LinkTold StmtTold body_told entry_told kind_told field_told stmt_kind_told arm_told decl_told expr_told link_told stmt_told x)

abbrev uses_stmt : Stmt-F AnyBody Entry ExprKind Field StmtKind AnyArm Decl Tree AnyLink Stmt → Stmt-F Parts Found Found Found Parts Found Parts Found Found Parts
uses_stmt = map-Stmt AnyBody Entry ExprKind Field StmtKind AnyArm Decl Tree AnyLink Stmt Parts Found Found Found Parts Found Parts Found Found Parts body_parts entry_uses kind_uses field_uses stmt_kind_parts arm_uses decl_parts expr_uses link_uses stmt_parts

same_kind : (y : ExprKind-F KBody KEntry KKind KField KStmtKind KArm KDecl KExpr KLink KStmt) → uses.expr_kind (found_kind (bare_kind y)) ≡ uses.expr_kind (uses_kind (bare_kind y))
same_kind ExprKind-F.Undefined = refl
same_kind ExprKind-F.Null = refl
same_kind (ExprKind-F.Bool b) = refl
same_kind (ExprKind-F.Num n) = refl
same_kind (ExprKind-F.Text t) = refl
same_kind (ExprKind-F.Read name) = refl
same_kind (ExprKind-F.List items) = ap in_turn (each_same entry_told entry_uses items)
same_kind (ExprKind-F.Obj fields) = ap in_turn (each_same field_told field_uses fields)
same_kind (ExprKind-F.Template parts) = ap in_turn (each_same expr_told expr_uses parts)
same_kind (ExprKind-F.Arrow ps b) = ap (inside (map named ps)) b.1.same
same_kind (ExprKind-F.Assign name op e) = ap (followed (used (assigned name op))) e.1
same_kind (ExprKind-F.Bump name up prefix) = refl
same_kind (ExprKind-F.Chain e links) = ap₂ (λ u us. followed u (in_turn us)) e.1 (each_same link_told link_uses links)
same_kind (ExprKind-F.Not e) = e.1
same_kind (ExprKind-F.Minus e) = e.1
same_kind (ExprKind-F.Choose a b c) = three (λ x y z. followed (followed x y) z) a.1 b.1 c.1
same_kind (ExprKind-F.Member e word) = e.1
same_kind (ExprKind-F.Index e n) = ap₂ followed e.1 n.1
same_kind (ExprKind-F.Call e args) = ap₂ (λ u us. followed u (in_turn us)) e.1 (each_same expr_told expr_uses args)

same_body : (y : Body-F KBody KEntry KKind KField KStmtKind KArm KDecl KExpr KLink KStmt) → uses.body (found_body (bare_body y)) ≡ uses.body (uses_body (bare_body y))
same_body (Body-F.Value e) = ap plain e.1
same_body (Body-F.«Body::Block» stmts) = ap together (stmts_same stmts)

plain_body : (y : Body-F KBody KEntry KKind KField KStmtKind KArm KDecl KExpr KLink KStmt) → Each IsPlain (uses.body (found_body (bare_body y))).declares
plain_body (Body-F.Value e) = tt
plain_body (Body-F.«Body::Block» stmts) = stmts_plain stmts

same_entry : (y : Entry-F KBody KEntry KKind KField KStmtKind KArm KDecl KExpr KLink KStmt) → uses.entry (found_entry (bare_entry y)) ≡ uses.entry (uses_entry (bare_entry y))
same_entry (Entry-F.One e) = e.1
same_entry (Entry-F.«Entry::Spread» e) = e.1

same_field : (y : Field-F KBody KEntry KKind KField KStmtKind KArm KDecl KExpr KLink KStmt) → uses.field (found_field (bare_field y)) ≡ uses.field (uses_field (bare_field y))
same_field (Field-F.Pair key e) = e.1
same_field (Field-F.«Field::Spread» e) = e.1

same_stmt_kind : (y : StmtKind-F KBody KEntry KKind KField KStmtKind KArm KDecl KExpr KLink KStmt) → uses.stmt_kind (found_stmt_kind (bare_stmt_kind y)) ≡ uses.stmt_kind (uses_stmt_kind (bare_stmt_kind y))
same_stmt_kind StmtKind-F.Empty = refl
same_stmt_kind (StmtKind-F.«StmtKind::Block» stmts) = ap (λ ps. plain (inside [] (together ps))) (stmts_same stmts)
same_stmt_kind (StmtKind-F.Let decls) = ap together (decls_same decls)
same_stmt_kind (StmtKind-F.Const decls exported) = ap together (decls_same decls)
same_stmt_kind (StmtKind-F.If arms None) = ap (λ us. plain (followed (in_turn us) (optional None).uses)) (each_same arm_told arm_uses arms)
same_stmt_kind (StmtKind-F.If arms (Some last)) = ap₂ (λ us p. plain (followed (in_turn us) (optional (Some p)).uses)) (each_same arm_told arm_uses arms) last.1.same
same_stmt_kind (StmtKind-F.While test turn) = ap₂ (λ u p. plain (followed u p.uses)) test.1 turn.1.same
same_stmt_kind (StmtKind-F.For None None None turn) = ap (λ d. plain (for_head (optional None) (given None) (given None) d.uses)) turn.1.same
same_stmt_kind (StmtKind-F.For None None (Some next) turn) = ap₂ (λ c d. plain (for_head (optional None) (given None) (given (Some c)) d.uses)) next.1 turn.1.same
same_stmt_kind (StmtKind-F.For None (Some test) None turn) = ap₂ (λ b d. plain (for_head (optional None) (given (Some b)) (given None) d.uses)) test.1 turn.1.same
same_stmt_kind (StmtKind-F.For None (Some test) (Some next) turn) = three (λ b c d. plain (for_head (optional None) (given (Some b)) (given (Some c)) d.uses)) test.1 next.1 turn.1.same
same_stmt_kind (StmtKind-F.For (Some first) None None turn) = ap₂ (λ a d. plain (for_head (optional (Some a)) (given None) (given None) d.uses)) first.1.same turn.1.same
same_stmt_kind (StmtKind-F.For (Some first) None (Some next) turn) = three (λ a c d. plain (for_head (optional (Some a)) (given None) (given (Some c)) d.uses)) first.1.same next.1 turn.1.same
same_stmt_kind (StmtKind-F.For (Some first) (Some test) None turn) = three (λ a b d. plain (for_head (optional (Some a)) (given (Some b)) (given None) d.uses)) first.1.same test.1 turn.1.same
same_stmt_kind (StmtKind-F.For (Some first) (Some test) (Some next) turn) = four (λ a b c d. plain (for_head (optional (Some a)) (given (Some b)) (given (Some c)) d.uses)) first.1.same test.1 next.1 turn.1.same
same_stmt_kind (StmtKind-F.Each name fixed list turn) = ap₂ (λ u p. plain (for_each (named name) u p.uses)) list.1 turn.1.same
same_stmt_kind StmtKind-F.Break = refl
same_stmt_kind StmtKind-F.Continue = refl
same_stmt_kind (StmtKind-F.Return None) = refl
same_stmt_kind (StmtKind-F.Return (Some e)) = ap (λ u. plain (given (Some u))) e.1
same_stmt_kind (StmtKind-F.Eval e) = ap plain e.1
same_stmt_kind (StmtKind-F.Import i) = refl
same_stmt_kind (StmtKind-F.Export decls) = ap together (decls_same decls)
same_stmt_kind (StmtKind-F.React s) = ap (λ p. plain p.uses) s.1.same
same_stmt_kind (StmtKind-F.Func name exported ps stmts) = ap (λ us. uses.stmt_kind (StmtKind-F.Func name exported ps us)) (stmts_same stmts)

plain_stmt_kind : (y : StmtKind-F KBody KEntry KKind KField KStmtKind KArm KDecl KExpr KLink KStmt) → Each IsPlain (uses.stmt_kind (found_stmt_kind (bare_stmt_kind y))).declares
plain_stmt_kind (StmtKind-F.Let decls) = decls_plain decls
plain_stmt_kind (StmtKind-F.Const decls exported) = decls_plain decls
plain_stmt_kind (StmtKind-F.Export decls) = decls_plain decls
plain_stmt_kind (StmtKind-F.Import i) = each_append IsPlain (option_to_list (option_map named i.whole)) (map (λ spec. named spec.local) i.names) (whole_plain i.whole) (specs_plain i.names)
plain_stmt_kind (StmtKind-F.Func name exported ps stmts) = (tt, tt)
plain_stmt_kind StmtKind-F.Empty = tt
plain_stmt_kind (StmtKind-F.«StmtKind::Block» stmts) = tt
plain_stmt_kind (StmtKind-F.If arms last) = tt
plain_stmt_kind (StmtKind-F.While test turn) = tt
plain_stmt_kind (StmtKind-F.For first test next turn) = tt
plain_stmt_kind (StmtKind-F.Each name fixed list turn) = tt
plain_stmt_kind StmtKind-F.Break = tt
plain_stmt_kind StmtKind-F.Continue = tt
plain_stmt_kind (StmtKind-F.Return e) = tt
plain_stmt_kind (StmtKind-F.Eval e) = tt
plain_stmt_kind (StmtKind-F.React s) = tt

same_arm : (y : Arm-F KBody KEntry KKind KField KStmtKind KArm KDecl KExpr KLink KStmt) → uses.arm (found_arm (bare_arm y)) ≡ uses.arm (uses_arm (bare_arm y))
same_arm y = ap₂ (λ u p. followed u p.uses) y.test.1 y.body.1.same

same_decl : (y : Decl-F KBody KEntry KKind KField KStmtKind KArm KDecl KExpr KLink KStmt) → uses.decl (found_decl (bare_decl y)) ≡ uses.decl (uses_decl (bare_decl y))
same_decl y = go y.name y.first
  where
    go : (n : Named) (o : Option KExpr) → uses.decl (found_decl (bare_decl (record { name = n; first = o }))) ≡ uses.decl (uses_decl (bare_decl (record { name = n; first = o })))
    go n None = refl
    go n (Some x) = ap (λ u. declared n (Some u)) x.1

plain_decl : (y : Decl-F KBody KEntry KKind KField KStmtKind KArm KDecl KExpr KLink KStmt) → Each IsPlain (uses.decl (found_decl (bare_decl y))).declares
plain_decl y = (tt, tt)

same_expr : (y : Expr-F KBody KEntry KKind KField KStmtKind KArm KDecl KExpr KLink KStmt) → uses.expr (found_expr (bare_expr y)) ≡ uses.expr (uses_expr (bare_expr y))
same_expr y = y.kind.1

same_link : (y : Link-F KBody KEntry KKind KField KStmtKind KArm KDecl KExpr KLink KStmt) → uses.link (found_link (bare_link y)) ≡ uses.link (uses_link (bare_link y))
same_link y = y.right.1

same_stmt : (y : Stmt-F KBody KEntry KKind KField KStmtKind KArm KDecl KExpr KLink KStmt) → uses.stmt (found_stmt (bare_stmt y)) ≡ uses.stmt (uses_stmt (bare_stmt y))
same_stmt y = y.kind.1.same

plain_stmt : (y : Stmt-F KBody KEntry KKind KField KStmtKind KArm KDecl KExpr KLink KStmt) → Each IsPlain (uses.stmt (found_stmt (bare_stmt y))).declares
plain_stmt y = y.kind.1.bare

-- ---- whole trees

body_whole : (x : Body-F AnyBody Entry ExprKind Field StmtKind AnyArm Decl Tree AnyLink Stmt) (y : Body-F KBody KEntry KKind KField KStmtKind KArm KDecl KExpr KLink KStmt) → bare_body y ≡ x → ClaimBody (roll-Body x)
body_whole x y e = record {
  same =
      ap (λ v. v.found) (fold-roll-Body BodyTold EntryTold KindTold FieldTold StmtKindTold ArmTold DeclTold ExprTold LinkTold StmtTold script.body script.entry script.expr_kind script.field script.stmt_kind script.arm script.decl script.expr script.link script.stmt x)
      ∙ subst (λ z. uses.body (found_body z) ≡ uses.body (uses_body z)) e (same_body y) ∙ sym (fold-roll-Body Parts Found Found Found Parts Found Parts Found Found Parts uses.body uses.entry uses.expr_kind uses.field uses.stmt_kind uses.arm uses.decl uses.expr uses.link uses.stmt x);
  bare = subst (λ v. Each IsPlain v.found.declares) (sym (fold-roll-Body BodyTold EntryTold KindTold FieldTold StmtKindTold ArmTold DeclTold ExprTold LinkTold StmtTold script.body script.entry script.expr_kind script.field script.stmt_kind script.arm script.decl script.expr script.link script.stmt x)) (subst (λ z. Each IsPlain (uses.body (found_body z)).declares) e (plain_body y));
}

entry_whole : (x : Entry-F AnyBody Entry ExprKind Field StmtKind AnyArm Decl Tree AnyLink Stmt) (y : Entry-F KBody KEntry KKind KField KStmtKind KArm KDecl KExpr KLink KStmt) → bare_entry y ≡ x → ClaimEntry (roll-Entry x)
entry_whole x y e =
    ap (λ v. v.found) (fold-roll-Entry BodyTold EntryTold KindTold FieldTold StmtKindTold ArmTold DeclTold ExprTold LinkTold StmtTold script.body script.entry script.expr_kind script.field script.stmt_kind script.arm script.decl script.expr script.link script.stmt x)
    ∙ subst (λ z. uses.entry (found_entry z) ≡ uses.entry (uses_entry z)) e (same_entry y) ∙ sym (fold-roll-Entry Parts Found Found Found Parts Found Parts Found Found Parts uses.body uses.entry uses.expr_kind uses.field uses.stmt_kind uses.arm uses.decl uses.expr uses.link uses.stmt x)

kind_whole : (x : ExprKind-F AnyBody Entry ExprKind Field StmtKind AnyArm Decl Tree AnyLink Stmt) (y : ExprKind-F KBody KEntry KKind KField KStmtKind KArm KDecl KExpr KLink KStmt) → bare_kind y ≡ x → ClaimKind (roll-ExprKind x)
kind_whole x y e =
    ap (λ v. v.found) (fold-roll-ExprKind BodyTold EntryTold KindTold FieldTold StmtKindTold ArmTold DeclTold ExprTold LinkTold StmtTold script.body script.entry script.expr_kind script.field script.stmt_kind script.arm script.decl script.expr script.link script.stmt x)
    ∙ subst (λ z. uses.expr_kind (found_kind z) ≡ uses.expr_kind (uses_kind z)) e (same_kind y) ∙ sym (fold-roll-ExprKind Parts Found Found Found Parts Found Parts Found Found Parts uses.body uses.entry uses.expr_kind uses.field uses.stmt_kind uses.arm uses.decl uses.expr uses.link uses.stmt x)

field_whole : (x : Field-F AnyBody Entry ExprKind Field StmtKind AnyArm Decl Tree AnyLink Stmt) (y : Field-F KBody KEntry KKind KField KStmtKind KArm KDecl KExpr KLink KStmt) → bare_field y ≡ x → ClaimField (roll-Field x)
field_whole x y e =
    ap (λ v. v.found) (fold-roll-Field BodyTold EntryTold KindTold FieldTold StmtKindTold ArmTold DeclTold ExprTold LinkTold StmtTold script.body script.entry script.expr_kind script.field script.stmt_kind script.arm script.decl script.expr script.link script.stmt x)
    ∙ subst (λ z. uses.field (found_field z) ≡ uses.field (uses_field z)) e (same_field y) ∙ sym (fold-roll-Field Parts Found Found Found Parts Found Parts Found Found Parts uses.body uses.entry uses.expr_kind uses.field uses.stmt_kind uses.arm uses.decl uses.expr uses.link uses.stmt x)

stmt_kind_whole : (x : StmtKind-F AnyBody Entry ExprKind Field StmtKind AnyArm Decl Tree AnyLink Stmt) (y : StmtKind-F KBody KEntry KKind KField KStmtKind KArm KDecl KExpr KLink KStmt) → bare_stmt_kind y ≡ x → ClaimStmtKind (roll-StmtKind x)
stmt_kind_whole x y e = record {
  same =
      ap (λ v. v.found) (fold-roll-StmtKind BodyTold EntryTold KindTold FieldTold StmtKindTold ArmTold DeclTold ExprTold LinkTold StmtTold script.body script.entry script.expr_kind script.field script.stmt_kind script.arm script.decl script.expr script.link script.stmt x)
      ∙ subst (λ z. uses.stmt_kind (found_stmt_kind z) ≡ uses.stmt_kind (uses_stmt_kind z)) e (same_stmt_kind y) ∙ sym (fold-roll-StmtKind Parts Found Found Found Parts Found Parts Found Found Parts uses.body uses.entry uses.expr_kind uses.field uses.stmt_kind uses.arm uses.decl uses.expr uses.link uses.stmt x);
  bare = subst (λ v. Each IsPlain v.found.declares) (sym (fold-roll-StmtKind BodyTold EntryTold KindTold FieldTold StmtKindTold ArmTold DeclTold ExprTold LinkTold StmtTold script.body script.entry script.expr_kind script.field script.stmt_kind script.arm script.decl script.expr script.link script.stmt x)) (subst (λ z. Each IsPlain (uses.stmt_kind (found_stmt_kind z)).declares) e (plain_stmt_kind y));
}

arm_whole : (x : Arm-F AnyBody Entry ExprKind Field StmtKind AnyArm Decl Tree AnyLink Stmt) (y : Arm-F KBody KEntry KKind KField KStmtKind KArm KDecl KExpr KLink KStmt) → bare_arm y ≡ x → ClaimArm (roll-Arm x)
arm_whole x y e =
    ap (λ v. v.found) (fold-roll-Arm BodyTold EntryTold KindTold FieldTold StmtKindTold ArmTold DeclTold ExprTold LinkTold StmtTold script.body script.entry script.expr_kind script.field script.stmt_kind script.arm script.decl script.expr script.link script.stmt x)
    ∙ subst (λ z. uses.arm (found_arm z) ≡ uses.arm (uses_arm z)) e (same_arm y) ∙ sym (fold-roll-Arm Parts Found Found Found Parts Found Parts Found Found Parts uses.body uses.entry uses.expr_kind uses.field uses.stmt_kind uses.arm uses.decl uses.expr uses.link uses.stmt x)

decl_whole : (x : Decl-F AnyBody Entry ExprKind Field StmtKind AnyArm Decl Tree AnyLink Stmt) (y : Decl-F KBody KEntry KKind KField KStmtKind KArm KDecl KExpr KLink KStmt) → bare_decl y ≡ x → ClaimDecl (roll-Decl x)
decl_whole x y e = record {
  same =
      ap (λ v. v.found) (fold-roll-Decl BodyTold EntryTold KindTold FieldTold StmtKindTold ArmTold DeclTold ExprTold LinkTold StmtTold script.body script.entry script.expr_kind script.field script.stmt_kind script.arm script.decl script.expr script.link script.stmt x)
      ∙ subst (λ z. uses.decl (found_decl z) ≡ uses.decl (uses_decl z)) e (same_decl y) ∙ sym (fold-roll-Decl Parts Found Found Found Parts Found Parts Found Found Parts uses.body uses.entry uses.expr_kind uses.field uses.stmt_kind uses.arm uses.decl uses.expr uses.link uses.stmt x);
  bare = subst (λ v. Each IsPlain v.found.declares) (sym (fold-roll-Decl BodyTold EntryTold KindTold FieldTold StmtKindTold ArmTold DeclTold ExprTold LinkTold StmtTold script.body script.entry script.expr_kind script.field script.stmt_kind script.arm script.decl script.expr script.link script.stmt x)) (subst (λ z. Each IsPlain (uses.decl (found_decl z)).declares) e (plain_decl y));
}

expr_whole : (x : Expr-F AnyBody Entry ExprKind Field StmtKind AnyArm Decl Tree AnyLink Stmt) (y : Expr-F KBody KEntry KKind KField KStmtKind KArm KDecl KExpr KLink KStmt) → bare_expr y ≡ x → ClaimExpr (roll-Expr x)
expr_whole x y e =
    ap (λ v. v.found) (fold-roll-Expr BodyTold EntryTold KindTold FieldTold StmtKindTold ArmTold DeclTold ExprTold LinkTold StmtTold script.body script.entry script.expr_kind script.field script.stmt_kind script.arm script.decl script.expr script.link script.stmt x)
    ∙ subst (λ z. uses.expr (found_expr z) ≡ uses.expr (uses_expr z)) e (same_expr y) ∙ sym (fold-roll-Expr Parts Found Found Found Parts Found Parts Found Found Parts uses.body uses.entry uses.expr_kind uses.field uses.stmt_kind uses.arm uses.decl uses.expr uses.link uses.stmt x)

link_whole : (x : Link-F AnyBody Entry ExprKind Field StmtKind AnyArm Decl Tree AnyLink Stmt) (y : Link-F KBody KEntry KKind KField KStmtKind KArm KDecl KExpr KLink KStmt) → bare_link y ≡ x → ClaimLink (roll-Link x)
link_whole x y e =
    ap (λ v. v.found) (fold-roll-Link BodyTold EntryTold KindTold FieldTold StmtKindTold ArmTold DeclTold ExprTold LinkTold StmtTold script.body script.entry script.expr_kind script.field script.stmt_kind script.arm script.decl script.expr script.link script.stmt x)
    ∙ subst (λ z. uses.link (found_link z) ≡ uses.link (uses_link z)) e (same_link y) ∙ sym (fold-roll-Link Parts Found Found Found Parts Found Parts Found Found Parts uses.body uses.entry uses.expr_kind uses.field uses.stmt_kind uses.arm uses.decl uses.expr uses.link uses.stmt x)

stmt_whole : (x : Stmt-F AnyBody Entry ExprKind Field StmtKind AnyArm Decl Tree AnyLink Stmt) (y : Stmt-F KBody KEntry KKind KField KStmtKind KArm KDecl KExpr KLink KStmt) → bare_stmt y ≡ x → ClaimStmt (roll-Stmt x)
stmt_whole x y e = record {
  same =
      ap (λ v. v.found) (fold-roll-Stmt BodyTold EntryTold KindTold FieldTold StmtKindTold ArmTold DeclTold ExprTold LinkTold StmtTold script.body script.entry script.expr_kind script.field script.stmt_kind script.arm script.decl script.expr script.link script.stmt x)
      ∙ subst (λ z. uses.stmt (found_stmt z) ≡ uses.stmt (uses_stmt z)) e (same_stmt y) ∙ sym (fold-roll-Stmt Parts Found Found Found Parts Found Parts Found Found Parts uses.body uses.entry uses.expr_kind uses.field uses.stmt_kind uses.arm uses.decl uses.expr uses.link uses.stmt x);
  bare = subst (λ v. Each IsPlain v.found.declares) (sym (fold-roll-Stmt BodyTold EntryTold KindTold FieldTold StmtKindTold ArmTold DeclTold ExprTold LinkTold StmtTold script.body script.entry script.expr_kind script.field script.stmt_kind script.arm script.decl script.expr script.link script.stmt x)) (subst (λ z. Each IsPlain (uses.stmt (found_stmt z)).declares) e (plain_stmt y));
}

body_all : (x : AnyBody) → ClaimBody x
body_all = ind-Body ClaimBody ClaimEntry ClaimKind ClaimField ClaimStmtKind ClaimArm ClaimDecl ClaimExpr ClaimLink ClaimStmt body_whole entry_whole kind_whole field_whole stmt_kind_whole arm_whole decl_whole expr_whole link_whole stmt_whole

stmt_all : (x : Stmt) → ClaimStmt x
stmt_all = ind-Stmt ClaimBody ClaimEntry ClaimKind ClaimField ClaimStmtKind ClaimArm ClaimDecl ClaimExpr ClaimLink ClaimStmt body_whole entry_whole kind_whole field_whole stmt_kind_whole arm_whole decl_whole expr_whole link_whole stmt_whole

pub expr_found : (x : Tree) → (expr_told x).found ≡ expr_uses x
expr_found = ind-Expr ClaimBody ClaimEntry ClaimKind ClaimField ClaimStmtKind ClaimArm ClaimDecl ClaimExpr ClaimLink ClaimStmt body_whole entry_whole kind_whole field_whole stmt_kind_whole arm_whole decl_whole expr_whole link_whole stmt_whole

pub body_found : (x : AnyBody) → (body_told x).found ≡ body_parts x
body_found x = (body_all x).same

pub body_plain : (x : AnyBody) → Each IsPlain (body_told x).found.declares
body_plain x = (body_all x).bare

pub stmt_found : (x : Stmt) → (stmt_told x).found ≡ stmt_parts x
stmt_found x = (stmt_all x).same

pub stmt_plain : (x : Stmt) → Each IsPlain (stmt_told x).found.declares
stmt_plain x = (stmt_all x).bare

pub stmts_found : (xs : List Stmt) → all_found (map stmt_told xs) ≡ map stmt_parts xs
stmts_found [] = refl
stmts_found (x ∷ xs) = ap₂ (λ y ys. y ∷ ys) (stmt_found x) (stmts_found xs)

pub all_plain : (xs : List Stmt) → Each IsPlain (together (all_found (map stmt_told xs))).declares
all_plain [] = tt
all_plain (x ∷ xs) = each_append IsPlain (stmt_told x).found.declares (together (all_found (map stmt_told xs))).declares (stmt_plain x) (all_plain xs)
