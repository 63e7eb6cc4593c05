-- The tree that goes with what is made of it is the tree itself: an induction over trees, a line a form.
use Rattle.std.proofs.Common.{◌≡◌, List, [], ◌∷◌, Option, None, Some, map, option_map, refl, ap, ◌∙◌, subst}
use Rattle.sv_ast.specs.declared.names.Named.{Named}
use Rattle.sv_ast.specs.declared.operators.Op.{Op}
use Rattle.sv_ast.specs.declared.script_tree.Body.{Body, Body-F, roll-Body, map-Body, fold-roll-Body, ind-Body}
use Rattle.sv_ast.specs.declared.script_tree.Entry.{Entry, Entry-F, roll-Entry, map-Entry, fold-roll-Entry}
use Rattle.sv_ast.specs.declared.script_tree.ExprKind.{ExprKind, ExprKind-F, roll-ExprKind, map-ExprKind, fold-roll-ExprKind}
use Rattle.sv_ast.specs.declared.script_tree.Field.{Field, Field-F, roll-Field, map-Field, fold-roll-Field}
use Rattle.sv_ast.specs.declared.script_tree.StmtKind.{StmtKind, StmtKind-F, roll-StmtKind, map-StmtKind, fold-roll-StmtKind}
use Rattle.sv_ast.specs.declared.script_tree.Arm.{Arm, Arm-F, roll-Arm, map-Arm, fold-roll-Arm}
use Rattle.sv_ast.specs.declared.script_tree.Decl.{Decl, Decl-F, roll-Decl, map-Decl, fold-roll-Decl}
use Rattle.sv_ast.specs.declared.script_tree.Expr.{Expr, Expr-F, roll-Expr, map-Expr, fold-roll-Expr, ind-Expr}
use Rattle.sv_ast.specs.declared.script_tree.Link.{Link, Link-F, roll-Link, map-Link, fold-roll-Link}
use Rattle.sv_ast.specs.declared.script_tree.Stmt.{Stmt, Stmt-F, roll-Stmt, map-Stmt, fold-roll-Stmt, ind-Stmt}
use Rattle.sv_base.specs.declared.span.Span.{Span}
use Rattle.sv_lower.specs.Lower.{Made, trees, BodyMade, EntryMade, KindMade, FieldMade, StmtKindMade, ArmMade, DeclMade, ExprMade, LinkMade, StmtMade, body, entry, expr_kind, field, stmt_kind, arm, decl, expr, link, stmt, body_made, entry_made, kind_made, field_made, stmt_kind_made, arm_made, decl_made, expr_made, link_made, stmt_made}

-- ---- trees, with what is known of each

abbrev BodyIs : Body → Type 0
BodyIs x = (body_made x).tree ≡ x

abbrev KnownBody : Type 0
KnownBody = (x : Body) × BodyIs x

abbrev EntryIs : Entry → Type 0
EntryIs x = (entry_made x).tree ≡ x

abbrev KnownEntry : Type 0
KnownEntry = (x : Entry) × EntryIs x

abbrev ExprKindIs : ExprKind → Type 0
ExprKindIs x = (kind_made x).tree ≡ x

abbrev KnownExprKind : Type 0
KnownExprKind = (x : ExprKind) × ExprKindIs x

abbrev FieldIs : Field → Type 0
FieldIs x = (field_made x).tree ≡ x

abbrev KnownField : Type 0
KnownField = (x : Field) × FieldIs x

abbrev StmtKindIs : StmtKind → Type 0
StmtKindIs x = (stmt_kind_made x).tree ≡ x

abbrev KnownStmtKind : Type 0
KnownStmtKind = (x : StmtKind) × StmtKindIs x

abbrev ArmIs : Arm → Type 0
ArmIs x = (arm_made x).tree ≡ x

abbrev KnownArm : Type 0
KnownArm = (x : Arm) × ArmIs x

abbrev DeclIs : Decl → Type 0
DeclIs x = (decl_made x).tree ≡ x

abbrev KnownDecl : Type 0
KnownDecl = (x : Decl) × DeclIs x

abbrev ExprIs : Expr → Type 0
ExprIs x = (expr_made x).tree ≡ x

abbrev KnownExpr : Type 0
KnownExpr = (x : Expr) × ExprIs x

abbrev LinkIs : Link → Type 0
LinkIs x = (link_made x).tree ≡ x

abbrev KnownLink : Type 0
KnownLink = (x : Link) × LinkIs x

abbrev StmtIs : Stmt → Type 0
StmtIs x = (stmt_made x).tree ≡ x

abbrev KnownStmt : Type 0
KnownStmt = (x : Stmt) × StmtIs x

two : {A B C : Type 0} (f : A → B → C) {a a' : A} {b b' : B} → a ≡ a' → b ≡ b' → f a b ≡ f a' b'
two f {a = a} {b' = b'} e g = ap (f a) g ∙ ap (λ x. f x b') e

three : {A B C D : Type 0} (f : A → B → C → D) {a a' : A} {b b' : B} {c c' : C} → a ≡ a' → b ≡ b' → c ≡ c' → f a b c ≡ f a' b' c'
three f {a = a} {b' = b'} {c' = c'} e g h = two (f a) g h ∙ ap (λ x. f x b' c') e

four : {A B C D E : Type 0} (f : A → B → C → D → E) {a a' : A} {b b' : B} {c c' : C} {d d' : D} → a ≡ a' → b ≡ b' → c ≡ c' → d ≡ d' → f a b c d ≡ f a' b' c' d'
four f {a = a} {b' = b'} {c' = c'} {d' = d'} e g h i = three (f a) g h i ∙ ap (λ x. f x b' c' d') e

each_is : {T M : Type 0} (made : T → Made T M) (xs : List ((x : T) × ((made x).tree ≡ x))) → trees (map made (map (λ p. p.0) xs)) ≡ map (λ p. p.0) xs
each_is made [] = refl
each_is made (x ∷ xs) = two (λ y ys. y ∷ ys) x.1 (each_is made xs)

-- ---- a layer of a tree, and the trees in it

abbrev bare_body : Body-F KnownBody KnownEntry KnownExprKind KnownField KnownStmtKind KnownArm KnownDecl KnownExpr KnownLink KnownStmt → Body-F Body Entry ExprKind Field StmtKind Arm Decl Expr Link Stmt
bare_body = map-Body KnownBody KnownEntry KnownExprKind KnownField KnownStmtKind KnownArm KnownDecl KnownExpr KnownLink KnownStmt Body Entry ExprKind Field StmtKind Arm Decl Expr Link Stmt (λ p. p.0) (λ p. p.0) (λ p. p.0) (λ p. p.0) (λ p. p.0) (λ p. p.0) (λ p. p.0) (λ p. p.0) (λ p. p.0) (λ p. p.0)

abbrev again_body : Body-F Body Entry ExprKind Field StmtKind Arm Decl Expr Link Stmt → Body-F Body Entry ExprKind Field StmtKind Arm Decl Expr Link Stmt
again_body x = map-Body BodyMade EntryMade KindMade FieldMade StmtKindMade ArmMade DeclMade ExprMade LinkMade StmtMade Body Entry ExprKind Field StmtKind Arm Decl Expr Link Stmt (λ p. p.tree) (λ p. p.tree) (λ p. p.tree) (λ p. p.tree) (λ p. p.tree) (λ p. p.tree) (λ p. p.tree) (λ p. p.tree) (λ p. p.tree) (λ p. p.tree) (map-Body Body Entry ExprKind Field StmtKind Arm Decl Expr Link Stmt BodyMade EntryMade KindMade FieldMade StmtKindMade ArmMade DeclMade ExprMade LinkMade StmtMade body_made entry_made kind_made field_made stmt_kind_made arm_made decl_made expr_made link_made stmt_made x)

abbrev bare_entry : Entry-F KnownBody KnownEntry KnownExprKind KnownField KnownStmtKind KnownArm KnownDecl KnownExpr KnownLink KnownStmt → Entry-F Body Entry ExprKind Field StmtKind Arm Decl Expr Link Stmt
bare_entry = map-Entry KnownBody KnownEntry KnownExprKind KnownField KnownStmtKind KnownArm KnownDecl KnownExpr KnownLink KnownStmt Body Entry ExprKind Field StmtKind Arm Decl Expr Link Stmt (λ p. p.0) (λ p. p.0) (λ p. p.0) (λ p. p.0) (λ p. p.0) (λ p. p.0) (λ p. p.0) (λ p. p.0) (λ p. p.0) (λ p. p.0)

abbrev again_entry : Entry-F Body Entry ExprKind Field StmtKind Arm Decl Expr Link Stmt → Entry-F Body Entry ExprKind Field StmtKind Arm Decl Expr Link Stmt
again_entry x = map-Entry BodyMade EntryMade KindMade FieldMade StmtKindMade ArmMade DeclMade ExprMade LinkMade StmtMade Body Entry ExprKind Field StmtKind Arm Decl Expr Link Stmt (λ p. p.tree) (λ p. p.tree) (λ p. p.tree) (λ p. p.tree) (λ p. p.tree) (λ p. p.tree) (λ p. p.tree) (λ p. p.tree) (λ p. p.tree) (λ p. p.tree) (map-Entry Body Entry ExprKind Field StmtKind Arm Decl Expr Link Stmt BodyMade EntryMade KindMade FieldMade StmtKindMade ArmMade DeclMade ExprMade LinkMade StmtMade body_made entry_made kind_made field_made stmt_kind_made arm_made decl_made expr_made link_made stmt_made x)

abbrev bare_expr_kind : ExprKind-F KnownBody KnownEntry KnownExprKind KnownField KnownStmtKind KnownArm KnownDecl KnownExpr KnownLink KnownStmt → ExprKind-F Body Entry ExprKind Field StmtKind Arm Decl Expr Link Stmt
bare_expr_kind = map-ExprKind KnownBody KnownEntry KnownExprKind KnownField KnownStmtKind KnownArm KnownDecl KnownExpr KnownLink KnownStmt Body Entry ExprKind Field StmtKind Arm Decl Expr Link Stmt (λ p. p.0) (λ p. p.0) (λ p. p.0) (λ p. p.0) (λ p. p.0) (λ p. p.0) (λ p. p.0) (λ p. p.0) (λ p. p.0) (λ p. p.0)

abbrev again_expr_kind : ExprKind-F Body Entry ExprKind Field StmtKind Arm Decl Expr Link Stmt → ExprKind-F Body Entry ExprKind Field StmtKind Arm Decl Expr Link Stmt
again_expr_kind x = map-ExprKind BodyMade EntryMade KindMade FieldMade StmtKindMade ArmMade DeclMade ExprMade LinkMade StmtMade Body Entry ExprKind Field StmtKind Arm Decl Expr Link Stmt (λ p. p.tree) (λ p. p.tree) (λ p. p.tree) (λ p. p.tree) (λ p. p.tree) (λ p. p.tree) (λ p. p.tree) (λ p. p.tree) (λ p. p.tree) (λ p. p.tree) (map-ExprKind Body Entry ExprKind Field StmtKind Arm Decl Expr Link Stmt BodyMade EntryMade KindMade FieldMade StmtKindMade ArmMade DeclMade ExprMade LinkMade StmtMade body_made entry_made kind_made field_made stmt_kind_made arm_made decl_made expr_made link_made stmt_made x)

abbrev bare_field : Field-F KnownBody KnownEntry KnownExprKind KnownField KnownStmtKind KnownArm KnownDecl KnownExpr KnownLink KnownStmt → Field-F Body Entry ExprKind Field StmtKind Arm Decl Expr Link Stmt
bare_field = map-Field KnownBody KnownEntry KnownExprKind KnownField KnownStmtKind KnownArm KnownDecl KnownExpr KnownLink KnownStmt Body Entry ExprKind Field StmtKind Arm Decl Expr Link Stmt (λ p. p.0) (λ p. p.0) (λ p. p.0) (λ p. p.0) (λ p. p.0) (λ p. p.0) (λ p. p.0) (λ p. p.0) (λ p. p.0) (λ p. p.0)

abbrev again_field : Field-F Body Entry ExprKind Field StmtKind Arm Decl Expr Link Stmt → Field-F Body Entry ExprKind Field StmtKind Arm Decl Expr Link Stmt
again_field x = map-Field BodyMade EntryMade KindMade FieldMade StmtKindMade ArmMade DeclMade ExprMade LinkMade StmtMade Body Entry ExprKind Field StmtKind Arm Decl Expr Link Stmt (λ p. p.tree) (λ p. p.tree) (λ p. p.tree) (λ p. p.tree) (λ p. p.tree) (λ p. p.tree) (λ p. p.tree) (λ p. p.tree) (λ p. p.tree) (λ p. p.tree) (map-Field Body Entry ExprKind Field StmtKind Arm Decl Expr Link Stmt BodyMade EntryMade KindMade FieldMade StmtKindMade ArmMade DeclMade ExprMade LinkMade StmtMade body_made entry_made kind_made field_made stmt_kind_made arm_made decl_made expr_made link_made stmt_made x)

abbrev bare_stmt_kind : StmtKind-F KnownBody KnownEntry KnownExprKind KnownField KnownStmtKind KnownArm KnownDecl KnownExpr KnownLink KnownStmt → StmtKind-F Body Entry ExprKind Field StmtKind Arm Decl Expr Link Stmt
bare_stmt_kind = map-StmtKind KnownBody KnownEntry KnownExprKind KnownField KnownStmtKind KnownArm KnownDecl KnownExpr KnownLink KnownStmt Body Entry ExprKind Field StmtKind Arm Decl Expr Link Stmt (λ p. p.0) (λ p. p.0) (λ p. p.0) (λ p. p.0) (λ p. p.0) (λ p. p.0) (λ p. p.0) (λ p. p.0) (λ p. p.0) (λ p. p.0)

abbrev again_stmt_kind : StmtKind-F Body Entry ExprKind Field StmtKind Arm Decl Expr Link Stmt → StmtKind-F Body Entry ExprKind Field StmtKind Arm Decl Expr Link Stmt
again_stmt_kind x = map-StmtKind BodyMade EntryMade KindMade FieldMade StmtKindMade ArmMade DeclMade ExprMade LinkMade StmtMade Body Entry ExprKind Field StmtKind Arm Decl Expr Link Stmt (λ p. p.tree) (λ p. p.tree) (λ p. p.tree) (λ p. p.tree) (λ p. p.tree) (λ p. p.tree) (λ p. p.tree) (λ p. p.tree) (λ p. p.tree) (λ p. p.tree) (map-StmtKind Body Entry ExprKind Field StmtKind Arm Decl Expr Link Stmt BodyMade EntryMade KindMade FieldMade StmtKindMade ArmMade DeclMade ExprMade LinkMade StmtMade body_made entry_made kind_made field_made stmt_kind_made arm_made decl_made expr_made link_made stmt_made x)

abbrev bare_arm : Arm-F KnownBody KnownEntry KnownExprKind KnownField KnownStmtKind KnownArm KnownDecl KnownExpr KnownLink KnownStmt → Arm-F Body Entry ExprKind Field StmtKind Arm Decl Expr Link Stmt
bare_arm = map-Arm KnownBody KnownEntry KnownExprKind KnownField KnownStmtKind KnownArm KnownDecl KnownExpr KnownLink KnownStmt Body Entry ExprKind Field StmtKind Arm Decl Expr Link Stmt (λ p. p.0) (λ p. p.0) (λ p. p.0) (λ p. p.0) (λ p. p.0) (λ p. p.0) (λ p. p.0) (λ p. p.0) (λ p. p.0) (λ p. p.0)

abbrev again_arm : Arm-F Body Entry ExprKind Field StmtKind Arm Decl Expr Link Stmt → Arm-F Body Entry ExprKind Field StmtKind Arm Decl Expr Link Stmt
again_arm x = map-Arm BodyMade EntryMade KindMade FieldMade StmtKindMade ArmMade DeclMade ExprMade LinkMade StmtMade Body Entry ExprKind Field StmtKind Arm Decl Expr Link Stmt (λ p. p.tree) (λ p. p.tree) (λ p. p.tree) (λ p. p.tree) (λ p. p.tree) (λ p. p.tree) (λ p. p.tree) (λ p. p.tree) (λ p. p.tree) (λ p. p.tree) (map-Arm Body Entry ExprKind Field StmtKind Arm Decl Expr Link Stmt BodyMade EntryMade KindMade FieldMade StmtKindMade ArmMade DeclMade ExprMade LinkMade StmtMade body_made entry_made kind_made field_made stmt_kind_made arm_made decl_made expr_made link_made stmt_made x)

abbrev bare_decl : Decl-F KnownBody KnownEntry KnownExprKind KnownField KnownStmtKind KnownArm KnownDecl KnownExpr KnownLink KnownStmt → Decl-F Body Entry ExprKind Field StmtKind Arm Decl Expr Link Stmt
bare_decl = map-Decl KnownBody KnownEntry KnownExprKind KnownField KnownStmtKind KnownArm KnownDecl KnownExpr KnownLink KnownStmt Body Entry ExprKind Field StmtKind Arm Decl Expr Link Stmt (λ p. p.0) (λ p. p.0) (λ p. p.0) (λ p. p.0) (λ p. p.0) (λ p. p.0) (λ p. p.0) (λ p. p.0) (λ p. p.0) (λ p. p.0)

abbrev again_decl : Decl-F Body Entry ExprKind Field StmtKind Arm Decl Expr Link Stmt → Decl-F Body Entry ExprKind Field StmtKind Arm Decl Expr Link Stmt
again_decl x = map-Decl BodyMade EntryMade KindMade FieldMade StmtKindMade ArmMade DeclMade ExprMade LinkMade StmtMade Body Entry ExprKind Field StmtKind Arm Decl Expr Link Stmt (λ p. p.tree) (λ p. p.tree) (λ p. p.tree) (λ p. p.tree) (λ p. p.tree) (λ p. p.tree) (λ p. p.tree) (λ p. p.tree) (λ p. p.tree) (λ p. p.tree) (map-Decl Body Entry ExprKind Field StmtKind Arm Decl Expr Link Stmt BodyMade EntryMade KindMade FieldMade StmtKindMade ArmMade DeclMade ExprMade LinkMade StmtMade body_made entry_made kind_made field_made stmt_kind_made arm_made decl_made expr_made link_made stmt_made x)

abbrev bare_expr : Expr-F KnownBody KnownEntry KnownExprKind KnownField KnownStmtKind KnownArm KnownDecl KnownExpr KnownLink KnownStmt → Expr-F Body Entry ExprKind Field StmtKind Arm Decl Expr Link Stmt
bare_expr = map-Expr KnownBody KnownEntry KnownExprKind KnownField KnownStmtKind KnownArm KnownDecl KnownExpr KnownLink KnownStmt Body Entry ExprKind Field StmtKind Arm Decl Expr Link Stmt (λ p. p.0) (λ p. p.0) (λ p. p.0) (λ p. p.0) (λ p. p.0) (λ p. p.0) (λ p. p.0) (λ p. p.0) (λ p. p.0) (λ p. p.0)

abbrev again_expr : Expr-F Body Entry ExprKind Field StmtKind Arm Decl Expr Link Stmt → Expr-F Body Entry ExprKind Field StmtKind Arm Decl Expr Link Stmt
again_expr x = map-Expr BodyMade EntryMade KindMade FieldMade StmtKindMade ArmMade DeclMade ExprMade LinkMade StmtMade Body Entry ExprKind Field StmtKind Arm Decl Expr Link Stmt (λ p. p.tree) (λ p. p.tree) (λ p. p.tree) (λ p. p.tree) (λ p. p.tree) (λ p. p.tree) (λ p. p.tree) (λ p. p.tree) (λ p. p.tree) (λ p. p.tree) (map-Expr Body Entry ExprKind Field StmtKind Arm Decl Expr Link Stmt BodyMade EntryMade KindMade FieldMade StmtKindMade ArmMade DeclMade ExprMade LinkMade StmtMade body_made entry_made kind_made field_made stmt_kind_made arm_made decl_made expr_made link_made stmt_made x)

abbrev bare_link : Link-F KnownBody KnownEntry KnownExprKind KnownField KnownStmtKind KnownArm KnownDecl KnownExpr KnownLink KnownStmt → Link-F Body Entry ExprKind Field StmtKind Arm Decl Expr Link Stmt
bare_link = map-Link KnownBody KnownEntry KnownExprKind KnownField KnownStmtKind KnownArm KnownDecl KnownExpr KnownLink KnownStmt Body Entry ExprKind Field StmtKind Arm Decl Expr Link Stmt (λ p. p.0) (λ p. p.0) (λ p. p.0) (λ p. p.0) (λ p. p.0) (λ p. p.0) (λ p. p.0) (λ p. p.0) (λ p. p.0) (λ p. p.0)

abbrev again_link : Link-F Body Entry ExprKind Field StmtKind Arm Decl Expr Link Stmt → Link-F Body Entry ExprKind Field StmtKind Arm Decl Expr Link Stmt
again_link x = map-Link BodyMade EntryMade KindMade FieldMade StmtKindMade ArmMade DeclMade ExprMade LinkMade StmtMade Body Entry ExprKind Field StmtKind Arm Decl Expr Link Stmt (λ p. p.tree) (λ p. p.tree) (λ p. p.tree) (λ p. p.tree) (λ p. p.tree) (λ p. p.tree) (λ p. p.tree) (λ p. p.tree) (λ p. p.tree) (λ p. p.tree) (map-Link Body Entry ExprKind Field StmtKind Arm Decl Expr Link Stmt BodyMade EntryMade KindMade FieldMade StmtKindMade ArmMade DeclMade ExprMade LinkMade StmtMade body_made entry_made kind_made field_made stmt_kind_made arm_made decl_made expr_made link_made stmt_made x)

abbrev bare_stmt : Stmt-F KnownBody KnownEntry KnownExprKind KnownField KnownStmtKind KnownArm KnownDecl KnownExpr KnownLink KnownStmt → Stmt-F Body Entry ExprKind Field StmtKind Arm Decl Expr Link Stmt
bare_stmt = map-Stmt KnownBody KnownEntry KnownExprKind KnownField KnownStmtKind KnownArm KnownDecl KnownExpr KnownLink KnownStmt Body Entry ExprKind Field StmtKind Arm Decl Expr Link Stmt (λ p. p.0) (λ p. p.0) (λ p. p.0) (λ p. p.0) (λ p. p.0) (λ p. p.0) (λ p. p.0) (λ p. p.0) (λ p. p.0) (λ p. p.0)

abbrev again_stmt : Stmt-F Body Entry ExprKind Field StmtKind Arm Decl Expr Link Stmt → Stmt-F Body Entry ExprKind Field StmtKind Arm Decl Expr Link Stmt
again_stmt x = map-Stmt BodyMade EntryMade KindMade FieldMade StmtKindMade ArmMade DeclMade ExprMade LinkMade StmtMade Body Entry ExprKind Field StmtKind Arm Decl Expr Link Stmt (λ p. p.tree) (λ p. p.tree) (λ p. p.tree) (λ p. p.tree) (λ p. p.tree) (λ p. p.tree) (λ p. p.tree) (λ p. p.tree) (λ p. p.tree) (λ p. p.tree) (map-Stmt Body Entry ExprKind Field StmtKind Arm Decl Expr Link Stmt BodyMade EntryMade KindMade FieldMade StmtKindMade ArmMade DeclMade ExprMade LinkMade StmtMade body_made entry_made kind_made field_made stmt_kind_made arm_made decl_made expr_made link_made stmt_made x)

abbrev arm_of : Expr → Stmt → Arm-F Body Entry ExprKind Field StmtKind Arm Decl Expr Link Stmt
arm_of test turn = record { test = test; body = turn }

abbrev decl_of : Named → Option Expr → Decl-F Body Entry ExprKind Field StmtKind Arm Decl Expr Link Stmt
decl_of name first = record { name = name; first = first }

abbrev expr_of : Span → ExprKind → Expr-F Body Entry ExprKind Field StmtKind Arm Decl Expr Link Stmt
expr_of span kind = record { span = span; kind = kind }

abbrev link_of : Op → Expr → Link-F Body Entry ExprKind Field StmtKind Arm Decl Expr Link Stmt
link_of op right = record { op = op; right = right }

abbrev stmt_of : Span → StmtKind → Stmt-F Body Entry ExprKind Field StmtKind Arm Decl Expr Link Stmt
stmt_of span kind = record { span = span; kind = kind }

same_expr_kind : (y : ExprKind-F KnownBody KnownEntry KnownExprKind KnownField KnownStmtKind KnownArm KnownDecl KnownExpr KnownLink KnownStmt) → again_expr_kind (bare_expr_kind y) ≡ bare_expr_kind y
same_expr_kind ExprKind-F.Undefined = refl
same_expr_kind ExprKind-F.Null = refl
same_expr_kind (ExprKind-F.Bool value) = refl
same_expr_kind (ExprKind-F.Num value) = refl
same_expr_kind (ExprKind-F.Text value) = refl
same_expr_kind (ExprKind-F.Read name) = refl
same_expr_kind (ExprKind-F.List items) = ap ExprKind-F.List (each_is entry_made items)
same_expr_kind (ExprKind-F.Obj fields) = ap ExprKind-F.Obj (each_is field_made fields)
same_expr_kind (ExprKind-F.Template parts) = ap ExprKind-F.Template (each_is expr_made parts)
same_expr_kind (ExprKind-F.Arrow params body) = ap (ExprKind-F.Arrow params) body.1
same_expr_kind (ExprKind-F.Assign target op value) = ap (ExprKind-F.Assign target op) value.1
same_expr_kind (ExprKind-F.Bump target up prefix) = refl
same_expr_kind (ExprKind-F.Chain first rest) = two ExprKind-F.Chain first.1 (each_is link_made rest)
same_expr_kind (ExprKind-F.Not of) = ap ExprKind-F.Not of.1
same_expr_kind (ExprKind-F.Minus of) = ap ExprKind-F.Minus of.1
same_expr_kind (ExprKind-F.Choose test first second) = three ExprKind-F.Choose test.1 first.1 second.1
same_expr_kind (ExprKind-F.Member of word) = ap (λ z. ExprKind-F.Member z word) of.1
same_expr_kind (ExprKind-F.Index of index) = two ExprKind-F.Index of.1 index.1
same_expr_kind (ExprKind-F.Call of args) = two ExprKind-F.Call of.1 (each_is expr_made args)

same_entry : (y : Entry-F KnownBody KnownEntry KnownExprKind KnownField KnownStmtKind KnownArm KnownDecl KnownExpr KnownLink KnownStmt) → again_entry (bare_entry y) ≡ bare_entry y
same_entry (Entry-F.One value) = ap Entry-F.One value.1
same_entry (Entry-F.«Entry::Spread» value) = ap Entry-F.«Entry::Spread» value.1

same_field : (y : Field-F KnownBody KnownEntry KnownExprKind KnownField KnownStmtKind KnownArm KnownDecl KnownExpr KnownLink KnownStmt) → again_field (bare_field y) ≡ bare_field y
same_field (Field-F.Pair key value) = ap (Field-F.Pair key) value.1
same_field (Field-F.«Field::Spread» value) = ap Field-F.«Field::Spread» value.1

same_body : (y : Body-F KnownBody KnownEntry KnownExprKind KnownField KnownStmtKind KnownArm KnownDecl KnownExpr KnownLink KnownStmt) → again_body (bare_body y) ≡ bare_body y
same_body (Body-F.Value value) = ap Body-F.Value value.1
same_body (Body-F.«Body::Block» stmts) = ap Body-F.«Body::Block» (each_is stmt_made stmts)

same_link : (y : Link-F KnownBody KnownEntry KnownExprKind KnownField KnownStmtKind KnownArm KnownDecl KnownExpr KnownLink KnownStmt) → again_link (bare_link y) ≡ bare_link y
same_link y = ap (link_of y.op) y.right.1

same_expr : (y : Expr-F KnownBody KnownEntry KnownExprKind KnownField KnownStmtKind KnownArm KnownDecl KnownExpr KnownLink KnownStmt) → again_expr (bare_expr y) ≡ bare_expr y
same_expr y = ap (expr_of y.span) y.kind.1

same_stmt : (y : Stmt-F KnownBody KnownEntry KnownExprKind KnownField KnownStmtKind KnownArm KnownDecl KnownExpr KnownLink KnownStmt) → again_stmt (bare_stmt y) ≡ bare_stmt y
same_stmt y = ap (stmt_of y.span) y.kind.1

abbrev known_decl : Named → Option KnownExpr → Decl-F KnownBody KnownEntry KnownExprKind KnownField KnownStmtKind KnownArm KnownDecl KnownExpr KnownLink KnownStmt
known_decl name first = record { name = name; first = first }

same_first : (name : Named) (first : Option KnownExpr) → again_decl (bare_decl (known_decl name first)) ≡ bare_decl (known_decl name first)
same_first name None = refl
same_first name (Some x) = ap (λ z. decl_of name (Some z)) x.1

same_decl : (y : Decl-F KnownBody KnownEntry KnownExprKind KnownField KnownStmtKind KnownArm KnownDecl KnownExpr KnownLink KnownStmt) → again_decl (bare_decl y) ≡ bare_decl y
same_decl y = same_first y.name y.first

same_arm : (y : Arm-F KnownBody KnownEntry KnownExprKind KnownField KnownStmtKind KnownArm KnownDecl KnownExpr KnownLink KnownStmt) → again_arm (bare_arm y) ≡ bare_arm y
same_arm y = two arm_of y.test.1 y.body.1

same_stmt_kind : (y : StmtKind-F KnownBody KnownEntry KnownExprKind KnownField KnownStmtKind KnownArm KnownDecl KnownExpr KnownLink KnownStmt) → again_stmt_kind (bare_stmt_kind y) ≡ bare_stmt_kind y
same_stmt_kind StmtKind-F.Empty = refl
same_stmt_kind (StmtKind-F.«StmtKind::Block» stmts) = ap StmtKind-F.«StmtKind::Block» (each_is stmt_made stmts)
same_stmt_kind (StmtKind-F.Let decls) = ap StmtKind-F.Let (each_is decl_made decls)
same_stmt_kind (StmtKind-F.Const decls exported) = ap (λ z. StmtKind-F.Const z exported) (each_is decl_made decls)
same_stmt_kind (StmtKind-F.If arms None) = ap (λ z. StmtKind-F.If z None) (each_is arm_made arms)
same_stmt_kind (StmtKind-F.If arms (Some last)) = two (λ z w. StmtKind-F.If z (Some w)) (each_is arm_made arms) last.1
same_stmt_kind (StmtKind-F.While test turn) = two StmtKind-F.While test.1 turn.1
same_stmt_kind (StmtKind-F.For None None None turn) = ap (λ x. StmtKind-F.For None None None x) turn.1
same_stmt_kind (StmtKind-F.For None None (Some next) turn) = two (λ x y. StmtKind-F.For None None (Some x) y) next.1 turn.1
same_stmt_kind (StmtKind-F.For None (Some test) None turn) = two (λ x y. StmtKind-F.For None (Some x) None y) test.1 turn.1
same_stmt_kind (StmtKind-F.For None (Some test) (Some next) turn) = three (λ x y z. StmtKind-F.For None (Some x) (Some y) z) test.1 next.1 turn.1
same_stmt_kind (StmtKind-F.For (Some first) None None turn) = two (λ x y. StmtKind-F.For (Some x) None None y) first.1 turn.1
same_stmt_kind (StmtKind-F.For (Some first) None (Some next) turn) = three (λ x y z. StmtKind-F.For (Some x) None (Some y) z) first.1 next.1 turn.1
same_stmt_kind (StmtKind-F.For (Some first) (Some test) None turn) = three (λ x y z. StmtKind-F.For (Some x) (Some y) None z) first.1 test.1 turn.1
same_stmt_kind (StmtKind-F.For (Some first) (Some test) (Some next) turn) = four (λ x y z w. StmtKind-F.For (Some x) (Some y) (Some z) w) first.1 test.1 next.1 turn.1
same_stmt_kind (StmtKind-F.Each name fixed list turn) = two (StmtKind-F.Each name fixed) list.1 turn.1
same_stmt_kind StmtKind-F.Break = refl
same_stmt_kind StmtKind-F.Continue = refl
same_stmt_kind (StmtKind-F.Return None) = refl
same_stmt_kind (StmtKind-F.Return (Some value)) = ap (λ z. StmtKind-F.Return (Some z)) value.1
same_stmt_kind (StmtKind-F.Eval value) = ap StmtKind-F.Eval value.1
same_stmt_kind (StmtKind-F.Import i) = refl
same_stmt_kind (StmtKind-F.Export decls) = ap StmtKind-F.Export (each_is decl_made decls)
same_stmt_kind (StmtKind-F.React of) = ap StmtKind-F.React of.1
same_stmt_kind (StmtKind-F.Func name exported params stmts) = ap (StmtKind-F.Func name exported params) (each_is stmt_made stmts)

-- ---- whole trees

body_step : (x : Body-F Body Entry ExprKind Field StmtKind Arm Decl Expr Link Stmt) (y : Body-F KnownBody KnownEntry KnownExprKind KnownField KnownStmtKind KnownArm KnownDecl KnownExpr KnownLink KnownStmt) → bare_body y ≡ x → BodyIs (roll-Body x)
body_step x y e = ap (λ m. m.tree) (fold-roll-Body BodyMade EntryMade KindMade FieldMade StmtKindMade ArmMade DeclMade ExprMade LinkMade StmtMade body entry expr_kind field stmt_kind arm decl expr link stmt x) ∙ ap roll-Body (subst (λ z. again_body z ≡ z) e (same_body y))

entry_step : (x : Entry-F Body Entry ExprKind Field StmtKind Arm Decl Expr Link Stmt) (y : Entry-F KnownBody KnownEntry KnownExprKind KnownField KnownStmtKind KnownArm KnownDecl KnownExpr KnownLink KnownStmt) → bare_entry y ≡ x → EntryIs (roll-Entry x)
entry_step x y e = ap (λ m. m.tree) (fold-roll-Entry BodyMade EntryMade KindMade FieldMade StmtKindMade ArmMade DeclMade ExprMade LinkMade StmtMade body entry expr_kind field stmt_kind arm decl expr link stmt x) ∙ ap roll-Entry (subst (λ z. again_entry z ≡ z) e (same_entry y))

expr_kind_step : (x : ExprKind-F Body Entry ExprKind Field StmtKind Arm Decl Expr Link Stmt) (y : ExprKind-F KnownBody KnownEntry KnownExprKind KnownField KnownStmtKind KnownArm KnownDecl KnownExpr KnownLink KnownStmt) → bare_expr_kind y ≡ x → ExprKindIs (roll-ExprKind x)
expr_kind_step x y e = ap (λ m. m.tree) (fold-roll-ExprKind BodyMade EntryMade KindMade FieldMade StmtKindMade ArmMade DeclMade ExprMade LinkMade StmtMade body entry expr_kind field stmt_kind arm decl expr link stmt x) ∙ ap roll-ExprKind (subst (λ z. again_expr_kind z ≡ z) e (same_expr_kind y))

field_step : (x : Field-F Body Entry ExprKind Field StmtKind Arm Decl Expr Link Stmt) (y : Field-F KnownBody KnownEntry KnownExprKind KnownField KnownStmtKind KnownArm KnownDecl KnownExpr KnownLink KnownStmt) → bare_field y ≡ x → FieldIs (roll-Field x)
field_step x y e = ap (λ m. m.tree) (fold-roll-Field BodyMade EntryMade KindMade FieldMade StmtKindMade ArmMade DeclMade ExprMade LinkMade StmtMade body entry expr_kind field stmt_kind arm decl expr link stmt x) ∙ ap roll-Field (subst (λ z. again_field z ≡ z) e (same_field y))

stmt_kind_step : (x : StmtKind-F Body Entry ExprKind Field StmtKind Arm Decl Expr Link Stmt) (y : StmtKind-F KnownBody KnownEntry KnownExprKind KnownField KnownStmtKind KnownArm KnownDecl KnownExpr KnownLink KnownStmt) → bare_stmt_kind y ≡ x → StmtKindIs (roll-StmtKind x)
stmt_kind_step x y e = ap (λ m. m.tree) (fold-roll-StmtKind BodyMade EntryMade KindMade FieldMade StmtKindMade ArmMade DeclMade ExprMade LinkMade StmtMade body entry expr_kind field stmt_kind arm decl expr link stmt x) ∙ ap roll-StmtKind (subst (λ z. again_stmt_kind z ≡ z) e (same_stmt_kind y))

arm_step : (x : Arm-F Body Entry ExprKind Field StmtKind Arm Decl Expr Link Stmt) (y : Arm-F KnownBody KnownEntry KnownExprKind KnownField KnownStmtKind KnownArm KnownDecl KnownExpr KnownLink KnownStmt) → bare_arm y ≡ x → ArmIs (roll-Arm x)
arm_step x y e = ap (λ m. m.tree) (fold-roll-Arm BodyMade EntryMade KindMade FieldMade StmtKindMade ArmMade DeclMade ExprMade LinkMade StmtMade body entry expr_kind field stmt_kind arm decl expr link stmt x) ∙ ap roll-Arm (subst (λ z. again_arm z ≡ z) e (same_arm y))

decl_step : (x : Decl-F Body Entry ExprKind Field StmtKind Arm Decl Expr Link Stmt) (y : Decl-F KnownBody KnownEntry KnownExprKind KnownField KnownStmtKind KnownArm KnownDecl KnownExpr KnownLink KnownStmt) → bare_decl y ≡ x → DeclIs (roll-Decl x)
decl_step x y e = ap (λ m. m.tree) (fold-roll-Decl BodyMade EntryMade KindMade FieldMade StmtKindMade ArmMade DeclMade ExprMade LinkMade StmtMade body entry expr_kind field stmt_kind arm decl expr link stmt x) ∙ ap roll-Decl (subst (λ z. again_decl z ≡ z) e (same_decl y))

expr_step : (x : Expr-F Body Entry ExprKind Field StmtKind Arm Decl Expr Link Stmt) (y : Expr-F KnownBody KnownEntry KnownExprKind KnownField KnownStmtKind KnownArm KnownDecl KnownExpr KnownLink KnownStmt) → bare_expr y ≡ x → ExprIs (roll-Expr x)
expr_step x y e = ap (λ m. m.tree) (fold-roll-Expr BodyMade EntryMade KindMade FieldMade StmtKindMade ArmMade DeclMade ExprMade LinkMade StmtMade body entry expr_kind field stmt_kind arm decl expr link stmt x) ∙ ap roll-Expr (subst (λ z. again_expr z ≡ z) e (same_expr y))

link_step : (x : Link-F Body Entry ExprKind Field StmtKind Arm Decl Expr Link Stmt) (y : Link-F KnownBody KnownEntry KnownExprKind KnownField KnownStmtKind KnownArm KnownDecl KnownExpr KnownLink KnownStmt) → bare_link y ≡ x → LinkIs (roll-Link x)
link_step x y e = ap (λ m. m.tree) (fold-roll-Link BodyMade EntryMade KindMade FieldMade StmtKindMade ArmMade DeclMade ExprMade LinkMade StmtMade body entry expr_kind field stmt_kind arm decl expr link stmt x) ∙ ap roll-Link (subst (λ z. again_link z ≡ z) e (same_link y))

stmt_step : (x : Stmt-F Body Entry ExprKind Field StmtKind Arm Decl Expr Link Stmt) (y : Stmt-F KnownBody KnownEntry KnownExprKind KnownField KnownStmtKind KnownArm KnownDecl KnownExpr KnownLink KnownStmt) → bare_stmt y ≡ x → StmtIs (roll-Stmt x)
stmt_step x y e = ap (λ m. m.tree) (fold-roll-Stmt BodyMade EntryMade KindMade FieldMade StmtKindMade ArmMade DeclMade ExprMade LinkMade StmtMade body entry expr_kind field stmt_kind arm decl expr link stmt x) ∙ ap roll-Stmt (subst (λ z. again_stmt z ≡ z) e (same_stmt y))

pub expr_is : (x : Expr) → (expr_made x).tree ≡ x
expr_is = ind-Expr BodyIs EntryIs ExprKindIs FieldIs StmtKindIs ArmIs DeclIs ExprIs LinkIs StmtIs body_step entry_step expr_kind_step field_step stmt_kind_step arm_step decl_step expr_step link_step stmt_step

pub stmt_is : (x : Stmt) → (stmt_made x).tree ≡ x
stmt_is = ind-Stmt BodyIs EntryIs ExprKindIs FieldIs StmtKindIs ArmIs DeclIs ExprIs LinkIs StmtIs body_step entry_step expr_kind_step field_step stmt_kind_step arm_step decl_step expr_step link_step stmt_step

pub body_is : (x : Body) → (body_made x).tree ≡ x
body_is = ind-Body BodyIs EntryIs ExprKindIs FieldIs StmtKindIs ArmIs DeclIs ExprIs LinkIs StmtIs body_step entry_step expr_kind_step field_step stmt_kind_step arm_step decl_step expr_step link_step stmt_step

pub stmts_are : (stmts : List Stmt) → trees (map stmt_made stmts) ≡ stmts
stmts_are [] = refl
stmts_are (s ∷ stmts) = two (λ y ys. y ∷ ys) (stmt_is s) (stmts_are stmts)

pub stmt_perhaps : (first : Option Stmt) → option_map (λ p. p.tree) (option_map stmt_made first) ≡ first
stmt_perhaps None = refl
stmt_perhaps (Some first) = ap Some (stmt_is first)
