-- The code of a tree reads nothing but what the names that stand free in it stand for: an induction over trees, a line a form.
use Rattle.std.proofs.Common.{◌≡◌, ℕ, Bool, true, false, List, [], ◌∷◌, ◌++◌, Option, None, Some, length, map, option_map, refl, sym, ap, subst, append-nil, slice_get}
use Rattle.std.specs.Prelude.{if◌then◌else◌}
use Rattle.sv_ast.specs.declared.names.Named.{Named}
use Rattle.sv_ast.specs.declared.names.Ref.{Ref}
use Rattle.sv_ast.specs.declared.script_tree.Body.{Body, Body-F, roll-Body, map-Body, fold-roll-Body, ind-Body}
use Rattle.sv_ast.specs.declared.script_tree.Entry.{Entry, Entry-F, roll-Entry, map-Entry, fold-roll-Entry}
use Rattle.sv_ast.specs.declared.script_tree.ExprKind.{ExprKind, ExprKind-F, roll-ExprKind, map-ExprKind, fold-roll-ExprKind}
use Rattle.sv_ast.specs.declared.script_tree.Field.{Field, Field-F, roll-Field, map-Field, fold-roll-Field}
use Rattle.sv_ast.specs.declared.script_tree.StmtKind.{StmtKind, StmtKind-F, roll-StmtKind, map-StmtKind, fold-roll-StmtKind}
use Rattle.sv_ast.specs.declared.script_tree.Arm.{Arm, Arm-F, roll-Arm, map-Arm, fold-roll-Arm}
use Rattle.sv_ast.specs.declared.script_tree.Decl.{Decl, Decl-F, roll-Decl, map-Decl, fold-roll-Decl}
use Rattle.sv_ast.specs.declared.script_tree.Expr.{Expr, Expr-F, roll-Expr, map-Expr, fold-roll-Expr, ind-Expr}
use Rattle.sv_ast.specs.declared.script_tree.Link.{Link, Link-F, roll-Link, map-Link, fold-roll-Link}
use Rattle.sv_ast.specs.declared.script_tree.Stmt.{Stmt, Stmt-F, roll-Stmt, map-Stmt, fold-roll-Stmt}
use Rattle.sv_base.specs.declared.names.Name.{Name}
use Rattle.sv_base.specs.declared.span.Span.{Span}
use Rattle.sv_code.specs.declared.code.Code.{Code as CodeT}
use Rattle.sv_code.specs.declared.code.CodeField
use Rattle.sv_code.specs.declared.code.CodeField.{CodeField as CodeFieldT, CodeField-F, fold-roll-CodeField}
use Rattle.sv_code.specs.declared.code.CodeField.TheVariants as field_code
use Rattle.sv_code.specs.declared.code.CodeItem
use Rattle.sv_code.specs.declared.code.CodeItem.{CodeItem as CodeItemT, CodeItem-F, fold-roll-CodeItem}
use Rattle.sv_code.specs.declared.code.CodeItem.TheVariants as item_code
use Rattle.sv_code.specs.declared.code.CodeKind
use Rattle.sv_code.specs.declared.code.CodeKind.{CodeKind as CodeKindT, CodeKind-F, fold-roll-CodeKind, out-CodeKind}
use Rattle.sv_code.specs.declared.code.CodeKind.TheVariants as code
use Rattle.sv_code.specs.declared.functions.CodeStmt.{CodeStmt as CodeStmtT}
use Rattle.sv_code.specs.declared.functions.CodeStmtKind
use Rattle.sv_code.specs.declared.functions.CodeStmtKind.{CodeStmtKind as CodeStmtKindT, CodeStmtKind-F, fold-roll-CodeStmtKind}
use Rattle.sv_code.specs.declared.functions.CodeStmtKind.TheVariants as stmt_code
use Rattle.sv_code.specs.declared.functions.Function.{Function}
use Rattle.sv_code.specs.declared.functions.FunctionBody.{FunctionBody}
use Rattle.sv_code.specs.declared.functions.FunctionBody.TheVariants as body_code
use Rattle.sv_code.specs.declared.known.Known.{Known}
use Rattle.sv_code.specs.declared.known.Known.TheVariants as known_form
use Rattle.sv_code.specs.Names as names
use Rattle.sv_code.specs.Names.{Each, joined, taken_in}
use Rattle.sv_code.proofs.Each.{each_front, each_back}
use Rattle.sv_lower.specs.Does.{just, of_one, of_two, each, given, within}
use Rattle.sv_lower.specs.Lower.{Made, Lowers, all, perhaps, trees, known, placed, store_of, put, function, numbered, dispatcher, called, call, reads_dispatcher, for_code, of_expr, of_stmt, BodyMade, EntryMade, KindMade, FieldMade, StmtKindMade, ArmMade, DeclMade, ExprMade, LinkMade, StmtMade, body, entry, expr_kind, field, stmt_kind, arm, decl, expr, link, stmt, body_made, entry_made, kind_made, field_made, stmt_kind_made, arm_made, decl_made, expr_made, link_made, stmt_made, kind_code, entry_code, field_code_of, link_code, expr_code, function_body, decl_code, arm_code, stmt_kind_code, stmt_code_of}
use Rattle.sv_lower.specs.Tops.{Tops, known_in, known_or, known_at, property}
use Rattle.sv_lower.proofs.Trees.{body_is, stmts_are, stmt_perhaps}
use Rattle.sv_names.specs.Distinct.{has, with_names, firsts}
use Rattle.sv_names.specs.Locals.{name_of}
use Rattle.sv_names.specs.Uses as uses
use Rattle.sv_names.specs.Uses.{Found, Parts, used, inside, in_turn, together, optional, named, scope_of, head_of}
use Rattle.sv_names.specs.declared.uses.Use.{Use}
use Rattle.sv_within.proofs.Bools.{not_if}
use Rattle.sv_within.proofs.Forms.{kind_is, item_is, field_is, stmt_kind_is, if_names, for_names, return_names, link_names, code_names, stmt_names, arm_names}
use Rattle.sv_within.proofs.Layers.{done_body, uses_body, done_entry, uses_entry, done_expr_kind, uses_expr_kind, done_field, uses_field, done_stmt_kind, uses_stmt_kind, done_arm, uses_arm, done_decl, uses_decl, done_expr, uses_expr, done_link, uses_link, done_stmt, uses_stmt}
use Rattle.sv_within.proofs.Scopes.{Covers, covers_more, covers_firsts}
use Rattle.sv_within.proofs.Making.{Names, BodyIs, Kept, Keeps, just_keeps, one_by, one_keeps, two_by, two_keeps, three_keeps, four_keeps, followed_keeps}

module _ (Q : Known → Type 0) (tops : Tops) (R : Ref → Type 0) (outer : List Ref) (local_fine : (x : Name) → Q (known_form.Local x)) (top_fine : (n : Ref) → R n → has n outer ≡ false → Q (known_or (known_in tops.known n) n)) where
  abbrev RU : Use → Type 0
  RU u = R u.name

  abbrev KeepsIn : {A : Type 0} → Names A → List Ref → Lowers A → Type 0
  KeepsIn names locals make = Keeps Q tops names locals make

  -- ---- names

  used_is : (u : Use) (scope : List Ref) → has u.name scope ≡ false → Each RU (used u scope) → R u.name
  used_is u scope e h = let k : Each RU (if false then [] else u ∷ []) = subst (λ b. Each RU (if b then [] else u ∷ [])) e h in k.0

  at_known : (locals scope : List Ref) → Covers outer scope locals → (u : Use) → Each RU (used u scope) → Q (known_at tops locals u.name)
  at_known locals scope c u h = by (has u.name locals) refl
    where
      by : (b : Bool) → has u.name locals ≡ b → Q (if b then known_form.Local (name_of u.name) else known_or (known_in tops.known u.name) u.name)
      by true e = local_fine (name_of u.name)
      by false e = top_fine u.name (used_is u scope (not_if (has u.name scope) (has u.name locals) (c.inner u.name) e) h) (not_if (has u.name outer) (has u.name locals) (c.base u.name) e)

  abbrev one_name : Names Known
  one_name fs k = k ∷ []

  abbrev no_place : Names Span
  no_place fs at = []

  placed_keeps : (locals : List Ref) (at_end : Bool) (name : Ref) (span : Span) → KeepsIn no_place locals (placed at_end name span)
  placed_keeps locals at_end name span before = record { added = []; is = sym (append-nil before); code = λ fs. tt; bodies = tt }

  known_keeps : (locals scope : List Ref) → Covers outer scope locals → (u : Use) → Each RU (used u scope) → KeepsIn one_name locals (known u.name)
  known_keeps locals scope c u h before = record { added = []; is = sym (append-nil before); code = λ fs. (at_known locals scope c u h, tt); bodies = tt }

  -- ---- functions

  locals_fine : (xs : List Name) → Each Q (map known_form.Local xs)
  locals_fine [] = tt
  locals_fine (x ∷ xs) = (local_fine x, locals_fine xs)

  taken_fine : (o : Option Function) → Each Q (taken_in o)
  taken_fine None = tt
  taken_fine (Some f) = locals_fine f.captured

  abbrev number_names : Names ℕ
  number_names fs n = taken_in (slice_get fs n)

  put_keeps : (f : Function) (before : List Function) → BodyIs Q f → Kept Q number_names before (put f before)
  put_keeps f before h = record { added = f ∷ []; is = refl; code = λ fs. taken_fine (slice_get fs (length before)); bodies = (h, tt) }

  numbered_keeps : (locals : List Ref) (span : Span) (params : List Named) (parts : Parts) (make : Lowers FunctionBody) → KeepsIn names.of_body (scope_of params parts ++ locals) make → KeepsIn number_names locals (numbered span params parts make)
  numbered_keeps locals span params parts make k =
      followed_keeps tops locals names.of_body number_names (within (scope_of params parts) make) (λ made. put (function span params parts locals made))
      (λ s a h. put_keeps (function span params parts locals a) s h) k

  -- ---- calls

  abbrev pair_names : Names (CodeT × List CodeT)
  pair_names fs c = names.of_code fs c.0 ++ joined (map (names.of_code fs) c.1)

  called_by : (b : Bool) (span : Span) (c : CodeT × List CodeT) (s : List Function) → ((fs : List Function) → Each Q (pair_names fs c))
      → Kept Q names.of_kind s (if b then (code.Dispatcher (length s) c.0.span c.1, s ++ dispatcher span ∷ []) else (code.Call c.0 c.1, s))
  unfolding CodeKind.roll-CodeKind denote.Hole.Carrier.roll
  called_by true span c s h = record {
    added = dispatcher span ∷ [];
    is = refl;
    code = λ fs. subst (Each Q) (sym (kind_is fs (CodeKind-F.Dispatcher (length s) c.0.span c.1))) (each_back Q (names.of_code fs c.0) (joined (map (names.of_code fs) c.1)) (h fs));
    bodies = ((λ fs. tt), tt);
  }
  called_by false span c s h = record {
    added = [];
    is = sym (append-nil s);
    code = λ fs. subst (Each Q) (sym (kind_is fs (CodeKind-F.Call c.0 c.1))) (h fs);
    bodies = tt;
  }

  call_keeps : (locals : List Ref) (span : Span) (of : Lowers CodeT) (args : Lowers (List CodeT)) → KeepsIn names.of_code locals of → KeepsIn (λ fs ys. joined (map (names.of_code fs) ys)) locals args → KeepsIn names.of_kind locals (call span of args)
  call_keeps locals span of args k l =
      followed_keeps tops locals pair_names names.of_kind (of_two (λ c list. (c, list)) of args) (called span)
      (λ s c h. called_by (reads_dispatcher (out-CodeKind c.0.kind)) span c s h)
      (two_keeps tops locals names.of_code (λ fs ys. joined (map (names.of_code fs) ys)) pair_names (λ c list. (c, list)) of args (λ fs a b. refl) k l)

  -- ---- trees, with what is claimed of the code of each

  abbrev ClaimBody : Body → Type 0
  ClaimBody x = (locals scope : List Ref) → Covers outer scope locals → Each RU ((uses.body_parts x).uses scope) → KeepsIn names.of_body locals (body_made x).makes

  abbrev KnownBody : Type 0
  KnownBody = (x : Body) × ClaimBody x

  abbrev ClaimEntry : Entry → Type 0
  ClaimEntry x = (locals scope : List Ref) → Covers outer scope locals → Each RU (uses.entry_uses x scope) → KeepsIn names.of_item locals (entry_made x).makes

  abbrev KnownEntry : Type 0
  KnownEntry = (x : Entry) × ClaimEntry x

  abbrev ClaimExprKind : ExprKind → Type 0
  ClaimExprKind x = (span : Span) → (locals scope : List Ref) → Covers outer scope locals → Each RU (uses.kind_uses x scope) → KeepsIn names.of_kind locals ((kind_made x).makes span)

  abbrev KnownExprKind : Type 0
  KnownExprKind = (x : ExprKind) × ClaimExprKind x

  abbrev ClaimField : Field → Type 0
  ClaimField x = (locals scope : List Ref) → Covers outer scope locals → Each RU (uses.field_uses x scope) → KeepsIn names.of_field locals (field_made x).makes

  abbrev KnownField : Type 0
  KnownField = (x : Field) × ClaimField x

  abbrev ClaimStmtKind : StmtKind → Type 0
  ClaimStmtKind x = (span : Span) → (locals scope : List Ref) → Covers outer scope locals → Each RU ((uses.stmt_kind_parts x).uses scope) → KeepsIn names.of_stmt_kind locals ((stmt_kind_made x).makes span)

  abbrev KnownStmtKind : Type 0
  KnownStmtKind = (x : StmtKind) × ClaimStmtKind x

  abbrev ClaimArm : Arm → Type 0
  ClaimArm x = (locals scope : List Ref) → Covers outer scope locals → Each RU (uses.arm_uses x scope) → KeepsIn names.of_arm locals (arm_made x).makes

  abbrev KnownArm : Type 0
  KnownArm = (x : Arm) × ClaimArm x

  abbrev ClaimDecl : Decl → Type 0
  ClaimDecl x = (locals scope : List Ref) → Covers outer scope locals → Each RU ((uses.decl_parts x).uses scope) → KeepsIn names.of_decl locals (decl_made x).makes

  abbrev KnownDecl : Type 0
  KnownDecl = (x : Decl) × ClaimDecl x

  abbrev ClaimExpr : Expr → Type 0
  ClaimExpr x = (locals scope : List Ref) → Covers outer scope locals → Each RU (uses.expr_uses x scope) → KeepsIn names.of_code locals (expr_made x).makes

  abbrev KnownExpr : Type 0
  KnownExpr = (x : Expr) × ClaimExpr x

  abbrev ClaimLink : Link → Type 0
  ClaimLink x = (locals scope : List Ref) → Covers outer scope locals → Each RU (uses.link_uses x scope) → KeepsIn names.of_link locals (link_made x).makes

  abbrev KnownLink : Type 0
  KnownLink = (x : Link) × ClaimLink x

  abbrev ClaimStmt : Stmt → Type 0
  ClaimStmt x = (locals scope : List Ref) → Covers outer scope locals → Each RU ((uses.stmt_parts x).uses scope) → KeepsIn names.of_stmt locals (stmt_made x).makes

  abbrev KnownStmt : Type 0
  KnownStmt = (x : Stmt) × ClaimStmt x

  abbrev bare_body : Body-F KnownBody KnownEntry KnownExprKind KnownField KnownStmtKind KnownArm KnownDecl KnownExpr KnownLink KnownStmt → Body-F Body Entry ExprKind Field StmtKind Arm Decl Expr Link Stmt
  bare_body = map-Body KnownBody KnownEntry KnownExprKind KnownField KnownStmtKind KnownArm KnownDecl KnownExpr KnownLink KnownStmt Body Entry ExprKind Field StmtKind Arm Decl Expr Link Stmt (λ p. p.0) (λ p. p.0) (λ p. p.0) (λ p. p.0) (λ p. p.0) (λ p. p.0) (λ p. p.0) (λ p. p.0) (λ p. p.0) (λ p. p.0)

  abbrev bare_entry : Entry-F KnownBody KnownEntry KnownExprKind KnownField KnownStmtKind KnownArm KnownDecl KnownExpr KnownLink KnownStmt → Entry-F Body Entry ExprKind Field StmtKind Arm Decl Expr Link Stmt
  bare_entry = map-Entry KnownBody KnownEntry KnownExprKind KnownField KnownStmtKind KnownArm KnownDecl KnownExpr KnownLink KnownStmt Body Entry ExprKind Field StmtKind Arm Decl Expr Link Stmt (λ p. p.0) (λ p. p.0) (λ p. p.0) (λ p. p.0) (λ p. p.0) (λ p. p.0) (λ p. p.0) (λ p. p.0) (λ p. p.0) (λ p. p.0)

  abbrev bare_expr_kind : ExprKind-F KnownBody KnownEntry KnownExprKind KnownField KnownStmtKind KnownArm KnownDecl KnownExpr KnownLink KnownStmt → ExprKind-F Body Entry ExprKind Field StmtKind Arm Decl Expr Link Stmt
  bare_expr_kind = map-ExprKind KnownBody KnownEntry KnownExprKind KnownField KnownStmtKind KnownArm KnownDecl KnownExpr KnownLink KnownStmt Body Entry ExprKind Field StmtKind Arm Decl Expr Link Stmt (λ p. p.0) (λ p. p.0) (λ p. p.0) (λ p. p.0) (λ p. p.0) (λ p. p.0) (λ p. p.0) (λ p. p.0) (λ p. p.0) (λ p. p.0)

  abbrev bare_field : Field-F KnownBody KnownEntry KnownExprKind KnownField KnownStmtKind KnownArm KnownDecl KnownExpr KnownLink KnownStmt → Field-F Body Entry ExprKind Field StmtKind Arm Decl Expr Link Stmt
  bare_field = map-Field KnownBody KnownEntry KnownExprKind KnownField KnownStmtKind KnownArm KnownDecl KnownExpr KnownLink KnownStmt Body Entry ExprKind Field StmtKind Arm Decl Expr Link Stmt (λ p. p.0) (λ p. p.0) (λ p. p.0) (λ p. p.0) (λ p. p.0) (λ p. p.0) (λ p. p.0) (λ p. p.0) (λ p. p.0) (λ p. p.0)

  abbrev bare_stmt_kind : StmtKind-F KnownBody KnownEntry KnownExprKind KnownField KnownStmtKind KnownArm KnownDecl KnownExpr KnownLink KnownStmt → StmtKind-F Body Entry ExprKind Field StmtKind Arm Decl Expr Link Stmt
  bare_stmt_kind = map-StmtKind KnownBody KnownEntry KnownExprKind KnownField KnownStmtKind KnownArm KnownDecl KnownExpr KnownLink KnownStmt Body Entry ExprKind Field StmtKind Arm Decl Expr Link Stmt (λ p. p.0) (λ p. p.0) (λ p. p.0) (λ p. p.0) (λ p. p.0) (λ p. p.0) (λ p. p.0) (λ p. p.0) (λ p. p.0) (λ p. p.0)

  abbrev bare_arm : Arm-F KnownBody KnownEntry KnownExprKind KnownField KnownStmtKind KnownArm KnownDecl KnownExpr KnownLink KnownStmt → Arm-F Body Entry ExprKind Field StmtKind Arm Decl Expr Link Stmt
  bare_arm = map-Arm KnownBody KnownEntry KnownExprKind KnownField KnownStmtKind KnownArm KnownDecl KnownExpr KnownLink KnownStmt Body Entry ExprKind Field StmtKind Arm Decl Expr Link Stmt (λ p. p.0) (λ p. p.0) (λ p. p.0) (λ p. p.0) (λ p. p.0) (λ p. p.0) (λ p. p.0) (λ p. p.0) (λ p. p.0) (λ p. p.0)

  abbrev bare_decl : Decl-F KnownBody KnownEntry KnownExprKind KnownField KnownStmtKind KnownArm KnownDecl KnownExpr KnownLink KnownStmt → Decl-F Body Entry ExprKind Field StmtKind Arm Decl Expr Link Stmt
  bare_decl = map-Decl KnownBody KnownEntry KnownExprKind KnownField KnownStmtKind KnownArm KnownDecl KnownExpr KnownLink KnownStmt Body Entry ExprKind Field StmtKind Arm Decl Expr Link Stmt (λ p. p.0) (λ p. p.0) (λ p. p.0) (λ p. p.0) (λ p. p.0) (λ p. p.0) (λ p. p.0) (λ p. p.0) (λ p. p.0) (λ p. p.0)

  abbrev bare_expr : Expr-F KnownBody KnownEntry KnownExprKind KnownField KnownStmtKind KnownArm KnownDecl KnownExpr KnownLink KnownStmt → Expr-F Body Entry ExprKind Field StmtKind Arm Decl Expr Link Stmt
  bare_expr = map-Expr KnownBody KnownEntry KnownExprKind KnownField KnownStmtKind KnownArm KnownDecl KnownExpr KnownLink KnownStmt Body Entry ExprKind Field StmtKind Arm Decl Expr Link Stmt (λ p. p.0) (λ p. p.0) (λ p. p.0) (λ p. p.0) (λ p. p.0) (λ p. p.0) (λ p. p.0) (λ p. p.0) (λ p. p.0) (λ p. p.0)

  abbrev bare_link : Link-F KnownBody KnownEntry KnownExprKind KnownField KnownStmtKind KnownArm KnownDecl KnownExpr KnownLink KnownStmt → Link-F Body Entry ExprKind Field StmtKind Arm Decl Expr Link Stmt
  bare_link = map-Link KnownBody KnownEntry KnownExprKind KnownField KnownStmtKind KnownArm KnownDecl KnownExpr KnownLink KnownStmt Body Entry ExprKind Field StmtKind Arm Decl Expr Link Stmt (λ p. p.0) (λ p. p.0) (λ p. p.0) (λ p. p.0) (λ p. p.0) (λ p. p.0) (λ p. p.0) (λ p. p.0) (λ p. p.0) (λ p. p.0)

  abbrev bare_stmt : Stmt-F KnownBody KnownEntry KnownExprKind KnownField KnownStmtKind KnownArm KnownDecl KnownExpr KnownLink KnownStmt → Stmt-F Body Entry ExprKind Field StmtKind Arm Decl Expr Link Stmt
  bare_stmt = map-Stmt KnownBody KnownEntry KnownExprKind KnownField KnownStmtKind KnownArm KnownDecl KnownExpr KnownLink KnownStmt Body Entry ExprKind Field StmtKind Arm Decl Expr Link Stmt (λ p. p.0) (λ p. p.0) (λ p. p.0) (λ p. p.0) (λ p. p.0) (λ p. p.0) (λ p. p.0) (λ p. p.0) (λ p. p.0) (λ p. p.0)

  -- ---- lists of trees

  abbrev ListClaim : {T A : Type 0} → Names A → (T → Made T (Lowers A)) → (T → Found) → T → Type 0
  ListClaim ns made found x = (locals scope : List Ref) → Covers outer scope locals → Each RU (found x scope) → KeepsIn ns locals (made x).makes

  each_of : {T A : Type 0} (ns : Names A) (made : T → Made T (Lowers A)) (found : T → Found) (xs : List ((x : T) × ListClaim ns made found x)) (locals scope : List Ref) → Covers outer scope locals → Each RU (in_turn (map found (map (λ p. p.0) xs)) scope)
      → KeepsIn (λ fs ys. joined (map (ns fs) ys)) locals (each (all (map made (map (λ p. p.0) xs))))
  each_of ns made found [] locals scope c h = just_keeps tops locals (λ fs ys. joined (map (ns fs) ys)) [] (λ fs. tt)
  each_of ns made found (x ∷ xs) locals scope c h =
      two_keeps tops locals ns (λ fs ys. joined (map (ns fs) ys)) (λ fs ys. joined (map (ns fs) ys)) (λ y ys. y ∷ ys) (made x.0).makes (each (all (map made (map (λ p. p.0) xs)))) (λ fs a b. refl)
      (x.1 locals scope c (each_front RU (found x.0 scope) (in_turn (map found (map (λ p. p.0) xs)) scope) h))
      (each_of ns made found xs locals scope c (each_back RU (found x.0 scope) (in_turn (map found (map (λ p. p.0) xs)) scope) h))

  -- the same of trees that declare names
  together_of : {T A : Type 0} (ns : Names A) (made : T → Made T (Lowers A)) (parts : T → Parts) (xs : List ((x : T) × ListClaim ns made (λ x. (parts x).uses) x)) (locals scope : List Ref) → Covers outer scope locals → Each RU ((together (map parts (map (λ p. p.0) xs))).uses scope)
      → KeepsIn (λ fs ys. joined (map (ns fs) ys)) locals (each (all (map made (map (λ p. p.0) xs))))
  together_of ns made parts [] locals scope c h = just_keeps tops locals (λ fs ys. joined (map (ns fs) ys)) [] (λ fs. tt)
  together_of ns made parts (x ∷ xs) locals scope c h =
      two_keeps tops locals ns (λ fs ys. joined (map (ns fs) ys)) (λ fs ys. joined (map (ns fs) ys)) (λ y ys. y ∷ ys) (made x.0).makes (each (all (map made (map (λ p. p.0) xs)))) (λ fs a b. refl)
      (x.1 locals scope c (each_front RU ((parts x.0).uses scope) ((together (map parts (map (λ p. p.0) xs))).uses scope) h))
      (together_of ns made parts xs locals scope c (each_back RU ((parts x.0).uses scope) ((together (map parts (map (λ p. p.0) xs))).uses scope) h))

  code_given : (x : Option KnownExpr) (locals scope : List Ref) → Covers outer scope locals → Each RU (uses.given (option_map uses.expr_uses (option_map (λ p. p.0) x)) scope) → KeepsIn (λ fs y. names.given (option_map (names.of_code fs) y)) locals (given (perhaps (option_map expr_made (option_map (λ p. p.0) x))))
  code_given None locals scope c h = just_keeps tops locals (λ fs y. names.given (option_map (names.of_code fs) y)) None (λ fs. tt)
  code_given (Some x) locals scope c h = one_keeps tops locals names.of_code (λ fs y. names.given (option_map (names.of_code fs) y)) Some (of_expr x.0) (λ fs a. refl) (x.1 locals scope c h)

  stmt_given : (x : Option KnownStmt) (locals scope : List Ref) → Covers outer scope locals → Each RU ((optional (option_map uses.stmt_parts (option_map (λ p. p.0) x))).uses scope) → KeepsIn (λ fs y. names.given (option_map (names.of_stmt fs) y)) locals (given (perhaps (option_map stmt_made (option_map (λ p. p.0) x))))
  stmt_given None locals scope c h = just_keeps tops locals (λ fs y. names.given (option_map (names.of_stmt fs) y)) None (λ fs. tt)
  stmt_given (Some x) locals scope c h = one_keeps tops locals names.of_stmt (λ fs y. names.given (option_map (names.of_stmt fs) y)) Some (of_stmt x.0) (λ fs a. refl) (x.1 locals scope c h)

  -- ---- each form

  arrow_keeps : (span : Span) (params : List Named) (b : KnownBody) (locals scope : List Ref) → Covers outer scope locals → Each RU (inside (map named params) (uses.body_parts b.0) scope)
      → KeepsIn number_names locals (numbered span params (uses.body_parts (body_made b.0).tree) (body_made b.0).makes)
  arrow_keeps span params b locals scope c h =
      subst (λ t. KeepsIn number_names locals (numbered span params (uses.body_parts t) (body_made b.0).makes)) (sym (body_is b.0))
      (numbered_keeps locals span params (uses.body_parts b.0) (body_made b.0).makes
      (b.1 (scope_of params (uses.body_parts b.0) ++ locals) (with_names scope (map named params ++ (uses.body_parts b.0).declares)) (covers_firsts outer scope locals (map named params ++ (uses.body_parts b.0).declares) c) h))

  kind_keeps : (y : ExprKind-F KnownBody KnownEntry KnownExprKind KnownField KnownStmtKind KnownArm KnownDecl KnownExpr KnownLink KnownStmt) (span : Span) (locals scope : List Ref) → Covers outer scope locals → Each RU (uses.expr_kind (uses_expr_kind (bare_expr_kind y)) scope) → KeepsIn names.of_kind locals (kind_code (done_expr_kind (bare_expr_kind y)) span)
  unfolding CodeKind.roll-CodeKind denote.Hole.Carrier.roll
  kind_keeps ExprKind-F.Undefined span locals scope c h = just_keeps tops locals names.of_kind code.Undefined (λ fs. subst (Each Q) (sym (kind_is fs CodeKind-F.Undefined)) tt)
  kind_keeps ExprKind-F.Null span locals scope c h = just_keeps tops locals names.of_kind code.Null (λ fs. subst (Each Q) (sym (kind_is fs CodeKind-F.Null)) tt)
  kind_keeps (ExprKind-F.Bool value) span locals scope c h = just_keeps tops locals names.of_kind (code.Bool value) (λ fs. subst (Each Q) (sym (kind_is fs (CodeKind-F.Bool value))) tt)
  kind_keeps (ExprKind-F.Num value) span locals scope c h = just_keeps tops locals names.of_kind (code.Num value) (λ fs. subst (Each Q) (sym (kind_is fs (CodeKind-F.Num value))) tt)
  kind_keeps (ExprKind-F.Text value) span locals scope c h = just_keeps tops locals names.of_kind (code.Text value) (λ fs. subst (Each Q) (sym (kind_is fs (CodeKind-F.Text value))) tt)
  kind_keeps (ExprKind-F.Read name) span locals scope c h = one_keeps tops locals one_name names.of_kind code.Read (known name) (λ fs a. kind_is fs (CodeKind-F.Read a)) (known_keeps locals scope c (uses.read name) h)
  kind_keeps (ExprKind-F.List items) span locals scope c h = one_keeps tops locals (λ fs ys. joined (map (names.of_item fs) ys)) names.of_kind code.List (each (all (map entry_made (map (λ p. p.0) items)))) (λ fs a. kind_is fs (CodeKind-F.List a)) (each_of names.of_item entry_made uses.entry_uses items locals scope c h)
  kind_keeps (ExprKind-F.Obj fields) span locals scope c h = one_keeps tops locals (λ fs ys. joined (map (names.of_field fs) ys)) names.of_kind code.Object (each (all (map field_made (map (λ p. p.0) fields)))) (λ fs a. kind_is fs (CodeKind-F.Object a)) (each_of names.of_field field_made uses.field_uses fields locals scope c h)
  kind_keeps (ExprKind-F.Template parts) span locals scope c h = one_keeps tops locals (λ fs ys. joined (map (names.of_code fs) ys)) names.of_kind code.Template (each (all (map expr_made (map (λ p. p.0) parts)))) (λ fs a. kind_is fs (CodeKind-F.Template a)) (each_of names.of_code expr_made uses.expr_uses parts locals scope c h)
  kind_keeps (ExprKind-F.Arrow params body) span locals scope c h = one_keeps tops locals number_names names.of_kind code.Arrow (numbered span params (uses.body_parts (body_made body.0).tree) (body_made body.0).makes) (λ fs a. kind_is fs (CodeKind-F.Arrow a)) (arrow_keeps span params body locals scope c h)
  kind_keeps (ExprKind-F.Assign target op value) span locals scope c h = three_keeps tops locals one_name no_place names.of_code names.of_kind (λ t at x. code.Assign t at op x) (known target) (placed false target span) (of_expr value.0) (λ fs a at b. kind_is fs (CodeKind-F.Assign a at op b)) (known_keeps locals scope c (uses.assigned target op) (each_front RU (used (uses.assigned target op) scope) (uses.expr_uses value.0 scope) h)) (placed_keeps locals false target span) (value.1 locals scope c (each_back RU (used (uses.assigned target op) scope) (uses.expr_uses value.0 scope) h))
  kind_keeps (ExprKind-F.Bump target up prefix) span locals scope c h = two_keeps tops locals one_name no_place names.of_kind (λ t at. code.Bump t at up prefix) (known target) (placed prefix target span) (λ fs a at. kind_is fs (CodeKind-F.Bump a at up prefix)) (known_keeps locals scope c (uses.bumped target) h) (placed_keeps locals prefix target span)
  kind_keeps (ExprKind-F.Chain first rest) span locals scope c h = two_keeps tops locals names.of_code (λ fs ys. joined (map (names.of_link fs) ys)) names.of_kind code.Chain (of_expr first.0) (each (all (map link_made (map (λ p. p.0) rest)))) (λ fs a b. kind_is fs (CodeKind-F.Chain a b)) (first.1 locals scope c (each_front RU (uses.expr_uses first.0 scope) (in_turn (map uses.link_uses (map (λ p. p.0) rest)) scope) h)) (each_of names.of_link link_made uses.link_uses rest locals scope c (each_back RU (uses.expr_uses first.0 scope) (in_turn (map uses.link_uses (map (λ p. p.0) rest)) scope) h))
  kind_keeps (ExprKind-F.Not of) span locals scope c h = one_keeps tops locals names.of_code names.of_kind code.Not (of_expr of.0) (λ fs a. kind_is fs (CodeKind-F.Not a)) (of.1 locals scope c h)
  kind_keeps (ExprKind-F.Minus of) span locals scope c h = one_keeps tops locals names.of_code names.of_kind code.Minus (of_expr of.0) (λ fs a. kind_is fs (CodeKind-F.Minus a)) (of.1 locals scope c h)
  kind_keeps (ExprKind-F.Choose test first second) span locals scope c h =
      let k : Each RU ((uses.expr_uses test.0 scope) ++ (uses.expr_uses first.0 scope)) = each_front RU ((uses.expr_uses test.0 scope) ++ (uses.expr_uses first.0 scope)) (uses.expr_uses second.0 scope) h in
      three_keeps tops locals names.of_code names.of_code names.of_code names.of_kind code.Choose (of_expr test.0) (of_expr first.0) (of_expr second.0) (λ fs a b c. kind_is fs (CodeKind-F.Choose a b c))
      (test.1 locals scope c (each_front RU (uses.expr_uses test.0 scope) (uses.expr_uses first.0 scope) k)) (first.1 locals scope c (each_back RU (uses.expr_uses test.0 scope) (uses.expr_uses first.0 scope) k)) (second.1 locals scope c (each_back RU ((uses.expr_uses test.0 scope) ++ (uses.expr_uses first.0 scope)) (uses.expr_uses second.0 scope) h))
  kind_keeps (ExprKind-F.Member of word) span locals scope c h = one_keeps tops locals names.of_code names.of_kind (λ x. code.Member x (property tops word)) (of_expr of.0) (λ fs a. kind_is fs (CodeKind-F.Member a (property tops word))) (of.1 locals scope c h)
  kind_keeps (ExprKind-F.Index of index) span locals scope c h = two_keeps tops locals names.of_code names.of_code names.of_kind code.Index (of_expr of.0) (of_expr index.0) (λ fs a b. kind_is fs (CodeKind-F.Index a b)) (of.1 locals scope c (each_front RU (uses.expr_uses of.0 scope) (uses.expr_uses index.0 scope) h)) (index.1 locals scope c (each_back RU (uses.expr_uses of.0 scope) (uses.expr_uses index.0 scope) h))
  kind_keeps (ExprKind-F.Call of args) span locals scope c h = call_keeps locals span (of_expr of.0) (each (all (map expr_made (map (λ p. p.0) args)))) (of.1 locals scope c (each_front RU (uses.expr_uses of.0 scope) (in_turn (map uses.expr_uses (map (λ p. p.0) args)) scope) h)) (each_of names.of_code expr_made uses.expr_uses args locals scope c (each_back RU (uses.expr_uses of.0 scope) (in_turn (map uses.expr_uses (map (λ p. p.0) args)) scope) h))

  entry_keeps : (y : Entry-F KnownBody KnownEntry KnownExprKind KnownField KnownStmtKind KnownArm KnownDecl KnownExpr KnownLink KnownStmt) (locals scope : List Ref) → Covers outer scope locals → Each RU (uses.entry (uses_entry (bare_entry y)) scope) → KeepsIn names.of_item locals (entry_code (done_entry (bare_entry y)))
  unfolding CodeItem.roll-CodeItem denote.Hole.Carrier.roll
  entry_keeps (Entry-F.One value) locals scope c h = one_keeps tops locals names.of_code names.of_item item_code.One (of_expr value.0) (λ fs a. item_is fs (CodeItem-F.One a)) (value.1 locals scope c h)
  entry_keeps (Entry-F.«Entry::Spread» value) locals scope c h = one_keeps tops locals names.of_code names.of_item item_code.Spread (of_expr value.0) (λ fs a. item_is fs (CodeItem-F.«CodeItem::Spread» a)) (value.1 locals scope c h)

  field_keeps : (y : Field-F KnownBody KnownEntry KnownExprKind KnownField KnownStmtKind KnownArm KnownDecl KnownExpr KnownLink KnownStmt) (locals scope : List Ref) → Covers outer scope locals → Each RU (uses.field (uses_field (bare_field y)) scope) → KeepsIn names.of_field locals (field_code_of (done_field (bare_field y)))
  unfolding CodeField.roll-CodeField denote.Hole.Carrier.roll
  field_keeps (Field-F.Pair key value) locals scope c h = one_keeps tops locals names.of_code names.of_field (field_code.Pair key) (of_expr value.0) (λ fs a. field_is fs (CodeField-F.Pair key a)) (value.1 locals scope c h)
  field_keeps (Field-F.«Field::Spread» value) locals scope c h = one_keeps tops locals names.of_code names.of_field field_code.Spread (of_expr value.0) (λ fs a. field_is fs (CodeField-F.«CodeField::Spread» a)) (value.1 locals scope c h)

  body_keeps : (y : Body-F KnownBody KnownEntry KnownExprKind KnownField KnownStmtKind KnownArm KnownDecl KnownExpr KnownLink KnownStmt) (locals scope : List Ref) → Covers outer scope locals → Each RU ((uses.body (uses_body (bare_body y))).uses scope) → KeepsIn names.of_body locals (function_body (done_body (bare_body y)))
  body_keeps (Body-F.Value value) locals scope c h = one_keeps tops locals names.of_code names.of_body body_code.Value (of_expr value.0) (λ fs a. refl) (value.1 locals scope c h)
  body_keeps (Body-F.«Body::Block» stmts) locals scope c h = one_keeps tops locals (λ fs ys. joined (map (names.of_stmt fs) ys)) names.of_body body_code.Block (each (all (map stmt_made (map (λ p. p.0) stmts)))) (λ fs a. refl) (together_of names.of_stmt stmt_made uses.stmt_parts stmts locals scope c h)

  link_keeps : (y : Link-F KnownBody KnownEntry KnownExprKind KnownField KnownStmtKind KnownArm KnownDecl KnownExpr KnownLink KnownStmt) (locals scope : List Ref) → Covers outer scope locals → Each RU (uses.link (uses_link (bare_link y)) scope) → KeepsIn names.of_link locals (link_code (done_link (bare_link y)))
  link_keeps y locals scope c h = one_keeps tops locals names.of_code names.of_link (λ right. record { op = y.op; right = right }) (of_expr y.right.0) (λ fs a. link_names fs y.op a) (y.right.1 locals scope c h)

  expr_keeps : (y : Expr-F KnownBody KnownEntry KnownExprKind KnownField KnownStmtKind KnownArm KnownDecl KnownExpr KnownLink KnownStmt) (locals scope : List Ref) → Covers outer scope locals → Each RU (uses.expr (uses_expr (bare_expr y)) scope) → KeepsIn names.of_code locals (expr_code (done_expr (bare_expr y)))
  expr_keeps y locals scope c h = one_keeps tops locals names.of_kind names.of_code (λ kind. record { span = y.span; kind = kind }) ((kind_made y.kind.0).makes y.span) (λ fs a. code_names fs y.span a) (y.kind.1 y.span locals scope c h)

  stmt_keeps : (y : Stmt-F KnownBody KnownEntry KnownExprKind KnownField KnownStmtKind KnownArm KnownDecl KnownExpr KnownLink KnownStmt) (locals scope : List Ref) → Covers outer scope locals → Each RU ((uses.stmt (uses_stmt (bare_stmt y))).uses scope) → KeepsIn names.of_stmt locals (stmt_code_of (done_stmt (bare_stmt y)))
  stmt_keeps y locals scope c h = one_keeps tops locals names.of_stmt_kind names.of_stmt (λ kind. record { span = y.span; kind = kind }) ((stmt_kind_made y.kind.0).makes y.span) (λ fs a. stmt_names fs y.span a) (y.kind.1 y.span locals scope c h)

  arm_keeps : (y : Arm-F KnownBody KnownEntry KnownExprKind KnownField KnownStmtKind KnownArm KnownDecl KnownExpr KnownLink KnownStmt) (locals scope : List Ref) → Covers outer scope locals → Each RU (uses.arm (uses_arm (bare_arm y)) scope) → KeepsIn names.of_arm locals (arm_code (done_arm (bare_arm y)))
  arm_keeps y locals scope c h =
      two_keeps tops locals names.of_code names.of_stmt names.of_arm (λ test turn. record { test = test; body = turn }) (of_expr y.test.0) (of_stmt y.body.0) (λ fs a b. arm_names fs a b)
      (y.test.1 locals scope c (each_front RU (uses.expr_uses y.test.0 scope) ((uses.stmt_parts y.body.0).uses scope) h)) (y.body.1 locals scope c (each_back RU (uses.expr_uses y.test.0 scope) ((uses.stmt_parts y.body.0).uses scope) h))

  abbrev known_decl : Named → Option KnownExpr → Decl-F KnownBody KnownEntry KnownExprKind KnownField KnownStmtKind KnownArm KnownDecl KnownExpr KnownLink KnownStmt
  known_decl name first = record { name = name; first = first }

  decl_with : (name : Named) (target value : Known) (locals : List Ref) (first : Lowers (Option CodeT)) → KeepsIn (λ fs y. names.given (option_map (names.of_code fs) y)) locals first
      → KeepsIn names.of_decl locals (of_one (λ x. record { name = name; target = target; store = store_of target value; first = x }) first)
  decl_with name target value locals first k = one_keeps tops locals (λ fs y. names.given (option_map (names.of_code fs) y)) names.of_decl (λ x. record { name = name; target = target; store = store_of target value; first = x }) first (λ fs a. refl) k

  first_keeps : (name : Named) (first : Option KnownExpr) (locals scope : List Ref) → Covers outer scope locals → Each RU ((uses.decl (uses_decl (bare_decl (known_decl name first)))).uses scope) → KeepsIn names.of_decl locals (decl_code (done_decl (bare_decl (known_decl name first))))
  first_keeps name None locals scope c h = decl_with name _ _ locals (just None) (code_given None locals scope c h)
  first_keeps name (Some x) locals scope c h = decl_with name _ _ locals (of_one Some (of_expr x.0)) (code_given (Some x) locals scope c h)

  decl_keeps : (y : Decl-F KnownBody KnownEntry KnownExprKind KnownField KnownStmtKind KnownArm KnownDecl KnownExpr KnownLink KnownStmt) (locals scope : List Ref) → Covers outer scope locals → Each RU ((uses.decl (uses_decl (bare_decl y))).uses scope) → KeepsIn names.of_decl locals (decl_code (done_decl (bare_decl y)))
  decl_keeps y locals scope c h = first_keeps y.name y.first locals scope c h

  for_keeps : (locals ns : List Ref) (first : Lowers (Option CodeStmtT)) (test next : Lowers (Option CodeT)) (turn : Lowers CodeStmtT)
      → KeepsIn (λ fs y. names.given (option_map (names.of_stmt fs) y)) (ns ++ locals) first → KeepsIn (λ fs y. names.given (option_map (names.of_code fs) y)) (ns ++ locals) test → KeepsIn (λ fs y. names.given (option_map (names.of_code fs) y)) (ns ++ locals) next → KeepsIn names.of_stmt (ns ++ locals) turn → KeepsIn names.of_stmt_kind locals (for_code ns first test next turn)
  for_keeps locals ns first test next turn a b c d = four_keeps tops (ns ++ locals) (λ fs y. names.given (option_map (names.of_stmt fs) y)) (λ fs y. names.given (option_map (names.of_code fs) y)) (λ fs y. names.given (option_map (names.of_code fs) y)) names.of_stmt names.of_stmt_kind (stmt_code.For (map name_of ns)) first test next turn (λ fs x y z w. for_names fs (map name_of ns) x y z w) a b c d

  -- a `for`, where what its head declares is known of the tree
  for_whole : (first : Option KnownStmt) (test next : Option KnownExpr) (turn : KnownStmt) (locals scope : List Ref) → Covers outer scope locals
      → Each RU (uses.for_head (optional (option_map uses.stmt_parts (option_map (λ p. p.0) first))) (uses.given (option_map uses.expr_uses (option_map (λ p. p.0) test))) (uses.given (option_map uses.expr_uses (option_map (λ p. p.0) next))) (uses.stmt_parts turn.0).uses scope)
      → KeepsIn names.of_stmt_kind locals (for_code (head_of (option_map (λ p. p.0) first)) (given (perhaps (option_map stmt_made (option_map (λ p. p.0) first)))) (given (perhaps (option_map expr_made (option_map (λ p. p.0) test)))) (given (perhaps (option_map expr_made (option_map (λ p. p.0) next)))) (of_stmt turn.0))
  for_whole first test next turn locals scope c h =
      let ds : List Ref = (optional (option_map uses.stmt_parts (option_map (λ p. p.0) first))).declares in
      let inner : List Ref = with_names scope ds in
      let cs : Covers outer inner (firsts ds ++ locals) = covers_firsts outer scope locals ds c in
      let a : List Use = (optional (option_map uses.stmt_parts (option_map (λ p. p.0) first))).uses inner in
      let b : List Use = uses.given (option_map uses.expr_uses (option_map (λ p. p.0) test)) inner in
      let d : List Use = uses.given (option_map uses.expr_uses (option_map (λ p. p.0) next)) inner in
      let e : List Use = (uses.stmt_parts turn.0).uses inner in
      let k : Each RU ((a ++ b) ++ d) = each_front RU ((a ++ b) ++ d) e h in
      let l : Each RU (a ++ b) = each_front RU (a ++ b) d k in
      for_keeps locals (firsts ds) (given (perhaps (option_map stmt_made (option_map (λ p. p.0) first)))) (given (perhaps (option_map expr_made (option_map (λ p. p.0) test)))) (given (perhaps (option_map expr_made (option_map (λ p. p.0) next)))) (of_stmt turn.0) (stmt_given first (firsts ds ++ locals) inner cs (each_front RU a b l)) (code_given test (firsts ds ++ locals) inner cs (each_back RU a b l))
      (code_given next (firsts ds ++ locals) inner cs (each_back RU (a ++ b) d k)) (turn.1 (firsts ds ++ locals) inner cs (each_back RU ((a ++ b) ++ d) e h))

  for_tree : (first : Option KnownStmt) (test next : Option KnownExpr) (turn : KnownStmt) (locals scope : List Ref) → Covers outer scope locals
      → Each RU (uses.for_head (optional (option_map uses.stmt_parts (option_map (λ p. p.0) first))) (uses.given (option_map uses.expr_uses (option_map (λ p. p.0) test))) (uses.given (option_map uses.expr_uses (option_map (λ p. p.0) next))) (uses.stmt_parts turn.0).uses scope)
      → KeepsIn names.of_stmt_kind locals (for_code (head_of (option_map (λ p. p.tree) (option_map stmt_made (option_map (λ p. p.0) first)))) (given (perhaps (option_map stmt_made (option_map (λ p. p.0) first)))) (given (perhaps (option_map expr_made (option_map (λ p. p.0) test)))) (given (perhaps (option_map expr_made (option_map (λ p. p.0) next)))) (of_stmt turn.0))
  for_tree first test next turn locals scope c h =
      subst (λ z. KeepsIn names.of_stmt_kind locals (for_code (head_of z) (given (perhaps (option_map stmt_made (option_map (λ p. p.0) first)))) (given (perhaps (option_map expr_made (option_map (λ p. p.0) test)))) (given (perhaps (option_map expr_made (option_map (λ p. p.0) next)))) (of_stmt turn.0)))
      (sym (stmt_perhaps (option_map (λ p. p.0) first))) (for_whole first test next turn locals scope c h)

  block_tree : (stmts : List KnownStmt) (locals scope : List Ref) → Covers outer scope locals → Each RU (inside [] (together (map uses.stmt_parts (map (λ p. p.0) stmts))) scope)
      → KeepsIn (λ fs ys. joined (map (names.of_stmt fs) ys)) locals (within (scope_of [] (together (map uses.stmt_parts (trees (map stmt_made (map (λ p. p.0) stmts)))))) (each (all (map stmt_made (map (λ p. p.0) stmts)))))
  block_tree stmts locals scope c h =
      subst (λ z. KeepsIn (λ fs ys. joined (map (names.of_stmt fs) ys)) locals (within (scope_of [] (together (map uses.stmt_parts z))) (each (all (map stmt_made (map (λ p. p.0) stmts)))))) (sym (stmts_are (map (λ p. p.0) stmts)))
      (together_of names.of_stmt stmt_made uses.stmt_parts stmts (scope_of [] (together (map uses.stmt_parts (map (λ p. p.0) stmts))) ++ locals) (with_names scope (together (map uses.stmt_parts (map (λ p. p.0) stmts))).declares)
      (covers_firsts outer scope locals (together (map uses.stmt_parts (map (λ p. p.0) stmts))).declares c) h)

  func_tree : (span : Span) (params : List Named) (stmts : List KnownStmt) (locals scope : List Ref) → Covers outer scope locals → Each RU (inside (map named params) (together (map uses.stmt_parts (map (λ p. p.0) stmts))) scope)
      → KeepsIn number_names locals (numbered span params (together (map uses.stmt_parts (trees (map stmt_made (map (λ p. p.0) stmts))))) (of_one body_code.Block (each (all (map stmt_made (map (λ p. p.0) stmts))))))
  func_tree span params stmts locals scope c h =
      let parts : Parts = together (map uses.stmt_parts (map (λ p. p.0) stmts)) in
      subst (λ z. KeepsIn number_names locals (numbered span params (together (map uses.stmt_parts z)) (of_one body_code.Block (each (all (map stmt_made (map (λ p. p.0) stmts))))))) (sym (stmts_are (map (λ p. p.0) stmts)))
      (numbered_keeps locals span params parts (of_one body_code.Block (each (all (map stmt_made (map (λ p. p.0) stmts)))))
      (one_keeps tops (scope_of params parts ++ locals) (λ fs ys. joined (map (names.of_stmt fs) ys)) names.of_body body_code.Block (each (all (map stmt_made (map (λ p. p.0) stmts)))) (λ fs a. refl)
      (together_of names.of_stmt stmt_made uses.stmt_parts stmts (scope_of params parts ++ locals) (with_names scope (map named params ++ parts.declares)) (covers_firsts outer scope locals (map named params ++ parts.declares) c) h)))

  abbrev no_names : Names Known
  no_names fs k = []

  func_keeps : (locals : List Ref) (name : Named) (exported : Bool) (number : Lowers ℕ) → KeepsIn number_names locals number → KeepsIn names.of_stmt_kind locals (of_two (stmt_code.Function name exported) (known (named name)) number)
  unfolding CodeStmtKind.roll-CodeStmtKind denote.Hole.Carrier.roll
  func_keeps locals name exported number k =
      two_by tops locals no_names number_names names.of_stmt_kind (stmt_code.Function name exported) (known (named name)) number (λ fs a b h l. subst (Each Q) (sym (stmt_kind_is fs (CodeStmtKind-F.Function name exported a b))) tt)
      (λ before. record { added = []; is = sym (append-nil before); code = λ fs. tt; bodies = tt }) k

  react_keeps : (locals : List Ref) (make : Lowers CodeStmtT) → KeepsIn names.of_stmt locals make → KeepsIn names.of_stmt_kind locals (of_one stmt_code.React make)
  unfolding CodeStmtKind.roll-CodeStmtKind denote.Hole.Carrier.roll
  react_keeps locals make k = one_by tops locals names.of_stmt names.of_stmt_kind stmt_code.React make (λ fs a h. subst (Each Q) (sym (stmt_kind_is fs (CodeStmtKind-F.React a))) tt) k

  stmt_kind_keeps : (y : StmtKind-F KnownBody KnownEntry KnownExprKind KnownField KnownStmtKind KnownArm KnownDecl KnownExpr KnownLink KnownStmt) (span : Span) (locals scope : List Ref) → Covers outer scope locals → Each RU ((uses.stmt_kind (uses_stmt_kind (bare_stmt_kind y))).uses scope) → KeepsIn names.of_stmt_kind locals (stmt_kind_code (done_stmt_kind (bare_stmt_kind y)) span)
  unfolding CodeStmtKind.roll-CodeStmtKind denote.Hole.Carrier.roll
  stmt_kind_keeps StmtKind-F.Empty span locals scope c h = just_keeps tops locals names.of_stmt_kind stmt_code.Empty (λ fs. subst (Each Q) (sym (stmt_kind_is fs CodeStmtKind-F.Empty)) tt)
  stmt_kind_keeps (StmtKind-F.«StmtKind::Block» stmts) span locals scope c h = one_keeps tops locals (λ fs ys. joined (map (names.of_stmt fs) ys)) names.of_stmt_kind (stmt_code.Block (map name_of (scope_of [] (together (map uses.stmt_parts (trees (map stmt_made (map (λ p. p.0) stmts)))))))) (within (scope_of [] (together (map uses.stmt_parts (trees (map stmt_made (map (λ p. p.0) stmts)))))) (each (all (map stmt_made (map (λ p. p.0) stmts))))) (λ fs a. stmt_kind_is fs (CodeStmtKind-F.Block (map name_of (scope_of [] (together (map uses.stmt_parts (trees (map stmt_made (map (λ p. p.0) stmts))))))) a)) (block_tree stmts locals scope c h)
  stmt_kind_keeps (StmtKind-F.Let decls) span locals scope c h = one_keeps tops locals (λ fs ys. joined (map (names.of_decl fs) ys)) names.of_stmt_kind stmt_code.Let (each (all (map decl_made (map (λ p. p.0) decls)))) (λ fs a. stmt_kind_is fs (CodeStmtKind-F.Let a)) (together_of names.of_decl decl_made uses.decl_parts decls locals scope c h)
  stmt_kind_keeps (StmtKind-F.Const decls exported) span locals scope c h = one_keeps tops locals (λ fs ys. joined (map (names.of_decl fs) ys)) names.of_stmt_kind (λ list. stmt_code.Const list exported) (each (all (map decl_made (map (λ p. p.0) decls)))) (λ fs a. stmt_kind_is fs (CodeStmtKind-F.Const a exported)) (together_of names.of_decl decl_made uses.decl_parts decls locals scope c h)
  stmt_kind_keeps (StmtKind-F.Export decls) span locals scope c h = one_keeps tops locals (λ fs ys. joined (map (names.of_decl fs) ys)) names.of_stmt_kind stmt_code.Export (each (all (map decl_made (map (λ p. p.0) decls)))) (λ fs a. stmt_kind_is fs (CodeStmtKind-F.Export a)) (together_of names.of_decl decl_made uses.decl_parts decls locals scope c h)
  stmt_kind_keeps (StmtKind-F.If arms None) span locals scope c h = two_keeps tops locals (λ fs ys. joined (map (names.of_arm fs) ys)) (λ fs y. names.given (option_map (names.of_stmt fs) y)) names.of_stmt_kind stmt_code.If (each (all (map arm_made (map (λ p. p.0) arms)))) (just None) (λ fs a b. if_names fs a b) (each_of names.of_arm arm_made uses.arm_uses arms locals scope c (each_front RU (in_turn (map uses.arm_uses (map (λ p. p.0) arms)) scope) [] h)) (stmt_given None locals scope c (each_back RU (in_turn (map uses.arm_uses (map (λ p. p.0) arms)) scope) [] h))
  stmt_kind_keeps (StmtKind-F.If arms (Some last)) span locals scope c h = two_keeps tops locals (λ fs ys. joined (map (names.of_arm fs) ys)) (λ fs y. names.given (option_map (names.of_stmt fs) y)) names.of_stmt_kind stmt_code.If (each (all (map arm_made (map (λ p. p.0) arms)))) (of_one Some (of_stmt last.0)) (λ fs a b. if_names fs a b) (each_of names.of_arm arm_made uses.arm_uses arms locals scope c (each_front RU (in_turn (map uses.arm_uses (map (λ p. p.0) arms)) scope) ((uses.stmt_parts last.0).uses scope) h)) (stmt_given (Some last) locals scope c (each_back RU (in_turn (map uses.arm_uses (map (λ p. p.0) arms)) scope) ((uses.stmt_parts last.0).uses scope) h))
  stmt_kind_keeps (StmtKind-F.While test turn) span locals scope c h = two_keeps tops locals names.of_code names.of_stmt names.of_stmt_kind stmt_code.While (of_expr test.0) (of_stmt turn.0) (λ fs a b. stmt_kind_is fs (CodeStmtKind-F.While a b)) (test.1 locals scope c (each_front RU (uses.expr_uses test.0 scope) ((uses.stmt_parts turn.0).uses scope) h)) (turn.1 locals scope c (each_back RU (uses.expr_uses test.0 scope) ((uses.stmt_parts turn.0).uses scope) h))
  stmt_kind_keeps (StmtKind-F.For None None None turn) span locals scope c h = for_tree None None None turn locals scope c h
  stmt_kind_keeps (StmtKind-F.For None None (Some next) turn) span locals scope c h = for_tree None None (Some next) turn locals scope c h
  stmt_kind_keeps (StmtKind-F.For None (Some test) None turn) span locals scope c h = for_tree None (Some test) None turn locals scope c h
  stmt_kind_keeps (StmtKind-F.For None (Some test) (Some next) turn) span locals scope c h = for_tree None (Some test) (Some next) turn locals scope c h
  stmt_kind_keeps (StmtKind-F.For (Some first) None None turn) span locals scope c h = for_tree (Some first) None None turn locals scope c h
  stmt_kind_keeps (StmtKind-F.For (Some first) None (Some next) turn) span locals scope c h = for_tree (Some first) None (Some next) turn locals scope c h
  stmt_kind_keeps (StmtKind-F.For (Some first) (Some test) None turn) span locals scope c h = for_tree (Some first) (Some test) None turn locals scope c h
  stmt_kind_keeps (StmtKind-F.For (Some first) (Some test) (Some next) turn) span locals scope c h = for_tree (Some first) (Some test) (Some next) turn locals scope c h
  stmt_kind_keeps (StmtKind-F.Each name fixed list turn) span locals scope c h =
      let cs : Covers outer (with_names scope (named name ∷ [])) ((named name ∷ []) ++ locals) = covers_more outer scope locals (named name ∷ []) (named name ∷ []) c (λ n d. d) in
      two_keeps tops ((named name ∷ []) ++ locals) names.of_code names.of_stmt names.of_stmt_kind (stmt_code.Each name fixed) (of_expr list.0) (of_stmt turn.0) (λ fs a b. stmt_kind_is fs (CodeStmtKind-F.Each name fixed a b))
      (list.1 ((named name ∷ []) ++ locals) (with_names scope (named name ∷ [])) cs (each_front RU (uses.expr_uses list.0 (with_names scope (named name ∷ []))) ((uses.stmt_parts turn.0).uses (with_names scope (named name ∷ []))) h)) (turn.1 ((named name ∷ []) ++ locals) (with_names scope (named name ∷ [])) cs (each_back RU (uses.expr_uses list.0 (with_names scope (named name ∷ []))) ((uses.stmt_parts turn.0).uses (with_names scope (named name ∷ []))) h))
  stmt_kind_keeps StmtKind-F.Break span locals scope c h = just_keeps tops locals names.of_stmt_kind stmt_code.Break (λ fs. subst (Each Q) (sym (stmt_kind_is fs CodeStmtKind-F.Break)) tt)
  stmt_kind_keeps StmtKind-F.Continue span locals scope c h = just_keeps tops locals names.of_stmt_kind stmt_code.Continue (λ fs. subst (Each Q) (sym (stmt_kind_is fs CodeStmtKind-F.Continue)) tt)
  stmt_kind_keeps (StmtKind-F.Return None) span locals scope c h = one_keeps tops locals (λ fs y. names.given (option_map (names.of_code fs) y)) names.of_stmt_kind stmt_code.Return (just None) (λ fs a. return_names fs a) (code_given None locals scope c h)
  stmt_kind_keeps (StmtKind-F.Return (Some value)) span locals scope c h = one_keeps tops locals (λ fs y. names.given (option_map (names.of_code fs) y)) names.of_stmt_kind stmt_code.Return (of_one Some (of_expr value.0)) (λ fs a. return_names fs a) (code_given (Some value) locals scope c h)
  stmt_kind_keeps (StmtKind-F.Eval value) span locals scope c h = one_keeps tops locals names.of_code names.of_stmt_kind stmt_code.Eval (of_expr value.0) (λ fs a. stmt_kind_is fs (CodeStmtKind-F.Eval a)) (value.1 locals scope c h)
  stmt_kind_keeps (StmtKind-F.Import i) span locals scope c h = just_keeps tops locals names.of_stmt_kind (stmt_code.Import i) (λ fs. subst (Each Q) (sym (stmt_kind_is fs (CodeStmtKind-F.Import i))) tt)
  stmt_kind_keeps (StmtKind-F.React of) span locals scope c h = react_keeps locals (of_stmt of.0) (of.1 locals scope c h)
  stmt_kind_keeps (StmtKind-F.Func name exported params stmts) span locals scope c h = func_keeps locals name exported (numbered span params (together (map uses.stmt_parts (trees (map stmt_made (map (λ p. p.0) stmts))))) (of_one body_code.Block (each (all (map stmt_made (map (λ p. p.0) stmts)))))) (func_tree span params stmts locals scope c h)

  -- ---- whole trees

  body_whole : (x : Body-F Body Entry ExprKind Field StmtKind Arm Decl Expr Link Stmt) (y : Body-F KnownBody KnownEntry KnownExprKind KnownField KnownStmtKind KnownArm KnownDecl KnownExpr KnownLink KnownStmt) → bare_body y ≡ x → ClaimBody (roll-Body x)
  body_whole x y e locals scope c h =
      subst (λ m. KeepsIn names.of_body locals m.makes) (sym (fold-roll-Body BodyMade EntryMade KindMade FieldMade StmtKindMade ArmMade DeclMade ExprMade LinkMade StmtMade body entry expr_kind field stmt_kind arm decl expr link stmt x))
      (subst (λ z. Each RU ((uses.body (uses_body z)).uses scope) → KeepsIn names.of_body locals (function_body (done_body z))) e (body_keeps y locals scope c)
      (subst (Each RU) (ap (λ f. f.uses scope) (fold-roll-Body Parts Found Found Found Parts Found Parts Found Found Parts uses.body uses.entry uses.expr_kind uses.field uses.stmt_kind uses.arm uses.decl uses.expr uses.link uses.stmt x)) h))

  entry_whole : (x : Entry-F Body Entry ExprKind Field StmtKind Arm Decl Expr Link Stmt) (y : Entry-F KnownBody KnownEntry KnownExprKind KnownField KnownStmtKind KnownArm KnownDecl KnownExpr KnownLink KnownStmt) → bare_entry y ≡ x → ClaimEntry (roll-Entry x)
  entry_whole x y e locals scope c h =
      subst (λ m. KeepsIn names.of_item locals m.makes) (sym (fold-roll-Entry BodyMade EntryMade KindMade FieldMade StmtKindMade ArmMade DeclMade ExprMade LinkMade StmtMade body entry expr_kind field stmt_kind arm decl expr link stmt x))
      (subst (λ z. Each RU (uses.entry (uses_entry z) scope) → KeepsIn names.of_item locals (entry_code (done_entry z))) e (entry_keeps y locals scope c)
      (subst (Each RU) (ap (λ f. f scope) (fold-roll-Entry Parts Found Found Found Parts Found Parts Found Found Parts uses.body uses.entry uses.expr_kind uses.field uses.stmt_kind uses.arm uses.decl uses.expr uses.link uses.stmt x)) h))

  expr_kind_whole : (x : ExprKind-F Body Entry ExprKind Field StmtKind Arm Decl Expr Link Stmt) (y : ExprKind-F KnownBody KnownEntry KnownExprKind KnownField KnownStmtKind KnownArm KnownDecl KnownExpr KnownLink KnownStmt) → bare_expr_kind y ≡ x → ClaimExprKind (roll-ExprKind x)
  expr_kind_whole x y e span locals scope c h =
      subst (λ m. KeepsIn names.of_kind locals (m.makes span)) (sym (fold-roll-ExprKind BodyMade EntryMade KindMade FieldMade StmtKindMade ArmMade DeclMade ExprMade LinkMade StmtMade body entry expr_kind field stmt_kind arm decl expr link stmt x))
      (subst (λ z. Each RU (uses.expr_kind (uses_expr_kind z) scope) → KeepsIn names.of_kind locals (kind_code (done_expr_kind z) span)) e (kind_keeps y span locals scope c)
      (subst (Each RU) (ap (λ f. f scope) (fold-roll-ExprKind Parts Found Found Found Parts Found Parts Found Found Parts uses.body uses.entry uses.expr_kind uses.field uses.stmt_kind uses.arm uses.decl uses.expr uses.link uses.stmt x)) h))

  field_whole : (x : Field-F Body Entry ExprKind Field StmtKind Arm Decl Expr Link Stmt) (y : Field-F KnownBody KnownEntry KnownExprKind KnownField KnownStmtKind KnownArm KnownDecl KnownExpr KnownLink KnownStmt) → bare_field y ≡ x → ClaimField (roll-Field x)
  field_whole x y e locals scope c h =
      subst (λ m. KeepsIn names.of_field locals m.makes) (sym (fold-roll-Field BodyMade EntryMade KindMade FieldMade StmtKindMade ArmMade DeclMade ExprMade LinkMade StmtMade body entry expr_kind field stmt_kind arm decl expr link stmt x))
      (subst (λ z. Each RU (uses.field (uses_field z) scope) → KeepsIn names.of_field locals (field_code_of (done_field z))) e (field_keeps y locals scope c)
      (subst (Each RU) (ap (λ f. f scope) (fold-roll-Field Parts Found Found Found Parts Found Parts Found Found Parts uses.body uses.entry uses.expr_kind uses.field uses.stmt_kind uses.arm uses.decl uses.expr uses.link uses.stmt x)) h))

  stmt_kind_whole : (x : StmtKind-F Body Entry ExprKind Field StmtKind Arm Decl Expr Link Stmt) (y : StmtKind-F KnownBody KnownEntry KnownExprKind KnownField KnownStmtKind KnownArm KnownDecl KnownExpr KnownLink KnownStmt) → bare_stmt_kind y ≡ x → ClaimStmtKind (roll-StmtKind x)
  stmt_kind_whole x y e span locals scope c h =
      subst (λ m. KeepsIn names.of_stmt_kind locals (m.makes span)) (sym (fold-roll-StmtKind BodyMade EntryMade KindMade FieldMade StmtKindMade ArmMade DeclMade ExprMade LinkMade StmtMade body entry expr_kind field stmt_kind arm decl expr link stmt x))
      (subst (λ z. Each RU ((uses.stmt_kind (uses_stmt_kind z)).uses scope) → KeepsIn names.of_stmt_kind locals (stmt_kind_code (done_stmt_kind z) span)) e (stmt_kind_keeps y span locals scope c)
      (subst (Each RU) (ap (λ f. f.uses scope) (fold-roll-StmtKind Parts Found Found Found Parts Found Parts Found Found Parts uses.body uses.entry uses.expr_kind uses.field uses.stmt_kind uses.arm uses.decl uses.expr uses.link uses.stmt x)) h))

  arm_whole : (x : Arm-F Body Entry ExprKind Field StmtKind Arm Decl Expr Link Stmt) (y : Arm-F KnownBody KnownEntry KnownExprKind KnownField KnownStmtKind KnownArm KnownDecl KnownExpr KnownLink KnownStmt) → bare_arm y ≡ x → ClaimArm (roll-Arm x)
  arm_whole x y e locals scope c h =
      subst (λ m. KeepsIn names.of_arm locals m.makes) (sym (fold-roll-Arm BodyMade EntryMade KindMade FieldMade StmtKindMade ArmMade DeclMade ExprMade LinkMade StmtMade body entry expr_kind field stmt_kind arm decl expr link stmt x))
      (subst (λ z. Each RU (uses.arm (uses_arm z) scope) → KeepsIn names.of_arm locals (arm_code (done_arm z))) e (arm_keeps y locals scope c)
      (subst (Each RU) (ap (λ f. f scope) (fold-roll-Arm Parts Found Found Found Parts Found Parts Found Found Parts uses.body uses.entry uses.expr_kind uses.field uses.stmt_kind uses.arm uses.decl uses.expr uses.link uses.stmt x)) h))

  decl_whole : (x : Decl-F Body Entry ExprKind Field StmtKind Arm Decl Expr Link Stmt) (y : Decl-F KnownBody KnownEntry KnownExprKind KnownField KnownStmtKind KnownArm KnownDecl KnownExpr KnownLink KnownStmt) → bare_decl y ≡ x → ClaimDecl (roll-Decl x)
  decl_whole x y e locals scope c h =
      subst (λ m. KeepsIn names.of_decl locals m.makes) (sym (fold-roll-Decl BodyMade EntryMade KindMade FieldMade StmtKindMade ArmMade DeclMade ExprMade LinkMade StmtMade body entry expr_kind field stmt_kind arm decl expr link stmt x))
      (subst (λ z. Each RU ((uses.decl (uses_decl z)).uses scope) → KeepsIn names.of_decl locals (decl_code (done_decl z))) e (decl_keeps y locals scope c)
      (subst (Each RU) (ap (λ f. f.uses scope) (fold-roll-Decl Parts Found Found Found Parts Found Parts Found Found Parts uses.body uses.entry uses.expr_kind uses.field uses.stmt_kind uses.arm uses.decl uses.expr uses.link uses.stmt x)) h))

  expr_whole : (x : Expr-F Body Entry ExprKind Field StmtKind Arm Decl Expr Link Stmt) (y : Expr-F KnownBody KnownEntry KnownExprKind KnownField KnownStmtKind KnownArm KnownDecl KnownExpr KnownLink KnownStmt) → bare_expr y ≡ x → ClaimExpr (roll-Expr x)
  expr_whole x y e locals scope c h =
      subst (λ m. KeepsIn names.of_code locals m.makes) (sym (fold-roll-Expr BodyMade EntryMade KindMade FieldMade StmtKindMade ArmMade DeclMade ExprMade LinkMade StmtMade body entry expr_kind field stmt_kind arm decl expr link stmt x))
      (subst (λ z. Each RU (uses.expr (uses_expr z) scope) → KeepsIn names.of_code locals (expr_code (done_expr z))) e (expr_keeps y locals scope c)
      (subst (Each RU) (ap (λ f. f scope) (fold-roll-Expr Parts Found Found Found Parts Found Parts Found Found Parts uses.body uses.entry uses.expr_kind uses.field uses.stmt_kind uses.arm uses.decl uses.expr uses.link uses.stmt x)) h))

  link_whole : (x : Link-F Body Entry ExprKind Field StmtKind Arm Decl Expr Link Stmt) (y : Link-F KnownBody KnownEntry KnownExprKind KnownField KnownStmtKind KnownArm KnownDecl KnownExpr KnownLink KnownStmt) → bare_link y ≡ x → ClaimLink (roll-Link x)
  link_whole x y e locals scope c h =
      subst (λ m. KeepsIn names.of_link locals m.makes) (sym (fold-roll-Link BodyMade EntryMade KindMade FieldMade StmtKindMade ArmMade DeclMade ExprMade LinkMade StmtMade body entry expr_kind field stmt_kind arm decl expr link stmt x))
      (subst (λ z. Each RU (uses.link (uses_link z) scope) → KeepsIn names.of_link locals (link_code (done_link z))) e (link_keeps y locals scope c)
      (subst (Each RU) (ap (λ f. f scope) (fold-roll-Link Parts Found Found Found Parts Found Parts Found Found Parts uses.body uses.entry uses.expr_kind uses.field uses.stmt_kind uses.arm uses.decl uses.expr uses.link uses.stmt x)) h))

  stmt_whole : (x : Stmt-F Body Entry ExprKind Field StmtKind Arm Decl Expr Link Stmt) (y : Stmt-F KnownBody KnownEntry KnownExprKind KnownField KnownStmtKind KnownArm KnownDecl KnownExpr KnownLink KnownStmt) → bare_stmt y ≡ x → ClaimStmt (roll-Stmt x)
  stmt_whole x y e locals scope c h =
      subst (λ m. KeepsIn names.of_stmt locals m.makes) (sym (fold-roll-Stmt BodyMade EntryMade KindMade FieldMade StmtKindMade ArmMade DeclMade ExprMade LinkMade StmtMade body entry expr_kind field stmt_kind arm decl expr link stmt x))
      (subst (λ z. Each RU ((uses.stmt (uses_stmt z)).uses scope) → KeepsIn names.of_stmt locals (stmt_code_of (done_stmt z))) e (stmt_keeps y locals scope c)
      (subst (Each RU) (ap (λ f. f.uses scope) (fold-roll-Stmt Parts Found Found Found Parts Found Parts Found Found Parts uses.body uses.entry uses.expr_kind uses.field uses.stmt_kind uses.arm uses.decl uses.expr uses.link uses.stmt x)) h))

  pub expr_claim : (x : Expr) → ClaimExpr x
  expr_claim = ind-Expr ClaimBody ClaimEntry ClaimExprKind ClaimField ClaimStmtKind ClaimArm ClaimDecl ClaimExpr ClaimLink ClaimStmt body_whole entry_whole expr_kind_whole field_whole stmt_kind_whole arm_whole decl_whole expr_whole link_whole stmt_whole

  pub body_claim : (x : Body) → ClaimBody x
  body_claim = ind-Body ClaimBody ClaimEntry ClaimExprKind ClaimField ClaimStmtKind ClaimArm ClaimDecl ClaimExpr ClaimLink ClaimStmt body_whole entry_whole expr_kind_whole field_whole stmt_kind_whole arm_whole decl_whole expr_whole link_whole stmt_whole
