-- What the code of a script declares at its top: the names that the script declares, each with what it stands for and the cell of its `$` name.
use Rattle.std.proofs.Common.{◌≡◌, ℕ, Bool, List, [], ◌∷◌, ◌++◌, Option, None, Some, map, refl, sym, ap, subst}
use Rattle.sv_ast.specs.declared.names.Ref.{Ref}
use Rattle.sv_ast.specs.declared.names.Ref.TheVariants.{Plain, Store}
use Rattle.sv_ast.specs.declared.script_tree.Arm.{Arm}
use Rattle.sv_ast.specs.declared.script_tree.Body.{Body}
use Rattle.sv_ast.specs.declared.script_tree.Decl.{Decl, Decl-F, out-Decl, map-Decl, fold_out-Decl}
use Rattle.sv_ast.specs.declared.script_tree.Entry.{Entry}
use Rattle.sv_ast.specs.declared.script_tree.Expr.{Expr}
use Rattle.sv_ast.specs.declared.script_tree.ExprKind.{ExprKind}
use Rattle.sv_ast.specs.declared.script_tree.Field.{Field}
use Rattle.sv_ast.specs.declared.script_tree.Link.{Link}
use Rattle.sv_ast.specs.declared.script_tree.Stmt.{Stmt, fold_out-Stmt}
use Rattle.sv_ast.specs.declared.script_tree.StmtKind.{StmtKind, StmtKind-F, out-StmtKind, map-StmtKind, fold_out-StmtKind}
use Rattle.sv_base.specs.declared.span.Span.{Span}
use Rattle.sv_code.specs.declared.functions.CodeDecl.{CodeDecl}
use Rattle.sv_code.specs.declared.functions.CodeStmt.{CodeStmt}
use Rattle.sv_code.specs.declared.functions.CodeStmtKind
use Rattle.sv_code.specs.declared.functions.CodeStmtKind.{out-CodeStmtKind}
use Rattle.sv_code.specs.declared.functions.CodeStmtKind.TheVariants as stmt_code
use Rattle.sv_code.specs.declared.functions.Function.{Function}
use Rattle.sv_lower.specs.Does.{each}
use Rattle.sv_lower.specs.Lower.{BodyMade, EntryMade, KindMade, FieldMade, StmtKindMade, ArmMade, DeclMade, ExprMade, LinkMade, StmtMade, body, entry, expr_kind, field, stmt_kind, arm, decl, expr, link, stmt, body_made, entry_made, kind_made, field_made, stmt_kind_made, arm_made, decl_made, expr_made, link_made, stmt_made, stmt_kind_code, all, store_of, of_stmt, of_stmts}
use Rattle.sv_lower.specs.Tops.{Tops, known_at}
use Rattle.sv_meaning.specs.Runs.{declarations}
use Rattle.sv_scopes.specs.Script.{StmtLayer}
use Rattle.sv_scopes.specs.declared.scope.Binding.{Binding}
use Rattle.sv_scopes.specs.declared.scope.Binding.TheVariants as by
use Rattle.sv_scopes.specs.declared.scope.Declared.{Declared}
use Rattle.sv_subscribed.specs.Apart.{declared_by, declared_at_top}
use Rattle.sv_apart.proofs.Declares.{declares, told_layer, told_of, all_told}
use Rattle.sv_apart.proofs.Thinning.{ArePaired, paired-append}

module _ (tops : Tops) where
  -- the code of a declaration has what its name stands for, and the cell of its `$` name
  pub record IsCodeOf (x : CodeDecl) (d : Declared) : Type 0 where
    pub target : x.target ≡ known_at tops [] (Plain d.name)
    pub store : x.store ≡ store_of (known_at tops [] (Plain d.name)) (known_at tops [] (Store d.name))

  -- ---- declarations

  decl-lowered : (how : Binding) (d : Decl) (fs : List Function) → IsCodeOf ((decl_made d).makes tops [] fs).0 (declares how d)
  decl-lowered how d fs =
      subst (λ (m : DeclMade). IsCodeOf (m.makes tops [] fs).0 (declares how d))
      (sym (fold_out-Decl BodyMade EntryMade KindMade FieldMade StmtKindMade ArmMade DeclMade ExprMade LinkMade StmtMade body entry expr_kind field stmt_kind arm decl expr link stmt d))
      (record { target = refl; store = refl })

  decls-lowered : (how : Binding) (ds : List Decl) (fs : List Function) → ArePaired IsCodeOf (each (all (map decl_made ds)) tops [] fs).0 (map (declares how) ds)
  decls-lowered how [] fs = tt
  decls-lowered how (d ∷ ds) fs = (decl-lowered how d fs, decls-lowered how ds ((decl_made d).makes tops [] fs).1)

  -- ---- statements

  abbrev layer_code : StmtLayer → Span → List Function → List CodeDecl
  layer_code layer span fs =
      declared_by (declarations (out-CodeStmtKind (stmt_kind_code (map-StmtKind Body Entry ExprKind Field StmtKind Arm Decl Expr Link Stmt BodyMade EntryMade KindMade FieldMade StmtKindMade ArmMade DeclMade ExprMade LinkMade StmtMade body_made entry_made kind_made field_made stmt_kind_made arm_made decl_made expr_made link_made stmt_made layer) span tops [] fs).0))

  layer-lowered : (layer : StmtLayer) (span : Span) (fs : List Function) → ArePaired IsCodeOf (layer_code layer span fs) (told_layer layer)
  unfolding CodeStmtKind.roll-CodeStmtKind denote.Hole.Carrier.roll out-CodeStmtKind denote.Hole.Carrier.out
  layer-lowered (StmtKind-F.Let ds) span fs = decls-lowered by.Let ds fs
  layer-lowered (StmtKind-F.Const ds exported) span fs = decls-lowered by.Const ds fs
  layer-lowered (StmtKind-F.Export ds) span fs = decls-lowered by.Export ds fs
  layer-lowered _ span fs = tt

  stmt-lowered : (s : Stmt) (fs : List Function) → ArePaired IsCodeOf (declared_by (declarations (out-CodeStmtKind (of_stmt s tops [] fs).0.kind))) (told_of s)
  stmt-lowered s fs =
      subst (λ (m : StmtMade). ArePaired IsCodeOf (declared_by (declarations (out-CodeStmtKind (m.makes tops [] fs).0.kind))) (told_of s))
      (sym (fold_out-Stmt BodyMade EntryMade KindMade FieldMade StmtKindMade ArmMade DeclMade ExprMade LinkMade StmtMade body entry expr_kind field stmt_kind arm decl expr link stmt s))
      (subst (λ (m : StmtKindMade). ArePaired IsCodeOf (declared_by (declarations (out-CodeStmtKind (m.makes s.span tops [] fs).0))) (told_of s))
      (sym (fold_out-StmtKind BodyMade EntryMade KindMade FieldMade StmtKindMade ArmMade DeclMade ExprMade LinkMade StmtMade body entry expr_kind field stmt_kind arm decl expr link stmt s.kind))
      (layer-lowered (out-StmtKind s.kind) s.span fs))

  pub script-lowered : (stmts : List Stmt) (fs : List Function) → ArePaired IsCodeOf (declared_at_top (of_stmts stmts tops [] fs).0) (all_told stmts)
  script-lowered [] fs = tt
  script-lowered (s ∷ stmts) fs =
      let made = of_stmt s tops [] fs in
      paired-append IsCodeOf (declared_by (declarations (out-CodeStmtKind made.0.kind))) (declared_at_top (of_stmts stmts tops [] made.1).0) (told_of s) (all_told stmts)
      (stmt-lowered s fs) (script-lowered stmts made.1)
