-- The layers of trees, with what is made of their parts, and with what those use.
use Rattle.sv_ast.specs.declared.script_tree.Body.{Body, Body-F, map-Body}
use Rattle.sv_ast.specs.declared.script_tree.Entry.{Entry, Entry-F, map-Entry}
use Rattle.sv_ast.specs.declared.script_tree.ExprKind.{ExprKind, ExprKind-F, map-ExprKind}
use Rattle.sv_ast.specs.declared.script_tree.Field.{Field, Field-F, map-Field}
use Rattle.sv_ast.specs.declared.script_tree.StmtKind.{StmtKind, StmtKind-F, map-StmtKind}
use Rattle.sv_ast.specs.declared.script_tree.Arm.{Arm, Arm-F, map-Arm}
use Rattle.sv_ast.specs.declared.script_tree.Decl.{Decl, Decl-F, map-Decl}
use Rattle.sv_ast.specs.declared.script_tree.Expr.{Expr, Expr-F, map-Expr}
use Rattle.sv_ast.specs.declared.script_tree.Link.{Link, Link-F, map-Link}
use Rattle.sv_ast.specs.declared.script_tree.Stmt.{Stmt, Stmt-F, map-Stmt}
use Rattle.sv_lower.specs.Lower.{BodyMade, EntryMade, KindMade, FieldMade, StmtKindMade, ArmMade, DeclMade, ExprMade, LinkMade, StmtMade, body_made, entry_made, kind_made, field_made, stmt_kind_made, arm_made, decl_made, expr_made, link_made, stmt_made}
use Rattle.sv_names.specs.Uses as uses
use Rattle.sv_names.specs.Uses.{Found, Parts}

abbrev pub done_body : Body-F Body Entry ExprKind Field StmtKind Arm Decl Expr Link Stmt → Body-F BodyMade EntryMade KindMade FieldMade StmtKindMade ArmMade DeclMade ExprMade LinkMade StmtMade
done_body = map-Body Body Entry ExprKind Field StmtKind Arm Decl Expr Link Stmt BodyMade EntryMade KindMade FieldMade StmtKindMade ArmMade DeclMade ExprMade LinkMade StmtMade body_made entry_made kind_made field_made stmt_kind_made arm_made decl_made expr_made link_made stmt_made

abbrev pub uses_body : Body-F Body Entry ExprKind Field StmtKind Arm Decl Expr Link Stmt → Body-F Parts Found Found Found Parts Found Parts Found Found Parts
uses_body = map-Body Body Entry ExprKind Field StmtKind Arm Decl Expr Link Stmt Parts Found Found Found Parts Found Parts Found Found Parts uses.body_parts uses.entry_uses uses.kind_uses uses.field_uses uses.stmt_kind_parts uses.arm_uses uses.decl_parts uses.expr_uses uses.link_uses uses.stmt_parts

abbrev pub done_entry : Entry-F Body Entry ExprKind Field StmtKind Arm Decl Expr Link Stmt → Entry-F BodyMade EntryMade KindMade FieldMade StmtKindMade ArmMade DeclMade ExprMade LinkMade StmtMade
done_entry = map-Entry Body Entry ExprKind Field StmtKind Arm Decl Expr Link Stmt BodyMade EntryMade KindMade FieldMade StmtKindMade ArmMade DeclMade ExprMade LinkMade StmtMade body_made entry_made kind_made field_made stmt_kind_made arm_made decl_made expr_made link_made stmt_made

abbrev pub uses_entry : Entry-F Body Entry ExprKind Field StmtKind Arm Decl Expr Link Stmt → Entry-F Parts Found Found Found Parts Found Parts Found Found Parts
uses_entry = map-Entry Body Entry ExprKind Field StmtKind Arm Decl Expr Link Stmt Parts Found Found Found Parts Found Parts Found Found Parts uses.body_parts uses.entry_uses uses.kind_uses uses.field_uses uses.stmt_kind_parts uses.arm_uses uses.decl_parts uses.expr_uses uses.link_uses uses.stmt_parts

abbrev pub done_expr_kind : ExprKind-F Body Entry ExprKind Field StmtKind Arm Decl Expr Link Stmt → ExprKind-F BodyMade EntryMade KindMade FieldMade StmtKindMade ArmMade DeclMade ExprMade LinkMade StmtMade
done_expr_kind = map-ExprKind Body Entry ExprKind Field StmtKind Arm Decl Expr Link Stmt BodyMade EntryMade KindMade FieldMade StmtKindMade ArmMade DeclMade ExprMade LinkMade StmtMade body_made entry_made kind_made field_made stmt_kind_made arm_made decl_made expr_made link_made stmt_made

abbrev pub uses_expr_kind : ExprKind-F Body Entry ExprKind Field StmtKind Arm Decl Expr Link Stmt → ExprKind-F Parts Found Found Found Parts Found Parts Found Found Parts
uses_expr_kind = map-ExprKind Body Entry ExprKind Field StmtKind Arm Decl Expr Link Stmt Parts Found Found Found Parts Found Parts Found Found Parts uses.body_parts uses.entry_uses uses.kind_uses uses.field_uses uses.stmt_kind_parts uses.arm_uses uses.decl_parts uses.expr_uses uses.link_uses uses.stmt_parts

abbrev pub done_field : Field-F Body Entry ExprKind Field StmtKind Arm Decl Expr Link Stmt → Field-F BodyMade EntryMade KindMade FieldMade StmtKindMade ArmMade DeclMade ExprMade LinkMade StmtMade
done_field = map-Field Body Entry ExprKind Field StmtKind Arm Decl Expr Link Stmt BodyMade EntryMade KindMade FieldMade StmtKindMade ArmMade DeclMade ExprMade LinkMade StmtMade body_made entry_made kind_made field_made stmt_kind_made arm_made decl_made expr_made link_made stmt_made

abbrev pub uses_field : Field-F Body Entry ExprKind Field StmtKind Arm Decl Expr Link Stmt → Field-F Parts Found Found Found Parts Found Parts Found Found Parts
uses_field = map-Field Body Entry ExprKind Field StmtKind Arm Decl Expr Link Stmt Parts Found Found Found Parts Found Parts Found Found Parts uses.body_parts uses.entry_uses uses.kind_uses uses.field_uses uses.stmt_kind_parts uses.arm_uses uses.decl_parts uses.expr_uses uses.link_uses uses.stmt_parts

abbrev pub done_stmt_kind : StmtKind-F Body Entry ExprKind Field StmtKind Arm Decl Expr Link Stmt → StmtKind-F BodyMade EntryMade KindMade FieldMade StmtKindMade ArmMade DeclMade ExprMade LinkMade StmtMade
done_stmt_kind = map-StmtKind Body Entry ExprKind Field StmtKind Arm Decl Expr Link Stmt BodyMade EntryMade KindMade FieldMade StmtKindMade ArmMade DeclMade ExprMade LinkMade StmtMade body_made entry_made kind_made field_made stmt_kind_made arm_made decl_made expr_made link_made stmt_made

abbrev pub uses_stmt_kind : StmtKind-F Body Entry ExprKind Field StmtKind Arm Decl Expr Link Stmt → StmtKind-F Parts Found Found Found Parts Found Parts Found Found Parts
uses_stmt_kind = map-StmtKind Body Entry ExprKind Field StmtKind Arm Decl Expr Link Stmt Parts Found Found Found Parts Found Parts Found Found Parts uses.body_parts uses.entry_uses uses.kind_uses uses.field_uses uses.stmt_kind_parts uses.arm_uses uses.decl_parts uses.expr_uses uses.link_uses uses.stmt_parts

abbrev pub done_arm : Arm-F Body Entry ExprKind Field StmtKind Arm Decl Expr Link Stmt → Arm-F BodyMade EntryMade KindMade FieldMade StmtKindMade ArmMade DeclMade ExprMade LinkMade StmtMade
done_arm = map-Arm Body Entry ExprKind Field StmtKind Arm Decl Expr Link Stmt BodyMade EntryMade KindMade FieldMade StmtKindMade ArmMade DeclMade ExprMade LinkMade StmtMade body_made entry_made kind_made field_made stmt_kind_made arm_made decl_made expr_made link_made stmt_made

abbrev pub uses_arm : Arm-F Body Entry ExprKind Field StmtKind Arm Decl Expr Link Stmt → Arm-F Parts Found Found Found Parts Found Parts Found Found Parts
uses_arm = map-Arm Body Entry ExprKind Field StmtKind Arm Decl Expr Link Stmt Parts Found Found Found Parts Found Parts Found Found Parts uses.body_parts uses.entry_uses uses.kind_uses uses.field_uses uses.stmt_kind_parts uses.arm_uses uses.decl_parts uses.expr_uses uses.link_uses uses.stmt_parts

abbrev pub done_decl : Decl-F Body Entry ExprKind Field StmtKind Arm Decl Expr Link Stmt → Decl-F BodyMade EntryMade KindMade FieldMade StmtKindMade ArmMade DeclMade ExprMade LinkMade StmtMade
done_decl = map-Decl Body Entry ExprKind Field StmtKind Arm Decl Expr Link Stmt BodyMade EntryMade KindMade FieldMade StmtKindMade ArmMade DeclMade ExprMade LinkMade StmtMade body_made entry_made kind_made field_made stmt_kind_made arm_made decl_made expr_made link_made stmt_made

abbrev pub uses_decl : Decl-F Body Entry ExprKind Field StmtKind Arm Decl Expr Link Stmt → Decl-F Parts Found Found Found Parts Found Parts Found Found Parts
uses_decl = map-Decl Body Entry ExprKind Field StmtKind Arm Decl Expr Link Stmt Parts Found Found Found Parts Found Parts Found Found Parts uses.body_parts uses.entry_uses uses.kind_uses uses.field_uses uses.stmt_kind_parts uses.arm_uses uses.decl_parts uses.expr_uses uses.link_uses uses.stmt_parts

abbrev pub done_expr : Expr-F Body Entry ExprKind Field StmtKind Arm Decl Expr Link Stmt → Expr-F BodyMade EntryMade KindMade FieldMade StmtKindMade ArmMade DeclMade ExprMade LinkMade StmtMade
done_expr = map-Expr Body Entry ExprKind Field StmtKind Arm Decl Expr Link Stmt BodyMade EntryMade KindMade FieldMade StmtKindMade ArmMade DeclMade ExprMade LinkMade StmtMade body_made entry_made kind_made field_made stmt_kind_made arm_made decl_made expr_made link_made stmt_made

abbrev pub uses_expr : Expr-F Body Entry ExprKind Field StmtKind Arm Decl Expr Link Stmt → Expr-F Parts Found Found Found Parts Found Parts Found Found Parts
uses_expr = map-Expr Body Entry ExprKind Field StmtKind Arm Decl Expr Link Stmt Parts Found Found Found Parts Found Parts Found Found Parts uses.body_parts uses.entry_uses uses.kind_uses uses.field_uses uses.stmt_kind_parts uses.arm_uses uses.decl_parts uses.expr_uses uses.link_uses uses.stmt_parts

abbrev pub done_link : Link-F Body Entry ExprKind Field StmtKind Arm Decl Expr Link Stmt → Link-F BodyMade EntryMade KindMade FieldMade StmtKindMade ArmMade DeclMade ExprMade LinkMade StmtMade
done_link = map-Link Body Entry ExprKind Field StmtKind Arm Decl Expr Link Stmt BodyMade EntryMade KindMade FieldMade StmtKindMade ArmMade DeclMade ExprMade LinkMade StmtMade body_made entry_made kind_made field_made stmt_kind_made arm_made decl_made expr_made link_made stmt_made

abbrev pub uses_link : Link-F Body Entry ExprKind Field StmtKind Arm Decl Expr Link Stmt → Link-F Parts Found Found Found Parts Found Parts Found Found Parts
uses_link = map-Link Body Entry ExprKind Field StmtKind Arm Decl Expr Link Stmt Parts Found Found Found Parts Found Parts Found Found Parts uses.body_parts uses.entry_uses uses.kind_uses uses.field_uses uses.stmt_kind_parts uses.arm_uses uses.decl_parts uses.expr_uses uses.link_uses uses.stmt_parts

abbrev pub done_stmt : Stmt-F Body Entry ExprKind Field StmtKind Arm Decl Expr Link Stmt → Stmt-F BodyMade EntryMade KindMade FieldMade StmtKindMade ArmMade DeclMade ExprMade LinkMade StmtMade
done_stmt = map-Stmt Body Entry ExprKind Field StmtKind Arm Decl Expr Link Stmt BodyMade EntryMade KindMade FieldMade StmtKindMade ArmMade DeclMade ExprMade LinkMade StmtMade body_made entry_made kind_made field_made stmt_kind_made arm_made decl_made expr_made link_made stmt_made

abbrev pub uses_stmt : Stmt-F Body Entry ExprKind Field StmtKind Arm Decl Expr Link Stmt → Stmt-F Parts Found Found Found Parts Found Parts Found Found Parts
uses_stmt = map-Stmt Body Entry ExprKind Field StmtKind Arm Decl Expr Link Stmt Parts Found Found Found Parts Found Parts Found Found Parts uses.body_parts uses.entry_uses uses.kind_uses uses.field_uses uses.stmt_kind_parts uses.arm_uses uses.decl_parts uses.expr_uses uses.link_uses uses.stmt_parts
