-- What is found in the loops.
use Rattle.std.proofs.Common.{◌≡◌, Bool, [], ◌∷◌, Option, None, Some, option_map, sym, ap, ◌∙◌, subst}
use Rattle.sv_ast.specs.declared.names.Named.{Named}
use Rattle.sv_ast.specs.declared.script_tree.Expr.{Expr}
use Rattle.sv_ast.specs.declared.script_tree.Stmt.{Stmt}
use Rattle.sv_ast.specs.declared.script_tree.StmtKind
use Rattle.sv_ast.specs.declared.script_tree.StmtKind.{StmtKind as AnyStmt, StmtKind-F, fold-roll-StmtKind}
use Rattle.sv_scopes.specs.declared.found.Around.{Around}
use Rattle.sv_scopes.specs.declared.scope.Binding.{Binding}
use Rattle.sv_scopes.specs.Parts.{Parts, Finds, followed, optional, declaring, scope}
use Rattle.sv_scopes.specs.Script.{InRole, AtPlace, ByBinding, alone, given, declared, for_binding, for_head, for_each, body, entry, expr_kind, field, stmt_kind, arm, decl, expr, link, stmt, expr_parts, stmt_parts, stmt_kind_parts}
use Rattle.sv_scopes.proofs.Scoping.{finds_two, finds_closed}

each_is : (name : Named) (fixed : Bool) (list : Expr) (turn : Stmt) → stmt_kind_parts (StmtKind.Each name fixed list turn) ≡ for_each (declared (for_binding fixed) name) (alone (expr_parts list)) (stmt_parts turn)
unfolding StmtKind.roll-StmtKind denote.Hole.Carrier.roll
each_is name fixed list turn = fold-roll-StmtKind Parts Parts AtPlace Parts Parts Parts ByBinding InRole Parts Parts body entry expr_kind field stmt_kind arm decl expr link stmt (StmtKind-F.Each name fixed list turn)

for_is : (first : Option Stmt) (test next : Option Expr) (turn : Stmt)
    → stmt_kind_parts (StmtKind.For first test next turn) ≡ for_head (optional (option_map stmt_parts first)) (given (option_map expr_parts test)) (given (option_map expr_parts next)) (stmt_parts turn)
unfolding StmtKind.roll-StmtKind denote.Hole.Carrier.roll
for_is None None None turn = fold-roll-StmtKind Parts Parts AtPlace Parts Parts Parts ByBinding InRole Parts Parts body entry expr_kind field stmt_kind arm decl expr link stmt (StmtKind-F.For None None None turn)
for_is None None (Some n) turn = fold-roll-StmtKind Parts Parts AtPlace Parts Parts Parts ByBinding InRole Parts Parts body entry expr_kind field stmt_kind arm decl expr link stmt (StmtKind-F.For None None (Some n) turn)
for_is None (Some e) None turn = fold-roll-StmtKind Parts Parts AtPlace Parts Parts Parts ByBinding InRole Parts Parts body entry expr_kind field stmt_kind arm decl expr link stmt (StmtKind-F.For None (Some e) None turn)
for_is None (Some e) (Some n) turn = fold-roll-StmtKind Parts Parts AtPlace Parts Parts Parts ByBinding InRole Parts Parts body entry expr_kind field stmt_kind arm decl expr link stmt (StmtKind-F.For None (Some e) (Some n) turn)
for_is (Some f) None None turn = fold-roll-StmtKind Parts Parts AtPlace Parts Parts Parts ByBinding InRole Parts Parts body entry expr_kind field stmt_kind arm decl expr link stmt (StmtKind-F.For (Some f) None None turn)
for_is (Some f) None (Some n) turn = fold-roll-StmtKind Parts Parts AtPlace Parts Parts Parts ByBinding InRole Parts Parts body entry expr_kind field stmt_kind arm decl expr link stmt (StmtKind-F.For (Some f) None (Some n) turn)
for_is (Some f) (Some e) None turn = fold-roll-StmtKind Parts Parts AtPlace Parts Parts Parts ByBinding InRole Parts Parts body entry expr_kind field stmt_kind arm decl expr link stmt (StmtKind-F.For (Some f) (Some e) None turn)
for_is (Some f) (Some e) (Some n) turn = fold-roll-StmtKind Parts Parts AtPlace Parts Parts Parts ByBinding InRole Parts Parts body entry expr_kind field stmt_kind arm decl expr link stmt (StmtKind-F.For (Some f) (Some e) (Some n) turn)

module _ (p0 p1 p2 p3 p4 : Parts) (around : Around) (same : around ≡ record { declares = p0.declares; uses = p0.uses }) (empty : p1 ≡ record { declares = []; uses = []; scopes = p0.scopes }) where
  pub finds_each : (p5 : Parts) (kind : AnyStmt) (name : Named) (fixed : Bool) (how : Binding) (list : Expr) (turn : Stmt) → kind ≡ StmtKind.Each name fixed list turn → how ≡ for_binding fixed
      → Finds p1 p2 (declaring (declared how name ∷ [])) → Finds p2 p3 (alone (expr_parts list)) → Finds p3 p4 (stmt_parts turn)
      → Finds (record { declares = around.declares; uses = around.uses; scopes = [] }) p5 (scope p4) → Finds p0 p5 (stmt_kind_parts kind)
  unfolding for_each
  finds_each p5 kind name fixed how list turn k h first second third out =
      let named = declaring (declared (for_binding fixed) name ∷ []) in
      let whole : stmt_kind_parts kind ≡ scope (followed (followed named (alone (expr_parts list))) (stmt_parts turn)) = ap stmt_kind_parts k ∙ each_is name fixed list turn in
      subst (Finds p0 p5) (sym whole) (finds_closed _ p0 p1 p4 p5 _ around same empty
      (finds_two p1 p3 p4 (followed named (alone (expr_parts list))) (stmt_parts turn) (finds_two p1 p2 p3 named (alone (expr_parts list)) (subst (λ z. Finds p1 p2 (declaring (declared z name ∷ []))) h first) second) third) out)

  pub finds_for : (p5 p6 : Parts) (kind : AnyStmt) (head : Option Stmt) (test next : Option Expr) (turn : Stmt) → kind ≡ StmtKind.For head test next turn
      → Finds p1 p2 (optional (option_map stmt_parts head)) → Finds p2 p3 (given (option_map expr_parts test)) → Finds p3 p4 (given (option_map expr_parts next)) → Finds p4 p5 (stmt_parts turn)
      → Finds (record { declares = around.declares; uses = around.uses; scopes = [] }) p6 (scope p5) → Finds p0 p6 (stmt_kind_parts kind)
  unfolding for_head
  finds_for p5 p6 kind head test next turn k first second third fourth out =
      let h = optional (option_map stmt_parts head) in
      let t = given (option_map expr_parts test) in
      let n = given (option_map expr_parts next) in
      let whole : stmt_kind_parts kind ≡ scope (followed (followed (followed h t) n) (stmt_parts turn)) = ap stmt_kind_parts k ∙ for_is head test next turn in
      subst (Finds p0 p6) (sym whole) (finds_closed _ p0 p1 p5 p6 _ around same empty
      (finds_two p1 p4 p5 (followed (followed h t) n) (stmt_parts turn) (finds_two p1 p3 p4 (followed h t) n (finds_two p1 p2 p3 h t first second) third) fourth) out)
