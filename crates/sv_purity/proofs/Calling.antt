-- What is asked of a call, and of a `for`.
use Rattle.std.proofs.Common.{◌≡◌, List, [], Option, None, Some, map, option_map, sym, ap, ◌∙◌}
use Rattle.std.specs.Prelude.{Result}
use Rattle.std.specs.Option.{option_to_list}
use Rattle.sv_base.specs.Names.{Table}
use Rattle.sv_base.specs.declared.span.Span.{Span}
use Rattle.sv_ast.specs.declared.script_tree.Expr.{Expr}
use Rattle.sv_ast.specs.declared.script_tree.ExprKind
use Rattle.sv_ast.specs.declared.script_tree.ExprKind.{ExprKind as AnyExpr, ExprKind-F, fold-roll-ExprKind}
use Rattle.sv_ast.specs.declared.script_tree.Stmt.{Stmt}
use Rattle.sv_ast.specs.declared.script_tree.StmtKind
use Rattle.sv_ast.specs.declared.script_tree.StmtKind.{StmtKind as AnyStmt, StmtKind-F, fold-roll-StmtKind}
use Rattle.sv_purity.specs.declared.scope.Known.{Known}
use Rattle.sv_purity.specs.First.{outcome}
use Rattle.sv_purity.specs.Scopes.{declared_by}
use Rattle.sv_purity.proofs.First.{then, outcomes}
use Rattle.sv_purity.specs.Pure.{Places, Placed, Asked, Part, call, unless, may_call, each, both, given, hiding, for_head, together, asked, kind_asked, stmt_part, stmt_kind_part, body, entry, expr_kind, field, stmt_kind, arm, decl, expr, link, stmt}

call_places : (kind : AnyExpr) (of : Expr) (args : List Expr) (at : Span) (table : Table) (known : Known) → kind ≡ ExprKind.Call of args
    → (kind_asked kind at).places table known ≡ call at (asked of) (map asked args) table known
unfolding ExprKind.roll-ExprKind denote.Hole.Carrier.roll
call_places kind of args at table known k =
    ap (λ x. (kind_asked x at).places table known) k
    ∙ ap (λ f. (f at).places table known) (fold-roll-ExprKind Part Places Placed Places Part Places Part Asked Places Part body entry expr_kind field stmt_kind arm decl expr link stmt (ExprKind-F.Call of args))

-- a call itself is looked at, what is called, and then the arguments
pub call_on : (kind : AnyExpr) (of : Expr) (args args1 args2 : List Expr) (at : Span) (table : Table) (known : Known) (r1 r2 r3 : Result (Unit {0}) Span) → kind ≡ ExprKind.Call of args
    → args1 ≡ args → args2 ≡ args
    → r1 ≡ outcome (unless (may_call (asked of).form (map (λ arg. arg.form) (map asked args1))) at table known)
    → r2 ≡ outcome ((asked of).places table known)
    → r3 ≡ outcome (each (map (λ arg. arg.places) (map asked args2)) table known)
    → then r1 (then r2 r3) ≡ outcome ((kind_asked kind at).places table known)
call_on kind of args args1 args2 at table known r1 r2 r3 k a1 a2 e1 e2 e3 =
    let own = λ (xs : List Expr). unless (may_call (asked of).form (map (λ arg. arg.form) (map asked xs))) at table known in
    let given = λ (xs : List Expr). each (map (λ arg. arg.places) (map asked xs)) table known in
    outcomes (own args) _ (e1 ∙ ap (λ xs. outcome (own xs)) a1)
    (outcomes ((asked of).places table known) (given args) e2 (e3 ∙ ap (λ xs. outcome (given xs)) a2))
    ∙ sym (ap outcome (call_places kind of args at table known k))

for_is : (first : Option Stmt) (test next : Option Expr) (turn : Stmt) (table : Table) (known : Known) → (stmt_kind_part (StmtKind.For first test next turn)).places table known
    ≡ for_head (together (map stmt_part (option_to_list first))) (given (option_map asked test)) (given (option_map asked next)) (stmt_part turn).places table known
unfolding StmtKind.roll-StmtKind denote.Hole.Carrier.roll
for_is None None None turn table known = ap (λ p. p.places table known) (fold-roll-StmtKind Part Places Placed Places Part Places Part Asked Places Part body entry expr_kind field stmt_kind arm decl expr link stmt (StmtKind-F.For None None None turn))
for_is None None (Some n) turn table known = ap (λ p. p.places table known) (fold-roll-StmtKind Part Places Placed Places Part Places Part Asked Places Part body entry expr_kind field stmt_kind arm decl expr link stmt (StmtKind-F.For None None (Some n) turn))
for_is None (Some e) None turn table known = ap (λ p. p.places table known) (fold-roll-StmtKind Part Places Placed Places Part Places Part Asked Places Part body entry expr_kind field stmt_kind arm decl expr link stmt (StmtKind-F.For None (Some e) None turn))
for_is None (Some e) (Some n) turn table known = ap (λ p. p.places table known) (fold-roll-StmtKind Part Places Placed Places Part Places Part Asked Places Part body entry expr_kind field stmt_kind arm decl expr link stmt (StmtKind-F.For None (Some e) (Some n) turn))
for_is (Some f) None None turn table known = ap (λ p. p.places table known) (fold-roll-StmtKind Part Places Placed Places Part Places Part Asked Places Part body entry expr_kind field stmt_kind arm decl expr link stmt (StmtKind-F.For (Some f) None None turn))
for_is (Some f) None (Some n) turn table known = ap (λ p. p.places table known) (fold-roll-StmtKind Part Places Placed Places Part Places Part Asked Places Part body entry expr_kind field stmt_kind arm decl expr link stmt (StmtKind-F.For (Some f) None (Some n) turn))
for_is (Some f) (Some e) None turn table known = ap (λ p. p.places table known) (fold-roll-StmtKind Part Places Placed Places Part Places Part Asked Places Part body entry expr_kind field stmt_kind arm decl expr link stmt (StmtKind-F.For (Some f) (Some e) None turn))
for_is (Some f) (Some e) (Some n) turn table known = ap (λ p. p.places table known) (fold-roll-StmtKind Part Places Placed Places Part Places Part Asked Places Part body entry expr_kind field stmt_kind arm decl expr link stmt (StmtKind-F.For (Some f) (Some e) (Some n) turn))

-- the head of a `for` is looked at in its scope, and then the body
pub for_on : (kind : AnyStmt) (first : Option Stmt) (test next : Option Expr) (turn : Stmt) (head : List Stmt) (table : Table) (outer inner : Known) (r1 r2 r3 r4 : Result (Unit {0}) Span) → kind ≡ StmtKind.For first test next turn
    → head ≡ option_to_list first → inner ≡ hiding (declared_by [] head) outer
    → r1 ≡ outcome ((together (map stmt_part head)).places table inner)
    → r2 ≡ outcome (given (option_map asked test) table inner)
    → r3 ≡ outcome (given (option_map asked next) table inner)
    → r4 ≡ outcome ((stmt_part turn).places table inner)
    → then r1 (then r2 (then r3 r4)) ≡ outcome ((stmt_kind_part kind).places table outer)
for_on kind first test next turn head table outer inner r1 r2 r3 r4 k h i e1 e2 e3 e4 =
    let whole = λ (stmts : List Stmt). for_head (together (map stmt_part stmts)) (given (option_map asked test)) (given (option_map asked next)) (stmt_part turn).places table outer in
    let rest = λ (stmts : List Stmt). both (together (map stmt_part stmts)).places (both (given (option_map asked test)) (both (given (option_map asked next)) (stmt_part turn).places)) in
    outcomes ((together (map stmt_part head)).places table inner) _ e1
    (outcomes (given (option_map asked test) table inner) _ e2 (outcomes (given (option_map asked next) table inner) ((stmt_part turn).places table inner) e3 e4))
    ∙ ap (λ z. outcome (rest head table z)) i ∙ ap (λ stmts. outcome (whole stmts)) h
    ∙ sym (ap outcome (ap (λ x. (stmt_kind_part x).places table outer) k ∙ for_is first test next turn table outer))
