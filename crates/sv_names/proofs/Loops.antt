-- What is found in the loops.
use Rattle.std.proofs.Common.{◌≡◌, Bool, List, [], ◌∷◌, ◌++◌, Option, None, Some, option_map, append_assoc, sym, ap, ◌∙◌}
use Rattle.sv_ast.specs.declared.names.Named.{Named}
use Rattle.sv_ast.specs.declared.names.Ref.{Ref}
use Rattle.sv_ast.specs.declared.script_tree.Expr.{Expr}
use Rattle.sv_ast.specs.declared.script_tree.Stmt.{Stmt}
use Rattle.sv_ast.specs.declared.script_tree.StmtKind
use Rattle.sv_ast.specs.declared.script_tree.StmtKind.{StmtKind as AnyStmt, StmtKind-F, fold-roll-StmtKind}
use Rattle.sv_names.specs.declared.uses.Use.{Use}
use Rattle.sv_names.specs.Distinct.{with_names}
use Rattle.sv_names.specs.Uses.{Found, Parts, named, optional, given, turns, body, entry, expr_kind, field, stmt_kind, arm, decl, expr, link, stmt, expr_uses, stmt_parts, stmt_kind_parts}

pub each_uses : (kind : AnyStmt) (name : Named) (fixed : Bool) (list : Expr) (turn : Stmt) (u0 u1 u2 : List Use) (s0 s1 s2 : List Ref) → kind ≡ StmtKind.Each name fixed list turn → s1 ≡ with_names s0 (named name ∷ []) → s2 ≡ s1
    → u1 ≡ u0 ++ expr_uses list s1 → u2 ≡ u1 ++ (stmt_parts turn).uses s2 → u2 ≡ u0 ++ (stmt_kind_parts kind).uses s0
unfolding StmtKind.roll-StmtKind denote.Hole.Carrier.roll
each_uses kind name fixed list turn u0 u1 u2 s0 s1 s2 k e1 e2 a1 a2 =
    let whole : (stmt_kind_parts kind).uses s0 ≡ expr_uses list s1 ++ (stmt_parts turn).uses s1 =
    ap (λ x. (stmt_kind_parts x).uses s0) k
    ∙ ap (λ p. p.uses s0) (fold-roll-StmtKind Parts Found Found Found Parts Found Parts Found Found Parts body entry expr_kind field stmt_kind arm decl expr link stmt (StmtKind-F.Each name fixed list turn))
    ∙ ap (λ s. expr_uses list s ++ (stmt_parts turn).uses s) (sym e1) in
    a2 ∙ ap (λ s. u1 ++ (stmt_parts turn).uses s) e2 ∙ ap (λ u. u ++ (stmt_parts turn).uses s1) a1
    ∙ append_assoc u0 (expr_uses list s1) ((stmt_parts turn).uses s1) ∙ ap (λ x. u0 ++ x) (sym whole)

regroup : (u a b c d : List Use) → (((u ++ a) ++ b) ++ c) ++ d ≡ u ++ (((a ++ b) ++ c) ++ d)
regroup u a b c d = simp append_assoc

for_is : (first : Option Stmt) (test next : Option Expr) (turn : Stmt) (s0 : List Ref) → (stmt_kind_parts (StmtKind.For first test next turn)).uses s0
    ≡ turns (optional (option_map stmt_parts first)).uses (given (option_map expr_uses test)) (given (option_map expr_uses next)) (stmt_parts turn).uses (with_names s0 (optional (option_map stmt_parts first)).declares)
unfolding StmtKind.roll-StmtKind denote.Hole.Carrier.roll
for_is None None None turn s0 = ap (λ p. p.uses s0) (fold-roll-StmtKind Parts Found Found Found Parts Found Parts Found Found Parts body entry expr_kind field stmt_kind arm decl expr link stmt (StmtKind-F.For None None None turn))
for_is None None (Some n) turn s0 = ap (λ p. p.uses s0) (fold-roll-StmtKind Parts Found Found Found Parts Found Parts Found Found Parts body entry expr_kind field stmt_kind arm decl expr link stmt (StmtKind-F.For None None (Some n) turn))
for_is None (Some e) None turn s0 = ap (λ p. p.uses s0) (fold-roll-StmtKind Parts Found Found Found Parts Found Parts Found Found Parts body entry expr_kind field stmt_kind arm decl expr link stmt (StmtKind-F.For None (Some e) None turn))
for_is None (Some e) (Some n) turn s0 = ap (λ p. p.uses s0) (fold-roll-StmtKind Parts Found Found Found Parts Found Parts Found Found Parts body entry expr_kind field stmt_kind arm decl expr link stmt (StmtKind-F.For None (Some e) (Some n) turn))
for_is (Some f) None None turn s0 = ap (λ p. p.uses s0) (fold-roll-StmtKind Parts Found Found Found Parts Found Parts Found Found Parts body entry expr_kind field stmt_kind arm decl expr link stmt (StmtKind-F.For (Some f) None None turn))
for_is (Some f) None (Some n) turn s0 = ap (λ p. p.uses s0) (fold-roll-StmtKind Parts Found Found Found Parts Found Parts Found Found Parts body entry expr_kind field stmt_kind arm decl expr link stmt (StmtKind-F.For (Some f) None (Some n) turn))
for_is (Some f) (Some e) None turn s0 = ap (λ p. p.uses s0) (fold-roll-StmtKind Parts Found Found Found Parts Found Parts Found Found Parts body entry expr_kind field stmt_kind arm decl expr link stmt (StmtKind-F.For (Some f) (Some e) None turn))
for_is (Some f) (Some e) (Some n) turn s0 = ap (λ p. p.uses s0) (fold-roll-StmtKind Parts Found Found Found Parts Found Parts Found Found Parts body entry expr_kind field stmt_kind arm decl expr link stmt (StmtKind-F.For (Some f) (Some e) (Some n) turn))

pub for_uses : (kind : AnyStmt) (first : Option Stmt) (test next : Option Expr) (turn : Stmt) (u0 u1 u2 u3 u4 : List Use) (s0 s1 s2 s3 s4 : List Ref) → kind ≡ StmtKind.For first test next turn
    → s1 ≡ with_names s0 (optional (option_map stmt_parts first)).declares → s2 ≡ s1 → s3 ≡ s2 → s4 ≡ s3
    → u1 ≡ u0 ++ (optional (option_map stmt_parts first)).uses s1 → u2 ≡ u1 ++ given (option_map expr_uses test) s2 → u3 ≡ u2 ++ given (option_map expr_uses next) s3 → u4 ≡ u3 ++ (stmt_parts turn).uses s4
    → u4 ≡ u0 ++ (stmt_kind_parts kind).uses s0
for_uses kind first test next turn u0 u1 u2 u3 u4 s0 s1 s2 s3 s4 k e1 e2 e3 e4 a1 a2 a3 a4 =
    let head = (optional (option_map stmt_parts first)).uses in
    let whole : (stmt_kind_parts kind).uses s0 ≡ turns head (given (option_map expr_uses test)) (given (option_map expr_uses next)) (stmt_parts turn).uses s1 =
    ap (λ x. (stmt_kind_parts x).uses s0) k
    ∙ for_is first test next turn s0
    ∙ ap (λ s. turns head (given (option_map expr_uses test)) (given (option_map expr_uses next)) (stmt_parts turn).uses s) (sym e1) in
    let b1 : u2 ≡ (u0 ++ head s1) ++ given (option_map expr_uses test) s1 = a2 ∙ ap (λ s. u1 ++ given (option_map expr_uses test) s) e2 ∙ ap (λ u. u ++ given (option_map expr_uses test) s1) a1 in
    let b2 : u3 ≡ ((u0 ++ head s1) ++ given (option_map expr_uses test) s1) ++ given (option_map expr_uses next) s1 =
    a3 ∙ ap (λ s. u2 ++ given (option_map expr_uses next) s) (e3 ∙ e2) ∙ ap (λ u. u ++ given (option_map expr_uses next) s1) b1 in
    a4 ∙ ap (λ s. u3 ++ (stmt_parts turn).uses s) (e4 ∙ e3 ∙ e2) ∙ ap (λ u. u ++ (stmt_parts turn).uses s1) b2
    ∙ regroup u0 (head s1) (given (option_map expr_uses test) s1) (given (option_map expr_uses next) s1) ((stmt_parts turn).uses s1) ∙ ap (λ x. u0 ++ x) (sym whole)
