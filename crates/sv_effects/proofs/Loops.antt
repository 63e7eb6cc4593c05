-- What is found in the loops.
use Rattle.std.proofs.Common.{◌≡◌, Bool, List, [], ◌∷◌, ◌++◌, Option, None, Some, option_map, append_assoc, sym, ap, ◌∙◌}
use Rattle.sv_ast.specs.declared.names.Named.{Named}
use Rattle.sv_ast.specs.declared.names.Ref.{Ref}
use Rattle.sv_ast.specs.declared.script_tree.Expr.{Expr}
use Rattle.sv_ast.specs.declared.script_tree.Stmt.{Stmt}
use Rattle.sv_ast.specs.declared.script_tree.StmtKind
use Rattle.sv_ast.specs.declared.script_tree.StmtKind.{StmtKind as AnyStmt, StmtKind-F, fold-roll-StmtKind}
use Rattle.sv_names.specs.Distinct.{with_names}
use Rattle.sv_names.specs.Uses.{named}
use Rattle.sv_base.specs.Names.{Table}
use Rattle.sv_effects.specs.declared.notes.Sign.{Sign}
use Rattle.sv_effects.specs.Signs.{Found, Asked, Part, place, optional, given, followed, for_head, body, entry, expr_kind, field, stmt_kind, arm, decl, expr, link, stmt, asked, stmt_part, stmt_kind_part}

pub each_signs : (kind : AnyStmt) (name : Named) (fixed : Bool) (list : Expr) (turn : Stmt) (table : Table) (handed : Bool) (u0 u1 u2 : List Sign) (s0 s1 s2 : List Ref) → kind ≡ StmtKind.Each name fixed list turn
    → s1 ≡ with_names s0 (named name ∷ []) → s2 ≡ s1
    → u1 ≡ u0 ++ (asked list).signs (place table handed s1) → u2 ≡ u1 ++ (stmt_part turn).signs (place table handed s2) → u2 ≡ u0 ++ (stmt_kind_part kind).signs (place table handed s0)
unfolding StmtKind.roll-StmtKind denote.Hole.Carrier.roll
each_signs kind name fixed list turn table handed u0 u1 u2 s0 s1 s2 k e1 e2 a1 a2 =
    let whole : (stmt_kind_part kind).signs (place table handed s0) ≡ (asked list).signs (place table handed s1) ++ (stmt_part turn).signs (place table handed s1) =
    ap (λ x. (stmt_kind_part x).signs (place table handed s0)) k
    ∙ ap (λ p. p.signs (place table handed s0)) (fold-roll-StmtKind Part Found Asked Found Part Found Part Asked Found Part body entry expr_kind field stmt_kind arm decl expr link stmt (StmtKind-F.Each name fixed list turn))
    ∙ ap (λ s. (asked list).signs (place table handed s) ++ (stmt_part turn).signs (place table handed s)) (sym e1) in
    a2 ∙ ap (λ s. u1 ++ (stmt_part turn).signs (place table handed s)) e2
    ∙ ap (λ u. u ++ (stmt_part turn).signs (place table handed s1)) a1
    ∙ append_assoc u0 ((asked list).signs (place table handed s1)) ((stmt_part turn).signs (place table handed s1)) ∙ ap (λ x. u0 ++ x) (sym whole)

regroup : (u a b c d : List Sign) → (((u ++ a) ++ b) ++ c) ++ d ≡ u ++ (a ++ (b ++ (c ++ d)))
regroup u a b c d = simp append_assoc

for_is : (first : Option Stmt) (test next : Option Expr) (turn : Stmt) (table : Table) (handed : Bool) (s0 : List Ref) → (stmt_kind_part (StmtKind.For first test next turn)).signs (place table handed s0)
    ≡ for_head (optional (option_map stmt_part first)) (given (option_map asked test)) (given (option_map asked next)) (stmt_part turn).signs (place table handed s0)
unfolding StmtKind.roll-StmtKind denote.Hole.Carrier.roll
for_is None None None turn table handed s0 = ap (λ p. p.signs (place table handed s0)) (fold-roll-StmtKind Part Found Asked Found Part Found Part Asked Found Part body entry expr_kind field stmt_kind arm decl expr link stmt (StmtKind-F.For None None None turn))
for_is None None (Some n) turn table handed s0 = ap (λ p. p.signs (place table handed s0)) (fold-roll-StmtKind Part Found Asked Found Part Found Part Asked Found Part body entry expr_kind field stmt_kind arm decl expr link stmt (StmtKind-F.For None None (Some n) turn))
for_is None (Some e) None turn table handed s0 = ap (λ p. p.signs (place table handed s0)) (fold-roll-StmtKind Part Found Asked Found Part Found Part Asked Found Part body entry expr_kind field stmt_kind arm decl expr link stmt (StmtKind-F.For None (Some e) None turn))
for_is None (Some e) (Some n) turn table handed s0 = ap (λ p. p.signs (place table handed s0)) (fold-roll-StmtKind Part Found Asked Found Part Found Part Asked Found Part body entry expr_kind field stmt_kind arm decl expr link stmt (StmtKind-F.For None (Some e) (Some n) turn))
for_is (Some f) None None turn table handed s0 = ap (λ p. p.signs (place table handed s0)) (fold-roll-StmtKind Part Found Asked Found Part Found Part Asked Found Part body entry expr_kind field stmt_kind arm decl expr link stmt (StmtKind-F.For (Some f) None None turn))
for_is (Some f) None (Some n) turn table handed s0 = ap (λ p. p.signs (place table handed s0)) (fold-roll-StmtKind Part Found Asked Found Part Found Part Asked Found Part body entry expr_kind field stmt_kind arm decl expr link stmt (StmtKind-F.For (Some f) None (Some n) turn))
for_is (Some f) (Some e) None turn table handed s0 = ap (λ p. p.signs (place table handed s0)) (fold-roll-StmtKind Part Found Asked Found Part Found Part Asked Found Part body entry expr_kind field stmt_kind arm decl expr link stmt (StmtKind-F.For (Some f) (Some e) None turn))
for_is (Some f) (Some e) (Some n) turn table handed s0 = ap (λ p. p.signs (place table handed s0)) (fold-roll-StmtKind Part Found Asked Found Part Found Part Asked Found Part body entry expr_kind field stmt_kind arm decl expr link stmt (StmtKind-F.For (Some f) (Some e) (Some n) turn))

pub for_signs : (kind : AnyStmt) (first : Option Stmt) (test next : Option Expr) (turn : Stmt) (table : Table) (handed : Bool) (u0 u1 u2 u3 u4 : List Sign) (s0 s1 s2 s3 s4 : List Ref) → kind ≡ StmtKind.For first test next turn
    → s1 ≡ with_names s0 (optional (option_map stmt_part first)).declares → s2 ≡ s1 → s3 ≡ s2 → s4 ≡ s3
    → u1 ≡ u0 ++ (optional (option_map stmt_part first)).signs (place table handed s1) → u2 ≡ u1 ++ given (option_map asked test) (place table handed s2) → u3 ≡ u2 ++ given (option_map asked next) (place table handed s3)
    → u4 ≡ u3 ++ (stmt_part turn).signs (place table handed s4) → u4 ≡ u0 ++ (stmt_kind_part kind).signs (place table handed s0)
for_signs kind first test next turn table handed u0 u1 u2 u3 u4 s0 s1 s2 s3 s4 k e1 e2 e3 e4 a1 a2 a3 a4 =
    let at = λ (s : List Ref). place table handed s in
    let head = (optional (option_map stmt_part first)).signs in
    let f = given (option_map asked test) in
    let g = given (option_map asked next) in
    let whole : (stmt_kind_part kind).signs (at s0) ≡ head (at s1) ++ (f (at s1) ++ (g (at s1) ++ (stmt_part turn).signs (at s1))) =
    ap (λ x. (stmt_kind_part x).signs (at s0)) k
    ∙ for_is first test next turn table handed s0
    ∙ ap (λ s. followed head (followed f (followed g (stmt_part turn).signs)) (at s)) (sym e1) in
    let b1 : u2 ≡ (u0 ++ head (at s1)) ++ f (at s1) = a2 ∙ ap (λ s. u1 ++ f (at s)) e2 ∙ ap (λ u. u ++ f (at s1)) a1 in
    let b2 : u3 ≡ ((u0 ++ head (at s1)) ++ f (at s1)) ++ g (at s1) = a3 ∙ ap (λ s. u2 ++ g (at s)) (e3 ∙ e2) ∙ ap (λ u. u ++ g (at s1)) b1 in
    a4 ∙ ap (λ s. u3 ++ (stmt_part turn).signs (at s)) (e4 ∙ e3 ∙ e2) ∙ ap (λ u. u ++ (stmt_part turn).signs (at s1)) b2
    ∙ regroup u0 (head (at s1)) (f (at s1)) (g (at s1)) ((stmt_part turn).signs (at s1)) ∙ ap (λ x. u0 ++ x) (sym whole)
