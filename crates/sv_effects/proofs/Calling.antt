-- What is found in calls.
use Rattle.std.proofs.Common.{◌≡◌, Bool, List, ◌++◌, map, append_assoc, sym, ap, ◌∙◌}
use Rattle.sv_ast.specs.declared.names.Ref.{Ref}
use Rattle.sv_ast.specs.declared.script_tree.Expr.{Expr}
use Rattle.sv_ast.specs.declared.script_tree.ExprKind
use Rattle.sv_ast.specs.declared.script_tree.ExprKind.{ExprKind as AnyExpr, ExprKind-F, fold-roll-ExprKind}
use Rattle.sv_base.specs.Names.{Table}
use Rattle.sv_effects.specs.declared.notes.Sign.{Sign}
use Rattle.sv_effects.specs.Signs.{Found, Asked, Part, place, own_signs, arguments, body, entry, expr_kind, field, stmt_kind, arm, decl, expr, link, stmt, asked, kind_asked}

regroup : (u a b c : List Sign) → ((u ++ a) ++ b) ++ c ≡ u ++ (a ++ (b ++ c))
regroup u a b c = simp append_assoc

-- a call itself, what is called, and then the arguments
pub call_signs : (kind : AnyExpr) (of : Expr) (args args1 args2 : List Expr) (table : Table) (handed : Bool) (u0 u1 u2 u3 : List Sign) (s0 s1 s2 : List Ref) → kind ≡ ExprKind.Call of args
    → args1 ≡ args → args2 ≡ args → s1 ≡ s0 → s2 ≡ s1
    → u1 ≡ u0 ++ own_signs (asked of).form (map (λ arg. arg.form) (map asked args1)) table s0
    → u2 ≡ u1 ++ (asked of).signs (place table handed s1)
    → u3 ≡ u2 ++ arguments (asked of).form (map asked args2) (place table handed s2)
    → u3 ≡ u0 ++ (kind_asked kind).signs (place table handed s0)
unfolding ExprKind.roll-ExprKind denote.Hole.Carrier.roll
call_signs kind of args args1 args2 table handed u0 u1 u2 u3 s0 s1 s2 k a1 a2 e1 e2 h1 h2 h3 =
    let own = λ (xs : List Expr). own_signs (asked of).form (map (λ arg. arg.form) (map asked xs)) table s0 in
    let found = λ (s : List Ref). (asked of).signs (place table handed s) in
    let rest = λ (xs : List Expr) (s : List Ref). arguments (asked of).form (map asked xs) (place table handed s) in
    let whole : (kind_asked kind).signs (place table handed s0) ≡ own args ++ (found s0 ++ rest args s0) =
    ap (λ x. (kind_asked x).signs (place table handed s0)) k
    ∙ ap (λ a. a.signs (place table handed s0)) (fold-roll-ExprKind Part Found Asked Found Part Found Part Asked Found Part body entry expr_kind field stmt_kind arm decl expr link stmt (ExprKind-F.Call of args)) in
    let b1 : u1 ≡ u0 ++ own args = h1 ∙ ap (λ xs. u0 ++ own xs) a1 in
    let b2 : u2 ≡ (u0 ++ own args) ++ found s0 = h2 ∙ ap (λ s. u1 ++ found s) e1 ∙ ap (λ u. u ++ found s0) b1 in
    let b3 : u3 ≡ ((u0 ++ own args) ++ found s0) ++ rest args s0 = h3 ∙ ap (λ s. u2 ++ rest args2 s) (e2 ∙ e1) ∙ ap (λ xs. u2 ++ rest xs s0) a2 ∙ ap (λ u. u ++ rest args s0) b2 in
    b3 ∙ regroup u0 (own args) (found s0) (rest args s0) ∙ ap (λ x. u0 ++ x) (sym whole)
