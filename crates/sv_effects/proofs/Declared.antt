-- The names that statements declare, one after the other.
use Rattle.std.proofs.Common.{◌≡◌, ℕ, ◌+◌, ◌<◌, List, ◌∷◌, length, drop, map, get_or, sym, ap, ◌∙◌}
use Rattle.std.proofs.lemmas.List.{drop_more}
use Rattle.sv_ast.specs.declared.names.Ref.{Ref}
use Rattle.sv_ast.specs.declared.script_tree.Stmt.{Stmt}
use Rattle.sv_names.specs.Distinct.{with_names}
use Rattle.sv_names.proofs.Names.{with_names_append}
use Rattle.sv_effects.specs.Signs.{together, stmt_part}

-- one more statement of a block has declared its names
pub stmt_declared : (names more : List Ref) (stmts : List Stmt) (i : ℕ) (s : Stmt) → i < length stmts → s ≡ get_or stmts i s → more ≡ with_names names (stmt_part s).declares
    → with_names names (together (map stmt_part (drop i stmts))).declares ≡ with_names more (together (map stmt_part (drop (i + 1) stmts))).declares
stmt_declared names more stmts i s within is e =
    let rest = (together (map stmt_part (drop (i + 1) stmts))).declares in
    let d : drop i stmts ≡ s ∷ drop (i + 1) stmts = drop_more stmts i s within ∙ ap (λ x. x ∷ drop (i + 1) stmts) (sym is) in
    ap (λ l. with_names names (together (map stmt_part l)).declares) d
    ∙ with_names_append names (stmt_part s).declares rest ∙ ap (λ n. with_names n rest) (sym e)
