-- Names that are added in turn.
use Rattle.std.proofs.Common.{◌≡◌, ℕ, ◌+◌, ◌<◌, List, ◌∷◌, length, drop, get_or, sym, ap, ◌∙◌}
use Rattle.std.proofs.lemmas.List.{drop_more}
use Rattle.sv_ast.specs.declared.names.Ref.{Ref}
use Rattle.sv_ast.specs.declared.script_tree.Stmt.{Stmt}
use Rattle.sv_names.specs.Distinct.{with_names}
use Rattle.sv_names.proofs.Names.{with_names_append}
use Rattle.sv_imports.specs.Given.{exported, all_exported}

-- the names of one statement more are added
pub exported_more : (names more : List Ref) (stmts : List Stmt) (i : ℕ) (s : Stmt) → i < length stmts → s ≡ get_or stmts i s → more ≡ with_names names (exported s)
    → with_names names (all_exported (drop i stmts)) ≡ with_names more (all_exported (drop (i + 1) stmts))
exported_more names more stmts i s within is e =
    let rest = all_exported (drop (i + 1) stmts) in
    let d : drop i stmts ≡ s ∷ drop (i + 1) stmts = drop_more stmts i s within ∙ ap (λ x. x ∷ drop (i + 1) stmts) (sym is) in
    ap (λ l. with_names names (all_exported l)) d ∙ with_names_append names (exported s) rest ∙ ap (λ n. with_names n rest) (sym e)
