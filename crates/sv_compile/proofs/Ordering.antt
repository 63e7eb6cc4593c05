-- The order in which modules run, and names that `let` declares in turn.
use Rattle.std.proofs.Common.{◌≡◌, ℕ, ◌+◌, ◌<◌, List, [], ◌∷◌, ◌++◌, length, drop, get_or, refl, sym, ap, subst, ◌∙◌}
use Rattle.std.specs.Prelude.{Result, Ok, Err, IfOk}
use Rattle.std.proofs.lemmas.List.{drop_more}
use Rattle.sv_ast.specs.declared.files.SourceFile.{SourceFile}
use Rattle.sv_ast.specs.declared.names.Ref.{Ref}
use Rattle.sv_ast.specs.declared.script_tree.Stmt.{Stmt}
use Rattle.sv_imports.specs.Imports.{imports}
use Rattle.sv_names.specs.Distinct.{with_name, with_names}
use Rattle.sv_graph.specs.Visited.{IsVisited}
use Rattle.sv_graph.specs.declared.outcome.Visited.{Visited}
use Rattle.sv_compile.specs.Modules.{starts, modules_in, AreModules}
use Rattle.sv_compile.specs.TopLevel.{lets_of, all_lets}

pub ordered : {E : Type 0} (files : List SourceFile) (links : List (List ℕ)) (count : ℕ) (v : Visited) (r : Result (List ℕ) E) → links ≡ imports files → count ≡ starts files → IsVisited links count v
    → IfOk r (λ modules. modules ≡ modules_in files v) → IfOk r (AreModules files)
ordered files links count v (Ok m) led first visits is = record { visited = v; is_visited = subst (λ l. IsVisited l (starts files) v) led (subst (λ n. IsVisited links n v) first visits); are = is }
ordered files links count v (Err e) led first visits is = is

with_names_append : (names a b : List Ref) → with_names names (a ++ b) ≡ with_names (with_names names a) b
with_names_append names [] b = refl
with_names_append names (x ∷ a) b = with_names_append (with_name names x) a b

pub next_lets : (stmts : List Stmt) (i : ℕ) (s : Stmt) (names more : List Ref) → i < length stmts → s ≡ get_or stmts i s → more ≡ with_names names (lets_of s)
    → with_names names (all_lets (drop i stmts)) ≡ with_names more (all_lets (drop (i + 1) stmts))
next_lets stmts i s names more within is e =
    let rest = all_lets (drop (i + 1) stmts) in
    ap (λ l. with_names names (all_lets l)) (drop_more stmts i s within ∙ ap (λ x. x ∷ drop (i + 1) stmts) (sym is)) ∙ with_names_append names (lets_of s) rest ∙ ap (λ m. with_names m rest) (sym e)
