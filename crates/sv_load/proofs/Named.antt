-- The names that statements name, as a list of statements grows by one.
use Rattle.std.proofs.Common.{◌≡◌, ◌<◌, ◌+◌, ℕ, List, [], ◌∷◌, ◌++◌, length, get_or, take, append-nil, filter_map, ap, sym, ◌∙◌}
use Rattle.std.specs.Prelude.{Some, None}
use Rattle.std.specs.List.{cons_option}
use Rattle.std.proofs.lemmas.List.{take_more}
use Rattle.std.proofs.lemmas.List.Elements.{filter_map-append}
use Rattle.sv_ast.specs.declared.script_tree.Stmt.{Stmt}
use Rattle.sv_load.specs.Imports.{file_of}

-- one statement more
next : (stmts : List Stmt) (i : ℕ) (stmt : Stmt) → i < length stmts → stmt ≡ get_or stmts i stmt
    → filter_map file_of (take (i + 1) stmts) ≡ filter_map file_of (take i stmts) ++ filter_map file_of (stmt ∷ [])
next stmts i stmt h at =
    ap (filter_map file_of) (take_more stmts i stmt h)
    ∙ filter_map-append file_of (take i stmts) (get_or stmts i stmt ∷ [])
    ∙ ap (λ s. filter_map file_of (take i stmts) ++ filter_map file_of (s ∷ [])) (sym at)

-- a statement that names a file
pub named-some : (stmts : List Stmt) (i : ℕ) (stmt : Stmt) (name : List ℕ) (names after : List (List ℕ)) → i < length stmts → stmt ≡ get_or stmts i stmt
    → file_of stmt ≡ Some name → names ≡ filter_map file_of (take i stmts) → after ≡ names ++ name ∷ [] → after ≡ filter_map file_of (take (i + 1) stmts)
named-some stmts i stmt name names after h at is before pushed =
    pushed ∙ ap (λ l. l ++ name ∷ []) before
    ∙ ap (λ o. filter_map file_of (take i stmts) ++ cons_option o []) (sym is)
    ∙ sym (next stmts i stmt h at)

-- and one that names none
pub named-none : (stmts : List Stmt) (i : ℕ) (stmt : Stmt) (names after : List (List ℕ)) → i < length stmts → stmt ≡ get_or stmts i stmt
    → file_of stmt ≡ None → names ≡ filter_map file_of (take i stmts) → after ≡ names → after ≡ filter_map file_of (take (i + 1) stmts)
named-none stmts i stmt names after h at is before same =
    same ∙ before ∙ sym (append-nil (filter_map file_of (take i stmts)))
    ∙ ap (λ o. filter_map file_of (take i stmts) ++ cons_option o []) (sym is)
    ∙ sym (next stmts i stmt h at)
