-- Names of the top level that are added in turn.
use Rattle.std.proofs.Common.{◌≡◌, ℕ, ◌+◌, ◌<◌, List, [], ◌∷◌, ◌++◌, length, drop, map, get_or, refl, sym, ap, ◌∙◌}
use Rattle.std.specs.List.{flat_map}
use Rattle.std.proofs.lemmas.List.{drop_more}
use Rattle.sv_ast.specs.declared.names.Ref.{Ref}
use Rattle.sv_ast.specs.declared.script_tree.Stmt.{Stmt}
use Rattle.sv_names.specs.Distinct.{firsts, with_names}
use Rattle.sv_names.proofs.Names.{with_names_append}
use Rattle.sv_effects.specs.Signs.{together, stmt_part}
use Rattle.sv_effects.specs.declared.top.Top.{Top}
use Rattle.sv_effects.specs.Top.{declared, variables, reactives, top_of}

-- the names of one more statement were added
pub names_more : (f : Stmt → List Ref) (names more : List Ref) (stmts : List Stmt) (i : ℕ) (s : Stmt) → i < length stmts → s ≡ get_or stmts i s → more ≡ with_names names (f s)
    → with_names names (flat_map f (drop i stmts)) ≡ with_names more (flat_map f (drop (i + 1) stmts))
names_more f names more stmts i s within is e =
    let rest = flat_map f (drop (i + 1) stmts) in
    ap (λ l. with_names names (flat_map f l)) (drop_more stmts i s within ∙ ap (λ x. x ∷ drop (i + 1) stmts) (sym is))
    ∙ with_names_append names (f s) rest ∙ ap (λ n. with_names n rest) (sym e)

-- what statements declare, with their signs or without
pub declared_together : (stmts : List Stmt) → (together (map stmt_part stmts)).declares ≡ declared stmts
declared_together [] = refl
declared_together (s ∷ stmts) = ap (λ names. (stmt_part s).declares ++ names) (declared_together stmts)

-- the tables of a top level, one by one
pub top_is : (stmts : List Stmt) (top : Top) → top.declared ≡ firsts (declared stmts) → top.variables ≡ firsts (variables stmts) → top.reactives ≡ firsts (reactives stmts) → top ≡ top_of stmts
top_is stmts top d v r =
    ap (λ (x : List Ref). record top { declared = x }) d
    ∙ ap (λ (x : List Ref). record top { declared = firsts (declared stmts); variables = x }) v
    ∙ ap (λ (x : List Ref). record (top_of stmts) { reactives = x }) r
