-- Names put behind others, and scopes that are opened and closed.
use Rattle.std.proofs.Common.{◌≡◌, ℕ, ◌+◌, ◌<◌, ◌≤◌, Bool, true, false, cond, List, [], ◌∷◌, ◌++◌, length, length-append, take, drop, map, get_or, refl, sym, ap, ◌∙◌, arith}
use Rattle.std.proofs.lemmas.List.{take-append-le, take_all, drop_more}
use Rattle.sv_ast.specs.declared.names.Ref.{Ref}
use Rattle.sv_ast.specs.declared.script_tree.Stmt.{Stmt}
use Rattle.sv_names.specs.Distinct.{has, with_name, with_names}
use Rattle.sv_names.specs.Uses.{together, stmt_parts}

-- one after the other
pub with_names_append : (names first second : List Ref) → with_names names (first ++ second) ≡ with_names (with_names names first) second
with_names_append names [] second = refl
with_names_append names (name ∷ first) second = with_names_append (with_name names name) first second

-- what is added stands behind
with_name_keeps : (n : ℕ) (names : List Ref) (name : Ref) → n ≤ length names → (n ≤ length (with_name names name)) × (take n (with_name names name) ≡ take n names)
with_name_keeps n names name within = by (has name names)
  where
    by : (b : Bool) → (n ≤ length (cond b names (names ++ name ∷ []))) × (take n (cond b names (names ++ name ∷ [])) ≡ take n names)
    by true = (within, refl)
    by false = (simp length-append (omega arith), take-append-le n names (name ∷ []) within)

pub with_names_keeps : (n : ℕ) (names more : List Ref) → n ≤ length names → take n (with_names names more) ≡ take n names
with_names_keeps n names [] within = refl
with_names_keeps n names (name ∷ more) within =
    let k = with_name_keeps n names name within in
    with_names_keeps n (with_name names name) more k.0 ∙ k.1

-- a scope that is opened and cut back is what it was
pub closed : (old first second mid inner after : List Ref) (count : ℕ) → count ≡ length old → mid ≡ with_names old first → inner ≡ with_names mid second → after ≡ take count inner → after ≡ old
closed old first second mid inner after count e m i a =
    a ∙ ap (λ n. take n inner) e ∙ ap (take (length old)) (i ∙ ap (λ z. with_names z second) m ∙ sym (with_names_append old first second))
    ∙ with_names_keeps (length old) old (first ++ second) (omega arith) ∙ take_all (length old) old (omega arith)

-- two lists of names declared one after the other
pub entered : (old first second mid inner : List Ref) → mid ≡ with_names old first → inner ≡ with_names mid second → inner ≡ with_names old (first ++ second)
entered old first second mid inner m i = i ∙ ap (λ z. with_names z second) m ∙ sym (with_names_append old first second)

-- one more statement of a block has declared its names
pub stmt_declared : (names more : List Ref) (stmts : List Stmt) (i : ℕ) (s : Stmt) → i < length stmts → s ≡ get_or stmts i s → more ≡ with_names names (stmt_parts s).declares
    → with_names names (together (map stmt_parts (drop i stmts))).declares ≡ with_names more (together (map stmt_parts (drop (i + 1) stmts))).declares
stmt_declared names more stmts i s within is e =
    let rest = (together (map stmt_parts (drop (i + 1) stmts))).declares in
    let d : drop i stmts ≡ s ∷ drop (i + 1) stmts = drop_more stmts i s within ∙ ap (λ x. x ∷ drop (i + 1) stmts) (sym is) in
    ap (λ l. with_names names (together (map stmt_parts l)).declares) d
    ∙ with_names_append names (stmt_parts s).declares rest ∙ ap (λ n. with_names n rest) (sym e)
