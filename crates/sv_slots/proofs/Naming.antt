-- What statements name, in turn.
use Rattle.std.proofs.Common.{◌≡◌, ℕ, ◌+◌, ◌<◌, List, [], ◌∷◌, ◌++◌, length, drop, get_or, refl, sym, ap, ◌∙◌}
use Rattle.std.specs.List.{flat_map}
use Rattle.std.proofs.lemmas.List.{drop_more}
use Rattle.sv_ast.specs.declared.files.SourceFile.{SourceFile}
use Rattle.sv_ast.specs.declared.names.Ref.{Ref}
use Rattle.sv_ast.specs.declared.script_tree.Stmt.{Stmt}
use Rattle.sv_names.specs.Distinct.{with_names}
use Rattle.sv_names.proofs.Names.{with_names_append}
use Rattle.sv_names.specs.NameMap.{Entries, with_entries}
use Rattle.sv_names.proofs.Entries.{with_entries_append}
use Rattle.sv_slots.specs.Children.{points_of}
use Rattle.sv_slots.specs.Sheets.{prop_names, all_props}

-- ---- props

-- the props of one statement more are added
pub props_more : (names more : List Ref) (stmts : List Stmt) (i : ℕ) (s : Stmt) → i < length stmts → s ≡ get_or stmts i s → more ≡ with_names names (prop_names s)
    → with_names names (all_props (drop i stmts)) ≡ with_names more (all_props (drop (i + 1) stmts))
props_more names more stmts i s within is e =
    let rest = all_props (drop (i + 1) stmts) in
    let d : drop i stmts ≡ s ∷ drop (i + 1) stmts = drop_more stmts i s within ∙ ap (λ x. x ∷ drop (i + 1) stmts) (sym is) in
    ap (λ l. with_names names (all_props l)) d ∙ with_names_append names (prop_names s) rest ∙ ap (λ n. with_names n rest) (sym e)

-- ---- names that stand for files

-- the files that one statement names, and then those of the others
pub points_cons : (files : List SourceFile) (entries : Entries) (s : Stmt) (stmts : List Stmt)
    → with_entries entries (flat_map (points_of files) (s ∷ stmts)) ≡ with_entries (with_entries entries (points_of files s)) (flat_map (points_of files) stmts)
points_cons files entries s stmts = with_entries_append entries (points_of files s) (flat_map (points_of files) stmts)
