-- The names of tags stand for files of the program.
use Rattle.std.proofs.Common.{◌≡◌, ℕ, ◌<◌, Bool, true, false, cond, List, [], ◌∷◌, ◌++◌, Option, None, Some, length, refl, subst}
use Rattle.std.specs.List.{All, flat_map, position_or_len}
use Rattle.std.specs.Str.{bytes_eq}
use Rattle.std.specs.Prelude.{is_some, nat_lt, if◌then◌else◌}
use Rattle.std.proofs.lemmas.List.Elements.{All-nil, All-cons, All-append, All-push, All-head, All-tail}
use Rattle.std.proofs.lemmas.Bool.{ltb-true}
use Rattle.std.proofs.lemmas.Option.{none-some, cond_some}
use Rattle.sv_ast.specs.declared.files.SourceFile.{SourceFile}
use Rattle.sv_ast.specs.declared.names.Named.{Named}
use Rattle.sv_ast.specs.declared.names.Ref.{Ref}
use Rattle.sv_ast.specs.declared.script_tree.Stmt.{Stmt}
use Rattle.sv_ast.specs.declared.script_tree.StmtKind.{StmtKind-F, out-StmtKind}
use Rattle.sv_ast.specs.Files.{name_in}
use Rattle.sv_imports.specs.Imports.{StmtLayer, file_of_name, file_named}
use Rattle.sv_names.specs.Uses.{named}
use Rattle.sv_names.specs.NameMap.{Entries, number_of, with_entry, with_entries}
use Rattle.sv_slots.specs.Children.{whole_point, points_layer, points_of, tag_files}

-- points lead to so many files
abbrev pub AreFiles : ℕ → Entries → Type 0
AreFiles n points = All (λ k. k.1 < n) points

found_below : (n k size : ℕ) → cond (nat_lt k size) (Some k) None ≡ Some n → n < size
found_below n k size e = let found = cond_some (nat_lt k size) k n e in subst (λ m. m < size) found.1 (ltb-true k size found.0)

file_below : (files : List SourceFile) (name : Option (List ℕ)) (n : ℕ) → file_of_name files name ≡ Some n → n < length files
file_below files None n e = absurd (none-some n e)
file_below files (Some name) n e = found_below n (position_or_len (λ (source : SourceFile). bytes_eq source.name name) files) (length files) e

whole_file : (files : List SourceFile) (whole : Option Named) (from : List ℕ) (file : Option ℕ) → file_named files from ≡ file → AreFiles (length files) (whole_point whole file)
whole_file files None from file e = All-nil (λ k. k.1 < length files)
whole_file files (Some whole) from None e = All-nil (λ k. k.1 < length files)
whole_file files (Some whole) from (Some file) e = All-cons (λ k. k.1 < length files) (named whole, file) [] (file_below files (name_in from) file e) (All-nil (λ k. k.1 < length files))

layer_files : (files : List SourceFile) (layer : StmtLayer) → AreFiles (length files) (points_layer files layer)
layer_files files (StmtKind-F.Import i) = whole_file files i.whole i.from (file_named files i.from) refl
layer_files files _ = All-nil (λ k. k.1 < length files)

all_points : (files : List SourceFile) (stmts : List Stmt) → AreFiles (length files) (flat_map (points_of files) stmts)
all_points files [] = All-nil (λ k. k.1 < length files)
all_points files (s ∷ stmts) = All-append (λ k. k.1 < length files) (points_of files s) (flat_map (points_of files) stmts) (layer_files files (out-StmtKind s.kind)) (all_points files stmts)

one_more : (n : ℕ) (b : Bool) (points : Entries) (k : Ref × ℕ) → AreFiles n points → k.1 < n → AreFiles n (if b then points else points ++ k ∷ [])
one_more n true points k h below = h
one_more n false points k h below = All-push (λ k. k.1 < n) points k h below

more_points : (n : ℕ) (points more : Entries) → AreFiles n points → AreFiles n more → AreFiles n (with_entries points more)
more_points n points [] h k = h
more_points n points (p ∷ more) h k =
    more_points n (with_entry points p) more (one_more n (is_some (number_of points p.0)) points p h (All-head (λ k. k.1 < n) p more k)) (All-tail (λ k. k.1 < n) p more k)

pub tags_are_files : (files : List SourceFile) (stmts : List Stmt) → AreFiles (length files) (tag_files files stmts)
tags_are_files files stmts = more_points (length files) [] (flat_map (points_of files) stmts) (All-nil (λ k. k.1 < length files)) (all_points files stmts)
