-- The local names of what a file imports from a module of the language.
use Rattle.std.specs.Prelude.{ℕ, List, [], map, filter, if◌then◌else◌}
use Rattle.std.specs.List.{flat_map}
use Rattle.std.specs.Str.{bytes_eq}
use Rattle.sv_ast.specs.declared.names.Ref.{Ref}
use Rattle.sv_ast.specs.declared.script_tree.Import.{Import}
use Rattle.sv_ast.specs.declared.script_tree.ImportName.{ImportName}
use Rattle.sv_ast.specs.declared.script_tree.Stmt.{Stmt}
use Rattle.sv_ast.specs.declared.script_tree.StmtKind.{StmtKind-F, out-StmtKind}
use Rattle.sv_base.specs.Names.{Table, is_one_of}
use Rattle.sv_names.specs.Distinct.{firsts}
use Rattle.sv_names.specs.Uses.{named}
use Rattle.sv_scopes.specs.Script.{StmtLayer}

-- the local names of those of some imported names that are one of some words
abbrev pub local_names : Table → List (List ℕ) → List ImportName → List Ref
local_names table words specs = map (λ spec. named spec.local) (filter (λ spec. is_one_of table words spec.given.name) specs)

abbrev pub import_names : Table → List ℕ → List (List ℕ) → Import → List Ref
import_names table from words i = if bytes_eq i.from from then local_names table words i.names else []

abbrev pub import_layer : Table → List ℕ → List (List ℕ) → StmtLayer → List Ref
import_layer table from words (StmtKind-F.Import i) = import_names table from words i
import_layer table from words _ = []

abbrev pub stmt_names : Table → List ℕ → List (List ℕ) → Stmt → List Ref
stmt_names table from words s = import_layer table from words (out-StmtKind s.kind)

-- the local names of what a file imports from a module by some words, each once
abbrev pub imported_names : Table → List ℕ → List (List ℕ) → List Stmt → List Ref
imported_names table from words stmts = firsts (flat_map (stmt_names table from words) stmts)
