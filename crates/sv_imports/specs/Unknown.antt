-- Names that are imported and not given.
use Rattle.std.specs.Prelude.{ℕ, Bool, false, not, List, [], Option, None, Some, map, filter, slice_get, if◌then◌else◌}
use Rattle.std.specs.List.{flat_map}
use Rattle.std.specs.Option.{option_map_or}
use Rattle.std.specs.Str.{bytes_eq}
use Rattle.sv_ast.specs.declared.files.Bundle.{Bundle}
use Rattle.sv_ast.specs.declared.files.SourceFile.{SourceFile}
use Rattle.sv_ast.specs.declared.names.Ref.{Ref}
use Rattle.sv_ast.specs.declared.names.Ref.TheVariants.{Plain}
use Rattle.sv_ast.specs.declared.script_tree.ImportName.{ImportName}
use Rattle.sv_ast.specs.declared.script_tree.Stmt.{Stmt}
use Rattle.sv_ast.specs.declared.script_tree.StmtKind.{StmtKind-F, out-StmtKind}
use Rattle.sv_base.specs.BuiltIn.{life_functions}
use Rattle.sv_base.specs.Names.{Table, is_one_of}
use Rattle.sv_base.specs.declared.built_in.TheConstants.{LIFE_MODULE, STORE_MODULE}
use Rattle.sv_base.specs.declared.names.Name.{Name}
use Rattle.sv_base.specs.declared.span.Span.{Span}
use Rattle.sv_names.specs.Distinct.{has}
use Rattle.sv_imports.specs.declared.origin.Origin.{Origin}
use Rattle.sv_imports.specs.declared.origin.Origin.TheVariants.{Life, Stores, File, Nowhere}
use Rattle.sv_ast.specs.Files.{statements_of}
use Rattle.sv_imports.specs.Imports.{StmtLayer, file_named}
use Rattle.sv_imports.specs.Given.{given_names}
use Rattle.sv_imports.specs.Language.{is_store_function}

abbrev pub file_origin : Option ℕ → Origin
file_origin None = Nowhere
file_origin (Some file) = File file

-- what an import takes its names from
abbrev pub origin_of : List SourceFile → List ℕ → Origin
origin_of files from =
    if bytes_eq from LIFE_MODULE.now then Life
    else (if bytes_eq from STORE_MODULE.now then Stores else file_origin (file_named files from))

-- whether it gives a name, where the files give these
abbrev pub gives : Table → List (List Ref) → Origin → Name → Bool
gives table given Life name = is_one_of table life_functions name
gives table given Stores name = is_store_function table name
gives table given (File file) name = option_map_or (λ names. has (Plain name) names) (slice_get given file) false
gives table given Nowhere name = false

-- at each name between the braces of an import that isn't given
abbrev pub unknown_from : Table → List (List Ref) → Origin → List ImportName → List Span
unknown_from table given origin specs = map (λ spec. spec.given.span) (filter (λ spec. not (gives table given origin spec.given.name)) specs)

abbrev pub unknown_layer : Table → List SourceFile → List (List Ref) → StmtLayer → List Span
unknown_layer table files given (StmtKind-F.Import i) = unknown_from table given (origin_of files i.from) i.names
unknown_layer table files given _ = []

abbrev pub unknown_of : Table → List SourceFile → List (List Ref) → Stmt → List Span
unknown_of table files given s = unknown_layer table files given (out-StmtKind s.kind)

abbrev pub unknown_in : Table → List SourceFile → List (List Ref) → SourceFile → List Span
unknown_in table files given source = flat_map (unknown_of table files given) (statements_of source.tree)

-- for each file the places of the names that it imports and that aren't given
abbrev pub unknown_imports : Bundle → List (List Span)
unknown_imports bundle = map (unknown_in bundle.names bundle.files (given_names bundle.files)) bundle.files
