-- The mistakes of the files of a program. Each kind is the list of its places in a file.
use Rattle.std.specs.Prelude.{◌≡◌, ℕ, List, [], ◌++◌, Some, slice_get, slice_index_or, not}
use Rattle.sv_ast.specs.declared.files.Bundle.{Bundle}
use Rattle.sv_ast.specs.declared.files.FileTree.{FileTree}
use Rattle.sv_ast.specs.declared.files.FileTree.TheVariants as tree
use Rattle.sv_ast.specs.declared.files.SourceFile.{SourceFile}
use Rattle.sv_ast.specs.declared.names.Ref.{Ref}
use Rattle.sv_base.specs.Names.{Table}
use Rattle.sv_base.specs.declared.span.Span.{Span}
use Rattle.sv_impure.specs.Built.{free_conversions}
use Rattle.sv_impure.specs.Impure.{impure_markup}
use Rattle.sv_ast.specs.Files.{statements_of, is_module}
use Rattle.sv_imports.specs.Unknown.{unknown_imports}
use Rattle.sv_names.specs.Distinct.{firsts}
use Rattle.sv_purity.specs.declared.scope.Known.{Known}
use Rattle.sv_resolve.specs.declared.refusals.CheckKind.TheVariants.{ImportCycle, UnknownImport, BadStore, BadLifecyclePlace, BadDerived, ImpureMarkup, UnknownProp, UnknownSlot, BadBind, TooManyNames, ReactiveCycle}
use Rattle.sv_resolve.specs.declared.refusals.CheckRefusal.{CheckRefusal}
use Rattle.sv_resolve.specs.Cells.{variables}
use Rattle.sv_resolve.specs.Mistakes as resolve
use Rattle.sv_scopes.specs.Parts.{names_of}
use Rattle.sv_slots.specs.declared.sheets.Sheet.{Sheet}
use Rattle.sv_slots.specs.Binds.{bad_binds}
use Rattle.sv_slots.specs.Props.{unknown_props}
use Rattle.sv_slots.specs.Sheets.{sheet, sheets}
use Rattle.sv_slots.specs.Slots.{unknown_slots}
use Rattle.sv_check.specs.Cells.{too_many}
use Rattle.sv_check.specs.Derived.{bad_derived}
use Rattle.sv_check.specs.Files.{scopes_of, cells_of}
use Rattle.sv_check.specs.Life.{bad_life_places}
use Rattle.sv_check.specs.Stores.{bad_stores}
use Rattle.sv_check.specs.Waiting.{AreWaiting}

-- the places of a file among those of all files
abbrev pub at_file : List (List Span) → ℕ → List Span
at_file places n = slice_index_or places n []

-- the names of pure functions of a file among those of all files
abbrev pub pure_at : List (List Ref) → ℕ → List Ref
pure_at pure n = slice_index_or pure n []

-- what is known in a file with some pure functions, whose top level declares some names: these functions, and `String` and `Boolean`
-- where it doesn't declare them
abbrev pub known_in : Table → List Ref → List Ref → Known
known_in table pure declared = record { functions = firsts pure; conversions = firsts (free_conversions table (firsts declared)) }

-- what is known at the top of a file's markup
abbrev pub known_at_top : Table → List Ref → FileTree → Known
known_at_top table pure t = known_in table pure (names_of (scopes_of t).top.declares)

abbrev pub impure_in : Table → Known → FileTree → List Span
impure_in table known (tree.Component c) = impure_markup table known c
impure_in table known (tree.Module m) = []

-- the variables of a file
abbrev pub variables_of : FileTree → List Ref
variables_of t = firsts (variables (scopes_of t).top.declares)

-- the mistakes that a file's script shows by itself, beside those of its names
abbrev pub script_mistakes : Table → List Ref → FileTree → List CheckRefusal
script_mistakes table pure t =
    resolve.refused BadStore (bad_stores table (not (is_module t)) (scopes_of t).top)
    ++ resolve.refused BadLifecyclePlace (bad_life_places table (not (is_module t)) (statements_of t) (scopes_of t).top)
    ++ resolve.refused BadDerived (bad_derived table pure (statements_of t) (scopes_of t).top)

-- the mistakes of the tags of a file with some variables
abbrev pub tag_mistakes : List Ref → List Sheet → Sheet → List CheckRefusal
tag_mistakes variables all own =
    resolve.refused UnknownProp (unknown_props all own)
    ++ resolve.refused UnknownSlot (unknown_slots all own)
    ++ resolve.refused BadBind (bad_binds variables all own)

-- the mistakes of a file by kind, where some imports are part of a cycle, some names are those of pure functions, and its reactive
-- statements wait at some place: of two that begin at one place the one that stands first here is told
abbrev pub file_mistakes : Bundle → List (List Span) → List (List Ref) → ℕ → SourceFile → List Span → List CheckRefusal
file_mistakes bundle cycles pure n source waiting =
    let table = bundle.names in
    let t = source.tree in
    resolve.refused ImportCycle (at_file cycles n)
    ++ resolve.refused UnknownImport (at_file (unknown_imports bundle) n)
    ++ resolve.mistakes table (scopes_of t)
    ++ script_mistakes table (pure_at pure n) t
    ++ resolve.refused ImpureMarkup (impure_in table (known_at_top table (pure_at pure n) t) t)
    ++ tag_mistakes (variables_of t) (sheets bundle) (sheet table bundle.files source)
    ++ resolve.refused TooManyNames (too_many table (scopes_of t).top)
    ++ resolve.refused ReactiveCycle waiting

-- the mistakes of the file with a number
pub record AreMistakes (bundle : Bundle) (cycles : List (List Span)) (pure : List (List Ref)) (n : ℕ) (list : List CheckRefusal) : Type 0 where
  pub source : SourceFile
  pub there : slice_get bundle.files n ≡ Some source
  pub waiting : List Span
  pub are_waiting : AreWaiting (cells_of source.tree) (statements_of source.tree) waiting
  pub is : list ≡ file_mistakes bundle cycles pure n source waiting
