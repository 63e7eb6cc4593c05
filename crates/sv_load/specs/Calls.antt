-- What the calls below `load` answer.
use Rattle.std.specs.Prelude.{ℕ, Bool, List, Vec, Result, Ok, Err, ⊤}
use Rattle.std.specs.declared.alloc.Global.{Global}
use Rattle.sv_ast.specs.declared.files.Bundle.{Bundle}
use Rattle.sv_ast.specs.declared.files.FileTree.{FileTree}
use Rattle.sv_ast.specs.declared.files.SourceFile.{SourceFile}
use Rattle.sv_ast.specs.declared.refusals.ParseError.{ParseError}
use Rattle.sv_ast.specs.declared.refusals.ParseError.TheVariants as errors
use Rattle.sv_lex.specs.Reader.{Input}
use Rattle.sv_load.specs.Loads.{Opened}
use Rattle.sv_load.specs.Trees.{IsTree, HasNoTree}
use Rattle.sv_load.specs.declared.refusals.LoadError.{LoadError}

-- the bytes of a file, or why there are none
abbrev pub bytes_of : Result (Vec ℕ Global) LoadError → Result (List ℕ) LoadError
bytes_of (Ok bytes) = Ok bytes.items
bytes_of (Err error) = Err error

-- a tree, or the cause why there is none
abbrev pub Parses : Bool → Input → Result FileTree ParseError → List (List ℕ) → Type 0
Parses is_module i (Ok tree) names = IsTree is_module i tree names
Parses is_module i (Err errors.NoMemory) names = ⊤
Parses is_module i (Err (errors.Refused cause)) names = HasNoTree is_module i cause

-- a file with the names behind it, or why there is none
abbrev pub opened_of : Result SourceFile LoadError → List (List ℕ) → Result Opened LoadError
opened_of (Ok file) names = Ok (record { file = file; names = names })
opened_of (Err error) names = Err error

-- what was made of the files so far, or why nothing was
abbrev pub outcome_of : Result (Unit {0}) LoadError → Bundle → Result Bundle LoadError
outcome_of (Ok _) bundle = Ok bundle
outcome_of (Err error) bundle = Err error
