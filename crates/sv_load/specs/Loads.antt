-- Loading, by cases: what reading a file, with its imports before the next, makes of the files that were read before.
use Rattle.std.specs.Prelude.{◌≡◌, ◌<◌, ◌≤◌, ℕ, Bool, true, false, List, [], ◌∷◌, ◌++◌, length, Some, None, Result, Ok, Err, ⊤}
use Rattle.std.specs.List.{list_any}
use Rattle.std.specs.Str.{bytes_eq}
use Rattle.sv_base.specs.Place.{line_of, column_of}
use Rattle.sv_base.specs.declared.limits.TheConstants.{FILE_LIMIT, FILE_COUNT_LIMIT}
use Rattle.sv_io.specs.Files.{Files, find_file}
use Rattle.sv_ast.specs.declared.files.Bundle.{Bundle}
use Rattle.sv_ast.specs.declared.files.FileTree.{FileTree}
use Rattle.sv_ast.specs.declared.files.SourceFile.{SourceFile}
use Rattle.sv_ast.specs.declared.refusals.Refused.{Refused as Cause}
use Rattle.sv_script.specs.Calls.{input_of}
use Rattle.sv_load.specs.Imports.{imports, is_module}
use Rattle.sv_lines.specs.Lines.{line_starts}
use Rattle.sv_load.specs.Trees.{IsTree, HasNoTree}
use Rattle.sv_load.specs.declared.refusals.LoadError.{LoadError}
use Rattle.sv_load.specs.declared.refusals.LoadError.TheVariants.{Missing, TooLong, TooMany, Refused, Failed, NoMemory}

-- a file that was read, and the names behind it
pub record Opened : Type 0 where
  pub file : SourceFile
  pub names : List (List ℕ)

-- the refusal of a file that has no tree
abbrev pub refusal : (name bytes : List ℕ) → Cause → LoadError
refusal name bytes cause = Refused name cause.kind (line_of bytes cause.at.from) (column_of bytes cause.at.from)

-- what the bytes of the file with this number and name come to, read with these names
pub data Holds (number : ℕ) (name bytes : List ℕ) (names : List (List ℕ)) : Result Opened LoadError → Type 0 where
  no_tree : (cause : Cause) → HasNoTree (is_module name) (input_of number bytes 0 names) cause
      → Holds number name bytes names (Err (refusal name bytes cause))
  tree : (tree : FileTree) (more : List (List ℕ)) → IsTree (is_module name) (input_of number bytes 0 names) tree more
      → Holds number name bytes names (Ok (record { file = record { name = name; lines = line_starts bytes; tree = tree }; names = more }))

-- the file of a name is there and not too long, or why not
pub data Finds (files : Files) (name : List ℕ) : Result (List ℕ) LoadError → Type 0 where
  missing : find_file files name ≡ None → Finds files name (Err (Missing name))
  too_long : (bytes : List ℕ) → find_file files name ≡ Some bytes → FILE_LIMIT < length bytes → Finds files name (Err (TooLong name))
  found : (bytes : List ℕ) → find_file files name ≡ Some bytes → length bytes ≤ FILE_LIMIT → Finds files name (Ok bytes)

-- what the file of a name comes to, where so many were read before: one too many is refused without a look at it
pub data Opens (files : Files) (number : ℕ) (name : List ℕ) (names : List (List ℕ)) : Result Opened LoadError → Type 0 where
  too_many : FILE_COUNT_LIMIT ≤ number → Opens files number name names (Err (TooMany name))
  not_found : (error : LoadError) → number < FILE_COUNT_LIMIT → Finds files name (Err error) → Opens files number name names (Err error)
  there : (bytes : List ℕ) (outcome : Result Opened LoadError) → number < FILE_COUNT_LIMIT → Finds files name (Ok bytes) → Holds number name bytes names outcome
      → Opens files number name names outcome

-- whether a file of this name was read
abbrev pub has_file : List ℕ → List SourceFile → Bool
has_file name files = list_any (λ file. bytes_eq file.name name) files

-- no file, and no name
abbrev pub nothing : Bundle
nothing = record { names = []; files = [] }

abbrev pub with_file : Bundle → Opened → Bundle
with_file bundle opened = record { names = opened.names; files = bundle.files ++ opened.file ∷ [] }

mutual
  -- what reading the file of a name, and then its imports, makes of the files so far; a file that was read stays
  pub data Reads (files : Files) : List ℕ → Bundle → Result Bundle LoadError → Type 0 where
    known : (name : List ℕ) (bundle : Bundle) → has_file name bundle.files ≡ true → Reads files name bundle (Ok bundle)
    stops : (name : List ℕ) (bundle : Bundle) (error : LoadError) → has_file name bundle.files ≡ false
        → Opens files (length bundle.files) name bundle.names (Err error) → Reads files name bundle (Err error)
    goes_on : (name : List ℕ) (bundle : Bundle) (opened : Opened) (outcome : Result Bundle LoadError) → has_file name bundle.files ≡ false
        → Opens files (length bundle.files) name bundle.names (Ok opened) → ReadsAll files (imports opened.file.tree) (with_file bundle opened) outcome
        → Reads files name bundle outcome

  -- the same of several names in turn, up to the first that is refused
  pub data ReadsAll (files : Files) : List (List ℕ) → Bundle → Result Bundle LoadError → Type 0 where
    done : (bundle : Bundle) → ReadsAll files [] bundle (Ok bundle)
    next : (name : List ℕ) (names : List (List ℕ)) (bundle middle : Bundle) (outcome : Result Bundle LoadError)
        → Reads files name bundle (Ok middle) → ReadsAll files names middle outcome → ReadsAll files (name ∷ names) bundle outcome
    ends : (name : List ℕ) (names : List (List ℕ)) (bundle : Bundle) (error : LoadError)
        → Reads files name bundle (Err error) → ReadsAll files (name ∷ names) bundle (Err error)

-- an answer is as it says, but for a failed read and for `NoMemory`
abbrev pub Tells : {A : Type 0} → (Result A LoadError → Type 0) → Result A LoadError → Type 0
Tells Is (Ok x) = Is (Ok x)
Tells Is (Err Failed) = ⊤
Tells Is (Err NoMemory) = ⊤
Tells Is (Err error) = Is (Err error)

-- what a program with this root loads to
abbrev pub Loads : Files → List ℕ → Result Bundle LoadError → Type 0
Loads files root outcome = Tells (Reads files root nothing) outcome
