-- Compiled programs, by what holds of their own parts.
use Rattle.std.specs.Prelude.{◌≡◌, ℕ, ◌<◌, ◌≤◌, Bool, true, false, List, Some, All, length, map, slice_get}
use Rattle.std.specs.Option.{option_to_list}
use Rattle.sv_base.specs.declared.limits.TheConstants.{CELL_LIMIT}
use Rattle.sv_code.specs.declared.functions.CodeStmt.{CodeStmt}
use Rattle.sv_code.specs.declared.functions.CodeStmtKind.{CodeStmtKind-F, out-CodeStmtKind}
use Rattle.sv_code.specs.declared.program.Component.{Component}
use Rattle.sv_code.specs.declared.program.FileCode.{FileCode}
use Rattle.sv_code.specs.declared.program.FileCode.TheVariants as file_form
use Rattle.sv_code.specs.declared.program.Program.{Program}
use Rattle.sv_code.specs.declared.program.ProgramFile.{ProgramFile}
use Rattle.sv_code.specs.declared.program.Run.{Run}
use Rattle.sv_lines.specs.Lines.{ascends}
use Rattle.sv_code.specs.Numbers.{Number, Counts, Size, OfComponent, OfModule, size_at, is_component, IsThere, of_known, of_stmts, of_frags, of_function, of_tag, of_handler}
use Rattle.sv_code.specs.Within.{ArePartsWithin}
use Rattle.sv_code.specs.Content.{AreContentsSeen}

-- ---- what there is

-- how much a file has
abbrev pub size_of : FileCode → Size
size_of (file_form.Component c) = OfComponent (length c.cells) c.constants
size_of (file_form.Module m) = OfModule m.constants

abbrev pub sizes_of : List ProgramFile → List Size
sizes_of files = map (λ file. size_of file.code) files

-- what there is for a file of some size
abbrev pub counts : Program → Size → Counts
counts program home =
    record { functions = length program.functions; tags = length program.tags; handlers = length program.handlers; sizes = sizes_of program.files; home = home }

-- ---- files

-- whether the form of a statement is that of a reactive one
abbrev pub is_react : {A B C : Type 0} → CodeStmtKind-F A B C → Bool
is_react (CodeStmtKind-F.React of) = true
is_react _ = false

-- whether a statement is reactive
abbrev pub is_reactive : CodeStmt → Bool
is_reactive s = is_react (out-CodeStmtKind s.kind)

-- a reactive statement is one of a script, and names cells among so many
pub record IsRun (cells : ℕ) (script : List CodeStmt) (run : Run) : Type 0 where
  pub stmt : CodeStmt
  pub stands : slice_get script run.stmt ≡ Some stmt
  pub reactive : is_reactive stmt ≡ true
  pub reads : All (λ n. n < cells) run.reads
  pub sets : All (λ n. n < cells) run.sets

-- a component has no more cells than it may, and all that it names is there
pub record IsComponent (counts : Counts) (c : Component) : Type 0 where
  pub few : length c.cells ≤ CELL_LIMIT
  pub props : All (λ prop. prop.cell < length c.cells) c.props
  pub reactive : All (λ n. n < length c.cells) c.reactive
  pub store_cells : All (λ store. store.cell < length c.cells) c.stores
  pub holders : All (λ store. All (IsThere counts) (of_known store.holder)) c.stores
  pub view : All (λ n. n < length c.cells) (option_to_list c.view)
  pub runs : All (IsRun (length c.cells) c.script) c.runs
  pub script : All (IsThere counts) (of_stmts c.script)
  pub markup : All (IsThere counts) (of_frags c.markup)

abbrev pub IsCode : Counts → FileCode → Type 0
IsCode counts (file_form.Component c) = IsComponent counts c
IsCode counts (file_form.Module m) = All (IsThere counts) (of_stmts m.script)

-- the lines of a file begin in order, and all that its code names is there
pub record IsFile (program : Program) (file : ProgramFile) : Type 0 where
  pub lines : ascends file.lines ≡ true
  pub code : IsCode (counts program (size_of file.code)) file.code

-- ---- programs

-- numbers stand in one of the files, and name what is there
pub record AreInFile (program : Program) (numbers : List Number) : Type 0 where
  pub file : ℕ
  pub there : All (IsThere (counts program (size_at (sizes_of program.files) file))) numbers

-- a number is that of a module
pub record IsModule (files : List ProgramFile) (n : ℕ) : Type 0 where
  pub file : ProgramFile
  pub stands : slice_get files n ≡ Some file
  pub is_module : is_component (size_of file.code) ≡ false

-- a compiled program: its files, functions, tags and handlers name what is there, its parts read nothing but what they look at, and the
-- content of a component's tag looks at nothing but what the tag does
pub record IsCompiled (program : Program) : Type 0 where
  pub files : All (IsFile program) program.files
  pub functions : All (λ f. AreInFile program (of_function f)) program.functions
  pub tags : All (λ t. AreInFile program (of_tag t)) program.tags
  pub handlers : All (λ h. AreInFile program (of_handler h)) program.handlers
  pub modules : All (IsModule program.files) program.modules
  pub within : ArePartsWithin program
  pub contents : AreContentsSeen program
