-- The listing of a compiled program: of each component its cells, its reactive statements in the order in which they run, and the
-- expressions of its markup, each with what it looks at.
use Rattle.std.specs.Prelude.{◌≡◌, ℕ, true, List, [], ◌++◌, All, map, codes, decimal}
use Rattle.std.specs.List.{flat_map, enumerate_from}
use Rattle.sv_ast.specs.declared.names.Ref.{Ref}
use Rattle.sv_base.specs.declared.span.Span.{Span}
use Rattle.sv_code.specs.declared.parts.Part.{Part}
use Rattle.sv_code.specs.declared.program.Component.{Component}
use Rattle.sv_code.specs.declared.program.FileCode.{FileCode}
use Rattle.sv_code.specs.declared.program.FileCode.TheVariants as code
use Rattle.sv_code.specs.declared.program.Program.{Program}
use Rattle.sv_code.specs.declared.program.ProgramFile.{ProgramFile}
use Rattle.sv_code.specs.declared.program.Run.{Run}
use Rattle.sv_lines.specs.Lines.{ascends, line_in, column_in}
use Rattle.sv_listing.specs.Names.{ref_text, cell_text, reading_texts, listed}
use Rattle.sv_listing.specs.Parts.{parts, insides}

-- the lines of each of these files ascend
abbrev pub LinesAscend : List ProgramFile → Type 0
LinesAscend files = All (λ file. ascends file.lines ≡ true) files

-- the line and the column at which something begins, where the lines of its file begin at these places
abbrev pub place_text : (lines : List ℕ) → Span → List ℕ
place_text lines span = decimal (line_in lines span.from) ++ (codes ":" ++ decimal (column_in lines span.from))

-- the line of a cell
abbrev pub cell_line : List (List ℕ) → (number : ℕ) → Ref → List ℕ
cell_line names number cell = codes "cell " ++ (decimal number ++ (codes " " ++ (ref_text names cell ++ codes "\n")))

-- the line of a reactive statement
abbrev pub run_line : List (List ℕ) → List Ref → List ℕ → Run → List ℕ
run_line names cells lines run =
    codes "run " ++ (decimal run.number ++ (codes " at " ++ (place_text lines run.span
    ++ (codes " reads " ++ (listed (map (cell_text names cells) run.reads)
    ++ (codes " sets " ++ (listed (map (cell_text names cells) run.sets) ++ codes "\n")))))))

-- the line of an expression of markup
abbrev pub part_line : List (List ℕ) → List Ref → List ℕ → Part → List ℕ
part_line names cells lines part =
    codes "part " ++ (place_text lines part.span ++ (codes " reads " ++ (listed (reading_texts names cells part.reads) ++ codes "\n")))

-- the lines of a component, where these parts stand inside of component tags: those of its cells, then of its reactive statements, then of the
-- expressions of its markup
abbrev pub component_lines : List (List ℕ) → List (List Part) → (lines : List ℕ) → Component → List ℕ
component_lines names inside lines c =
    flat_map (λ (cell : ℕ × Ref). cell_line names cell.0 cell.1) (enumerate_from 0 c.cells)
    ++ (flat_map (run_line names c.cells lines) c.runs ++ flat_map (part_line names c.cells lines) (parts inside c.markup))

-- what is printed for a component in the file of a name
abbrev pub component_text : List (List ℕ) → List (List Part) → (name lines : List ℕ) → Component → List ℕ
component_text names inside name lines c = codes "component " ++ (name ++ (codes "\n" ++ component_lines names inside lines c))

-- what is printed for the code of a file, which is nothing for a module
abbrev pub code_text : List (List ℕ) → List (List Part) → (name lines : List ℕ) → FileCode → List ℕ
code_text names inside name lines (code.Component c) = component_text names inside name lines c
code_text names inside name lines (code.Module m) = []

-- what is printed for a file
abbrev pub file_text : List (List ℕ) → List (List Part) → ProgramFile → List ℕ
file_text names inside file = code_text names inside file.name file.lines file.code

-- the listing of a program
abbrev pub listing : Program → List ℕ
listing program = flat_map (file_text program.names (insides program.tags)) program.files
