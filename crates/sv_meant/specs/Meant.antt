-- What a compiled program has of its source: its functions are those of its files in turn, of the script of each and then of the expressions of its
-- markup, in the order of the text. Its parts are made of these expressions, one by one, and scripts and parts mean what their trees mean.
use Rattle.std.specs.Prelude.{◌≡◌, ℕ, List, [], ◌∷◌, ◌++◌, length, map}
use Rattle.std.specs.List.{flat_map}
use Rattle.sv_ast.specs.Files.{statements_of}
use Rattle.sv_ast.specs.declared.files.Bundle.{Bundle}
use Rattle.sv_ast.specs.declared.files.SourceFile.{SourceFile}
use Rattle.sv_ast.specs.declared.names.Ref.{Ref}
use Rattle.sv_ast.specs.declared.script_tree.Expr.{Expr}
use Rattle.sv_ast.specs.declared.script_tree.Stmt.{Stmt}
use Rattle.sv_check.specs.declared.checked.CheckedComponent.{CheckedComponent}
use Rattle.sv_code.specs.Names.{Each}
use Rattle.sv_code.specs.Parts.{of_file, of_tag, of_handler}
use Rattle.sv_code.specs.declared.functions.CodeStmt.{CodeStmt}
use Rattle.sv_code.specs.declared.functions.Function.{Function}
use Rattle.sv_code.specs.declared.parts.Arrows.{Arrows}
use Rattle.sv_code.specs.declared.parts.Part.{Part as AnyPart}
use Rattle.sv_code.specs.declared.program.FileCode.{FileCode}
use Rattle.sv_code.specs.declared.program.FileCode.TheVariants as file_code
use Rattle.sv_code.specs.declared.program.Program.{Program}
use Rattle.sv_code.specs.declared.program.ProgramFile.{ProgramFile}
use Rattle.sv_code.specs.declared.tags.Handler.{Handler}
use Rattle.sv_code.specs.declared.tags.Tag.{Tag}
use Rattle.sv_compile.specs.Compile.{program}
use Rattle.sv_lower.specs.Tops.{Tops}
use Rattle.sv_meaning.specs.Env.{shown}
use Rattle.sv_meaning.specs.Parts.{part_value}
use Rattle.sv_source.specs.Laws.{part_code, part_told, script_code, SameScript}
use Rattle.sv_source.specs.Programs.{Piece, Script, Part, IsProper, code_behind, codes, functions, Opens}
use Rattle.sv_source.specs.Tops.{part_means}
use Rattle.sv_view.specs.Level.{View}
use Rattle.sv_meant.specs.Pieces.{tops_of, written, file_pieces, pieces}
use Rattle.sv_meant.specs.Spots as spots
use Rattle.sv_meant.specs.Spots.{Spread}

-- the code of the script of a file
abbrev pub script_of : FileCode → List CodeStmt
script_of (file_code.Component c) = c.script
script_of (file_code.Module m) = m.script

-- the arrows that are written in an expression: the functions that it adds to some
abbrev pub arrows_behind : Tops → List Ref → Expr → List Function → Arrows
arrows_behind top locals e before = record { from = length before; to = length (code_behind (Part top locals e) before) }

-- ---- a program of some pieces

module _ (p : Program) (whole : List Piece) where
  -- the code of a script behind some of them is what is made of it there; and it means what it says, for each owner
  pub record ScriptStands (before : List Piece) (top : Tops) (stmts : List Stmt) (code : List CodeStmt) : Type 0 where
    pub code_is : code ≡ script_code before top stmts
    pub means : (owner : ℕ) → SameScript before p whole top stmts owner

  -- a part of markup is made of an expression behind some of them, in which its arrows are written; and it has the value of that, on each view that has
  -- the locals of the scopes around
  pub record PartIs (before : List Piece) (top : Tops) (locals : List Ref) (expression : Expr) (part : AnyPart) : Type 0 where
    pub span : part.span ≡ expression.span
    pub code_is : part.code ≡ part_code before top locals expression
    pub arrows : part.arrows ≡ arrows_behind top locals expression (codes before)
    pub means : (v : View) → Opens (shown v.own.locals) locals → part_value p v part ≡ part_means (functions whole) p v part.arrows (part_told before top locals expression)

  -- a part of a file with some pieces, behind others, is made of one of its expressions
  pub record PartStands (before : List Piece) (top : Tops) (own : List Piece) (part : AnyPart) : Type 0 where
    pub front : List Piece
    pub back : List Piece
    pub locals : List Ref
    pub expression : Expr
    pub place : own ≡ front ++ Part top locals expression ∷ back
    pub is : PartIs (before ++ front) top locals expression part

-- what holds of each expression of some pieces, behind others, and of the part in its turn
abbrev pub OneByOne : (List Piece → Tops → List Ref → Expr → AnyPart → Type 0) → List Piece → List Piece → List AnyPart → Type 0
OneByOne Holds before [] [] = Unit {0}
OneByOne Holds before (Part top locals e ∷ pieces) (part ∷ parts) = Holds before top locals e part × OneByOne Holds (before ++ Part top locals e ∷ []) pieces parts
OneByOne Holds before _ _ = ⊥

-- a file of a program, with the tags and handlers in it
pub record FileParts : Type 0 where
  pub code : ProgramFile
  pub tags : List Tag
  pub handlers : List Handler

-- its script; the parts of its markup, of its tags and of its handlers; and these in the order of the text, one for each expression
pub record FileStands (p : Program) (whole before : List Piece) (top : Tops) (stmts : List Stmt) (written : List Piece) (f : FileParts) : Type 0 where
  pub script : ScriptStands p whole before top stmts (script_of f.code.code)
  pub parts : Each (PartStands p whole before top (Script top stmts ∷ written)) (of_file f.code.code)
  pub tags : Each (λ tag. Each (PartStands p whole before top (Script top stmts ∷ written)) (of_tag tag)) f.tags
  pub handlers : Each (λ h. Each (PartStands p whole before top (Script top stmts ∷ written)) (of_handler h)) f.handlers
  pub in_order : List AnyPart
  pub spread : Spread p.tags p.handlers (spots.of_file f.code.code) in_order
  pub one_by_one : OneByOne (PartIs p whole) (before ++ Script top stmts ∷ []) written in_order

-- some files in turn, with what is told of each
abbrev pub AllStand : Bundle → Program → (whole before : List Piece) → List SourceFile → List CheckedComponent → List FileParts → Type 0
AllStand bundle p whole before (source ∷ sources) (told ∷ all) (f ∷ files) =
    FileStands p whole before (tops_of bundle source.tree told) (statements_of source.tree) (written bundle source.tree told) f × AllStand bundle p whole (before ++ file_pieces bundle source.tree told) sources all files
AllStand bundle p whole before (source ∷ sources) (told ∷ all) [] = ⊥
AllStand bundle p whole before _ _ files = files ≡ []

-- a program that is made of some files: its functions are those of their pieces; and its files, tags and handlers are those of each in turn
pub record MeansItsSource (bundle : Bundle) (all : List CheckedComponent) (p : Program) : Type 0 where
  pub proper : Each IsProper (pieces bundle bundle.files all)
  pub functions : p.functions ≡ codes (pieces bundle bundle.files all)
  pub files : List FileParts
  pub codes_are : p.files ≡ map (λ f. f.code) files
  pub tags_are : p.tags ≡ flat_map (λ f. f.tags) files
  pub handlers_are : p.handlers ≡ flat_map (λ f. f.handlers) files
  pub stand : AllStand bundle p (pieces bundle bundle.files all) [] bundle.files all files

-- each program that is compiled does
abbrev pub CompiledMeansSource : Type 0
CompiledMeansSource = (bundle : Bundle) (all : List CheckedComponent) (modules : List ℕ) → MeansItsSource bundle all (program bundle all modules)
