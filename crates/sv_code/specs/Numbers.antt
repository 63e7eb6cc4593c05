-- The numbers by which code and fragments name functions, tags, handlers, files, cells and constants.
use Rattle.std.specs.Prelude.{ℕ, ◌<◌, Bool, true, false, List, [], ◌∷◌, ◌++◌, Option, None, Some, map, option_map, length, slice_get}
use Rattle.std.specs.Option.{option_to_list, option_map_or}
use Rattle.sv_code.specs.declared.code.Code.{Code, Code-F, fold-Code}
use Rattle.sv_code.specs.declared.code.CodeField.{CodeField, CodeField-F, fold-CodeField}
use Rattle.sv_code.specs.declared.code.CodeItem.{CodeItem, CodeItem-F, fold-CodeItem}
use Rattle.sv_code.specs.declared.code.CodeKind.{CodeKind, CodeKind-F, fold-CodeKind}
use Rattle.sv_code.specs.declared.code.CodeLink.{CodeLink, CodeLink-F, fold-CodeLink}
use Rattle.sv_code.specs.declared.fragments.Frag.{Frag, Frag-F, fold-Frag}
use Rattle.sv_code.specs.declared.fragments.FragArm.{FragArm, FragArm-F, fold-FragArm}
use Rattle.sv_code.specs.declared.fragments.FragAttr.{FragAttr}
use Rattle.sv_code.specs.declared.fragments.FragAttr.TheVariants as attr_form
use Rattle.sv_code.specs.declared.fragments.FragValue.{FragValue}
use Rattle.sv_code.specs.declared.fragments.FragValue.TheVariants as value_form
use Rattle.sv_code.specs.declared.fragments.FragValuePart.{FragValuePart}
use Rattle.sv_code.specs.declared.fragments.FragValuePart.TheVariants as part_form
use Rattle.sv_code.specs.declared.functions.CodeArm.{CodeArm, CodeArm-F, fold-CodeArm}
use Rattle.sv_code.specs.declared.functions.CodeDecl.{CodeDecl}
use Rattle.sv_code.specs.declared.functions.CodeStmt.{CodeStmt, CodeStmt-F, fold-CodeStmt}
use Rattle.sv_code.specs.declared.functions.CodeStmtKind.{CodeStmtKind, CodeStmtKind-F, fold-CodeStmtKind}
use Rattle.sv_code.specs.declared.functions.Function.{Function}
use Rattle.sv_code.specs.declared.functions.FunctionBody.{FunctionBody}
use Rattle.sv_code.specs.declared.functions.FunctionBody.TheVariants as body_form
use Rattle.sv_code.specs.declared.functions.TheConstants.{WRITABLE}
use Rattle.sv_code.specs.declared.known.Known.{Known}
use Rattle.sv_code.specs.declared.known.Known.TheVariants as known_form
use Rattle.sv_code.specs.declared.parts.Part.{Part}
use Rattle.sv_code.specs.declared.parts.Reading.{Reading}
use Rattle.sv_code.specs.declared.tags.Handler.{Handler}
use Rattle.sv_code.specs.declared.tags.Tag.{Tag}

-- how much a file has: how many cells, of which a module has none, and how many constants
pub data Size : Type 0 where
  OfComponent : (cells constants : ℕ) → Size
  OfModule : (constants : ℕ) → Size

abbrev pub cells_in : Size → ℕ
cells_in (OfComponent cells constants) = cells
cells_in (OfModule constants) = 0

abbrev pub constants_in : Size → ℕ
constants_in (OfComponent cells constants) = constants
constants_in (OfModule constants) = constants

-- a module alone gives constants to other files
abbrev pub given_in : Size → ℕ
given_in (OfComponent cells constants) = 0
given_in (OfModule constants) = constants

abbrev pub is_component : Size → Bool
is_component (OfComponent cells constants) = true
is_component (OfModule constants) = false

-- the size of the file with a number: nothing where there is none
abbrev pub size_at : List Size → ℕ → Size
size_at sizes file = option_map_or (λ size. size) (slice_get sizes file) (OfModule 0)

-- a number in a file that names a function, a component's tag, a handler or a file of the program, a cell or a constant of the
-- file itself, or what a module's file gives
pub data Number : Type 0 where
  OfFunction : ℕ → Number
  OfTag : ℕ → Number
  OfHandler : ℕ → Number
  OfFile : ℕ → Number
  OfCell : ℕ → Number
  OfConstant : ℕ → Number
  OfExport : (file constant : ℕ) → Number

-- how many of each there are for a file of some size, in a program of files of some sizes
pub record Counts : Type 0 where
  pub functions : ℕ
  pub tags : ℕ
  pub handlers : ℕ
  pub sizes : List Size
  pub home : Size

-- so many functions alone
abbrev pub functions_alone : List Size → Size → ℕ → Counts
functions_alone sizes home n = record { functions = n; tags = 0; handlers = 0; sizes = sizes; home = home }

-- what a number names is there
abbrev pub IsThere : Counts → Number → Type 0
IsThere counts (OfFunction n) = n < counts.functions
IsThere counts (OfTag n) = n < counts.tags
IsThere counts (OfHandler n) = n < counts.handlers
IsThere counts (OfFile n) = n < length counts.sizes
IsThere counts (OfCell n) = n < cells_in counts.home
IsThere counts (OfConstant n) = n < constants_in counts.home
IsThere counts (OfExport file n) = n < given_in (size_at counts.sizes file)

-- those of some parts in turn
abbrev pub joined : List (List Number) → List Number
joined [] = []
joined (numbers ∷ more) = numbers ++ joined more

-- those of a part that may be absent
abbrev pub given : Option (List Number) → List Number
given None = []
given (Some numbers) = numbers

-- ---- code

-- those of what a name stands for
abbrev pub of_known : Known → List Number
of_known (known_form.Local name) = []
of_known (known_form.Cell n) = OfCell n ∷ []
of_known (known_form.Constant n) = OfConstant n ∷ []
of_known (known_form.Export file n) = OfExport file n ∷ []
of_known (known_form.Life life) = []
of_known known_form.Writable = OfFunction WRITABLE ∷ []
of_known known_form.Derived = []
of_known (known_form.BuiltIn given) = []

abbrev pub kind : CodeKind-F (List Number) (List Number) (List Number) (List Number) (List Number) → List Number
kind CodeKind-F.Undefined = []
kind CodeKind-F.Null = []
kind (CodeKind-F.Bool value) = []
kind (CodeKind-F.Num value) = []
kind (CodeKind-F.Text value) = []
kind (CodeKind-F.Read known) = of_known known
kind (CodeKind-F.List items) = joined items
kind (CodeKind-F.Object fields) = joined fields
kind (CodeKind-F.Template parts) = joined parts
kind (CodeKind-F.Arrow number) = OfFunction number ∷ []
kind (CodeKind-F.Assign target at op value) = of_known target ++ value
kind (CodeKind-F.Bump target at up prefix) = of_known target
kind (CodeKind-F.Chain first rest) = first ++ joined rest
kind (CodeKind-F.Not of) = of
kind (CodeKind-F.Minus of) = of
kind (CodeKind-F.Choose test first second) = test ++ (first ++ second)
kind (CodeKind-F.Member of property) = of
kind (CodeKind-F.Index of index) = of ++ index
kind (CodeKind-F.Call of args) = of ++ joined args
kind (CodeKind-F.Dispatcher number at args) = joined args ++ OfFunction number ∷ []

abbrev pub code : Code-F (List Number) (List Number) (List Number) (List Number) (List Number) → List Number
code c = c.kind

abbrev pub link : CodeLink-F (List Number) (List Number) (List Number) (List Number) (List Number) → List Number
link l = l.right

abbrev pub item : CodeItem-F (List Number) (List Number) (List Number) (List Number) (List Number) → List Number
item (CodeItem-F.One value) = value
item (CodeItem-F.«CodeItem::Spread» value) = value

abbrev pub field : CodeField-F (List Number) (List Number) (List Number) (List Number) (List Number) → List Number
field (CodeField-F.Pair key value) = value
field (CodeField-F.«CodeField::Spread» value) = value

-- those of an expression
abbrev pub of_code : Code → List Number
of_code = fold-Code (List Number) (List Number) (List Number) (List Number) (List Number) field item kind code link

abbrev pub of_kind : CodeKind → List Number
of_kind = fold-CodeKind (List Number) (List Number) (List Number) (List Number) (List Number) field item kind code link

abbrev pub of_item : CodeItem → List Number
of_item = fold-CodeItem (List Number) (List Number) (List Number) (List Number) (List Number) field item kind code link

abbrev pub of_field : CodeField → List Number
of_field = fold-CodeField (List Number) (List Number) (List Number) (List Number) (List Number) field item kind code link

abbrev pub of_link : CodeLink → List Number
of_link = fold-CodeLink (List Number) (List Number) (List Number) (List Number) (List Number) field item kind code link

-- ---- statements

abbrev pub of_decl : CodeDecl → List Number
of_decl d = of_known d.target ++ (map OfCell (option_to_list d.store) ++ given (option_map of_code d.first))

abbrev pub of_decls : List CodeDecl → List Number
of_decls decls = joined (map of_decl decls)

abbrev pub stmt_kind : CodeStmtKind-F (List Number) (List Number) (List Number) → List Number
stmt_kind CodeStmtKind-F.Empty = []
stmt_kind (CodeStmtKind-F.Block declares stmts) = joined stmts
stmt_kind (CodeStmtKind-F.Let decls) = of_decls decls
stmt_kind (CodeStmtKind-F.Const decls exported) = of_decls decls
stmt_kind (CodeStmtKind-F.If arms last) = joined arms ++ given last
stmt_kind (CodeStmtKind-F.While test turn) = of_code test ++ turn
stmt_kind (CodeStmtKind-F.For declares first test next turn) = given first ++ (given (option_map of_code test) ++ (given (option_map of_code next) ++ turn))
stmt_kind (CodeStmtKind-F.Each name fixed list turn) = of_code list ++ turn
stmt_kind CodeStmtKind-F.Break = []
stmt_kind CodeStmtKind-F.Continue = []
stmt_kind (CodeStmtKind-F.Return value) = given (option_map of_code value)
stmt_kind (CodeStmtKind-F.Eval value) = of_code value
stmt_kind (CodeStmtKind-F.Import i) = []
stmt_kind (CodeStmtKind-F.Export decls) = of_decls decls
stmt_kind (CodeStmtKind-F.React of) = of
stmt_kind (CodeStmtKind-F.Function name exported target number) = of_known target ++ OfFunction number ∷ []

abbrev pub arm : CodeArm-F (List Number) (List Number) (List Number) → List Number
arm a = of_code a.test ++ a.body

abbrev pub stmt : CodeStmt-F (List Number) (List Number) (List Number) → List Number
stmt s = s.kind

-- those of a statement
abbrev pub of_stmt : CodeStmt → List Number
of_stmt = fold-CodeStmt (List Number) (List Number) (List Number) stmt_kind arm stmt

abbrev pub of_stmt_kind : CodeStmtKind → List Number
of_stmt_kind = fold-CodeStmtKind (List Number) (List Number) (List Number) stmt_kind arm stmt

abbrev pub of_arm : CodeArm → List Number
of_arm = fold-CodeArm (List Number) (List Number) (List Number) stmt_kind arm stmt

abbrev pub of_stmts : List CodeStmt → List Number
of_stmts stmts = joined (map of_stmt stmts)

abbrev pub of_body : FunctionBody → List Number
of_body (body_form.Value value) = of_code value
of_body (body_form.Block stmts) = of_stmts stmts
of_body body_form.Dispatch = []
of_body body_form.Writable = []

-- those of a function
abbrev pub of_function : Function → List Number
of_function f = of_body f.body

-- ---- fragments

abbrev pub of_reading : Reading → List Number
of_reading reads = map OfCell reads.cells

abbrev pub of_part : Part → List Number
of_part p = of_code p.code ++ of_reading p.reads

abbrev pub of_value_part : FragValuePart → List Number
of_value_part (part_form.Text text) = []
of_value_part (part_form.Show shown) = of_part shown

abbrev pub of_value : FragValue → List Number
of_value value_form.Bare = []
of_value (value_form.Parts parts) = joined (map of_value_part parts)

abbrev pub of_attr : FragAttr → List Number
of_attr (attr_form.Plain span name value) = of_value value
of_attr (attr_form.On handler reads) = OfHandler handler ∷ of_reading reads
of_attr (attr_form.Bind span name target) = of_part target
of_attr (attr_form.Class span name test) = of_part test

abbrev pub of_attrs : List FragAttr → List Number
of_attrs attrs = joined (map of_attr attrs)

abbrev pub frag : Frag-F (List Number) (List Number) → List Number
frag (Frag-F.Text text) = []
frag (Frag-F.Show shown) = of_part shown
frag (Frag-F.Element span name attrs children) = of_attrs attrs ++ joined children
frag (Frag-F.Tag tag reads) = OfTag tag ∷ of_reading reads
frag (Frag-F.Named slot lets node) = node
frag (Frag-F.Slot span name attrs own reads) = of_attrs attrs ++ (joined own ++ of_reading reads)
frag (Frag-F.If arms last) = joined arms ++ given (option_map joined last)
frag (Frag-F.Each list item index key body none) = (of_part list ++ (given (option_map of_part key) ++ joined body)) ++ given (option_map joined none)
frag (Frag-F.Key shown body) = of_part shown ++ joined body

abbrev pub branch : FragArm-F (List Number) (List Number) → List Number
branch a = of_part a.test ++ joined a.body

-- those of a node of markup
abbrev pub of_frag : Frag → List Number
of_frag = fold-Frag (List Number) (List Number) frag branch

-- those of a branch of an if block
abbrev pub of_branch : FragArm → List Number
of_branch = fold-FragArm (List Number) (List Number) frag branch

abbrev pub of_frags : List Frag → List Number
of_frags frags = joined (map of_frag frags)

-- those of a component's tag
abbrev pub of_tag : Tag → List Number
of_tag t = OfFile t.file ∷ (of_attrs t.attrs ++ (of_frags t.content ++ of_reading t.reads))

-- those of a handler
abbrev pub of_handler : Handler → List Number
of_handler h = given (option_map of_part h.listener)
