-- What names stand for at the top of a file: its cells, its constants and imports, and what is given without a declaration.
use Rattle.std.specs.Prelude.{ℕ, suc, Bool, true, false, not, ◌&&◌, List, [], ◌∷◌, ◌++◌, Option, None, Some, map, option_map, filter, find, length, nat_lt, if◌then◌else◌}
use Rattle.std.specs.List.{flat_map}
use Rattle.std.specs.Option.{option_to_list}
use Rattle.sv_ast.specs.declared.names.Ref.{Ref}
use Rattle.sv_ast.specs.declared.names.Ref.TheVariants.{Plain, Store}
use Rattle.sv_ast.specs.declared.script_tree.Stmt.{Stmt}
use Rattle.sv_ast.specs.declared.script_tree.StmtKind.{StmtKind-F, out-StmtKind}
use Rattle.sv_base.specs.Names.{Table, number_of}
use Rattle.sv_base.specs.declared.built_in.TheConstants.{STRING, BOOLEAN, MATH, CONSOLE}
use Rattle.sv_base.specs.declared.names.Name.{Name}
use Rattle.sv_code.specs.declared.known.BuiltIn.{BuiltIn}
use Rattle.sv_code.specs.declared.known.BuiltIn.TheVariants as built_in
use Rattle.sv_code.specs.declared.known.Known.{Known}
use Rattle.sv_code.specs.declared.known.Known.TheVariants as known
use Rattle.sv_code.specs.declared.program.Prop.{Prop}
use Rattle.sv_code.specs.declared.program.StoreCell.{StoreCell}
use Rattle.sv_compile.specs.declared.constants.Given.{Given}
use Rattle.sv_compile.specs.Constants.{same_name}
use Rattle.sv_imports.specs.Given.{decl_names}
use Rattle.sv_imports.specs.Imports.{StmtLayer}
use Rattle.sv_lower.specs.Tops.{Tops, known_in, with_all}
use Rattle.sv_lower.specs.Words.{words}
use Rattle.sv_names.specs.Distinct.{has, firsts}
use Rattle.sv_names.specs.Locals.{name_of}
use Rattle.sv_deps.specs.Reading.{numbers}

-- cells, where the first has some number
abbrev pub cells_from : ℕ → List Ref → List (Ref × Known)
cells_from n [] = []
cells_from n (cell ∷ cells) = (cell, known.Cell n) ∷ cells_from (suc n) cells

abbrev pub given_name : Given → Ref × Known
given_name g = (Plain g.named.name, g.known)

-- a text that stands for something, where it is the name of anything
abbrev pub built : Table → List ℕ → BuiltIn → List (Ref × Known)
built table text what = let n = number_of text table in if nat_lt n (length table) then (Plain (record { 0 = n }), known.BuiltIn what) ∷ [] else []

abbrev pub all_built : Table → List (Ref × Known)
all_built table = built table STRING.now built_in.String ++ (built table BOOLEAN.now built_in.Boolean ++ (built table MATH.now built_in.Math ++ built table CONSOLE.now built_in.Console))

-- what names stand for at the top of a file with some cells, constants and imports
abbrev pub tops : Table → List Ref → List Given → Tops
tops table cells given = record { names = table; known = with_all [] (cells_from 0 cells ++ (map given_name given ++ all_built table)); words = words table }

-- ---- cells by what they are

abbrev pub cell_of : Option Known → Option ℕ
cell_of (Some (known.Cell n)) = Some n
cell_of _ = None

-- a prop, where its name stands for a cell
abbrev pub prop_of : Tops → Ref → Option Prop
prop_of top name = option_map (λ n. record { name = name_of name; cell = n }) (cell_of (known_in top.known name))

abbrev pub let_layer : StmtLayer → List Ref
let_layer (StmtKind-F.Let decls) = decl_names decls
let_layer (StmtKind-F.Export decls) = decl_names decls
let_layer _ = []

abbrev pub lets_of : Stmt → List Ref
lets_of s = let_layer (out-StmtKind s.kind)

-- the names that `let` and `export let` declare at the top
abbrev pub all_lets : List Stmt → List Ref
all_lets stmts = flat_map lets_of stmts

abbrev pub is_plain : Ref → Bool
is_plain (Plain name) = true
is_plain (Store name) = false

-- the cells that reactive statements alone declare
abbrev pub reactive_cells : List Ref → List Stmt → List ℕ
reactive_cells cells stmts = numbers cells (filter (λ cell. is_plain cell && not (has cell (firsts (all_lets stmts)))) cells)

-- ---- stores

-- what is to hold the store of a name, among what may hold one
abbrev pub holder : List Given → Name → Option Given
holder given name = find (λ g. same_name g.named.name name) given

abbrev pub store_at : List Given → ℕ → Ref → List StoreCell
store_at given n (Plain name) = []
store_at given n (Store name) = option_to_list (option_map (λ g. record { cell = n; holder = g.known; span = g.named.span }) (holder given name))

-- the store cells among some cells, where the first has some number
abbrev pub stores_from : List Given → ℕ → List Ref → List StoreCell
stores_from given n [] = []
stores_from given n (cell ∷ cells) = store_at given n cell ++ stores_from given (suc n) cells
