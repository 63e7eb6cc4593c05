-- The expressions of markup, in the order of the text, each with the local names that are open round it: those of rows, and `let:` names. From them,
-- and from the scripts, follow the pieces of a program.
use Rattle.std.specs.Prelude.{ℕ, List, [], ◌∷◌, ◌++◌, map, Option, None, Some, if◌then◌else◌}
use Rattle.sv_ast.specs.Files.{statements_of}
use Rattle.sv_ast.specs.declared.files.Bundle.{Bundle}
use Rattle.sv_ast.specs.declared.files.FileTree.{FileTree}
use Rattle.sv_ast.specs.declared.files.FileTree.TheVariants as tree
use Rattle.sv_ast.specs.declared.files.SourceFile.{SourceFile}
use Rattle.sv_ast.specs.declared.markup_tree.AttrKind.{AttrKind}
use Rattle.sv_ast.specs.declared.markup_tree.AttrKind.TheVariants as kind
use Rattle.sv_ast.specs.declared.markup_tree.AttrPart.{AttrPart}
use Rattle.sv_ast.specs.declared.markup_tree.AttrPart.TheVariants as attr_part
use Rattle.sv_ast.specs.declared.markup_tree.AttrValue.{AttrValue}
use Rattle.sv_ast.specs.declared.markup_tree.AttrValue.TheVariants as attr_value
use Rattle.sv_ast.specs.declared.markup_tree.Branch.{Branch, Branch-F, fold-Branch}
use Rattle.sv_ast.specs.declared.markup_tree.Markup.{Markup, Markup-F, fold-Markup}
use Rattle.sv_ast.specs.declared.markup_tree.TagAttr.{TagAttr}
use Rattle.sv_ast.specs.declared.names.Named.{Named}
use Rattle.sv_ast.specs.declared.names.Ref.{Ref}
use Rattle.sv_ast.specs.declared.script_tree.Expr.{Expr}
use Rattle.sv_check.specs.declared.checked.CheckedComponent.{CheckedComponent}
use Rattle.sv_compile.specs.Constants.{givens}
use Rattle.sv_compile.specs.TopLevel.{tops}
use Rattle.sv_fragments.specs.Attributes.{expr_of, name_at}
use Rattle.sv_lower.specs.Tops.{Tops}
use Rattle.sv_names.specs.Distinct.{firsts}
use Rattle.sv_scopes.specs.Attributes.{is_slotted, lets, past}
use Rattle.sv_scopes.specs.Parts.{names_of}
use Rattle.sv_scopes.specs.Rows.{row_names}
use Rattle.sv_source.specs.Programs.{Piece, Script, Part}

-- what stands in a part of markup, by what names stand for at the top of the file, inside scopes of some locals
abbrev pub Lists : Type 0
Lists = Tops → List Ref → List Piece

abbrev pub nothing : Lists
nothing top locals = []

-- one expression
abbrev pub alone : Expr → Lists
alone e top locals = Part top locals e ∷ []

-- one part behind the other
abbrev pub followed : Lists → Lists → Lists
followed first second top locals = first top locals ++ second top locals

abbrev pub in_turn : List Lists → Lists
in_turn [] = nothing
in_turn (part ∷ parts) = followed part (in_turn parts)

-- what may be absent
abbrev pub given : {A : Type 0} → (A → Lists) → Option A → Lists
given part None = nothing
given part (Some x) = part x

-- what is inside a scope of some names
abbrev pub within : List Ref → Lists → Lists
within names part top locals = part top (names ++ locals)

-- ---- attributes

abbrev pub shown : AttrPart → Lists
shown (attr_part.Text text) = nothing
shown (attr_part.Show span e) = alone e

abbrev pub value : AttrValue → Lists
value attr_value.Bare = nothing
value (attr_value.Parts parts) = in_turn (map shown parts)

-- a directive reads its expression, or else the name that stands behind so many bytes of it
abbrev pub directive : ℕ → TagAttr → Option Expr → Lists
directive front a None = alone (name_at a.name (past front a.span))
directive front a (Some e) = alone e

-- `let:` and `slot` read nothing
abbrev pub attribute_of : AttrKind → TagAttr → Lists
attribute_of kind.Plain a = value a.value
attribute_of kind.On a = given alone (expr_of a.value)
attribute_of kind.Bind a = directive 5 a (expr_of a.value)
attribute_of kind.Class a = directive 6 a (expr_of a.value)
attribute_of kind.Let a = nothing
attribute_of kind.Slot a = nothing

abbrev pub attribute : TagAttr → Lists
attribute a = attribute_of a.kind a

abbrev pub attributes : List TagAttr → Lists
attributes list = in_turn (map attribute list)

-- ---- content

-- what stands in a node of content, whose default part has some names
abbrev pub Node : Type 0
Node = List Ref → Lists

-- a node of the default part, where these are open, and one that goes to a slot with a name, where they are not
abbrev pub inside : Lists → Node
inside part names = within names part

abbrev pub apart : Lists → Node
apart part names = part

-- content in whose default part some names are
abbrev pub content : List Ref → List Node → Lists
content names nodes = in_turn (map (λ node. node names) nodes)

-- ---- tags

-- the `let:` names of a tag, each once
abbrev pub let_names : List TagAttr → List Ref
let_names list = firsts (names_of (lets list))

-- the attributes of a tag, and then its content, in whose default part some names are
abbrev pub filled : List TagAttr → List Ref → List Node → Lists
filled list names children = followed (attributes list) (content names children)

-- the `let:` names of a component's tag are open in the default part of its content, and those of a tag with a `slot` attribute in the whole of it
abbrev pub tag : List TagAttr → (own : List Ref) → List Node → Node
tag list own children = if is_slotted list then apart (within (let_names list) (filled list [] children)) else inside (filled list own children)

-- ---- blocks

-- the names of a row, each once
abbrev pub each_names : Named → Option Named → List Ref
each_names item index = firsts (row_names item index)

-- a list, and rows with some names, which are open in the key and in the body
abbrev pub rows : Expr → List Ref → Option Expr → List Node → Lists
rows list names key body = followed (alone list) (within names (followed (given alone key) (content [] body)))

-- ---- each form, with what stands in its parts

abbrev pub markup : Markup-F Node Lists → Node
markup (Markup-F.Text span text) = inside nothing
markup (Markup-F.Show span e) = inside (alone e)
markup (Markup-F.Element span name list children) = tag list [] children
markup (Markup-F.Comp span name list children) = tag list (let_names list) children
markup (Markup-F.Slot span name list children) = tag list [] children
markup (Markup-F.If span arms last) = inside (followed (in_turn arms) (given (content []) last))
markup (Markup-F.Each span list item index key body none) = inside (followed (rows list (each_names item index) key body) (given (content []) none))
markup (Markup-F.Key span e body) = inside (followed (alone e) (content [] body))

abbrev pub branch : Branch-F Node Lists → Lists
branch b = followed (alone b.test) (content [] b.body)

-- ---- whole trees

abbrev pub node : Markup → Node
node = fold-Markup Node Lists markup branch

abbrev pub arm : Branch → Lists
arm = fold-Branch Node Lists markup branch

-- what stands in the markup of a component
abbrev pub expressions : List Markup → Lists
expressions nodes = content [] (map node nodes)

-- ---- programs

-- what names stand for at the top of a file
abbrev pub tops_of : Bundle → FileTree → CheckedComponent → Tops
tops_of bundle (tree.Component c) told = tops bundle.names told.scopes.cells (givens bundle.names bundle.files c.script.stmts)
tops_of bundle (tree.Module m) told = tops bundle.names [] (givens bundle.names bundle.files m.script.stmts)

-- the expressions in the markup of a file, which stands in no scope
abbrev pub written : Bundle → FileTree → CheckedComponent → List Piece
written bundle (tree.Component c) told = expressions c.nodes (tops_of bundle (tree.Component c) told) []
written bundle (tree.Module m) told = []

-- a file: its script, and then these
abbrev pub file_pieces : Bundle → FileTree → CheckedComponent → List Piece
file_pieces bundle t told = Script (tops_of bundle t told) (statements_of t) ∷ written bundle t told

-- files in turn, with what is told of each
abbrev pub pieces : Bundle → List SourceFile → List CheckedComponent → List Piece
pieces bundle (source ∷ sources) (told ∷ all) = file_pieces bundle source.tree told ++ pieces bundle sources all
pieces bundle _ _ = []
