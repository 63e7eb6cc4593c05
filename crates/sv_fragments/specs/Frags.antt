-- What is made of markup: fragments of the same shape. White space is taken at the ends of the content of a file and of a branch of a block.
use Rattle.std.specs.Prelude.{true, List, Option, map, option_map}
use Rattle.sv_ast.specs.declared.markup_tree.Branch.{Branch, Branch-F, fold-Branch}
use Rattle.sv_ast.specs.declared.markup_tree.Markup.{Markup, Markup-F, fold-Markup}
use Rattle.sv_ast.specs.declared.names.Named.{Named}
use Rattle.sv_ast.specs.declared.names.Ref.{Ref}
use Rattle.sv_ast.specs.declared.script_tree.Expr.{Expr}
use Rattle.sv_code.specs.declared.fragments.Frag.{Frag}
use Rattle.sv_code.specs.declared.fragments.Frag.TheVariants as frag
use Rattle.sv_code.specs.declared.fragments.FragArm.{FragArm}
use Rattle.sv_names.specs.Distinct.{firsts}
use Rattle.sv_scopes.specs.Rows.{row_names}
use Rattle.sv_white.specs.declared.pieces.Piece.TheVariants.{Words, Other}
use Rattle.sv_fragments.specs.declared.rows.Head.{Head}
use Rattle.sv_fragments.specs.declared.rows.Row.{Row}
use Rattle.sv_lower.specs.Does.{of_one, of_two, each, given, within}
use Rattle.sv_fragments.specs.Builds.{Builds}
use Rattle.sv_fragments.specs.Expressions.{part, part_of, list_names}
use Rattle.sv_fragments.specs.Content.{Node, nodes}
use Rattle.sv_fragments.specs.Tags.{Element, Component, Slot, tag}

-- ---- blocks

abbrev pub if_block : List (Builds FragArm) → Option (List Node) → Builds Frag
if_block arms last = of_two frag.If (each arms) (given (option_map (nodes true) last))

-- the names of a row, each once
abbrev pub row_refs : Named → Option Named → List Ref
row_refs item index = firsts (row_names item index)

-- the head of an each block, whose rows have these names: its list and its key
unfoldable pub head : List Ref → Expr → Option Expr → Builds Head
head names list key = of_two (λ l k. record { list = l; key = k }) (part_of (list_names names list key) list) (within names (given (option_map part key)))

-- rows with their list
abbrev pub row_of : Named → Option Named → Head → List Frag → Row
row_of item index h body = record { list = h.list; item = item.name; index = option_map (λ i. i.name) index; key = h.key; body = body }

unfoldable pub row : Expr → Named → Option Named → Option Expr → List Node → Builds Row
row list item index key body = of_two (row_of item index) (head (row_refs item index) list key) (within (row_refs item index) (nodes true body))

abbrev pub with_none : Row → Option (List Frag) → Frag
with_none r none = frag.Each r.list r.item r.index r.key r.body none

abbrev pub each_block : Expr → Named → Option Named → Option Expr → List Node → Option (List Node) → Builds Frag
each_block list item index key body none = of_two with_none (row list item index key body) (given (option_map (nodes true) none))

abbrev pub key_block : Expr → List Node → Builds Frag
key_block e body = of_two frag.Key (part e) (nodes true body)

-- ---- each form, with what is made of its parts

abbrev pub markup : Markup-F Node (Builds FragArm) → Node
markup (Markup-F.Text span text) = Words text
markup (Markup-F.Show span e) = Other (of_one frag.Show (part e))
markup (Markup-F.Element span name list children) = tag (Element name) span list children
markup (Markup-F.Comp span name list children) = tag (Component name) span list children
markup (Markup-F.Slot span name list children) = tag (Slot name) span list children
markup (Markup-F.If span arms last) = Other (if_block arms last)
markup (Markup-F.Each span list item index key body none) = Other (each_block list item index key body none)
markup (Markup-F.Key span e body) = Other (key_block e body)

abbrev pub branch : Branch-F Node (Builds FragArm) → Builds FragArm
branch b = of_two (λ test body. record { test = test; body = body }) (part b.test) (nodes true b.body)

-- ---- whole trees

-- what is made of a node
abbrev pub node : Markup → Node
node = fold-Markup Node (Builds FragArm) markup branch

-- what is made of a branch of an if block
abbrev pub arm : Branch → Builds FragArm
arm = fold-Branch Node (Builds FragArm) markup branch

-- what is made of the markup of a component
abbrev pub fragments : List Markup → Builds (List Frag)
fragments list = nodes true (map node list)
