-- Expressions of markup that aren't pure where they stand: those of attributes and directives, of the heads of blocks, of keys and of
-- text. Names of rows and slot props hide what is known by the same names (Svelte 4 docs, '{#each}' and '<slot key={value}>').
use Rattle.std.specs.Prelude.{Bool, false, List, Option, None, Some, map, option_map, if◌then◌else◌}
use Rattle.std.specs.List.{flat_map}
use Rattle.std.specs.Option.{option_to_list}
use Rattle.sv_ast.specs.declared.files.Component.{Component}
use Rattle.sv_ast.specs.declared.markup_tree.AttrPart.{AttrPart}
use Rattle.sv_ast.specs.declared.markup_tree.AttrPart.TheVariants.{Text, Show}
use Rattle.sv_ast.specs.declared.markup_tree.AttrValue.{AttrValue}
use Rattle.sv_ast.specs.declared.markup_tree.AttrValue.TheVariants as value
use Rattle.sv_ast.specs.declared.markup_tree.Branch.{Branch, Branch-F, fold-Branch}
use Rattle.sv_ast.specs.declared.markup_tree.Markup.{Markup, Markup-F, fold-Markup}
use Rattle.sv_ast.specs.declared.markup_tree.TagAttr.{TagAttr}
use Rattle.sv_ast.specs.declared.names.Named.{Named}
use Rattle.sv_ast.specs.declared.names.Ref.{Ref}
use Rattle.sv_ast.specs.declared.script_tree.Expr.{Expr}
use Rattle.sv_base.specs.Names.{Table}
use Rattle.sv_base.specs.declared.span.Span.{Span}
use Rattle.sv_names.specs.Distinct.{firsts}
use Rattle.sv_purity.specs.declared.scope.Known.{Known}
use Rattle.sv_purity.specs.First.{first}
use Rattle.sv_purity.specs.Pure.{Places, nowhere, both, each, hiding, impurities}
use Rattle.sv_scopes.specs.Attributes.{is_slotted, lets}
use Rattle.sv_scopes.specs.Parts.{names_of}
use Rattle.sv_scopes.specs.Rows.{row_names}

-- what is found in a node, and whether it has a `slot` attribute
pub record Node : Type 0 where
  pub slotted : Bool
  pub places : Places

-- what is found in nodes, one behind the other
abbrev pub nodes : List Node → Places
nodes list = each (map (λ n. n.places) list)

-- what is found in a part that may be absent
abbrev pub optional : Option Places → Places
optional None = nowhere
optional (Some places) = places

-- the first place of an expression that isn't pure, where some names are known
abbrev pub shown : Expr → Places
shown e table known = option_to_list (first (impurities table e known))

-- an expression that may be absent
abbrev pub given : Option Expr → Places
given None = nowhere
given (Some e) = shown e

-- what is found in a scope of some names, which hide what is known
unfoldable pub within : List Ref → Places → Places
within names places table known = places table (hiding names known)

-- ---- attributes

-- what is found in a part of a value
abbrev pub part : AttrPart → Places
part (Text text) = nowhere
part (Show span e) = shown e

-- what is found in a value
abbrev pub in_value : AttrValue → Places
in_value value.Bare = nowhere
in_value (value.Parts parts) = each (map part parts)

-- what is found in attributes and directives
abbrev pub attributes : List TagAttr → Places
attributes attrs = each (map (λ a. in_value a.value) attrs)

-- ---- tags

-- the `let:` names of a tag, each once
abbrev pub let_names : List TagAttr → List Ref
let_names attrs = firsts (names_of (lets attrs))

-- a tag round some content: its `let:` names are of the whole of it where it has a `slot` attribute
unfoldable pub tag : List TagAttr → Places → Places
tag attrs content = if is_slotted attrs then within (let_names attrs) (both (attributes attrs) content) else both (attributes attrs) content

-- a node in the content of a component's tag, in whose default content other names are known than around
abbrev pub node_in : Known → Known → Node → Table → List Span
node_in known inside n table = if n.slotted then n.places table known else n.places table inside

-- the content of a component's tag of some `let:` names, which are of its default content alone
unfoldable pub content : List Ref → List Node → Places
content names list table known = flat_map (λ n. node_in known (hiding names known) n table) list

-- a component: where its tag has a `slot` attribute, the names of its default content are those of the whole
unfoldable pub component : List TagAttr → List Node → Places
component attrs list = if is_slotted attrs then tag attrs (nodes list) else both (attributes attrs) (content (let_names attrs) list)

-- ---- each form, with what is found in its parts

-- a row of an each block: its key and its content
unfoldable pub row : Named → Option Named → Option Expr → Places → Places
row item index key body = within (firsts (row_names item index)) (both (given key) body)

-- a node without a `slot` attribute
abbrev pub plain : Places → Node
plain places = record { slotted = false; places = places }

-- what is found in a node, by its form
abbrev pub markup : Markup-F Node Places → Node
markup (Markup-F.Text span text) = plain nowhere
markup (Markup-F.Show span value) = plain (shown value)
markup (Markup-F.Element span name attrs children) = record { slotted = is_slotted attrs; places = tag attrs (nodes children) }
markup (Markup-F.Comp span name attrs children) = record { slotted = is_slotted attrs; places = component attrs children }
markup (Markup-F.Slot span name attrs children) = record { slotted = is_slotted attrs; places = tag attrs (nodes children) }
markup (Markup-F.If span arms last) = plain (both (each arms) (optional (option_map nodes last)))
markup (Markup-F.Each span list item index key body other) = plain (both (shown list) (both (row item index key (nodes body)) (optional (option_map nodes other))))
markup (Markup-F.Key span value body) = plain (both (shown value) (nodes body))

-- what is found in a branch: its condition and its content
abbrev pub branch_of : Branch-F Node Places → Places
branch_of b = both (shown b.test) (nodes b.body)

-- ---- whole trees

-- what is found in a node
abbrev pub node : Markup → Node
node = fold-Markup Node Places markup branch_of

-- what is found in a branch of an if block
abbrev pub branch_places : Branch → Places
branch_places = fold-Branch Node Places markup branch_of

-- at the first impurity of each expression of a component's markup, where some names are known at its top level
abbrev pub impure_markup : Table → Known → Component → List Span
impure_markup table known c = nodes (map node c.nodes) table known
