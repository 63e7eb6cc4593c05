-- What is found in markup. A row of an each block is a scope with its key and its content, and so is slot content with its `let:`
-- names (Svelte 4 docs, '{#each}' and '<slot key={value}>').
use Rattle.std.specs.Prelude.{Bool, false, List, [], ◌∷◌, Option, map, option_map, if◌then◌else◌}
use Rattle.std.specs.List.{flat_map}
use Rattle.std.specs.Option.{option_to_list}
use Rattle.sv_ast.specs.declared.markup_tree.Branch.{Branch, Branch-F, fold-Branch}
use Rattle.sv_ast.specs.declared.markup_tree.Markup.{Markup, Markup-F, fold-Markup}
use Rattle.sv_ast.specs.declared.markup_tree.TagAttr.{TagAttr}
use Rattle.sv_ast.specs.declared.names.Named.{Named}
use Rattle.sv_ast.specs.declared.names.Ref.{Ref}
use Rattle.sv_ast.specs.declared.names.Ref.TheVariants.{Plain}
use Rattle.sv_ast.specs.declared.script_tree.Expr.{Expr}
use Rattle.sv_base.specs.declared.names.Name.{Name}
use Rattle.sv_base.specs.declared.span.Span.{Span}
use Rattle.sv_scopes.specs.declared.scope.Declared.{Declared}
use Rattle.sv_scopes.specs.declared.scope.Form.TheVariants.{Read}
use Rattle.sv_scopes.specs.declared.scope.Role.TheVariants.{Tag}
use Rattle.sv_scopes.specs.declared.scope.TheConstants.{VIEW}
use Rattle.sv_scopes.specs.declared.scope.Use.{Use}
use Rattle.sv_scopes.specs.Attributes.{past, reading, attributes, is_slotted, lets}
use Rattle.sv_scopes.specs.Parts.{Parts, nothing, followed, in_turn, optional, using_name, declaring, names_of, handed, scope}
use Rattle.sv_scopes.specs.Script.{use_of, alone, given, locals, expr_parts}

-- what is found in a node, and whether it has a `slot` attribute
pub record Node : Type 0 where
  pub slotted : Bool
  pub parts : Parts

abbrev pub plain : Parts → Node
plain p = record { slotted = false; parts = p }

abbrev pub nodes : List Node → Parts
nodes list = in_turn (map (λ n. n.parts) list)

abbrev pub given_nodes : Option (List Node) → Parts
given_nodes list = optional (option_map nodes list)

-- ---- tags

-- a tag round some content: its `let:` names are of the whole of it where it has a `slot` attribute
unfoldable pub tag : List TagAttr → Parts → Parts
tag attrs content = if is_slotted attrs then scope (followed (declaring (lets attrs)) (followed (attributes attrs) content)) else followed (attributes attrs) content

-- what of a node is used in the default content of the component that it stands in: all, where it is no part of its own
abbrev pub default_uses : Node → List Use
default_uses n = if n.slotted then [] else n.parts.uses

-- a node in the content of a component, as it is seen from around the default content
abbrev pub around_default : List Ref → Node → Parts
around_default names n = if n.slotted then n.parts else record { declares = []; uses = handed false names n.parts.uses; scopes = n.parts.scopes }

-- the content of a component, of whose default content some names are
unfoldable pub content : List Declared → List Node → Parts
content names list = followed (in_turn (map (around_default (names_of names)) list)) (record { declares = []; uses = []; scopes = record { declares = names; uses = flat_map default_uses list } ∷ [] })

-- the use of a component's name, one byte behind the `<`
abbrev pub tag_use : Name → Span → Use
tag_use name span = use_of (Plain name) Read (past 1 span) Tag

-- a component: where its tag has a `slot` attribute, its `let:` names are none of its default content
abbrev pub component : List TagAttr → List Node → Parts
component attrs list = tag attrs (content (if is_slotted attrs then [] else lets attrs) list)

-- ---- each form, with what is found in its parts

-- a row of an each block
unfoldable pub row : Named → Option Named → Option Expr → Parts → Parts
row item index key body = scope (followed (followed (locals (item ∷ option_to_list index)) (given (option_map expr_parts key))) body)

abbrev pub markup : Markup-F Node Parts → Node
markup (Markup-F.Text span text) = plain nothing
markup (Markup-F.Show span value) = plain (alone (expr_parts value))
markup (Markup-F.Element span name attrs children) = record { slotted = is_slotted attrs; parts = tag attrs (nodes children) }
markup (Markup-F.Comp span name attrs children) = record { slotted = is_slotted attrs; parts = followed (using_name (tag_use name span)) (component attrs children) }
markup (Markup-F.Slot span name attrs children) = record { slotted = is_slotted attrs; parts = followed (reading VIEW span) (tag attrs (nodes children)) }
markup (Markup-F.If span arms last) = plain (followed (in_turn arms) (given_nodes last))
markup (Markup-F.Each span list item index key body other) = plain (followed (followed (alone (expr_parts list)) (row item index key (nodes body))) (given_nodes other))
markup (Markup-F.Key span value body) = plain (followed (alone (expr_parts value)) (nodes body))

abbrev pub branch_of : Branch-F Node Parts → Parts
branch_of b = followed (alone (expr_parts b.test)) (nodes b.body)

-- ---- whole trees

-- what is found in a node
abbrev pub node : Markup → Node
node = fold-Markup Node Parts markup branch_of

-- what is found in a branch of an if block
abbrev pub branch_parts : Branch → Parts
branch_parts = fold-Branch Node Parts markup branch_of
