-- What attributes name: the slot that a node is put into, and what a `bind:` binds.
use Rattle.std.specs.Prelude.{ℕ, List, [], ◌∷◌, Option, None, Some, if◌then◌else◌}
use Rattle.sv_ast.specs.declared.markup_tree.AttrPart.{AttrPart}
use Rattle.sv_ast.specs.declared.markup_tree.AttrPart.TheVariants.{Text, Show}
use Rattle.sv_ast.specs.declared.markup_tree.AttrValue.{AttrValue}
use Rattle.sv_ast.specs.declared.markup_tree.AttrValue.TheVariants as value
use Rattle.sv_ast.specs.declared.markup_tree.TagAttr.{TagAttr}
use Rattle.sv_ast.specs.declared.names.Ref.{Ref}
use Rattle.sv_ast.specs.declared.names.Ref.TheVariants.{Plain}
use Rattle.sv_ast.specs.declared.script_tree.ExprKind.{ExprKind-F, out-ExprKind}
use Rattle.sv_names.specs.Distinct.{has}
use Rattle.sv_scopes.specs.Attributes.{is_slot}
use Rattle.sv_scopes.specs.Script.{Layer}
use Rattle.sv_sites.specs.Words.{literal}

-- the text of a tag's `slot` attribute, where it has one
abbrev pub slot_of : List TagAttr → Option (List ℕ)
slot_of [] = None
slot_of (a ∷ attrs) = if is_slot a.kind then Some (literal a.value) else slot_of attrs

-- ---- what a `bind:` binds

abbrev pub read_layer : Layer → Option Ref
read_layer (ExprKind-F.Read name) = Some name
read_layer _ = None

abbrev pub part_name : AttrPart → Option Ref
part_name (Text text) = None
part_name (Show span shown) = read_layer (out-ExprKind shown.kind)

abbrev pub first_name : List AttrPart → Option Ref
first_name [] = None
first_name (part ∷ more) = part_name part

-- the name that a `bind:` binds: the one that it is given, or else its own
abbrev pub bound_name : TagAttr → AttrValue → Option Ref
bound_name a value.Bare = Some (Plain a.name)
bound_name a (value.Parts parts) = first_name parts

-- a name, unless it is one of some hidden ones
abbrev pub unless_hidden : List Ref → Option Ref → Option Ref
unless_hidden hidden None = None
unless_hidden hidden (Some name) = if has name hidden then None else Some name

-- the name of the top level that a `bind:` binds, where some names are hidden
abbrev pub bound_target : List Ref → TagAttr → Option Ref
bound_target hidden a = unless_hidden hidden (bound_name a a.value)
