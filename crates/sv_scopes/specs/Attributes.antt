-- What is found in the attributes and directives of a tag (Svelte 4 docs, 'Element directives' and 'Component directives').
use Rattle.std.specs.Prelude.{ℕ, ◌+◌, min, Bool, true, false, List, [], ◌∷◌, map, if◌then◌else◌}
use Rattle.std.specs.List.{list_any, flat_map}
use Rattle.sv_ast.specs.declared.markup_tree.AttrKind.{AttrKind}
use Rattle.sv_ast.specs.declared.markup_tree.AttrKind.TheVariants.{Class, Bind, Let, Slot}
use Rattle.sv_ast.specs.declared.markup_tree.AttrPart.{AttrPart}
use Rattle.sv_ast.specs.declared.markup_tree.AttrPart.TheVariants.{Text, Show}
use Rattle.sv_ast.specs.declared.markup_tree.AttrValue.{AttrValue}
use Rattle.sv_ast.specs.declared.markup_tree.AttrValue.TheVariants as value
use Rattle.sv_ast.specs.declared.markup_tree.TagAttr.{TagAttr}
use Rattle.sv_ast.specs.declared.names.Ref.{Ref}
use Rattle.sv_ast.specs.declared.names.Ref.TheVariants.{Plain}
use Rattle.sv_ast.specs.declared.script_tree.ExprKind.{ExprKind-F, out-ExprKind}
use Rattle.sv_base.specs.declared.names.Name.{Name}
use Rattle.sv_base.specs.declared.span.Span.{Span}
use Rattle.sv_scopes.specs.declared.scope.Binding.TheVariants.{Local}
use Rattle.sv_scopes.specs.declared.scope.Declared.{Declared}
use Rattle.sv_scopes.specs.declared.scope.Form.TheVariants.{Read}
use Rattle.sv_scopes.specs.declared.scope.Role.TheVariants.{Alone}
use Rattle.sv_scopes.specs.Parts.{Parts, nothing, in_turn, using_name}
use Rattle.sv_scopes.specs.Script.{use_of, alone, expr_parts, Layer}

-- a span without some bytes at its front; places end below 2^32
abbrev pub past : ℕ → Span → Span
past count span = record span { from = min (span.from + count) 4294967295 }

abbrev pub reading : Ref → Span → Parts
reading name span = using_name (use_of name Read span Alone)

-- a directive without a value: `class:n` and `bind:n` read the name behind their colon
abbrev pub bare : AttrKind → Name → Span → Parts
bare Class name span = reading (Plain name) (past 6 span)
bare Bind name span = reading (Plain name) (past 5 span)
bare _ name span = nothing

abbrev pub part : AttrPart → Parts
part (Text text) = nothing
part (Show span shown) = alone (expr_parts shown)

abbrev pub valued : TagAttr → AttrValue → Parts
valued a value.Bare = bare a.kind a.name a.span
valued a (value.Parts parts) = in_turn (map part parts)

abbrev pub is_let : AttrKind → Bool
is_let Let = true
is_let _ = false

-- what is found in an attribute. A `let:` uses nothing
abbrev pub attribute : TagAttr → Parts
attribute a = if is_let a.kind then nothing else valued a a.value

abbrev pub attributes : List TagAttr → Parts
attributes attrs = in_turn (map attribute attrs)

-- ---- slots

abbrev pub is_slot : AttrKind → Bool
is_slot Slot = true
is_slot _ = false

-- whether the tag has a `slot` attribute, so that the node is a part of its own of a component's content
abbrev pub is_slotted : List TagAttr → Bool
is_slotted attrs = list_any (λ a. is_slot a.kind) attrs

abbrev pub local : Name → Span → Declared
local name span = record { name = name; span = span; by = Local }

abbrev pub given_layer : Layer → Span → List Declared
given_layer (ExprKind-F.Read (Plain name)) span = local name span ∷ []
given_layer _ span = []

abbrev pub given_part : AttrPart → List Declared
given_part (Text text) = []
given_part (Show span shown) = given_layer (out-ExprKind shown.kind) shown.span

abbrev pub let_value : TagAttr → AttrValue → List Declared
let_value a value.Bare = local a.name (past 4 a.span) ∷ []
let_value a (value.Parts parts) = flat_map given_part parts

-- what a `let:` declares: the name behind its colon, or the one that is its value
abbrev pub let_names : TagAttr → List Declared
let_names a = if is_let a.kind then let_value a a.value else []

-- the `let:` names of a tag
abbrev pub lets : List TagAttr → List Declared
lets attrs = flat_map let_names attrs
