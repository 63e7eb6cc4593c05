-- Tags. The content of a component's tag and of a `<slot>` loses white space at its ends; a tag with a `slot` attribute goes to the slot of
-- that name; and a component's tag knows what its content looks at.
use Rattle.std.specs.Prelude.{ℕ, Bool, true, false, not, List, [], ◌∷◌, ◌++◌, length, unwrap_or, if◌then◌else◌}
use Rattle.sv_ast.specs.declared.markup_tree.TagAttr.{TagAttr}
use Rattle.sv_ast.specs.declared.names.Ref.{Ref}
use Rattle.sv_ast.specs.declared.names.Ref.TheVariants.{Plain}
use Rattle.sv_base.specs.declared.names.Name.{Name}
use Rattle.sv_base.specs.declared.span.Span.{Span}
use Rattle.sv_code.specs.declared.fragments.Frag.{Frag}
use Rattle.sv_code.specs.declared.fragments.Frag.TheVariants as frag
use Rattle.sv_code.specs.declared.fragments.LetName.{LetName}
use Rattle.sv_code.specs.declared.tags.Tag.{Tag}
use Rattle.sv_names.specs.Distinct.{firsts}
use Rattle.sv_deps.specs.Looks.{looked_at, tag_looks}
use Rattle.sv_deps.specs.Reading.{reading}
use Rattle.sv_scopes.specs.Attributes.{is_slotted, lets as declared_lets}
use Rattle.sv_scopes.specs.Parts.{names_of}
use Rattle.sv_scopes.specs.declared.scope.TheConstants.{VIEW}
use Rattle.sv_names.specs.NameMap.{Entries, number_of}
use Rattle.sv_white.specs.declared.pieces.Piece.TheVariants.{Apart, Other}
use Rattle.sv_fragments.specs.declared.tags.Filled.{Filled}
use Rattle.sv_lower.specs.Does.{just, followed, of_one, of_two, within}
use Rattle.sv_fragments.specs.Builds.{Around, Builds, Numbers}
use Rattle.sv_fragments.specs.Attributes.{attrs, lets, slot_name}
use Rattle.sv_fragments.specs.Content.{Node, content}

-- the form of a tag, with its name
pub data Form : Type 0 where
  Element : (name : List ℕ) → Form
  Component : (name : Name) → Form
  Slot : (name : List ℕ) → Form

-- whether the content of a tag loses white space at its ends
abbrev pub strips : Form → Bool
strips (Element name) = false
strips (Component name) = true
strips (Slot name) = true

-- ---- what stands in a tag

-- the `let:` names of a tag, each once
abbrev pub let_refs : List TagAttr → List Ref
let_refs list = firsts (names_of (declared_lets list))

-- whether its `let:` names are those of its default content: that of a component's tag, but where it has a `slot` attribute they are in the
-- whole of it
abbrev pub has_own_lets : Form → List TagAttr → Bool
has_own_lets (Component name) list = not (is_slotted list)
has_own_lets (Element name) list = false
has_own_lets (Slot name) list = false

-- the slot props of the default content
abbrev pub own_lets : Form → List TagAttr → List LetName
own_lets form list = if has_own_lets form list then lets list else []

-- the names that they have there, each once
abbrev pub own_refs : Form → List TagAttr → List Ref
own_refs form list = if has_own_lets form list then let_refs list else []

-- the attributes of a tag, and then its content
unfoldable pub filled : Form → List TagAttr → List Node → Builds Filled
filled form list children = of_two (λ xs made. record { attrs = xs; content = made }) (attrs list) (content (strips form) (own_refs form list) children)

-- ---- component tags

-- the file that the name of a component's tag stands for, or the first one
abbrev pub file_at : Entries → Name → ℕ
file_at children name = unwrap_or (number_of children (Plain name)) 0

abbrev pub tag_of : Around → Span → Name → List LetName → Filled → Tag
tag_of around span name own f =
    record { span = span; file = file_at around.children name; attrs = f.attrs; lets = own; content = f.content; reads = looked_at (length around.cells) own f.content }

-- a component's tag behind those that there are, where the component that it stands in has so many cells
abbrev pub with_tag : ℕ → Tag → Numbers Frag
with_tag count tag tables = (frag.Tag (length tables.tags) (tag_looks count tag.attrs tag.reads), record tables { tags = tables.tags ++ tag ∷ [] })

-- ---- whole tags

-- a tag with what stands in it, of whose default content some slot props are
unfoldable pub closed : Form → Span → List LetName → Filled → Builds Frag
closed (Element name) span own f around locals = just (frag.Element span name f.attrs f.content) around locals
closed (Component name) span own f around locals = with_tag (length around.cells) (tag_of around span name own f)
closed (Slot name) span own f around locals = just (frag.Slot span name f.attrs f.content (reading around.tops around.cells locals (VIEW ∷ []))) around locals

unfoldable pub whole : Form → Span → List TagAttr → List Node → Builds Frag
whole form span list children around locals = followed (filled form list children) (λ f. closed form span (own_lets form list) f around locals) around locals

-- what goes to the slot of the name in a `slot` attribute
abbrev pub named_by : List TagAttr → Frag → Frag
named_by list made = frag.Named (slot_name list) (lets list) made

-- a tag as a piece of content: with a `slot` attribute it is apart, and its `let:` names are in the whole of it
unfoldable pub tag : Form → Span → List TagAttr → List Node → Node
tag form span list children =
    if is_slotted list then Apart (of_one (named_by list) (within (let_refs list) (whole form span list children))) else Other (whole form span list children)
