-- The sites of markup, by the names that are hidden there: those of rows and slot props (Svelte 4 docs, '{#each}' and
-- '<slot key={value}>').
use Rattle.std.specs.Prelude.{ℕ, Bool, false, not, ◌||◌, List, [], ◌∷◌, ◌++◌, Option, None, Some, map, option_map, is_some, if◌then◌else◌}
use Rattle.std.specs.List.{list_any, flat_map}
use Rattle.std.specs.Str.{bytes_eq}
use Rattle.sv_ast.specs.declared.files.Component.{Component}
use Rattle.sv_ast.specs.declared.markup_tree.AttrKind.{AttrKind}
use Rattle.sv_ast.specs.declared.markup_tree.AttrKind.TheVariants as kind
use Rattle.sv_ast.specs.declared.markup_tree.Branch.{Branch, Branch-F, fold-Branch}
use Rattle.sv_ast.specs.declared.markup_tree.Markup.{Markup, Markup-F, fold-Markup}
use Rattle.sv_ast.specs.declared.markup_tree.TagAttr.{TagAttr}
use Rattle.sv_ast.specs.declared.names.Ref.{Ref}
use Rattle.sv_base.specs.declared.names.Name.{Name}
use Rattle.sv_base.specs.declared.span.Span.{Span}
use Rattle.sv_base.specs.Names.{with_text, Table}
use Rattle.sv_names.specs.Distinct.{firsts}
use Rattle.sv_scopes.specs.Attributes.{is_slotted, lets}
use Rattle.sv_scopes.specs.Parts.{names_of}
use Rattle.sv_scopes.specs.Rows.{row_names}
use Rattle.sv_sites.specs.declared.site.Site.{Site}
use Rattle.sv_sites.specs.declared.site.Site.TheVariants as site
use Rattle.sv_sites.specs.Attributes.{slot_of, bound_target}
use Rattle.sv_sites.specs.Words.{is_blank, input_type, may_bind}

-- the sites of a part of markup, which was read with a table of names, by the names that are hidden there
abbrev pub InScope : Type 0
InScope = Table → List Ref → List Site

-- what the tag of a component is told of a node in its content: the slot that it is put into, whether it is white space alone, and where
-- it stands
pub record Child : Type 0 where
  pub slot : Option (List ℕ)
  pub blank : Bool
  pub place : Span

pub record Node : Type 0 where
  pub child : Child
  pub sites : InScope

abbrev pub nowhere : InScope
nowhere table hidden = []

abbrev pub here : Site → InScope
here s table hidden = s ∷ []

abbrev pub both : InScope → InScope → InScope
both first second table hidden = first table hidden ++ second table hidden

abbrev pub each : List InScope → InScope
each [] = nowhere
each (sites ∷ more) = both sites (each more)

abbrev pub optional : Option InScope → InScope
optional None = nowhere
optional (Some sites) = sites

abbrev pub nodes : List Node → InScope
nodes list = each (map (λ n. n.sites) list)

-- sites in a scope of some names, which hide the same names around
unfoldable pub within : List Ref → InScope → InScope
within names sites table hidden = sites table (names ++ hidden)

-- ---- the attributes of tags

abbrev pub component_site : Name → List Ref → TagAttr → AttrKind → List Site
component_site of hidden a kind.Plain = site.Prop of a.name a.span ∷ []
component_site of hidden a kind.Bind = site.PropBind of a.name (bound_target hidden a) a.span ∷ []
component_site of hidden a _ = []

abbrev pub component_attrs : Name → List TagAttr → InScope
component_attrs of attrs table hidden = flat_map (λ a. component_site of hidden a a.kind) attrs

abbrev pub element_site : Table → List ℕ → List ℕ → List Ref → TagAttr → AttrKind → List Site
element_site table name type hidden a kind.Bind = site.Bind (may_bind table name type a.name) (bound_target hidden a) a.span ∷ []
element_site table name type hidden a _ = []

abbrev pub element_attrs : List ℕ → List TagAttr → InScope
element_attrs name attrs table hidden = flat_map (λ a. element_site table name (input_type table attrs) hidden a a.kind) attrs

-- ---- the content of a component's tag

-- the slot that a node gives content to: that of its `slot` attribute, or else the default one, where the node is the first that is
-- neither white space alone nor a part of its own
abbrev pub given_slot : Bool → Child → Option (List ℕ)
given_slot begun c = if is_some c.slot then c.slot else (if c.blank || begun then None else Some [])

-- whether the default content has begun behind a node
abbrev pub begins : Bool → Child → Bool
begins begun c = begun || not (is_some c.slot || c.blank)

abbrev pub is_given : List (List ℕ) → List ℕ → Bool
is_given given slot = list_any (bytes_eq slot) given

abbrev pub content_site : Name → List (List ℕ) → Span → Option (List ℕ) → List Site
content_site of given at None = []
content_site of given at (Some slot) = site.Content of slot (is_given given slot) at ∷ []

abbrev pub with_slot : List (List ℕ) → Option (List ℕ) → List (List ℕ)
with_slot given None = given
with_slot given (Some slot) = with_text slot given

-- the content of a tag, where so many slots were given content before
abbrev pub contents : Name → Bool → List (List ℕ) → List Child → List Site
contents of begun given [] = []
contents of begun given (c ∷ children) =
    content_site of given c.place (given_slot begun c) ++ contents of (begins begun c) (with_slot given (given_slot begun c)) children

abbrev pub contents_of : Name → List Child → InScope
contents_of of children table hidden = contents of false [] children

-- a node in the content of a tag of some `let:` names, which are of its default content alone
unfoldable pub content_node : List Ref → Node → InScope
content_node names n = if is_some n.child.slot then n.sites else within names n.sites

abbrev pub content : List Ref → List Node → InScope
content names list = each (map (content_node names) list)

-- ---- tags

-- a tag with a `slot` attribute has its `let:` names for the whole of it
unfoldable pub tag : List TagAttr → InScope → InScope
tag attrs sites = if is_slotted attrs then within (firsts (names_of (lets attrs))) sites else sites

-- the names of the default content of a component's tag
abbrev pub component_names : List TagAttr → List Ref
component_names attrs = if is_slotted attrs then [] else firsts (names_of (lets attrs))

-- what a component's tag has of its own, with these nodes in its content
abbrev pub component_tag : Name → List TagAttr → List Child → InScope
component_tag of attrs children = both (component_attrs of attrs) (contents_of of children)

unfoldable pub component : Name → List TagAttr → List Node → InScope
component of attrs list = tag attrs (both (component_tag of attrs (map (λ n. n.child) list)) (content (component_names attrs) list))

abbrev pub element : List ℕ → List TagAttr → InScope → InScope
element name attrs sites = tag attrs (both (element_attrs name attrs) sites)

abbrev pub slot_tag : List ℕ → List TagAttr → InScope → InScope
slot_tag name attrs sites = both (here (site.Slot name)) (tag attrs sites)

-- ---- each form, with what is found in its parts

abbrev pub plain : Span → InScope → Node
plain at sites = record { child = record { slot = None; blank = false; place = at }; sites = sites }

abbrev pub tagged : Span → List TagAttr → InScope → Node
tagged at attrs sites = record { child = record { slot = slot_of attrs; blank = false; place = at }; sites = sites }

abbrev pub markup : Markup-F Node InScope → Node
markup (Markup-F.Text span text) = record { child = record { slot = None; blank = is_blank text; place = span }; sites = nowhere }
markup (Markup-F.Show span value) = plain span nowhere
markup (Markup-F.Element span name attrs children) = tagged span attrs (element name attrs (nodes children))
markup (Markup-F.Comp span name attrs children) = tagged span attrs (component name attrs children)
markup (Markup-F.Slot span name attrs children) = tagged span attrs (slot_tag name attrs (nodes children))
markup (Markup-F.If span arms last) = plain span (both (each arms) (optional (option_map nodes last)))
markup (Markup-F.Each span list item index key body other) = plain span (both (within (firsts (row_names item index)) (nodes body)) (optional (option_map nodes other)))
markup (Markup-F.Key span value body) = plain span (nodes body)

abbrev pub branch_of : Branch-F Node InScope → InScope
branch_of b = nodes b.body

-- ---- whole trees

-- what is found in a node
abbrev pub node : Markup → Node
node = fold-Markup Node InScope markup branch_of

-- what is found in a branch of an if block
abbrev pub branch_sites : Branch → InScope
branch_sites = fold-Branch Node InScope markup branch_of

-- the sites of a component
abbrev pub component_sites : Table → Component → List Site
component_sites table c = nodes (map node c.nodes) table []
