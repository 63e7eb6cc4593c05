-- Sites in the scopes of tags, rows and the content of components.
use Rattle.std.proofs.Common.{◌≡◌, true, false, cond, List, [], ◌∷◌, ◌++◌, map, sym, ap, ◌∙◌, append_assoc}
use Rattle.std.specs.Prelude.{ℕ, is_some}
use Rattle.sv_ast.specs.declared.markup_tree.TagAttr.{TagAttr}
use Rattle.sv_ast.specs.declared.names.Ref.{Ref}
use Rattle.sv_base.specs.Names.{Table}
use Rattle.sv_base.specs.declared.names.Name.{Name}
use Rattle.sv_names.specs.Distinct.{firsts}
use Rattle.sv_scopes.specs.Attributes.{is_slotted, lets}
use Rattle.sv_scopes.specs.Parts.{names_of}
use Rattle.sv_sites.specs.declared.site.Site.{Site}
use Rattle.sv_sites.specs.declared.site.Site.TheVariants as site
use Rattle.sv_sites.specs.Sites.{InScope, Node, here, both, within, tag, slot_tag, component, component_tag, content, content_node}

-- ---- sites behind others

pub finds_both : (s0 s1 s2 : List Site) (first second : InScope) (table : Table) (hidden : List Ref)
    → s1 ≡ s0 ++ first table hidden → s2 ≡ s1 ++ second table hidden → s2 ≡ s0 ++ both first second table hidden
finds_both s0 s1 s2 first second table hidden e f = f ∙ ap (λ z. z ++ second table hidden) e ∙ append_assoc s0 (first table hidden) (second table hidden)

pub finds_whole : (s0 s1 : List Site) (whole inner : InScope) (table : Table) (hidden : List Ref)
    → whole ≡ inner → s1 ≡ s0 ++ inner table hidden → s1 ≡ s0 ++ whole table hidden
finds_whole s0 s1 whole inner table hidden e f = f ∙ ap (λ (z : InScope). s0 ++ z table hidden) (sym e)

-- a scope of some names, which stand before those that are hidden around it
pub finds_within : (s0 s1 : List Site) (whole inner : InScope) (table : Table) (names hidden inside : List Ref)
    → whole ≡ within names inner → inside ≡ names ++ hidden → s1 ≡ s0 ++ inner table inside → s1 ≡ s0 ++ whole table hidden
unfolding within
finds_within s0 s1 whole inner table names hidden inside e h f = f ∙ ap (λ (z : List Ref). s0 ++ inner table z) h ∙ ap (λ (z : InScope). s0 ++ z table hidden) (sym e)

pub finds_plain : (s0 s1 s2 : List Site) (whole first second : InScope) (table : Table) (hidden : List Ref)
    → whole ≡ both first second → s1 ≡ s0 ++ first table hidden → s2 ≡ s1 ++ second table hidden → s2 ≡ s0 ++ whole table hidden
finds_plain s0 s1 s2 whole first second table hidden e f g = finds_whole s0 s2 whole (both first second) table hidden e (finds_both s0 s1 s2 first second table hidden f g)

pub finds_scoped : (s0 s1 s2 : List Site) (whole first second : InScope) (table : Table) (names hidden inside : List Ref)
    → whole ≡ within names (both first second) → inside ≡ names ++ hidden → s1 ≡ s0 ++ first table inside → s2 ≡ s1 ++ second table inside → s2 ≡ s0 ++ whole table hidden
finds_scoped s0 s1 s2 whole first second table names hidden inside e h f g =
    finds_within s0 s2 whole (both first second) table names hidden inside e h (finds_both s0 s1 s2 first second table inside f g)

-- names that are hidden in a scope, by what its own names are
pub inside_is : (own names hidden inside : List Ref) → own ≡ names → inside ≡ own ++ hidden → inside ≡ names ++ hidden
inside_is own names hidden inside e h = h ∙ ap (λ z. z ++ hidden) e

-- ---- tags

abbrev pub own_names : List TagAttr → List Ref
own_names attrs = firsts (names_of (lets attrs))

pub tag_plain : (attrs : List TagAttr) (sites : InScope) → is_slotted attrs ≡ false → tag attrs sites ≡ sites
unfolding tag
tag_plain attrs sites e = ap (λ b. cond b (within (own_names attrs) sites) sites) e

pub tag_slotted : (attrs : List TagAttr) (sites : InScope) → is_slotted attrs ≡ true → tag attrs sites ≡ within (own_names attrs) sites
unfolding tag
tag_slotted attrs sites e = ap (λ b. cond b (within (own_names attrs) sites) sites) e

-- ---- slots

pub finds_slot : (s0 s1 s2 : List Site) (name text : List ℕ) (attrs : List TagAttr) (inner : InScope) (table : Table) (hidden : List Ref)
    → text ≡ name → is_slotted attrs ≡ false → s1 ≡ s0 ++ site.Slot text ∷ [] → s2 ≡ s1 ++ inner table hidden → s2 ≡ s0 ++ slot_tag name attrs inner table hidden
finds_slot s0 s1 s2 name text attrs inner table hidden t e f g =
    finds_both s0 s1 s2 (here (site.Slot name)) (tag attrs inner) table hidden (f ∙ ap (λ (z : List ℕ). s0 ++ site.Slot z ∷ []) t)
    (finds_whole s1 s2 (tag attrs inner) inner table hidden (tag_plain attrs inner e) g)

pub finds_slotted_slot : (s0 s1 s2 : List Site) (name text : List ℕ) (attrs : List TagAttr) (inner : InScope) (table : Table) (hidden inside : List Ref)
    → text ≡ name → is_slotted attrs ≡ true → inside ≡ own_names attrs ++ hidden → s1 ≡ s0 ++ site.Slot text ∷ [] → s2 ≡ s1 ++ inner table inside
    → s2 ≡ s0 ++ slot_tag name attrs inner table hidden
finds_slotted_slot s0 s1 s2 name text attrs inner table hidden inside t e h f g =
    finds_both s0 s1 s2 (here (site.Slot name)) (tag attrs inner) table hidden (f ∙ ap (λ (z : List ℕ). s0 ++ site.Slot z ∷ []) t)
    (finds_within s1 s2 (tag attrs inner) inner table (own_names attrs) hidden inside (tag_slotted attrs inner e) h g)

-- ---- components

-- what a component's tag has of its own, and then its content, of whose default part some names are
abbrev pub inner : Name → List TagAttr → List Ref → List Node → InScope
inner of attrs names list = both (component_tag of attrs (map (λ n. n.child) list)) (content names list)

pub component_plain : (of : Name) (attrs : List TagAttr) (list : List Node) (own : List Ref) → own ≡ own_names attrs → is_slotted attrs ≡ false → component of attrs list ≡ inner of attrs own list
unfolding component
component_plain of attrs list own o e =
    ap (λ b. tag attrs (inner of attrs (cond b [] (own_names attrs)) list)) e ∙ tag_plain attrs (inner of attrs (own_names attrs) list) e
    ∙ ap (λ (z : List Ref). inner of attrs z list) (sym o)

pub component_slotted : (of : Name) (attrs : List TagAttr) (list : List Node) (none : List Ref) → none ≡ [] → is_slotted attrs ≡ true
    → component of attrs list ≡ within (own_names attrs) (inner of attrs none list)
unfolding component
component_slotted of attrs list none o e =
    ap (λ b. tag attrs (inner of attrs (cond b [] (own_names attrs)) list)) e ∙ tag_slotted attrs (inner of attrs [] list) e
    ∙ ap (λ (z : List Ref). within (own_names attrs) (inner of attrs z list)) (sym o)

-- ---- content

pub node_plain : (names : List Ref) (n : Node) → is_some n.child.slot ≡ false → content_node names n ≡ within names n.sites
unfolding content_node
node_plain names n e = ap (λ b. cond b n.sites (within names n.sites)) e

pub node_slotted : (names : List Ref) (n : Node) → is_some n.child.slot ≡ true → content_node names n ≡ n.sites
unfolding content_node
node_slotted names n e = ap (λ b. cond b n.sites (within names n.sites)) e
