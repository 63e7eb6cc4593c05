-- Texts of names and of attributes.
use Rattle.std.specs.Prelude.{ℕ, Bool, true, false, ◌==◌, ◌||◌, ◌&&◌, not, List, [], ◌∷◌, codes, if◌then◌else◌}
use Rattle.std.specs.List.{list_all}
use Rattle.std.specs.Str.{bytes_eq}
use Rattle.sv_ast.specs.declared.markup_tree.AttrKind.{AttrKind}
use Rattle.sv_ast.specs.declared.markup_tree.AttrKind.TheVariants.{Plain}
use Rattle.sv_ast.specs.declared.markup_tree.AttrPart.{AttrPart}
use Rattle.sv_ast.specs.declared.markup_tree.AttrPart.TheVariants.{Text, Show}
use Rattle.sv_ast.specs.declared.markup_tree.AttrValue.{AttrValue}
use Rattle.sv_ast.specs.declared.markup_tree.AttrValue.TheVariants as value
use Rattle.sv_ast.specs.declared.markup_tree.TagAttr.{TagAttr}
use Rattle.sv_base.specs.Names.{Table, is_text}
use Rattle.sv_base.specs.declared.names.Name.{Name}

-- ---- literal text

abbrev pub part_text : AttrPart → List ℕ
part_text (Text text) = text
part_text (Show span shown) = []

abbrev pub begins_with_text : List AttrPart → List ℕ
begins_with_text [] = []
begins_with_text (part ∷ more) = part_text part

-- the literal text of an attribute's value, which is its only part: empty where it has none
abbrev pub literal : AttrValue → List ℕ
literal value.Bare = []
literal (value.Parts parts) = begins_with_text parts

-- white space of markup: SPACE, TAB, LF, CR and FF (HTML, 'ASCII whitespace')
abbrev pub is_white : ℕ → Bool
is_white b = b == 32 || b == 9 || b == 10 || b == 13 || b == 12

abbrev pub is_blank : List ℕ → Bool
is_blank text = list_all is_white text

-- ---- the kinds of attributes

abbrev pub is_plain : AttrKind → Bool
is_plain Plain = true
is_plain _ = false

-- ---- inputs

-- the literal `type` of a tag: empty where it has none
abbrev pub input_type : Table → List TagAttr → List ℕ
input_type table [] = []
input_type table (a ∷ attrs) = if is_plain a.kind && is_text table (codes "type") a.name then literal a.value else input_type table attrs

abbrev pub is_checkbox : List ℕ → Bool
is_checkbox kind = bytes_eq kind (codes "checkbox")

-- an input that is checked and has no text (Svelte 4 docs, 'bind:group' and 'bind:checked'; HTML, 'The input element')
abbrev pub is_checked_kind : List ℕ → Bool
is_checked_kind kind = is_checkbox kind || bytes_eq kind (codes "radio")

-- whether a `bind:` of a name may stand on an element of some name and literal `type`: `bind:value` on an input that has a text, and
-- `bind:checked` on a checkbox (Svelte 4 docs, 'bind:property')
abbrev pub may_bind : Table → List ℕ → List ℕ → Name → Bool
may_bind table element kind name =
    bytes_eq element (codes "input") && ((is_text table (codes "value") name && not (is_checked_kind kind)) || (is_text table (codes "checked") name && is_checkbox kind))
